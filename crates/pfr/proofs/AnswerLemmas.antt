-- What is known of the answer to whatever was asked.
use Rattle.std.proofs.Common.{◌≡◌, Bool, Option, Some}
use Rattle.pfr.specs.Checks.{CheckAnswers}
use Rattle.pfr.specs.Judging.{Finding, Keeps, Breaks}
use Rattle.pfr.specs.Makes.{MakingAnswers}
use Rattle.pfr.specs.Making.{cert_names, cert_rows, cert_stores, make_names, make_rows, make_stores, provision_names, provision_rows, provision_stores}
use Rattle.pfr.specs.Request.{RunRequest, CheckRequest, MakeRequest, ProvisionRequest, CertRequest}
use Rattle.pfr.specs.Runs.{Outside, RunAnswers}
use Rattle.pfr.specs.declared.finished.Bench.{Bench}
use Rattle.pfr.specs.declared.words.Command.{Command}
use Rattle.pfr.specs.declared.words.Command.TheVariants.{Run, Check, Make, Provision, Cert}
use Rattle.pfr.specs.declared.status.Status.{Status}

-- the answer to each command, if it was asked
pub record Answers (told : Bool) (before after : Outside) (asks : Option Command) (option : Option Bench) (status : Status) : Type 0 where
  pub run : (request : RunRequest) → asks ≡ Some (Run request) → RunAnswers told before after request option status
  pub check : (request : CheckRequest) → asks ≡ Some (Check request) → CheckAnswers told before after request option status
  pub make : (request : MakeRequest) → asks ≡ Some (Make request) → MakingAnswers told before after (make_rows request) (make_names request) (make_stores request) option status
  pub provision : (request : ProvisionRequest) → asks ≡ Some (Provision request) → MakingAnswers told before after (provision_rows request) (provision_names request) (provision_stores request) option status
  pub cert : (request : CertRequest) → asks ≡ Some (Cert request) → MakingAnswers told before after (cert_rows request) (cert_names request) (cert_stores request) option status

-- files cannot both keep their rules and break one, and the status that tells it is one
pub keeps_or_breaks : (f : Finding) (wanted : Status) → f ≡ Keeps → f ≡ Breaks wanted → ⊥
keeps_or_breaks f wanted k b = cc

pub breaks_one : (f : Finding) (status wanted : Status) → f ≡ Breaks status → f ≡ Breaks wanted → status ≡ wanted
breaks_one f status wanted a b = cc
