-- The lines of a bank's verdict.
use Rattle.std.specs.Prelude.{ℕ, List, [], ◌++◌, Bool, true, false, Result, Ok, Err, IfErr, codes, decimal}
use Rattle.pfr_flash.specs.Answer.{IsFound}
use Rattle.pfr_auth.specs.Answer.{active_failure}
use Rattle.pfr_flash.specs.declared.names.Bank.{Bank}
use Rattle.pfr_auth.specs.declared.fail.ActiveFail.{ActiveFail}
use Rattle.pfr_auth.specs.declared.areas.Area.{Area}
use Rattle.pfr_auth.specs.declared.areas.Area.TheVariants.{Recovery, Staging}
use Rattle.pfr_capsule.specs.Answer.{capsule_failure}
use Rattle.pfr_capsule.specs.declared.fail.CapsuleFail.{CapsuleFail}
use Rattle.pfr_jobs.specs.declared.job.OpenJob.{OpenJob}
use Rattle.pfr_jobs.specs.declared.job.OpenJob.TheVariants as job
use Rattle.pfr_report.specs.Words.{rule_word, active_text, capsule_text, kind_word}
use Rattle.pfr_report.specs.Texts.{bank_word}
use Rattle.pfr_report.specs.declared.verdict.Standing.{Standing}
use Rattle.pfr_report.specs.declared.verdict.Standing.TheVariants.{Unprovisioned, SlotsSpent, LayoutBad, Ready}
use Rattle.pfr_report.specs.declared.verdict.BankVerdict.{BankVerdict}

abbrev pub job_word : OpenJob → List ℕ
job_word job.None = codes "none"
job_word job.Bad = codes "bad"
job_word (job.Job kind digest) = kind_word kind

abbrev pub area_word : Area → List ℕ
area_word Recovery = codes "recovery"
area_word Staging = codes "staging"

abbrev pub image_text : Result ℕ ActiveFail → List ℕ
image_text (Ok svn) = codes "trusted svn " ++ decimal svn
image_text (Err why) = codes "untrusted " ++ active_text why

abbrev pub area_text : Result ℕ CapsuleFail → List ℕ
area_text (Ok svn) = codes "good svn " ++ decimal svn
area_text (Err why) = codes "bad " ++ capsule_text why

abbrev pub yes_or_no : Bool → List ℕ
yes_or_no true = codes "yes"
yes_or_no false = codes "no"

-- a line: the bank, of what it tells, and that
abbrev pub line : Bank → List ℕ → List ℕ → List ℕ
line bank subject text = bank_word bank ++ (codes " " ++ (subject ++ (text ++ codes "\n")))

-- the six lines of a bank whose images were judged
abbrev pub judged_lines : Bank → BankVerdict → List ℕ
judged_lines bank verdict =
    line bank (codes "floor ") (decimal verdict.floor)
    ++ (line bank (codes "job ") (job_word verdict.job)
    ++ (line bank (codes "active ") (image_text verdict.active)
    ++ (line bank (area_word Recovery) (codes " " ++ area_text verdict.recovery)
    ++ (line bank (area_word Staging) (codes " " ++ area_text verdict.staging)
    ++ line bank (codes "same-manifest ") (yes_or_no verdict.same_manifest)))))

abbrev pub lines_by : Standing → Bank → BankVerdict → List ℕ
lines_by Unprovisioned bank verdict = line bank (codes "unprovisioned") []
lines_by SlotsSpent bank verdict = line bank (codes "slots-spent") []
lines_by (LayoutBad rule) bank verdict = line bank (codes "layout ") (rule_word rule)
lines_by Ready bank verdict = judged_lines bank verdict

-- The text of a bank's verdict.
unfoldable pub verdict_text : Bank → BankVerdict → List ℕ
verdict_text bank verdict = lines_by verdict.standing bank verdict

-- no cause in a verdict is a failed device
pub record HasCauses (verdict : BankVerdict) : Type 0 where
  pub active : IfErr verdict.active (IsFound active_failure)
  pub recovery : IfErr verdict.recovery (IsFound capsule_failure)
  pub staging : IfErr verdict.staging (IsFound capsule_failure)
