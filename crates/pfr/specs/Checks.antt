-- What a check does, status by status.
use Rattle.std.specs.Prelude.{◌≡◌, ℕ, List, ◌++◌, Bool, true, Option, None}
use Rattle.pfr_flash.specs.declared.names.Bank.TheVariants.{Bmc, Pch}
use Rattle.pfr_engine.specs.Accepting.{acceptance}
use Rattle.pfr_report.specs.Verdicts.{verdict_text}
use Rattle.pfr_machine.specs.Verdicts.{verdict_of}
use Rattle.pfr_flash.specs.FlashState.{Rose}
use Rattle.pfr_shelf.specs.Files.{Files}
use Rattle.pfr_shelf.specs.Pieces.{AppendsPart}
use Rattle.pfr.specs.Judging.{Keeps, RefusesFor, check_rows, verdict}
use Rattle.pfr.specs.Loading.{AreLoaded}
use Rattle.pfr.specs.Request.{CheckRequest}
use Rattle.pfr.specs.Runs.{Outside}
use Rattle.pfr.specs.declared.finished.Bench.{Bench}
use Rattle.pfr.specs.declared.load.Images.{Images}
use Rattle.pfr.specs.declared.status.Status.{Status}
use Rattle.pfr.specs.declared.status.Status.TheVariants.{Done, WriteFault}

-- the verdicts of both banks, by their images, the store's and the engine's rows
abbrev pub verdicts_text : Images → List ℕ
verdicts_text images =
    verdict_text Bmc (verdict_of Bmc images.bmc.items images.nv.items (acceptance images.engine))
    ++ verdict_text Pch (verdict_of Pch images.pch.items images.nv.items (acceptance images.engine))

-- the text is that of the verdicts of what the files hold
pub record IsVerdictsText (tells : Bool) (files : Files) (request : CheckRequest) (text : List ℕ) : Type 0 where
  pub images : Images
  pub loaded : tells ≡ true → AreLoaded files request images
  pub is : text ≡ verdicts_text images

-- When a check gives a status.
abbrev pub ChecksFor : Bool → Outside → Outside → CheckRequest → Status → Type 0
ChecksFor told before after request Done = told ≡ true → verdict (check_rows request before.files) ≡ Keeps
ChecksFor told before after request WriteFault = Rose before.sink_faults after.sink_faults × (told ≡ true → verdict (check_rows request before.files) ≡ Keeps)
ChecksFor told before after request status = RefusesFor told (check_rows request before.files) before.shelf_faults after.shelf_faults after.shelf_failed status

-- Whatever its status, a check has no bench and leaves every file.
pub record CheckAnswers (told : Bool) (before after : Outside) (request : CheckRequest) (option : Option Bench) (status : Status) : Type 0 where
  pub cause : ChecksFor told before after request status
  pub bench : option ≡ None
  pub files : told ≡ true → after.files ≡ before.files

-- what the sink got from a check, before the line of its status
abbrev pub CheckOutput : Bool → Bool → Outside → Outside → CheckRequest → Status → Type 0
CheckOutput tells told before after request Done =
    (text : List ℕ) × IsVerdictsText tells before.files request text × (told ≡ true → after.output ≡ before.output ++ text)
CheckOutput tells told before after request WriteFault =
    (text : List ℕ) × IsVerdictsText tells before.files request text × (told ≡ true → AppendsPart before.output after.output text)
CheckOutput tells told before after request status = told ≡ true → after.output ≡ before.output
