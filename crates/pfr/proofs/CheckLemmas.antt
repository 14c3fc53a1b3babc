-- The text of a check.
use Rattle.std.proofs.Common.{◌≡◌, refl, ◌++◌, Bool, true}
use Rattle.pfr_flash.specs.declared.names.Bank.TheVariants.{Bmc, Pch}
use Rattle.pfr_report.specs.Verdicts.{verdict_text}
use Rattle.pfr_shelf.specs.Files.{Files}
use Rattle.pfr.specs.Checks.{IsVerdictsText}
use Rattle.pfr.specs.ChecksInside.{AreVerdictsOf}
use Rattle.pfr.specs.Loading.{AreLoaded}
use Rattle.pfr.specs.Request.{CheckRequest}
use Rattle.pfr.specs.declared.check.Verdicts.{Verdicts}
use Rattle.pfr.specs.declared.load.Images.{Images}

-- the verdicts of what was loaded
pub verdicts_of : (tells : Bool) (files : Files) (request : CheckRequest) (images : Images) (verdicts : Verdicts) → (tells ≡ true → AreLoaded files request images) → AreVerdictsOf images verdicts
    → IsVerdictsText tells files request (verdict_text Bmc verdicts.bmc ++ verdict_text Pch verdicts.pch)
verdicts_of tells files request images verdicts loaded of = record { images = images; loaded = loaded; is = rw (of.bmc, of.pch) refl }
