-- Banks whose active image was judged, as contracts see them.
use Rattle.std.specs.Prelude.{Bool, Result, Ok, Err}
use Rattle.pfr_flash.specs.declared.flash.FlashFail.{FlashFail}
use Rattle.pfr_flash.specs.declared.layout.Layout.{Layout}
use Rattle.pfr_flash.specs.declared.names.Bank.{Bank}
use Rattle.pfr_manifest.specs.declared.manifest.Manifest.{Manifest}
use Rattle.pfr_filter.specs.Asking.{latched}
use Rattle.pfr_filter.specs.declared.verdict.Verdict.{Verdict}
use Rattle.pfr_filter.specs.declared.verdict.Verdict.TheVariants.{Pass, Block}

-- a bank that may run, with the manifest and the layout that it was judged by
pub record JudgedState (F : Type 0) : Type 0 where
  pub flash : F
  pub bank : Bank
  pub manifest : Manifest
  pub layout : Layout

-- a bank that runs, and whether writes of its bus are enabled
pub record RunningState (F : Type 0) : Type 0 where
  pub flash : F
  pub bank : Bank
  pub manifest : Manifest
  pub layout : Layout
  pub latch : Bool

-- The latch once a frame with this verdict was handed to the flash: it stays where that failed.
abbrev pub latch_left : Verdict → Bool → Result (Unit {0}) FlashFail → Bool
latch_left (Pass op) latch (Ok done) = latched op latch
latch_left (Pass op) latch (Err fail) = latch
latch_left (Block cause) latch answer = latch
