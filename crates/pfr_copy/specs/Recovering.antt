-- A bank that can be recovered while its pages are written.
use Rattle.std.specs.Prelude.{◌≡◌, ℕ, List}
use Rattle.pfr_flash.specs.declared.layout.Layout.{Layout}
use Rattle.pfr_flash.specs.declared.names.Bank.{Bank}
use Rattle.pfr_engine.specs.Acceptance.{Acceptance}
use Rattle.pfr_fuses.specs.RootSlot.{layout_of}
use Rattle.pfr_recoverable.specs.Recoverable.{HasGoodRecovery, HasRecoveryJob}

-- the bank, which has this layout, has a recovery job
pub record HasJobBy (layout : Layout) (bank : Bank) (image nv : List ℕ) (accepts : Acceptance) : Type 0 where
  pub job : HasRecoveryJob bank image nv accepts
  pub by_layout : layout_of job.fuses.provision bank ≡ layout

-- or has a good recovery area
pub record HasAreaBy (layout : Layout) (bank : Bank) (image nv : List ℕ) (accepts : Acceptance) : Type 0 where
  pub area : HasGoodRecovery bank image nv accepts
  pub by_layout : layout_of area.fuses.provision bank ≡ layout
