-- Layouts and fuses that a bank is judged by.
use Rattle.std.proofs.Common.{◌≡◌, refl, ℕ, List, Result, Ok}
use Rattle.pfr_flash.specs.declared.layout.Layout.{Layout}
use Rattle.pfr_flash.specs.declared.layout.LayoutRule.{LayoutRule}
use Rattle.pfr_flash.specs.Layout.{judge_layout}
use Rattle.pfr_flash.specs.declared.names.Bank.{Bank}
use Rattle.pfr_fuses.specs.FusesOf.{fuses_of}
use Rattle.pfr_fuses.specs.FusesState.{FusesState}
use Rattle.pfr_fuses.specs.RootSlot.{layout_of}
use Rattle.pfr_fuses.specs.declared.root_slot.RootSlot.{RootSlot}
use Rattle.pfr_capsule.specs.Good.{StandForBank}

pub judge_as : (bank : Bank) (layout : Layout) (root provision : RootSlot) (n size : ℕ) (r s : Result (Unit {0}) LayoutRule) → r ≡ judge_layout layout n → r ≡ s
    → layout ≡ layout_of root bank → root ≡ provision → n ≡ size → judge_layout (layout_of provision bank) size ≡ s
judge_as bank layout root provision n size r s a b c d e = rw (← d, ← e, ← c, ← a) b

pub stands_bank : (nv : List ℕ) (fuses : FusesState) (which : Bank) → fuses_of nv ≡ Ok fuses → StandForBank nv fuses which
stands_bank nv fuses which p = record { all = fuses; provisioned = p; provision = refl; floor = refl; capsule_row = refl; manifest_row = refl }
