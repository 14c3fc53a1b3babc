-- Where the areas lie that hold capsules, and what is judged there.
use Rattle.std.specs.Prelude.{ℕ, List, Result}
use Rattle.pfr_flash.specs.declared.layout.Layout.{Layout}
use Rattle.pfr_flash.specs.declared.names.Bank.{Bank}
use Rattle.pfr_engine.specs.Acceptance.{Acceptance}
use Rattle.pfr_fuses.specs.FusesState.{FusesState}
use Rattle.pfr_fuses.specs.RootSlot.{layout_of}
use Rattle.pfr_capsule.specs.CapsuleState.{CapsuleState}
use Rattle.pfr_capsule.specs.Judge.{judge_capsule}
use Rattle.pfr_capsule.specs.declared.fail.CapsuleFail.{CapsuleFail}
use Rattle.pfr_auth.specs.declared.areas.Area.{Area}
use Rattle.pfr_auth.specs.declared.areas.Area.TheVariants.{Recovery, Staging}

abbrev pub place_of : Layout → Area → ℕ
place_of layout Recovery = layout.recovery_at
place_of layout Staging = layout.staging_at

-- the judgement of the capsule in an area of a bank
abbrev pub judge_area : Area → Bank → List ℕ → FusesState → Acceptance → Result CapsuleState CapsuleFail
judge_area area bank image fuses accepts =
    let layout : Layout = layout_of fuses.provision bank in
    judge_capsule image (place_of layout area) layout.area_len bank layout fuses accepts
