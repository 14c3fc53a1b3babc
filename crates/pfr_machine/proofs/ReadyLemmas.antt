-- A bank in work is ready still.
use Rattle.std.proofs.Common.{◌≡◌, ◌∙◌, sym, ap, subst, ℕ, ◌+◌, ◌≤◌, List, arith, Ok}
use Rattle.pfr_flash.specs.FlashState.{now}
use Rattle.pfr_flash.specs.declared.names.Bank.{Bank}
use Rattle.pfr_fuses.specs.FusesOf.{fuses_of}
use Rattle.pfr_fuses.specs.FusesState.{FusesState}
use Rattle.pfr_jobs.specs.Log.{open_job}
use Rattle.pfr_jobs.specs.declared.job.OpenJob.TheVariants as job
use Rattle.pfr_story.specs.Goes.{Ran}
use Rattle.pfr_story.specs.Story.{Move}
use Rattle.pfr_machine.specs.Jobs.{IsReady}
use Rattle.pfr_machine.specs.Worlds.{DeskState, IsAwake, Stays}
use Rattle.pfr_machine.proofs.UpdateLemmas.{valid_behind}

-- calls that leave the store's bytes, and add so many notes, leave it ready for fewer
pub ready_behind : {T : Type 0} (most left : ℕ) (fuses : FusesState) (old mid : DeskState) (x : T) {moves : List Move} → Ran moves old.world mid.world → Stays {T = T} most old mid (Ok x) → now mid.world.nv ≡ now old.world.nv
    → IsReady (most + left) old fuses → IsReady left mid fuses
ready_behind most left fuses old mid x p s store h = record {
  room = omega (arith, h.room, s.notes.spare);
  on = subst (λ (b : Bank). IsAwake b mid.world) (sym s.bank) s.awake;
  none = subst (λ (b : Bank). open_job (now mid.world.nv) b ≡ job.None) (sym s.bank) (ap (λ (nv : List ℕ). open_job nv old.bank) store ∙ h.none);
  fused = record {
    found = ap (λ (nv : List ℕ). fuses_of nv) store ∙ h.fused.found;
    two = h.fused.two;
    valid = valid_behind fuses.provision old mid p s.bank h.fused.valid;
  };
}

pub ready_fewer : (more fewer : ℕ) (fuses : FusesState) (old : DeskState) → fewer ≤ more → IsReady more old fuses → IsReady fewer old fuses
ready_fewer more fewer fuses old few h = record { room = omega (arith, h.room, few); on = h.on; none = h.none; fused = h.fused }
