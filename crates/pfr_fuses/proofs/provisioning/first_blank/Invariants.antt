use Rattle.std.proofs.Common.{◌≡◌, ◌-◌, None}
use Rattle.pfr_flash.specs.FlashState.{now}
use Rattle.pfr_flash.specs.Reading.{EndsAt}
use Rattle.pfr_fuses.specs.Provisioning.{judge_slots}
use Rattle.pfr_fuses.proofs.BlankLemmas.{judge_after}
use Rattle.pfr_fuses.proofs.provisioning.first_blank.Given as goal

-- what is judged of the slots that are left is what is judged of all
abbrev pub invariant-loop-number : goal.invariant-loop-number
invariant-loop-number g l = record {
  ends : EndsAt None (g.F.Flash.device l.fn.nv) (g.F.Flash.device l.nv);
  rest : judge_after l.found (now (g.F.Flash.device l.fn.nv)) l.number (8 - l.number) ≡ judge_slots (now (g.F.Flash.device l.fn.nv));
}
