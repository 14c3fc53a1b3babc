use Rattle.std.proofs.Common.{◌≡◌, ◌-◌, None}
use Rattle.pfr_flash.specs.FlashState.{now}
use Rattle.pfr_flash.specs.Reading.{EndsAt}
use Rattle.pfr_fuses.specs.Slots.{slots_from, provisioned_slot}
use Rattle.pfr_fuses.proofs.BlankLemmas.{choose_after}
use Rattle.pfr_fuses.proofs.slots.provisioned_slot.Given as goal

-- what is chosen among the slots that are left is what is chosen among all
abbrev pub invariant-loop-number : goal.invariant-loop-number
invariant-loop-number g l = record {
  ends : EndsAt None (g.F.Flash.device l.fn.nv) (g.F.Flash.device l.nv);
  rest : choose_after l.has_blank (slots_from (now (g.F.Flash.device l.fn.nv)) l.number (8 - l.number)) ≡ provisioned_slot (now (g.F.Flash.device l.fn.nv));
}
