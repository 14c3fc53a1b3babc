use Rattle.std.proofs.Common.{arith, refl}
use Rattle.std.proofs.lemmas.Result.{err_from_is_err_and}
use Rattle.pfr_flash.proofs.EndsLemmas.{EndsAt-refl, then_ends, ends_content}
use Rattle.pfr_fuses.specs.Slots.{provisioned_slot}
use Rattle.pfr_fuses.proofs.BlankLemmas.{search_ends, search_goes_on}
use Rattle.pfr_fuses.proofs.slots.provisioned_slot.Goals as goal

pub loop-number-init : goal.loop-number-init
unfolding provisioned_slot
loop-number-init g c = record { ends = EndsAt-refl _; rest = refl }

pub returns-in_err-read-clause-ends : goal.returns-in_err-read-clause-ends
returns-in_err-read-clause-ends g c =
    let p = err_from_is_err_and c.from_residual.result c.from_residual.ensures.1 in
    rw (p.1, p.2) (then_ends c.loop-number.invariant.ends c.in_err-read.ensures.reads.ends)

pub returns-then-is_set-clause-ends : goal.returns-then-is_set-clause-ends
returns-then-is_set-clause-ends g c = then_ends c.loop-number.invariant.ends c.in_ok-read.ensures.reads.ends

pub returns-then-is_set-clause-exact : goal.returns-then-is_set-clause-exact
returns-then-is_set-clause-exact g c =
    search_ends _ _ _ c.loop-number.number c.loop-number.has_blank (omega arith) (ends_content c.loop-number.invariant.ends) c.in_ok-read.ensures.bytes c.if-is_set.ensures c.loop-number.invariant.rest

pub loop-number-preserved : goal.loop-number-preserved
loop-number-preserved g c = record {
  ends = then_ends c.loop-number.invariant.ends c.in_ok-read.ensures.reads.ends;
  rest = search_goes_on _ _ _ c.loop-number.number c.loop-number.has_blank _ (omega arith) (ends_content c.loop-number.invariant.ends) c.in_ok-read.ensures.bytes c.if-is_set.ensures c.is_blank-has_blank.ensures c.loop-number.invariant.rest;
}
