use Rattle.std.proofs.Common.{◌∙◌, refl, arith, length-append}
use Rattle.std.proofs.lemmas.Result.{err_from_is_err_and}
use Rattle.pfr_engine.proofs.LineLemmas.{advance, refuses, last}
use Rattle.pfr_engine.proofs.reading.read_rows.Goals as goal

pub lines-preserved : goal.lines-preserved
lines-preserved c = record {
  so_far = advance c.lines.line c.lines.rest.now c.in-Some.first.now c.in-Some.others.now _ _ _ _ c.in-Some.ensures.lines c.in_ok-row.ensures.exact c.in_ok-push.ensures.items c.lines.invariant.so_far;
  left = omega (arith, c.in-Some.ensures.shorter);
  counted = rw c.in_ok-push.ensures.items (simp length-append (omega arith));
  few = omega (arith, c.in_ok-row.ensures.few);
}

pub returns-in_err-row-clause-exact : goal.returns-in_err-row-clause-exact
returns-in_err-row-clause-exact c =
    let p = err_from_is_err_and c.from_residual.result c.from_residual.ensures.1 in
    rw (p.1, p.2) (refuses c.lines.line c.lines.rest.now c.in-Some.first.now c.in-Some.others.now _ _ _ c.in-Some.ensures.lines c.lines.invariant.so_far c.in_err-row.ensures.exact)

pub returns-then-not-is_empty-clause-exact : goal.returns-then-not-is_empty-clause-exact
returns-then-not-is_empty-clause-exact c =
    let l = last c.lines.line c.lines.rest.now _ _ c.in_default.ensures.lines c.lines.invariant.so_far in
    l ∙ rw (← c.if-not-is_empty.ensures) refl
