use Rattle.std.proofs.Common.{◌≢◌, ℕ, get_or, sym, arith}
use Rattle.pfr_jobs.proofs.PageLaws.{first_found, first_none}
use Rattle.pfr_jobs.proofs.page.first_unspent.Goals as goal
use borrow.Author.Count.{below_none, below_more}

pub loop-at-init : goal.loop-at-init
loop-at-init c = below_none (λ (i : ℕ). get_or c.args.selector.now i 0 ≢ 255)

pub returns-then-selector-at : goal.returns-then-selector-at
returns-then-selector-at c = sym (first_found c.args.selector.now c.loop-at.at (omega (arith, c.loop-at-test.true, c.told-selector)) c.if-selector-at.true c.loop-at.invariant)

pub loop-at-preserved : goal.loop-at-preserved
loop-at-preserved c = below_more (λ (i : ℕ). get_or c.args.selector.now i 0 ≢ 255) c.loop-at.at c.loop-at.invariant c.if-selector-at.false

pub returns : goal.returns
returns c = sym (first_none c.args.selector.now (λ i h. c.loop-at.invariant i (omega (arith, h, c.loop-at-test.false, c.told-selector))))
