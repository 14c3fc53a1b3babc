use Rattle.std.proofs.Common.{◌≡◌, ℕ, ◌+◌, ◌-◌, true, false, refl, sym, ◌∙◌, arith}
use Rattle.pfr_manifest.specs.Stretches.{writable_by}
use Rattle.pfr_filter.specs.Asking.{numbers_from}
use Rattle.pfr_filter.specs.Frames.{first_without}
use Rattle.pfr_filter.proofs.WalkLemmas.{goes_on, stops, none_left}
use Rattle.pfr_filter.proofs.walking.first_closed.Goals as goal

pub returns-then-count-eq0-clause-exact : goal.returns-then-count-eq0-clause-exact
returns-then-count-eq0-clause-exact g c = none_left (writable_by c.args.table.now c.args.layout.now) (first_without (writable_by c.args.table.now c.args.layout.now) (numbers_from c.args.first c.args.count)) c.args.first c.args.count 0 refl c.if-count-eq0.true

pub returns-then-not-open-clause-exact : goal.returns-then-not-open-clause-exact
returns-then-not-open-clause-exact g c =
    let left : ℕ = c.args.first + c.args.count - c.loop-page.page in
    let rest : ℕ = c.args.first + c.args.count - (c.loop-page.page + 1) in
    let closed : writable_by c.args.table.now c.args.layout.now c.loop-page.page ≡ false = sym c.look_at-open.ensures.open ∙ c.if-not-open.true in
    stops (writable_by c.args.table.now c.args.layout.now) (first_without (writable_by c.args.table.now c.args.layout.now) (numbers_from c.args.first c.args.count)) c.loop-page.page left rest c.loop-page.invariant.so_far (omega arith) closed

pub loop-page-preserved : goal.loop-page-preserved
loop-page-preserved g c =
    let left : ℕ = c.args.first + c.args.count - c.loop-page.page in
    let rest : ℕ = c.args.first + c.args.count - (c.loop-page.page + 1) in
    let may : writable_by c.args.table.now c.args.layout.now c.loop-page.page ≡ true = sym c.look_at-open.ensures.open ∙ c.if-not-open.false in
    record {
      behind = c.look_at-open.ensures.next;
      looks = omega (arith, c.loop-page.invariant.looks, c.look_at-open.ensures.cost);
      so_far = goes_on (writable_by c.args.table.now c.args.layout.now) (first_without (writable_by c.args.table.now c.args.layout.now) (numbers_from c.args.first c.args.count)) c.loop-page.page left rest c.loop-page.invariant.so_far (omega arith) may;
    }

pub returns-clause-exact : goal.returns-clause-exact
returns-clause-exact g c =
    let left : ℕ = c.args.first + c.args.count - c.loop-page.page in
    none_left (writable_by c.args.table.now c.args.layout.now) (first_without (writable_by c.args.table.now c.args.layout.now) (numbers_from c.args.first c.args.count)) c.loop-page.page left 0 c.loop-page.invariant.so_far (omega arith)
