use Rattle.std.proofs.Common.{◌≡◌, ◌+◌, ◌-◌, refl, arith}
use Rattle.pfr_manifest.proofs.HalvingLemmas.{go_up, go_down, seven_looks, first_tells}
use Rattle.pfr_manifest.proofs.region_table.RegionTable.first_behind.Goals as goal

pub halves-preserved-then-probe-at : goal.halves-preserved-then-probe-at
halves-preserved-then-probe-at g c =
    let i = c.halves.invariant in
    let e : c.probe.new.steps - c.args.steps.now ≡ c.halves.steps - c.args.steps.now + 1 = omega (arith, i.rises, c.probe.ensures.one) in
    record {
      table = i.table;
      rises = omega (arith, i.rises, c.probe.ensures.one);
      halving = rw e (go_up i.table i.halving c.halves-test.true refl c.probe.result c.probe.ensures.stretch c.if-probe-at.true);
    }

pub halves-preserved : goal.halves-preserved
halves-preserved g c =
    let i = c.halves.invariant in
    let e : c.probe.new.steps - c.args.steps.now ≡ c.halves.steps - c.args.steps.now + 1 = omega (arith, i.rises, c.probe.ensures.one) in
    record {
      table = i.table;
      rises = omega (arith, i.rises, c.probe.ensures.one);
      halving = rw e (go_down i.table i.halving c.halves-test.true refl c.probe.result c.probe.ensures.stretch (omega (arith, c.if-probe-at.false)));
    }

pub returns-clause-cost : goal.returns-clause-cost
returns-clause-cost g c =
    let i = c.halves.invariant in
    let seven = seven_looks _ _ i.table.few i.halving.cost in
    omega (arith, seven, i.rises)

pub returns-clause-page : goal.returns-clause-page
returns-clause-page g c = λ page d begins.
    let i = c.halves.invariant in
    first_tells c.args.self.now page c.halves.low d i.table
    (λ k e less. omega (arith, i.halving.below k e less))
    (λ k e more less. omega (arith, i.halving.above k e (omega (arith, c.halves-test.false)) less))
