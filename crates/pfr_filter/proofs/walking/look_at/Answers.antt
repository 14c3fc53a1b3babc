use Rattle.std.proofs.Common.{◌<◌, ◌≤◌, length, arith}
use Rattle.pfr_filter.proofs.WalkLemmas.{go_next, go_same, tells, tells_past}
use Rattle.pfr_filter.proofs.walking.look_at.Goals as goal

pub returns-then-number-len-clause-open : goal.returns-then-number-len-clause-open
returns-then-number-len-clause-open g c =
    let none : length c.args.table.now ≤ c.args.number = omega arith in
    tells_past c.len.ensures.table c.requires none c.args.layout.now c.is_in_staging.result c.is_in_staging.ensures

pub returns-then-stretch-page-clause-open : goal.returns-then-stretch-page-clause-open
returns-then-stretch-page-clause-open g c =
    let some : c.args.number < length c.args.table.now = omega arith in
    tells c.len.ensures.table c.requires c.probe-stretch.result some c.probe-stretch.ensures.stretch c.args.layout.now c.may_write-open.result c.may_write-open.ensures

pub returns-then-stretch-page-clause-next : goal.returns-then-stretch-page-clause-next
returns-then-stretch-page-clause-next g c =
    let some : c.args.number < length c.args.table.now = omega arith in
    go_next c.len.ensures.table c.requires c.probe-stretch.result some c.probe-stretch.ensures.stretch (omega arith)

pub returns-clause-open : goal.returns-clause-open
returns-clause-open g c =
    let some : c.args.number < length c.args.table.now = omega arith in
    tells c.len.ensures.table c.requires c.probe-stretch.result some c.probe-stretch.ensures.stretch c.args.layout.now c.may_write-open.result c.may_write-open.ensures

pub returns-clause-next : goal.returns-clause-next
returns-clause-next g c =
    let some : c.args.number < length c.args.table.now = omega arith in
    go_same c.len.ensures.table c.requires c.probe-stretch.result some c.probe-stretch.ensures.stretch (omega arith)
