use Rattle.std.proofs.Common.{◌∙◌, sym}
use Rattle.pfr_machine.proofs.BusLemmas.{is_blocked}
use Rattle.pfr_machine.proofs.bus.Bus.filter.Goals as goal

pub returns-in-Pass : goal.returns-in-Pass
returns-in-Pass g c = record { steps = rw (← c.judge-judged.ensures.exact) c.pass.ensures.steps; leaves = c.pass.ensures.leaves; dark = c.pass.ensures.dark }

pub returns-in-Block : goal.returns-in-Block
returns-in-Block g c =
    let done = is_blocked g.F.Flash.device c.args.self c.requires.seated c.requires.whole c.requires.room c.in-Block.why c.note.result c.note.ensures in
    let verdict = sym c.verdict.ensures.is ∙ c.in-Block.is in
    record { steps = rw (← c.judge-judged.ensures.exact, verdict) done.steps; leaves = done.leaves; dark = done.dark }
