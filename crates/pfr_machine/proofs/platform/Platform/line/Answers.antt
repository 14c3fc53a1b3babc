use Rattle.std.proofs.Common.{ap}
use Rattle.pfr_machine.specs.Stages.{world_in}
use Rattle.pfr_machine.proofs.SoundLemmas.{line_trusted}
use Rattle.pfr_machine.proofs.platform.Platform.line.Goals as goal

pub returns-in-Fresh-clause-trusted : goal.returns-in-Fresh-clause-trusted
returns-in-Fresh-clause-trusted g c = line_trusted g.E.Engine.accepts c.args.bank _ c.self.inside.stage c.self.inside.engine c.self.view_is c.self.invariant c.in-Fresh.fresh c.line.result (ap world_in c.in-Fresh.is) c.line.ensures

pub returns-in-Ready-clause-trusted : goal.returns-in-Ready-clause-trusted
returns-in-Ready-clause-trusted g c = line_trusted g.E.Engine.accepts c.args.bank _ c.self.inside.stage c.self.inside.engine c.self.view_is c.self.invariant c.in-Ready.inner c.line-in-Ready.result (ap world_in c.in-Ready.is) c.line-in-Ready.ensures
