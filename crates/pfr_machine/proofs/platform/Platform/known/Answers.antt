use Rattle.pfr_machine.proofs.SoundLemmas.{known_spans, known_trusted}
use Rattle.pfr_machine.proofs.platform.Platform.known.Goals as goal

pub returns-clause-spans : goal.returns-clause-spans
returns-clause-spans g c = λ which. known_spans g.E.Engine.accepts which _ c.self.inside.stage c.self.inside.engine c.self.view_is c.self.invariant

pub returns-clause-trusted : goal.returns-clause-trusted
returns-clause-trusted g c = λ which. known_trusted g.E.Engine.accepts which _ c.self.inside.stage c.self.inside.engine c.self.view_is c.self.invariant
