use Rattle.pfr_machine.specs.Stages.{world_in}
use Rattle.pfr_machine.proofs.SoundLemmas.{begun_rests, sound_there, still_sound, ready_here, there_here, there_sound}
use Rattle.pfr_machine.proofs.TurnLemmas.{turned}
use Rattle.pfr_machine.proofs.platform.Platform.work.Goals as goal

pub begin-requires-clause-here : goal.begin-requires-clause-here
begin-requires-clause-here g c = there_here (g.E.Engine.accepts c.self.inside.engine) c.self.inside.stage c.self.invariant

pub begin-requires-clause-few : goal.begin-requires-clause-few
begin-requires-clause-few g c = (there_sound (g.E.Engine.accepts c.self.inside.engine) c.self.inside.stage c.self.invariant).whole.few

pub turn-requires-clause-rests : goal.turn-requires-clause-rests
turn-requires-clause-rests g c = begun_rests _ _ (record { is = c.in_ok-begin.ensures.begun; list = c.begin.ensures.list }) (g.E.Engine.accepts c.self.inside.engine) (there_sound (g.E.Engine.accepts c.self.inside.engine) c.self.inside.stage c.self.invariant)

pub invariant_of-self-2 : goal.invariant_of-self-2
invariant_of-self-2 g c =
    sound_there (g.E.Engine.accepts c.self.inside.engine) c.turn.new.self (ready_here c.turn.new.self c.turn.ensures.ready)
    (still_sound (world_in c.self.inside.stage) (world_in c.begin.new.self) (record { is = c.in_ok-begin.ensures.begun; list = c.begin.ensures.list }) (g.E.Engine.accepts c.self.inside.engine) c.args.event.now (world_in c.turn.new.self) (there_sound (g.E.Engine.accepts c.self.inside.engine) c.self.inside.stage c.self.invariant) c.turn.ensures.turns.follows c.turn.ensures.turns.leaves c.known.ensures.bytes c.known.ensures.sizes)

pub returns-clause-turn : goal.returns-clause-turn
returns-clause-turn g c =
    rw (← c.self.view_is) (turned (world_in c.self.inside.stage) (world_in c.begin.new.self) (record { is = c.in_ok-begin.ensures.begun; list = c.begin.ensures.list }) (g.E.Engine.accepts c.self.inside.engine) c.args.event.now (world_in c.turn.new.self) c.turn.ensures.turns.follows)
