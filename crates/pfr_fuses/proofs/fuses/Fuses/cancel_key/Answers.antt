use Rattle.pfr_fuses.proofs.ClearingLemmas.{cancelled_view, cancels_view}
use Rattle.pfr_fuses.proofs.fuses.Fuses.cancel_key.Goals as goal

pub returns-clause-ok : goal.returns-clause-ok
returns-clause-ok g c =
    rw (c.clear.ensures.kept, ← c.self.view_is) (cancelled_view c.self.inside.provision c.self.inside.profile c.self.inside.floors c.self.inside.rows c.args.ty c.args.id)

pub returns-clause-fuses : goal.returns-clause-fuses
returns-clause-fuses g c =
    rw (← c.self.view_is) (cancels_view c.self.inside.provision c.self.inside.profile c.self.inside.floors c.self.inside.rows c.args.ty c.args.id c.clear.new.self c.clear.ensures.cleared)
