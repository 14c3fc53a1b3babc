use Rattle.pfr_script.proofs.script.Script.items.Goals as goal

pub returns-clause-arms : goal.returns-clause-arms
returns-clause-arms c = rw (← c.self.view_is) c.self.invariant.arms
