use Rattle.pfr_machine.proofs.LogLemmas.{finished_fuses, finished_none}
use Rattle.pfr_machine.proofs.jobs.finish.Goals as goal

pub returns-clause-none : goal.returns-clause-none
returns-clause-none g c =
    finished_none c.args.log.now (g.F.Flash.device c.args.nv.now) (g.F.Flash.device c.finish.new.nv) c.args.log.now.bank c.requires.size c.requires.stands c.requires.open c.finish.result c.finish.new.self
    c.finish.ensures.follows c.finish.ensures.stands

pub returns-clause-fuses : goal.returns-clause-fuses
returns-clause-fuses g c =
    finished_fuses c.args.log.now (g.F.Flash.device c.args.nv.now) (g.F.Flash.device c.finish.new.nv) c.args.log.now.bank c.requires.size c.requires.stands c.requires.open c.finish.result c.finish.ensures.follows
