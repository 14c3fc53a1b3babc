use Rattle.pfr_machine.proofs.LogLemmas.{begins_fuses, begun_open, digest_is}
use Rattle.pfr_machine.proofs.jobs.begin.Goals as goal

pub returns-in-Ok-clause-open : goal.returns-in-Ok-clause-open
returns-in-Ok-clause-open g c =
    begun_open c.args.log.now (g.F.Flash.device c.args.nv.now) (g.F.Flash.device c.begin.new.nv) c.args.log.now.bank c.args.kind c.args.digest.now c.requires.size c.requires.stands c.requires.none c.requires.room
    (digest_is c.args.digest.now c.told-digest (λ i. c.fits-digest i)) c.requires.kind _ c.begin.new.self c.in-Ok.ensures.begins.1 c.in-Ok.ensures.stands

pub returns-in-Ok-clause-fuses : goal.returns-in-Ok-clause-fuses
returns-in-Ok-clause-fuses g c =
    begins_fuses c.args.log.now (g.F.Flash.device c.args.nv.now) (g.F.Flash.device c.begin.new.nv) c.args.log.now.bank c.args.kind c.args.digest.now c.requires.size c.requires.stands c.requires.none c.requires.room
    (digest_is c.args.digest.now c.told-digest (λ i. c.fits-digest i)) c.requires.kind c.begin.result c.begin.ensures.begins

pub returns-in-Err-Flash-clause-fuses : goal.returns-in-Err-Flash-clause-fuses
returns-in-Err-Flash-clause-fuses g c =
    begins_fuses c.args.log.now (g.F.Flash.device c.args.nv.now) (g.F.Flash.device c.begin.new.nv) c.args.log.now.bank c.args.kind c.args.digest.now c.requires.size c.requires.stands c.requires.none c.requires.room
    (digest_is c.args.digest.now c.told-digest (λ i. c.fits-digest i)) c.requires.kind c.begin.result c.begin.ensures.begins
