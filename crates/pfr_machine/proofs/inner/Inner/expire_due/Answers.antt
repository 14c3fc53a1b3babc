use Rattle.pfr_machine.proofs.WatchLemmas.{due_both}
use Rattle.pfr_machine.proofs.RestLemmas.{rests_due}
use Rattle.pfr_machine.proofs.inner.Inner.expire_due.Goals as goal

pub returns : goal.returns
returns g c =
    due_both _ (g.E.Engine.accepts c.args.engine.now) c.args.bmc c.args.pch c.args.self _ c.expire_if-2.result c.requires.bmc c.requires.pch c.in_ok-expire_if.ensures c.expire_if-2.ensures

pub expire_if-requires-2-clause-rests : goal.expire_if-requires-2-clause-rests
expire_if-requires-2-clause-rests g c = λ due. rests_due _ (g.E.Engine.accepts c.args.engine.now) c.args.bmc c.args.self _ c.known.ensures.sizes.nv c.in_ok-expire_if.ensures (c.requires.pch_rests due)
