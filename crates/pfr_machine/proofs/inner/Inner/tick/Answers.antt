use Rattle.std.proofs.Common.{◌∙◌, sym, subst}
use Rattle.pfr_flash.specs.declared.names.Bank.TheVariants.{Bmc, Pch}
use Rattle.pfr_story.specs.Course.{Steps}
use Rattle.pfr_story.specs.World.{World}
use Rattle.pfr_machine.specs.Watching.{due_stretches}
use Rattle.pfr_machine.proofs.WatchLemmas.{due_up, tick_follows, up_mid}
use Rattle.pfr_machine.proofs.RestLemmas.{rests_running}
use Rattle.pfr_machine.proofs.WatchLemmas.{due_runs}
use Rattle.pfr_machine.specs.Inside.{IsAtRest}
use Rattle.pfr_flash.specs.FlashState.{now}
use Rattle.pfr_machine.proofs.inner.Inner.tick.Goals as goal

pub expire_due-requires-clause-bmc : goal.expire_due-requires-clause-bmc
expire_due-requires-clause-bmc g c = λ due.
    up_mid c.args.n c.args.self c.tick_watches-bmc.new.self c.tick_watches-bmc.ensures.clocked (due_up Bmc c.args.n c.args.self c.requires.whole (sym c.tick_watches-bmc.ensures.bmc ∙ due))

pub expire_due-requires-clause-pch : goal.expire_due-requires-clause-pch
expire_due-requires-clause-pch g c = λ due.
    up_mid c.args.n c.args.self c.tick_watches-bmc.new.self c.tick_watches-bmc.ensures.clocked (due_up Pch c.args.n c.args.self c.requires.whole (sym c.tick_watches-bmc.ensures.pch ∙ due))

pub returns-in-Ok-clause-follows : goal.returns-in-Ok-clause-follows
returns-in-Ok-clause-follows g c =
    tick_follows c.args.n c.args.self c.tick_watches-bmc.new.self c.tick_watches-bmc.ensures.clocked (g.E.Engine.accepts c.args.engine.now) c.tick_watches-bmc.result.0 c.tick_watches-bmc.result.1 c.in-Ok.inner
    c.tick_watches-bmc.ensures.bmc c.tick_watches-bmc.ensures.pch c.in-Ok.ensures.0

pub returns-in-Err-clause-follows : goal.returns-in-Err-clause-follows
returns-in-Err-clause-follows g c =
    let accepts = g.E.Engine.accepts c.args.engine.now in
    let steps = subst (λ (w : World). Steps (due_stretches accepts c.tick_watches-bmc.result.0 c.tick_watches-bmc.result.1) c.tick_watches-bmc.new.self w) (sym c.off.ensures.same) c.in-Err.ensures.0 in
    tick_follows c.args.n c.args.self c.tick_watches-bmc.new.self c.tick_watches-bmc.ensures.clocked accepts c.tick_watches-bmc.result.0 c.tick_watches-bmc.result.1 c.off.result
    c.tick_watches-bmc.ensures.bmc c.tick_watches-bmc.ensures.pch steps

pub expire_due-requires-clause-bmc_rests : goal.expire_due-requires-clause-bmc_rests
expire_due-requires-clause-bmc_rests g c = λ due.
    let runs = due_runs Bmc c.args.n c.args.self (sym c.tick_watches-bmc.ensures.bmc ∙ due) in
    subst (λ (w : World). IsAtRest Bmc (now w.nv)) (sym c.tick_watches-bmc.ensures.clocked) (rests_running Bmc _ (c.requires.settled Bmc runs) (c.requires.idle Bmc runs))

pub expire_due-requires-clause-pch_rests : goal.expire_due-requires-clause-pch_rests
expire_due-requires-clause-pch_rests g c = λ due.
    let runs = due_runs Pch c.args.n c.args.self (sym c.tick_watches-bmc.ensures.pch ∙ due) in
    subst (λ (w : World). IsAtRest Pch (now w.nv)) (sym c.tick_watches-bmc.ensures.clocked) (rests_running Pch _ (c.requires.settled Pch runs) (c.requires.idle Pch runs))
