use Rattle.std.proofs.Common.{refl}
use Rattle.pfr_flash.specs.declared.names.Bank.TheVariants.{Bmc, Pch}
use Rattle.pfr_story.specs.Turn.{bank_stretch}
use Rattle.pfr_machine.proofs.TurnLemmas.{both_brought}
use Rattle.pfr_machine.proofs.RestLemmas.{brought_migrated}
use Rattle.pfr_machine.proofs.inner.Inner.bring_up_both.Goals as goal

pub returns : goal.returns
returns g c =
    let accepts = g.E.Engine.accepts c.args.engine.now in
    both_brought (bank_stretch accepts Bmc) (bank_stretch accepts Pch) _ _ c.work-2.result refl refl c.in_ok-work.ensures c.work-2.ensures

pub work-requires-2-clause-settled : goal.work-requires-2-clause-settled
work-requires-2-clause-settled g c = brought_migrated (g.E.Engine.accepts c.args.engine.now) Bmc c.args.self _ c.known.ensures.sizes.nv c.requires.settled c.in_ok-work.ensures.0
