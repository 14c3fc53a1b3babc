use Rattle.std.proofs.Common.{refl, []}
use Rattle.pfr_story.specs.Course.{Stretch}
use Rattle.pfr_story.specs.Turn.{update_stretch}
use Rattle.pfr_story.proofs.Sequence.{Ran-refl}
use Rattle.pfr_machine.specs.Working.{work_stretch}
use Rattle.pfr_machine.specs.declared.working.Work.TheVariants.{Update}
use Rattle.pfr_machine.proofs.StretchLemmas.{brought_behind, lost_behind, one_brought, one_lost}
use Rattle.pfr_machine.proofs.inner.Inner.update.Goals as goal

pub returns-in-Ok-clause-follows : goal.returns-in-Ok-clause-follows
returns-in-Ok-clause-follows g c =
    let accepts = g.E.Engine.accepts c.args.engine.now in
    let work : Stretch = work_stretch accepts c.args.bank (Update c.args.intent) in
    let update : Stretch = update_stretch accepts c.args.bank c.args.intent in
    let plan = refl in (
      c.args.self,
      Ran-refl c.args.self,
      one_brought update c.args.self c.in-Ok.inner
          (brought_behind work update [] c.args.self c.args.self (Ran-refl c.args.self) plan (λ device. refl) c.in-Ok.inner c.in-Ok.ensures.0),
    )

pub returns-in-Err-clause-follows : goal.returns-in-Err-clause-follows
returns-in-Err-clause-follows g c =
    let accepts = g.E.Engine.accepts c.args.engine.now in
    let work : Stretch = work_stretch accepts c.args.bank (Update c.args.intent) in
    let update : Stretch = update_stretch accepts c.args.bank c.args.intent in
    let plan = refl in
    rw c.off.ensures.same (
      c.args.self,
      Ran-refl c.args.self,
      one_lost update c.args.self c.in-Err.dark.inner
          (lost_behind work update [] c.args.self c.args.self (Ran-refl c.args.self) plan (λ device. refl) c.in-Err.dark.inner c.in-Err.ensures.0),
    )
