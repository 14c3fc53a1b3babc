use Rattle.std.proofs.Common.{◌≡◌, subst}
use Rattle.std.specs.Prelude.{◌↔◌}
use Rattle.pfr_flash.specs.FlashState.{size_of}
use Rattle.pfr_manifest.specs.Access.{IsWritable}
use Rattle.pfr_filter.specs.Frames.{Passes}
use Rattle.pfr_filter.specs.declared.verdict.Verdict.TheVariants.{Pass}
use Rattle.pfr_bank.specs.Keeping.{manifest_in}
use Rattle.pfr_bank.specs.Seats.{RunningState}
use Rattle.pfr_bank.proofs.BusLemmas.{judged_by_manifest}
use Rattle.pfr_bank.proofs.running.Running.judge.Goals as goal

pub returns-clause-passes : goal.returns-clause-passes
returns-clause-passes g c = λ op.
    let r = c.self.inside in
    subst (λ (s : RunningState _). (c.judge_counted.result ≡ Pass op) ↔ Passes c.args.frame.now (IsWritable s.manifest s.layout) (size_of (g.F.Flash.device s.flash)) s.latch op) c.self.view_is
    (judged_by_manifest c.args.frame.now (manifest_in r.room) r.layout c.table.result.now c.size.result (size_of (g.F.Flash.device r.flash)) r.latch c.judge_counted.result op c.table.ensures c.size.ensures c.judge_counted.ensures.exact)
