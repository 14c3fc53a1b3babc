use Rattle.std.proofs.Common.{ap, subst, refl, ℕ}
use Rattle.pfr.specs.Played.{IsRunOf}
use Rattle.pfr.specs.Request.{RunRequest}
use Rattle.pfr.specs.Runs.{outside}
use Rattle.pfr.proofs.RunLemmas.{run_delivered, whole_run, has_whole}
use Rattle.pfr.proofs.run.run.Goals as goal

pub returns-in-Ok-Whole-clause-answers : goal.returns-in-Ok-Whole-clause-answers
returns-in-Ok-Whole-clause-answers g c =
    let s = g.S.Shelf in
    let k = g.K.Sink in
    let before = outside s.files s.faults s.failed k.written k.faults c.args.shelf.now c.args.out.now in
    let mid = outside s.files s.faults s.failed k.written k.faults c.load_files.new.shelf c.args.out.now in
    let after = outside s.files s.faults s.failed k.written k.faults c.deliver-status.new.shelf c.deliver-status.new.out in
    let played = rw c.in-Ok-Whole.field-0-is at c.in-Ok-Whole.ensures in
    let wear = subst (λ (wear : ℕ). IsRunOf wear c.in-Ok.loaded c.in-Ok-Whole.bench c.in-Ok-Whole.bench.script.items) (ap (λ (r : RunRequest). r.wear) c.request.view_is) played in
    run_delivered s.tells before mid after c.args.request.now c.in-Ok-Whole.bench c.deliver-status.result
    (whole_run s.tells before c.args.request.now c.in-Ok.loaded c.in-Ok-Whole.bench c.in-Ok.ensures.loaded c.in-Ok.ensures.loads.ok wear)
    c.load_files.ensures.loads.stays c.load_files.ensures.loads.later refl c.deliver-status.ensures.files

pub returns-in-Ok-Whole-clause-bench : goal.returns-in-Ok-Whole-clause-bench
returns-in-Ok-Whole-clause-bench g c =
    has_whole _ c.in-Ok.loaded c.in-Ok-Whole.bench (rw c.in-Ok-Whole.field-0-is at c.in-Ok-Whole.ensures)
