use Rattle.pfr.specs.Runs.{outside}
use Rattle.pfr.specs.Top.{asked}
use Rattle.pfr.proofs.BenchLemmas.{each_changes, each_events, each_grows, each_locks, each_provision, each_releases, each_spans}
use Rattle.pfr.proofs.HeadlineLemmas.{each_counted, each_jobless, each_powers, each_recoverable}
use Rattle.pfr.proofs.ScriptLemmas.{each_calm, each_counted_fault, each_scripted, each_undisturbed}
use Rattle.pfr.proofs.CommandLemmas.{breach, complete}
use Rattle.pfr.proofs.TopLemmas.{files_spare, files_stay, output_and_line}
use Rattle.pfr.proofs.WorthLemmas.{worth_of}
use Rattle.pfr.proofs.top.pfr.Goals as goal

pub returns-clause-output : goal.returns-clause-output
returns-clause-output g c =
    let s = g.S.Shelf in
    let k = g.K.Sink in
    output_and_line s.tells k.tells s.files s.faults s.failed k.written k.faults c.args.shelf.now c.serve-finished.new.shelf c.args.out.now c.serve-finished.new.out c.tell.new.out
    (asked c.args.words.now) c.serve-finished.result.bench c.serve-finished.result.status c.tell.result c.serve-finished.ensures.sink_later c.tell.ensures c.serve-finished.ensures.output

pub returns-clause-breach : goal.returns-clause-breach
returns-clause-breach g c =
    let s = g.S.Shelf in
    let k = g.K.Sink in
    let e = c.serve-finished.ensures in
    let before = outside s.files s.faults s.failed k.written k.faults c.args.shelf.now c.args.out.now in
    let after = outside s.files s.faults s.failed k.written k.faults c.serve-finished.new.shelf c.serve-finished.new.out in
    breach s.tells before after (asked c.args.words.now) c.serve-finished.result.bench c.serve-finished.result.status
    (record { run = e.run; check = e.check; make = e.make; provision = e.furnish; cert = e.certify })

pub returns-clause-complete : goal.returns-clause-complete
returns-clause-complete g c =
    let s = g.S.Shelf in
    let k = g.K.Sink in
    let e = c.serve-finished.ensures in
    let before = outside s.files s.faults s.failed k.written k.faults c.args.shelf.now c.args.out.now in
    let after = outside s.files s.faults s.failed k.written k.faults c.serve-finished.new.shelf c.serve-finished.new.out in
    complete s.tells before after (k.faults c.tell.new.out) (asked c.args.words.now) c.serve-finished.result.bench c.serve-finished.result.status c.tell.ensures.later
    (record { run = e.run; check = e.check; make = e.make; provision = e.furnish; cert = e.certify })

pub returns-clause-spares : goal.returns-clause-spares
returns-clause-spares g c =
    let s = g.S.Shelf in
    let k = g.K.Sink in
    let e = c.serve-finished.ensures in
    let before = outside s.files s.faults s.failed k.written k.faults c.args.shelf.now c.args.out.now in
    let after = outside s.files s.faults s.failed k.written k.faults c.serve-finished.new.shelf c.serve-finished.new.out in
    files_spare s.tells before after (asked c.args.words.now) c.serve-finished.result.bench c.serve-finished.result.status
    (record { run = e.run; check = e.check; make = e.make; provision = e.furnish; cert = e.certify })

pub returns-clause-stays : goal.returns-clause-stays
returns-clause-stays g c =
    let s = g.S.Shelf in
    let k = g.K.Sink in
    let e = c.serve-finished.ensures in
    let before = outside s.files s.faults s.failed k.written k.faults c.args.shelf.now c.args.out.now in
    let after = outside s.files s.faults s.failed k.written k.faults c.serve-finished.new.shelf c.serve-finished.new.out in
    files_stay s.tells before after (asked c.args.words.now) c.serve-finished.result.bench c.serve-finished.result.status e.unused
    (record { run = e.run; check = e.check; make = e.make; provision = e.furnish; cert = e.certify })

pub returns-clause-worth : goal.returns-clause-worth
returns-clause-worth g c =
    let s = g.S.Shelf in
    let k = g.K.Sink in
    let e = c.serve-finished.ensures in
    let before = outside s.files s.faults s.failed k.written k.faults c.args.shelf.now c.args.out.now in
    let after = outside s.files s.faults s.failed k.written k.faults c.serve-finished.new.shelf c.serve-finished.new.out in
    λ request asks told done. worth_of s.tells before after request c.serve-finished.result.bench c.serve-finished.result.status (e.make request asks) told done

pub returns-clause-spans : goal.returns-clause-spans
returns-clause-spans g c = each_spans c.serve-finished.result.bench c.serve-finished.ensures.bench

pub returns-clause-releases : goal.returns-clause-releases
returns-clause-releases g c = each_releases c.serve-finished.result.bench c.serve-finished.ensures.bench

pub returns-clause-recoverable : goal.returns-clause-recoverable
returns-clause-recoverable g c = each_recoverable c.serve-finished.result.bench c.serve-finished.ensures.bench

pub returns-clause-powers : goal.returns-clause-powers
returns-clause-powers g c = each_powers c.serve-finished.result.bench c.serve-finished.ensures.bench

pub returns-clause-counted : goal.returns-clause-counted
returns-clause-counted g c = each_counted c.serve-finished.result.bench c.serve-finished.ensures.bench

pub returns-clause-no_job : goal.returns-clause-no_job
returns-clause-no_job g c = each_jobless c.serve-finished.result.bench c.serve-finished.ensures.bench

pub returns-clause-grows : goal.returns-clause-grows
returns-clause-grows g c = each_grows c.serve-finished.result.bench c.serve-finished.ensures.bench

pub returns-clause-provision : goal.returns-clause-provision
returns-clause-provision g c = each_provision c.serve-finished.result.bench c.serve-finished.ensures.bench

pub returns-clause-changes : goal.returns-clause-changes
returns-clause-changes g c = each_changes c.serve-finished.result.bench c.serve-finished.ensures.bench

pub returns-clause-locks : goal.returns-clause-locks
returns-clause-locks g c = each_locks c.serve-finished.result.bench c.serve-finished.ensures.bench

pub returns-clause-events : goal.returns-clause-events
returns-clause-events g c = each_events c.serve-finished.result.bench c.serve-finished.ensures.bench

pub returns-clause-faults : goal.returns-clause-faults
returns-clause-faults g c = each_counted_fault c.serve-finished.result.bench c.serve-finished.ensures.bench

pub returns-clause-scripted : goal.returns-clause-scripted
returns-clause-scripted g c = each_scripted c.serve-finished.result.bench c.serve-finished.ensures.bench

pub returns-clause-undisturbed : goal.returns-clause-undisturbed
returns-clause-undisturbed g c = each_undisturbed c.serve-finished.result.bench c.serve-finished.ensures.bench

pub returns-clause-calm : goal.returns-clause-calm
returns-clause-calm g c = each_calm c.serve-finished.result.bench c.serve-finished.ensures.bench
