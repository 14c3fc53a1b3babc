use Rattle.std.proofs.Common.{arith}
use Rattle.pfr_report.specs.declared.note.LockWhy.TheVariants.{StoreFault}
use Rattle.pfr_machine.proofs.WorldLemmas.{AddsNotes-most, AddsNotes-then}
use Rattle.pfr_machine.proofs.StandLemmas.{both_locked, leaves_on}
use Rattle.pfr_machine.proofs.ProvisionLemmas.{crossed, locked, cut_off}
use Rattle.pfr_machine.proofs.inner.Inner.provision.Goals as goal

pub returns-in-Ok-clause-follows : goal.returns-in-Ok-clause-follows
returns-in-Ok-clause-follows g c = crossed c.args.what.now _ _ c.in-Ok.ensures.goes

pub returns-in-Lost-clause-follows : goal.returns-in-Lost-clause-follows
returns-in-Lost-clause-follows g c = cut_off c.args.what.now c.in-Err.stop.device c.in-Err.stop.fail _ _ _ c.in-Lost.is c.in-Err.ensures.goes c.lose.ensures.ran

pub returns-in-Fault-clause-follows : goal.returns-in-Fault-clause-follows
returns-in-Fault-clause-follows g c =
    locked c.args.what.now c.in-Err.stop.device c.in-Err.stop.fail _ _ _ _ c.in-Fault.is c.in-Err.ensures.goes c.lock.ensures.ran c.lock-in-Fault.ensures.ran

pub returns-in-Fault-clause-leaves : goal.returns-in-Fault-clause-leaves
returns-in-Fault-clause-leaves g c =
    let l = both_locked StoreFault _ _ _ c.lock.ensures.ran c.lock-in-Fault.ensures.ran in
    leaves_on 64 _ _ l.0 l.1 c.lock-in-Fault.ensures.on
    (AddsNotes-most 3 64 _ _ (AddsNotes-then 1 2 _ _ _ c.in-Err.ensures.stays.notes (AddsNotes-then 1 1 _ _ _ c.lock.ensures.notes c.lock-in-Fault.ensures.notes)) (omega arith))

pub returns-in-Fault-clause-dark : goal.returns-in-Fault-clause-dark
returns-in-Fault-clause-dark g c = λ off. absurd ((both_locked StoreFault _ _ _ c.lock.ensures.ran c.lock-in-Fault.ensures.ran).0 off)
