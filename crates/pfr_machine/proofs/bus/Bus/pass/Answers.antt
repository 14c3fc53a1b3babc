use Rattle.std.proofs.Common.{◌≡◌, ◌∙◌, ◌≤◌, ap, subst, arith, Ok, Err}
use Rattle.pfr_filter.specs.declared.verdict.Verdict.{Verdict}
use Rattle.pfr_machine.specs.Buses.{bus_world}
use Rattle.pfr_machine.specs.Worlds.{sides_world}
use Rattle.pfr_machine.proofs.BusLemmas.{Handed, bus_spare, fault_on, handed_bus, handed_owned, is_dark, is_locked, is_passed, ok_on}
use Rattle.pfr_machine.proofs.bus.Bus.pass.Goals as goal

pub bus-requires : goal.bus-requires
bus-requires g c = rw c.requires.passed c.requires.safe

pub note-requires-clause-seated : goal.note-requires-clause-seated
note-requires-clause-seated g c =
    let h = (subst (λ (v : Verdict). Handed g.F.Flash.device v c.args.self.running c.bus.new.self (Ok c.in-Ok.field-0)) c.requires.passed
    (record { follows = c.in-Ok.ensures.follows; idle = c.in-Ok.ensures.idle; latch = c.in-Ok.ensures.latch; rest = c.in-Ok.ensures.rest })) in
    handed_bus g.F.Flash.device c.args.self c.bus.new.self c.requires.seated c.args.op.now (Ok c.in-Ok.field-0) h
    (ok_on g.F.Flash.device c.args.self c.requires.seated c.requires.whole c.requires.room c.bus.new.self c.args.op.now c.in-Ok.field-0 h)

pub inner-requires : goal.inner-requires
inner-requires g c =
    let h = (subst (λ (v : Verdict). Handed g.F.Flash.device v c.args.self.running c.bus.new.self (Err c.in-Err-Fault.field-0)) c.requires.passed
    (record { follows = c.in-Err-Fault.ensures.follows; idle = c.in-Err-Fault.ensures.idle; latch = c.in-Err-Fault.ensures.latch; rest = c.in-Err-Fault.ensures.rest })) in
    record {
      seated = rw c.sides.ensures (handed_bus g.F.Flash.device c.args.self c.bus.new.self c.requires.seated c.args.op.now (Err c.in-Err-Fault.field-0) h
          (fault_on g.F.Flash.device c.args.self c.requires.seated c.requires.whole c.requires.room c.bus.new.self c.args.op.now c.in-Err-Fault.field-0 c.in-Err-Fault.field-0-is h));
    }

pub hold-requires : goal.hold-requires
hold-requires g c =
    let same : c.inner.result ≡ bus_world g.F.Flash.device (record c.args.self { running = c.bus.new.self }) = c.inner.ensures ∙ ap (λ s. sides_world g.F.Flash.device s) c.sides.ensures in
    let three : 3 ≤ c.inner.result.notes.spare = rw same (bus_spare g.F.Flash.device (record c.args.self { running = c.bus.new.self }) c.requires.room) in
    record { room = omega arith }

pub lock-requires-clause-room : goal.lock-requires-clause-room
lock-requires-clause-room g c =
    let same : c.inner.result ≡ bus_world g.F.Flash.device (record c.args.self { running = c.bus.new.self }) = c.inner.ensures ∙ ap (λ s. sides_world g.F.Flash.device s) c.sides.ensures in
    let three : 3 ≤ c.inner.result.notes.spare = rw same (bus_spare g.F.Flash.device (record c.args.self { running = c.bus.new.self }) c.requires.room) in
    omega (arith, c.hold.ensures.notes.spare)

pub lose-requires-clause-owned : goal.lose-requires-clause-owned
lose-requires-clause-owned g c =
    let h = (subst (λ (v : Verdict). Handed g.F.Flash.device v c.args.self.running c.bus.new.self (Err c.in-Err-Lost.field-0)) c.requires.passed
    (record { follows = c.in-Err-Lost.ensures.follows; idle = c.in-Err-Lost.ensures.idle; latch = c.in-Err-Lost.ensures.latch; rest = c.in-Err-Lost.ensures.rest })) in
    rw c.sides-in-Err-Lost.ensures (handed_owned g.F.Flash.device c.args.self c.bus.new.self c.requires.seated c.args.op.now (Err c.in-Err-Lost.field-0) h)

pub returns-in-Ok : goal.returns-in-Ok
returns-in-Ok g c =
    let h = (subst (λ (v : Verdict). Handed g.F.Flash.device v c.args.self.running c.bus.new.self (Ok c.in-Ok.field-0)) c.requires.passed
    (record { follows = c.in-Ok.ensures.follows; idle = c.in-Ok.ensures.idle; latch = c.in-Ok.ensures.latch; rest = c.in-Ok.ensures.rest })) in
    let done = is_passed g.F.Flash.device c.args.self c.requires.seated c.requires.whole c.requires.room c.bus.new.self c.args.op.now c.in-Ok.field-0 h c.note.result c.note.ensures in
    rw c.requires.passed (record { steps = done.steps; leaves = done.leaves; dark = done.dark })

pub returns-in-Err-Fault : goal.returns-in-Err-Fault
returns-in-Err-Fault g c =
    let h = (subst (λ (v : Verdict). Handed g.F.Flash.device v c.args.self.running c.bus.new.self (Err c.in-Err-Fault.field-0)) c.requires.passed
    (record { follows = c.in-Err-Fault.ensures.follows; idle = c.in-Err-Fault.ensures.idle; latch = c.in-Err-Fault.ensures.latch; rest = c.in-Err-Fault.ensures.rest })) in
    let same : c.inner.result ≡ bus_world g.F.Flash.device (record c.args.self { running = c.bus.new.self }) = c.inner.ensures ∙ ap (λ s. sides_world g.F.Flash.device s) c.sides.ensures in
    let done = is_locked g.F.Flash.device c.args.self c.requires.seated c.requires.whole c.requires.room c.bus.new.self c.args.op.now c.in-Err-Fault.field-0 h c.in-Err-Fault.field-0-is c.hold.result c.lock.result
    c.hold.ensures.bank (rw same at c.hold.ensures.other) (rw same at c.hold.ensures.ran) (rw same at c.hold.ensures.notes) c.lock.ensures.ran c.lock.ensures.leaves in
    rw c.requires.passed (record { steps = done.steps; leaves = done.leaves; dark = done.dark })

pub returns-in-Err-Lost : goal.returns-in-Err-Lost
returns-in-Err-Lost g c =
    let h = (subst (λ (v : Verdict). Handed g.F.Flash.device v c.args.self.running c.bus.new.self (Err c.in-Err-Lost.field-0)) c.requires.passed
    (record { follows = c.in-Err-Lost.ensures.follows; idle = c.in-Err-Lost.ensures.idle; latch = c.in-Err-Lost.ensures.latch; rest = c.in-Err-Lost.ensures.rest })) in
    let lost = rw (c.device_of.ensures, c.sides-in-Err-Lost.ensures) at c.lose.ensures in
    let done = is_dark g.F.Flash.device c.args.self c.requires.seated c.requires.whole c.requires.room c.bus.new.self c.args.op.now c.in-Err-Lost.field-0 h c.in-Err-Lost.field-0-is c.lose.result lost in
    rw c.requires.passed (record { steps = done.steps; leaves = done.leaves; dark = done.dark })
