use Rattle.std.proofs.Common.{ap, arith}
use Rattle.pfr_flash.specs.Operation.{Erase}
use Rattle.pfr_flash.specs.MemFlash.{MemState}
use Rattle.pfr_flash.proofs.MemLemmas.{mem_does, mem_holds}
use Rattle.pfr_flash.proofs.AreBytesLemmas.{AreBytes-nil}
use Rattle.pfr_flash.proofs.mem_flash.MemFlashFlash.erase.Goals as goal

pub erase_at-requires-clause-known : goal.erase_at-requires-clause-known
erase_at-requires-clause-known c = c.outcome-outcome.ensures.known _ c.self.invariant.cut c.self.invariant.fault

pub returns-clause-does : goal.returns-clause-does
returns-clause-does c =
    let a = c.self.inside in
    mem_does (Erase c.args.sector) a.cells c.erase_at.new.cells a.rig c.finish.new.self a.taken a.read_fault c.op_count-count.result c.room.result c.outcome-outcome.result
    (c.outcome-outcome.ensures.ending a.cells.tears) c.op_count-count.ensures.count c.room.ensures c.erase_at.ensures c.finish.ensures.rig
    c.args.self.now.device c.finish.result tt c.args.self.now.bytes (omega arith) (ap (λ (m : MemState). m.device) c.self.view_is) c.finish.ensures.answer

pub invariant_of-self-inside : goal.invariant_of-self-inside
invariant_of-self-inside c =
    let a = c.self.inside in (
      mem_holds (Erase c.args.sector) a.cells c.erase_at.new.cells a.rig c.finish.new.self a.taken a.read_fault c.op_count-count.result c.room.result c.outcome-outcome.result
          (c.outcome-outcome.ensures.ending a.cells.tears) c.op_count-count.ensures.count c.room.ensures c.erase_at.ensures c.finish.ensures.rig AreBytes-nil a.bytes,
      tt,
    )
