use Rattle.std.proofs.Common.{ap, arith}
use Rattle.pfr_flash.specs.Operation.{Program}
use Rattle.pfr_flash.specs.MemFlash.{MemState}
use Rattle.pfr_flash.proofs.MemLemmas.{mem_does, mem_holds}
use Rattle.pfr_flash.proofs.mem_flash.MemFlashFlash.program.Goals as goal

pub program_at-requires-clause-known : goal.program_at-requires-clause-known
program_at-requires-clause-known c = c.outcome-outcome.ensures.known _ c.self.invariant.cut c.self.invariant.fault

pub returns-clause-does : goal.returns-clause-does
returns-clause-does c =
    let a = c.self.inside in
    mem_does (Program c.args.at c.args.bytes.now) a.cells c.program_at.new.cells a.rig c.finish.new.self a.taken a.read_fault c.op_count-count.result c.room.result c.outcome-outcome.result
    (c.outcome-outcome.ensures.ending a.cells.tears) c.op_count-count.ensures.count c.room.ensures c.program_at.ensures c.finish.ensures.rig
    c.args.self.now.device c.finish.result tt c.args.self.now.bytes c.requires.within (ap (λ (m : MemState). m.device) c.self.view_is) c.finish.ensures.answer

pub invariant_of-self-inside : goal.invariant_of-self-inside
invariant_of-self-inside c =
    let a = c.self.inside in (
      mem_holds (Program c.args.at c.args.bytes.now) a.cells c.program_at.new.cells a.rig c.finish.new.self a.taken a.read_fault c.op_count-count.result c.room.result c.outcome-outcome.result
          (c.outcome-outcome.ensures.ending a.cells.tears) c.op_count-count.ensures.count c.room.ensures c.program_at.ensures c.finish.ensures.rig (λ i. omega (arith, c.type_inv.bytes i)) a.bytes,
      tt,
    )
