use Rattle.pfr_flash.proofs.MemLemmas.{arms_fault}
use Rattle.pfr_flash.proofs.mem_flash.MemFlashRigged.arm_fault.Goals as goal

pub invariant_of-self-inside : goal.invariant_of-self-inside
invariant_of-self-inside c =
    let a = c.self.inside in
    (arms_fault a.cells _ a.rig a.taken a.read_fault _ _ c.args.tear.now a.bytes c.self.invariant.cut c.keep-place.ensures.bytes c.keep-place.ensures.kept c.keep-place.ensures.place, tt)
