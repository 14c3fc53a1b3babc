use Rattle.pfr_flash.proofs.MemLemmas.{arms_cut}
use Rattle.pfr_flash.proofs.mem_flash.MemFlashRigged.arm_cut.Goals as goal

pub invariant_of-self-inside : goal.invariant_of-self-inside
invariant_of-self-inside c =
    let a = c.self.inside in
    (arms_cut a.cells _ a.rig a.taken a.read_fault _ _ c.args.tear.now a.bytes c.self.invariant.fault c.keep-place.ensures.bytes c.keep-place.ensures.kept c.keep-place.ensures.place, tt)
