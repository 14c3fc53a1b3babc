use Rattle.pfr_fuses.specs.RootSlot.{layout_bytes}
use Rattle.pfr_fuses.proofs.FillingLemmas.{filled_five}
use Rattle.pfr_fuses.proofs.RootSlotLemmas.{length-number}
use Rattle.pfr_fuses.proofs.root_slot.put_layout.Goals as goal

pub returns-clause-bytes : goal.returns-clause-bytes
unfolding layout_bytes
returns-clause-bytes c = filled_five c.args.bytes.now _ _ _ _ _ _ _ _ _ _ c.requires
    (length-number c.args.layout.now.manifest_at) (length-number c.args.layout.now.manifest_len) (length-number c.args.layout.now.recovery_at) (length-number c.args.layout.now.staging_at) (length-number c.args.layout.now.area_len)
    (rw c.number_bytes.ensures at c.put.ensures) (rw c.number_bytes-2.ensures at c.put-2.ensures) (rw c.number_bytes-3.ensures at c.put-3.ensures)
    (rw c.number_bytes-4.ensures at c.put-4.ensures) (rw c.number_bytes-5.ensures at c.put-5.ensures)
