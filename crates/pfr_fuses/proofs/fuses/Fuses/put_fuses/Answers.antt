use Rattle.pfr_fuses.proofs.FillingLemmas.{filled}
use Rattle.pfr_fuses.proofs.fuses.Fuses.put_fuses.Goals as goal

pub returns-clause-bytes : goal.returns-clause-bytes
returns-clause-bytes c = rw (← c.self.view_is)
    (filled c.args.bytes.now c.self.inside.floors.bmc c.self.inside.floors.pch c.self.inside.rows.pch_manifest c.self.inside.rows.pch_capsule c.self.inside.rows.bmc_manifest c.self.inside.rows.bmc_capsule
    _ _ _ _ _ _ c.requires c.bytes.ensures.size c.bytes-2.ensures.size c.bytes-3.ensures.size c.bytes-4.ensures.size c.bytes-5.ensures.size c.bytes-6.ensures.size
    (rw c.bytes.ensures.bytes at c.put.ensures) (rw c.bytes-2.ensures.bytes at c.put-2.ensures) (rw c.bytes-3.ensures.bytes at c.put-3.ensures)
    (rw c.bytes-4.ensures.bytes at c.put-4.ensures) (rw c.bytes-5.ensures.bytes at c.put-5.ensures) (rw c.bytes-6.ensures.bytes at c.put-6.ensures))

pub returns-clause-rows : goal.returns-clause-rows
returns-clause-rows c = rw (← c.self.view_is) (record {
  bmc_floor = c.bytes.ensures.size;
  pch_floor = c.bytes-2.ensures.size;
  pch_manifest = c.bytes-3.ensures.size;
  pch_capsule = c.bytes-4.ensures.size;
  bmc_manifest = c.bytes-5.ensures.size;
  bmc_capsule = c.bytes-6.ensures.size;
})
