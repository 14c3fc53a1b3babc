use Rattle.std.proofs.Common.{arith}
use Rattle.pfr_flash.proofs.RangeLemmas.{length-now}
use Rattle.pfr_fuses.proofs.FloorLemmas.{kept_row}
use Rattle.pfr_fuses.proofs.fuse_rows.read_fuses.Goals as goal

pub returns-clause-found : goal.returns-clause-found
returns-clause-found g c =
    kept_row _ c.args.at c.args.width g.row.BYTES _ _ c.new.ensures c.in_ok-read.ensures.bytes (omega (arith, length-now (g.F.Flash.device c.args.nv.now))) (omega arith)
