use Rattle.std.proofs.Common.{◌*◌, ◌<◌, length, arith, rules}
use Rattle.pfr_flash.specs.FuseRow.{with_cleared}
use Rattle.pfr_flash.proofs.FuseLemmas.{IsCleared-with_cleared}
use Rattle.pfr_flash.proofs.fuse_row.FuseRow.cleared.Goals as goal

pub returns-clause-bytes : goal.returns-clause-bytes
unfolding with_cleared
returns-clause-bytes g c = rw c.fuse_byte.ensures (search rules)

pub returns-clause-cleared : goal.returns-clause-cleared
unfolding with_cleared
returns-clause-cleared g c = λ k below.
    let row_len = c.self.told in
    let within : c.args.bit < 8 * length c.self.inside.bytes = omega (arith, row_len) in
    rw (c.fuse_byte.ensures, ← c.self.view_is) (IsCleared-with_cleared c.self.inside.bytes c.args.bit k within)
