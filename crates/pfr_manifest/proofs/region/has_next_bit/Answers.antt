use Rattle.std.proofs.Common.{◌≡◌, ◌+◌, arith}
use Rattle.std.specs.Int.{bit_at}
use Rattle.std.proofs.lemmas.Bool.{le-ltb}
use Rattle.std.proofs.lemmas.Nat.Bits.{bit_at_above}
use Rattle.pfr_manifest.proofs.region.has_next_bit.Goals as goal

-- a byte has no bit from 8 on
pub returns-else-bit-lt7 : goal.returns-else-bit-lt7
returns-else-bit-lt7 c =
    let none : bit_at c.args.mask (c.args.bit + 1) ≡ 0 = bit_at_above c.args.mask 8 (c.args.bit + 1) c.ranges.mask.fits (omega (arith, c.if-bit-lt7.false)) in
    rw none (le-ltb c.args.bit 7 c.if-bit-lt7.false)
