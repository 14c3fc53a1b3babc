use Rattle.std.proofs.Common.{◌+◌, ◌<◌, ap, arith, length}
use Rattle.pfr_shelf.proofs.ReadingLemmas.{whole_read}
use Rattle.pfr_shelf.proofs.reading.read_at_most.Goals as goal

pub returns-clause-bytes : goal.returns-clause-bytes
returns-clause-bytes g c =
    let short : length c.read_to_end.new.buf.items < c.args.limit + 1 = omega (arith, c.if-len-limit.false, c.len.ensures) in
    whole_read (g.F.Read.remaining c.args.file) (g.F.Read.remaining c.take.result.inner) (c.args.limit + 1) c.take.result.limit c.in-Ok.bytes.items c.read_to_end.new.buf.items
    (ap g.F.Read.remaining c.take.ensures.inner) c.take.ensures.limit c.in-Ok.ensures c.in-Ok-read_to_end.ensures.bytes short
