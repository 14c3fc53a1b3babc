use Rattle.std.proofs.Common.{◌≡◌, ap, min, take, length, arith}
use Rattle.std.proofs.lemmas.List.{take_min}
use Rattle.pfr_shelf.proofs.failure.Failure.new.Goals as goal

pub returns : goal.returns
returns c =
    let len : c.min-len.result ≡ min 4096 (length c.args.name.now) = omega (arith, ap length c.as_bytes-bytes.ensures.value) in
    let kept : take c.min-len.result c.as_bytes-bytes.result.now ≡ take 4096 c.args.name.now = rw (len, c.as_bytes-bytes.ensures.value) (take_min 4096 c.args.name.now) in
    rw (c.in-Ok.ensures.ok, c.new-name.ensures, kept)
