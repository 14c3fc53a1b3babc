use Rattle.std.proofs.Common.{◌≡◌, arith, rules}
use Rattle.pfr_flash.proofs.BytesLemmas.{put_mid_is}
use Rattle.pfr_fuses.proofs.filling.put.Goals as goal

pub returns : goal.returns
returns c =
    let same : c.copy_from_slice.new.self ≡ c.args.part.now = search rules in
    rw same (put_mid_is c.args.bytes.now c.args.at c.args.part.now _ c.requires (omega arith))
