use Rattle.std.proofs.Common.{◌≡◌, length, arith}
use Rattle.std.proofs.lemmas.Bool.Decides.{nat_tests}
use Rattle.pfr_flash.specs.Bytes.{bytes_at}
use Rattle.pfr_flash.specs.FlashState.{now, size_of}
use Rattle.pfr_flash.proofs.BytesLemmas.{length-bytes_at}
use Rattle.pfr_flash.proofs.RangeLemmas.{length-now}
use Rattle.pfr_manifest.specs.Judge.{judge_tail}
use Rattle.pfr_manifest.proofs.reading.tail_at.Goals as goal

pub returns-then-left-ge128-clause-exact : goal.returns-then-left-ge128-clause-exact
unfolding judge_tail
returns-then-left-ge128-clause-exact g c =
    let device = g.F.Flash.device c.args.flash.now in
    let l : length (now device) ≡ size_of device = length-now device in
    let e : length (bytes_at (now device) c.args.place c.args.left) ≡ c.args.left = length-bytes_at (now device) c.args.place c.args.left (omega arith) in
    grind (arith, nat_tests)
