use Rattle.std.proofs.Common.{◌≡◌, ◌∙◌, ap, sym, ℕ, ◌+◌, ◌/◌, List, length, take, replicate, rules, arith}
use Rattle.pfr_flash.specs.Bytes.{bytes_at}
use Rattle.pfr_flash.specs.FlashState.{FlashState, now}
use Rattle.pfr_flash.proofs.RangeLemmas.{length-now}
use Rattle.pfr_flash.proofs.EndsLemmas.{then_ends}
use Rattle.pfr_capsule.proofs.PagesRead.{pages_judged, has_index, long_front}
use Rattle.pfr_capsule.proofs.judging.pages_at.Goals as goal

pub returns : goal.returns
returns g c =
    let old : FlashState = g.F.Flash.device c.args.flash.now in
    let bytes : ℕ = c.args.header.now.map_bits / 8 in
    let long : length {A = ℕ} (take bytes (replicate 2048 0)) ≡ bytes = long_front bytes 2048 (omega (arith, c.requires.few)) in
    let erased : c.read.new.into ≡ bytes_at (now old) c.args.at bytes = c.in_ok-read.ensures.bytes ∙ ap (bytes_at (now old) c.args.at) long in
    let copied : c.read-2.new.into ≡ bytes_at (now old) (c.args.at + bytes) bytes =
    c.in_ok-read-2.ensures.bytes ∙ ap (bytes_at (now (g.F.Flash.device c.read.new.self)) (c.args.at + bytes)) long ∙ ap (λ (image : List ℕ). bytes_at image (c.args.at + bytes) bytes) c.read.ensures.reads.reads.content in
    record {
      exact = pages_judged (now old) c.args.at c.args.header.now c.read.new.into c.read-2.new.into c.index.result erased copied c.index.ensures.each c.args.regions.now c.index.ensures.long (sym c.in_ok-check_maps.ensures.exact);
      index = has_index (now old) c.args.at c.args.header.now c.read.new.into c.read-2.new.into c.index.result erased copied c.index.ensures.each c.requires.few c.requires.whole (omega (arith, c.requires.inside, length-now old)) c.in_ok-check_maps.ensures.payload;
      bits = search rules;
      ends = then_ends c.in_ok-read.ensures.reads.ends c.in_ok-read-2.ensures.reads.ends;
    }
