use Rattle.std.proofs.Common.{◌≡◌, ◌∙◌, ◌+◌, ap, ℕ, length, take, arith, length-take}
use Rattle.pfr_flash.specs.Bytes.{bytes_at}
use Rattle.pfr_flash.specs.FlashState.{now}
use Rattle.pfr_flash.proofs.BytesLemmas.{length-blank}
use Rattle.pfr_flash.proofs.RangeLemmas.{length-now}
use Rattle.pfr_copy.proofs.ContentsLemmas.{front_read, none_read}
use Rattle.pfr_copy.proofs.contents.text_page.Goals as goal

pub returns-in_ok-read-clause-found : goal.returns-in_ok-read-clause-found
returns-in_ok-read-clause-found g c =
    let long : length (take c.min-count.result c.blank_page-page.result) ≡ c.min-count.result =
    omega (arith, length-take c.min-count.result c.blank_page-page.result, ap length c.blank_page-page.ensures, length-blank, c.min-count.ensures) in
    front_read (now (g.F.Flash.device c.args.flash.now)) _ c.blank_page-page.result c.args.text.at c.args.text.len c.args.off c.min-count.result (omega (arith, c.requires.inside, length-now (g.F.Flash.device c.args.flash.now)))
    c.if-off-text.true c.min-count.ensures c.blank_page-page.ensures
    (c.in_ok-read.ensures.bytes ∙ ap (λ (n : ℕ). bytes_at (now (g.F.Flash.device c.args.flash.now)) (c.args.text.at + c.args.off) n) long)

pub returns-else-off-text-clause-found : goal.returns-else-off-text-clause-found
returns-else-off-text-clause-found g c =
    none_read (now (g.F.Flash.device c.args.flash.now)) c.blank_page-page.result c.args.text.at c.args.text.len c.args.off (omega (arith, c.if-off-text.false)) c.blank_page-page.ensures
