use Rattle.std.proofs.Common.{◌∙◌, ap, ℕ, length}
use Rattle.pfr_flash.specs.Bytes.{bytes_at}
use Rattle.pfr_flash.specs.FlashState.{now}
use Rattle.pfr_flash.proofs.BytesLemmas.{length-blank}
use Rattle.pfr_copy.proofs.ContentsLemmas.{copy_read}
use Rattle.pfr_copy.proofs.contents.given_page.Goals as goal

pub returns-in_ok-read-in-Copy-clause-found : goal.returns-in_ok-read-in-Copy-clause-found
returns-in_ok-read-in-Copy-clause-found g c =
    let image = now (g.F.Flash.device c.args.flash.now) in
    copy_read image _ c.args.page c.in-Copy.at c.in-Copy.is (c.in_ok-read-in-Copy.ensures.bytes ∙ ap (λ (k : ℕ). bytes_at (now (g.F.Flash.device c.args.flash.now)) c.in-Copy.at k) (ap length c.blank_page-bytes.ensures ∙ length-blank))
