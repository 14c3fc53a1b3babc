use Rattle.std.proofs.Common.{List, ℕ, None, length, sym, ap, ◌∙◌, subst}
use Rattle.pfr_flash.specs.Bytes.{bytes_at}
use Rattle.pfr_flash.specs.FlashState.{now}
use Rattle.pfr_flash.specs.Reading.{EndsAt}
use Rattle.pfr_flash.proofs.BytesLemmas.{length-blank}
use Rattle.pfr_flash.proofs.EndsLemmas.{EndsAt-refl}
use Rattle.pfr_capsule.proofs.PageBytesLaws.{gives_blank, gives_copy}
use Rattle.pfr_capsule.proofs.page_bytes.feed_page.Goals as goal
use Rattle.pfr_capsule.proofs.page_bytes.feed_page.Goals.{in-Blank, in-Copy+in_ok-read-in-Copy}

pub returns-in-Keep-clause-ends : goal.returns-in-Keep-clause-ends
returns-in-Keep-clause-ends g c = EndsAt-refl _

pub returns-clause-fed : goal.returns-clause-fed
returns-clause-fed g c = λ m h. elim c.match-page.branch [
  | in-Blank w ↦ subst (λ (t : List ℕ). g.H.Digest.holds c.update.new.self t)
      (gives_blank _ _ m c.args.page w.in-Blank.is (w.bytes-is ∙ c.blank_page-bytes.ensures)) (c.update.ensures m h)
  | in-Copy+in_ok-read-in-Copy w ↦ subst (λ (t : List ℕ). g.H.Digest.holds c.update.new.self t)
      (gives_copy _ _ m c.args.page w.in-Copy.at w.in-Copy.is (w.bytes-is ∙ w.in_ok-read-in-Copy.ensures.bytes ∙ ap (λ (k : ℕ). bytes_at (now (g.F.Flash.device c.args.flash.now)) w.in-Copy.at k) (ap length c.blank_page-bytes.ensures ∙ length-blank))) (c.update.ensures m h)
]

pub returns-clause-ends : goal.returns-clause-ends
returns-clause-ends g c = elim c.match-page.branch [
  | in-Blank w ↦ subst (λ (d : g.row.F.Denot). EndsAt None (g.F.Flash.device c.args.flash.now) (g.F.Flash.device d)) (sym w.flash-is) (EndsAt-refl _)
  | in-Copy+in_ok-read-in-Copy w ↦ subst (λ (d : g.row.F.Denot). EndsAt None (g.F.Flash.device c.args.flash.now) (g.F.Flash.device d)) (sym w.flash-is) w.in_ok-read-in-Copy.ensures.reads.ends
]
