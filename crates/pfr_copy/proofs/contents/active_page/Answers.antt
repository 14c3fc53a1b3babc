use Rattle.std.proofs.Common.{◌≡◌, ◌∙◌, sym, ap, ℕ, List, Option, Some, None, if◌then◌else◌, filter, arith}
use Rattle.pfr_flash.specs.FlashState.{now}
use Rattle.pfr_flash.proofs.EndsLemmas.{ends_content}
use Rattle.pfr_flash.proofs.RangeLemmas.{length-now}
use Rattle.pfr_manifest.specs.declared.manifest.Manifest.{Manifest}
use Rattle.pfr_manifest.specs.declared.region.Region.{Region}
use Rattle.pfr_capsule.specs.Maps.{in_some_region}
use Rattle.pfr_capsule.specs.PageBytes.{page_bytes}
use Rattle.pfr_capsule.specs.Pages.{page_of}
use Rattle.pfr_capsule.specs.declared.pages.Pages.{Pages}
use Rattle.pfr_capsule.specs.declared.span.Span.{Span}
use Rattle.pfr_rebuilt.specs.ActiveCopying.{is_taken, is_kept, is_active_page, active_page}
use Rattle.pfr_copy.proofs.ContentsLemmas.{if_ok, given_is, text_inside}
use Rattle.pfr_copy.proofs.contents.active_page.Goals as goal

pub text_page-requires-clause-inside : goal.text_page-requires-clause-inside
text_page-requires-clause-inside g c =
    let d = g.F.Flash.device c.args.flash.now in
    omega (arith, text_inside (now d) c.args.layout.now c.args.capsule.now c.requires.can, ap (λ (s : Span). s.at) c.signed_manifest.ensures, ap (λ (s : Span). s.len) c.signed_manifest.ensures, length-now d)

pub page-requires-clause-inside : goal.page-requires-clause-inside
page-requires-clause-inside g c = omega (arith, c.requires.can.bits, c.requires.page, length-now (g.F.Flash.device c.args.flash.now), ap (λ (p : Pages). p.bits) c.pages.ensures)

pub returns-clause-found : goal.returns-clause-found
returns-clause-found g c =
    let image = now (g.F.Flash.device c.args.flash.now) in
    let later = now (g.F.Flash.device c.page.new.flash) in
    if_ok (λ (found : Option (List ℕ)). found ≡ (if is_kept c.in_ok-page.page then None else Some (page_bytes (now (g.F.Flash.device c.page.new.flash)) c.in_ok-page.page)))
    (λ (found : Option (List ℕ)). found ≡ (if is_active_page c.args.kind (now (g.F.Flash.device c.args.flash.now)) c.args.capsule.now c.args.layout.now c.args.n then Some (active_page (now (g.F.Flash.device c.args.flash.now)) c.args.capsule.now c.args.layout.now c.args.n) else None))
    c.given_page.result
    (λ found h. given_is image later c.args.capsule.now c.args.layout.now c.args.kind c.args.n c.in_ok-page.page found (sym c.holds_text.ensures ∙ c.if-holds_text.false)
    (sym (c.in_taken_region.ensures ∙ ap (λ (m : Manifest). in_some_region (filter (λ (region : Region). is_taken c.args.kind region) m.regions) c.args.n) c.manifest.ensures) ∙ c.if-not-in_taken_region.false)
    (c.in_ok-page.ensures.found ∙ ap (λ (p : Pages). page_of (now (g.F.Flash.device c.args.flash.now)) p c.args.n) c.pages.ensures) (ends_content c.in_ok-page.ensures.ends) h)
    c.given_page.ensures.found
