-- What is read of a text is a page of it, and what is read of a page is what the capsule gives.
use Rattle.std.proofs.Common.{◌≡◌, ◌∙◌, refl, sym, ap, ℕ, ◌+◌, ◌-◌, ◌≤◌, ◌<◌, Bool, true, false, not, if◌then◌else◌, filter, Result, Ok, Err, IfOk, min, List, [], ◌++◌, take, drop, length, Option, Some, None, arith, ◌⊎◌, inl, inr}
use Rattle.std.proofs.lemmas.Bool.{cases_lt}
use Rattle.std.proofs.lemmas.List.{drop-drop, drop-take, take_all, drop_all, length-take}
use Rattle.pfr_flash.specs.Bytes.{blank, bytes_at, continued}
use Rattle.pfr_flash.proofs.BytesLemmas.{continued_is, length-bytes_at}
use Rattle.pfr_flash.proofs.PartsLemmas.{part_of}
use Rattle.pfr_flash.specs.declared.layout.Layout.{Layout}
use Rattle.pfr_manifest.specs.declared.region.Region.{Region}
use Rattle.pfr_capsule.specs.CapsuleState.{CapsuleState}
use Rattle.pfr_capsule.specs.Maps.{in_some_region}
use Rattle.pfr_capsule.specs.Pages.{page_of}
use Rattle.pfr_jobs.specs.declared.job.JobKind.{JobKind}
use Rattle.pfr_copy.specs.Applying.{CanApply, LiesInArea}
use Rattle.pfr_capsule.specs.PageBytes.{page_bytes}
use Rattle.pfr_capsule.specs.declared.pages.Page.{Page}
use Rattle.pfr_capsule.specs.declared.pages.Page.TheVariants.{Copy}
use Rattle.pfr_rebuilt.specs.Copying.{text_page, holds_text}
use Rattle.pfr_rebuilt.specs.ActiveCopying.{is_taken, is_kept, is_active_page, active_page}

-- ---- a page of a text
-- a part that would pass the text's end is the rest of it
rest_of_text : (image : List ℕ) (at len off : ℕ) → off < len → len - off ≤ 4096 → bytes_at (bytes_at image at len) off 4096 ≡ bytes_at image (at + off) (len - off)
rest_of_text image at len off some short =
    let is : off + (len - off) ≡ len = omega arith in
    let few : length (take (len - off) (drop (at + off) image)) ≤ 4096 = omega (arith, short, length-take (len - off) (drop (at + off) image)) in
    ap (λ (n : ℕ). bytes_at (bytes_at image at n) off 4096) (sym is)
    ∙ ap (λ (xs : List ℕ). take 4096 xs) (drop-take off (len - off) (drop at image) ∙ ap (λ (xs : List ℕ). take (len - off) xs) (drop-drop off at image))
    ∙ take_all 4096 (take (len - off) (drop (at + off) image)) few

part_of_text : (image : List ℕ) (at len off : ℕ) → off < len → bytes_at (bytes_at image at len) off 4096 ≡ bytes_at image (at + off) (min (len - off) 4096)
part_of_text image at len off some = by_length (cases_lt 4096 (len - off))
  where
    by_length : (4096 < len - off) ⊎ (len - off ≤ 4096) → bytes_at (bytes_at image at len) off 4096 ≡ bytes_at image (at + off) (min (len - off) 4096)
    by_length (inl long) =
        let is : 4096 ≡ min (len - off) 4096 = omega arith in
        part_of image at len off 4096 (omega arith) ∙ ap (λ (n : ℕ). bytes_at image (at + off) n) is
    by_length (inr short) =
        let is : len - off ≡ min (len - off) 4096 = omega arith in
        rest_of_text image at len off some short ∙ ap (λ (n : ℕ). bytes_at image (at + off) n) is

pub front_read : (image into page : List ℕ) (at len off count : ℕ) → at + len ≤ length image → off < len → count ≡ min (len - off) 4096 → page ≡ blank → into ≡ bytes_at image (at + off) count
    → into ++ drop count page ≡ text_page (bytes_at image at len) off
unfolding text_page
front_read image into page at len off count inside some few erased read =
    let long : length into ≡ count = ap length read ∙ length-bytes_at image (at + off) count (omega (arith, inside, some, few)) in
    let is : into ≡ bytes_at (bytes_at image at len) off 4096 = read ∙ ap (λ (n : ℕ). bytes_at image (at + off) n) few ∙ sym (part_of_text image at len off some) in
    ap (λ (xs : List ℕ). into ++ drop count xs) erased ∙ ap (λ (n : ℕ). into ++ drop n blank) (sym long) ∙ continued_is into (omega (arith, long, few)) ∙ ap (λ (xs : List ℕ). continued xs 4096) is

pub none_read : (image page : List ℕ) (at len off : ℕ) → len ≤ off → page ≡ blank → page ≡ text_page (bytes_at image at len) off
unfolding text_page
none_read image page at len off past erased =
    let none : drop off (bytes_at image at len) ≡ [] = drop_all off (bytes_at image at len) (omega (arith, past, length-take len (drop at image))) in
    erased ∙ continued_is [] (omega arith) ∙ ap (λ (xs : List ℕ). continued (take 4096 xs) 4096) (sym none)

-- ---- a page of a capsule
pub copy_read : (image into : List ℕ) (page : Page) (at : ℕ) → page ≡ Copy at → into ≡ bytes_at image at 4096 → Some into ≡ (if is_kept page then None else Some (page_bytes image page))
copy_read image into page at is read = rw is (ap (λ (xs : List ℕ). Some xs) read)

-- ---- what was found for a page
pub if_ok : {A E : Type 0} (P Q : A → Type 0) (result : Result A E) → ((x : A) → P x → Q x) → IfOk result P → IfOk result Q
if_ok P Q (Ok x) f h = f x h
if_ok P Q (Err e) f h = tt

or_none : (kept : Bool) (bytes : List ℕ) → (if kept then None else Some bytes) ≡ (if not kept then Some bytes else None)
or_none true bytes = refl
or_none false bytes = refl

-- a page of a taken region, outside of the manifest area
pub given_is : (image later : List ℕ) (capsule : CapsuleState) (layout : Layout) (kind : JobKind) (n : ℕ) (page : Page) (found : Option (List ℕ)) → holds_text layout.manifest_at layout.manifest_len n ≡ false
    → in_some_region (filter (λ (region : Region). is_taken kind region) capsule.manifest.regions) n ≡ true → page ≡ page_of image capsule.pages n → later ≡ image
    → found ≡ (if is_kept page then None else Some (page_bytes later page))
    → found ≡ (if is_active_page kind image capsule layout n then Some (active_page image capsule layout n) else None)
unfolding is_active_page active_page
given_is image later capsule layout kind n page found outside taken is same h =
    rw (outside, taken)
    (h ∙ ap (λ (xs : List ℕ). if is_kept page then None else Some (page_bytes xs page)) same ∙ ap (λ (p : Page). if is_kept p then None else Some (page_bytes image p)) is
    ∙ or_none (is_kept (page_of image capsule.pages n)) (page_bytes image (page_of image capsule.pages n)))

-- ---- the text lies in the bank
pub text_inside : (image : List ℕ) (layout : Layout) (capsule : CapsuleState) → CanApply image layout capsule → capsule.signed_manifest.at + capsule.signed_manifest.len ≤ length image
text_inside image layout capsule can = by_area can.lies
  where
    by_area : LiesInArea image layout capsule → capsule.signed_manifest.at + capsule.signed_manifest.len ≤ length image
    by_area (inl lies) = omega (arith, lies.within, lies.signed_manifest.high, can.valid.inside.recovery)
    by_area (inr lies) = omega (arith, lies.within, lies.signed_manifest.high, can.valid.inside.staging)
