-- What pages give, one after the other, and the regions that don't have their hash.
use Rattle.std.proofs.Common.{◌≡◌, ◌∙◌, ap, sym, refl, ℕ, zero, suc, ◌+◌, ◌-◌, ◌≤◌, Bool, not, List, ◌++◌, append_assoc, append-nil, arith}
use Rattle.pfr_flash.specs.Bytes.{blank, bytes_at}
use Rattle.pfr_manifest.specs.declared.region.Region.{Region}
use Rattle.pfr_capsule.specs.PageBytes.{page_bytes, bytes_of_pages, is_coherent}
use Rattle.pfr_capsule.specs.Pages.{page_of}
use Rattle.pfr_capsule.specs.declared.pages.Page.{Page}
use Rattle.pfr_capsule.specs.declared.pages.Page.TheVariants.{Blank, Copy}
use Rattle.pfr_capsule.specs.declared.pages.Pages.{Pages}

-- ---- one page
pub gives_blank : (image bytes m : List ℕ) (page : Page) → page ≡ Blank → bytes ≡ blank → m ++ bytes ≡ m ++ page_bytes image page
gives_blank image bytes m page is blank_bytes = rw (is, blank_bytes) refl

pub gives_copy : (image bytes m : List ℕ) (page : Page) (at : ℕ) → page ≡ Copy at → bytes ≡ bytes_at image at 4096 → m ++ bytes ≡ m ++ page_bytes image page
gives_copy image bytes m page at is copied = rw (is, copied) refl

-- ---- one page more
pub no_pages : (image m : List ℕ) (pages : Pages) (first : ℕ) → m ≡ m ++ bytes_of_pages image pages first (first - first)
unfolding bytes_of_pages
no_pages image m pages first = let none : first - first ≡ zero = omega arith in rw none (sym (append-nil m))

pub page_joined : (image later after m : List ℕ) (pages : Pages) (first n : ℕ) (page : Page) → first ≤ n → later ≡ image → after ≡ later → page ≡ page_of later pages n →
    (m ++ bytes_of_pages image pages first (n - first)) ++ page_bytes after page ≡ m ++ bytes_of_pages image pages first (n + 1 - first)
unfolding bytes_of_pages
page_joined image later after m pages first n page above same still is =
    let more : n + 1 - first ≡ suc (n - first) = omega arith in
    let here : first + (n - first) ≡ n = omega arith in
    rw (is, still, same, append_assoc, more, here) refl

pub all_pages : (image m : List ℕ) (pages : Pages) (first last n : ℕ) → n - first ≤ last - first → last ≤ n → m ++ bytes_of_pages image pages first (n - first) ≡ m ++ bytes_of_pages image pages first (last - first)
all_pages image m pages first last n within ends =
    let e : n - first ≡ last - first = omega arith in
    rw e refl

-- ---- what was found of a region, after calls that only read
pub incoherent_found : (image later : List ℕ) (pages : Pages) (region : Region) (found coherent : Bool) → later ≡ image → found ≡ is_coherent later pages region → found ≡ coherent → not (is_coherent image pages region) ≡ not coherent
incoherent_found image later pages region found coherent same is h = ap not (ap (λ (bytes : List ℕ). is_coherent bytes pages region) (sym same) ∙ sym is ∙ h)
