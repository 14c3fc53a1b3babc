-- The bytes that a capsule's pages give, and whether they have their regions' hashes.
use Rattle.std.specs.Prelude.{ℕ, zero, suc, ◌+◌, ◌-◌, ◌*◌, ◌/◌, ◌≤◌, Bool, not, List, [], ◌++◌, Option}
use Rattle.std.specs.List.{position_from}
use Rattle.pfr_flash.specs.Bytes.{blank, bytes_at}
use Rattle.pfr_manifest.specs.Hashes.{HasHash, have_hash}
use Rattle.pfr_manifest.specs.declared.region.Region.{Region}
use Rattle.pfr_capsule.specs.Pages.{page_of}
use Rattle.pfr_capsule.specs.declared.pages.Page.{Page}
use Rattle.pfr_capsule.specs.declared.pages.Page.TheVariants.{Keep, Blank, Copy}
use Rattle.pfr_capsule.specs.declared.pages.Pages.{Pages}

-- what a capsule in an image gives for a page: nothing for one that is kept
abbrev pub page_bytes : List ℕ → Page → List ℕ
page_bytes image Keep = []
page_bytes image Blank = blank
page_bytes image (Copy at) = bytes_at image at 4096

-- so many pages from a page on, in order
unfoldable pub bytes_of_pages : List ℕ → Pages → ℕ → ℕ → List ℕ
bytes_of_pages image pages first zero = []
bytes_of_pages image pages first (suc count) =
    bytes_of_pages image pages first count ++ page_bytes image (page_of image pages (first + count))

abbrev pub region_bytes : List ℕ → Pages → Region → List ℕ
region_bytes image pages region = bytes_of_pages image pages (region.start / 4096) (region.end / 4096 - region.start / 4096)

-- a region ends within the pages of the maps
abbrev pub EndsInMap : Pages → Region → Type 0
EndsInMap pages region = region.end ≤ 4096 * pages.bits

-- what the pages give for a region has its hash
unfoldable pub is_coherent : List ℕ → Pages → Region → Bool
is_coherent image pages region = have_hash (region_bytes image pages region) region.hash

-- the number of the first region for which it hasn't
unfoldable pub incoherent_region : List ℕ → Pages → List Region → Option ℕ
incoherent_region image pages regions = position_from (λ region. not (is_coherent image pages region)) 0 regions

abbrev pub IsCoherent : List ℕ → Pages → Region → Type 0
IsCoherent image pages region = HasHash (region_bytes image pages region) region.hash
