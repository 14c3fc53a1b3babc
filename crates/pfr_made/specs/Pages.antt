-- What a capsule does with a bank's pages of 4,096 bytes, its two maps, and the pages that it brings.
use Rattle.std.specs.Prelude.{ℕ, zero, suc, ◌+◌, ◌*◌, ◌&&◌, Bool, true, false, nat_le, nat_lt, List, [], ◌∷◌, ◌++◌, if◌then◌else◌}
use Rattle.pfr_flash.specs.Bytes.{bytes_at}
use Rattle.pfr_description.specs.Described.{BankDescription}
use Rattle.pfr_made.specs.declared.page_map.PageMap.{PageMap}
use Rattle.pfr_made.specs.declared.page_map.PageMap.TheVariants as maps
use Rattle.pfr_description.specs.declared.region.PageUse.{PageUse}
use Rattle.pfr_description.specs.declared.region.PageUse.TheVariants as uses
use Rattle.pfr_description.specs.declared.region.RegionDescription.{RegionDescription}

-- whether a page of this use has its bit: a copied page has both
abbrev pub has_bit : PageMap → PageUse → Bool
has_bit maps.Erase uses.Copy = true
has_bit maps.Erase uses.Erase = true
has_bit maps.Erase uses.Keep = false
has_bit maps.Copy uses.Copy = true
has_bit maps.Copy uses.Erase = false
has_bit maps.Copy uses.Keep = false

-- the byte lies in the region
abbrev pub has_byte : RegionDescription → ℕ → Bool
has_byte region at = nat_le region.start at && nat_lt at region.end

-- what the region says that has the page, and Keep where none has it
unfoldable pub use_of : List RegionDescription → ℕ → PageUse
use_of [] page = uses.Keep
use_of (region ∷ others) page = if has_byte region (4096 * page) then region.pages else use_of others page

-- the page's bit in a map
abbrev pub page_bit : BankDescription → PageMap → ℕ → Bool
page_bit part map page = has_bit map (use_of part.regions page)

-- the bits of so many pages as a number, that of the first the highest
unfoldable pub bits_of : BankDescription → PageMap → ℕ → ℕ → ℕ
bits_of part map first zero = 0
bits_of part map first (suc count) = bits_of part map first count * 2 + (if page_bit part map (first + count) then 1 else 0)

-- a map's first so many bytes, of eight pages each
unfoldable pub map_bytes : BankDescription → PageMap → ℕ → List ℕ
map_bytes part map zero = []
map_bytes part map (suc count) = map_bytes part map count ++ bits_of part map (8 * count) 8 ∷ []

-- what the capsule brings for a page
abbrev pub page_payload : BankDescription → List ℕ → ℕ → List ℕ
page_payload part active page = if page_bit part maps.Copy page then bytes_at active (4096 * page) 4096 else []

-- and for the first so many pages
unfoldable pub payload_of : BankDescription → List ℕ → ℕ → List ℕ
payload_of part active zero = []
payload_of part active (suc count) = payload_of part active count ++ page_payload part active count
