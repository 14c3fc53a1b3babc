-- What becomes of a bank's pages by a capsule.
use Rattle.std.specs.Prelude.{◌≡◌, ℕ, zero, suc, ◌+◌, ◌*◌, ◌/◌, ◌%◌, ◌<◌, ◌≤◌, nat_lt, if◌then◌else◌, List, [], ◌∷◌, ◌++◌, length, slice_index}
use Rattle.pfr_flash.specs.Bytes.{bytes_at}
use Rattle.pfr_capsule.specs.Maps.{map_bit, count_before}
use Rattle.pfr_capsule.specs.declared.pages.Page.{Page}
use Rattle.pfr_capsule.specs.declared.pages.Page.TheVariants.{Keep, Blank, Copy}
use Rattle.pfr_capsule.specs.declared.pages.Pages.{Pages}

-- What page n becomes, by an erase map, a copy map and the payload's place. A page's payload lies behind those of the
-- copied pages before it.
unfoldable pub page_in : List ℕ → List ℕ → ℕ → ℕ → Page
page_in erase copy payload_at n =
    if map_bit erase n
    then (if map_bit copy n then Copy (payload_at + 4096 * count_before copy n) else Blank)
    else Keep

-- the maps of a capsule in an image
abbrev pub erase_map : List ℕ → Pages → List ℕ
erase_map image pages = bytes_at image pages.erase_at (pages.bits / 8)

abbrev pub copy_map : List ℕ → Pages → List ℕ
copy_map image pages = bytes_at image pages.copy_at (pages.bits / 8)

abbrev pub page_of : List ℕ → Pages → ℕ → Page
page_of image pages n = page_in (erase_map image pages) (copy_map image pages) pages.payload_at n

-- the copied pages before page 64 i, or 0 where the map ends before
abbrev pub indexed : List ℕ → ℕ → ℕ → ℕ
indexed copy bits i = if nat_lt (64 * i) bits then count_before copy (64 * i) else 0

-- the index of a copy map: its first so many numbers
unfoldable pub index_of : List ℕ → ℕ → ℕ → List ℕ
index_of copy bits zero = []
index_of copy bits (suc i) = index_of copy bits i ++ indexed copy bits i ∷ []

-- the erase map, the copy map and the payload stand one behind the other from a place on
abbrev pub pages_at : List ℕ → ℕ → ℕ → Pages
pages_at image at bits = record {
  erase_at = at;
  copy_at = at + bits / 8;
  payload_at = at + bits / 8 + bits / 8;
  bits = bits;
  before = index_of (bytes_at image (at + bits / 8) (bits / 8)) bits 256;
}

-- The maps and the payload lie in the image, and the index is that of the copy map.
pub record HasIndex (image : List ℕ) (pages : Pages) : Type 0 where
  pub whole : pages.bits % 16 ≡ 0
  pub few : pages.bits ≤ 16384
  pub erase_inside : pages.erase_at + pages.bits / 8 ≤ length image
  pub copy_inside : pages.copy_at + pages.bits / 8 ≤ length image
  pub payload_inside : pages.payload_at + 4096 * count_before (copy_map image pages) pages.bits ≤ length image
  pub index : (i : ℕ) → i < 256 → slice_index pages.before i ≡ indexed (copy_map image pages) pages.bits i

-- a page's payload lies in an image of this size
abbrev pub IsPayloadInside : ℕ → Page → Type 0
IsPayloadInside size Keep = Unit {0}
IsPayloadInside size Blank = Unit {0}
IsPayloadInside size (Copy at) = at + 4096 ≤ size
