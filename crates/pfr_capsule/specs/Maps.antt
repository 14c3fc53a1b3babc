-- Maps of a bank's pages: each page has a bit, and the highest bit of a byte is the first.
use Rattle.std.specs.Prelude.{◌≡◌, ℕ, zero, suc, ◌+◌, ◌-◌, ◌*◌, ◌/◌, ◌%◌, ◌<◌, ◌≤◌, Bool, true, ◌==◌, nat_le, nat_lt, not, ◌&&◌, if◌then◌else◌, is_some, List, slice_index, Option, Some, None, Any}
use Rattle.std.specs.Int.{bit_at}
use Rattle.std.specs.List.{list_any, position_from}
use Rattle.pfr_manifest.specs.declared.region.Region.{Region}
use Rattle.pfr_manifest.specs.Regions.{is_static}

-- whether page n has its bit
unfoldable pub map_bit : List ℕ → ℕ → Bool
map_bit bits n = bit_at (slice_index bits (n / 8)) (7 - n % 8) == 1

-- how many of the first n pages have their bit
unfoldable pub count_before : List ℕ → ℕ → ℕ
count_before bits zero = 0
count_before bits (suc n) = count_before bits n + (if map_bit bits n then 1 else 0)

-- how many pages before page n have their bit, where it has its own
abbrev pub copied_before : List ℕ → ℕ → Option ℕ
copied_before copy n = if map_bit copy n then Some (count_before copy n) else None

-- this number where it passes the test, and there is no other
abbrev pub or_this : (ℕ → Bool) → ℕ → Option ℕ → Option ℕ
or_this test n (Some k) = Some k
or_this test n None = if test n then Some n else None

-- the least of the first n numbers that passes the test
unfoldable pub least_below : (ℕ → Bool) → ℕ → Option ℕ
least_below test zero = None
least_below test (suc n) = or_this test n (least_below test n)

-- page n lies in the region
abbrev pub has_page : Region → ℕ → Bool
has_page region n = nat_le region.start (4096 * n) && nat_lt (4096 * n) region.end

abbrev pub in_some_region : List Region → ℕ → Bool
in_some_region regions n = list_any (λ region. has_page region n) regions

-- the least of so many pages that is to be copied and not erased
unfoldable pub unerased_copy : List ℕ → List ℕ → ℕ → Option ℕ
unerased_copy erase copy bits = least_below (λ n. map_bit copy n && not (map_bit erase n)) bits

-- the least page that is to be erased and lies in no region
unfoldable pub page_outside : List ℕ → List Region → ℕ → Option ℕ
page_outside erase regions bits = least_below (λ n. map_bit erase n && not (in_some_region regions n)) bits

-- the least page of a region that is not to be erased
unfoldable pub kept_page : List ℕ → ℕ → Region → Option ℕ
kept_page erase bits region = least_below (λ n. has_page region n && not (map_bit erase n)) bits

-- a static region with a page that is not to be erased
abbrev pub is_uncovered : List ℕ → ℕ → Region → Bool
is_uncovered erase bits region = is_static region && is_some (kept_page erase bits region)

-- the number of the first such region
unfoldable pub uncovered_region : List ℕ → List Region → ℕ → Option ℕ
uncovered_region erase regions bits = position_from (is_uncovered erase bits) 0 regions

-- ---- what holds where there is none of these

pub record IsPageOf (region : Region) (n : ℕ) : Type 0 where
  pub low : region.start ≤ 4096 * n
  pub high : 4096 * n < region.end

-- each page that is copied is erased
abbrev pub CopiesAreErased : List ℕ → List ℕ → ℕ → Type 0
CopiesAreErased erase copy bits = (n : ℕ) → n < bits → map_bit copy n ≡ true → map_bit erase n ≡ true

-- each page that is erased lies in a region
abbrev pub ErasedLieInRegions : List ℕ → List Region → ℕ → Type 0
ErasedLieInRegions erase regions bits = (n : ℕ) → n < bits → map_bit erase n ≡ true → Any (λ region. IsPageOf region n) regions

-- where the region is static, each of its pages is erased
abbrev pub IsCovered : List ℕ → ℕ → Region → Type 0
IsCovered erase bits region = is_static region ≡ true → (n : ℕ) → n < bits → IsPageOf region n → map_bit erase n ≡ true
