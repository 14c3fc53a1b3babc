-- Regions of a bank, and what may happen to them.
use Rattle.std.specs.Prelude.{◌≡◌, ℕ, ◌+◌, ◌<◌, ◌≤◌, ◌%◌, Bool, true, false, ◌==◌, List, [], ◌∷◌, length, ◌⊎◌}
use Rattle.std.specs.Int.{bit_at}
use Rattle.pfr_flash.specs.declared.layout.Layout.{Layout}
use Rattle.pfr_manifest.specs.declared.region.Region.{Region}
use Rattle.pfr_manifest.specs.declared.region.RegionHash.{RegionHash}
use Rattle.pfr_manifest.specs.declared.region.RegionHash.TheVariants as hashes

-- the write bit of a mask
abbrev pub may_write : ℕ → Bool
may_write mask = bit_at mask 1 == 1

abbrev pub is_writable : Region → Bool
is_writable region = may_write region.mask

abbrev pub has_hash : RegionHash → Bool
has_hash hashes.None = false
has_hash (hashes.Sha256 digest) = true
has_hash (hashes.Sha384 digest) = true

-- a region with a hash is static
abbrev pub is_static : Region → Bool
is_static region = has_hash region.hash

-- a digest is as long as its hash says
abbrev pub IsDigest : RegionHash → Type 0
IsDigest hashes.None = Unit {0}
IsDigest (hashes.Sha256 digest) = length digest ≡ 32
IsDigest (hashes.Sha384 digest) = length digest ≡ 48

-- what lies from one place up to another lies in a bank of this size
pub record LiesInside (size start end : ℕ) : Type 0 where
  pub begins : start ≤ end
  pub ends : end ≤ size

-- the region shares no byte with an area
abbrev pub IsClearOf : Region → ℕ → ℕ → Type 0
IsClearOf region at len = (region.end ≤ at) ⊎ (at + len ≤ region.start)

-- the numbers of a region are those of a bank of this layout and this size
pub record IsRegion (layout : Layout) (size : ℕ) (region : Region) : Type 0 where
  pub not_both : is_static region ≡ true → is_writable region ≡ false
  pub start_aligned : region.start % 4096 ≡ 0
  pub end_aligned : region.end % 4096 ≡ 0
  pub some : region.start < region.end
  pub inside : region.end ≤ size
  pub clear_of_manifest : IsClearOf region layout.manifest_at layout.manifest_len
  pub clear_of_recovery : IsClearOf region layout.recovery_at layout.area_len
  pub clear_of_staging : IsClearOf region layout.staging_at layout.area_len

-- each region begins where the one before it has ended, or later
abbrev pub IsInOrder : List Region → Type 0
IsInOrder [] = Unit {0}
IsInOrder (region ∷ []) = Unit {0}
IsInOrder (region ∷ next ∷ others) = (region.end ≤ next.start) × IsInOrder (next ∷ others)

-- where the last region begins and ends: at 0 where there is none
abbrev pub last_start : List Region → ℕ
last_start [] = 0
last_start (region ∷ []) = region.start
last_start (region ∷ next ∷ others) = last_start (next ∷ others)

abbrev pub last_end : List Region → ℕ
last_end [] = 0
last_end (region ∷ []) = region.end
last_end (region ∷ next ∷ others) = last_end (next ∷ others)
