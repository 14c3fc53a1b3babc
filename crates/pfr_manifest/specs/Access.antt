-- What a manifest says of a bank's bytes: which are hashed, which a restore takes, and which pages the bus may write.
use Rattle.std.specs.Prelude.{◌≡◌, ℕ, ◌+◌, ◌*◌, ◌≤◌, ◌==◌, ◌||◌, Bool, true, List, ◌⊎◌, Any, filter}
use Rattle.std.specs.Int.{bit_at}
use Rattle.pfr_flash.specs.declared.layout.Layout.{Layout}
use Rattle.pfr_manifest.specs.declared.manifest.Manifest.{Manifest}
use Rattle.pfr_manifest.specs.declared.region.Region.{Region}
use Rattle.pfr_manifest.specs.Regions.{is_static, is_writable}

-- the regions with a hash
abbrev pub static_regions : Manifest → List Region
static_regions m = filter is_static m.regions

-- A restore of a level, 1 to 3, takes the region: each static one, and each other whose mask has the level's bit.
abbrev pub is_restored : ℕ → Region → Bool
is_restored level region = is_static region || bit_at region.mask (level + 1) == 1

-- a page of 4,096 bytes lies from one place up to another
abbrev pub IsPageWithin : ℕ → ℕ → ℕ → Type 0
IsPageWithin page from upto = (from ≤ 4096 * page) × (4096 * page + 4096 ≤ upto)

-- The page may be written while the bank runs: it lies in a region with the write bit, or in the staging area.
abbrev pub IsWritable : Manifest → Layout → ℕ → Type 0
IsWritable m layout page =
    Any (λ region. (is_writable region ≡ true) × IsPageWithin page region.start region.end) m.regions
    ⊎ IsPageWithin page layout.staging_at (layout.staging_at + layout.area_len)
