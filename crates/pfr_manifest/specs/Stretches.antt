-- The stretches of a bank that its manifest's regions are, as the filter of the bus looks them up.
use Rattle.std.specs.Prelude.{◌≡◌, ℕ, ◌+◌, ◌*◌, ◌%◌, ◌<◌, ◌≤◌, Bool, ◌&&◌, ◌||◌, nat_le, List, length, map, All}
use Rattle.std.specs.List.{AllPairs, list_any}
use Rattle.pfr_flash.specs.declared.layout.Layout.{Layout}
use Rattle.pfr_manifest.specs.Regions.{is_writable}
use Rattle.pfr_manifest.specs.declared.manifest.Manifest.{Manifest}
use Rattle.pfr_manifest.specs.declared.region.Region.{Region}
use Rattle.pfr_manifest.specs.declared.stretch.Stretch.{Stretch}

-- a region's place, and whether the bus may write it
abbrev pub stretch_of : Region → Stretch
stretch_of region = record { start = region.start; end = region.end; writable = is_writable region }

abbrev pub stretches_of : Manifest → List Stretch
stretches_of m = map stretch_of m.regions

-- whole pages of 4,096 bytes, at least one
pub record IsOfPages (stretch : Stretch) : Type 0 where
  pub start_aligned : stretch.start % 4096 ≡ 0
  pub end_aligned : stretch.end % 4096 ≡ 0
  pub some : stretch.start < stretch.end

-- At most 64 of them, and none begins below the end of an earlier one.
pub record IsTable (stretches : List Stretch) : Type 0 where
  pub few : length stretches ≤ 64
  pub each : All IsOfPages stretches
  pub in_order : AllPairs (λ one later. one.end ≤ later.start) stretches

-- page n of a bank lies from one place up to another
abbrev pub is_page_within : ℕ → ℕ → ℕ → Bool
is_page_within page from upto = nat_le from (4096 * page) && nat_le (4096 * page + 4096) upto

-- the stretch lets the bus write the page
abbrev pub lets_write : ℕ → Stretch → Bool
lets_write page stretch = stretch.writable && is_page_within page stretch.start stretch.end

-- The bus may write the page: a stretch lets it, or it lies in the staging area.
abbrev pub writable_by : List Stretch → Layout → ℕ → Bool
writable_by stretches layout page =
    list_any (lets_write page) stretches || is_page_within page layout.staging_at (layout.staging_at + layout.area_len)
