-- The regions and rules that a description gives a bank, judged by the rules of manifests, and the first that they break.
use Rattle.std.specs.Prelude.{ℕ, ◌+◌, nat_le, nat_lt, is_some, List, [], ◌∷◌, length, Result, Ok}
use Rattle.pfr_flash.specs.Judging.{◌>>◌, require}
use Rattle.pfr_flash.specs.declared.layout.Layout.{Layout}
use Rattle.pfr_manifest.specs.Judge.{judge_stretch}
use Rattle.pfr_manifest.specs.Regions.{may_write}
use Rattle.pfr_manifest.specs.declared.fail.ManifestFail.{ManifestFail}
use Rattle.pfr_manifest.specs.declared.fail.ManifestFail.TheVariants.{Svn, TooMany}
use Rattle.pfr_manifest.specs.declared.stretch.Stretch.{Stretch}
use Rattle.pfr_description.specs.Described.{BankDescription}
use Rattle.pfr_description.specs.declared.region.RegionDescription.{RegionDescription}

-- where a region lies, and whether the bank's bus may write it
abbrev pub stretch_of : RegionDescription → Stretch
stretch_of region = record { start = region.start; end = region.end; writable = may_write region.mask }

-- region k, for which there is to be room, behind a region from one place up to another
unfoldable pub judge_next : ℕ → RegionDescription → ℕ → ℕ → Layout → ℕ → Result (Unit {0}) ManifestFail
judge_next k region last_start last_end layout size =
    require TooMany (nat_lt k 64) >> judge_stretch (stretch_of region) k (is_some region.hash) last_start last_end layout size

-- the regions from region k on
unfoldable pub judge_regions : ℕ → ℕ → ℕ → List RegionDescription → Layout → ℕ → Result (Unit {0}) ManifestFail
judge_regions k last_start last_end [] layout size = Ok tt
judge_regions k last_start last_end (region ∷ others) layout size =
    judge_next k region last_start last_end layout size >> judge_regions (k + 1) region.start region.end others layout size

-- all that a manifest has of the description
unfoldable pub judge_entries : BankDescription → Result (Unit {0}) ManifestFail
judge_entries part = do
  require Svn (nat_le part.svn 127)
  judge_regions 0 0 0 part.regions part.layout part.size
  require TooMany (nat_le (length part.smbus) 64)
