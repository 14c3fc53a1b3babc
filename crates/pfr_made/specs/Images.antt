-- The image that is made of a bank.
use Rattle.std.specs.Prelude.{ℕ, ◌-◌, ◌&&◌, Bool, true, false, is_some, List, [], ◌∷◌, if◌then◌else◌}
use Rattle.pfr_flash.specs.Bytes.{written}
use Rattle.pfr_flash.specs.Names.{manifest_type}
use Rattle.pfr_flash.specs.declared.names.Bank.{Bank}
use Rattle.pfr_description.specs.Banks.{bank_of}
use Rattle.pfr_made.specs.Blocks.{signed_bytes, signed_rows}
use Rattle.pfr_made.specs.Manifests.{text_of}
use Rattle.pfr_description.specs.Described.{Description}
use Rattle.pfr_made.specs.Fields.{blanks}
use Rattle.pfr_description.specs.declared.region.PageUse.{PageUse}
use Rattle.pfr_description.specs.declared.region.PageUse.TheVariants.{Copy, Erase, Keep}
use Rattle.pfr_description.specs.declared.region.RegionDescription.{RegionDescription}

-- what a capsule does with a page
abbrev pub is_erased_only : PageUse → Bool
is_erased_only Copy = false
is_erased_only Erase = true
is_erased_only Keep = false

-- a region whose digest is that of blank pages
abbrev pub is_blank : RegionDescription → Bool
is_blank region = is_some region.hash && is_erased_only region.pages

-- 0xFF in place of the region's bytes
unfoldable pub blanked : RegionDescription → List ℕ → List ℕ
blanked region image = written image region.start (blanks (region.end - region.start))

-- the image that is hashed: each such region is 0xFF in it, and all else is as it was given
unfoldable pub active_of : List RegionDescription → List ℕ → List ℕ
active_of [] image = image
active_of (region ∷ others) image = active_of others (if is_blank region then blanked region image else image)

-- the signed manifest of a bank with this active image, and the rows of its signatures
unfoldable pub signed_manifest : Description → Bank → List ℕ → List ℕ
signed_manifest desc bank active =
    signed_bytes desc (bank_of desc bank).manifest_key (manifest_type bank) (text_of (bank_of desc bank) active)

unfoldable pub manifest_rows : Description → Bank → List ℕ → List ℕ
manifest_rows desc bank active =
    signed_rows desc (bank_of desc bank).manifest_key (manifest_type bank) (text_of (bank_of desc bank) active)
