-- What is made of a bank: its image, its capsule, and the rows of their signatures.
use Rattle.std.specs.Prelude.{ℕ, List, ◌++◌, length, Result}
use Rattle.pfr_flash.specs.Bytes.{written}
use Rattle.pfr_flash.specs.Judging.{◌>>◌, told_as}
use Rattle.pfr_flash.specs.declared.layout.Layout.{Layout}
use Rattle.pfr_flash.specs.declared.names.Bank.{Bank}
use Rattle.pfr_description.specs.Banks.{bank_of}
use Rattle.pfr_made.specs.Capsules.{signed_capsule, capsule_rows}
use Rattle.pfr_made.specs.Fields.{filled}
use Rattle.pfr_made.specs.Images.{active_of, signed_manifest, manifest_rows}
use Rattle.pfr_made.specs.Judge.{judge_image, require_fit, fit_manifest, fit_capsule}
use Rattle.pfr_made.specs.Entries.{judge_entries}
use Rattle.pfr_description.specs.Described.{Description}
use Rattle.pfr_description.specs.declared.fail.DescWhy.{DescWhy}
use Rattle.pfr_description.specs.declared.fail.DescWhy.TheVariants.{Manifest}
use Rattle.pfr_description.specs.declared.fail.FitPart.TheVariants as parts

-- the image that is hashed
abbrev pub active_image : Description → Bank → List ℕ → List ℕ
active_image desc bank image = active_of (bank_of desc bank).regions image

-- these bytes in an area, and 0xFF behind them up to its end
unfoldable pub with_area : List ℕ → ℕ → ℕ → List ℕ → List ℕ
with_area image at len bytes = written image at (filled len bytes)

-- an image with a signed manifest, a capsule and a staged file in its three areas
unfoldable pub with_areas : List ℕ → Layout → List ℕ → List ℕ → List ℕ → List ℕ
with_areas image layout manifest capsule staged =
    with_area (with_area (with_area image layout.manifest_at layout.manifest_len manifest) layout.recovery_at layout.area_len capsule)
    layout.staging_at layout.area_len staged

-- the bank's image
unfoldable pub flash_of : Description → Bank → List ℕ → List ℕ → List ℕ
flash_of desc bank image staged =
    with_areas (active_image desc bank image) (bank_of desc bank).layout (signed_manifest desc bank (active_image desc bank image))
    (signed_capsule desc bank (active_image desc bank image)) staged

-- the rows, in the order of the signatures: of the manifest's key and block, then of the capsule's
unfoldable pub rows_of : Description → Bank → List ℕ → List ℕ
rows_of desc bank active = manifest_rows desc bank active ++ capsule_rows desc bank active

-- what is judged before anything is made
unfoldable pub judge_given : Description → Bank → List ℕ → Result (Unit {0}) DescWhy
judge_given desc bank image = judge_image bank (bank_of desc bank) image >> told_as (Manifest bank) (judge_entries (bank_of desc bank))

-- and what of the things made: whether they lie in their areas
unfoldable pub judge_fits : Description → Bank → List ℕ → List ℕ → Result (Unit {0}) DescWhy
judge_fits desc bank active staged = do
  fit_manifest bank (bank_of desc bank) active
  fit_capsule bank desc active
  require_fit bank parts.Staged (length staged) (bank_of desc bank).layout.area_len

-- the first rule that a bank breaks: size, layout, image, the manifest's rules, then manifest, capsule and staged file in their areas
abbrev pub judge_bank : Description → Bank → List ℕ → List ℕ → Result (Unit {0}) DescWhy
judge_bank desc bank image staged = judge_given desc bank image >> judge_fits desc bank (active_image desc bank image) staged
