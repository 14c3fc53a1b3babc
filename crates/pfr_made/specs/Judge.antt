-- What a description must be, and the first rule that it breaks.
use Rattle.std.specs.Prelude.{◌≡◌, ℕ, ◌+◌, ◌%◌, ◌≤◌, ◌==◌, ◌&&◌, Bool, nat_le, List, length, Result, Ok, Err}
use Rattle.pfr_flash.specs.Layout.{IsBankSize, IsValidLayout, judge_layout}
use Rattle.pfr_flash.specs.Judging.{◌>>◌, require, told_as}
use Rattle.pfr_flash.specs.declared.names.Bank.{Bank}
use Rattle.pfr_flash.specs.declared.names.Bank.TheVariants.{Bmc, Pch}
use Rattle.pfr_description.specs.Described.{BankDescription}
use Rattle.pfr_description.specs.Described.{Description}
use Rattle.pfr_description.specs.declared.fail.DescFail.{DescFail}
use Rattle.pfr_description.specs.declared.fail.DescFail.TheVariants.{Why, NoMemory}
use Rattle.pfr_description.specs.declared.fail.DescWhy.{DescWhy}
use Rattle.pfr_description.specs.declared.fail.DescWhy.TheVariants.{Fit, Layout}
use Rattle.pfr_description.specs.declared.fail.FitPart.{FitPart}
use Rattle.pfr_description.specs.declared.fail.FitPart.TheVariants as parts
use Rattle.pfr_description.specs.declared.fail.FitPart.TheVariants.{Size, Image}
use Rattle.pfr_description.specs.Banks.{bank_of}
use Rattle.pfr_made.specs.Capsules.{capsule_body}
use Rattle.pfr_made.specs.Manifests.{manifest_length}

-- a bank's size, and a layout of a bank of this size
pub record IsPlaced (part : BankDescription) : Type 0 where
  pub size : IsBankSize part.size
  pub least : 65536 ≤ part.size
  pub layout : IsValidLayout part.layout part.size

abbrev pub is_bank_size : ℕ → Bool
is_bank_size size = size % 65536 == 0 && nat_le 65536 size && nat_le size 67108864

unfoldable pub judge_place : Bank → BankDescription → Result (Unit {0}) DescWhy
judge_place bank part = require (Fit bank Size) (is_bank_size part.size) >> told_as (Layout bank) (judge_layout part.layout part.size)

-- an image is judged after the place of its areas
unfoldable pub judge_image : Bank → BankDescription → List ℕ → Result (Unit {0}) DescWhy
judge_image bank part image = judge_place bank part >> require (Fit bank Image) (length image == part.size)

-- both banks, the BMC first
unfoldable pub judge_places : Description → Result (Unit {0}) DescWhy
judge_places description = judge_place Bmc description.bmc >> judge_place Pch description.pch

-- what is made lies in its area
abbrev pub require_fit : Bank → FitPart → ℕ → ℕ → Result (Unit {0}) DescWhy
require_fit bank what count area = require (Fit bank what) (nat_le count area)

-- the signed manifest of this active image
unfoldable pub fit_manifest : Bank → BankDescription → List ℕ → Result (Unit {0}) DescWhy
fit_manifest bank part active = require_fit bank parts.Manifest (1024 + manifest_length part active) part.layout.manifest_len

-- the capsule
unfoldable pub fit_capsule : Bank → Description → List ℕ → Result (Unit {0}) DescWhy
fit_capsule bank desc active =
    require_fit bank parts.Capsule (1024 + length (capsule_body desc bank active)) (bank_of desc bank).layout.area_len

-- the rule that is named is the first that is broken, and nothing is made where one is broken
abbrev pub Judged : {Y : Type 0} → Result Y DescFail → Result (Unit {0}) DescWhy → Type 0
Judged (Ok x) judged = judged ≡ Ok tt
Judged (Err (Why why)) judged = judged ≡ Err why
Judged (Err NoMemory) judged = Unit {0}
