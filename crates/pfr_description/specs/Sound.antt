-- What holds of a description that was read: each key may sign what it signs, and what has a hash is brought.
use Rattle.std.specs.Prelude.{◌≡◌, ◌&&◌, ℕ, true, not, is_some, All}
use Rattle.std.specs.Int.{bit_at}
use Rattle.pfr_flash.specs.declared.names.Bank.{Bank}
use Rattle.pfr_flash.specs.declared.names.Bank.TheVariants.{Bmc, Pch}
use Rattle.pfr_description.specs.Tables.{is_kept}
use Rattle.pfr_description.specs.Typed.{IsValue}
use Rattle.pfr_description.specs.Described.{BankDescription, Description}
use Rattle.pfr_description.specs.declared.region.RegionDescription.{RegionDescription}

-- the permission bits of a bank's types of content
abbrev pub manifest_bit : Bank → ℕ
manifest_bit Bmc = 2
manifest_bit Pch = 0

abbrev pub capsule_bit : Bank → ℕ
capsule_bit Bmc = 3
capsule_bit Pch = 1

-- a region with a hash is not kept
abbrev pub IsBrought : RegionDescription → Type 0
IsBrought region = not (is_some region.hash && is_kept region.pages) ≡ true

pub record IsSoundBank (bank : Bank) (part : BankDescription) : Type 0 where
  pub manifest_key : bit_at part.manifest_key.permissions (manifest_bit bank) ≡ 1
  pub capsule_key : bit_at part.capsule_key.permissions (capsule_bit bank) ≡ 1
  pub regions : All IsBrought part.regions

pub record IsSound (description : Description) : Type 0 where
  pub values : IsValue description
  pub bmc : IsSoundBank Bmc description.bmc
  pub pch : IsSoundBank Pch description.pch
