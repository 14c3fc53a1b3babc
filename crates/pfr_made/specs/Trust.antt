-- What the image of a bank and a certificate are worth, with the store that is made of the same description.
use Rattle.std.specs.Prelude.{◌≡◌, ℕ, ◌≤◌, List, length, Ok}
use Rattle.pfr_flash.specs.Bytes.{bytes_at}
use Rattle.pfr_flash.specs.declared.names.ContentType.{ContentType}
use Rattle.pfr_flash.specs.declared.names.Bank.{Bank}
use Rattle.pfr_flash.specs.declared.names.Bank.TheVariants.{Bmc, Pch}
use Rattle.pfr_engine.specs.Acceptance.{Acceptance}
use Rattle.pfr_capsule.specs.Good.{IsGood}
use Rattle.pfr_cert.specs.Certificate.{IsCertificate, IsOf}
use Rattle.pfr_fuses.specs.FusesOf.{fuses_of}
use Rattle.pfr_fuses.specs.FusesState.{FusesState}
use Rattle.pfr_auth.specs.Trusted.{IsTrusted}
use Rattle.pfr_description.specs.Banks.{bank_of}
use Rattle.pfr_description.specs.Described.{Description}
use Rattle.pfr_made.specs.Accepting.{AcceptsText}
use Rattle.pfr_made.specs.Store.{store_for}

-- For any engine that accepts the rows the image is trusted, and the capsule in its recovery area is good.
pub record IsWorthy (desc : Description) (bank : Bank) (flash rows : List ℕ) : Type 0 where
  pub trusted : (accepts : Acceptance) → AcceptsText accepts rows → IsTrusted flash (store_for desc) bank accepts
  pub good : (accepts : Acceptance) → AcceptsText accepts rows
      → IsGood flash (bank_of desc bank).layout.recovery_at (bank_of desc bank).layout.area_len (store_for desc) bank accepts

-- Both banks' images are trusted and their recovery areas good, with the store of the description, for this engine.
pub record IsPlatform (desc : Description) (bmc pch : List ℕ) (accepts : Acceptance) : Type 0 where
  pub bmc_trusted : IsTrusted bmc (store_for desc) Bmc accepts
  pub bmc_good : IsGood bmc desc.bmc.layout.recovery_at desc.bmc.layout.area_len (store_for desc) Bmc accepts
  pub pch_trusted : IsTrusted pch (store_for desc) Pch accepts
  pub pch_good : IsGood pch desc.pch.layout.recovery_at desc.pch.layout.area_len (store_for desc) Pch accepts

-- For any engine that accepts the row, the certificate is one for the bank of its type wherever it stands with room, and cancels
-- the key of this id.
pub record IsWorthyCert (desc : Description) (type : ContentType) (id : ℕ) (cert rows : List ℕ) : Type 0 where
  pub taken : (accepts : Acceptance) → AcceptsText accepts rows → (fuses : FusesState) → fuses_of (store_for desc) ≡ Ok fuses
      → (bank : Bank) → IsOf bank type → (image : List ℕ) (place len : ℕ) → bytes_at image place (length cert) ≡ cert → length cert ≤ len
      → IsCertificate image place len bank fuses.provision.root accepts (record { ty = type; id = id })
