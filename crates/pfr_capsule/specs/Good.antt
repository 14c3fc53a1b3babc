-- When the bytes at a place of a bank are a good capsule for it.
use Rattle.std.specs.Prelude.{◌≡◌, ℕ, ◌+◌, ◌*◌, List, length, Some, All, Ok}
use Rattle.pfr_flash.specs.Layout.{IsValidLayout}
use Rattle.pfr_flash.specs.Names.{capsule_type, manifest_type}
use Rattle.pfr_flash.specs.declared.names.Bank.{Bank}
use Rattle.pfr_engine.specs.Acceptance.{Acceptance}
use Rattle.pfr_fuses.specs.FusesState.{FusesState, floor_of, row_of}
use Rattle.pfr_fuses.specs.FusesOf.{fuses_of}
use Rattle.pfr_fuses.specs.RootSlot.{layout_of}
use Rattle.pfr_manifest.specs.declared.region.Region.{Region}
use Rattle.pfr_capsule.specs.CapsuleState.{CapsuleState, capsule_of}
use Rattle.pfr_capsule.specs.Maps.{CopiesAreErased, ErasedLieInRegions, IsCovered, count_before}
use Rattle.pfr_capsule.specs.PageBytes.{IsCoherent}
use Rattle.pfr_capsule.specs.PageHeader.{HasHeader}
use Rattle.pfr_capsule.specs.Pages.{copy_map, erase_map, pages_at}
use Rattle.pfr_capsule.specs.Signed.{IsSigned, end_of}
use Rattle.pfr_capsule.specs.declared.page_header.PageHeader.{PageHeader}
use Rattle.pfr_capsule.specs.declared.pages.Pages.{Pages}
use Rattle.pfr_capsule.specs.declared.signed.Signed.{Signed}

-- The pages of a capsule serve a bank of these regions.
pub record Serves (image : List ℕ) (pages : Pages) (payload_len : ℕ) (regions : List Region) : Type 0 where
  -- each page that is copied is erased, and each that is erased lies in a region
  pub erased : CopiesAreErased (erase_map image pages) (copy_map image pages) pages.bits
  pub within_regions : ErasedLieInRegions (erase_map image pages) regions pages.bits
  -- the payload has the pages that are copied, and no more
  pub payload : payload_len ≡ 4096 * count_before (copy_map image pages) pages.bits
  -- each page of a static region is erased, and what the pages give for it has its hash
  pub covered : All (IsCovered (erase_map image pages) pages.bits) regions
  pub coherent : All (IsCoherent image pages) regions

-- the kept provision, floor and both rows of the bank are those of the store
pub record StandForBank (nv : List ℕ) (fuses : FusesState) (bank : Bank) : Type 0 where
  pub all : FusesState
  pub provisioned : fuses_of nv ≡ Ok all
  pub provision : fuses.provision ≡ all.provision
  pub floor : floor_of fuses bank ≡ floor_of all bank
  pub capsule_row : row_of fuses (capsule_type bank) ≡ row_of all (capsule_type bank)
  pub manifest_row : row_of fuses (manifest_type bank) ≡ row_of all (manifest_type bank)

-- A good capsule stands at a place within a length, by what the store holds, for the engine.
pub record IsGood (image : List ℕ) (place len : ℕ) (nv : List ℕ) (bank : Bank) (accepts : Acceptance) : Type 0 where
  pub fuses : FusesState
  pub parts : Signed
  pub header : PageHeader
  pub capsule : CapsuleState
  -- the store provisions the platform, and the bank with a valid layout
  pub provisioned : fuses_of nv ≡ Ok fuses
  pub layout : IsValidLayout (layout_of fuses.provision bank) (length image)
  -- capsule and manifest are signed, and the security version number is not below the floor
  pub signed : IsSigned image place len bank (layout_of fuses.provision bank) fuses accepts parts
  -- the rest of the body is a page-block header, the maps and the payload
  pub framed : HasHeader image (end_of parts.inner) (end_of parts.capsule) header
  -- the pages serve the manifest's regions
  pub paged : Serves image capsule.pages header.payload_len parts.manifest.regions
  -- and this is the capsule, with the ids of the keys that signed
  pub capsule_key : parts.capsule.key ≡ Some capsule.capsule_key
  pub manifest_key : parts.inner.key ≡ Some capsule.manifest_key
  pub found : capsule ≡ capsule_of image place parts (pages_at image (end_of parts.inner + 128) header.map_bits)
