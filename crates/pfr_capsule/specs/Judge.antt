-- The judgement of a capsule: its parts in the order of the causes, the first that fails is the answer.
use Rattle.std.specs.Prelude.{ℕ, ◌+◌, ◌*◌, ◌/◌, ◌==◌, nat_le, List, length, Result, Ok}
use Rattle.pfr_flash.specs.Bytes.{bytes_at}
use Rattle.pfr_flash.specs.declared.layout.Layout.{Layout}
use Rattle.pfr_flash.specs.declared.names.Bank.{Bank}
use Rattle.pfr_engine.specs.Acceptance.{Acceptance}
use Rattle.pfr_fuses.specs.FusesState.{FusesState}
use Rattle.pfr_manifest.specs.declared.region.Region.{Region}
use Rattle.pfr_capsule.specs.CapsuleState.{CapsuleState, capsule_of}
use Rattle.pfr_flash.specs.Judging.{◌>>=◌, ◌>>◌, require, require_none}
use Rattle.pfr_capsule.specs.Maps.{count_before, page_outside, uncovered_region, unerased_copy}
use Rattle.pfr_capsule.specs.PageBytes.{incoherent_region}
use Rattle.pfr_capsule.specs.PageHeader.{has_constants, page_header_of}
use Rattle.pfr_capsule.specs.Pages.{copy_map, erase_map, pages_at}
use Rattle.pfr_capsule.specs.Signed.{end_of}
use Rattle.pfr_capsule.specs.SignedJudge.{judge_signed}
use Rattle.pfr_capsule.specs.declared.fail.CapsuleFail.{CapsuleFail}
use Rattle.pfr_capsule.specs.declared.fail.CapsuleFail.TheVariants.{PbcHeader, MapBits, BodyLength, CopyNotErase, PageOutside, PayloadLength, StaticNotCovered, Incoherent}
use Rattle.pfr_capsule.specs.declared.page_header.PageHeader.{PageHeader}
use Rattle.pfr_capsule.specs.declared.pages.Pages.{Pages}

-- what a header at a place says, for a body that ends there, in a bank of this size
unfoldable pub judge_numbers : PageHeader → ℕ → ℕ → ℕ → Result (Unit {0}) CapsuleFail
judge_numbers header at end size = do
  require PbcHeader (has_constants header)
  require MapBits (header.map_bits == size / 4096)
  require BodyLength (at + 128 + header.map_bits / 8 + header.map_bits / 8 + header.payload_len == end)

-- the page-block header at a place, for a body that ends there
unfoldable pub judge_header : List ℕ → ℕ → ℕ → Result PageHeader CapsuleFail
judge_header image at end = do
  let header : PageHeader = page_header_of (bytes_at image at 128)
  require PbcHeader (nat_le (at + 128) end)
  judge_numbers header at end (length image)
  Ok header

-- both maps, for a payload of this length and the regions
unfoldable pub judge_maps : List ℕ → List ℕ → ℕ → ℕ → List Region → Result (Unit {0}) CapsuleFail
judge_maps erase copy bits payload_len regions = do
  require_none CopyNotErase (unerased_copy erase copy bits)
  require_none PageOutside (page_outside erase regions bits)
  require PayloadLength (payload_len == 4096 * count_before copy bits)
  require_none StaticNotCovered (uncovered_region erase regions bits)

-- the pages behind a header that ends at a place
unfoldable pub judge_pages : List ℕ → ℕ → PageHeader → List Region → Result Pages CapsuleFail
judge_pages image at header regions = do
  let pages : Pages = pages_at image at header.map_bits
  judge_maps (erase_map image pages) (copy_map image pages) header.map_bits header.payload_len regions
  Ok pages

-- The capsule at a place within a length, or the first cause against it.
unfoldable pub judge_capsule : List ℕ → ℕ → ℕ → Bank → Layout → FusesState → Acceptance → Result CapsuleState CapsuleFail
judge_capsule image place len bank layout fuses accepts = do
  signed ← judge_signed image place len bank layout fuses accepts
  header ← judge_header image (end_of signed.inner) (end_of signed.capsule)
  pages ← judge_pages image (end_of signed.inner + 128) header signed.manifest.regions
  require_none Incoherent (incoherent_region image pages signed.manifest.regions)
  Ok (capsule_of image place signed pages)
