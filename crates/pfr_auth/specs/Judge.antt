-- The judgement of a bank's active image: its parts in the order of the causes, the first that fails is the answer.
use Rattle.std.specs.Prelude.{ℕ, ◌+◌, Bool, nat_le, List, [], ◌∷◌, length, Result, Ok}
use Rattle.pfr_flash.specs.Bytes.{bytes_at}
use Rattle.pfr_flash.specs.Names.{manifest_type}
use Rattle.pfr_flash.specs.declared.layout.Layout.{Layout}
use Rattle.pfr_flash.specs.declared.names.Bank.{Bank}
use Rattle.pfr_engine.specs.Acceptance.{Acceptance}
use Rattle.pfr_chain.specs.Judge.{judge}
use Rattle.pfr_fuses.specs.FusesState.{FusesState, floor_of, row_of}
use Rattle.pfr_fuses.specs.RootSlot.{layout_of}
use Rattle.pfr_manifest.specs.Hashes.{bytes_between, have_hash}
use Rattle.pfr_manifest.specs.Judge.{judge_manifest}
use Rattle.pfr_manifest.specs.declared.manifest.Manifest.{Manifest}
use Rattle.pfr_manifest.specs.declared.region.Region.{Region}
use Rattle.pfr_flash.specs.Judging.{◌>>=◌, ◌>>◌, require, told_as}
use Rattle.pfr_auth.specs.declared.fail.ActiveFail.{ActiveFail}
use Rattle.pfr_auth.specs.declared.fail.ActiveFail.TheVariants.{Chain as OfChain, Manifest as OfManifest, SvnFloor, RegionHash as WrongHash}

-- the manifest that is signed in a bank's manifest area
unfoldable pub judge_signed : List ℕ → Bank → FusesState → Acceptance → Result Manifest ActiveFail
judge_signed image bank fuses accepts = do
  let layout : Layout = layout_of fuses.provision bank
  chain ← told_as OfChain (judge image layout.manifest_at layout.manifest_len (manifest_type bank) fuses.provision.root (row_of fuses (manifest_type bank)) accepts)
  told_as OfManifest (judge_manifest (bytes_at image chain.content_at chain.length) layout (length image))

-- whether a region of an image has its hash
unfoldable pub is_hashed : List ℕ → Region → Bool
is_hashed image region = have_hash (bytes_between image region.start region.end) region.hash

-- the hashes of the regions, the first of which has number k
unfoldable pub judge_regions : List ℕ → ℕ → List Region → Result (Unit {0}) ActiveFail
judge_regions image k [] = Ok tt
judge_regions image k (region ∷ others) = do
  require (WrongHash k) (is_hashed image region)
  judge_regions image (k + 1) others

-- The manifest of a bank's active image, or the first cause against it.
unfoldable pub judge_active : List ℕ → Bank → FusesState → Acceptance → Result Manifest ActiveFail
judge_active image bank fuses accepts = do
  m ← judge_signed image bank fuses accepts
  require SvnFloor (nat_le (floor_of fuses bank) m.svn)
  judge_regions image 0 m.regions
  Ok m
