-- The tests of what is signed in a capsule, in the order of the causes.
use Rattle.std.specs.Prelude.{ℕ, min, nat_le, List, length, Result, Ok}
use Rattle.pfr_flash.specs.Bytes.{bytes_at}
use Rattle.pfr_flash.specs.Names.{capsule_type, manifest_type}
use Rattle.pfr_flash.specs.declared.layout.Layout.{Layout}
use Rattle.pfr_flash.specs.declared.names.Bank.{Bank}
use Rattle.pfr_engine.specs.Acceptance.{Acceptance}
use Rattle.pfr_chain.specs.Judge.{judge}
use Rattle.pfr_chain.specs.declared.judging.Chain.{Chain}
use Rattle.pfr_fuses.specs.FusesState.{FusesState, floor_of, row_of}
use Rattle.pfr_manifest.specs.Judge.{judge_manifest}
use Rattle.pfr_flash.specs.Judging.{◌>>=◌, ◌>>◌, require, told_as}
use Rattle.pfr_capsule.specs.declared.fail.CapsuleFail.{CapsuleFail}
use Rattle.pfr_capsule.specs.declared.fail.CapsuleFail.TheVariants.{Chain as OfChain, ManifestChain, Manifest, SvnFloor}
use Rattle.pfr_capsule.specs.declared.signed.Signed.{Signed}

-- the chain of a capsule
unfoldable pub judge_capsule_chain : List ℕ → ℕ → ℕ → Bank → FusesState → Acceptance → Result Chain CapsuleFail
judge_capsule_chain image place len bank fuses accepts =
    told_as OfChain (judge image place len (capsule_type bank) fuses.provision.root (row_of fuses (capsule_type bank)) accepts)

-- the chain of the manifest in a capsule, within the smaller of the body's length and the manifest area's
unfoldable pub judge_inner_chain : List ℕ → Bank → Layout → FusesState → Acceptance → Chain → Result Chain CapsuleFail
judge_inner_chain image bank layout fuses accepts capsule =
    told_as ManifestChain (judge image capsule.content_at (min capsule.length layout.manifest_len) (manifest_type bank) fuses.provision.root (row_of fuses (manifest_type bank)) accepts)

-- what is signed in a capsule at a place within a length
unfoldable pub judge_signed : List ℕ → ℕ → ℕ → Bank → Layout → FusesState → Acceptance → Result Signed CapsuleFail
judge_signed image place len bank layout fuses accepts = do
  capsule ← judge_capsule_chain image place len bank fuses accepts
  inner ← judge_inner_chain image bank layout fuses accepts capsule
  manifest ← told_as Manifest (judge_manifest (bytes_at image inner.content_at inner.length) layout (length image))
  require SvnFloor (nat_le (floor_of fuses bank) manifest.svn)
  Ok (record { capsule = capsule; inner = inner; manifest = manifest })
