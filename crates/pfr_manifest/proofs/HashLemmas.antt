-- The test of a hash.
use Rattle.std.proofs.Common.{refl, ℕ, List}
use Rattle.std.specs.Bool.{Decides}
use Rattle.std.proofs.lemmas.Slice.Eq.{bytes_eq-Decides}
use Rattle.pfr_manifest.specs.Hashes.{HasHash, have_hash}
use Rattle.pfr_manifest.specs.declared.region.RegionHash.{RegionHash}
use Rattle.pfr_manifest.specs.declared.region.RegionHash.TheVariants as hashes

pub Decides-hash : (bytes : List ℕ) (hash : RegionHash) → Decides (have_hash bytes hash) (HasHash bytes hash)
Decides-hash bytes hashes.None = (λ _. tt, λ _. refl)
Decides-hash bytes (hashes.Sha256 digest) = bytes_eq-Decides _ digest
Decides-hash bytes (hashes.Sha384 digest) = bytes_eq-Decides _ digest
