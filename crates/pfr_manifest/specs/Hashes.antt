-- The bytes of a region, and which bytes have its hash.
use Rattle.std.specs.Prelude.{◌≡◌, ℕ, ◌-◌, Bool, true, List}
use Rattle.std.specs.Str.{bytes_eq}
use Rattle.sha2.specs.Sha256.{sha256}
use Rattle.sha2.specs.Sha512.{sha384}
use Rattle.pfr_flash.specs.Bytes.{bytes_at}
use Rattle.pfr_manifest.specs.declared.region.RegionHash.{RegionHash}
use Rattle.pfr_manifest.specs.declared.region.RegionHash.TheVariants as hashes

-- what stands from one place up to another
abbrev pub bytes_between : List ℕ → ℕ → ℕ → List ℕ
bytes_between image start end = bytes_at image start (end - start)

-- These bytes have this hash. Without a hash any bytes will do.
abbrev pub HasHash : List ℕ → RegionHash → Type 0
HasHash bytes hashes.None = Unit {0}
HasHash bytes (hashes.Sha256 digest) = sha256 bytes ≡ digest
HasHash bytes (hashes.Sha384 digest) = sha384 bytes ≡ digest

-- the same as a test
abbrev pub have_hash : List ℕ → RegionHash → Bool
have_hash bytes hashes.None = true
have_hash bytes (hashes.Sha256 digest) = bytes_eq (sha256 bytes) digest
have_hash bytes (hashes.Sha384 digest) = bytes_eq (sha384 bytes) digest
