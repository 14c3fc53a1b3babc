-- What is read of a text is spelled so, and what is spelled so is read.
use Rattle.std.proofs.Common.{◌-◌, ◌≡◌, ℕ, ◌+◌, ◌/◌, ◌%◌, ◌≤◌, List, [], ◌∷◌, ◌++◌, length, take, drop, get_or, slice_index, Some, refl, ◌∙◌, ap, arith}
use Rattle.std.proofs.Math.Seq.{take-add}
use Rattle.std.proofs.lemmas.List.{take_all, drop_more}
use Rattle.std.proofs.lemmas.Bool.Decides.{nat_tests}
use Rattle.byteorder.specs.Endian.{little_bytes}
use Rattle.pfr_manifest.specs.declared.region.Region.{Region}
use Rattle.pfr_manifest.specs.declared.region.RegionHash.{RegionHash}
use Rattle.pfr_manifest.specs.declared.region.RegionHash.TheVariants as hashes
use Rattle.pfr_manifest.specs.declared.rule.Rule.{Rule}
use Rattle.pfr_flash.specs.Bytes.{AreBytes, bytes_at}
use Rattle.pfr_flash.proofs.BytesLemmas.{length-bytes_at}
use Rattle.pfr_flash.specs.Numbers.{little_at, number_at}
use Rattle.pfr_manifest.specs.Regions.{IsDigest}
use Rattle.pfr_manifest.specs.Spelling.{magic, hash_info, digest_of, header_bytes, region_bytes, rule_bytes}
use Rattle.pfr_manifest.specs.Manifest.{IsHeaderWide, IsRegionWide, IsRuleWide}
use Rattle.pfr_manifest.specs.Judge.{header_at, region_at, rule_at, hash_at, region_size, region_len, len_of_hash}
use Rattle.pfr_manifest.proofs.Numbers.{number_spelled, number_fits}

-- ---- parts of a text

pub two_at : (bytes : List ℕ) (at : ℕ) → at + 2 ≤ length bytes → take 2 (drop at bytes) ≡ get_or bytes at 0 ∷ get_or bytes (at + 1) 0 ∷ []
two_at bytes at h =
    let a = drop_more bytes at 0 (omega arith) in
    let b = drop_more bytes (at + 1) 0 (omega arith) in
    rw (a, b) refl

pub three_at : (bytes : List ℕ) (at : ℕ) → at + 3 ≤ length bytes → take 3 (drop at bytes) ≡ get_or bytes at 0 ∷ get_or bytes (at + 1) 0 ∷ get_or bytes (at + 1 + 1) 0 ∷ []
three_at bytes at h =
    let a = drop_more bytes at 0 (omega arith) in
    let b = drop_more bytes (at + 1) 0 (omega arith) in
    let d = drop_more bytes (at + 1 + 1) 0 (omega arith) in
    rw (a, b, d) refl

one_at : (bytes : List ℕ) → 1 ≤ length bytes → take 1 bytes ≡ get_or bytes 0 0 ∷ []
one_at (a ∷ more) h = refl
one_at [] h = absurd (omega arith)

-- ---- headers

pub header_spelled : (header : List ℕ) → AreBytes header → length header ≡ 32 → number_at header 0 ≡ magic → header ≡ header_bytes (header_at header)
unfolding header_bytes
header_spelled header bytes long first =
    let m : little_bytes 4 magic ≡ take 4 header = rw first at (number_spelled header 0 bytes (omega arith)) in
    let s = two_at header 4 (omega arith) in
    let l = number_spelled header 28 bytes (omega arith) in
    cc (take_all 32 header (omega arith), take-add 28 4 header, take-add 12 16 header, take-add 8 4 header, take-add 6 2 header, take-add 4 2 header)

pub header_wide : (header : List ℕ) → AreBytes header → length header ≡ 32 → IsHeaderWide (header_at header)
header_wide header bytes long = record {
  revision = length-bytes_at header 6 2 (omega arith);
  reserved = length-bytes_at header 8 4 (omega arith);
  oem = length-bytes_at header 12 16 (omega arith);
  long = number_fits header 28 bytes;
}

-- ---- regions

-- what the hash of a definition says of its hash info, its length and its digest
hash_is : (entry : List ℕ) (hash : RegionHash) → hash_at entry ≡ Some hash →
    (little_at entry 2 2 ≡ hash_info hash) × (hash_info hash ≤ 2) × (region_size entry ≡ len_of_hash hash) × (digest_of hash ≡ bytes_at entry 16 (len_of_hash hash - 16))
unfolding hash_at region_size
hash_is entry hashes.None h = grind (arith, nat_tests)
hash_is entry (hashes.Sha256 digest) h = grind (arith, nat_tests)
hash_is entry (hashes.Sha384 digest) h = grind (arith, nat_tests)

digest_fits : (hash : RegionHash) → 16 ≤ len_of_hash hash × (length (digest_of hash) ≡ len_of_hash hash - 16 → IsDigest hash)
digest_fits hashes.None = (omega arith, λ h. tt)
digest_fits (hashes.Sha256 digest) = (omega arith, λ h. h)
digest_fits (hashes.Sha384 digest) = (omega arith, λ h. h)

-- the hash info is what two bytes spell
info_spelled : (entry : List ℕ) (info : ℕ) → 4 ≤ length entry → info ≤ 2 → little_at entry 2 2 ≡ info → take 2 (drop 2 entry) ≡ little_bytes 2 info
unfolding little_at
info_spelled (a ∷ b ∷ c ∷ d ∷ more) info h small e =
    let p : c ≡ info = omega arith in
    let q : d ≡ 0 = omega arith in
    let r : info % 256 ≡ info = omega arith in
    let s : info / 256 % 256 ≡ 0 = omega arith in
    rw (p, q, r, s) refl
info_spelled _ info h small e = absurd (omega arith)

pub record IsReadRegion (entry : List ℕ) (region : Region) : Type 0 where
  pub whole : region_len region ≤ length entry
  pub spelled : take (region_len region) entry ≡ region_bytes region
  pub wide : IsRegionWide region

pub region_spelled : (entry : List ℕ) (hash : RegionHash) → AreBytes entry → slice_index entry 0 ≡ 1 → 16 ≤ length entry → region_size entry ≤ length entry → hash_at entry ≡ Some hash → IsReadRegion entry (region_at entry hash)
unfolding region_bytes region_at
region_spelled entry hash bytes first long whole hashed =
    let is = hash_is entry hash hashed in
    let fits = digest_fits hash in
    let head : take 2 entry ≡ 1 ∷ slice_index entry 1 ∷ [] = rw first at (two_at entry 0 (omega arith)) in
    let info = info_spelled entry (hash_info hash) (omega arith) is.1 is.0 in
    let start = number_spelled entry 8 bytes (omega arith) in
    let end = number_spelled entry 12 bytes (omega arith) in
    let all : 16 + (len_of_hash hash - 16) ≡ len_of_hash hash = omega arith in
    let digest : take (len_of_hash hash) entry ≡ take 16 entry ++ digest_of hash = rw is.3 (rw all at (take-add 16 (len_of_hash hash - 16) entry)) in
    record {
      whole = omega arith;
      spelled = cc (take-add 12 4 entry, take-add 8 4 entry, take-add 4 4 entry, take-add 2 2 entry);
      wide = record {
        reserved = length-bytes_at entry 4 4 (omega arith);
        start = number_fits entry 8 bytes;
        end = number_fits entry 12 bytes;
        digest = fits.1 (ap length is.3 ∙ length-bytes_at entry 16 (len_of_hash hash - 16) (omega arith));
      };
    }

-- ---- rules

pub record IsReadRule (entry : List ℕ) (rule : Rule) : Type 0 where
  pub spelled : take 40 entry ≡ rule_bytes rule
  pub wide : IsRuleWide rule

pub rule_spelled : (entry : List ℕ) → slice_index entry 0 ≡ 2 → 40 ≤ length entry → IsReadRule entry (rule_at entry)
unfolding rule_bytes rule_at
rule_spelled entry first long =
    let head : take 1 entry ≡ 2 ∷ [] = rw first at (one_at entry (omega arith)) in
    let three = three_at entry 5 (omega arith) in
    record {
      spelled = cc (take-add 8 32 entry, take-add 5 3 entry, take-add 1 4 entry);
      wide = record {
        reserved = length-bytes_at entry 1 4 (omega arith);
        commands = length-bytes_at entry 8 32 (omega arith);
      };
    }
