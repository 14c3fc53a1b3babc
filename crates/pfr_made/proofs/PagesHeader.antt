-- The page-block header that is made, and where header, maps and payload stand in an image.
use Rattle.std.proofs.Common.{◌≡◌, ◌∙◌, ap, sym, refl, ℕ, ◌+◌, ◌^◌, ◌<◌, List, ◌++◌, length, take, drop, length-append, append_assoc, arith}
use Rattle.std.proofs.lemmas.List.{drop_at, drop-drop, length-replicate, take_at}
use Rattle.byteorder.specs.Endian.{little_number, little_bytes}
use Rattle.pfr_flash.specs.Numbers.{little_at, number_at}
use Rattle.pfr_manifest.proofs.Numbers.{number_read}
use Rattle.pfr_capsule.specs.PageHeader.{page_header_of}
use Rattle.pfr_capsule.specs.declared.page_header.PageHeader.{PageHeader}
use Rattle.pfr_made.specs.Capsules.{page_header}
use Rattle.pfr_made.proofs.BlockPartsMade.{length-number}
use Rattle.pfr_made.specs.Fields.{number_bytes, padded, zeros}

-- ---- numbers one behind the other
pub first_number : (number : ℕ) (rest : List ℕ) → number < 2 ^ 32 → number_at (number_bytes number ++ rest) 0 ≡ number
unfolding little_at number_bytes
first_number number rest h = ap (λ (bytes : List ℕ). little_number 4 bytes) (take_at (little_bytes 4 number) rest 4 refl) ∙ number_read number h

pub next_number : (number : ℕ) (rest : List ℕ) (at : ℕ) → number_at (number_bytes number ++ rest) (4 + at) ≡ number_at rest at
unfolding little_at
next_number number rest at =
    ap (λ (bytes : List ℕ). little_number 4 (take 4 bytes))
    (sym (drop-drop at 4 (number_bytes number ++ rest)) ∙ ap (λ (bytes : List ℕ). drop at bytes) (drop_at (number_bytes number) rest 4 (length-number number)))

-- ---- the header
pub length-page_header : (map_bits payload_len : ℕ) → length (page_header map_bits payload_len) ≡ 128
unfolding page_header padded zeros
length-page_header map_bits payload_len = simp (length-append, length-number, length-replicate)

-- the header of maps of so many bits and a payload of so many bytes
abbrev pub header_with : ℕ → ℕ → PageHeader
header_with map_bits payload_len = record {
  magic = 0x5F504243;
  version = 2;
  page_size = 4096;
  pattern_size = 1;
  pattern = 0xFF;
  map_bits = map_bits;
  payload_len = payload_len;
}

spelled_numbers : (map_bits payload_len : ℕ) → page_header map_bits payload_len ≡ number_bytes 0x5F504243 ++ (number_bytes 2 ++ (number_bytes 4096 ++ (number_bytes 1
    ++ (number_bytes 0xFF ++ (number_bytes map_bits ++ (number_bytes payload_len ++ zeros 100))))))
unfolding page_header padded
spelled_numbers map_bits payload_len = simp (length-append, length-number, append_assoc)

pub header_read : (map_bits payload_len : ℕ) → map_bits < 2 ^ 32 → payload_len < 2 ^ 32 → page_header_of (page_header map_bits payload_len) ≡ header_with map_bits payload_len
unfolding page_header_of
header_read map_bits payload_len few short =
    let l = number_bytes payload_len ++ zeros 100 in
    let b = number_bytes map_bits ++ l in
    let x = number_bytes 0xFF ++ b in
    let y = number_bytes 1 ++ x in
    let p = number_bytes 4096 ++ y in
    let v = number_bytes 2 ++ p in
    let whole = number_bytes 0x5F504243 ++ v in
    let magic : number_at whole 0 ≡ 0x5F504243 = first_number 0x5F504243 v (omega arith) in
    let version : number_at whole 4 ≡ 2 = next_number 0x5F504243 v 0 ∙ first_number 2 p (omega arith) in
    let page_size : number_at whole 8 ≡ 4096 = next_number 0x5F504243 v 4 ∙ next_number 2 p 0 ∙ first_number 4096 y (omega arith) in
    let pattern_size : number_at whole 12 ≡ 1 = next_number 0x5F504243 v 8 ∙ next_number 2 p 4 ∙ next_number 4096 y 0 ∙ first_number 1 x (omega arith) in
    let pattern : number_at whole 16 ≡ 0xFF = next_number 0x5F504243 v 12 ∙ next_number 2 p 8 ∙ next_number 4096 y 4 ∙ next_number 1 x 0 ∙ first_number 0xFF b (omega arith) in
    let bits : number_at whole 20 ≡ map_bits = next_number 0x5F504243 v 16 ∙ next_number 2 p 12 ∙ next_number 4096 y 8 ∙ next_number 1 x 4 ∙ next_number 0xFF b 0 ∙ first_number map_bits l few in
    let len : number_at whole 24 ≡ payload_len = next_number 0x5F504243 v 20 ∙ next_number 2 p 16 ∙ next_number 4096 y 12 ∙ next_number 1 x 8 ∙ next_number 0xFF b 4 ∙ next_number map_bits l 0 ∙ first_number payload_len (zeros 100) short in
    rw (spelled_numbers map_bits payload_len, magic, version, page_size, pattern_size, pattern, bits, len) refl
