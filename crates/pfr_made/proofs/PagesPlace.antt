-- Where the parts of a capsule's pages stand in an image that has them at a place.
use Rattle.std.proofs.Common.{◌≡◌, ℕ, ◌+◌, ◌/◌, List, ◌++◌, length, length-append, arith}
use Rattle.pfr_flash.specs.Bytes.{bytes_at}
use Rattle.pfr_description.specs.Described.{BankDescription}
use Rattle.pfr_made.specs.Capsules.{page_count, page_header, pages_bytes}
use Rattle.pfr_made.specs.Pages.{map_bytes, payload_of}
use Rattle.pfr_made.specs.declared.page_map.PageMap.TheVariants as maps
use Rattle.pfr_made.proofs.PagesBits.{length-map_bytes}
use Rattle.pfr_made.proofs.BlockPartsMade.{front_stands, rest_stands}
use Rattle.pfr_made.proofs.PagesHeader.{length-page_header}

-- how long the payload is
abbrev pub payload_length : BankDescription → List ℕ → ℕ
payload_length part active = length (payload_of part active (page_count part))

-- header, maps and payload one behind the other
pub record PagesStand (image : List ℕ) (at : ℕ) (part : BankDescription) (active : List ℕ) : Type 0 where
  pub header : bytes_at image at 128 ≡ page_header (page_count part) (payload_length part active)
  pub erase : bytes_at image (at + 128) (page_count part / 8) ≡ map_bytes part maps.Erase (page_count part / 8)
  pub copy : bytes_at image (at + 128 + page_count part / 8) (page_count part / 8) ≡ map_bytes part maps.Copy (page_count part / 8)
  pub payload : bytes_at image (at + 128 + page_count part / 8 + page_count part / 8) (payload_length part active) ≡ payload_of part active (page_count part)

pub length-pages_bytes : (part : BankDescription) (active : List ℕ) → length (pages_bytes part active) ≡ 128 + page_count part / 8 + page_count part / 8 + payload_length part active
unfolding pages_bytes
length-pages_bytes part active = simp (length-append, length-page_header, length-map_bytes)

pub pages_stand : (image : List ℕ) (at : ℕ) (part : BankDescription) (active : List ℕ) → bytes_at image at (length (pages_bytes part active)) ≡ pages_bytes part active → PagesStand image at part active
unfolding pages_bytes
pages_stand image at part active stand =
    let n : ℕ = page_count part / 8 in
    let header : List ℕ = page_header (page_count part) (payload_length part active) in
    let erase : List ℕ = map_bytes part maps.Erase n in
    let copy : List ℕ = map_bytes part maps.Copy n in
    let payload : List ℕ = payload_of part active (page_count part) in
    let both = front_stands image at (header ++ erase ++ copy) payload stand in
    let one = front_stands image at (header ++ erase) copy both in
    let long : length header ≡ 128 = length-page_header (page_count part) (payload_length part active) in
    let e : length erase ≡ n = length-map_bytes part maps.Erase n in
    let c : length copy ≡ n = length-map_bytes part maps.Copy n in
    let all_maps : at + length (header ++ erase ++ copy) ≡ at + 128 + n + n = omega (arith, length-append (header ++ erase) copy, length-append header erase) in
    let one_map : at + length (header ++ erase) ≡ at + 128 + n = omega (arith, length-append header erase) in
    record {
      header = rw long at (front_stands image at header erase one);
      erase = rw (long, e) at (rest_stands image at header erase one);
      copy = rw (one_map, c) at (rest_stands image at (header ++ erase) copy both);
      payload = rw all_maps at (rest_stands image at (header ++ erase ++ copy) payload stand);
    }
