-- The fuses of a row on a device, once one of them is cleared.
use Rattle.std.proofs.Common.{◌≡◌, ◌≢◌, ℕ, ◌+◌, ◌*◌, ◌/◌, ◌≤◌, ◌<◌, List, [], ◌∷◌, length, length-set, get_or, set, bit_and, sym, ap, ◌∙◌, subst, arith, ◌⊎◌, inl, inr}
use Rattle.std.proofs.lemmas.Bool.{cases_order}
use Rattle.std.proofs.lemmas.List.{ext_get_or, get_or-set_same, get_or-set_other}
use Rattle.pfr_flash.specs.Bytes.{bytes_at, written}
use Rattle.pfr_flash.specs.FuseRow.{fuse_byte, with_cleared}
use Rattle.pfr_flash.specs.Operation.{Program, applied}
use Rattle.pfr_flash.proofs.BytesLemmas.{length-bytes_at, length-written, get_or-bytes_at, get_or-written_below, get_or-written_inside, get_or-written_above}
use Rattle.pfr_flash.proofs.FuseLemmas.{applied-byte}

-- the row of the bytes at a place is the one with this fuse cleared
pub clearing-row : (image : List ℕ) (at width bit : ℕ) → bit < 8 * width → at + width ≤ length image
    → bytes_at (applied image (Program (at + bit / 8) (fuse_byte bit ∷ []))) at width ≡ with_cleared (bytes_at image at width) bit
unfolding with_cleared
clearing-row image at width bit inside fits =
    ap (λ (new : List ℕ). bytes_at new at width) (applied-byte image (at + bit / 8) (fuse_byte bit) (omega arith)) ∙ ext_get_or 0 (bytes_at new at width) (set row (bit / 8) there) same_length each
  where
    here : ℕ
    here = bit_and (get_or image (at + bit / 8) 0) (fuse_byte bit)

    row : List ℕ
    row = bytes_at image at width

    there : ℕ
    there = bit_and (get_or (bytes_at image at width) (bit / 8) 0) (fuse_byte bit)

    new : List ℕ
    new = written image (at + bit / 8) (here ∷ [])

    row_length : length row ≡ width
    row_length = length-bytes_at image at width fits

    new_length : length (bytes_at new at width) ≡ width
    new_length = length-bytes_at new at width (omega (arith, length-written image (at + bit / 8) (here ∷ [])))

    same_length : length (bytes_at new at width) ≡ length (set row (bit / 8) there)
    same_length = new_length ∙ sym (length-set row (bit / 8) there ∙ row_length)

    same_byte : here ≡ there
    same_byte = ap (λ (x : ℕ). bit_and x (fuse_byte bit)) (sym (get_or-bytes_at image at width (bit / 8) 0 (omega arith)))

    in_row : (i : ℕ) → i < width → i ≢ bit / 8 → get_or image (at + i) 0 ≡ get_or (set row (bit / 8) there) i 0
    in_row i below other = sym (get_or-set_other row (bit / 8) i there 0 other ∙ get_or-bytes_at image at width i 0 below)

    by_place : (i : ℕ) → i < width → ((i ≡ bit / 8) ⊎ (i < bit / 8) ⊎ (bit / 8 < i)) → get_or new (at + i) 0 ≡ get_or (set row (bit / 8) there) i 0
    by_place i below (inl same) =
        let place : at + bit / 8 + 0 ≡ at + i = omega arith in
        subst (λ (p : ℕ). get_or new p 0 ≡ here) place (get_or-written_inside image (at + bit / 8) (here ∷ []) 0 0 (omega arith) (omega arith))
        ∙ same_byte ∙ subst (λ (j : ℕ). there ≡ get_or (set row (bit / 8) there) j 0) (sym same) (sym (get_or-set_same row (bit / 8) there 0 (omega (arith, row_length))))
    by_place i below (inr (inl less)) = get_or-written_below image (at + bit / 8) (here ∷ []) (at + i) 0 (omega arith) ∙ in_row i below (λ (e : i ≡ bit / 8). omega (arith, e, less))
    by_place i below (inr (inr more)) = get_or-written_above image (at + bit / 8) (here ∷ []) (at + i) 0 (omega arith) ∙ in_row i below (λ (e : i ≡ bit / 8). omega (arith, e, more))

    each : (i : ℕ) → i < length (bytes_at new at width) → get_or (bytes_at new at width) i 0 ≡ get_or (set row (bit / 8) there) i 0
    each i below =
        let within : i < width = omega (arith, below, new_length) in
        get_or-bytes_at new at width i 0 within ∙ by_place i within (cases_order i (bit / 8))
