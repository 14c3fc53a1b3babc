-- What stands in an area of an image.
use Rattle.std.proofs.Common.{◌≡◌, ℕ, zero, suc, ◌+◌, ◌-◌, ◌≤◌, List, [], ◌∷◌, ◌++◌, length, drop, replicate, refl, ◌∙◌, ap, arith}
use Rattle.pfr_flash.specs.Bytes.{written}
use Rattle.pfr_flash.proofs.BytesLemmas.{put_mid_is, length-written}
use borrow.Rule.Slice.PartMut.{put_mid}
use Rattle.pfr_made.specs.Fields.{blanks, filled}
use Rattle.pfr_made.proofs.AreasMade.{length-blanks}
use Rattle.pfr_made.specs.Made.{with_area}

-- bytes that are written over the first of those that were written
over_written : (image : List ℕ) (at : ℕ) (rest bytes : List ℕ) → length bytes ≤ length rest
    → written (written image at rest) at bytes ≡ written image at (bytes ++ drop (length bytes) rest)
unfolding written
over_written [] at rest bytes h = refl
over_written (x ∷ xs) (suc at) rest bytes h = ap (λ (zs : List ℕ). x ∷ zs) (over_written xs at rest bytes h)
over_written (x ∷ xs) zero [] [] h = refl
over_written (x ∷ xs) zero [] (y ∷ ys) h = absurd (omega arith)
over_written (x ∷ xs) zero (z ∷ zs) [] h = refl
over_written (x ∷ xs) zero (z ∷ zs) (y ∷ ys) h = ap (λ (us : List ℕ). y ∷ us) (over_written xs zero zs ys (omega arith))

drop_blanks : (n k : ℕ) → drop k (blanks n) ≡ blanks (n - k)
unfolding blanks
drop_blanks zero zero = refl
drop_blanks zero (suc k) = let e : zero - suc k ≡ zero = omega arith in rw e refl
drop_blanks (suc n) zero = let e : suc n - zero ≡ suc n = omega arith in rw e refl
drop_blanks (suc n) (suc k) = let e : suc n - suc k ≡ n - k = omega arith in rw e (drop_blanks n k)

blanks_then : (image : List ℕ) (at len : ℕ) (bytes : List ℕ) → length bytes ≤ len
    → written (written image at (blanks len)) at bytes ≡ with_area image at len bytes
unfolding with_area filled
blanks_then image at len bytes h =
    let long : length (blanks len) ≡ len = length-blanks len in
    over_written image at (blanks len) bytes (omega arith) ∙ ap (λ (zs : List ℕ). written image at (bytes ++ zs)) (drop_blanks len (length bytes))

-- an area that is filled with 0xFF, and then begins with the bytes
pub area_put : (image blank put bytes : List ℕ) (at len n k : ℕ) → at + len ≤ length image → length bytes ≤ len
    → blank ≡ blanks len → put ≡ bytes → n ≡ len → k ≡ length bytes
    → put_mid at k (put_mid at n image blank) put ≡ with_area image at len bytes
area_put image blank put bytes at len n k inside fits blanked same all front =
    let long : length (blanks len) ≡ len = length-blanks len in
    let first : put_mid at n image (blanks len) ≡ written image at (blanks len) =
    put_mid_is image at (blanks len) n (omega arith) (omega arith) in
    let stays : length (written image at (blanks len)) ≡ length image = length-written image at (blanks len) in
    rw (blanked, same, first)
    (put_mid_is (written image at (blanks len)) at bytes k (omega arith) front ∙ blanks_then image at len bytes fits)

pub blanks_are : (n : ℕ) (bytes : List ℕ) → bytes ≡ replicate n 255 → bytes ≡ blanks n
unfolding blanks
blanks_are n bytes h = h
