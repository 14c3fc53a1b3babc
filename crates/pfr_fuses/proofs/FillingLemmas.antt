-- Bytes that are put together, a part behind the other, and bytes that are programmed.
use Rattle.std.proofs.Common.{◌≡◌, ℕ, zero, suc, ◌+◌, ◌≤◌, ◌<◌, List, [], ◌∷◌, ◌++◌, length, get_or, bit_and, refl, sym, ap, ◌∙◌, subst, arith, append_assoc, length-append}
use Rattle.std.specs.Int.Bits.{and_zero_r}
use Rattle.pfr_flash.specs.Bytes.{bytes_at, written, and_bytes}
use Rattle.pfr_flash.specs.Operation.{Program, applied}
use Rattle.pfr_flash.proofs.BytesLemmas.{length-bytes_at, get_or-bytes_at, get_or-written_inside, bytes_at-written, and_bytes-ones}
use Rattle.pfr_flash.proofs.FuseLemmas.{applied-byte}

-- one part behind another
written_behind : (image : List ℕ) (at : ℕ) (xs ys : List ℕ) → written (written image at xs) (at + length xs) ys ≡ written image at (xs ++ ys)
unfolding written
written_behind [] at xs ys = refl
written_behind (z ∷ zs) (suc at) xs ys = let e : suc at + length xs ≡ suc (at + length xs) = omega arith in rw e (ap (λ (rest : List ℕ). z ∷ rest) (written_behind zs at xs ys))
written_behind (z ∷ zs) zero [] ys = refl
written_behind (z ∷ zs) zero (x ∷ xs) ys =
    let e : zero + suc (length xs) ≡ suc (zero + length xs) = omega arith in
    rw e (ap (λ (rest : List ℕ). x ∷ rest) (written_behind zs zero xs ys))

-- a part behind those that were put
pub put_behind : (image front part : List ℕ) (at : ℕ) → at ≡ length front → written (written image 0 front) at part ≡ written image 0 (front ++ part)
put_behind image front part at e = let place : at ≡ 0 + length front = omega arith in rw place (written_behind image 0 front part)

-- all was put
pub put_whole : (image bytes : List ℕ) → length bytes ≡ length image → written image 0 bytes ≡ bytes
unfolding written
put_whole [] [] h = refl
put_whole [] (y ∷ ys) h = absurd (omega arith)
put_whole (x ∷ xs) [] h = absurd (omega arith)
put_whole (x ∷ xs) (y ∷ ys) h = ap (λ (rest : List ℕ). y ∷ rest) (put_whole xs ys (omega arith))

-- six rows of fuses
pub filled : (image a b c d e f first second third fourth fifth sixth : List ℕ) → length image ≡ 160 → length a ≡ 16 → length b ≡ 16 → length c ≡ 32 → length d ≡ 32 → length e ≡ 32 → length f ≡ 32
    → first ≡ written image 0 a → second ≡ written first 16 b → third ≡ written second 32 c → fourth ≡ written third 64 d → fifth ≡ written fourth 96 e → sixth ≡ written fifth 128 f
    → sixth ≡ a ++ (b ++ (c ++ (d ++ (e ++ f))))
filled image a b c d e f first second third fourth fifth sixth size ha hb hc hd he hf e1 e2 e3 e4 e5 e6 =
    let two : second ≡ written image 0 (a ++ b) = e2 ∙ ap (λ (x : List ℕ). written x 16 b) e1 ∙ put_behind image a b 16 (sym ha) in
    let three : third ≡ written image 0 ((a ++ b) ++ c) = e3 ∙ ap (λ (x : List ℕ). written x 32 c) two ∙ put_behind image (a ++ b) c 32 (simp length-append (omega arith)) in
    let four : fourth ≡ written image 0 (((a ++ b) ++ c) ++ d) = e4 ∙ ap (λ (x : List ℕ). written x 64 d) three ∙ put_behind image ((a ++ b) ++ c) d 64 (simp length-append (omega arith)) in
    let five : fifth ≡ written image 0 ((((a ++ b) ++ c) ++ d) ++ e) = e5 ∙ ap (λ (x : List ℕ). written x 96 e) four ∙ put_behind image (((a ++ b) ++ c) ++ d) e 96 (simp length-append (omega arith)) in
    e6 ∙ ap (λ (x : List ℕ). written x 128 f) five ∙ put_behind image ((((a ++ b) ++ c) ++ d) ++ e) f 128 (simp length-append (omega arith))
    ∙ put_whole image (((((a ++ b) ++ c) ++ d) ++ e) ++ f) (simp length-append (omega arith))
    ∙ (simp append_assoc)

-- three parts
pub filled_three : (image a b c first second third : List ℕ) → length image ≡ 72 → length a ≡ 32 → length b ≡ 20 → length c ≡ 20 → first ≡ written image 0 a → second ≡ written first 32 b → third ≡ written second 52 c
    → third ≡ a ++ (b ++ c)
filled_three image a b c first second third size ha hb hc e1 e2 e3 =
    let two : second ≡ written image 0 (a ++ b) = e2 ∙ ap (λ (x : List ℕ). written x 32 b) e1 ∙ put_behind image a b 32 (sym ha) in
    e3 ∙ ap (λ (x : List ℕ). written x 52 c) two ∙ put_behind image (a ++ b) c 52 (simp length-append (omega arith)) ∙ put_whole image ((a ++ b) ++ c) (simp length-append (omega arith)) ∙ (simp append_assoc)

-- five parts
pub filled_five : (image a b c d e first second third fourth fifth : List ℕ) → length image ≡ 20 → length a ≡ 4 → length b ≡ 4 → length c ≡ 4 → length d ≡ 4 → length e ≡ 4
    → first ≡ written image 0 a → second ≡ written first 4 b → third ≡ written second 8 c → fourth ≡ written third 12 d → fifth ≡ written fourth 16 e
    → fifth ≡ a ++ (b ++ (c ++ (d ++ e)))
filled_five image a b c d e first second third fourth fifth size ha hb hc hd he e1 e2 e3 e4 e5 =
    let two : second ≡ written image 0 (a ++ b) = e2 ∙ ap (λ (x : List ℕ). written x 4 b) e1 ∙ put_behind image a b 4 (sym ha) in
    let three : third ≡ written image 0 ((a ++ b) ++ c) = e3 ∙ ap (λ (x : List ℕ). written x 8 c) two ∙ put_behind image (a ++ b) c 8 (simp length-append (omega arith)) in
    let four : fourth ≡ written image 0 (((a ++ b) ++ c) ++ d) = e4 ∙ ap (λ (x : List ℕ). written x 12 d) three ∙ put_behind image ((a ++ b) ++ c) d 12 (simp length-append (omega arith)) in
    e5 ∙ ap (λ (x : List ℕ). written x 16 e) four ∙ put_behind image (((a ++ b) ++ c) ++ d) e 16 (simp length-append (omega arith))
    ∙ put_whole image ((((a ++ b) ++ c) ++ d) ++ e) (simp length-append (omega arith))
    ∙ (simp append_assoc)

-- ---- bytes that are programmed where all is 0xFF, and a byte of 0
pub program_ones : (image bytes : List ℕ) (at n : ℕ) → length bytes ≡ n → at + n ≤ length image → ((i : ℕ) → i < n → get_or image (at + i) 0 ≡ 255) → ((i : ℕ) → i < n → get_or bytes i 0 < 256)
    → bytes_at (applied image (Program at bytes)) at n ≡ bytes
program_ones image bytes at n len fits ones small =
    let old = bytes_at image at (length bytes) in
    let old_len : length old ≡ length bytes = length-bytes_at image at (length bytes) (omega (arith, len, fits)) in
    let same : and_bytes old bytes ≡ bytes = and_bytes-ones old bytes old_len
    (λ i below. get_or-bytes_at image at (length bytes) i 0 (omega (arith, old_len, below)) ∙ ones i (omega (arith, old_len, len, below))) (λ i below. small i (omega (arith, len, below))) in
    ap (λ (after : List ℕ). bytes_at (written image at after) at n) same
    ∙ subst (λ (k : ℕ). bytes_at (written image at bytes) at k ≡ bytes) len (bytes_at-written image at bytes (omega (arith, len, fits)))

pub program_zero : (image : List ℕ) (at : ℕ) → at < length image → get_or (applied image (Program at (0 ∷ []))) at 0 ≡ 0
program_zero image at below =
    let place : at + 0 ≡ at = omega arith in
    let left : ℕ = bit_and (get_or image at 0) 0 in
    ap (λ (after : List ℕ). get_or after at 0) (applied-byte image at 0 below)
    ∙ subst (λ (p : ℕ). get_or (written image at (left ∷ [])) p 0 ≡ left) place (get_or-written_inside image at (left ∷ []) 0 0 (omega arith) (omega arith))
    ∙ and_zero_r (get_or image at 0)
