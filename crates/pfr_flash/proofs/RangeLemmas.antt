-- Which bytes operations and calls leave alone, and which bits stay cleared.
use Rattle.std.proofs.Common.{◌≡◌, ℕ, ◌+◌, ◌-◌, ◌*◌, ◌≤◌, ◌<◌, List, [], ◌∷◌, ◌++◌, length, get_or, refl, sym, ap, ◌∙◌, subst, arith, bit_and, ◌⊎◌, inl, inr}
use Rattle.std.proofs.lemmas.List.{ext_get_or, get_or_past}
use Rattle.std.proofs.lemmas.Bool.{cases_lt}
use Rattle.std.proofs.lemmas.Nat.Bits.{bit_at_and, bit_at-zero}
use Rattle.std.specs.Int.{bit_at}
use Rattle.pfr_flash.specs.Bytes.{blank, bytes_at, written, each_byte, and_bytes}
use Rattle.pfr_flash.specs.Operation.{Operation, Erase, Program, Torn, applied, play, IsTorn}
use Rattle.pfr_flash.specs.FlashState.{FlashState, now, size_of}
use Rattle.pfr_flash.specs.Range.{place_of, len_of, AllWithin, SameOutside, OnlyClears}
use Rattle.pfr_flash.proofs.BytesLemmas.{length-blank, length-written, get_or-written_below, get_or-written_above, get_or-written_inside, length-each_byte, length-bytes_at, get_or-each_byte, get_or-bytes_at}
use Rattle.pfr_flash.proofs.PlayLemmas.{length-play}

-- ---- the bytes of a device
pub length-now : (d : FlashState) → length (now d) ≡ size_of d
length-now d = length-play d.start d.ops

-- ---- outside of an operation
written_outside : (image : List ℕ) (at : ℕ) (bytes : List ℕ) (k : ℕ) → ((k < at) ⊎ (at + length bytes ≤ k)) → get_or (written image at bytes) k 0 ≡ get_or image k 0
written_outside image at bytes k (inl below) = get_or-written_below image at bytes k 0 below
written_outside image at bytes k (inr above) = get_or-written_above image at bytes k 0 above

SameOutside-written : (image : List ℕ) (at : ℕ) (bytes : List ℕ) → SameOutside at (length bytes) image (written image at bytes)
SameOutside-written image at bytes = record { stays = λ k out. written_outside image at bytes k out }

pub SameOutside-refl : (from len : ℕ) (image : List ℕ) → SameOutside from len image image
SameOutside-refl from len image = record { stays = λ k out. refl }

pub then_outside : {from len : ℕ} {a b c : List ℕ} → SameOutside from len a b → SameOutside from len b c → SameOutside from len a c
then_outside h g = record { stays = λ k out. g.stays k out ∙ h.stays k out }

pub SameOutside-wider : (from len from' len' : ℕ) (a b : List ℕ) → from' ≤ from → from + len ≤ from' + len' → SameOutside from len a b → SameOutside from' len' a b
SameOutside-wider from len from' len' a b low high h = record { stays = λ k out. h.stays k (narrower k out) }
  where
    narrower : (k : ℕ) → ((k < from') ⊎ (from' + len' ≤ k)) → ((k < from) ⊎ (from + len ≤ k))
    narrower k (inl below) = inl (omega arith)
    narrower k (inr above) = inr (omega arith)

-- a program within the image does as many bytes as it has
and_len : (image : List ℕ) (at : ℕ) (bytes : List ℕ) → length (and_bytes (bytes_at image at (length bytes)) bytes) ≤ length bytes
and_len image at bytes = each_len bit_and (bytes_at image at (length bytes)) bytes
  where
    each_len : (f : ℕ → ℕ → ℕ) (xs ys : List ℕ) → length (each_byte f xs ys) ≤ length ys
    each_len f [] ys = omega arith
    each_len f (x ∷ xs) [] = omega arith
    each_len f (x ∷ xs) (y ∷ ys) = omega (arith, each_len f xs ys)

pub SameOutside-applied : (image : List ℕ) (op : Operation) → SameOutside (place_of op) (len_of op) image (applied image op)
SameOutside-applied image (Erase sector) = subst (λ (n : ℕ). SameOutside (4096 * sector) n image (written image (4096 * sector) blank)) length-blank (SameOutside-written image (4096 * sector) blank)
SameOutside-applied image (Program at bytes) =
    let after = and_bytes (bytes_at image at (length bytes)) bytes in
    SameOutside-wider at (length after) at (length bytes) image (written image at after) (omega arith) (omega (arith, and_len image at bytes)) (SameOutside-written image at after)
SameOutside-applied image (Torn at after) = SameOutside-written image at after

-- operations within a range leave the bytes outside of it
pub SameOutside-play : (from len : ℕ) (image : List ℕ) (ops : List Operation) → AllWithin from len ops → SameOutside from len image (play image ops)
SameOutside-play from len image [] h = SameOutside-refl from len image
SameOutside-play from len image (op ∷ ops) h =
    then_outside
    (SameOutside-wider (place_of op) (len_of op) from len image (applied image op) h.0.low h.0.high (SameOutside-applied image op))
    (SameOutside-play from len (applied image op) ops h.1)

-- so many bytes that lie outside
pub bytes_at-outside : (from len : ℕ) (old new : List ℕ) (at count : ℕ) → SameOutside from len old new → length new ≡ length old
    → ((at + count ≤ from) ⊎ (from + len ≤ at)) → at + count ≤ length old → bytes_at new at count ≡ bytes_at old at count
bytes_at-outside from len old new at count same lens apart fits =
    ext_get_or 0 (bytes_at new at count) (bytes_at old at count) (length-bytes_at new at count (omega arith) ∙ sym (length-bytes_at old at count fits))
    (λ k below.
    let inside : k < count = omega (arith, length-bytes_at new at count (omega arith)) in
    get_or-bytes_at new at count k 0 inside ∙ same.stays (at + k) (out k inside apart) ∙ sym (get_or-bytes_at old at count k 0 inside))
  where
    out : (k : ℕ) → k < count → ((at + count ≤ from) ⊎ (from + len ≤ at)) → ((at + k < from) ⊎ (from + len ≤ at + k))
    out k h (inl left) = inl (omega arith)
    out k h (inr right) = inr (omega arith)

-- what is done in place of an operation touches no more
pub IsTorn-within : (image : List ℕ) (op done : Operation) → IsTorn image op done → (place_of done ≡ place_of op) × (len_of done ≡ len_of op)
IsTorn-within image (Erase sector) done h = rw h.is (refl, h.whole_sector)
IsTorn-within image (Program at bytes) done h = rw h.is (refl, h.same_range)
IsTorn-within image (Torn at after) done h = absurd h

pub SameOutside-torn : (image : List ℕ) (op done : Operation) → IsTorn image op done → SameOutside (place_of op) (len_of op) image (applied image done)
SameOutside-torn image op done h =
    let same = IsTorn-within image op done h in
    subst (λ (n : ℕ). SameOutside (place_of op) n image (applied image done)) same.1
    (subst (λ (n : ℕ). SameOutside n (len_of done) image (applied image done)) same.0 (SameOutside-applied image done))

-- ---- bits that are cleared
pub OnlyClears-refl : (image : List ℕ) → OnlyClears image image
OnlyClears-refl image = record { clears = λ k bit h. h }

pub then_clears : {a b c : List ℕ} → OnlyClears a b → OnlyClears b c → OnlyClears a c
then_clears h g = record { clears = λ k bit z. g.clears k bit (h.clears k bit z) }

OnlyClears-written : (image : List ℕ) (at : ℕ) (after : List ℕ)
    → ((i : ℕ) → i < length after → (bit : ℕ) → bit_at (get_or image (at + i) 0) bit ≡ 0 → bit_at (get_or after i 0) bit ≡ 0)
    → OnlyClears image (written image at after)
OnlyClears-written image at after inside = record { clears = λ k bit z. by_place k bit z (cases_lt k at) (cases_lt k (at + length after)) (cases_lt k (length image)) }
  where
    by_place : (k bit : ℕ) → bit_at (get_or image k 0) bit ≡ 0 → ((k < at) ⊎ (at ≤ k)) → ((k < at + length after) ⊎ (at + length after ≤ k)) → ((k < length image) ⊎ (length image ≤ k))
        → bit_at (get_or (written image at after) k 0) bit ≡ 0
    by_place k bit z (inl below) q r = rw (get_or-written_below image at after k 0 below) z
    by_place k bit z (inr from) (inr above) r = rw (get_or-written_above image at after k 0 above) z
    by_place k bit z (inr from) (inl to) (inr past) =
        let none : get_or (written image at after) k 0 ≡ 0 = get_or_past (written image at after) k 0 (omega (arith, length-written image at after)) in
        rw none (bit_at-zero bit)
    by_place k bit z (inr from) (inl to) (inl within) =
        let e : at + (k - at) ≡ k = omega arith in
        let there : at + (k - at) < length image = omega arith in
        let some : k - at < length after = omega arith in
        let is : get_or (written image at after) (at + (k - at)) 0 ≡ get_or after (k - at) 0 = get_or-written_inside image at after (k - at) 0 there some in
        let cleared : bit_at (get_or image (at + (k - at)) 0) bit ≡ 0 = rw e z in
        rw (ap (λ (n : ℕ). get_or (written image at after) n 0) (sym e) ∙ is) (inside (k - at) some bit cleared)

-- a program only clears bits
pub OnlyClears-program : (image : List ℕ) (at : ℕ) (bytes : List ℕ) → at + length bytes ≤ length image → OnlyClears image (applied image (Program at bytes))
OnlyClears-program image at bytes fits = OnlyClears-written image at (and_bytes (bytes_at image at (length bytes)) bytes) (λ i below bit z.
    let old = bytes_at image at (length bytes) in
    let old_len : length old ≡ length bytes = length-bytes_at image at (length bytes) fits in
    let len = length-each_byte bit_and old bytes old_len in
    let inside : i < length bytes = omega arith in
    let is : get_or (and_bytes old bytes) i 0 ≡ bit_and (get_or image (at + i) 0) (get_or bytes i 0) =
    get_or-each_byte bit_and old bytes i 0 (omega arith) inside ∙ ap (λ (x : ℕ). bit_and x (get_or bytes i 0)) (get_or-bytes_at image at (length bytes) i 0 inside) in
    rw (is, bit_at_and) (omega (arith, z)))

-- and so does one that is torn
pub OnlyClears-torn : (image : List ℕ) (at : ℕ) (bytes : List ℕ) (done : Operation) → IsTorn image (Program at bytes) done → OnlyClears image (applied image done)
OnlyClears-torn image at bytes done h =
    let torn : OnlyClears image (written image at h.after) = OnlyClears-written image at h.after (λ i below bit z.
    let inside : i < length bytes = omega (arith, h.same_range) in
    (h.torn i inside).zeros bit z) in
    rw h.is torn

-- ---- a call that is to do an operation
pub AllWithin-append : (from len : ℕ) (ops more : List Operation) → AllWithin from len ops → AllWithin from len more → AllWithin from len (ops ++ more)
AllWithin-append from len [] more h k = k
AllWithin-append from len (op ∷ ops) more h k = (h.0, AllWithin-append from len ops more h.1 k)
