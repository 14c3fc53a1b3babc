-- What stays a list of bytes.
use Rattle.std.proofs.Common.{ℕ, zero, suc, ◌*◌, ◌<◌, All, List, [], ◌∷◌, ◌++◌, length, take, drop, replicate, arith, bit_and}
use Rattle.std.proofs.lemmas.List.Elements.{All-head, All-tail}
use Rattle.std.proofs.lemmas.Nat.{and_le_l}
use Rattle.pfr_flash.specs.Bytes.{AreBytes, blank, bytes_at, written, and_bytes, continued}
use Rattle.pfr_flash.specs.Operation.{Operation, Erase, Program, Torn, applied, play, torn_by}
use Rattle.pfr_flash.specs.Holding.{WritesBytes}

pub AreBytes-nil : AreBytes []
AreBytes-nil zero = omega arith
AreBytes-nil (suc i) = omega arith

pub AreBytes-cons : (x : ℕ) (xs : List ℕ) → x < 256 → AreBytes xs → AreBytes (x ∷ xs)
AreBytes-cons x xs h k zero = h
AreBytes-cons x xs h k (suc i) = k i

pub AreBytes-append : (xs ys : List ℕ) → AreBytes xs → AreBytes ys → AreBytes (xs ++ ys)
AreBytes-append [] ys h k = k
AreBytes-append (x ∷ xs) ys h k = AreBytes-cons x (xs ++ ys) (h zero) (AreBytes-append xs ys (λ i. h (suc i)) k)

pub AreBytes-take : (n : ℕ) (xs : List ℕ) → AreBytes xs → AreBytes (take n xs)
AreBytes-take zero xs h = AreBytes-nil
AreBytes-take (suc n) [] h = AreBytes-nil
AreBytes-take (suc n) (x ∷ xs) h = AreBytes-cons x (take n xs) (h zero) (AreBytes-take n xs (λ i. h (suc i)))

pub AreBytes-drop : (n : ℕ) (xs : List ℕ) → AreBytes xs → AreBytes (drop n xs)
AreBytes-drop zero xs h = h
AreBytes-drop (suc n) [] h = AreBytes-nil
AreBytes-drop (suc n) (x ∷ xs) h = AreBytes-drop n xs (λ i. h (suc i))

pub AreBytes-bytes_at : (image : List ℕ) (at count : ℕ) → AreBytes image → AreBytes (bytes_at image at count)
AreBytes-bytes_at image at count h = AreBytes-take count (drop at image) (AreBytes-drop at image h)

AreBytes-ones : (n : ℕ) → AreBytes (replicate n 255)
AreBytes-ones zero = AreBytes-nil
AreBytes-ones (suc n) = AreBytes-cons 255 (replicate n 255) (omega arith) (AreBytes-ones n)

AreBytes-blank : AreBytes blank
unfolding blank
AreBytes-blank = AreBytes-ones 4096

pub AreBytes-continued : (tear : List ℕ) (n : ℕ) → AreBytes tear → AreBytes (continued tear n)
unfolding continued
AreBytes-continued tear n h = AreBytes-take n (tear ++ replicate n 255) (AreBytes-append tear (replicate n 255) h (AreBytes-ones n))

-- an AND of bytes and of any numbers
pub AreBytes-and : (xs ys : List ℕ) → AreBytes xs → AreBytes (and_bytes xs ys)
AreBytes-and [] ys h = AreBytes-nil
AreBytes-and (x ∷ xs) [] h = AreBytes-nil
AreBytes-and (x ∷ xs) (y ∷ ys) h = AreBytes-cons (bit_and x y) (and_bytes xs ys) (omega (arith, and_le_l x y, h zero)) (AreBytes-and xs ys (λ i. h (suc i)))

pub AreBytes-written : (image : List ℕ) (at : ℕ) (bytes : List ℕ) → AreBytes image → AreBytes bytes → AreBytes (written image at bytes)
unfolding written
AreBytes-written [] at bytes h k = AreBytes-nil
AreBytes-written (x ∷ xs) (suc at) bytes h k = AreBytes-cons x (written xs at bytes) (h zero) (AreBytes-written xs at bytes (λ i. h (suc i)) k)
AreBytes-written (x ∷ xs) zero [] h k = h
AreBytes-written (x ∷ xs) zero (y ∷ ys) h k = AreBytes-cons y (written xs zero ys) (k zero) (AreBytes-written xs zero ys (λ i. h (suc i)) (λ i. k (suc i)))

-- ---- operations
pub AreBytes-applied : (image : List ℕ) (op : Operation) → AreBytes image → WritesBytes op → AreBytes (applied image op)
AreBytes-applied image (Erase sector) h k = AreBytes-written image (4096 * sector) blank h AreBytes-blank
AreBytes-applied image (Program at bytes) h k =
    AreBytes-written image at (and_bytes (bytes_at image at (length bytes)) bytes) h
    (AreBytes-and (bytes_at image at (length bytes)) bytes (AreBytes-bytes_at image at (length bytes) h))
AreBytes-applied image (Torn at after) h k = AreBytes-written image at after h k

pub AreBytes-play : (image : List ℕ) (ops : List Operation) → AreBytes image → All WritesBytes ops → AreBytes (play image ops)
AreBytes-play image [] h k = h
AreBytes-play image (op ∷ ops) h k =
    AreBytes-play (applied image op) ops (AreBytes-applied image op h (All-head WritesBytes op ops k)) (All-tail WritesBytes op ops k)

-- an operation torn by bytes leaves bytes
pub WritesBytes-torn_by : (tear image : List ℕ) (op : Operation) → AreBytes tear → AreBytes image → WritesBytes op → WritesBytes (torn_by tear image op)
WritesBytes-torn_by tear image (Erase sector) t h k = AreBytes-continued tear 4096 t
WritesBytes-torn_by tear image (Program at bytes) t h k = AreBytes-and (bytes_at image at (length bytes)) _ (AreBytes-bytes_at image at (length bytes) h)
WritesBytes-torn_by tear image (Torn at after) t h k = k
