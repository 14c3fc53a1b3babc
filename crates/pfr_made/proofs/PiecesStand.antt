-- Pieces of bytes that are put together, by the place where each stands.
use Rattle.std.proofs.Common.{◌≡◌, ℕ, ◌+◌, ◌-◌, ◌<◌, ◌^◌, List, [], ◌∷◌, ◌++◌, length, refl, ◌∙◌, ap, subst, arith, length-append}
use Rattle.std.proofs.lemmas.List.{take_all}
use Rattle.byteorder.specs.Endian.{little_bytes, little_number}
use Rattle.pfr_flash.specs.Bytes.{bytes_at}
use Rattle.pfr_flash.specs.Numbers.{little_at, number_at}
use Rattle.pfr_manifest.proofs.Numbers.{number_read}
use Rattle.pfr_made.specs.Fields.{number_bytes, zeros, padded}
use Rattle.pfr_made.proofs.BlockPartsMade.{length-number, first_part, front_stands, rest_stands}

-- the bytes from a place on are those of a piece
pub record Stands (bytes : List ℕ) (at : ℕ) (piece : List ℕ) : Type 0 where
  pub is : bytes_at bytes at (length piece) ≡ piece

-- ---- pieces of a piece
pub stands : (bytes : List ℕ) (at n : ℕ) (piece : List ℕ) → length piece ≡ n → bytes_at bytes at n ≡ piece → Stands bytes at piece
stands bytes at n piece long is = record { is = ap (bytes_at bytes at) long ∙ is }

pub stands_front : (bytes : List ℕ) (at : ℕ) (a b : List ℕ) → Stands bytes at (a ++ b) → Stands bytes at a
stands_front bytes at a b h =
    record { is = front_stands bytes at a b h.is }

pub stands_behind : (bytes : List ℕ) (at to : ℕ) (a b : List ℕ) → at + length a ≡ to → Stands bytes at (a ++ b) → Stands bytes to b
stands_behind bytes at to a b there h =
    record { is = subst (λ (p : ℕ). bytes_at bytes p (length b) ≡ b) there (rest_stands bytes at a b h.is) }

-- ---- pieces one behind the other
abbrev pub joined : List ℕ → List (List ℕ) → List ℕ
joined front [] = front
joined front (piece ∷ pieces) = joined (front ++ piece) pieces

-- from a place on each stands behind the one before it
abbrev pub AllStand : List ℕ → ℕ → List (List ℕ) → Type 0
AllStand bytes at [] = Unit {0}
AllStand bytes at (piece ∷ pieces) = Stands bytes at piece × AllStand bytes (at + length piece) pieces

pub pieces_stand : (bytes front : List ℕ) (pieces : List (List ℕ)) → Stands bytes 0 (joined front pieces) → Stands bytes 0 front × AllStand bytes (length front) pieces
pieces_stand bytes front [] h = (h, tt)
pieces_stand bytes front (piece ∷ pieces) h =
    let rest = pieces_stand bytes (front ++ piece) pieces h in
    (stands_front bytes 0 front piece rest.0, (stands_behind bytes 0 (length front) front piece (omega arith) rest.0, subst (λ (n : ℕ). AllStand bytes n pieces) (length-append front piece) rest.1))

pub whole_stands : (bytes : List ℕ) → Stands bytes 0 bytes
whole_stands bytes = record { is = take_all (length bytes) bytes (omega arith) }

pub padded_stands : (count : ℕ) (bytes : List ℕ) → Stands (padded count bytes) 0 bytes
unfolding padded
padded_stands count bytes = record { is = first_part bytes (zeros (count - length bytes)) (length bytes) refl }

-- ---- what is read of a piece
pub read_bytes : (bytes : List ℕ) (at n : ℕ) (piece : List ℕ) → length piece ≡ n → Stands bytes at piece → bytes_at bytes at n ≡ piece
read_bytes bytes at n piece long h = subst (λ (k : ℕ). bytes_at bytes at k ≡ piece) long h.is

-- the same of a piece whose place is found by the lengths before it
pub read_at : (bytes : List ℕ) (from at n : ℕ) (piece : List ℕ) → Stands bytes from piece → from ≡ at → length piece ≡ n → bytes_at bytes at n ≡ piece
read_at bytes from at n piece h there long = subst (λ (p : ℕ). bytes_at bytes p n ≡ piece) there (read_bytes bytes from n piece long h)

pub read_number : (bytes : List ℕ) (at n : ℕ) → n < 2 ^ 32 → Stands bytes at (number_bytes n) → number_at bytes at ≡ n
unfolding little_at number_bytes
read_number bytes at n fits h = ap (little_number 4) (read_bytes bytes at 4 (little_bytes 4 n) (length-number n) h) ∙ number_read n fits

pub read_number_at : (bytes : List ℕ) (from at n : ℕ) → Stands bytes from (number_bytes n) → from ≡ at → n < 2 ^ 32 → number_at bytes at ≡ n
read_number_at bytes from at n h there fits = subst (λ (p : ℕ). number_at bytes p ≡ n) there (read_number bytes from n fits h)
