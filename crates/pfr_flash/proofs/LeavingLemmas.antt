-- Operations that leave bytes alone.
use Rattle.std.proofs.Common.{◌≡◌, ℕ, ◌+◌, ◌≤◌, List, length, arith, ◌⊎◌, inl, inr}
use Rattle.pfr_flash.specs.Bytes.{bytes_at}
use Rattle.pfr_flash.specs.Operation.{Operation, applied, IsTorn}
use Rattle.pfr_flash.specs.Range.{Leaves, place_of, len_of}
use Rattle.pfr_flash.proofs.PlayLemmas.{length-applied}
use Rattle.pfr_flash.proofs.RangeLemmas.{SameOutside-applied, bytes_at-outside, IsTorn-within}

-- a torn operation leaves what the whole one would
pub leaves_torn : (image : List ℕ) (from len : ℕ) (op done : Operation) → IsTorn image op done → Leaves from len op → Leaves from len done
leaves_torn image from len op done torn leaves = by_side (IsTorn-within image op done torn) leaves
  where
    by_side : (place_of done ≡ place_of op) × (len_of done ≡ len_of op) → Leaves from len op → Leaves from len done
    by_side same (inl before) = inl (omega (arith, before, same.0, same.1))
    by_side same (inr behind) = inr (omega (arith, behind, same.0))

pub left_bytes : (image : List ℕ) (op : Operation) (from len : ℕ) → Leaves from len op → from + len ≤ length image → bytes_at (applied image op) from len ≡ bytes_at image from len
left_bytes image op from len leaves inside =
    bytes_at-outside (place_of op) (len_of op) image (applied image op) from len (SameOutside-applied image op) (length-applied image op) (swapped leaves) inside
  where
    swapped : Leaves from len op → (from + len ≤ place_of op) ⊎ (place_of op + len_of op ≤ from)
    swapped (inl before) = inr before
    swapped (inr behind) = inl behind
