-- How pages are looked up in a table of stretches, one after the other.
use Rattle.std.specs.Prelude.{ℕ, ◌*◌, ◌<◌, ◌≤◌, List, length, slice_index_or}
use Rattle.pfr_manifest.specs.declared.stretch.Stretch.{Stretch}

-- the stretch of this number is the first that ends behind the begin of a page: the number is their count, where none does
pub record IsFirstBehind (stretches : List Stretch) (page number : ℕ) : Type 0 where
  pub within : number ≤ length stretches
  pub below : (k : ℕ) (d : Stretch) → k < number → (slice_index_or stretches k d).end ≤ 4096 * page
  pub behind : (k : ℕ) (d : Stretch) → number ≤ k → k < length stretches → 4096 * page < (slice_index_or stretches k d).end
