-- What calls only clear, and how many operations they do.
use Rattle.std.specs.Prelude.{ℕ, ◌+◌, ◌≤◌}
use Rattle.pfr_flash.specs.Bytes.{bytes_at}
use Rattle.pfr_flash.specs.FlashState.{FlashState, upto, op_count_of}
use Rattle.pfr_flash.specs.Range.{OnlyClears}

-- Of so many bytes from a place on, bits are cleared and never set, from each count of operations to each later one.
pub record OnlyLoses (from len : ℕ) (old new : FlashState) : Type 0 where
  pub clears : (m n : ℕ) → op_count_of old ≤ m → m ≤ n → n ≤ op_count_of new
      → OnlyClears (bytes_at (upto new m) from len) (bytes_at (upto new n) from len)

-- at most so many operations were added
abbrev pub AddsAtMost : ℕ → FlashState → FlashState → Type 0
AddsAtMost count old new = op_count_of new ≤ op_count_of old + count
