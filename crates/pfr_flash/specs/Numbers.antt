-- Numbers in a list of bytes, by their places.
use Rattle.std.specs.Prelude.{ℕ, List}
use Rattle.byteorder.specs.Endian.{little_number, big_number}
use Rattle.pfr_flash.specs.Bytes.{bytes_at}

-- the number in so many bytes from a place on, the lowest byte first
unfoldable pub little_at : List ℕ → ℕ → ℕ → ℕ
little_at bytes at count = little_number count (bytes_at bytes at count)

-- the same, the highest byte first
unfoldable pub big_at : List ℕ → ℕ → ℕ → ℕ
big_at bytes at count = big_number count (bytes_at bytes at count)

-- the number in four bytes, as nearly all are: the lowest byte first
abbrev pub number_at : List ℕ → ℕ → ℕ
number_at bytes at = little_at bytes at 4
