-- Fields of images.
use Rattle.std.specs.Prelude.{ℕ, ◌-◌, List, ◌++◌, length, replicate}
use Rattle.byteorder.specs.Endian.{little_bytes}

-- a number in four bytes, the lowest first
unfoldable pub number_bytes : ℕ → List ℕ
number_bytes number = little_bytes 4 number

-- so many bytes of 0xFF
unfoldable pub blanks : ℕ → List ℕ
blanks count = replicate count 255

-- so many zeros
unfoldable pub zeros : ℕ → List ℕ
zeros count = replicate count 0

-- these bytes, and zeros behind them up to so many
unfoldable pub padded : ℕ → List ℕ → List ℕ
padded count bytes = bytes ++ zeros (count - length bytes)

-- these bytes, and 0xFF behind them up to so many
unfoldable pub filled : ℕ → List ℕ → List ℕ
filled count bytes = bytes ++ blanks (count - length bytes)
