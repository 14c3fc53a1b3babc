-- Numbers and the bytes that spell them.
use Rattle.std.proofs.Common.{◌≡◌, ℕ, ◌+◌, ◌^◌, ◌<◌, ◌≤◌, List, [], length, arith}
use Rattle.std.proofs.lemmas.Nat.{le_bytes_4}
use Rattle.byteorder.specs.Endian.{little_bytes, little_number}
use Rattle.byteorder.specs.Numbers.{little_number-reads_back, little_from-lt}
use Rattle.pfr_flash.specs.Bytes.{AreBytes, bytes_at}
use Rattle.pfr_flash.specs.Numbers.{little_at, number_at}
use Rattle.pfr_flash.proofs.BytesLemmas.{length-bytes_at}
use Rattle.pfr_flash.proofs.AreBytesLemmas.{AreBytes-bytes_at}

-- four bytes are spelled by their number
pub number_spelled : (bytes : List ℕ) (at : ℕ) → AreBytes bytes → at + 4 ≤ length bytes → little_bytes 4 (number_at bytes at) ≡ bytes_at bytes at 4
unfolding little_at
number_spelled bytes at h within = le_bytes_4 (bytes_at bytes at 4) (little_number 4 (bytes_at bytes at 4)) (length-bytes_at bytes at 4 within) (AreBytes-bytes_at bytes at 4 h) (omega arith)

pub number_fits : (bytes : List ℕ) (at : ℕ) → AreBytes bytes → number_at bytes at < 2 ^ 32
unfolding little_at
number_fits bytes at h = little_from-lt 0 4 (bytes_at bytes at 4) (AreBytes-bytes_at bytes at 4 h)

-- a number is that of its four bytes
pub number_read : (x : ℕ) → x < 2 ^ 32 → little_number 4 (little_bytes 4 x) ≡ x
number_read x h = little_number-reads_back 4 x [] h
