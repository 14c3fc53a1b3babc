-- Digests and numbers are made of bytes.
use Rattle.std.proofs.Common.{ℕ, zero, suc, ◌<◌, List, arith}
use Rattle.std.specs.Int.{byte_at, bytes_high_first, bytes_low_first, to_be_bytes, w32, w64}
use Rattle.std.specs.Prelude.{slice_index}
use Rattle.byteorder.specs.Endian.{little_bytes}
use Rattle.sha2.specs.Sha256 as short
use Rattle.sha2.specs.Sha256.{sha256}
use Rattle.sha2.specs.Sha512 as long
use Rattle.sha2.specs.Sha512.{sha384}
use Rattle.pfr_flash.specs.Bytes.{AreBytes}
use Rattle.pfr_flash.proofs.AreBytesLemmas.{AreBytes-nil, AreBytes-cons, AreBytes-append, AreBytes-take}

byte_at-lt : (k x : ℕ) → byte_at k x < 256
byte_at-lt zero x = omega arith
byte_at-lt (suc k) x = omega arith

pub number_are_bytes : (n x : ℕ) → AreBytes (bytes_high_first n x)
number_are_bytes zero x = AreBytes-nil
number_are_bytes (suc n) x = AreBytes-cons (byte_at n x) (bytes_high_first n x) (byte_at-lt n x) (number_are_bytes n x)

low_first : (i n x : ℕ) → AreBytes (bytes_low_first i n x)
low_first i zero x = AreBytes-nil
low_first i (suc n) x = AreBytes-cons (byte_at i x) (bytes_low_first (suc i) n x) (byte_at-lt i x) (low_first (suc i) n x)

pub little_bytes-are : (n x : ℕ) → AreBytes (little_bytes n x)
little_bytes-are n x = low_first 0 n x

-- ---- digests
words_256 : (h : List ℕ) (n : ℕ) → AreBytes (short.digest_bytes h n)
unfolding short.digest_bytes
words_256 h zero = AreBytes-nil
words_256 h (suc n) = AreBytes-append (short.digest_bytes h n) (to_be_bytes w32 (slice_index h n)) (words_256 h n) (number_are_bytes 4 (slice_index h n))

pub sha256-bytes : (message : List ℕ) → AreBytes (sha256 message)
unfolding sha256
sha256-bytes message = words_256 _ 8

words_512 : (h : List ℕ) (n : ℕ) → AreBytes (long.digest_bytes h n)
unfolding long.digest_bytes
words_512 h zero = AreBytes-nil
words_512 h (suc n) = AreBytes-append (long.digest_bytes h n) (to_be_bytes w64 (slice_index h n)) (words_512 h n) (number_are_bytes 8 (slice_index h n))

pub sha384-bytes : (message : List ℕ) → AreBytes (sha384 message)
unfolding sha384
sha384-bytes message = AreBytes-take 48 _ (words_512 _ 8)
