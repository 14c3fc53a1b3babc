-- The digest of a good capsule is 32 bytes.
use Rattle.std.proofs.Common.{◌≡◌, ◌∙◌, ap, sym, subst, ℕ, zero, suc, ◌-◌, ◌<◌, List, length, arith}
use Rattle.std.specs.Int.{byte_at, bytes_high_first, to_be_bytes, w32}
use Rattle.std.specs.Prelude.{slice_index}
use Rattle.sha2.specs.Sha256 as short
use Rattle.sha2.specs.Sha256.{sha256}
use Rattle.sha2.proofs.Facts256.{length-sha256}
use Rattle.pfr_flash.specs.Bytes.{AreBytes, bytes_at}
use Rattle.pfr_flash.specs.declared.names.Bank.{Bank}
use Rattle.pfr_flash.proofs.AreBytesLemmas.{AreBytes-nil, AreBytes-cons, AreBytes-append}
use Rattle.pfr_engine.specs.Acceptance.{Acceptance}
use Rattle.pfr_capsule.specs.CapsuleState.{CapsuleState}
use Rattle.pfr_capsule.specs.Good.{IsGood}
use Rattle.pfr_capsule.specs.Signed.{end_of}

byte_small : (k x : ℕ) → byte_at k x < 256
byte_small zero x = omega arith
byte_small (suc k) x = omega arith

number_small : (n x : ℕ) → AreBytes (bytes_high_first n x)
number_small zero x = AreBytes-nil
number_small (suc n) x = AreBytes-cons (byte_at n x) (bytes_high_first n x) (byte_small n x) (number_small n x)

words_small : (words : List ℕ) (n : ℕ) → AreBytes (short.digest_bytes words n)
unfolding short.digest_bytes
words_small words zero = AreBytes-nil
words_small words (suc n) = AreBytes-append (short.digest_bytes words n) (to_be_bytes w32 (slice_index words n)) (words_small words n) (number_small 4 (slice_index words n))

sha256_small : (message : List ℕ) → AreBytes (sha256 message)
unfolding sha256
sha256_small message = words_small _ 8

pub good_digest : (image nv : List ℕ) (place len : ℕ) (bank : Bank) (accepts : Acceptance) (g : IsGood image place len nv bank accepts) → (length g.capsule.digest ≡ 32) × AreBytes g.capsule.digest
good_digest image nv place len bank accepts g =
    let text : List ℕ = bytes_at image place (end_of g.parts.capsule - place) in
    let is : g.capsule.digest ≡ sha256 text = ap (λ (c : CapsuleState). c.digest) g.found in
    (ap (λ (digest : List ℕ). length digest) is ∙ length-sha256 text, subst AreBytes (sym is) (sha256_small text))
