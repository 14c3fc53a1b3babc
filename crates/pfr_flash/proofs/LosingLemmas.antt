-- Bits of a device that are only lost.
use Rattle.std.proofs.Common.{◌≡◌, ℕ, ◌+◌, ◌-◌, ◌≤◌, ◌<◌, List, [], ◌∷◌, length, get_or, sym, ap, ◌∙◌, subst, arith, ◌⊎◌, inl, inr}
use Rattle.std.specs.Int.{bit_at}
use Rattle.std.proofs.lemmas.Bool.{cases_lt}
use Rattle.std.proofs.lemmas.List.{get_or_past, length-take}
use Rattle.std.specs.List.{AllByRecursion}
use Rattle.std.proofs.lemmas.Nat.Bits.{bit_at-zero}
use Rattle.pfr_flash.specs.Bytes.{bytes_at}
use Rattle.pfr_flash.specs.FlashState.{FlashState, now, size_of, op_count_of}
use Rattle.pfr_flash.specs.Operation.{Operation, applied, IsTorn}
use Rattle.pfr_flash.specs.Plan.{DoesPart}
use Rattle.pfr_flash.specs.Range.{OnlyClears, place_of, len_of}
use Rattle.pfr_flash.proofs.BytesLemmas.{get_or-bytes_at}
use Rattle.pfr_flash.proofs.PlayLemmas.{length-applied}
use Rattle.pfr_flash.proofs.RangeLemmas.{SameOutside-applied, SameOutside-torn, bytes_at-outside, length-now, OnlyClears-refl, then_clears}
use Rattle.pfr_flash.proofs.StateLemmas.{upto_from}
use Rattle.pfr_flash.specs.Losing.{OnlyLoses}
use Rattle.pfr_flash.proofs.CutLemmas.{IsProgram, AllPrograms, program_clears, torn_clears, between}

-- what is only cleared is so in each part
clears_part : (from len : ℕ) (old new : List ℕ) → OnlyClears old new → OnlyClears (bytes_at old from len) (bytes_at new from len)
clears_part from len old new h = record { clears = λ k bit z. by_place k bit z (cases_lt k len) }
  where
    by_place : (k bit : ℕ) → bit_at (get_or (bytes_at old from len) k 0) bit ≡ 0 → ((k < len) ⊎ (len ≤ k)) → bit_at (get_or (bytes_at new from len) k 0) bit ≡ 0
    by_place k bit z (inl inside) =
        ap (λ (x : ℕ). bit_at x bit) (get_or-bytes_at new from len k 0 inside) ∙ h.clears (from + k) bit (sym (ap (λ (x : ℕ). bit_at x bit) (get_or-bytes_at old from len k 0 inside)) ∙ z)
    by_place k bit z (inr past) =
        let short : length (bytes_at new from len) ≤ k = simp length-take (omega arith) in
        ap (λ (x : ℕ). bit_at x bit) (get_or_past (bytes_at new from len) k 0 short) ∙ bit_at-zero bit

-- an operation that programs, or that touches other bytes
abbrev pub LosesIn : ℕ → ℕ → ℕ → Operation → Type 0
LosesIn size from len op = IsProgram size op ⊎ ((from + len ≤ place_of op) ⊎ (place_of op + len_of op ≤ from))

abbrev pub AllLose : ℕ → ℕ → ℕ → List Operation → Type 0
AllLose size from len plan = AllByRecursion (LosesIn size from len) plan

pub AllLose-programs : (size from len : ℕ) (plan : List Operation) → AllPrograms size plan → AllLose size from len plan
AllLose-programs size from len [] h = tt
AllLose-programs size from len (op ∷ plan) h = (inl h.0, AllLose-programs size from len plan h.1)

module _ (total from len : ℕ) (fits : from + len ≤ total) where
  loses_same : (old new : List ℕ) → bytes_at new from len ≡ bytes_at old from len → OnlyClears (bytes_at old from len) (bytes_at new from len)
  loses_same old new e = subst (λ (row : List ℕ). OnlyClears (bytes_at old from len) row) (sym e) (OnlyClears-refl (bytes_at old from len))

  loses_op : (image : List ℕ) (op : Operation) → length image ≡ total → LosesIn total from len op → OnlyClears (bytes_at image from len) (bytes_at (applied image op) from len)
  loses_op image op size (inl program) =
      clears_part from len image (applied image op) (program_clears total image op size program)
  loses_op image op size (inr apart) =
      loses_same image (applied image op) (bytes_at-outside (place_of op) (len_of op) image (applied image op) from len (SameOutside-applied image op) (length-applied image op) apart (omega (arith, size)))

  loses_torn : (image : List ℕ) (op done : Operation) → length image ≡ total → LosesIn total from len op → IsTorn image op done → OnlyClears (bytes_at image from len) (bytes_at (applied image done) from len)
  loses_torn image op done size (inl program) t =
      clears_part from len image (applied image done) (torn_clears total image op done program t)
  loses_torn image op done size (inr apart) t =
      loses_same image (applied image done) (bytes_at-outside (place_of op) (len_of op) image (applied image done) from len (SameOutside-torn image op done t) (length-applied image done) apart (omega (arith, size)))

  pub OnlyLoses-plan : (plan : List Operation) (old new : FlashState) → size_of old ≡ total → new.start ≡ old.start → DoesPart plan old new → AllLose total from len plan → OnlyLoses from len old new
  OnlyLoses-plan plan old new size start h all = record {
    clears = λ m n low order high.
        rw (upto_from old new h.added m start h.is low, upto_from old new h.added n start h.is (omega arith))
        (between (λ (a b : List ℕ). OnlyClears (bytes_at a from len) (bytes_at b from len)) total (LosesIn total from len)
        (λ image. OnlyClears-refl (bytes_at image from len)) (λ x y z p q. then_clears p q) loses_op loses_torn
        (now old) plan h.added (m - op_count_of old) (n - op_count_of old) (length-now old ∙ size) all h.part (omega arith));
  }
