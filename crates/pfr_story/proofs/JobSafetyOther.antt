-- What work on a bank's jobs does leaves the other bank one that can be recovered.
use Rattle.std.proofs.Common.{◌≡◌, refl, sym, subst, arith, ℕ, ◌+◌, ◌-◌, ◌/◌, ◌≤◌, ◌<◌, ◌≢◌, nat_le, Bool, true, false, if◌then◌else◌, List, [], ◌∷◌, length, ◌⊎◌, inl, inr}
use Rattle.std.proofs.lemmas.Bool.Decides.{nat_tests}
use Rattle.pfr_flash.specs.FuseRow.{clearing, fuse_byte}
use Rattle.pfr_flash.specs.Operation.{Operation, Program, applied}
use Rattle.pfr_flash.specs.Plan.{IsPart}
use Rattle.pfr_flash.specs.Range.{place_of, len_of, IsWithin, AllWithin}
use Rattle.pfr_flash.specs.declared.names.Bank.{Bank}
use Rattle.pfr_flash.specs.declared.names.Bank.TheVariants as bank
use Rattle.pfr_flash.specs.declared.names.Device.TheVariants as device
use Rattle.pfr_flash.proofs.PlayLemmas.{length-applied}
use Rattle.pfr_flash.proofs.RangeLemmas.{IsTorn-within}
use Rattle.pfr_engine.specs.Acceptance.{Acceptance}
use Rattle.pfr_fuses.specs.Changes.{raise_plan}
use Rattle.pfr_fuses.specs.FuseMap.{floor_at, profile_of}
use Rattle.pfr_fuses.specs.declared.profile.Profile.TheVariants as profile
use Rattle.pfr_jobs.specs.Log.{log_at, current_at}
use Rattle.pfr_jobs.proofs.CutLaws.{outside_keeps}
use Rattle.pfr_strokes.specs.Deeds.{Deed, Asks, Does}
use Rattle.pfr_strokes.specs.declared.side.Side.TheVariants as side
use Rattle.pfr_recoverable.specs.Recoverable.{IsRecoverable}
use Rattle.pfr_recoverable.proofs.CutLaw.{recovery_logged, job_logged}
use Rattle.pfr_recoverable.proofs.OtherLaw.{raise_other}
use Rattle.pfr_story.specs.Story.{Story, Move, Says as SaysMove, Does as DoesMove, Asks as AsksMove, moved_by, operated, device_of, other_bank, called}
use Rattle.pfr_story.specs.Deeds.{deed_move, deed_moves}
use Rattle.pfr_story.specs.Safety.{Rule, Both, IsSafe, AllSafe}
use Rattle.pfr_story.specs.Plans.{mine, store}
use Rattle.pfr_story.specs.Recovery.{HoldsIn, KeepsRecoverable}
use Rattle.pfr_story.proofs.SafetyLaws.{image_operated}
use Rattle.pfr_story.proofs.JobSafety.{nv_there, own_logs}
use Rattle.pfr_story.proofs.JobSafetyPasses.{IsWork, AllWork, IsPassed, one_passed, mark_own}

-- ---- two rules at once
module _ (G H : Rule) where
  move_both : (move : Move) (story : Story) → IsSafe G move story → IsSafe H move story → IsSafe (Both G H) move story
  move_both (SaysMove what) story p q = (p, q)
  move_both (DoesMove which op) story p q = ((p.0, q.0), λ done t. (p.1 done t, q.1 done t))
  move_both (AsksMove which) story p q = (p, q)

  pub safe_both : (moves : List Move) (story : Story) → AllSafe G moves story → AllSafe H moves story → AllSafe (Both G H) moves story
  safe_both [] story p q = tt
  safe_both (move ∷ moves) story p q = (move_both move story p.0 q.0, safe_both moves (moved_by move story) p.1 q.1)

  move_of : (move : Move) (story : Story) → IsSafe (Both G H) move story → IsSafe G move story × IsSafe H move story
  move_of (SaysMove what) story p = p
  move_of (DoesMove which op) story p = ((p.0.0, λ done t. (p.1 done t).0), (p.0.1, λ done t. (p.1 done t).1))
  move_of (AsksMove which) story p = p

  pub safe_of : (moves : List Move) (story : Story) → AllSafe (Both G H) moves story → AllSafe G moves story × AllSafe H moves story
  safe_of [] story p = (tt, tt)
  safe_of (move ∷ moves) story p =
      let one = move_of move story p.0 in
      let rest = safe_of moves (moved_by move story) p.1 in
      ((one.0, rest.0), (one.1, rest.1))

-- ---- the two banks
-- a move leaves both of them ones that can be recovered
abbrev pub KeepsBoth : Acceptance → Bank → Rule
KeepsBoth accepts b = Both (KeepsRecoverable accepts b) (KeepsRecoverable accepts (other_bank b))

pub other_apart : (b : Bank) → other_bank b ≢ b
other_apart bank.Bmc e = absurd cc
other_apart bank.Pch e = absurd cc

-- one bank's log lies outside of the other's
pub logs_apart : (b : Bank) (op : Operation) → IsWithin (log_at b) 0x3000 op → (place_of op + len_of op ≤ log_at (other_bank b)) ⊎ (log_at (other_bank b) + 0x3000 ≤ place_of op)
logs_apart bank.Bmc op w = inl (omega (arith, w.high))
logs_apart bank.Pch op w = inr (omega (arith, w.low))

-- a call of one bank leaves the other
left_other : (R : List ℕ → List ℕ → Type 0) (b : Bank) (op : Operation) (story : Story) → HoldsIn R (other_bank b) story → HoldsIn R (other_bank b) (operated (device_of b) op story)
left_other R bank.Bmc op story h = h
left_other R bank.Pch op story h = h

own_torn : (b : Bank) (op done : Operation) → (place_of done ≡ place_of op) × (len_of done ≡ len_of op) → IsWithin (log_at b) 0x3000 op → IsWithin (log_at b) 0x3000 done
own_torn b op done same w = record { low = omega (arith, w.low, same.0); high = omega (arith, w.high, same.0, same.1) }

-- a raise, as it is or none
pub raise_plan_cases : (P : List Operation → Type 0) (floor : ℕ) (b : Bank) (to : ℕ) → (to ≤ floor → P []) → (floor < to → P (clearing (floor_at profile.Two b) (to - 1))) → P (raise_plan floor b to)
raise_plan_cases P floor b to low high = by_test (nat_le to floor) refl
  where
    by_test : (t : Bool) → nat_le to floor ≡ t → P (if t then [] else clearing (floor_at profile.Two b) (to - 1))
    by_test true e = low (grind (arith, nat_tests))
    by_test false e = high (grind (arith, nat_tests))

module _ (accepts : Acceptance) (b : Bank) where
  abbrev R : List ℕ → List ℕ → Type 0
  R image nv = IsRecoverable (other_bank b) image nv accepts

  -- an operation in the bank's log
  own_bytes : (op : Operation) (image nv : List ℕ) → length nv ≡ 32768 → IsWithin (log_at b) 0x3000 op → IsRecoverable (other_bank b) image nv accepts → IsRecoverable (other_bank b) image (applied nv op) accepts
  own_bytes op image nv size w (inl good) = inl (recovery_logged (other_bank b) image nv accepts good op size (own_logs b op w))
  own_bytes op image nv size w (inr replacing) =
      inr (job_logged (other_bank b) image nv accepts replacing op size (own_logs b op w) (outside_keeps nv (other_bank b) size op (logs_apart b op w)))

  own_safe : (op : Operation) (story : Story) → length (store story) ≡ 32768 → IsWithin (log_at b) 0x3000 op → IsSafe (KeepsRecoverable accepts (other_bank b)) (DoesMove device.Nv op) story
  own_safe op story size w = (
    λ can. nv_there R (other_bank b) op story (own_bytes op (mine (other_bank b) story) (store story) size w can),
    λ done t can.
        nv_there R (other_bank b) done story
        (own_bytes done (mine (other_bank b) story) (store story) size (own_torn b op done (IsTorn-within (store story) op done t) w) can),
  )

  -- A call of the store in the bank's log.
  pub other_logged : (ops : List Operation) (story : Story) → length (store story) ≡ 32768 → AllWithin (log_at b) 0x3000 ops → AllSafe (KeepsRecoverable accepts (other_bank b)) (called device.Nv ops) story
  other_logged [] story size all = (tt, tt)
  other_logged (op ∷ ops) story size all =
      let next : length (store (operated device.Nv op story)) ≡ 32768 = refl_size op story size in
      (own_safe op story size all.0, other_logged ops (operated device.Nv op story) next all.1)
    where
      refl_size : (op : Operation) (story : Story) → length (store story) ≡ 32768 → length (store (operated device.Nv op story)) ≡ 32768
      refl_size op story size = subst (λ (nv : List ℕ). length nv ≡ 32768) (sym (image_operated device.Nv op story)) (subst (λ (n : ℕ). n ≡ 32768) (sym (length-applied (store story) op)) size)

  one_other : (from len : ℕ) (deed : Deed) (story : Story) → length (store story) ≡ 32768 → IsWork from len (current_at (store story) b) deed → IsSafe (KeepsRecoverable accepts (other_bank b)) (deed_move b deed) story
  one_other from len (Asks which) story size work = tt
  one_other from len (Does side.Bank op) story size work = (λ can. left_other R b op story can, λ done t can. left_other R b done story can)
  one_other from len (Does side.Store op) story size m = own_safe op story size (mark_own (store story) b op m)

  -- A job's pass.
  pub other_deeds : (from len : ℕ) (deeds : List Deed) (story : Story) → length (store story) ≡ 32768 → AllWork from len (current_at (store story) b) deeds → AllSafe (KeepsRecoverable accepts (other_bank b)) (deed_moves b deeds) story
  other_deeds from len [] story size all = tt
  other_deeds from len (deed ∷ deeds) story size all =
      let next : Story = moved_by (deed_move b deed) story in
      let one : IsPassed b from len story next = one_passed b from len deed story size all.0 in
      let later : length (store next) ≡ 32768 = subst (λ (n : ℕ). n ≡ 32768) (sym one.kept.store_size) size in
      (one_other from len deed story size all.0, other_deeds from len deeds next later (subst (λ (at : ℕ). AllWork from len at deeds) (sym one.current) all.1))

  -- A raise of the bank's floor.
  pub other_raised : (floor svn : ℕ) (story : Story) → length (store story) ≡ 32768 → profile_of (store story) ≡ profile.Two → svn ≤ 127 → AllSafe (KeepsRecoverable accepts (other_bank b)) (called device.Nv (raise_plan floor b svn)) story
  other_raised floor svn story size two few =
      raise_plan_cases (λ ops. AllSafe (KeepsRecoverable accepts (other_bank b)) (called device.Nv ops) story) floor b svn
      (λ low. (tt, tt))
      (λ high. (
        (
          λ can. nv_there R (other_bank b) (Program (floor_at profile.Two b + (svn - 1) / 8) (fuse_byte (svn - 1) ∷ [])) story (part (Program (floor_at profile.Two b + (svn - 1) / 8) (fuse_byte (svn - 1) ∷ [])) (inl (refl, tt)) can),
          λ done t can. nv_there R (other_bank b) done story (part done (inr (t, refl)) can),
        ),
        (tt, tt),
      ))
    where
      part : (done : Operation) → IsPart (store story) (clearing (floor_at profile.Two b) (svn - 1)) (done ∷ []) → IsRecoverable (other_bank b) (mine (other_bank b) story) (store story) accepts
          → IsRecoverable (other_bank b) (mine (other_bank b) story) (applied (store story) done) accepts
      part done p can = raise_other (mine (other_bank b) story) (store story) b (other_bank b) accepts (other_apart b) (svn - 1) (done ∷ []) size two (omega (arith, few)) p can
