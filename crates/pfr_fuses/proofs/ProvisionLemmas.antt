-- What a provision leaves, whole or cut short.
use Rattle.std.proofs.Common.{◌≡◌, ℕ, zero, suc, ◌+◌, ◌-◌, ◌*◌, ◌≤◌, ◌<◌, true, false, List, [], ◌∷◌, length, length-append, take, get_or, Option, Some, None, Result, Ok, Err, OnOk, IfErr, refl, sym, ap, ◌∙◌, subst, arith, ◌⊎◌, inl, inr}
use Rattle.std.specs.Prelude.{◌≢◌, MatchOption}
use Rattle.std.proofs.lemmas.Bool.{cases_Bool, cases_eq, cases_lt}
use Rattle.std.proofs.lemmas.Bool.Decides.{not_from_Decides}
use Rattle.std.proofs.lemmas.List.{ext_get_or, append-nil}
use Rattle.pfr_flash.specs.Bytes.{bytes_at}
use Rattle.pfr_flash.specs.FlashState.{FlashState, now, upto, size_of, op_count_of}
use Rattle.pfr_flash.specs.Answer.{Answers}
use Rattle.pfr_flash.specs.Losing.{AddsAtMost, OnlyLoses}
use Rattle.pfr_flash.specs.Moved.{Worked}
use Rattle.pfr_flash.specs.Operation.{Operation, Program, applied, play, IsTorn}
use Rattle.pfr_flash.specs.Plan.{FailsWorking, IsPart, DoesPart, Follows}
use Rattle.pfr_flash.specs.Range.{IsWithin, AllWithin, SameOutside}
use Rattle.pfr_flash.specs.Reading.{OnlyReads, EndsAt}
use Rattle.pfr_flash.specs.declared.names.Bank.{Bank}
use Rattle.pfr_flash.specs.declared.names.Bank.TheVariants.{Bmc, Pch}
use Rattle.pfr_flash.specs.declared.names.ContentType.{ContentType}
use Rattle.pfr_flash.specs.declared.names.ContentType.TheVariants.{PchManifest, PchCapsule, BmcManifest, BmcCapsule}
use Rattle.pfr_flash.specs.declared.flash.FlashFail.{FlashFail}
use Rattle.pfr_flash.proofs.BytesLemmas.{length-bytes_at, get_or-bytes_at}
use Rattle.pfr_flash.proofs.CutLemmas.{AllPrograms, part_step, part_end, part_length, AddsAtMost-plan}
use Rattle.pfr_flash.proofs.EndsLemmas.{ends_reads, ends_content}
use Rattle.pfr_flash.proofs.FollowsLemmas.{FailsWorking-reading, Follows-reads, Follows-then, Follows-first, Follows-now, DoesPart-now}
use Rattle.pfr_flash.proofs.LosingLemmas.{AllLose-programs, OnlyLoses-plan}
use Rattle.pfr_flash.proofs.PartsLemmas.{part_of}
use Rattle.pfr_flash.proofs.PlayLemmas.{length-applied}
use Rattle.pfr_flash.proofs.PlanLemmas.{DoesPart-outside}
use Rattle.pfr_flash.proofs.StateLemmas.{upto-added}
use Rattle.pfr_flash.proofs.RangeLemmas.{SameOutside-applied, SameOutside-torn, SameOutside-refl, SameOutside-wider, then_outside, bytes_at-outside, length-now}
use Rattle.pfr_fuses.specs.Answer.{fuse_failure}
use Rattle.pfr_fuses.specs.RootSlot.{IsSlot, slot_of, slot_bytes, provision_in}
use Rattle.pfr_fuses.specs.Slots.{IsSet, IsBlank, IsProvisionedBy, IsUnset, slot_at, is_blank}
use Rattle.pfr_fuses.specs.FuseMap.{IsSigning, profile_of, floor_at, row_at}
use Rattle.pfr_fuses.specs.Growth.{NeverGoesBack, KeepsProvision, Adds}
use Rattle.pfr_fuses.specs.Provisioning.{CanProvision, IsBarred, FollowsAs, IsFirstBlank, IsProvisionable, IsProvisionedWith, IsUsedUp, KeepsFuses, LeavesProvision, ProvisionFails, Provisions, judge_provision, provision_plan}
use Rattle.pfr_fuses.specs.declared.root_slot.RootSlot.{RootSlot}
use Rattle.pfr_fuses.specs.declared.fuse_fail.FuseFail.{FuseFail}
use Rattle.pfr_fuses.specs.declared.fuse_fail.FuseFail.TheVariants.{Flash}
use Rattle.pfr_fuses.specs.declared.profile.Profile.{Profile}
use Rattle.pfr_fuses.specs.declared.profile.Profile.TheVariants.{One, Two}
use Rattle.pfr_fuses.proofs.BlankLemmas.{judged-ok, judged-err, provisionable-judged, Decides-is_blank}
use Rattle.pfr_fuses.proofs.FillingLemmas.{program_ones, program_zero}
use Rattle.pfr_fuses.proofs.GrowthLemmas.{profile-outside, NeverGoesBack-programs, KeepsProvision-none, KeepsProvision-last, Adds-within}
use Rattle.pfr_fuses.proofs.RootSlotLemmas.{length-slot, slot_of-bytes}
use Rattle.pfr_fuses.proofs.StaysLemmas.{AreOutside, floor_bits-outside, row_bits-outside}

-- ---- the answer, by its parts
-- the cause of a refusal, whatever else would have been answered
abbrev refused : {A : Type 0} → FuseFail → Result A FuseFail
refused cause = Err cause

same_cause : (failed : Option FlashFail) (other cause : FuseFail) → MatchOption failed (refused {A = ℕ} other ≡ refused cause) (λ fail. Unit {0}) → MatchOption failed (refused {A = Unit {0}} other ≡ refused cause) (λ fail. Unit {0})
same_cause None other cause h = let e : other ≡ cause = cc in ap (λ (c : FuseFail). refused c) e
same_cause (Some fail) other cause h = tt

-- the store was only read, and a cause was found or a read failed
not_followed : (plan : List Operation) (old new : FlashState) (number : ℕ) (cause : FuseFail) (failed : Option FlashFail) → MatchOption failed (Ok number ≡ Err cause) (λ fail. Unit {0}) → EndsAt failed old new
    → MatchOption failed ⊥ (λ fail. Follows {A = Unit {0}} plan old new (Err fail))
not_followed plan old new number cause None h reads = cc
not_followed plan old new number cause (Some fail) h reads =
    let none : Follows {A = Unit {0}} [] old new (Err fail) = Follows-reads old new (Err fail) reads in
    Follows-first [] plan old new fail none

pub provisions-refused : (what : RootSlot) (old new : FlashState) (cause : FuseFail) (judged : Result ℕ FuseFail) → Answers fuse_failure (Err cause) judged → EndsAt (fuse_failure cause) old new → Provisions what old new (Err cause) judged
provisions-refused what old new cause (Ok number) h reads = not_followed (provision_plan number what) old new number cause (fuse_failure cause) h reads
provisions-refused what old new cause (Err other) h reads = (same_cause (fuse_failure cause) other cause h, reads)

read_first : {A : Type 0} (plan : List Operation) (old middle new : FlashState) (result : Result A FlashFail) → EndsAt None old middle → Follows plan middle new result → Follows plan old new result
read_first plan old middle new result reads h =
    let none : Follows {A = Unit {0}} [] old middle (Ok (tt {0})) = Follows-reads {A = Unit {0}} old middle (Ok (tt {0})) reads in
    Follows-then [] plan old middle new (tt {0}) result none h

-- the slot was programmed, or a program failed
pub provisions-done : (what : RootSlot) (old middle new : FlashState) (number : ℕ) (u : Unit {0}) (judged : Result ℕ FuseFail) → judged ≡ Ok number → EndsAt None old middle
    → Follows (provision_plan number what) middle new (Ok u) → Provisions what old new (Ok tt) judged
provisions-done what old middle new number u judged is reads h = rw is (read_first (provision_plan number what) old middle new (Ok u) reads h)

pub provisions-failed : (what : RootSlot) (old middle new : FlashState) (number : ℕ) (f : FlashFail) (judged : Result ℕ FuseFail) → judged ≡ Ok number → EndsAt None old middle
    → Follows {A = Unit {0}} (provision_plan number what) middle new (Err f) → Provisions what old new (Err (Flash f)) judged
provisions-failed what old middle new number f judged is reads h = rw is (read_first (provision_plan number what) old middle new (Err f) reads h)

-- ---- the slot
record Along (nv : List ℕ) (what : RootSlot) (number : ℕ) (image : List ℕ) : Type 0 where
  outside : SameOutside (256 * number) 256 nv image
  size : length image ≡ length nv
  written : (get_or image (256 * number + 255) 0 ≡ 255) ⊎ (bytes_at image (256 * number) 72 ≡ slot_bytes what)

plan-within : (what : RootSlot) (number : ℕ) → IsSlot what → AllWithin (256 * number) 256 (provision_plan number what)
plan-within what number slot = (record { low = omega arith; high = omega (arith, length-slot what slot) }, (record { low = omega arith; high = omega arith }, tt))

plan-slots : (what : RootSlot) (number : ℕ) → IsSlot what → number < 8 → AllWithin 0 2048 (provision_plan number what)
plan-slots what number slot within = (record { low = omega arith; high = omega (arith, length-slot what slot) }, (record { low = omega arith; high = omega arith }, tt))

plan-programs : (what : RootSlot) (number : ℕ) → IsSlot what → number < 8 → AllPrograms 32768 (provision_plan number what)
plan-programs what number slot within = (omega (arith, length-slot what slot), (omega arith, tt))

blank_byte : (nv : List ℕ) (number i : ℕ) → length nv ≡ 32768 → number < 8 → IsBlank (slot_at nv number) → i < 256 → get_or nv (256 * number + i) 0 ≡ 255
blank_byte nv number i size within blank below =
    let len : length (slot_at nv number) ≡ 256 = length-bytes_at nv (256 * number) 256 (omega arith) in
    sym (get_or-bytes_at nv (256 * number) 256 i 0 below) ∙ blank i 0 (omega arith)

module _ (nv : List ℕ) (what : RootSlot) (number : ℕ) (size : length nv ≡ 32768) (within : number < 8) (slot : IsSlot what) (blank : IsBlank (slot_at nv number)) where
  len : length (slot_bytes what) ≡ 72
  len = length-slot what slot

  start : Along nv what number nv
  start = record { outside = SameOutside-refl (256 * number) 256 nv; size = refl; written = inl (blank_byte nv number 255 size within blank (omega arith)) }

  -- the provision, torn
  part_written : (image : List ℕ) → length image ≡ length nv → SameOutside (256 * number) (length (slot_bytes what)) nv image → Along nv what number image
  part_written image same h = record {
    outside = SameOutside-wider (256 * number) (length (slot_bytes what)) (256 * number) 256 nv image (omega arith) (omega (arith, len)) h;
    size = same;
    written = inl (h.stays (256 * number + 255) (inr (omega (arith, len))) ∙ blank_byte nv number 255 size within blank (omega arith));
  }

  -- the provision, whole
  whole_bytes : bytes_at (applied nv (Program (256 * number) (slot_bytes what))) (256 * number) 72 ≡ slot_bytes what
  whole_bytes = program_ones nv (slot_bytes what) (256 * number) 72 len (omega arith) (λ i below. blank_byte nv number i size within blank (omega arith)) slot.bytes

  first_size : length (applied nv (Program (256 * number) (slot_bytes what))) ≡ length nv
  first_size = length-applied nv (Program (256 * number) (slot_bytes what))

  first_outside : SameOutside (256 * number) 256 nv (applied nv (Program (256 * number) (slot_bytes what)))
  first_outside = SameOutside-wider (256 * number) (length (slot_bytes what)) (256 * number) 256 nv (applied nv (Program (256 * number) (slot_bytes what))) (omega arith) (omega (arith, len))
      (SameOutside-applied nv (Program (256 * number) (slot_bytes what)))

  first_along : Along nv what number (applied nv (Program (256 * number) (slot_bytes what)))
  first_along = record { outside = first_outside; size = first_size; written = inr whole_bytes }

  -- the gate, whole or torn
  gate_along : (image : List ℕ) → length image ≡ length (applied nv (Program (256 * number) (slot_bytes what))) → SameOutside (256 * number + 255) 1 (applied nv (Program (256 * number) (slot_bytes what))) image
      → Along nv what number image
  gate_along image same h = record {
    outside = then_outside first_outside (SameOutside-wider (256 * number + 255) 1 (256 * number) 256 (applied nv (Program (256 * number) (slot_bytes what))) image (omega arith) (omega arith) h);
    size = same ∙ first_size;
    written = inr (bytes_at-outside (256 * number + 255) 1 (applied nv (Program (256 * number) (slot_bytes what))) image (256 * number) 72 h same (inl (omega arith)) (omega (arith, first_size)) ∙ whole_bytes);
  }

  provision-part : (added : List Operation) → IsPart nv (provision_plan number what) added → Along nv what number (play nv added)
  provision-part added h =
      part_step (Along nv what number) nv (Program (256 * number) (slot_bytes what)) (Program (256 * number + 255) (0 ∷ []) ∷ []) added h start
      (λ done t. part_written (applied nv done) (length-applied nv done) (SameOutside-torn nv (Program (256 * number) (slot_bytes what)) done t))
      (λ ops q. part_step (Along nv what number) (applied nv (Program (256 * number) (slot_bytes what))) (Program (256 * number + 255) (0 ∷ [])) [] ops q first_along
      (λ done t. gate_along (applied (applied nv (Program (256 * number) (slot_bytes what))) done) (length-applied (applied nv (Program (256 * number) (slot_bytes what))) done)
      (SameOutside-torn (applied nv (Program (256 * number) (slot_bytes what))) (Program (256 * number + 255) (0 ∷ [])) done t))
      (λ last r. part_end (Along nv what number) (applied (applied nv (Program (256 * number) (slot_bytes what))) (Program (256 * number + 255) (0 ∷ []))) last r
      (gate_along (applied (applied nv (Program (256 * number) (slot_bytes what))) (Program (256 * number + 255) (0 ∷ [])))
      (length-applied (applied nv (Program (256 * number) (slot_bytes what))) (Program (256 * number + 255) (0 ∷ [])))
      (SameOutside-applied (applied nv (Program (256 * number) (slot_bytes what))) (Program (256 * number + 255) (0 ∷ []))))))

  -- once all is done the gate is set
  whole_gate : get_or (play nv (provision_plan number what)) (256 * number + 255) 0 ≡ 0
  whole_gate = program_zero (applied nv (Program (256 * number) (slot_bytes what))) (256 * number + 255) (omega (arith, first_size))

  -- ---- what it means
  gate_at : (image : List ℕ) → get_or (slot_at image number) 255 0 ≡ get_or image (256 * number + 255) 0
  gate_at image = get_or-bytes_at image (256 * number) 256 255 0 (omega arith)

  other_slot : (image : List ℕ) → Along nv what number image → (k : ℕ) → k < 8 → k ≢ number → slot_at image k ≡ slot_at nv k
  other_slot image h k below other = bytes_at-outside (256 * number) 256 nv image (256 * k) 256 h.outside h.size (apart (cases_lt k number)) (omega arith)
    where
      apart : ((k < number) ⊎ (number ≤ k)) → AreOutside (256 * number) 256 (256 * k) 256
      apart (inl less) = inl (omega arith)
      apart (inr more) = inr (omega (arith, other))

  provisioned_by : (image : List ℕ) → IsUnset nv → Along nv what number image → get_or image (256 * number + 255) 0 ≢ 255 → IsProvisionedBy image number
  provisioned_by image unset h set = record {
    within = within;
    gate = λ (e : get_or (slot_at image number) 255 0 ≡ 255). set (sym (gate_at image) ∙ e);
    first = λ k below. subst (λ (s : List ℕ). ¬ IsSet s) (sym (other_slot image h k (omega arith) (λ (e : k ≡ number). absurd (omega arith)))) (unset.gates k (omega arith));
  }

  provisioned_with : (image : List ℕ) → IsUnset nv → Along nv what number image → get_or image (256 * number + 255) 0 ≢ 255 → IsProvisionedWith image what
  provisioned_with image unset h set = record { number = number; by = provisioned_by image unset h set; provision = says h.written }
    where
      says : ((get_or image (256 * number + 255) 0 ≡ 255) ⊎ (bytes_at image (256 * number) 72 ≡ slot_bytes what)) → provision_in (slot_at image number) ≡ what
      says (inl gate) = absurd (set gate)
      says (inr bytes) = ap slot_of (front ∙ bytes) ∙ slot_of-bytes what slot
        where
          front : bytes_at (slot_at image number) 0 72 ≡ bytes_at image (256 * number) 72
          front =
              let place : 256 * number + 0 ≡ 256 * number = omega arith in
              part_of image (256 * number) 256 0 72 (omega arith) ∙ ap (λ (p : ℕ). bytes_at image p 72) place

  still_unset : (image : List ℕ) → IsUnset nv → Along nv what number image → get_or image (256 * number + 255) 0 ≡ 255 → IsUnset image
  still_unset image unset h gate = record { gates = λ k below. by_slot k below (cases_eq k number) }
    where
      by_slot : (k : ℕ) → k < 8 → ((k ≡ number) ⊎ (k ≢ number)) → ¬ IsSet (slot_at image k)
      by_slot k below (inl same) = λ (set : IsSet (slot_at image k)). subst (λ (j : ℕ). IsSet (slot_at image j)) same set (gate_at image ∙ gate)
      by_slot k below (inr other) = subst (λ (s : List ℕ). ¬ IsSet s) (sym (other_slot image h k below other)) (unset.gates k below)

  -- before the last of its operations no slot is set
  first_unset : IsUnset nv → IsUnset (applied nv (Program (256 * number) (slot_bytes what)))
  first_unset unset = still_unset (applied nv (Program (256 * number) (slot_bytes what))) unset first_along
      ((SameOutside-applied nv (Program (256 * number) (slot_bytes what))).stays (256 * number + 255) (inr (omega (arith, len))) ∙ blank_byte nv number 255 size within blank (omega arith))

  gate_last : (ops : List Operation) (j : ℕ) → IsUnset nv → IsPart (applied nv (Program (256 * number) (slot_bytes what))) (Program (256 * number + 255) (0 ∷ []) ∷ []) ops → j < length ops
      → IsUnset (play (applied nv (Program (256 * number) (slot_bytes what))) (take j ops))
  gate_last [] j unset h less = absurd (omega arith)
  gate_last (op ∷ ops) zero unset h less = first_unset unset
  gate_last (op ∷ ops) (suc j) unset h less =
      let few = part_length (applied nv (Program (256 * number) (slot_bytes what))) (Program (256 * number + 255) (0 ∷ []) ∷ []) (op ∷ ops) h in absurd (omega (arith, few, less))

  unset_before : (added : List Operation) (j : ℕ) → IsUnset nv → IsPart nv (provision_plan number what) added → j < length added → IsUnset (play nv (take j added))
  unset_before [] j unset h less = absurd (omega arith)
  unset_before (op ∷ ops) zero unset h less = unset
  unset_before (op ∷ ops) (suc j) unset h less = by_part h
    where
      by_part : (((op ≡ Program (256 * number) (slot_bytes what)) × IsPart (applied nv (Program (256 * number) (slot_bytes what))) (Program (256 * number + 255) (0 ∷ []) ∷ []) ops)
          ⊎ (IsTorn nv (Program (256 * number) (slot_bytes what)) op × (ops ≡ []))) → IsUnset (play (applied nv op) (take j ops))
      by_part (inl whole) = subst (λ (o : Operation). IsUnset (play (applied nv o) (take j ops))) (sym whole.0) (gate_last ops j unset whole.1 (omega arith))
      by_part (inr torn) = let none : length ops ≡ 0 = ap (λ (o : List Operation). length o) torn.1 in absurd (omega (arith, none, less))

  as_before : (image : List ℕ) → Along nv what number image → IsBlank (slot_at image number) → image ≡ nv
  as_before image h still = ext_get_or 0 image nv h.size (λ i below. by_place i (cases_lt i (256 * number)) (cases_lt i (256 * number + 256)))
    where
      in_slot : (i : ℕ) → 256 * number ≤ i → i < 256 * number + 256 → get_or image i 0 ≡ get_or nv i 0
      in_slot i low high =
          let place : 256 * number + (i - 256 * number) ≡ i = omega arith in
          let inside : i - 256 * number < 256 = omega arith in
          subst (λ (p : ℕ). get_or image p 0 ≡ get_or nv p 0) place
          (blank_byte image number (i - 256 * number) (h.size ∙ size) within still inside ∙ sym (blank_byte nv number (i - 256 * number) size within blank inside))

      by_place : (i : ℕ) → ((i < 256 * number) ⊎ (256 * number ≤ i)) → ((i < 256 * number + 256) ⊎ (256 * number + 256 ≤ i)) → get_or image i 0 ≡ get_or nv i 0
      by_place i (inl less) q = h.outside.stays i (inl less)
      by_place i (inr from) (inl to) = in_slot i from to
      by_place i (inr from) (inr more) = h.outside.stays i (inr more)

  what_is_left : (image : List ℕ) → IsUnset nv → Along nv what number image → IsProvisionedWith image what ⊎ (IsUsedUp nv image ⊎ (image ≡ nv))
  what_is_left image unset h = by_gate (cases_eq (get_or image (256 * number + 255) 0) 255) (cases_Bool (is_blank (slot_at image number)))
    where
      by_gate : ((get_or image (256 * number + 255) 0 ≡ 255) ⊎ (get_or image (256 * number + 255) 0 ≢ 255)) → ((is_blank (slot_at image number) ≡ true) ⊎ (is_blank (slot_at image number) ≡ false))
          → IsProvisionedWith image what ⊎ (IsUsedUp nv image ⊎ (image ≡ nv))
      by_gate (inr set) q = inl (provisioned_with image unset h set)
      by_gate (inl gate) (inl still) = inr (inr (as_before image h ((Decides-is_blank (slot_at image number)).0 still)))
      by_gate (inl gate) (inr used) = inr (inl (record {
        unset = still_unset image unset h gate;
        number = number;
        within = within;
        was = blank;
        used = not_from_Decides (is_blank (slot_at image number)) (Decides-is_blank (slot_at image number)) used;
        others = λ k below other. other_slot image h k below other;
      }))

-- ---- the call
-- what was done, whatever was answered
record Did (plan : List Operation) (old new : FlashState) : Type 0 where
  part : DoesPart plan old new
  worked : Worked old new

failed_did : (plan : List Operation) (old new : FlashState) (failed : Option FlashFail) → MatchOption failed ⊥ (λ f. Follows {A = Unit {0}} plan old new (Err f)) → Did plan old new
failed_did plan old new None h = absurd h
failed_did plan old new (Some f) h = record { part = h.part; worked = h.worked }

follows_did : (plan : List Operation) (old new : FlashState) (result : Result (Unit {0}) FuseFail) → FollowsAs plan old new result → Did plan old new
follows_did plan old new (Ok u) h = record { part = h.part; worked = h.worked }
follows_did plan old new (Err cause) h = failed_did plan old new (fuse_failure cause) h

reads_did : (old new : FlashState) → OnlyReads old new → Did [] old new
reads_did old new h = record { part = record { added = []; is = h.ops ∙ sym (append-nil old.ops); part = tt {0} }; worked = h.worked }

-- it programs in the slots alone
record DidInSlots (old new : FlashState) : Type 0 where
  plan : List Operation
  did : Did plan old new
  programs : AllPrograms 32768 plan
  within : AllWithin 0 2048 plan
  few : length plan ≤ 2

did_in_slots : (old new : FlashState) (what : RootSlot) (bmc_size pch_size : ℕ) (result : Result (Unit {0}) FuseFail) → IsSlot what → (judged : Result ℕ FuseFail) → judge_provision (now old) what bmc_size pch_size ≡ judged
    → Provisions what old new result judged → DidInSlots old new
did_in_slots old new what bmc_size pch_size result slot (Ok number) is h =
    let can = judged-ok (now old) what bmc_size pch_size number is in record {
      plan = provision_plan number what;
      did = follows_did (provision_plan number what) old new result h;
      programs = plan-programs what number slot can.slot.within;
      within = plan-slots what number slot can.slot.within;
      few = omega arith;
    }
did_in_slots old new what bmc_size pch_size result slot (Err cause) is h = record { plan = []; did = reads_did old new (ends_reads h.1); programs = tt {0}; within = tt {0}; few = omega arith }

along_now : (old new : FlashState) (what : RootSlot) (number : ℕ) → size_of old ≡ 32768 → IsSlot what → IsFirstBlank (now old) number → Did (provision_plan number what) old new → Along (now old) what number (now new)
along_now old new what number size slot first h =
    subst (Along (now old) what number) (sym (DoesPart-now (provision_plan number what) old new h.worked.moved.start h.part))
    (provision-part (now old) what number (length-now old ∙ size) first.within slot first.blank h.part.added h.part.part)

gate_set : (old new : FlashState) (what : RootSlot) (number : ℕ) (u : Unit {0}) → size_of old ≡ 32768 → IsSlot what → IsFirstBlank (now old) number → Follows (provision_plan number what) old new (Ok u)
    → get_or (now new) (256 * number + 255) 0 ≢ 255
gate_set old new what number u size slot first h e =
    let zero : get_or (now new) (256 * number + 255) 0 ≡ 0 =
    ap (λ (image : List ℕ). get_or image (256 * number + 255) 0) (Follows-now (provision_plan number what) old new u h)
    ∙ whole_gate (now old) what number (length-now old ∙ size) first.within slot first.blank in
    absurd (omega (arith, zero, e))

provision_ok : (old new : FlashState) (what : RootSlot) (bmc_size pch_size : ℕ) (result : Result (Unit {0}) FuseFail) → size_of old ≡ 32768 → IsSlot what → (judged : Result ℕ FuseFail)
    → judge_provision (now old) what bmc_size pch_size ≡ judged → Provisions what old new result judged → OnOk result (IsProvisionedWith (now new) what)
provision_ok old new what bmc_size pch_size (Ok u) size slot (Ok number) is h =
    let can = judged-ok (now old) what bmc_size pch_size number is in
    provisioned_with (now old) what number (length-now old ∙ size) can.slot.within slot can.slot.blank (now new) can.unset
    (along_now old new what number size slot can.slot (record { part = h.part; worked = h.worked })) (gate_set old new what number u size slot can.slot h)
provision_ok old new what bmc_size pch_size (Ok u) size slot (Err cause) is h = let e = h.0 in absurd cc
provision_ok old new what bmc_size pch_size (Err cause) size slot judged is h = tt {0}

provision_found : (old new : FlashState) (what : RootSlot) (bmc_size pch_size : ℕ) (result : Result (Unit {0}) FuseFail) → (judged : Result ℕ FuseFail)
    → judge_provision (now old) what bmc_size pch_size ≡ judged → Provisions what old new result judged → OnOk result (CanProvision (now old) what bmc_size pch_size)
provision_found old new what bmc_size pch_size (Ok u) (Ok number) is h = (number, judged-ok (now old) what bmc_size pch_size number is)
provision_found old new what bmc_size pch_size (Ok u) (Err cause) is h = let e = h.0 in absurd cc
provision_found old new what bmc_size pch_size (Err cause) judged is h = tt {0}

-- a plan that failed, or a judgement that barred it
fails_after : (old new : FlashState) (what : RootSlot) (Barred : Type 0) (number : ℕ) (failed : Option FlashFail) → LeavesProvision old new what
    → MatchOption failed ⊥ (λ f. Follows {A = Unit {0}} (provision_plan number what) old new (Err f)) → MatchOption failed Barred (λ f. FailsWorking f old new × LeavesProvision old new what)
fails_after old new what Barred number None left h = absurd h
fails_after old new what Barred number (Some f) left h = (h.failed, left)

fails_before : (old new : FlashState) (what : RootSlot) (bmc_size pch_size : ℕ) (cause other : FuseFail) (failed : Option FlashFail) → judge_provision (now old) what bmc_size pch_size ≡ Err other
    → MatchOption failed (refused {A = Unit {0}} other ≡ refused cause) (λ fail. Unit {0}) → EndsAt failed old new
    → MatchOption failed (IsBarred (now old) what bmc_size pch_size cause × EndsAt None old new) (λ f. FailsWorking f old new × LeavesProvision old new what)
fails_before old new what bmc_size pch_size cause other None is same ends =
    let e : other ≡ cause = cc in (judged-err (now old) what bmc_size pch_size cause (is ∙ ap (λ (c : FuseFail). Err c) e), ends)
fails_before old new what bmc_size pch_size cause other (Some f) is same ends = (FailsWorking-reading f old new ends, inr (inr (ends_content ends)))

provision_err : (old new : FlashState) (what : RootSlot) (bmc_size pch_size : ℕ) (result : Result (Unit {0}) FuseFail) → size_of old ≡ 32768 → IsSlot what → (judged : Result ℕ FuseFail)
    → judge_provision (now old) what bmc_size pch_size ≡ judged → Provisions what old new result judged → IfErr result (ProvisionFails old new what bmc_size pch_size)
provision_err old new what bmc_size pch_size (Ok u) size slot judged is h = tt {0}
provision_err old new what bmc_size pch_size (Err cause) size slot (Ok number) is h =
    let can = judged-ok (now old) what bmc_size pch_size number is in
    let left : LeavesProvision old new what = what_is_left (now old) what number (length-now old ∙ size) can.slot.within slot can.slot.blank (now new) can.unset
    (along_now old new what number size slot can.slot (follows_did (provision_plan number what) old new (Err cause) h)) in
    fails_after old new what (IsBarred (now old) what bmc_size pch_size cause × EndsAt None old new) number (fuse_failure cause) left h
provision_err old new what bmc_size pch_size (Err cause) size slot (Err other) is h = fails_before old new what bmc_size pch_size cause other (fuse_failure cause) is h.0 h.1

-- From the moment at which a slot is provisioned it stays as it is.
pub KeepsProvision-slot : (old new : FlashState) (what : RootSlot) (number : ℕ) → size_of old ≡ 32768 → new.start ≡ old.start → IsSlot what → IsUnset (now old) → IsFirstBlank (now old) number
    → DoesPart (provision_plan number what) old new → KeepsProvision old new
KeepsProvision-slot old new what number size same_start slot unset first h = KeepsProvision-last old new each
  where
    each : (n : ℕ) → op_count_of old ≤ n → n < op_count_of new → IsUnset (upto new n)
    each n low less =
        let all : op_count_of new ≡ op_count_of old + length h.added = ap (λ (ops : List Operation). length ops) h.is ∙ length-append old.ops h.added in
        let more : op_count_of old + (n - op_count_of old) ≡ n = omega arith in
        let image : upto new n ≡ play (now old) (take (n - op_count_of old) h.added) =
        subst (λ (k : ℕ). upto new k ≡ play (now old) (take (n - op_count_of old) h.added)) more (upto-added old new h.added (n - op_count_of old) same_start h.is) in
        subst IsUnset (sym image)
        (unset_before (now old) what number (length-now old ∙ size) first.within slot first.blank h.added (n - op_count_of old) unset h.part (omega (arith, all, low, less)))

provision_keeps : (old new : FlashState) (what : RootSlot) (bmc_size pch_size : ℕ) (result : Result (Unit {0}) FuseFail) → size_of old ≡ 32768 → IsSlot what → (judged : Result ℕ FuseFail)
    → judge_provision (now old) what bmc_size pch_size ≡ judged → Provisions what old new result judged → KeepsProvision old new
provision_keeps old new what bmc_size pch_size result size slot (Ok number) is h =
    let can = judged-ok (now old) what bmc_size pch_size number is in
    let did = follows_did (provision_plan number what) old new result h in
    KeepsProvision-slot old new what number size did.worked.moved.start slot can.unset can.slot did.part
provision_keeps old new what bmc_size pch_size result size slot (Err cause) is h = KeepsProvision-none old new (ends_reads h.1).ops

slot_set : (old new : FlashState) (what : RootSlot) (number : ℕ) (result : Result (Unit {0}) FuseFail) → size_of old ≡ 32768 → IsSlot what → IsUnset (now old) → IsFirstBlank (now old) number
    → FollowsAs (provision_plan number what) old new result → OnOk result (IsProvisionedBy (now new) number)
slot_set old new what number (Ok u) size slot unset first h =
    provisioned_by (now old) what number (length-now old ∙ size) first.within slot first.blank (now new) unset
    (along_now old new what number size slot first (record { part = h.part; worked = h.worked })) (gate_set old new what number u size slot first h)
slot_set old new what number (Err cause) size slot unset first h = tt {0}

fuses_behind : (profile : Profile) (bank : Bank) → 2048 ≤ floor_at profile bank
fuses_behind One Bmc = omega arith
fuses_behind One Pch = omega arith
fuses_behind Two Bmc = omega arith
fuses_behind Two Pch = omega arith

rows_behind : (profile : Profile) (type : ContentType) → IsSigning type → 2048 ≤ row_at profile type
rows_behind One PchManifest s = omega arith
rows_behind One PchCapsule s = omega arith
rows_behind One BmcManifest s = omega arith
rows_behind One BmcCapsule s = omega arith
rows_behind One type s = absurd s
rows_behind Two PchManifest s = omega arith
rows_behind Two PchCapsule s = omega arith
rows_behind Two BmcManifest s = omega arith
rows_behind Two BmcCapsule s = omega arith
rows_behind Two type s = absurd s

pub KeepsFuses-slots : (old new : List ℕ) → length old ≡ 32768 → length new ≡ length old → SameOutside 0 2048 old new → KeepsFuses old new
KeepsFuses-slots old new size same_size outside =
    let profile : profile_of new ≡ profile_of old = profile-outside 0 2048 old new (inr (omega arith)) outside in record {
      profile = profile;
      floors = λ bank k. floor_bits-outside 0 2048 old new bank size same_size profile (inr (fuses_behind (profile_of old) bank)) outside k;
      cancels = λ type k. row_bits-outside 0 2048 old new type size same_size profile (λ signing. inr (rows_behind (profile_of old) type signing)) outside k;
    }

module _ (old new : FlashState) (what : RootSlot) (bmc_size pch_size : ℕ) (result : Result (Unit {0}) FuseFail) (size : size_of old ≡ 32768) (slot : IsSlot what)
    (exact : Provisions what old new result (judge_provision (now old) what bmc_size pch_size)) where
  in_slots : DidInSlots old new
  in_slots = did_in_slots old new what bmc_size pch_size result slot (judge_provision (now old) what bmc_size pch_size) refl exact

  pub provision-ok : OnOk result (IsProvisionedWith (now new) what)
  provision-ok = provision_ok old new what bmc_size pch_size result size slot (judge_provision (now old) what bmc_size pch_size) refl exact

  pub provision-found : OnOk result (CanProvision (now old) what bmc_size pch_size)
  provision-found = provision_found old new what bmc_size pch_size result (judge_provision (now old) what bmc_size pch_size) refl exact

  pub provision-err : IfErr result (ProvisionFails old new what bmc_size pch_size)
  provision-err = provision_err old new what bmc_size pch_size result size slot (judge_provision (now old) what bmc_size pch_size) refl exact

  pub provision-slot : (number : ℕ) → IsProvisionable (now old) what bmc_size pch_size number
      → FollowsAs (provision_plan number what) old new result × OnOk result (IsProvisionedBy (now new) number) × Adds (IsWithin (256 * number) 256) old new
  provision-slot number can =
      let follows : FollowsAs (provision_plan number what) old new result =
      subst (λ (judged : Result ℕ FuseFail). Provisions what old new result judged) (provisionable-judged (now old) what bmc_size pch_size number can) exact in (
        follows,
        slot_set old new what number result size slot can.unset can.slot follows,
        Adds-within (256 * number) 256 (provision_plan number what) old new (plan-within what number slot) (follows_did (provision_plan number what) old new result follows).part,
      )

  pub provision-within : Adds (IsWithin 0 2048) old new
  provision-within = Adds-within 0 2048 in_slots.plan old new in_slots.within in_slots.did.part

  pub provision-outside : SameOutside 0 2048 (now old) (now new)
  provision-outside = DoesPart-outside 0 2048 in_slots.plan old new in_slots.within in_slots.did.worked.moved.start in_slots.did.part

  pub provision-fuses : KeepsFuses (now old) (now new)
  provision-fuses = KeepsFuses-slots (now old) (now new) (length-now old ∙ size) (length-now new ∙ ap length in_slots.did.worked.moved.start ∙ sym (length-now old)) provision-outside

  pub provision-grows : NeverGoesBack old new
  provision-grows = NeverGoesBack-programs 0 2048 in_slots.plan old new size in_slots.did.worked.moved.start in_slots.did.part in_slots.programs in_slots.within (inr (omega arith))

  pub provision-keeps : KeepsProvision old new
  provision-keeps = provision_keeps old new what bmc_size pch_size result size slot (judge_provision (now old) what bmc_size pch_size) refl exact

  pub provision-loses : OnlyLoses 0 32768 old new
  provision-loses = OnlyLoses-plan 32768 0 32768 (omega arith) in_slots.plan old new size in_slots.did.worked.moved.start in_slots.did.part (AllLose-programs 32768 0 32768 in_slots.plan in_slots.programs)

  pub provision-count : AddsAtMost 2 old new
  provision-count = AddsAtMost-plan 2 in_slots.plan old new in_slots.did.part in_slots.few

  pub provision-worked : Worked old new
  provision-worked = in_slots.did.worked
