-- What a job on a bank does to the store leaves what the other bank's trust reads of it, so that bank's open span goes on.
use Rattle.std.proofs.Common.{◌≡◌, ◌∙◌, refl, sym, ap, subst, arith, ℕ, ◌+◌, ◌≤◌, ◌<◌, false, List, [], length, inl, inr}
use Rattle.pfr_flash.specs.Names.{manifest_type}
use Rattle.pfr_flash.specs.Operation.{Operation, applied}
use Rattle.pfr_flash.specs.Range.{Leaves, IsWithin}
use Rattle.pfr_flash.specs.declared.names.Bank.{Bank}
use Rattle.pfr_flash.specs.declared.names.Bank.TheVariants as bank
use Rattle.pfr_flash.specs.declared.names.ContentType.{ContentType}
use Rattle.pfr_flash.specs.declared.names.Counts.{Counts}
use Rattle.pfr_flash.specs.declared.names.Device.TheVariants as device
use Rattle.pfr_flash.proofs.PlayLemmas.{length-applied}
use Rattle.pfr_engine.specs.Acceptance.{Acceptance}
use Rattle.pfr_fuses.specs.Changes.{SameProvision}
use Rattle.pfr_fuses.specs.FuseMap.{IsSigning, floor_at, floor_width, row_at, row_width}
use Rattle.pfr_fuses.specs.FusesOf.{fuses_with}
use Rattle.pfr_fuses.specs.FusesState.{FusesState}
use Rattle.pfr_fuses.specs.Slots.{slot_at}
use Rattle.pfr_fuses.specs.declared.profile.Profile.{Profile}
use Rattle.pfr_fuses.specs.declared.profile.Profile.TheVariants.{One, Two}
use Rattle.pfr_fuses.proofs.GrowthLemmas.{profile-outside, slots-outside, IsProvisionedBy-same}
use Rattle.pfr_fuses.proofs.StandsLemmas.{fuses_of-ok, fuses_of-found}
use Rattle.pfr_fuses.proofs.StaysLemmas.{AreOutside, row_in_sector, row_behind_floors}
use Rattle.pfr_manifest.specs.declared.manifest.Manifest.{Manifest}
use Rattle.pfr_auth.specs.Leaving.{LeavesStore}
use Rattle.pfr_jobs.specs.Log.{log_at}
use Rattle.pfr_jobs.proofs.BeginLaw.{log_low}
use Rattle.pfr_report.specs.declared.note.What.{What}
use Rattle.pfr_report.specs.declared.note.What.TheVariants as what
use Rattle.pfr_story.specs.Guards.{same_bank}
use Rattle.pfr_story.specs.Keeping.{IsSettled}
use Rattle.pfr_story.specs.Plans.{store}
use Rattle.pfr_story.specs.Spans.{opens_after, opens_from}
use Rattle.pfr_story.specs.Recovery.{KeepsRecoverable}
use Rattle.pfr_story.specs.Story.{Story, Move, Says, Does, moved_by, operated, counts_of, other_bank}
use Rattle.pfr_story.proofs.Carried.{Carrying}
use Rattle.pfr_story.proofs.JobGrowth.{within_outside, floor_apart, row_apart, row_low, floor_in_sector}
use Rattle.pfr_story.proofs.JobRules.{IsInLog, IsRaise}
use Rattle.pfr_story.proofs.JobSafetyCancelled.{IsTypeOf, own_signs}
use Rattle.pfr_story.proofs.SafetyLaws.{image_operated}
use Rattle.pfr_story.proofs.SpanLaws.{Spares, SparesOpen, IsSettledWhere, open_none, open_any}
use Rattle.pfr_story.proofs.SpanRules.{NotOne, InWork, AtWork, op_safe, op_work, still_work}
use Rattle.pfr_story.proofs.Traces.{IsStamped}
use Rattle.pfr_story.proofs.WorkShapes.{Table, Going, Ended, Task, stroked, logged, raised, cleared, untrusted, refused, resumed, given_up, restored, updated, recovery_updated, cancelled, released, unready, no_image, no_recovery, spent}

-- ---- what the trust in an image reads of the store
signs : (b : Bank) → IsSigning (manifest_type b)
signs bank.Bmc = tt
signs bank.Pch = tt

apart_leaves : (from len at count : ℕ) (op : Operation) → IsWithin from len op → AreOutside from len at count → Leaves at count op
apart_leaves from len at count op w (inl before) = inr (omega (arith, before, w.low))
apart_leaves from len at count op w (inr behind) = inl (omega (arith, behind, w.high))

-- what is done in a log leaves what either bank's trust reads
pub log_leaves : (b which : Bank) (fuses : FusesState) (op : Operation) → IsInLog b op → LeavesStore fuses which op
log_leaves b which fuses op w = record {
  slots = inr (omega (arith, w.low, log_low b));
  gate = inr (omega (arith, w.low, log_low b));
  floor = apart_leaves (log_at b) 0x3000 (floor_at fuses.profile which) (floor_width fuses.profile) op w (floor_apart b fuses.profile which);
  row = apart_leaves (log_at b) 0x3000 (row_at fuses.profile (manifest_type which)) (row_width fuses.profile) op w (row_apart b fuses.profile (manifest_type which) (signs which));
}

-- the other bank's floor, in either profile, lies outside of a bank's floor in profile 2
other_floor : (b : Bank) (p : Profile) → AreOutside (floor_at Two b) 16 (floor_at p (other_bank b)) (floor_width p)
other_floor bank.Bmc One = inl (omega arith)
other_floor bank.Pch One = inl (omega arith)
other_floor bank.Bmc Two = inr (omega arith)
other_floor bank.Pch Two = inl (omega arith)

low_floor : (b : Bank) → floor_at One b + 8 ≤ 0x7000
low_floor bank.Bmc = omega arith
low_floor bank.Pch = omega arith

floor_low : (b : Bank) → floor_at Two b + 16 ≤ 0x7020
floor_low bank.Bmc = omega arith
floor_low bank.Pch = omega arith

any_row : (b which : Bank) (p : Profile) → AreOutside (floor_at Two b) 16 (row_at p (manifest_type which)) (row_width p)
any_row b which One = inl (omega (arith, (floor_in_sector b).0, row_low (manifest_type which) (signs which)))
any_row b which Two = inr (omega (arith, floor_low b, (row_in_sector (manifest_type which) (signs which)).0))

-- a raise of a bank's floor leaves what the other bank's trust reads
pub raise_leaves : (b : Bank) (fuses : FusesState) (image : List ℕ) (op : Operation) → IsRaise b image op → LeavesStore fuses (other_bank b) op
raise_leaves b fuses image op r = record {
  slots = inr (omega (arith, r.within.low, (floor_in_sector b).0));
  gate = inr (omega (arith, r.within.low, (floor_in_sector b).0));
  floor = apart_leaves (floor_at Two b) 16 (floor_at fuses.profile (other_bank b)) (floor_width fuses.profile) op r.within (other_floor b fuses.profile);
  row = apart_leaves (floor_at Two b) 16 (row_at fuses.profile (manifest_type (other_bank b))) (row_width fuses.profile) op r.within (any_row b (other_bank b) fuses.profile);
}

-- each floor, and the other bank's row of its manifests' keys, lie outside of the row of a type of a bank in profile 2
floor_before : (which : Bank) (type : ContentType) → IsSigning type → (p : Profile) → AreOutside (row_at Two type) 32 (floor_at p which) (floor_width p)
floor_before which type s One = inl (omega (arith, low_floor which, (row_in_sector type s).0))
floor_before which type s Two = inl (row_behind_floors which type s)

other_row : (b : Bank) (type : ContentType) → IsTypeOf b type → (p : Profile) → AreOutside (row_at Two type) 32 (row_at p (manifest_type (other_bank b))) (row_width p)
other_row bank.Bmc type (inl e) One = subst (λ (t : ContentType). AreOutside (row_at Two t) 32 0x900 16) (sym e) (inl (omega arith))
other_row bank.Bmc type (inl e) Two = subst (λ (t : ContentType). AreOutside (row_at Two t) 32 0x7020 32) (sym e) (inl (omega arith))
other_row bank.Bmc type (inr e) One = subst (λ (t : ContentType). AreOutside (row_at Two t) 32 0x900 16) (sym e) (inl (omega arith))
other_row bank.Bmc type (inr e) Two = subst (λ (t : ContentType). AreOutside (row_at Two t) 32 0x7020 32) (sym e) (inl (omega arith))
other_row bank.Pch type (inl e) One = subst (λ (t : ContentType). AreOutside (row_at Two t) 32 0x920 16) (sym e) (inl (omega arith))
other_row bank.Pch type (inl e) Two = subst (λ (t : ContentType). AreOutside (row_at Two t) 32 0x7060 32) (sym e) (inr (omega arith))
other_row bank.Pch type (inr e) One = subst (λ (t : ContentType). AreOutside (row_at Two t) 32 0x920 16) (sym e) (inl (omega arith))
other_row bank.Pch type (inr e) Two = subst (λ (t : ContentType). AreOutside (row_at Two t) 32 0x7060 32) (sym e) (inr (omega arith))

-- the cancellation of a key of a bank leaves what the other bank's trust reads
cancel_leaves : (b : Bank) (type : ContentType) → IsTypeOf b type → (op : Operation) → IsWithin (row_at Two type) 32 op → (fuses : FusesState) → LeavesStore fuses (other_bank b) op
cancel_leaves b type own op w fuses =
    let s = own_signs b type own in
    record {
      slots = inr (omega (arith, w.low, (row_in_sector type s).0));
      gate = inr (omega (arith, w.low, (row_in_sector type s).0));
      floor = apart_leaves (row_at Two type) 32 (floor_at fuses.profile (other_bank b)) (floor_width fuses.profile) op w (floor_before (other_bank b) type s fuses.profile);
      row = apart_leaves (row_at Two type) 32 (row_at fuses.profile (manifest_type (other_bank b))) (row_width fuses.profile) op w (other_row b type own fuses.profile);
    }

-- ---- a settled store stays so
settled_same : (old new : List ℕ) → SameProvision old new → IsSettled old → IsSettled new
settled_same old new same q =
    let found = fuses_of-ok old q.fuses q.provisioned in
    record {
      fuses = fuses_with new (slot_at new found.0);
      provisioned = fuses_of-found new found.0 (IsProvisionedBy-same old new found.0 same.slots found.1);
      two = same.profile ∙ sym (ap (λ (x : FusesState). x.profile) found.2) ∙ q.two;
    }

pub two_same : (old new : List ℕ) → SameProvision old new → NotOne old → NotOne new
two_same old new same two fuses f =
    let found = fuses_of-ok new fuses f in
    ap (λ (x : FusesState). x.profile) found.2 ∙ same.profile
    ∙ two (fuses_with old (slot_at old found.0)) (fuses_of-found old found.0 (IsProvisionedBy-same new old found.0 (λ k below. sym (same.slots k below)) found.1))

-- what is done behind the profile gate leaves both
behind_same : (from len : ℕ) (image : List ℕ) (op : Operation) → 0xA00 < from → IsWithin from len op → length image ≡ 32768 → SameProvision image (applied image op)
behind_same from len image op low w size =
    let outside = within_outside from len image op w in
    record {
      slots = slots-outside from len image (applied image op) (omega (arith, low)) size (length-applied image op) outside;
      profile = profile-outside from len image (applied image op) (inl low) outside;
    }

pub log_same : (b : Bank) (image : List ℕ) (op : Operation) → IsInLog b op → length image ≡ 32768 → SameProvision image (applied image op)
log_same b image op w size = behind_same (log_at b) 0x3000 image op (omega (arith, log_low b)) w size

pub raise_same : (b : Bank) (image : List ℕ) (op : Operation) → IsRaise b image op → length image ≡ 32768 → SameProvision image (applied image op)
raise_same b image op r size = behind_same (floor_at Two b) 16 image op (omega (arith, (floor_in_sector b).0)) r.within size

-- ---- the spans of a bank while a job is done
pub other_one : (which b : Bank) → same_bank which b ≡ false → other_bank b ≡ which
other_one bank.Bmc bank.Bmc e = absurd cc
other_one bank.Bmc bank.Pch e = refl
other_one bank.Pch bank.Bmc e = refl
other_one bank.Pch bank.Pch e = absurd cc

store_spared : (which : Bank) (fuses : FusesState) (m : Manifest) (op : Operation) → LeavesStore fuses which op → Spares which device.Nv fuses m op
store_spared bank.Bmc fuses m op l = l
store_spared bank.Pch fuses m op l = l

-- a note that says nothing of this bank's spans
pub record IsAside (which : Bank) (that : What) : Type 0 where
  pub stamped : (counts : Counts) → IsStamped that counts
  pub settled : (nv : List ℕ) → IsSettledWhere which that nv
  pub still : (opens : List Counts) → opens_after which that opens ≡ opens

module _ (accepts : Acceptance) (which : Bank) where
  module _ (b : Bank) where
    -- an operation of the store that leaves the slots and the profile, and what this bank's trust reads where b is another one
    store_kept : (op : Operation) (story : Story) → (length (store story) ≡ 32768 → SameProvision (store story) (applied (store story) op))
        → (same_bank which b ≡ false → (fuses : FusesState) → LeavesStore fuses which op) → Carrying (AtWork accepts which b) (InWork accepts which) (Does device.Nv op) story
    store_kept op story same leaves at =
        let is : store (operated device.Nv op story) ≡ applied (store story) op = image_operated device.Nv op story in
        let there : SameProvision (store story) (store (operated device.Nv op story)) = subst (λ (image : List ℕ). SameProvision (store story) image) (sym is) (same at.size) in
        let settles : IsSettled (store story) → IsSettled (store (operated device.Nv op story)) = settled_same (store story) (store (operated device.Nv op story)) there in (
          (
            elim at.idle [
              | inl none ↦ open_none (SparesOpen accepts which device.Nv op story) (opens_from which [] story.notes) none
              | inr other ↦ open_any (SparesOpen accepts which device.Nv op story)
                  (λ begin. record { spares = λ t. store_spared which t.fuses t.manifest op (leaves other.0 t.fuses); settled = settles other.1 }) (opens_from which [] story.notes)
            ],
            two_same (store story) (store (operated device.Nv op story)) there,
          ),
          record {
            idle = elim at.idle [ inl none ↦ inl none | inr other ↦ inr (other.0, settles other.1) ];
            two = λ own. two_same (store story) (store (operated device.Nv op story)) there (at.two own);
            size = ap (λ (image : List ℕ). length image) is ∙ length-applied (store story) op ∙ at.size;
          },
        )

    aside_told : (that : What) → IsAside which that → (story : Story) → Carrying (AtWork accepts which b) (InWork accepts which) (Says (λ _. that)) story
    aside_told that aside story p = (
      ((aside.stamped (counts_of story), aside.settled (store story)), tt),
      still_work accepts which b (λ _. that) story aside.still p,
    )

    -- All that is done of work on bank b is good for the spans of this bank, be it b or the other one.
    goes : (task : Task) (move : Move) (story : Story) → Going b task ⊥ story move → (⊥ → (c : Bank) → KeepsRecoverable accepts c move story) → AtWork accepts which b story → InWork accepts which move story × AtWork accepts which b (moved_by move story)
    goes task _ story (stroked op) keeps w = (op_safe accepts which b op story w, op_work accepts which b op story w)
    goes task _ story (logged op own) keeps w = store_kept op story (λ size. log_same b (store story) op own size) (λ other fuses. log_leaves b which fuses op own) w
    goes task _ story (raised op raise) keeps w =
        store_kept op story (λ size. raise_same b (store story) op raise size) (λ other fuses. subst (λ (c : Bank). LeavesStore fuses c op) (other_one which b other) (raise_leaves b fuses (store story) op raise)) w
    goes task _ story (cleared cancels type op own clear) keeps w =
        store_kept op story (λ size. behind_same (row_at Two type) 32 (store story) op (omega (arith, (row_in_sector type (own_signs b type own)).0)) clear.within size)
        (λ other fuses. subst (λ (c : Bank). LeavesStore fuses c op) (other_one which b other) (cancel_leaves b type own op clear.within fuses)) w
    goes task _ story (untrusted checks cause) keeps w = aside_told (what.Untrusted b cause) (record { stamped = λ counts. tt; settled = λ nv. tt; still = λ opens. refl }) story w
    goes task _ story (refused cause may) keeps w = aside_told (what.Refused b cause) (record { stamped = λ counts. tt; settled = λ nv. tt; still = λ opens. refl }) story w
    goes task _ story (resumed resumes kind) keeps w = aside_told (what.Resumed b kind) (record { stamped = λ counts. tt; settled = λ nv. tt; still = λ opens. refl }) story w
    goes task _ story (given_up copies) keeps w = aside_told (what.Abandoned b) (record { stamped = λ counts. tt; settled = λ nv. tt; still = λ opens. refl }) story w
    goes task _ story (restored level) keeps w = aside_told (what.Restored b level) (record { stamped = λ counts. tt; settled = λ nv. tt; still = λ opens. refl }) story w
    goes task _ story (updated dynamic replaces svn) keeps w = aside_told (what.Updated b dynamic svn) (record { stamped = λ counts. tt; settled = λ nv. tt; still = λ opens. refl }) story w
    goes task _ story (recovery_updated copies svn floor) keeps w = aside_told (what.RecoveryUpdated b svn) (record { stamped = λ counts. tt; settled = λ nv. tt; still = λ opens. refl }) story w
    goes task _ story (cancelled cancels type id clear) keeps w = aside_told (what.Cancelled type id) (record { stamped = λ counts. tt; settled = λ nv. tt; still = λ opens. refl }) story w

    ends : (task : Task) (move : Move) (story : Story) → Ended accepts b task ⊥ story move → AtWork accepts which b story → InWork accepts which move story
    ends task _ story (released fuses m ready j known) w = ((refl, λ same. record { fuses = fuses; provisioned = ready.provisioned; two = w.two same fuses ready.provisioned }), tt)
    ends task _ story (unready cause e) w = ((refl, tt), tt)
    ends task _ story (no_image fuses cause other ready j known) w = ((refl, tt), tt)
    ends task _ story (no_recovery expires fuses cause ready j known) w = ((refl, tt), tt)
    ends task _ story (spent expires) w = ((refl, tt), tt)

    pub span_table : (task : Task) → Table (InWork accepts which) (AtWork accepts which b) accepts b task ⊥
    span_table task = record { asks = λ at story own. (tt, tt); goes = goes task; ends = ends task }
