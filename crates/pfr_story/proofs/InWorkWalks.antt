-- Each operation of the store in an event changes only what it may.
use Rattle.std.proofs.Common.{◌≡◌, ◌∙◌, refl, sym, subst, arith, ℕ, ◌+◌, ◌*◌, ◌≤◌, List, [], ◌∷◌, length, inl, inr, Result, Ok, Err}
use Rattle.pfr_flash.specs.Bytes.{AreBytes}
use Rattle.pfr_flash.specs.Operation.{Operation, Program, applied, play}
use Rattle.pfr_flash.specs.Plan.{IsPart}
use Rattle.pfr_flash.specs.Range.{IsWithin, Leaves}
use Rattle.pfr_flash.specs.declared.names.Bank.{Bank}
use Rattle.pfr_flash.specs.declared.names.Bank.TheVariants as bank
use Rattle.pfr_flash.specs.declared.names.Device.TheVariants as device
use Rattle.pfr_flash.proofs.LeavingLemmas.{leaves_torn, left_bytes}
use Rattle.pfr_flash.proofs.PlayLemmas.{length-applied}
use Rattle.pfr_engine.specs.Acceptance.{Acceptance}
use Rattle.pfr_fuses.specs.Changes.{migration}
use Rattle.pfr_fuses.specs.FusesOf.{fuses_of}
use Rattle.pfr_fuses.specs.FusesState.{FusesState}
use Rattle.pfr_fuses.specs.Growth.{AllAre}
use Rattle.pfr_fuses.specs.Provisioning.{judge_provision, provision_plan}
use Rattle.pfr_fuses.specs.RootSlot.{IsSlot, slot_bytes}
use Rattle.pfr_fuses.specs.declared.fuse_fail.FuseFail.{FuseFail}
use Rattle.pfr_fuses.specs.declared.profile.Profile.{Profile}
use Rattle.pfr_fuses.specs.declared.profile.Profile.TheVariants.{One, Two}
use Rattle.pfr_fuses.specs.declared.root_slot.RootSlot.{RootSlot}
use Rattle.pfr_fuses.proofs.BlankLemmas.{judged-ok}
use Rattle.pfr_fuses.proofs.MigrationLemmas.{Holds, Grows-holds}
use Rattle.pfr_fuses.proofs.RootSlotLemmas.{length-slot}
use Rattle.pfr_jobs.specs.Log.{log_at}
use Rattle.pfr_jobs.proofs.BeginLaw.{log_low, log_high}
use Rattle.pfr_script.specs.declared.event.Event.{Event}
use Rattle.pfr_script.specs.declared.event.Intent.TheVariants.{Cert}
use Rattle.pfr_report.specs.declared.note.Note.{Note}
use Rattle.pfr_report.specs.declared.note.What.TheVariants as what
use Rattle.pfr_story.specs.InWork.{SameLog}
use Rattle.pfr_story.specs.Plans.{store, migration_by, migration_in, migrated, provisioned_in, provisioned, brought_up, expired}
use Rattle.pfr_story.specs.Promises.{IsUpdateTo}
use Rattle.pfr_story.specs.Recovery.{KeepsRecoverable}
use Rattle.pfr_story.specs.Safety.{AllSafe, IsSafe}
use Rattle.pfr_story.specs.Story.{Story, Move, Says, Does, moved_by, noted, operated, called, device_of}
use Rattle.pfr_story.specs.UpdatePlans.{updating}
use Rattle.pfr_script.specs.declared.event.Intent.{Intent}
use Rattle.pfr_story.proofs.BringAllowed.{IsSized}
use Rattle.pfr_story.proofs.BringRules.{level_at}
use Rattle.pfr_story.proofs.FuseLaws.{part_holds}
use Rattle.pfr_story.proofs.InWorkRules.{InWork, IsSince, fresh, Works, held_works, works_says, works_stored, works_stroked, since_says}
use Rattle.pfr_story.proofs.InWorkShapes.{log_changes, floor_changes, row_changes, slot_changes}
use Rattle.pfr_story.proofs.JobRules.{torn_within}
use Rattle.pfr_story.proofs.JobSafetyCancelled.{own_signs}
use Rattle.pfr_story.proofs.JobWalks.{store_sized}
use Rattle.pfr_story.proofs.SafetyLaws.{AllSafe-append, image_operated, image_did, called_safe}
use Rattle.pfr_story.proofs.WorkShapes.{Table, Going, Ended, Task, Brings, Expires, Updates, Cancels, stroked, logged, raised, cleared, untrusted, refused, resumed, given_up, restored, updated, recovery_updated, cancelled, released, unready, no_image, no_recovery, spent}
use Rattle.pfr_story.proofs.WorkWalks.{brought_worked, expired_worked, updating_worked}

-- ---- a migration leaves both logs
abbrev LeavesLogs : Operation → Type 0
LeavesLogs op = (which : Bank) → Leaves (log_at which) 0x3000 op

migration_leaves : (fuses : FusesState) → AllAre LeavesLogs (migration fuses)
migration_leaves fuses = ((λ which. inr (omega (arith, log_high which))), ((λ which. inr (omega (arith, log_high which))), ((λ which. inl (omega (arith, log_low which))), tt)))

part_logs : (image : List ℕ) (plan added : List Operation) → AllAre LeavesLogs plan → length image ≡ 32768 → (which : Bank) → IsPart image plan added → SameLog which image (play image added)
part_logs image plan [] all size which part = refl
part_logs image [] (op ∷ added) all size which part = absurd part
part_logs image (next ∷ plan) (op ∷ added) all size which (inl p) =
    subst (λ (o : Operation). SameLog which image (play (applied image o) added)) (sym p.0)
    (part_logs (applied image next) plan added all.1 (length-applied image next ∙ size) which p.1 ∙ left_bytes image next (log_at which) 0x3000 (all.0 which) (omega (arith, size, log_high which)))
part_logs image (next ∷ plan) (op ∷ added) all size which (inr p) =
    subst (λ (ops : List Operation). SameLog which image (play (applied image op) ops)) (sym p.1)
    (left_bytes image op (log_at which) 0x3000 (leaves_torn image (log_at which) 0x3000 next op p.0 (all.0 which)) (omega (arith, size, log_high which)))

module _ (e : Event) (base : List Note) where
  module _ (story : Story) (size : IsSized story) (bytes : AreBytes (store story)) where
    -- what holds of the store within a migration
    record Within (fuses : FusesState) (later : List ℕ) : Type 0 where
      holds : Holds (store story) fuses later
      logs : (which : Bank) → SameLog which (store story) later

    migration_changes : (fuses : FusesState) (op : Operation) (later : Story) → Within fuses (store later) → Within fuses (store (operated device.Nv op later)) → InWork e base (Does device.Nv op) later
    migration_changes fuses op later p q =
        let there : Within fuses (applied (store later) op) = subst (λ (image : List ℕ). Within fuses image) (image_operated device.Nv op later) q in
        let forth = Grows-holds (store story) fuses (store later) (applied (store later) op) p.holds there.holds in
        let back = Grows-holds (store story) fuses (applied (store later) op) (store later) there.holds p.holds in
        record {
          logs = λ which. inl (there.logs which ∙ sym (p.logs which));
          floors = λ which. inl (λ k. (back.floors which k, forth.floors which k));
          rows = inl (λ type id. (back.cancels type id, forth.cancels type id));
        }

    migration_parts : (fuses : FusesState) → fuses_of (store story) ≡ Ok fuses → fuses.profile ≡ One → (added : List Operation) → IsPart (store story) (migration fuses) added → Within fuses (play (store story) added)
    migration_parts fuses f one added part =
        record { holds = part_holds (store story) fuses added size bytes f one part; logs = λ which. part_logs (store story) (migration fuses) added (migration_leaves fuses) size which part }

    by_profile : (p : Profile) (fuses : FusesState) → fuses_of (store story) ≡ Ok fuses → fuses.profile ≡ p → AllSafe (InWork e base) (called device.Nv (migration_by p fuses)) story
    by_profile One fuses f one =
        called_safe (InWork e base) device.Nv (λ later. Within fuses (store later)) (λ op later p q. migration_changes fuses op later p q) (λ later. tt) (migration fuses) story
        (λ added part. subst (λ (image : List ℕ). Within fuses image) (sym (image_did device.Nv added story)) (migration_parts fuses f one added part))
    by_profile Two fuses f two = (tt, tt)

    by_fuses : (read : Result FusesState FuseFail) → fuses_of (store story) ≡ read → AllSafe (InWork e base) (called device.Nv (migration_in read)) story
    by_fuses (Ok fuses) f = by_profile fuses.profile fuses f refl
    by_fuses (Err cause) f = (tt, tt)

    pub migrated_in_work : AllSafe (InWork e base) (migrated story) story
    migrated_in_work = (tt, by_fuses (fuses_of (store story)) refl)

  -- ---- a provision
  slot_safe : (at : ℕ) (bytes : List ℕ) (story : Story) → IsSized story → at + length bytes ≤ 2048 → IsSafe (InWork e base) (Does device.Nv (Program at bytes)) story
  slot_safe at bytes story size inside =
      let within : IsWithin 0 2048 (Program at bytes) = record { low = omega arith; high = omega (arith, inside) } in
      let changes = λ (done : Operation) (w : IsWithin 0 2048 done). slot_changes e (fresh e base story) (length story.nv.ops) (store story) done size w in
      (changes (Program at bytes) within, λ done torn. changes done (torn_within 0 2048 (store story) (Program at bytes) done torn within))

  pub provisioned_in_work : (root : RootSlot) (story : Story) → IsSlot root → IsSized story → AllSafe (InWork e base) (provisioned root story) story
  provisioned_in_work root story slot size = (tt, by_judged (judge_provision (store story) root (length story.bmc.start) (length story.pch.start)) refl)
    where
      by_judged : (judged : Result ℕ FuseFail) → judge_provision (store story) root (length story.bmc.start) (length story.pch.start) ≡ judged → AllSafe (InWork e base) (provisioned_in root judged story) story
      by_judged (Ok number) j =
          let below = (judged-ok (store story) root (length story.bmc.start) (length story.pch.start) number j).slot.within in
          let first : Operation = Program (256 * number) (slot_bytes root) in
          let there : Story = operated device.Nv first story in
          AllSafe-append (InWork e base) (called device.Nv (provision_plan number root)) (Says (λ _. what.Provisioned) ∷ []) story (
            slot_safe (256 * number) (slot_bytes root) story size (omega (arith, below, length-slot root slot)),
            (slot_safe (256 * number + 255) (0 ∷ []) there (store_sized (Does device.Nv first ∷ []) story ∙ size) (omega (arith, below)), (tt, tt)),
          ) (tt, tt)
      by_judged (Err cause) j = (tt, tt)

  -- ---- the work on a bank
  abbrev Stands : Bank → Story → Type 0
  Stands b story = IsSized story × Works e base b story

  own_free : (b : Bank) (op : Operation) (story : Story) → InWork e base (Does (device_of b) op) story
  own_free bank.Bmc op story = tt
  own_free bank.Pch op story = tt

  module _ (accepts : Acceptance) (b : Bank) where
    stored : (op : Operation) (story : Story) → InWork e base (Does device.Nv op) story → Stands b story → InWork e base (Does device.Nv op) story × Stands b (operated device.Nv op story)
    stored op story good i = (good, (store_sized (Does device.Nv op ∷ []) story ∙ i.0, works_stored e base b op story i.1))

    goes : (task : Task) → (Cancels task → IsUpdateTo b Cert e) → (move : Move) (story : Story) → Going b task ⊥ story move → (⊥ → (c : Bank) → KeepsRecoverable accepts c move story) → Stands b story
        → InWork e base move story × Stands b (moved_by move story)
    goes task may _ story (stroked op) keeps i = (own_free b op story, (store_sized (Does (device_of b) op ∷ []) story ∙ i.0, works_stroked e base b b op story i.1))
    goes task may _ story (logged op own) keeps i = stored op story (log_changes e (fresh e base story) (length story.nv.ops) (store story) op i.0 b i.1.work own) i
    goes task may _ story (raised op raise) keeps i = stored op story (floor_changes e (fresh e base story) (length story.nv.ops) (store story) op i.0 b i.1.work raise.within) i
    goes task may _ story (cleared cancels type op own clear) keeps i =
        stored op story (row_changes e (fresh e base story) (length story.nv.ops) (store story) op i.0 b i.1.work (may cancels) type (own_signs b type own) clear.within) i
    goes task may _ story (untrusted checks cause) keeps i = (tt, (i.0, works_says e base b (what.Untrusted b cause) story tt (λ c at e. cc) i.1))
    goes task may _ story (refused cause refuses) keeps i = (tt, (i.0, works_says e base b (what.Refused b cause) story tt (λ c at e. cc) i.1))
    goes task may _ story (resumed resumes kind) keeps i = (tt, (i.0, works_says e base b (what.Resumed b kind) story tt (λ c at e. cc) i.1))
    goes task may _ story (given_up copies) keeps i = (tt, (i.0, works_says e base b (what.Abandoned b) story tt (λ c at e. cc) i.1))
    goes task may _ story (restored level) keeps i = (tt, (i.0, works_says e base b (what.Restored b level) story tt (λ c at e. cc) i.1))
    goes task may _ story (updated dynamic replaces svn) keeps i = (tt, (i.0, works_says e base b (what.Updated b dynamic svn) story tt (λ c at e. cc) i.1))
    goes task may _ story (recovery_updated copies svn floor) keeps i = (tt, (i.0, works_says e base b (what.RecoveryUpdated b svn) story tt (λ c at e. cc) i.1))
    goes task may _ story (cancelled cancels type id clear) keeps i = (tt, (i.0, works_says e base b (what.Cancelled type id) story tt (λ c at e. cc) i.1))

    ends : (task : Task) (move : Move) (story : Story) → Ended accepts b task ⊥ story move → Stands b story → InWork e base move story
    ends task _ story (released fuses m ready j known) i = refl
    ends task _ story (unready cause is) i = refl
    ends task _ story (no_image fuses cause other ready j known) i = refl
    ends task _ story (no_recovery expires fuses cause ready j known) i = refl
    ends task _ story (spent expires) i = refl

    table : (task : Task) → (Cancels task → IsUpdateTo b Cert e) → Table (InWork e base) (Stands b) accepts b task ⊥
    table task may = record { asks = λ which story own. tt; goes = goes task may; ends = ends task }

    pub brought_in_work : (story : Story) → IsSized story → IsSince e base story → AllSafe (InWork e base) (brought_up accepts b story) story
    brought_in_work story size since =
        brought_worked (InWork e base) (Stands b) accepts b ⊥ (table Brings (λ none. absurd none)) story size (λ none. absurd none) refl (size, held_works e base b story since)

    pub expired_in_work : (story : Story) → IsSized story → IsSince e base story → AllSafe (InWork e base) (expired accepts b story) story
    expired_in_work story size since =
        let level : ℕ = level_at b story in
        expired_worked (InWork e base) (Stands b) accepts b ⊥ (table Expires (λ none. absurd none)) story size (λ none. absurd none) tt refl
        (size, held_works e base b (noted (λ _. what.Expired b level) story) (since_says e base (λ _. what.Expired b level) story since tt))

    pub updating_in_work : (intent : Intent) (story : Story) → (Cancels (Updates intent) → IsUpdateTo b Cert e) → IsSized story → IsSince e base story → AllSafe (InWork e base) (updating accepts b intent story) story
    updating_in_work intent story may size since =
        updating_worked (InWork e base) (Stands b) accepts b ⊥ intent (table (Updates intent) may) story size (λ none. absurd none) refl (size, held_works e base b story since)
