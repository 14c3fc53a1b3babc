-- How the recovery area of a bank is updated, and how a key is cancelled.
use Rattle.std.proofs.Common.{◌≡◌, ◌∙◌, refl, sym, ap, subst, ◌↔◌, ◌++◌, append_assoc, ℕ, Bool, true, false, IsTrue, List, [], length, arith, Option, Result, Ok, Err, IfOk}
use Rattle.std.specs.Cmp.Lexicographic.{same_text, other_text}
use Rattle.pfr_flash.specs.Bytes.{AreBytes}
use Rattle.pfr_flash.specs.FlashState.{FlashState, now, size_of}
use Rattle.pfr_flash.specs.Holding.{HoldsBytes}
use Rattle.pfr_flash.specs.Layout.{IsValidLayout}
use Rattle.pfr_flash.specs.Reading.{EndsAt}
use Rattle.pfr_flash.specs.declared.flash.FlashFail.{FlashFail}
use Rattle.pfr_flash.specs.declared.layout.Layout.{Layout}
use Rattle.pfr_flash.specs.declared.names.Bank.{Bank}
use Rattle.pfr_flash.specs.declared.names.Device.{Device}
use Rattle.pfr_flash.specs.declared.names.Device.TheVariants as device
use Rattle.pfr_flash.proofs.HoldingLemmas.{now_bytes}
use Rattle.pfr_engine.specs.Acceptance.{Acceptance}
use Rattle.pfr_fuses.specs.Changes.{cancellation}
use Rattle.pfr_fuses.specs.FusesState.{FusesState}
use Rattle.pfr_fuses.specs.RootSlot.{layout_of}
use Rattle.pfr_fuses.specs.declared.root_slot.RootSlot.{RootSlot}
use Rattle.pfr_manifest.specs.Manifest.{IsManifestOf}
use Rattle.pfr_manifest.specs.Spelling.{manifest_bytes}
use Rattle.pfr_manifest.specs.declared.manifest.Manifest.{Manifest}
use Rattle.pfr_capsule.specs.CapsuleState.{CapsuleState}
use Rattle.pfr_auth.specs.declared.areas.Area.TheVariants.{Staging}
use Rattle.pfr_auth.specs.declared.fail.ActiveFail.{ActiveFail}
use Rattle.pfr_auth.proofs.TrustedLaw.{judged_parts, signed_holds}
use Rattle.pfr_cert.specs.declared.cert.Cert.{Cert}
use Rattle.pfr_cert.specs.declared.fail.CertFail.{CertFail}
use Rattle.pfr_jobs.specs.LogState.{LogState, is_spent, is_spent_in, log_of}
use Rattle.pfr_report.specs.declared.note.Refusal.TheVariants as refusing
use Rattle.pfr_report.specs.declared.note.What.TheVariants.{Abandoned, Cancelled, RecoveryUpdated}
use Rattle.pfr_story.specs.Goes.{Goes, Ran}
use Rattle.pfr_story.specs.JobPlans.{recovery_job}
use Rattle.pfr_story.specs.Plans.{asks, asks_store, checked_then, judged_active, judged_staging, mine, store}
use Rattle.pfr_story.specs.Story.{Story, Move, Plan, after, called, device_of, says, then}
use Rattle.pfr_story.specs.UpdatePlans.{by_cert, by_manifest, by_new_recovery, by_room, by_use, cancelled_key, has_manifest, judged_cert, key_cancelled, refused_so, spell_same}
use Rattle.pfr_story.specs.World.{World, state_at, story_of}
use Rattle.pfr_story.specs.declared.stop.Stop.{Stop}
use Rattle.pfr_story.proofs.Sequence.{after-append}
use Rattle.pfr_machine.specs.Cancelling.{cleared_by}
use Rattle.pfr_machine.specs.Ready.{EndsSeated, HaltsIn}
use Rattle.pfr_machine.specs.Worlds.{DeskState, Stays}
use Rattle.pfr_machine.specs.declared.desk.Halt.{Halt}
use Rattle.pfr_machine.proofs.CapsuleLemmas.{judged_spelled}
use Rattle.pfr_machine.proofs.EndsLemmas.{ends_as, ends_most, ends_then, halts_called, halts_first, image_now}

-- what was read through a loan of the flash, as the flash
pub lent : (failed told : Option FlashFail) (read mine later : FlashState) → failed ≡ told → read ≡ mine → EndsAt failed read later → EndsAt told mine later
lent failed told read mine later f e h = subst (λ (d : FlashState). EndsAt told d later) e (subst (λ (x : Option FlashFail). EndsAt x read later) f h)

-- ---- devices keep their sizes, so a layout stays valid
size_behind : (which : Device) (moves : List Move) (old new : World) → Ran moves old new → size_of (state_at which new) ≡ size_of (state_at which old)
size_behind device.Bmc moves old new p = ap (λ (bytes : List ℕ). length bytes) p.moved.bmc.start
size_behind device.Pch moves old new p = ap (λ (bytes : List ℕ). length bytes) p.moved.pch.start
size_behind device.Nv moves old new p = ap (λ (bytes : List ℕ). length bytes) p.moved.nv.start

pub valid_behind : (root : RootSlot) (old mid : DeskState) {moves : List Move} → Ran moves old.world mid.world → mid.bank ≡ old.bank → IsValidLayout (layout_of root old.bank) (size_of (state_at (device_of old.bank) old.world))
    → IsValidLayout (layout_of root mid.bank) (size_of (state_at (device_of mid.bank) mid.world))
valid_behind root old mid {moves} p same valid =
    subst (λ (b : Bank). IsValidLayout (layout_of root b) (size_of (state_at (device_of b) mid.world))) (sym same)
    (subst (λ (n : ℕ). IsValidLayout (layout_of root old.bank) n) (sym (size_behind (device_of old.bank) moves old.world mid.world p)) valid)

-- ---- manifests
-- whether the same bytes spell both
by_texts : (m n : Manifest) (r s : Bool) → s ≡ spell_same m n → (IsTrue r ↔ manifest_bytes m ≡ manifest_bytes n) → r ≡ s
by_texts m n true true e both = refl
by_texts m n false false e both = refl
by_texts m n true false e both = absurd (other_text (manifest_bytes m) (manifest_bytes n) e (both.0 refl))
by_texts m n false true e both = both.1 (same_text (manifest_bytes m) (manifest_bytes n) e)

-- an image is trusted by a manifest, and it is tested whether that is a capsule's
pub tested : (capsule : CapsuleState) (image : Result Manifest ActiveFail) (m n : Manifest) (layout : Layout) (size : ℕ) (r : Bool) → image ≡ Ok m → n ≡ capsule.manifest
    → (IsManifestOf (manifest_bytes m) m layout size → IsManifestOf (manifest_bytes n) n layout size → (IsTrue r ↔ manifest_bytes m ≡ manifest_bytes n))
    → IfOk image (λ x. IsManifestOf (manifest_bytes x) x layout size) → IsManifestOf (manifest_bytes capsule.manifest) capsule.manifest layout size → r ≡ has_manifest capsule image
tested capsule image m n layout size r is same test spelled also =
    let mine : IsManifestOf (manifest_bytes m) m layout size = subst (λ (x : Result Manifest ActiveFail). IfOk x (λ y. IsManifestOf (manifest_bytes y) y layout size)) is spelled in
    let its : IsManifestOf (manifest_bytes n) n layout size = subst (λ (x : Manifest). IsManifestOf (manifest_bytes x) x layout size) (sym same) also in
    by_texts m n r (spell_same m n) refl (test mine its)
    ∙ (ap (λ (x : Manifest). spell_same m x) same ∙ ap (λ (x : Result Manifest ActiveFail). has_manifest capsule x) (sym is))

module _ (accepts : Acceptance) (fuses : FusesState) (old : DeskState) (holds : HoldsBytes (state_at (device_of old.bank) old.world)) where
  here_bytes : AreBytes (mine old.bank (story_of old.world))
  here_bytes = subst (λ (bytes : List ℕ). AreBytes bytes) (sym (image_now old.bank old.world)) (now_bytes (state_at (device_of old.bank) old.world) holds)

  -- the manifest of an image that is trusted is spelled by its bytes
  pub image_spelled : (image : Result Manifest ActiveFail) → image ≡ judged_active accepts old.bank fuses (story_of old.world)
      → IfOk image (λ m. IsManifestOf (manifest_bytes m) m (layout_of fuses.provision old.bank) (length (mine old.bank (story_of old.world))))
  image_spelled (Ok m) e =
      let j = judged_parts (mine old.bank (story_of old.world)) old.bank accepts fuses m (sym e) in
      let s = signed_holds (mine old.bank (story_of old.world)) old.bank fuses accepts m here_bytes j.0 in
      subst (λ (text : List ℕ). IsManifestOf text m (layout_of fuses.provision old.bank) (length (mine old.bank (story_of old.world)))) s.spelled.spelled s.spelled
  image_spelled (Err cause) e = tt

  pub staged_spelled : (capsule : CapsuleState) → judged_staging accepts old.bank fuses (story_of old.world) ≡ Ok capsule
      → IsManifestOf (manifest_bytes capsule.manifest) capsule.manifest (layout_of fuses.provision old.bank) (length (mine old.bank (story_of old.world)))
  staged_spelled capsule good = judged_spelled Staging old.bank (mine old.bank (story_of old.world)) fuses accepts capsule here_bytes good

module _ (accepts : Acceptance) (fuses : FusesState) (capsule : CapsuleState) where
  abbrev renewed : Bank → Plan
  renewed b = recovery_job (Abandoned b) (λ svn. RecoveryUpdated b svn) accepts b fuses capsule

  -- ---- the recovery area is replaced, and the bank checked
  pub renewed_ends : {T F : Type 0} (old mid : DeskState) (answer : Result T Stop) (r : Result World (Halt F)) → Ran (renewed old.bank (story_of old.world)) old.world mid.world → Stays 1 old mid answer
      → EndsSeated (checked_then accepts mid.bank) 3 mid r → EndsSeated (by_room false accepts old.bank fuses capsule) 4 old r
  renewed_ends old mid answer r p s e =
      ends_then (renewed old.bank) (checked_then accepts old.bank) 1 3 old mid answer r p s (subst (λ (b : Bank). EndsSeated (checked_then accepts b) 3 mid r) s.bank e)

  pub renewed_halted : {T : Type 0} (old : DeskState) (stop : Stop) (new : DeskState) → Goes {T = T} (renewed old.bank) old.world new.world (Err stop) → Stays {T = T} 1 old new (Err stop)
      → HaltsIn (by_room false accepts old.bank fuses capsule) 4 old stop new
  renewed_halted old stop new g s = halts_first (renewed old.bank) (checked_then accepts old.bank) 1 4 old stop new (omega arith) (halts_called (renewed old.bank) 1 old stop new g s)

  -- ---- the log was loaded
  pub room_ends : {T F : Type 0} (old mid : DeskState) (answer : Result T Stop) (r : Result World (Halt F)) (log : LogState) → log ≡ log_of (now mid.world.nv) old.bank → Ran (asks_store (story_of old.world)) old.world mid.world
      → Stays 0 old mid answer → EndsSeated (by_room (is_spent_in log) accepts mid.bank fuses capsule) 4 mid r → EndsSeated (by_manifest true accepts old.bank fuses capsule) 4 old r
  room_ends old mid answer r log found p s e =
      let next : Plan = λ story. by_room (is_spent (store story) old.bank) accepts old.bank fuses capsule story in
      ends_then asks_store next 0 4 old mid answer r p s
      (ends_as (by_room (is_spent_in log) accepts old.bank fuses capsule) next 4 mid r (ap (λ (l : LogState). by_room (is_spent_in l) accepts old.bank fuses capsule (story_of mid.world)) found)
      (subst (λ (b : Bank). EndsSeated (by_room (is_spent_in log) accepts b fuses capsule) 4 mid r) s.bank e))

  pub room_halted : {T : Type 0} (old : DeskState) (stop : Stop) (new : DeskState) → Goes {T = T} asks_store old.world new.world (Err stop) → Stays {T = T} 0 old new (Err stop)
      → HaltsIn (by_manifest true accepts old.bank fuses capsule) 4 old stop new
  room_halted old stop new g s =
      halts_first asks_store (λ story. by_room (is_spent (store story) old.bank) accepts old.bank fuses capsule story) 0 4 old stop new (omega arith) (halts_called asks_store 0 old stop new g s)

  -- ---- the active image was judged
  pub manifest_ends : {T F : Type 0} (old mid : DeskState) (answer : Result T Stop) (r : Result World (Halt F)) (same : Bool) (image : Result Manifest ActiveFail) → same ≡ has_manifest capsule image
      → image ≡ judged_active accepts old.bank fuses (story_of old.world) → Ran (asks old.bank (story_of old.world)) old.world mid.world → Stays 0 old mid answer
      → EndsSeated (by_manifest same accepts mid.bank fuses capsule) 4 mid r → EndsSeated (by_new_recovery accepts old.bank fuses (Ok capsule)) 4 old r
  manifest_ends old mid answer r same image told is p s e =
      let next : Plan = λ story. by_manifest (has_manifest capsule (judged_active accepts old.bank fuses story)) accepts old.bank fuses capsule story in
      let still : image ≡ judged_active accepts old.bank fuses (story_of mid.world) = is ∙ ap (λ (t : Story). judged_active accepts old.bank fuses t) (sym p.is) in
      let test : same ≡ has_manifest capsule (judged_active accepts old.bank fuses (story_of mid.world)) = told ∙ ap (λ (x : Result Manifest ActiveFail). has_manifest capsule x) still in
      ends_then (asks old.bank) next 0 4 old mid answer r p s
      (ends_as (by_manifest same accepts old.bank fuses capsule) next 4 mid r (ap (λ (t : Bool). by_manifest t accepts old.bank fuses capsule (story_of mid.world)) test)
      (subst (λ (b : Bank). EndsSeated (by_manifest same accepts b fuses capsule) 4 mid r) s.bank e))

  pub manifest_halted : {T : Type 0} (old : DeskState) (stop : Stop) (new : DeskState) → Goes {T = T} (asks old.bank) old.world new.world (Err stop) → Stays {T = T} 0 old new (Err stop)
      → HaltsIn (by_new_recovery accepts old.bank fuses (Ok capsule)) 4 old stop new
  manifest_halted old stop new g s =
      halts_first (asks old.bank) (λ story. by_manifest (has_manifest capsule (judged_active accepts old.bank fuses story)) accepts old.bank fuses capsule story) 0 4 old stop new (omega arith) (halts_called (asks old.bank) 0 old stop new g s)

-- ---- one plan, and then two others
then_nested : (a b c : Plan) (story : Story) → then a (then b c) story ≡ then (then a b) c story
then_nested a b c story =
    let mid : Story = after (a story) story in
    sym (append_assoc (a story) (b mid) (c (after (b mid) mid))) ∙ ap (λ (s : Story). (a story ++ b mid) ++ c s) (sym (after-append (a story) (b mid) story))

module _ (accepts : Acceptance) (fuses : FusesState) where
  -- ---- a certificate was read
  pub cert_ends : {T F : Type 0} (old mid : DeskState) (answer : Result T Stop) (r : Result World (Halt F)) (found : Result Cert CertFail) → found ≡ judged_cert accepts old.bank fuses (story_of old.world)
      → Ran (asks old.bank (story_of old.world)) old.world mid.world → Stays 0 old mid answer → EndsSeated (by_cert accepts mid.bank fuses found) 4 mid r → EndsSeated (key_cancelled accepts old.bank fuses) 5 old r
  cert_ends old mid answer r found is p s e =
      let next : Plan = λ story. by_cert accepts old.bank fuses (judged_cert accepts old.bank fuses story) story in
      let still : found ≡ judged_cert accepts old.bank fuses (story_of mid.world) = is ∙ ap (λ (t : Story). judged_cert accepts old.bank fuses t) (sym p.is) in
      ends_most (key_cancelled accepts old.bank fuses) 4 5 old r (omega arith)
      (ends_then (asks old.bank) next 0 4 old mid answer r p s
      (ends_as (by_cert accepts old.bank fuses found) next 4 mid r (ap (λ (x : Result Cert CertFail). by_cert accepts old.bank fuses x (story_of mid.world)) still)
      (subst (λ (b : Bank). EndsSeated (by_cert accepts b fuses found) 4 mid r) s.bank e)))

  pub cert_halted : {T : Type 0} (old : DeskState) (stop : Stop) (new : DeskState) → Goes {T = T} (asks old.bank) old.world new.world (Err stop) → Stays {T = T} 0 old new (Err stop)
      → HaltsIn (key_cancelled accepts old.bank fuses) 5 old stop new
  cert_halted old stop new g s =
      halts_first (asks old.bank) (λ story. by_cert accepts old.bank fuses (judged_cert accepts old.bank fuses story) story) 0 5 old stop new (omega arith) (halts_called (asks old.bank) 0 old stop new g s)

  -- ---- its key was cancelled, or can't be
  module _ (cert : Cert) where
    abbrev told : Plan
    told = says (λ _. Cancelled cert.ty cert.id)

    abbrev cleared : Plan
    cleared story = called device.Nv (cancellation cert.ty cert.id)

    pub cleared_ends : {T F : Type 0} (old mid : DeskState) (answer : Result T Stop) (r : Result World (Halt F)) (judged : Result (Unit {0}) CertFail) → Ok tt ≡ judged → Ran (cleared_by cert judged (story_of old.world)) old.world mid.world
        → Stays 0 old mid answer → EndsSeated (then told (checked_then accepts mid.bank)) 4 mid r → EndsSeated (by_use accepts old.bank fuses cert judged) 4 old r
    cleared_ends old mid answer r (Ok free) is p s e =
        ends_as (then cleared (then told (checked_then accepts old.bank))) (then (cancelled_key cert) (checked_then accepts old.bank)) 4 old r (then_nested cleared told (checked_then accepts old.bank) (story_of old.world))
        (ends_then cleared (then told (checked_then accepts old.bank)) 0 4 old mid answer r p s (subst (λ (b : Bank). EndsSeated (then told (checked_then accepts b)) 4 mid r) s.bank e))
    cleared_ends old mid answer r (Err cause) is p s e = absurd cc

    pub kept_ends : {T F : Type 0} (later : FusesState) (old mid : DeskState) (answer : Result T Stop) (r : Result World (Halt F)) (judged : Result (Unit {0}) CertFail) (cause : CertFail) → Err cause ≡ judged → later ≡ fuses
        → Ran (cleared_by cert judged (story_of old.world)) old.world mid.world → Stays 0 old mid answer → EndsSeated (refused_so accepts mid.bank later (refusing.Cert cause)) 4 mid r → EndsSeated (by_use accepts old.bank fuses cert judged) 4 old r
    kept_ends later old mid answer r (Ok free) cause is left p s e = absurd cc
    kept_ends later old mid answer r (Err other) cause is left p s e =
        let one : cause ≡ other = cc in
        ends_then (λ story. []) (refused_so accepts old.bank fuses (refusing.Cert other)) 0 4 old mid answer r p s
        (subst (λ (b : Bank). EndsSeated (refused_so accepts b fuses (refusing.Cert other)) 4 mid r) s.bank
        (subst (λ (f : FusesState). EndsSeated (refused_so accepts mid.bank f (refusing.Cert other)) 4 mid r) left
        (subst (λ (x : CertFail). EndsSeated (refused_so accepts mid.bank later (refusing.Cert x)) 4 mid r) one e)))

    pub cleared_halted : {T : Type 0} (old : DeskState) (stop : Stop) (new : DeskState) (judged : Result (Unit {0}) CertFail) → Goes {T = T} (cleared_by cert judged) old.world new.world (Err stop) → Stays {T = T} 0 old new (Err stop)
        → HaltsIn (by_use accepts old.bank fuses cert judged) 4 old stop new
    cleared_halted old stop new (Ok free) g s =
        halts_first (cancelled_key cert) (checked_then accepts old.bank) 0 4 old stop new (omega arith)
        (halts_first cleared told 0 0 old stop new (omega arith) (halts_called cleared 0 old stop new g s))
    cleared_halted old stop new (Err cause) g s =
        halts_first (λ story. []) (refused_so accepts old.bank fuses (refusing.Cert cause)) 0 4 old stop new (omega arith) (halts_called (λ story. []) 0 old stop new g s)
