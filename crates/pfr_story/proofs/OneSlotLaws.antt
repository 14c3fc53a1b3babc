-- A provision writes nothing but the slot that it takes.
use Rattle.std.proofs.Common.{◌≡◌, ◌∙◌, sym, ap, subst, arith, ℕ, ◌-◌, ◌*◌, ◌≤◌, suc, zero, List, [], ◌∷◌, ◌++◌, length, take, inl, inr, Result, Ok, Err}
use Rattle.std.proofs.lemmas.Bool.{false≢true}
use Rattle.std.proofs.lemmas.List.{append-nil}
use Rattle.std.proofs.Math.Seq.{take-append-add}
use Rattle.pfr_flash.specs.FlashState.{size_of}
use Rattle.pfr_flash.specs.declared.names.Device.TheVariants as device
use Rattle.pfr_flash.specs.Operation.{Operation, play, play_first}
use Rattle.pfr_flash.specs.Plan.{IsPart}
use Rattle.pfr_flash.specs.Range.{SameOutside, AllWithin}
use Rattle.pfr_flash.proofs.PlayLemmas.{play-append}
use Rattle.pfr_flash.proofs.PlanLemmas.{AllWithin-part}
use Rattle.pfr_flash.proofs.RangeLemmas.{SameOutside-play}
use Rattle.pfr_engine.specs.Acceptance.{Acceptance}
use Rattle.pfr_fuses.specs.Provisioning.{provision_plan}
use Rattle.pfr_fuses.specs.RootSlot.{IsSlot}
use Rattle.pfr_fuses.specs.declared.fuse_fail.FuseFail.{FuseFail}
use Rattle.pfr_fuses.specs.declared.root_slot.RootSlot.{RootSlot}
use Rattle.pfr_fuses.proofs.RootSlotLemmas.{length-slot}
use Rattle.pfr_script.specs.declared.event.Event.{Event}
use Rattle.pfr_script.specs.declared.event.Event.TheVariants as event
use Rattle.pfr_script.specs.Slots.{IsKnownSlot}
use Rattle.pfr_story.specs.Apart.{MayWorkOn}
use Rattle.pfr_story.specs.OneSlot.{WritesOneSlot, ProvisionsOneSlot}
use Rattle.pfr_story.specs.Promises.{AreOff, sizes_judged}
use Rattle.pfr_story.specs.Story.{Past, image_of}
use Rattle.pfr_story.specs.Turn.{Turn}
use Rattle.pfr_story.specs.World.{World, past_of, story_of}
use Rattle.pfr_story.proofs.ApartLaws.{Turn-apart}
use Rattle.pfr_story.proofs.Courses.{Turn-cases}
use Rattle.pfr_story.proofs.StoreLaws.{Stored, operations_in, judged_here, provision_stored}
use Rattle.pfr_story.proofs.Turns.{Turn-moved}

within_take : (from len m : ℕ) (ops : List Operation) → AllWithin from len ops → AllWithin from len (take m ops)
within_take from len zero ops all = tt
within_take from len (suc m) [] all = tt
within_take from len (suc m) (op ∷ ops) all = (all.0, within_take from len m ops all.1)

-- at each count behind those of before
part_outside : (from len n : ℕ) (plan : List Operation) (base new : Past) → AllWithin from len plan → Stored plan base new → length base.ops ≤ n → SameOutside from len (image_of base) (play_first n new.start new.ops)
part_outside from len n plan base new all s behind =
    let m : ℕ = n - length base.ops in
    let front : take n new.ops ≡ base.ops ++ take m s.added =
    ap (λ (ops : List Operation). take n ops) s.is ∙ ap (λ (k : ℕ). take k (base.ops ++ s.added)) (omega (arith, behind)) ∙ take-append-add base.ops s.added m in
    let image : play_first n new.start new.ops ≡ play (image_of base) (take m s.added) =
    ap (λ (start : List ℕ). play start (take n new.ops)) s.start ∙ ap (λ (ops : List Operation). play base.start ops) front ∙ play-append base.start base.ops (take m s.added) in
    subst (λ (there : List ℕ). SameOutside from len (image_of base) there) (sym image)
    (SameOutside-play from len (image_of base) (take m s.added) (within_take from len m s.added (AllWithin-part from len (image_of base) plan s.added all s.part)))

slot_within : (number : ℕ) (root : RootSlot) → IsSlot root → AllWithin (256 * number) 256 (provision_plan number root)
slot_within number root slot = (record { low = omega arith; high = omega (arith, length-slot root slot) }, (record { low = omega arith; high = omega arith }, tt))

none_added : (base new : Past) → Stored [] base new → new.ops ≡ base.ops
none_added base new s = by_added s.added s.part s.is
  where
    by_added : (added : List Operation) → IsPart (image_of base) [] added → new.ops ≡ base.ops ++ added → new.ops ≡ base.ops
    by_added [] part is = is ∙ append-nil base.ops
    by_added (op ∷ added) part is = absurd part

module _ (root : RootSlot) (old new : World) (slot : IsSlot root) (stored : Stored (operations_in root (judged_here root (story_of old))) (past_of old.nv) (past_of new.nv)) where
  stored_as : (judged : Result ℕ FuseFail) → sizes_judged root old ≡ judged → Stored (operations_in root judged) (past_of old.nv) (past_of new.nv)
  stored_as judged j = subst (λ (r : Result ℕ FuseFail). Stored (operations_in root r) (past_of old.nv) (past_of new.nv)) j stored

  writes : WritesOneSlot root old new
  writes = record {
    others = λ number j n behind before. part_outside (256 * number) 256 n (provision_plan number root) (past_of old.nv) (past_of new.nv) (slot_within number root slot) (stored_as (Ok number) j) behind;
    refused = λ cause j. none_added (past_of old.nv) (past_of new.nv) (stored_as (Err cause) j);
  }

-- banks that are off aren't in work
no_work : (root : RootSlot) (old : World) → AreOff old → ¬ MayWorkOn (event.Provision root) old device.Nv
no_work root old off may = elim may [
  | inl on ↦ on.0 off
  | inr work ↦ elim work.1 [ inl check ↦ elim check [ inl power ↦ power | inr update ↦ update.1 ] | inr expiry ↦ expiry.1 ]
]

still_writes : (root : RootSlot) (old new : World) → Stored [] (past_of old.nv) (past_of new.nv) → WritesOneSlot root old new
still_writes root old new none = record {
  others = λ number j n behind before. part_outside (256 * number) 256 n [] (past_of old.nv) (past_of new.nv) tt none behind;
  refused = λ cause j. none_added (past_of old.nv) (past_of new.nv) none;
}

-- A provision writes nothing but the slot that it takes.
pub Turn-one_slot : (accepts : Acceptance) (e : Event) (old new : World) → size_of old.nv ≡ 32768 → (¬ AreOff old → IsKnownSlot e) → Turn accepts e old new → ProvisionsOneSlot e old new
Turn-one_slot accepts event.Power old new size slot t = tt
Turn-one_slot accepts event.Off old new size slot t = tt
Turn-one_slot accepts (event.Provision root) old new size slot t = elim (Turn-cases accepts (event.Provision root) old new t) [
  | inl idle ↦
      let same = Turn-apart accepts (event.Provision root) old new size t device.Nv (no_work root old idle.0) in
      still_writes root old new (record { start = (Turn-moved accepts (event.Provision root) old new t).nv.start; added = []; is = same ∙ sym (append-nil old.nv.ops); part = tt })
  | inr on ↦ writes root old new (slot (λ off. false≢true (sym on.0 ∙ off))) (provision_stored root old new on.1)
]
Turn-one_slot accepts (event.Spi b frame) old new size slot t = tt
Turn-one_slot accepts (event.Smbus b frame) old new size slot t = tt
Turn-one_slot accepts (event.Tick n) old new size slot t = tt
Turn-one_slot accepts (event.Boot b pass) old new size slot t = tt
Turn-one_slot accepts (event.Update b intent) old new size slot t = tt
