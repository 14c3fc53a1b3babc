-- What a provision does to the store.
use Rattle.std.proofs.Common.{◌≡◌, refl, sym, ap, subst, ℕ, List, [], ◌∷◌, ◌++◌, length, Result, Ok, Err}
use Rattle.std.proofs.lemmas.List.{append-nil}
use Rattle.pfr_flash.specs.Operation.{Operation}
use Rattle.pfr_flash.specs.Plan.{IsPart}
use Rattle.pfr_flash.specs.declared.names.Device.TheVariants as device
use Rattle.pfr_flash.proofs.PlanLemmas.{IsPart-none}
use Rattle.pfr_fuses.specs.Provisioning.{judge_provision, provision_plan}
use Rattle.pfr_fuses.specs.declared.fuse_fail.FuseFail.{FuseFail}
use Rattle.pfr_fuses.specs.declared.root_slot.RootSlot.{RootSlot}
use Rattle.pfr_script.specs.declared.event.Event.TheVariants as event
use Rattle.pfr_report.specs.declared.note.What.TheVariants as what
use Rattle.pfr_story.specs.Story.{Past, Story, Says, Does, Asks, after, with_op, image_of, all_do, called}
use Rattle.pfr_story.specs.World.{World, past_of, story_of}
use Rattle.pfr_story.specs.Safety.{Rule, AllSafe, Keeps}
use Rattle.pfr_story.specs.Plans.{store, provisioned_in}
use Rattle.pfr_story.specs.Course.{Follows}
use Rattle.pfr_story.specs.Turn.{provision_course, begun}
use Rattle.pfr_story.proofs.SafetyLaws.{AllSafe-append, past_did, called_safe}
use Rattle.pfr_story.proofs.Traces.{Traced, Traced-keeps}
use Rattle.pfr_story.proofs.StepTraces.{provision_by}
use Rattle.pfr_story.proofs.BringRules.{Any}

-- the store did these operations, or a front of them, the last perhaps torn
pub record Stored (plan : List Operation) (old new : Past) : Type 0 where
  pub start : new.start ≡ old.start
  pub added : List Operation
  pub is : new.ops ≡ old.ops ++ added
  pub part : IsPart (image_of old) plan added

pub Stored-none : (plan : List Operation) (old : Past) → Stored plan old old
Stored-none plan old = record { start = refl; added = []; is = sym (append-nil old.ops); part = IsPart-none (image_of old) plan }

-- each operation of the store leaves it so
abbrev Storing : List Operation → Past → Rule
Storing plan base (Says w) story = Unit {0}
Storing plan base (Asks which) story = Unit {0}
Storing plan base (Does device.Bmc op) story = Unit {0}
Storing plan base (Does device.Pch op) story = Unit {0}
Storing plan base (Does device.Nv op) story = Stored plan base (with_op story.nv op)

module _ (plan : List Operation) (base : Past) where
  Storing-keeps : Keeps (Storing plan base) (λ story. Stored plan base story.nv)
  Storing-keeps (Says w) story g p = p
  Storing-keeps (Asks which) story g p = p
  Storing-keeps (Does device.Bmc op) story g p = p
  Storing-keeps (Does device.Pch op) story g p = p
  Storing-keeps (Does device.Nv op) story g p = g

  call_stores : (ops : List Operation) (story : Story) → ops ≡ plan → story.nv ≡ base → AllSafe (Storing plan base) (called device.Nv ops) story
  call_stores ops story e f =
      subst (λ (p : List Operation). AllSafe (Storing p base) (called device.Nv ops) story) e (subst (λ (b : Past). AllSafe (Storing ops b) (called device.Nv ops) story) f here)
    where
      stored : (added : List Operation) → IsPart (image_of story.nv) ops added → Stored ops story.nv (after (all_do device.Nv added) story).nv
      stored added part =
          subst (λ (p : Past). Stored ops story.nv p) (sym (past_did device.Nv added story)) (record { start = refl; added = added; is = refl; part = part })

      here : AllSafe (Storing ops story.nv) (called device.Nv ops) story
      here = called_safe (Storing ops story.nv) device.Nv (λ later. Stored ops story.nv later.nv) (λ op later p q. q) (λ later. tt) ops story (λ added part. stored added part)

  -- the store after a trace
  stored_traced : (old new : World) → Traced (Storing plan base) old new → past_of old.nv ≡ base → Stored plan base (past_of new.nv)
  stored_traced old new t e =
      Traced-keeps (Storing plan base) (λ story. Stored plan base story.nv) Storing-keeps old new t (subst (λ (p : Past). Stored plan base p) (sym e) (Stored-none plan base))

-- ---- a provision
abbrev pub operations_in : RootSlot → Result ℕ FuseFail → List Operation
operations_in root (Ok number) = provision_plan number root
operations_in root (Err cause) = []

abbrev pub judged_here : RootSlot → Story → Result ℕ FuseFail
judged_here root story = judge_provision (store story) root (length story.bmc.start) (length story.pch.start)

provision_stores : (plan : List Operation) (base : Past) (root : RootSlot) (r : Result ℕ FuseFail) (story : Story) → operations_in root r ≡ plan → story.nv ≡ base
    → AllSafe (Storing plan base) (provisioned_in root r story) story
provision_stores plan base root (Ok number) story e f =
    AllSafe-append (Storing plan base) (called device.Nv (provision_plan number root)) (Says (λ _. what.Provisioned) ∷ []) story
    (call_stores plan base (provision_plan number root) story e f) (tt, tt)
provision_stores plan base root (Err cause) story e f = (tt, tt)

-- What a provision does to the store: its plan, or a front of it.
pub provision_stored : (root : RootSlot) (old new : World) → Follows (provision_course root) (begun (event.Provision root) old) new → Stored (operations_in root (judged_here root (story_of old))) (past_of old.nv) (past_of new.nv)
provision_stored root old new t =
    let base : Past = past_of old.nv in
    let first : World = begun (event.Provision root) old in
    let plan : List Operation = operations_in root (judged_here root (story_of old)) in
    stored_traced plan base first new
    (provision_by (Storing plan base) (λ which story. tt) first new Any (λ w moved. tt) (λ story. story ≡ story_of first) root (λ b which story. tt)
    (λ story e. (tt, provision_stores plan base root (judged_here root story) story (ap (λ (s : Story). operations_in root (judged_here root s)) e) (ap (λ (s : Story). s.nv) e))) refl t) refl
