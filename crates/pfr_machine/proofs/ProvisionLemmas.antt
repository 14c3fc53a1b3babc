-- How the platform is provisioned.
use Rattle.std.proofs.Common.{◌≡◌, refl, subst, ℕ, List, [], ◌∷◌, ◌++◌, Result, Ok, Err, inl, inr}
use Rattle.pfr_flash.specs.declared.flash.FlashFail.{FlashFail}
use Rattle.pfr_flash.specs.declared.flash.FlashFail.TheVariants.{Fault, Lost}
use Rattle.pfr_flash.specs.declared.names.Bank.{Bank}
use Rattle.pfr_flash.specs.declared.names.Bank.TheVariants as bank
use Rattle.pfr_flash.specs.declared.names.Device.{Device}
use Rattle.pfr_flash.specs.declared.names.Device.TheVariants as device
use Rattle.pfr_fuses.specs.Provisioning.{provision_plan}
use Rattle.pfr_fuses.specs.declared.fuse_fail.FuseFail.{FuseFail}
use Rattle.pfr_fuses.specs.declared.root_slot.RootSlot.{RootSlot}
use Rattle.pfr_report.specs.declared.note.LockWhy.TheVariants.{StoreFault}
use Rattle.pfr_report.specs.declared.note.What.TheVariants.{Provisioned, ProvisionRefused, Locked}
use Rattle.pfr_story.specs.Story.{Move, Says, called, says}
use Rattle.pfr_story.specs.World.{World, story_of}
use Rattle.pfr_story.specs.Goes.{Ran, Stopped}
use Rattle.pfr_story.specs.Course.{Follows, lost}
use Rattle.pfr_story.specs.Plans.{asks_store, provisioned, provisioned_in, refusal_of}
use Rattle.pfr_story.specs.Promises.{sizes_judged}
use Rattle.pfr_story.specs.Standing.{Standing, standing_after}
use Rattle.pfr_story.specs.Turn.{provision_stretch, provision_course}
use Rattle.pfr_story.proofs.Courses.{Steps-ended}
use Rattle.pfr_story.proofs.Sequence.{Ran-append, Ran-refl, Stopped-first, Stopped-next}
use Rattle.pfr_story.proofs.WorldLaws.{AllMoved-refl, NoneLost-refl, NoneFailed-refl}
use Rattle.pfr_machine.specs.Provisions.{provision_ops, provision_note}

-- what is noted leaves the banks as they stand
pub note_keeps : (j : Result ℕ FuseFail) (which : Bank) (s : Standing) → standing_after which (provision_note j) s ≡ s
note_keeps (Ok number) which s = refl
note_keeps (Err cause) which s = refl

-- ---- the plan
-- a call that only asks the store
asked : (w : World) → Ran (called device.Nv []) w w
asked w = record { is = refl; moved = AllMoved-refl w; none_lost = NoneLost-refl w; none_failed = NoneFailed-refl w }

tried_in : (what : RootSlot) (j : Result ℕ FuseFail) (old mid new : World) → Ran (called device.Nv (provision_ops what j)) old mid → Ran (Says (λ at. provision_note j) ∷ []) mid new
    → Ran (called device.Nv [] ++ provisioned_in what j (story_of old)) old new
tried_in what (Ok number) old mid new p q =
    let ops = called device.Nv (provision_plan number what) in
    let note = Says (λ at. Provisioned) ∷ [] in
    Ran-append (called device.Nv []) (ops ++ note) old old new (asked old) (Ran-append ops note old mid new p q)
tried_in what (Err cause) old mid new p q = Ran-append (called device.Nv []) (Says (λ at. ProvisionRefused (refusal_of cause)) ∷ []) old mid new p q

pub tried : (what : RootSlot) (old mid new : World) → Ran (called device.Nv (provision_ops what (sizes_judged what old))) old mid → Ran (Says (λ at. provision_note (sizes_judged what old)) ∷ []) mid new
    → Ran (provisioned what (story_of old)) old new
tried what old mid new p q = tried_in what (sizes_judged what old) old mid new p q

short_in : (what : RootSlot) (j : Result ℕ FuseFail) (which : Device) (fail : FlashFail) (old new : World) → Stopped (called device.Nv (provision_ops what j)) which fail old new
    → Stopped (called device.Nv [] ++ provisioned_in what j (story_of old)) which fail old new
short_in what (Ok number) which fail old new p =
    Stopped-next asks_store (λ story. provisioned_in what (Ok number) story) which fail old old new (asked old)
    (Stopped-first (λ story. called device.Nv (provision_plan number what)) (says (λ at. Provisioned)) which fail old new p)
short_in what (Err cause) which fail old new p = Stopped-first asks_store (λ story. provisioned_in what (Err cause) story) which fail old new p

pub tried_short : (what : RootSlot) (which : Device) (fail : FlashFail) (old new : World) → Stopped (called device.Nv (provision_ops what (sizes_judged what old))) which fail old new
    → Stopped (provisioned what (story_of old)) which fail old new
tried_short what which fail old new p = short_in what (sizes_judged what old) which fail old new p

-- ---- the step
stopped_as : (moves : List Move) (which : Device) (found end : FlashFail) (old new : World) → found ≡ end → Stopped moves which found old new → Stopped moves which end old new
stopped_as moves which found end old new e s = subst (λ (x : FlashFail). Stopped moves which x old new) e s

pub crossed : (what : RootSlot) (old new : World) → Ran (provisioned what (story_of old)) old new → Follows (provision_course what) old new
crossed what old new p = (old, Ran-refl old, inl (new, p, Ran-refl new))

pub locked : (what : RootSlot) (which : Device) (fail : FlashFail) (old mid first new : World) → fail ≡ Fault → Stopped (provisioned what (story_of old)) which fail old mid
    → Ran (Says (Locked bank.Bmc StoreFault) ∷ []) mid first → Ran (Says (Locked bank.Pch StoreFault) ∷ []) first new → Follows (provision_course what) old new
locked what which fail old mid first new f s p q = (
  old,
  Ran-refl old,
  Steps-ended (provision_stretch what) [] old new refl (record {
    which = which;
    at = mid;
    stopped = stopped_as (provisioned what (story_of old)) which fail Fault old mid f s;
    noted = Ran-append (Says (Locked bank.Bmc StoreFault) ∷ []) (Says (Locked bank.Pch StoreFault) ∷ []) mid first new p q;
  }),
)

pub cut_off : (what : RootSlot) (which : Device) (fail : FlashFail) (old mid new : World) → fail ≡ Lost → Stopped (provisioned what (story_of old)) which fail old mid → Ran (lost which) mid new
    → Follows (provision_course what) old new
cut_off what which fail old mid new f s p = (
  old,
  Ran-refl old,
  inr (inr (record { which = which; at = mid; stopped = stopped_as (provisioned what (story_of old)) which fail Lost old mid f s; noted = p })),
)
