-- How a bank is checked, and how its active image is made anew.
use Rattle.std.proofs.Common.{◌≡◌, ◌∙◌, refl, sym, ap, subst, ℕ, ◌+◌, Bool, List, length, arith, Result, Ok, Err, IsOk}
use Rattle.pfr_flash.specs.Bytes.{AreBytes}
use Rattle.pfr_flash.specs.FlashState.{now, size_of}
use Rattle.pfr_flash.specs.Holding.{HoldsBytes}
use Rattle.pfr_flash.specs.Layout.{IsBankSize, IsValidLayout}
use Rattle.pfr_flash.specs.declared.layout.Layout.{Layout}
use Rattle.pfr_flash.specs.declared.names.Bank.{Bank}
use Rattle.pfr_flash.specs.declared.names.Bank.TheVariants as bank
use Rattle.pfr_flash.proofs.HoldingLemmas.{now_bytes}
use Rattle.pfr_engine.specs.Acceptance.{Acceptance}
use Rattle.pfr_fuses.specs.FusesState.{FusesState}
use Rattle.pfr_fuses.specs.FusesOf.{fuses_of}
use Rattle.pfr_fuses.specs.RootSlot.{layout_of}
use Rattle.pfr_manifest.specs.declared.manifest.Manifest.{Manifest}
use Rattle.pfr_capsule.specs.CapsuleState.{CapsuleState}
use Rattle.pfr_capsule.specs.declared.fail.CapsuleFail.{CapsuleFail}
use Rattle.pfr_auth.specs.Areas.{judge_area}
use Rattle.pfr_auth.specs.declared.areas.Area.{Area}
use Rattle.pfr_auth.specs.declared.fail.ActiveFail.{ActiveFail}
use Rattle.pfr_jobs.specs.Log.{open_job}
use Rattle.pfr_jobs.specs.LogPlans.{IsKind}
use Rattle.pfr_jobs.specs.declared.job.JobKind.TheVariants.{ActiveFromRecovery, ActiveFromStaging}
use Rattle.pfr_jobs.specs.declared.job.OpenJob.TheVariants as job
use Rattle.pfr_report.specs.declared.note.LockWhy.{LockWhy}
use Rattle.pfr_report.specs.declared.note.What.TheVariants.{Updated}
use Rattle.pfr_fuses.specs.declared.root_slot.RootSlot.{RootSlot}
use Rattle.pfr_story.specs.Story.{Story, Move, Plan, after, then, device_of}
use Rattle.pfr_story.specs.World.{World, AllMoved, story_of, state_at}
use Rattle.pfr_story.specs.Goes.{Ran, Goes}
use Rattle.pfr_story.specs.Plans.{mine, store, asks, judged_active, judged_recovery, judged_staging, restored, by_second, checked_again, checked_then, by_fuses, by_active, by_ready, tail}
use Rattle.pfr_story.specs.UpdatePlans.{updated}
use Rattle.pfr_story.specs.JobPlans.{job_notes, resumed}
use Rattle.pfr_story.specs.declared.stop.Stop.{Stop}
use Rattle.pfr_flash.proofs.RangeLemmas.{length-now}
use Rattle.pfr_story.proofs.BringRules.{ready_is}
use Rattle.pfr_story.proofs.JobRestores.{anew_judged, restored_judged}
use Rattle.pfr_story.proofs.RestoreLaws.{found_staged, not_staging}
use Rattle.pfr_machine.specs.Worlds.{DeskState, Stays}
use Rattle.pfr_machine.specs.Ready.{HaltsIn, EndsSeated, DistrustedBy}
use Rattle.pfr_machine.specs.declared.desk.Halt.{Halt}
use Rattle.pfr_machine.proofs.EndsLemmas.{ends_as, ends_most, ends_then, halts_called, halts_first, image_now, size_now}

-- a device keeps its size
size_stays : (b : Bank) (old new : World) → AllMoved old new → size_of (state_at (device_of b) new) ≡ size_of (state_at (device_of b) old)
size_stays bank.Bmc old new m = ap (λ (bytes : List ℕ). length bytes) m.bmc.start
size_stays bank.Pch old new m = ap (λ (bytes : List ℕ). length bytes) m.pch.start

-- ---- the first check of the active image
module _ (accepts : Acceptance) (fuses : FusesState) where
  pub tail_halted : (old : DeskState) (stop : Stop) (new : DeskState) → HaltsIn (asks old.bank) 0 old stop new → HaltsIn (tail accepts old.bank fuses) 3 old stop new
  tail_halted old stop new h = halts_first (asks old.bank) (λ story. by_active accepts old.bank fuses (judged_active accepts old.bank fuses story) story) 0 3 old stop new (omega arith) h

  pub tail_distrusted : {F : Type 0} (why : ActiveFail) (old mid : DeskState) (r : Result World (Halt F)) → DistrustedBy accepts fuses why old mid
      → EndsSeated (by_active accepts mid.bank fuses (Err why)) 3 mid r → EndsSeated (tail accepts old.bank fuses) 3 old r
  tail_distrusted why old mid r d e =
      let next : Plan = λ story. by_active accepts old.bank fuses (judged_active accepts old.bank fuses story) story in
      let judged : judged_active accepts old.bank fuses (story_of mid.world) ≡ Err why = ap (λ (s : Story). judged_active accepts old.bank fuses s) d.ran.is ∙ d.judged in
      ends_then (asks old.bank) next 0 3 old mid (Ok tt) r d.ran d.stays
      (ends_as (by_active accepts old.bank fuses (Err why)) next 3 mid r (ap (λ (x : Result Manifest ActiveFail). by_active accepts old.bank fuses x (story_of mid.world)) (sym judged))
      (subst (λ (b : Bank). EndsSeated (by_active accepts b fuses (Err why)) 3 mid r) d.stays.bank e))

  -- ---- the second, behind a restore
  pub again_halted : (old : DeskState) (stop : Stop) (new : DeskState) → HaltsIn (asks old.bank) 0 old stop new → HaltsIn (checked_again accepts old.bank fuses) 1 old stop new
  again_halted old stop new h = halts_first (asks old.bank) (λ story. by_second old.bank (judged_active accepts old.bank fuses story) story) 0 1 old stop new (omega arith) h

  -- ---- it is checked by the fuses as they are then
  pub then_ends : {F : Type 0} (old : DeskState) (r : Result World (Halt F)) → fuses_of (now old.world.nv) ≡ Ok fuses → IsValidLayout (layout_of fuses.provision old.bank) (size_of (state_at (device_of old.bank) old.world))
      → EndsSeated (tail accepts old.bank fuses) 3 old r → EndsSeated (checked_then accepts old.bank) 3 old r
  then_ends old r found valid e =
      let here = subst (λ (n : ℕ). IsValidLayout (layout_of fuses.provision old.bank) n) (sym (size_now old.bank old.world)) valid in
      ends_as (tail accepts old.bank fuses) (checked_then accepts old.bank) 3 old r
      (ap (λ (ready : Result FusesState LockWhy). by_fuses accepts old.bank ready (story_of old.world)) (sym (ready_is old.bank fuses (story_of old.world) found here))) e

  -- ---- it is made anew, and checked again
  pub anew_ends : {T F : Type 0} (anew : Plan) (old mid : DeskState) (answer : Result T Stop) (r : Result World (Halt F)) → Ran (anew (story_of old.world)) old.world mid.world → Stays 1 old mid answer
      → EndsSeated (checked_again accepts mid.bank fuses) 1 mid r → EndsSeated (then anew (checked_again accepts old.bank fuses)) 2 old r
  anew_ends anew old mid answer r p s e =
      ends_then anew (checked_again accepts old.bank fuses) 1 1 old mid answer r p s (subst (λ (b : Bank). EndsSeated (checked_again accepts b fuses) 1 mid r) s.bank e)

  pub anew_halted : {T : Type 0} (anew : Plan) (old : DeskState) (stop : Stop) (new : DeskState) → Goes {T = T} anew old.world new.world (Err stop) → Stays {T = T} 1 old new (Err stop)
      → HaltsIn (then anew (checked_again accepts old.bank fuses)) 2 old stop new
  anew_halted anew old stop new g s = halts_first anew (checked_again accepts old.bank fuses) 1 2 old stop new (omega arith) (halts_called anew 1 old stop new g s)

  -- what was judged well where it led is so at the desk
  judged_anew : (anew : Plan) (m : Manifest) (old mid : DeskState) → judged_active accepts old.bank fuses (after (anew (story_of old.world)) (story_of old.world)) ≡ Ok m
      → Ran (anew (story_of old.world)) old.world mid.world → mid.bank ≡ old.bank → IsOk (judged_active accepts mid.bank fuses (story_of mid.world))
  judged_anew anew m old mid again p same =
      let here : judged_active accepts mid.bank fuses (story_of mid.world) ≡ Ok m =
      ap (λ (b : Bank). judged_active accepts b fuses (story_of mid.world)) same ∙ (ap (λ (s : Story). judged_active accepts old.bank fuses s) p.is ∙ again) in
      subst (λ (r : Result Manifest ActiveFail). IsOk r) (sym here) refl

  -- of a bank whose layout is valid, behind a capsule that was judged well
  module _ (capsule : CapsuleState) (old mid : DeskState) (found : fuses_of (now old.world.nv) ≡ Ok fuses) (valid : IsValidLayout (layout_of fuses.provision old.bank) (size_of (state_at (device_of old.bank) old.world)))
      (size : IsBankSize (size_of (state_at (device_of old.bank) old.world))) (holds : HoldsBytes (state_at (device_of old.bank) old.world)) (fed : size_of old.world.nv ≡ 32768) (none : open_job (now old.world.nv) old.bank ≡ job.None) where
    here_fed : length (store (story_of old.world)) ≡ 32768
    here_fed = length-now old.world.nv ∙ fed

    here_valid : IsValidLayout (layout_of fuses.provision old.bank) (length (mine old.bank (story_of old.world)))
    here_valid = subst (λ (n : ℕ). IsValidLayout (layout_of fuses.provision old.bank) n) (sym (size_now old.bank old.world)) valid

    here_size : IsBankSize (length (mine old.bank (story_of old.world)))
    here_size = subst (λ (n : ℕ). IsBankSize n) (sym (size_now old.bank old.world)) size

    here_bytes : AreBytes (mine old.bank (story_of old.world))
    here_bytes = subst (λ (bytes : List ℕ). AreBytes bytes) (sym (image_now old.bank old.world)) (now_bytes (state_at (device_of old.bank) old.world) holds)

    pub restored_trusted : (level : ℕ) → IsKind (ActiveFromRecovery level) → judged_recovery accepts old.bank fuses (story_of old.world) ≡ Ok capsule → Ran (restored old.bank level fuses capsule (story_of old.world)) old.world mid.world → mid.bank ≡ old.bank
        → IsOk (judged_active accepts mid.bank fuses (story_of mid.world))
    restored_trusted level some judged p same =
        judged_anew (restored old.bank level fuses capsule) capsule.manifest old mid
        (restored_judged accepts old.bank level fuses capsule (story_of old.world) (record { provisioned = found; layout = here_valid; size = here_size; bytes = here_bytes; judged = judged }) here_fed none some) p same

    pub updated_trusted : (dynamic : Bool) → judged_staging accepts old.bank fuses (story_of old.world) ≡ Ok capsule → Ran (updated old.bank dynamic fuses capsule (story_of old.world)) old.world mid.world → mid.bank ≡ old.bank
        → IsOk (judged_active accepts mid.bank fuses (story_of mid.world))
    updated_trusted dynamic judged p same =
        let layout : Layout = layout_of fuses.provision old.bank in
        let good = found_staged accepts old.bank fuses capsule (story_of old.world) found here_valid here_bytes judged in
        judged_anew (updated old.bank dynamic fuses capsule) capsule.manifest old mid
        (anew_judged accepts old.bank (ActiveFromStaging dynamic) (not_staging dynamic) fuses capsule (Updated old.bank dynamic capsule.manifest.svn) (story_of old.world) (record {
          place = layout.staging_at;
          len = layout.area_len;
          good = good.0;
          capsule_is = good.1;
          provisioned = found;
          inside = here_valid.inside.staging;
          size = here_size;
          bytes = here_bytes;
        }) here_fed none tt) p same

  -- ---- a job that is open is taken up first
  -- the layout is valid still
  pub valid_behind : (later : FusesState) (moves : List Move) (old mid : DeskState) → Ran moves old.world mid.world → mid.bank ≡ old.bank → later.provision ≡ fuses.provision
      → IsValidLayout (layout_of fuses.provision old.bank) (size_of (state_at (device_of old.bank) old.world)) → IsValidLayout (layout_of later.provision mid.bank) (size_of (state_at (device_of mid.bank) mid.world))
  valid_behind later moves old mid p same provision valid =
      subst (λ (b : Bank). IsValidLayout (layout_of later.provision b) (size_of (state_at (device_of b) mid.world))) (sym same)
      (subst (λ (n : ℕ). IsValidLayout (layout_of later.provision old.bank) n) (sym (size_stays old.bank old.world mid.world p.moved))
      (subst (λ (x : RootSlot). IsValidLayout (layout_of x old.bank) (size_of (state_at (device_of old.bank) old.world))) (sym provision) valid))

  pub resumed_ends : {T F : Type 0} (old mid : DeskState) (answer : Result T Stop) (r : Result World (Halt F)) → Ran (resumed (job_notes old.bank) accepts old.bank fuses (story_of old.world)) old.world mid.world
      → Stays 2 old mid answer → EndsSeated (checked_then accepts mid.bank) 3 mid r → EndsSeated (by_ready accepts old.bank (Ok fuses)) 5 old r
  resumed_ends old mid answer r p s e =
      ends_then (resumed (job_notes old.bank) accepts old.bank fuses) (checked_then accepts old.bank) 2 3 old mid answer r p s (subst (λ (b : Bank). EndsSeated (checked_then accepts b) 3 mid r) s.bank e)

  pub resumed_halted : {T : Type 0} (old : DeskState) (stop : Stop) (new : DeskState) → Goes {T = T} (resumed (job_notes old.bank) accepts old.bank fuses) old.world new.world (Err stop) → Stays {T = T} 2 old new (Err stop)
      → HaltsIn (by_ready accepts old.bank (Ok fuses)) 5 old stop new
  resumed_halted old stop new g s =
      halts_first (resumed (job_notes old.bank) accepts old.bank fuses) (checked_then accepts old.bank) 2 5 old stop new (omega arith) (halts_called (resumed (job_notes old.bank) accepts old.bank fuses) 2 old stop new g s)

  -- ---- the capsule in an area was judged
  abbrev judged_in : Area → Bank → Story → Result CapsuleState CapsuleFail
  judged_in area b story = judge_area area b (mine b story) fuses accepts

  -- and then it goes on by what was found
  abbrev by_area : Area → (Bank → Result CapsuleState CapsuleFail → Plan) → Bank → Plan
  by_area area next b = then (asks b) (λ story. next b (judged_in area b story) story)

  module _ (area : Area) (next : Bank → Result CapsuleState CapsuleFail → Plan) (m : ℕ) where
    pub found_ends : {T F : Type 0} (old mid : DeskState) (answer : Result T Stop) (r : Result World (Halt F)) → Ran (asks old.bank (story_of old.world)) old.world mid.world → Stays 0 old mid answer
        → (found : Result CapsuleState CapsuleFail) → found ≡ judged_in area old.bank (story_of old.world) → EndsSeated (next mid.bank found) m mid r → EndsSeated (by_area area next old.bank) m old r
    found_ends old mid answer r p s found is e =
        let still : judged_in area old.bank (story_of mid.world) ≡ found = ap (λ (t : Story). judged_in area old.bank t) p.is ∙ sym is in
        let by_found : Plan = λ story. next old.bank (judged_in area old.bank story) story in
        ends_most (by_area area next old.bank) (0 + m) m old r (omega arith)
        (ends_then (asks old.bank) by_found 0 m old mid answer r p s
        (ends_as (next old.bank found) by_found m mid r (ap (λ (x : Result CapsuleState CapsuleFail). next old.bank x (story_of mid.world)) (sym still))
        (subst (λ (b : Bank). EndsSeated (next b found) m mid r) s.bank e)))

    pub found_halted : {T : Type 0} (old : DeskState) (stop : Stop) (new : DeskState) → Goes {T = T} (asks old.bank) old.world new.world (Err stop) → Stays {T = T} 0 old new (Err stop)
        → HaltsIn (by_area area next old.bank) m old stop new
    found_halted old stop new g s =
        halts_first (asks old.bank) (λ story. next old.bank (judged_in area old.bank story) story) 0 m old stop new (omega arith) (halts_called (asks old.bank) 0 old stop new g s)
