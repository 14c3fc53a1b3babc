-- The store is left ready for work on a bank.
use Rattle.std.proofs.Common.{◌≡◌, ◌∙◌, refl, sym, subst, ℕ, ◌≤◌, ◌<◌, Bool, true, false, arith, List, length, Result, Ok, Err}
use Rattle.std.specs.Prelude.{nat_lt, OnOk}
use Rattle.std.proofs.lemmas.Bool.Decides.{nat_tests}
use Rattle.pfr_flash.specs.FlashState.{now, size_of}
use Rattle.pfr_flash.specs.declared.names.Bank.{Bank}
use Rattle.pfr_flash.specs.declared.names.Bank.TheVariants as bank
use Rattle.pfr_engine.specs.Acceptance.{Acceptance}
use Rattle.pfr_fuses.specs.FusesOf.{fuses_of}
use Rattle.pfr_jobs.specs.Log.{open_job}
use Rattle.pfr_jobs.specs.declared.job.OpenJob.TheVariants as job
use Rattle.pfr_watch.specs.declared.watch.Watch.{Watch}
use Rattle.pfr_report.specs.declared.note.What.{What}
use Rattle.pfr_story.specs.Course.{CrossesOrFaults}
use Rattle.pfr_story.specs.Goes.{Goes}
use Rattle.pfr_story.specs.Story.{Story}
use Rattle.pfr_story.specs.declared.stop.Stop.{Stop}
use Rattle.pfr_story.proofs.RecoveryLaws.{migrated_two}
use Rattle.pfr_flash.proofs.RangeLemmas.{length-now}
use Rattle.pfr_flash.proofs.HoldingLemmas.{now_bytes}
use Rattle.pfr_story.specs.Keeping.{IsSettled}
use Rattle.pfr_story.specs.Plans.{level_after, migrated, store}
use Rattle.pfr_story.specs.Turn.{bank_stretch, expiry_stretch}
use Rattle.pfr_story.specs.World.{World, AreDevices, story_of}
use Rattle.pfr_story.proofs.StoreLeft.{brought_left, expired_left, quiet_left, quiet_settled, two_left}
use Rattle.pfr_story.proofs.SpanRules.{NotOne}
use Rattle.pfr_machine.specs.Inside.{IsAtRest, IsMigrated}
use Rattle.pfr_machine.specs.Watching.{BringsDue}
use Rattle.pfr_machine.specs.Working.{IsFreeFor}
use Rattle.pfr_machine.specs.Worlds.{with_note}
use Rattle.pfr_machine.specs.declared.working.Work.TheVariants.{Recover}

-- a bank that runs is
pub rests_running : (which : Bank) (nv : List ℕ) → IsSettled nv → open_job nv which ≡ job.None → IsAtRest which nv
rests_running which nv settled idle = quiet_settled which nv settled idle

-- a note leaves it so
pub rests_noted : (which : Bank) (what : What) (old mid : World) → mid ≡ with_note what old → IsAtRest which (now old.nv) → IsAtRest which (now mid.nv)
rests_noted which what old mid e h = subst (λ (w : World). IsAtRest which (now w.nv)) (sym e) h

-- a bank at rest whose watch expired to this level is restored
pub free_at : (which : Bank) (level : ℕ) (watch : Watch) (nv : List ℕ) → level ≡ level_after watch → nat_lt level 4 ≡ true → IsAtRest which nv → IsFreeFor (Recover level) which nv
free_at which level watch nv is few rests =
    let small : level < 4 = grind (arith, nat_tests, few) in
    let some : 1 ≤ level = omega (arith, is) in
    ((some, omega (arith, small)), rests.1)

-- ---- behind the work on another bank
pub brought_migrated : (accepts : Acceptance) (b : Bank) (old new : World) → size_of old.nv ≡ 32768 → IsMigrated (now old.nv) → CrossesOrFaults (bank_stretch accepts b) old new → IsMigrated (now new.nv)
brought_migrated accepts b old new size two came = brought_left accepts NotOne b (two_left b) old new size two came

pub rests_due : (F : Type 0) (accepts : Acceptance) (due : Bool) (old mid : World) → size_of old.nv ≡ 32768 → BringsDue {F = F} due (expiry_stretch accepts bank.Bmc) bank.Bmc 8 old (Ok mid) → IsAtRest bank.Pch (now old.nv) → IsAtRest bank.Pch (now mid.nv)
rests_due F accepts true old mid size h rests = expired_left accepts (IsAtRest bank.Pch) bank.Bmc quiet_left old mid size rests h.0
rests_due F accepts false old mid size h rests =
    let same : mid ≡ old = cc in subst (λ (w : World). IsAtRest bank.Pch (now w.nv)) (sym same) rests

-- ---- behind a migration
pub migrated_there : {T : Type 0} (old new : World) (r : Result T Stop) → Goes migrated old new r → size_of old.nv ≡ 32768 → AreDevices old → OnOk r (IsMigrated (now new.nv))
migrated_there old new (Ok x) p size held =
    let sized : length (store (story_of old)) ≡ 32768 = length-now old.nv ∙ size in
    subst (λ (s : Story). NotOne (store s)) (sym p.is) (migrated_two (story_of old) (fuses_of (store (story_of old))) refl sized (now_bytes old.nv held.nv))
migrated_there old new (Err stop) p size held = tt
