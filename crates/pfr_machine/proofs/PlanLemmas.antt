-- Plans that are followed one after the other, while a bank stays in work.
use Rattle.std.proofs.Common.{◌≡◌, ◌∙◌, ap, sym, subst, ℕ, ◌+◌, Result, Ok, Err}
use Rattle.pfr_flash.specs.FlashState.{now}
use Rattle.pfr_flash.specs.declared.names.Bank.{Bank}
use Rattle.pfr_flash.specs.declared.names.Device.{Device}
use Rattle.pfr_flash.specs.declared.flash.FlashFail.{FlashFail}
use Rattle.pfr_engine.specs.Acceptance.{Acceptance}
use Rattle.pfr_fuses.specs.FusesState.{FusesState}
use Rattle.pfr_capsule.specs.CapsuleState.{CapsuleState}
use Rattle.pfr_capsule.specs.declared.fail.CapsuleFail.{CapsuleFail}
use Rattle.pfr_auth.specs.Areas.{judge_area}
use Rattle.pfr_auth.specs.declared.areas.Area.{Area}
use Rattle.pfr_jobs.specs.LogState.{LogState, log_of}
use Rattle.pfr_report.specs.declared.note.What.{What}
use Rattle.pfr_story.specs.Goes.{Goes, Ran, Stopped}
use Rattle.pfr_story.specs.JobPlans.{abandoned, concluded, raised_to}
use Rattle.pfr_story.specs.Plans.{asks, asks_store, mine, store}
use Rattle.pfr_story.specs.Story.{Plan, Story, after, says, then}
use Rattle.pfr_story.specs.World.{World, story_of}
use Rattle.pfr_story.specs.declared.stop.Stop.{Stop}
use Rattle.pfr_story.proofs.Sequence.{Ran-append, Stopped-first, Stopped-next}
use Rattle.pfr_machine.specs.Worlds.{DeskState, Stays, StaysAwake, with_note}
use Rattle.pfr_machine.proofs.DeskLemmas.{Goes-as}
use Rattle.pfr_machine.proofs.WorldLemmas.{AddsNotes-then, noted_ran}

-- ---- one plan, and then another
pub goes_then : {T : Type 0} (a b : Plan) (old mid new : World) (r : Result T Stop) → Ran (a (story_of old)) old mid → Goes b mid new r → Goes (then a b) old new r
goes_then a b old mid new (Ok x) p g = Ran-append (a (story_of old)) (b (after (a (story_of old)) (story_of old))) old mid new p (subst (λ (s : Story). Ran (b s) mid new) p.is g)
goes_then a b old mid new (Err stop) p g = Stopped-next a b stop.device stop.fail old mid new p g

-- where the first of a desk was done, and the other is that of the bank, which is the same
pub goes_behind : {T : Type 0} (a : Plan) (b : Bank → Plan) (old mid new : DeskState) (r : Result T Stop) → mid.bank ≡ old.bank → Ran (a (story_of old.world)) old.world mid.world → Goes (b mid.bank) mid.world new.world r
    → Goes (then a (b old.bank)) old.world new.world r
goes_behind a b old mid new r e p g = goes_then a (b old.bank) old.world mid.world new.world r p (subst (λ (x : Bank). Goes (b x) mid.world new.world r) e g)

-- ---- a floor is raised, and the job closed
module _ (told : Bank → ℕ → What) (fuses : FusesState) (capsule : CapsuleState) (svn : ℕ) (e : svn ≡ capsule.manifest.svn) where
  pub concluded_stopped : (b : Bank) (which : Device) (fail : FlashFail) (old new : World) → Stopped (raised_to svn b fuses (story_of old)) which fail old new
      → Stopped (concluded (told b) b fuses capsule (story_of old)) which fail old new
  concluded_stopped b which fail old new h =
      subst (λ (n : ℕ). Stopped (then (raised_to n b fuses) (abandoned (told b n) b) (story_of old)) which fail old new) e (Stopped-first (raised_to svn b fuses) (abandoned (told b svn) b) which fail old new h)

  pub concluded_goes : {T : Type 0} (old mid new : DeskState) (r : Result T Stop) → mid.bank ≡ old.bank → Ran (raised_to svn old.bank fuses (story_of old.world)) old.world mid.world
      → Goes (abandoned (told mid.bank svn) mid.bank) mid.world new.world r → Goes (concluded (told old.bank) old.bank fuses capsule) old.world new.world r
  concluded_goes old mid new r same p g =
      subst (λ (n : ℕ). Goes (then (raised_to n old.bank fuses) (abandoned (told old.bank n) old.bank)) old.world new.world r) e
      (goes_behind (raised_to svn old.bank fuses) (λ (b : Bank). abandoned (told b svn) b) old mid new r same p g)

-- ---- an area was judged, and it goes on by what was found
module _ (accepts : Acceptance) (fuses : FusesState) (area : Area) (next : Bank → Result CapsuleState CapsuleFail → Plan) where
  abbrev by_area : Bank → Plan
  by_area b = then (asks b) (λ story. next b (judge_area area b (mine b story) fuses accepts) story)

  pub judged_goes : {T : Type 0} (old mid new : DeskState) (r : Result T Stop) → Ran (asks old.bank (story_of old.world)) old.world mid.world → mid.bank ≡ old.bank
      → (found : Result CapsuleState CapsuleFail) → found ≡ judge_area area old.bank (mine old.bank (story_of old.world)) fuses accepts → Goes (next mid.bank found) mid.world new.world r → Goes (by_area old.bank) old.world new.world r
  judged_goes old mid new r p same found is g =
      let still : found ≡ judge_area area old.bank (mine old.bank (story_of mid.world)) fuses accepts = is ∙ ap (λ (t : Story). judge_area area old.bank (mine old.bank t) fuses accepts) (sym p.is) in
      goes_then (asks old.bank) (λ story. next old.bank (judge_area area old.bank (mine old.bank story) fuses accepts) story) old.world mid.world new.world r p
      (Goes-as (next old.bank found) (λ story. next old.bank (judge_area area old.bank (mine old.bank story) fuses accepts) story) mid.world new.world r
      (ap (λ (x : Result CapsuleState CapsuleFail). next old.bank x (story_of mid.world)) still)
      (subst (λ (b : Bank). Goes (next b found) mid.world new.world r) same g))

  pub judged_stopped : (b : Bank) (which : Device) (fail : FlashFail) (old new : World) → Stopped (asks b (story_of old)) which fail old new → Stopped (by_area b (story_of old)) which fail old new
  judged_stopped b which fail old new h = Stopped-first (asks b) (λ story. next b (judge_area area b (mine b story) fuses accepts) story) which fail old new h

-- ---- a log was loaded, and it goes on by what it says
module _ (next : LogState → Bank → Plan) where
  abbrev by_loaded : Bank → Plan
  by_loaded b = then asks_store (λ story. next (log_of (store story) b) b story)

  pub loaded_goes : {T : Type 0} (old mid new : DeskState) (r : Result T Stop) (log : LogState) → Ran (asks_store (story_of old.world)) old.world mid.world → mid.bank ≡ old.bank → log ≡ log_of (now mid.world.nv) old.bank
      → Goes (next log mid.bank) mid.world new.world r → Goes (by_loaded old.bank) old.world new.world r
  loaded_goes old mid new r log p same is g =
      goes_then asks_store (λ story. next (log_of (store story) old.bank) old.bank story) old.world mid.world new.world r p
      (Goes-as (next log old.bank) (λ story. next (log_of (store story) old.bank) old.bank story) mid.world new.world r
      (ap (λ (l : LogState). next l old.bank (story_of mid.world)) is)
      (subst (λ (b : Bank). Goes (next log b) mid.world new.world r) same g))

  pub loaded_stopped : (b : Bank) (which : Device) (fail : FlashFail) (old new : World) → Stopped (asks_store (story_of old)) which fail old new → Stopped (by_loaded b (story_of old)) which fail old new
  loaded_stopped b which fail old new h = Stopped-first asks_store (λ story. next (log_of (store story) b) b story) which fail old new h

-- ---- something was noted, and it goes on
pub noted_goes : {T : Type 0} (what : Bank → What) (said : What) (next : Bank → Plan) (old mid new : DeskState) (r : Result T Stop) → said ≡ what old.bank → mid ≡ record old { world = with_note said old.world }
    → Goes (next mid.bank) mid.world new.world r → Goes (then (says (λ _. what old.bank)) (next old.bank)) old.world new.world r
noted_goes what said next old mid new r is e g =
    goes_behind (says (λ _. what old.bank)) next old mid new r (ap (λ (d : DeskState). d.bank) e) (noted_ran (λ _. what old.bank) said old.world mid.world is (ap (λ (d : DeskState). d.world) e)) g

-- ---- what stays, one after the other
awake_by : {T : Type 0} (b c : Bank) (w : World) (r : Result T Stop) → b ≡ c → StaysAwake b w r → StaysAwake c w r
awake_by b c w r e h = subst (λ (x : Bank). StaysAwake x w r) e h

pub stays_then : {T U : Type 0} (m n : ℕ) (old mid new : DeskState) (x : T) (r : Result U Stop) → Stays {T = T} m old mid (Ok x) → Stays n mid new r → Stays (m + n) old new r
stays_then m n old mid new x r h k = record {
  bank = k.bank ∙ h.bank;
  other = k.other ∙ h.other;
  notes = AddsNotes-then m n old.world.notes mid.world.notes new.world.notes h.notes k.notes;
  awake = awake_by mid.bank old.bank new.world r h.bank k.awake;
}
