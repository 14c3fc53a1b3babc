-- What work on the store alone is to the platform.
use Rattle.std.proofs.Common.{◌≡◌, ◌∙◌, ◌≤◌, refl, sym, ap, subst, List, [], true, Result, Ok, Err}
use Rattle.pfr_flash.specs.FlashState.{FlashState, now}
use Rattle.pfr_flash.specs.Operation.{Operation}
use Rattle.pfr_flash.specs.Plan.{Follows}
use Rattle.pfr_flash.specs.declared.flash.FlashFail.{FlashFail}
use Rattle.pfr_flash.specs.declared.names.Bank.{Bank}
use Rattle.pfr_flash.specs.declared.names.Device.TheVariants as device
use Rattle.pfr_flash.proofs.FollowsLemmas.{Follows-none}
use Rattle.pfr_fuses.specs.FuseMap.{profile_number}
use Rattle.pfr_fuses.specs.FusesState.{FusesState}
use Rattle.pfr_fuses.specs.FusesOf.{fuses_of}
use Rattle.pfr_fuses.specs.declared.fuse_fail.FuseFail.{FuseFail}
use Rattle.pfr_fuses.specs.declared.profile.Profile.{Profile}
use Rattle.pfr_fuses.specs.declared.profile.Profile.TheVariants.{One, Two}
use Rattle.pfr_report.specs.declared.note.What.{What}
use Rattle.pfr_story.specs.Goes.{Goes}
use Rattle.pfr_story.specs.Plans.{migration_by, migration_in, store}
use Rattle.pfr_story.specs.Standing.{Standing, standing_after, standing_of}
use Rattle.pfr_story.specs.Story.{Plan, called}
use Rattle.pfr_story.specs.World.{World}
use Rattle.pfr_story.proofs.Lift.{OnlyAt, Goes-follows, at_device}
use Rattle.pfr_machine.specs.Worlds.{AddsNotes, with_note, with_state}
use Rattle.pfr_machine.specs.Ready.{StaysSeated, StaysFed}
use Rattle.pfr_machine.proofs.WorldLemmas.{AddsNotes-none, AddsNotes-then}
use Rattle.pfr_machine.proofs.StandLemmas.{still_stands, noted_adds}

pub two_by_number : (profile : Profile) (fuses : FusesState) → ¬ (profile_number profile ≡ 1) → migration_by profile fuses ≡ []
two_by_number One fuses n = absurd (n refl)
two_by_number Two fuses n = refl

-- nothing is to be done
pub none_to_do : (plan : List Operation) (d : FlashState) → plan ≡ [] → Follows {A = Unit {0}} plan d d (Ok tt)
none_to_do plan d e = subst (λ (ops : List Operation). Follows {A = Unit {0}} ops d d (Ok tt)) (sym e) (Follows-none d tt)

-- the fuses are migrated where they are of profile 1
abbrev pub migrates : Plan
migrates story = called device.Nv (migration_in (fuses_of (store story)))

-- ---- only the store worked
module _ (old new : World) (e : new ≡ with_state device.Nv new.nv old) where
  only_store : OnlyAt device.Nv old new
  only_store = record {
    others = (ap (λ (w : World). w.pch) e, ap (λ (w : World). w.bmc) e);
    item = ap (λ (w : World). w.item) e;
    notes = ap (λ (w : World). w.notes.list) e;
    guards = ap (λ (w : World). w.guards) e;
  }

  pub store_goes : {A : Type 0} (plan : List Operation) (r : Result A FlashFail) → old.nv.powered ≡ true → Follows plan old.nv new.nv r → Goes (λ story. called device.Nv plan) old new (at_device device.Nv r)
  store_goes plan r on f = Goes-follows device.Nv plan old new r only_store on f

  pub migration_goes : (found : Result FusesState FuseFail) → found ≡ fuses_of (now old.nv) → (r : Result (Unit {0}) FlashFail) → old.nv.powered ≡ true → Follows (migration_in found) old.nv new.nv r
      → Goes migrates old new (at_device device.Nv r)
  migration_goes found e r on f =
      store_goes (migration_in (fuses_of (now old.nv))) r on (subst (λ (x : Result FusesState FuseFail). Follows (migration_in x) old.nv new.nv r) e f)

  fed : {A : Type 0} (plan : List Operation) (r : Result A FlashFail) → old.nv.powered ≡ true → Follows plan old.nv new.nv r → StaysFed new (at_device device.Nv r)
  fed plan (Ok x) on f = f.on ∙ on
  fed plan (Err fail) on f = λ is. f.still is ∙ on

  pub store_stays : {A : Type 0} (plan : List Operation) (r : Result A FlashFail) → old.nv.powered ≡ true → Follows plan old.nv new.nv r → StaysSeated 0 old new (at_device device.Nv r)
  store_stays plan r on f = record {
    stands = λ which. ap (λ (w : World). standing_of which w.notes.list) e;
    notes = subst (λ (w : World). AddsNotes 0 old.notes w.notes) (sym e) (AddsNotes-none old.notes);
    nv = fed plan r on f;
  }

  pub spare_kept : 1 ≤ old.notes.spare → 1 ≤ new.notes.spare
  spare_kept room = subst (λ (w : World). 1 ≤ w.notes.spare) (sym e) room

-- something was noted behind it, by which no bank stands otherwise
pub noted_stays : {A : Type 0} (what : What) (old mid new : World) {x : A} → StaysSeated 0 old mid (Ok x) → ((which : Bank) (s : Standing) → standing_after which what s ≡ s) → new ≡ with_note what mid
    → 1 ≤ mid.notes.spare → StaysSeated {T = Unit {0}} 1 old new (Ok tt)
noted_stays what old mid new h still e room = record {
  stands = λ which. still_stands what mid new still e which ∙ h.stands which;
  notes = AddsNotes-then 0 1 old.notes mid.notes new.notes h.notes (noted_adds what mid new e room);
  nv = ap (λ (w : World). w.nv.powered) e ∙ h.nv;
}
