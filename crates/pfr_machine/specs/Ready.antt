-- What work on a bank comes to.
use Rattle.std.specs.Prelude.{◌≡◌, ◌≢◌, ℕ, List, [], ◌∷◌, true, Result, Ok, Err}
use Rattle.pfr_flash.specs.Answer.{IsFound}
use Rattle.pfr_flash.specs.declared.flash.FlashFail.TheVariants.{Fault, Lost}
use Rattle.pfr_flash.specs.declared.names.Bank.{Bank}
use Rattle.pfr_flash.specs.declared.names.Bank.TheVariants.{Bmc, Pch}
use Rattle.pfr_engine.specs.Acceptance.{Acceptance}
use Rattle.pfr_fuses.specs.FusesState.{FusesState}
use Rattle.pfr_manifest.specs.declared.manifest.Manifest.{Manifest}
use Rattle.pfr_auth.specs.Answer.{active_failure}
use Rattle.pfr_auth.specs.declared.fail.ActiveFail.{ActiveFail}
use Rattle.pfr_report.specs.declared.note.What.TheVariants.{Released, Locked}
use Rattle.pfr_story.specs.Course.{Stretch, CrossesOrFaults, LosesPower, Steps, lost}
use Rattle.pfr_story.specs.Goes.{Ran, Stopped}
use Rattle.pfr_story.specs.Plans.{asks, judged_active}
use Rattle.pfr_story.specs.Standing.{standing_of, standing_by, Off}
use Rattle.pfr_story.specs.Story.{Plan, Says, then, says, other_bank}
use Rattle.pfr_story.specs.Turn.{fault_of}
use Rattle.pfr_story.specs.World.{World, IsDark, story_of}
use Rattle.pfr_story.specs.declared.stop.Stop.{Stop}
use Rattle.pfr_machine.specs.Worlds.{AddsNotes, DeskState, Stays}
use Rattle.pfr_machine.specs.declared.desk.Found.{Found}
use Rattle.pfr_machine.specs.declared.desk.Found.TheVariants as found
use Rattle.pfr_machine.specs.declared.desk.Halt.{Halt}
use Rattle.pfr_machine.specs.declared.working.Dark.{Dark}

-- The bank in work was released or locked, and the other one stands as before. The store has power.
pub record LeavesSeated (most : ℕ) (old : DeskState) (new : World) : Type 0 where
  pub mine : standing_of old.bank new.notes.list ≢ Off
  pub other : standing_of (other_bank old.bank) new.notes.list ≡ standing_by old.other
  pub notes : AddsNotes most old.world.notes new.notes
  pub nv : new.nv.powered ≡ true

-- a call of a device failed while the bank was in work by this plan
pub record HaltsIn (plan : Plan) (most : ℕ) (old : DeskState) (stop : Stop) (new : DeskState) : Type 0 where
  pub stopped : Stopped (plan (story_of old.world)) stop.device stop.fail old.world new.world
  pub stays : Stays {T = Unit {0}} most old new (Err stop)

-- Work on a bank by a plan that ends with a release or a lock.
abbrev pub EndsSeated : {F : Type 0} → Plan → ℕ → DeskState → Result World (Halt F) → Type 0
EndsSeated plan most old (Ok new) = Ran (plan (story_of old.world)) old.world new × LeavesSeated most old new
EndsSeated plan most old (Err halt) = HaltsIn plan most old halt.stop halt.desk

-- the image is trusted, and the bank was released
pub record ReleasedBy (accepts : Acceptance) (fuses : FusesState) (old : DeskState) (new : World) : Type 0 where
  pub manifest : Manifest
  pub judged : judged_active accepts old.bank fuses (story_of old.world) ≡ Ok manifest
  pub ran : Ran (then (asks old.bank) (says (Released old.bank manifest.svn)) (story_of old.world)) old.world new
  pub leaves : LeavesSeated 1 old new

-- it isn't for this cause, which is no failed device
pub record DistrustedBy (accepts : Acceptance) (fuses : FusesState) (why : ActiveFail) (old new : DeskState) : Type 0 where
  pub judged : judged_active accepts old.bank fuses (story_of old.world) ≡ Err why
  pub cause : IsFound active_failure why
  pub ran : Ran (asks old.bank (story_of old.world)) old.world new.world
  pub stays : Stays {T = Unit {0}} 0 old new (Ok tt)

-- A check of the active image of the bank in work.
abbrev pub Checks : {F : Type 0} → Acceptance → FusesState → DeskState → Result (Found F) (Halt F) → Type 0
Checks accepts fuses old (Ok (found.Released new)) = ReleasedBy accepts fuses old new
Checks accepts fuses old (Ok (found.Distrusted new why)) = DistrustedBy accepts fuses why old new
Checks accepts fuses old (Err halt) = HaltsIn (asks old.bank) 0 old halt.stop halt.desk

-- ---- a bank is brought up

-- it was released or locked, and the other one stands as before
pub record BroughtUp (which : Bank) (most : ℕ) (old new : World) : Type 0 where
  pub mine : standing_of which new.notes.list ≢ Off
  pub other : standing_of (other_bank which) new.notes.list ≡ standing_of (other_bank which) old.notes.list
  pub notes : AddsNotes most old.notes new.notes
  pub nv : new.nv.powered ≡ true

-- both banks were
pub record AreBrought (most : ℕ) (old new : World) : Type 0 where
  pub bmc : standing_of Bmc new.notes.list ≢ Off
  pub pch : standing_of Pch new.notes.list ≢ Off
  pub notes : AddsNotes most old.notes new.notes
  pub nv : new.nv.powered ≡ true

-- A stretch of work on a bank, behind which the step goes on, or a device lost the power in it.
abbrev pub Brings : {F : Type 0} → Stretch → Bank → ℕ → World → Result World (Dark F) → Type 0
Brings stretch which most old (Ok new) = CrossesOrFaults stretch old new × BroughtUp which most old new
Brings stretch which most old (Err dark) = LosesPower stretch old dark.inner × IsDark dark.inner × AddsNotes most old.notes dark.inner.notes

-- How halted work ends: a fault locks the bank in work, and a loss of power is noted.
abbrev pub Ended : {F : Type 0} → Halt F → Result World (Dark F) → Type 0
Ended halt (Ok new) = (halt.stop.fail ≡ Fault) × Ran (Says (Locked halt.desk.bank (fault_of halt.stop.device)) ∷ []) halt.desk.world new × LeavesSeated 1 halt.desk new
Ended halt (Err dark) = (halt.stop.fail ≡ Lost) × Ran (lost halt.stop.device) halt.desk.world dark.inner × IsDark dark.inner × AddsNotes 1 halt.desk.world.notes dark.inner.notes

-- ---- work on the store alone, where no bank is in work

-- the store has power still, unless it lost it
abbrev pub StaysFed : {T : Type 0} → World → Result T Stop → Type 0
StaysFed w (Ok x) = w.nv.powered ≡ true
StaysFed w (Err stop) = stop.fail ≡ Fault → w.nv.powered ≡ true

pub record StaysSeated {T : Type 0} (most : ℕ) (old new : World) (answer : Result T Stop) : Type 0 where
  pub stands : (which : Bank) → standing_of which new.notes.list ≡ standing_of which old.notes.list
  pub notes : AddsNotes most old.notes new.notes
  pub nv : StaysFed new answer

-- what work on the whole platform makes of it
pub record LeavesWhole (most : ℕ) (old new : World) : Type 0 where
  pub together : standing_of Bmc new.notes.list ≡ Off → standing_of Pch new.notes.list ≡ Off
  pub apart : standing_of Pch new.notes.list ≡ Off → standing_of Bmc new.notes.list ≡ Off
  pub on : standing_of Bmc new.notes.list ≢ Off → new.nv.powered ≡ true
  pub notes : AddsNotes most old.notes new.notes

-- Work on both banks, one after the other.
abbrev pub BringsBoth : {F : Type 0} → List Stretch → ℕ → World → Result World (Dark F) → Type 0
BringsBoth stretches most old (Ok new) = Steps stretches old new × AreBrought most old new
BringsBoth stretches most old (Err dark) = Steps stretches old dark.inner × IsDark dark.inner × AddsNotes most old.notes dark.inner.notes
