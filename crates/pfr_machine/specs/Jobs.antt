-- What the work of a job begins with, and what it comes to.
use Rattle.std.specs.Prelude.{◌≡◌, ◌≢◌, ◌≤◌, ℕ, OnOk, Result, Ok}
use Rattle.pfr_flash.specs.FlashState.{now, size_of}
use Rattle.pfr_flash.specs.Layout.{IsValidLayout}
use Rattle.pfr_capsule.specs.CapsuleState.{CapsuleState}
use Rattle.pfr_copy.specs.Applying.{CanCopyOver}
use Rattle.pfr_fuses.specs.FusesOf.{fuses_of}
use Rattle.pfr_fuses.specs.FusesState.{FusesState}
use Rattle.pfr_fuses.specs.RootSlot.{layout_of}
use Rattle.pfr_fuses.specs.declared.profile.Profile.TheVariants.{Two}
use Rattle.pfr_jobs.specs.Log.{open_job}
use Rattle.pfr_jobs.specs.LogState.{LogState, log_of}
use Rattle.pfr_jobs.specs.declared.job.OpenJob.TheVariants as job
use Rattle.pfr_story.specs.Story.{device_of}
use Rattle.pfr_story.specs.World.{state_at}
use Rattle.pfr_story.specs.declared.stop.Stop.{Stop}
use Rattle.pfr_machine.specs.Worlds.{DeskState, IsAwake}

-- The bank in work has a job open, and this is its log.
pub record IsAtJob (desk : DeskState) (log : LogState) : Type 0 where
  pub on : IsAwake desk.bank desk.world
  pub stands : log ≡ log_of (now desk.world.nv) desk.bank
  pub some : log.job ≢ job.None

-- The store has these fuses, of profile 2, and they lay out the bank in work validly.
pub record HasFuses (desk : DeskState) (fuses : FusesState) : Type 0 where
  pub found : fuses_of (now desk.world.nv) ≡ Ok fuses
  pub two : fuses.profile ≡ Two
  pub valid : IsValidLayout (layout_of fuses.provision desk.bank) (size_of (state_at (device_of desk.bank) desk.world))

-- A bank in work whose devices have power, with room for so many notes, no job open, and these fuses in the store.
pub record IsReady (most : ℕ) (desk : DeskState) (fuses : FusesState) : Type 0 where
  pub room : most ≤ desk.world.notes.spare
  pub on : IsAwake desk.bank desk.world
  pub none : open_job (now desk.world.nv) desk.bank ≡ job.None
  pub fused : HasFuses desk fuses

-- its device can take a copy of this capsule in its staging area
abbrev pub CanRenew : DeskState → FusesState → CapsuleState → Type 0
CanRenew desk fuses capsule = CanCopyOver (now (state_at (device_of desk.bank) desk.world)) (layout_of fuses.provision desk.bank) capsule

-- Where all went well no job of the bank is open, and the store has the later fuses. They are of profile 2, and provision what the
-- earlier ones did.
pub record LeavesNoJob {T : Type 0} (old new : DeskState) (earlier later : FusesState) (answer : Result T Stop) : Type 0 where
  pub found : OnOk answer (fuses_of (now new.world.nv) ≡ Ok later)
  pub none : OnOk answer (open_job (now new.world.nv) old.bank ≡ job.None)
  pub two : later.profile ≡ Two
  pub provision : later.provision ≡ earlier.provision
