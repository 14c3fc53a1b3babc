-- What an event promises: all of it, each promise once. Platform::step has it of its event, and pfr of each event of a run.
use Rattle.pfr_flash.specs.declared.names.Device.{Device}
use Rattle.pfr_engine.specs.Acceptance.{Acceptance}
use Rattle.pfr_fuses.specs.Growth.{KeepsProvision, NeverGoesBack}
use Rattle.pfr_recoverable.specs.Recoverable.{IsRecoverable}
use Rattle.pfr_script.specs.declared.event.Event.{Event}
use Rattle.pfr_story.specs.Apart.{LeavesOthers}
use Rattle.pfr_story.specs.Bringing.{BringsUpCalm, PowerReleases}
use Rattle.pfr_story.specs.FaultCount.{FaultsAreCounted}
use Rattle.pfr_story.specs.Filtering.{FiltersSo}
use Rattle.pfr_story.specs.Guarding.{Boots, Expires, GuardsFollow}
use Rattle.pfr_story.specs.InWork.{StoreChangesInWork}
use Rattle.pfr_story.specs.JobPromises.{Cancels, ChangesFuses, MarksAreHeeded, RecoveryUpdates, TakesJobsUp}
use Rattle.pfr_story.specs.Migrating.{MigratesAtPower}
use Rattle.pfr_story.specs.OneSlot.{ProvisionsOneSlot}
use Rattle.pfr_story.specs.PowerOrder.{PowersInOrder}
use Rattle.pfr_story.specs.Promises.{DistrustsWithCause, JudgesAtPower, LocksHaveCauses, LossesAreNoted, LostEnds, NotesBelong, NotesOff, ProvisionsSo, ReleasesTrusted, RestoresGood, RunningHasNoJob, StaysQuiet}
use Rattle.pfr_story.specs.Recovery.{CountsRise, StaysRecoverable}
use Rattle.pfr_story.specs.Scripted.{CanCount, FailsByScript}
use Rattle.pfr_story.specs.Turn.{begun}
use Rattle.pfr_story.specs.Updating.{Updates}
use Rattle.pfr_story.specs.World.{AllMoved, World}

pub record EventPromises (accepts : Acceptance) (e : Event) (old new : World) : Type 0 where
  -- A bank is released only where it is trusted, with that version.
  pub released : ReleasesTrusted accepts old new
  -- Each lock has its cause in the contents at its counts.
  pub locks : LocksHaveCauses accepts old new
  -- An image is called untrusted only with the first cause against it.
  pub distrusts : DistrustsWithCause accepts old new
  -- A bank is restored only where a good capsule stands in its recovery area.
  pub restores : RestoresGood accepts old new
  -- But at a power-on and at an update by a certificate no bank is called untrusted, or locked for its contents.
  pub judges : JudgesAtPower e old new
  -- A job that is open at a power-on is taken up where it can be, and else given up.
  pub takes_up : TakesJobsUp e accepts old new
  -- One that is taken up begins with the pages whose groups weren't marked.
  pub heeds : MarksAreHeeded e accepts old new
  -- A power-on brings each bank up by its contents.
  pub brings_up : BringsUpCalm e accepts old new
  -- A store that is provisioned is of profile 2 wherever it holds a bank, unless the store fails.
  pub migrates : MigratesAtPower e old new
  -- It holds the BMC first, where nothing was done but to the store, and then the PCH, behind the work on the BMC.
  pub in_order : PowersInOrder e old new
  -- It releases a bank that can be recovered, within 34 operations a page.
  pub powers : PowerReleases (λ bank image nv. IsRecoverable bank image nv accepts) e old new
  -- A bank that can be recovered can be still, from each moment to the next.
  pub recoverable : StaysRecoverable (λ bank image nv. IsRecoverable bank image nv accepts) old new
  -- No job of a bank that runs is open.
  pub no_job : RunningHasNoJob new
  -- An update of the image is judged before anything is written, and one that is done is exact.
  pub updates : Updates e accepts old new
  -- One of the recovery area is refused with its cause; else the staged capsule stands there behind it.
  pub updates_recovery : RecoveryUpdates e accepts old new
  -- A key is cancelled exactly where a certificate for it is staged and the recovery area doesn't need it.
  pub cancels : Cancels e accepts old new
  -- Behind an update of the recovery area the floor is its version at least, and a cancelled key stays so.
  pub changes : ChangesFuses old new
  -- A provision provisions the platform, or is refused with the first cause,
  pub provisions : ProvisionsSo e old new
  -- and writes nothing but its slot.
  pub one_slot : ProvisionsOneSlot e old new
  -- Floors and cancellations never go back, between any two counts of the store.
  pub grows : NeverGoesBack old.nv new.nv
  -- Once the platform is provisioned it stays so.
  pub keeps : KeepsProvision old.nv new.nv
  -- Frames of a bank that runs are judged by what it is trusted by.
  pub filters : FiltersSo e accepts old new
  -- A watch that expires has its bank restored or locked.
  pub expires : Expires e accepts old new
  -- A stage that is passed is noted.
  pub boots : Boots e old new
  -- What guards the banks is moved by ticks and notes alone.
  pub guards : GuardsFollow e old new
  -- What is noted belongs to the event.
  pub belongs : NotesBelong e old new
  -- No device is written but of banks that are in work, and the store for these or by a provision.
  pub apart : LeavesOthers e old new
  -- A bank's log and floor change only while it is in work, and cancelled keys only by a certificate.
  pub in_work : StoreChangesInWork e old new
  -- An event that the banks don't take, and a tick by which no watch expires, do nothing.
  pub quiet : StaysQuiet e old new
  -- A loss of power is noted exactly of a device that lost it,
  pub losses : LossesAreNoted old new
  -- as the last note,
  pub lost : LostEnds old new
  -- and without a device exactly where an event takes the power.
  pub off : NotesOff e old new
  -- Each lock for a fault has a fault of its device that was counted, and each fault a lock.
  pub faults : (which : Device) → FaultsAreCounted e which old new
  -- Devices fail as they are armed to, or for want of room, and no other way.
  pub scripted : CanCount old → FailsByScript old new
  -- Each device did what calls do.
  pub moved : AllMoved (begun e old) new
  -- The counts that notes carry rise.
  pub counted : CountsRise old new
