-- What a step does.
use Rattle.std.specs.Prelude.{ℕ, ◌+◌, ◌&&◌, ◌||◌, not, List, [], ◌∷◌, Bool, true, false, None}
use Rattle.pfr_flash.specs.declared.names.Bank.{Bank}
use Rattle.pfr_flash.specs.declared.names.Bank.TheVariants as bank
use Rattle.pfr_flash.specs.declared.names.Device.{Device}
use Rattle.pfr_flash.specs.declared.names.Device.TheVariants as device
use Rattle.pfr_engine.specs.Acceptance.{Acceptance}
use Rattle.pfr_fuses.specs.declared.root_slot.RootSlot.{RootSlot}
use Rattle.pfr_script.specs.declared.event.Event.{Event}
use Rattle.pfr_script.specs.declared.event.Event.TheVariants as event
use Rattle.pfr_script.specs.declared.event.Intent.{Intent}
use Rattle.pfr_watch.specs.Stages.{next_stage}
use Rattle.pfr_watch.specs.Watching.{unless_done, expires, ticked}
use Rattle.pfr_watch.specs.declared.stage.Stage.{Stage}
use Rattle.pfr_watch.specs.declared.stage.Stage.TheVariants.{Done}
use Rattle.pfr_report.specs.declared.note.LockWhy.{LockWhy}
use Rattle.pfr_report.specs.declared.note.LockWhy.TheVariants.{FlashFault, StoreFault}
use Rattle.pfr_report.specs.declared.note.Note.{Note}
use Rattle.pfr_report.specs.declared.note.What.{What}
use Rattle.pfr_report.specs.declared.note.What.TheVariants.{Power, Held, Locked, Lost, Ignored, Passed, Booted}
use Rattle.pfr_story.specs.Guards.{Guard, Guards, guard_at}
use Rattle.pfr_story.specs.Story.{Story, Move, Says}
use Rattle.pfr_story.specs.World.{World, story_of}
use Rattle.pfr_story.specs.Course.{Stretch, Course, Follows}
use Rattle.pfr_story.specs.Standing.{standing_of, is_off, is_running}
use Rattle.pfr_story.specs.Plans.{brought_up, migrated, provisioned, filtered, smbus_judged, expired}
use Rattle.pfr_story.specs.UpdatePlans.{updating}

abbrev pub fault_of : Device → LockWhy
fault_of device.Bmc = FlashFault
fault_of device.Pch = FlashFault
fault_of device.Nv = StoreFault

-- a bank is brought up; at a fault of its device or of the store it is locked, and the step goes on with the other
abbrev pub bank_stretch : Acceptance → Bank → Stretch
bank_stretch accepts which = record { plan = brought_up accepts which; on_fault = λ device. Says (Locked which (fault_of device)) ∷ []; goes_on = true }

-- both banks are locked where the fuses can't be read or migrated
abbrev pub unreadable : List Move
unreadable =
    Says (Held bank.Bmc) ∷ Says (Locked bank.Bmc StoreFault) ∷ Says (Held bank.Pch) ∷ Says (Locked bank.Pch StoreFault) ∷ []

-- the fuses are read and migrated
abbrev pub fuse_stretch : Stretch
fuse_stretch = record { plan = migrated; on_fault = λ device. unreadable; goes_on = false }

-- the platform is provisioned; at a fault of the store both banks are locked
abbrev pub provision_stretch : RootSlot → Stretch
provision_stretch what = record {
  plan = provisioned what;
  on_fault = λ device. Says (Locked bank.Bmc StoreFault) ∷ Says (Locked bank.Pch StoreFault) ∷ [];
  goes_on = false;
}

abbrev pub ignored : Course
ignored = record { first = Says (λ _. Ignored) ∷ []; stretches = [] }

abbrev pub power_course : Acceptance → Course
power_course accepts = record {
  first = Says (λ _. Power) ∷ [];
  stretches = fuse_stretch ∷ bank_stretch accepts bank.Bmc ∷ bank_stretch accepts bank.Pch ∷ [];
}

abbrev pub off_course : Course
off_course = record { first = Says (Lost None) ∷ []; stretches = [] }

abbrev pub provision_course : RootSlot → Course
provision_course what = record { first = []; stretches = provision_stretch what ∷ [] }

-- a frame on the SPI bus of a bank that runs; at a fault of its device the bank is held and locked
abbrev pub spi_stretch : Acceptance → Bank → List ℕ → Stretch
spi_stretch accepts which frame = record {
  plan = filtered accepts which frame;
  on_fault = λ device. Says (Held which) ∷ Says (Locked which FlashFault) ∷ [];
  goes_on = false;
}

abbrev pub spi_course : Acceptance → Bank → List ℕ → Course
spi_course accepts which frame = record { first = []; stretches = spi_stretch accepts which frame ∷ [] }

-- a frame on its SMBus calls no device
abbrev pub smbus_course : Acceptance → Bank → List ℕ → Story → Course
smbus_course accepts which frame story = record { first = smbus_judged accepts which frame story; stretches = [] }

-- the watch over a bank's boot expired; at a fault of its device or of the store it is locked, and the step goes on with the other
abbrev pub expiry_stretch : Acceptance → Bank → Stretch
expiry_stretch accepts which = record { plan = expired accepts which; on_fault = λ device. Says (Locked which (fault_of device)) ∷ []; goes_on = true }

-- an update of a bank, by whatever intent
abbrev pub update_stretch : Acceptance → Bank → Intent → Stretch
update_stretch accepts which intent = record { plan = updating accepts which intent; on_fault = λ device. Says (Locked which (fault_of device)) ∷ []; goes_on = false }

-- the watch of a bank that runs expires by so many ticks
abbrev pub is_due : Bank → ℕ → Story → Bool
is_due which n story = is_running (standing_of which story.notes) && expires (guard_at which story.guards).watch n

abbrev pub stretch_if : Bool → Stretch → List Stretch → List Stretch
stretch_if true stretch rest = stretch ∷ rest
stretch_if false stretch rest = rest

abbrev pub tick_course : Acceptance → ℕ → Story → Course
tick_course accepts n story = record {
  first = [];
  stretches = stretch_if (is_due bank.Bmc n story) (expiry_stretch accepts bank.Bmc) (stretch_if (is_due bank.Pch n story) (expiry_stretch accepts bank.Pch) []);
}

-- what is noted of a stage that was passed, by the next one
abbrev pub pass_note : Bank → Stage → Stage → What
pass_note which stage Done = Booted which
pass_note which stage next = Passed which stage

abbrev pub stage_at : Bank → Story → Stage
stage_at which story = (guard_at which story.guards).watch.stage

abbrev pub boot_course : Acceptance → Bank → Bool → Story → Course
boot_course accepts which true story = record { first = Says (λ _. pass_note which (stage_at which story) (next_stage (stage_at which story))) ∷ []; stretches = [] }
boot_course accepts which false story = record { first = []; stretches = expiry_stretch accepts which ∷ [] }

abbrev pub update_course : Acceptance → Bank → Intent → Course
update_course accepts which intent = record { first = []; stretches = update_stretch accepts which intent ∷ [] }

-- the banks don't take the event as they stand
abbrev pub is_idle : Event → Story → Bool
is_idle event.Power story = false
is_idle event.Off story = is_off (standing_of bank.Bmc story.notes)
is_idle (event.Provision what) story = is_off (standing_of bank.Bmc story.notes)
is_idle (event.Spi which frame) story = not (is_running (standing_of which story.notes))
is_idle (event.Smbus which frame) story = not (is_running (standing_of which story.notes))
is_idle (event.Tick n) story = false
is_idle (event.Boot which pass) story = not (is_running (standing_of which story.notes)) || unless_done (stage_at which story) false true
is_idle (event.Update which intent) story = not (is_running (standing_of which story.notes))

-- what an event calls for that is taken
abbrev pub taken : Acceptance → Event → Story → Course
taken accepts event.Power story = power_course accepts
taken accepts event.Off story = off_course
taken accepts (event.Provision what) story = provision_course what
taken accepts (event.Spi which frame) story = spi_course accepts which frame
taken accepts (event.Smbus which frame) story = smbus_course accepts which frame story
taken accepts (event.Tick n) story = tick_course accepts n story
taken accepts (event.Boot which pass) story = boot_course accepts which pass story
taken accepts (event.Update which intent) story = update_course accepts which intent

abbrev pub ignored_if : Bool → Course → Course
ignored_if true other = ignored
ignored_if false other = other

-- What a step does where no device call fails.
abbrev pub course : Acceptance → Event → Story → Course
course accepts e story = ignored_if (is_idle e story) (taken accepts e story)

abbrev pub next_item : World → World
next_item w = record w { item = w.item + 1 }

-- the watch of a bank that runs ticks
abbrev pub ticked_if : Bool → ℕ → Guard → Guard
ticked_if true n guard = record guard { watch = ticked guard.watch n }
ticked_if false n guard = guard

-- what guards the banks where the event begins
abbrev pub guards_at : Event → List Note → Guards → Guards
guards_at (event.Tick n) notes guards = record {
  bmc = ticked_if (is_running (standing_of bank.Bmc notes)) n guards.bmc;
  pch = ticked_if (is_running (standing_of bank.Pch notes)) n guards.pch;
}
guards_at e notes guards = guards

-- The next item begins with its event: a tick is counted by the watches of both banks at once.
abbrev pub begun : Event → World → World
begun e w = record w { item = w.item + 1; guards = guards_at e w.notes.list w.guards }

-- A step, which failed device calls may cut short.
abbrev pub Turn : Acceptance → Event → World → World → Type 0
Turn accepts e old new = Follows (course accepts e (story_of old)) (begun e old) new
