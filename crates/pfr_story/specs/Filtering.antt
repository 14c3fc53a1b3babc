-- What a step promises of frames on the buses of a bank that runs.
use Rattle.std.specs.Prelude.{◌≡◌, ◌≢◌, ◌↔◌, ℕ, List, Ok, Err}
use Rattle.pfr_flash.specs.FlashState.{now, size_of}
use Rattle.pfr_flash.specs.Operation.{play}
use Rattle.pfr_flash.specs.Plan.{DoesPart}
use Rattle.pfr_flash.specs.declared.names.Bank.{Bank}
use Rattle.pfr_flash.specs.declared.names.Device.{Device}
use Rattle.pfr_engine.specs.Acceptance.{Acceptance}
use Rattle.pfr_fuses.specs.RootSlot.{layout_of}
use Rattle.pfr_auth.specs.Trusted.{IsTrusted}
use Rattle.pfr_filter.specs.Asking.{bus_ops}
use Rattle.pfr_filter.specs.Frames.{verdict_on, bus_plan}
use Rattle.pfr_filter.specs.declared.verdict.BlockCause.{BlockCause}
use Rattle.pfr_filter.specs.declared.verdict.BusOp.{BusOp}
use Rattle.pfr_filter.specs.declared.verdict.Verdict.{Verdict}
use Rattle.pfr_filter.specs.declared.verdict.Verdict.TheVariants.{Pass, Block}
use Rattle.pfr_smbus.specs.declared.cause.SmbusCause.{SmbusCause}
use Rattle.pfr_script.specs.declared.event.Event.{Event}
use Rattle.pfr_script.specs.declared.event.Event.TheVariants as event
use Rattle.pfr_report.specs.Texts.{IsNoted}
use Rattle.pfr_report.specs.declared.note.What.TheVariants.{BusPassed, BusBlocked, SmbusPassed, SmbusBlocked}
use Rattle.pfr_story.specs.Guards.{guard_at}
use Rattle.pfr_story.specs.Story.{device_of}
use Rattle.pfr_story.specs.World.{World, state_at, added}
use Rattle.pfr_story.specs.Plans.{judge_smbus}
use Rattle.pfr_story.specs.Promises.{IsUntroubled, Runs}

-- what is noted and done of a frame on the SPI bus of a bank, by its verdict
pub record FiltersBy (verdict : Verdict) (which : Bank) (old new : World) : Type 0 where
  -- It is noted as passed exactly where it passes, unless a call fails, and as blocked exactly where it is.
  pub passed : (op : BusOp) → IsNoted (added old new) (BusPassed which op) → verdict ≡ Pass op
  pub passes : (op : BusOp) → verdict ≡ Pass op → IsUntroubled which (added old new) → IsNoted (added old new) (BusPassed which op)
  pub blocked : (why : BlockCause) → IsNoted (added old new) (BusBlocked which why) ↔ (verdict ≡ Block why)
  -- The bank's device does what it asks for, or a front of that, the last operation perhaps torn, where a call fails.
  pub part : DoesPart (bus_plan verdict) (state_at (device_of which) old) (state_at (device_of which) new)
  pub whole : (op : BusOp) → IsNoted (added old new) (BusPassed which op)
      → now (state_at (device_of which) new) ≡ play (now (state_at (device_of which) old)) (bus_ops op)
  -- No other device does anything.
  pub others : (other : Device) → other ≢ device_of which → (state_at other new).ops ≡ (state_at other old).ops

-- by the manifest that the bank's image is trusted by, and its latch
pub record FiltersSpi (accepts : Acceptance) (which : Bank) (frame : List ℕ) (old new : World) : Type 0 where
  pub trusted : IsTrusted (now (state_at (device_of which) old)) (now old.nv) which accepts
  pub by : FiltersBy (verdict_on frame trusted.manifest (layout_of trusted.fuses.provision which) (size_of (state_at (device_of which) old)) (guard_at which old.guards).latch) which old new

-- what is noted of a frame on its SMBus, by that manifest's rules; no device does anything
pub record FiltersSmbus (accepts : Acceptance) (which : Bank) (frame : List ℕ) (old new : World) : Type 0 where
  pub trusted : IsTrusted (now (state_at (device_of which) old)) (now old.nv) which accepts
  pub passed : IsNoted (added old new) (SmbusPassed which) ↔ (judge_smbus trusted.manifest.rules frame ≡ Ok tt)
  pub blocked : (why : SmbusCause) → IsNoted (added old new) (SmbusBlocked which why) ↔ (judge_smbus trusted.manifest.rules frame ≡ Err why)
  pub still : (device : Device) → (state_at device new).ops ≡ (state_at device old).ops

-- Frames on the buses of a bank that runs are judged by what it is trusted by.
abbrev pub FiltersSo : Event → Acceptance → World → World → Type 0
FiltersSo (event.Spi which frame) accepts old new = Runs which old → FiltersSpi accepts which frame old new
FiltersSo (event.Smbus which frame) accepts old new = Runs which old → FiltersSmbus accepts which frame old new
FiltersSo e accepts old new = Unit {0}
