-- Which frames on an SPI bus pass to a flash.
use Rattle.std.specs.Prelude.{◌≡◌, ℕ, ◌<◌, ◌≤◌, ◌==◌, ◌||◌, not, nat_le, nat_lt, Bool, true, if◌then◌else◌, List, [], ◌∷◌, length, slice_index, All, Option, Some, None, Result, Ok, Err}
use Rattle.pfr_flash.specs.Judging.{◌>>=◌, ◌>>◌, require, known, require_none}
use Rattle.pfr_flash.specs.Operation.{Operation}
use Rattle.pfr_flash.specs.declared.layout.Layout.{Layout}
use Rattle.pfr_manifest.specs.Stretches.{stretches_of, writable_by}
use Rattle.pfr_manifest.specs.declared.manifest.Manifest.{Manifest}
use Rattle.pfr_filter.specs.Opcodes.{chip_erase, command_of, needs, is_addressed}
use Rattle.pfr_filter.specs.Asking.{address_of, op_of, pages_of, changes, bus_ops, IsSafe, IsFormed}
use Rattle.pfr_filter.specs.declared.command.Command.{Command}
use Rattle.pfr_filter.specs.declared.verdict.BlockCause.{BlockCause}
use Rattle.pfr_filter.specs.declared.verdict.BlockCause.TheVariants.{Opcode, ChipErase, ShortFrame, Range, NotWritable, NoLatch}
use Rattle.pfr_filter.specs.declared.verdict.BusOp.{BusOp}
use Rattle.pfr_filter.specs.declared.verdict.Verdict.{Verdict}
use Rattle.pfr_filter.specs.declared.verdict.Verdict.TheVariants.{Pass, Block}

-- A frame passes, and asks for this: to a flash of so many bytes, of which the bus may write these pages, and with the latch on
-- where it writes.
pub record Passes (frame : List ℕ) (IsOpen : ℕ → Type 0) (size : ℕ) (latch : Bool) (op : BusOp) : Type 0 where
  pub command : Command
  pub opcode : command_of (slice_index frame 0) ≡ Some command
  pub long : needs command ≤ length frame
  pub inside : is_addressed command ≡ true → address_of frame < size
  pub asks : op ≡ op_of command frame
  pub writable : All IsOpen (pages_of op)
  pub latched : changes op ≡ true → latch ≡ true

-- the first of these pages that the test doesn't hold of
unfoldable pub first_without : (ℕ → Bool) → List ℕ → Option ℕ
first_without test [] = None
first_without test (page ∷ pages) = if test page then first_without test pages else Some page

-- What a frame asks for, or the first cause against it. Of the first two causes only one can be so.
unfoldable pub judge_spi : List ℕ → (ℕ → Bool) → ℕ → Bool → Result BusOp BlockCause
judge_spi frame writable size latch = do
  require ChipErase (not (slice_index frame 0 == chip_erase))
  command ← known Opcode (command_of (slice_index frame 0))
  require ShortFrame (nat_le (needs command) (length frame))
  require Range (not (is_addressed command) || nat_lt (address_of frame) size)
  require_none NotWritable (first_without writable (pages_of (op_of command frame)))
  require NoLatch (not (changes (op_of command frame)) || latch)
  Ok (op_of command frame)

abbrev pub verdict_of : Result BusOp BlockCause → Verdict
verdict_of (Ok op) = Pass op
verdict_of (Err cause) = Block cause

-- by the manifest and the layout of a bank
abbrev pub verdict_on : List ℕ → Manifest → Layout → ℕ → Bool → Verdict
verdict_on frame m layout size latch = verdict_of (judge_spi frame (writable_by (stretches_of m) layout) size latch)

-- the pages that a frame would write, whatever its verdict
abbrev pub pages_asked : Option Command → List ℕ → List ℕ
pages_asked (Some command) frame = pages_of (op_of command frame)
pages_asked None frame = []

abbrev pub touched : List ℕ → List ℕ
touched frame = pages_asked (command_of (slice_index frame 0)) frame

-- what the flash does by a verdict
abbrev pub bus_plan : Verdict → List Operation
bus_plan (Pass op) = bus_ops op
bus_plan (Block cause) = []

-- the frame passed, and the bus may write what it writes
abbrev pub IsSafePass : Manifest → Layout → Verdict → Type 0
IsSafePass m layout (Pass op) = IsSafe m layout op
IsSafePass m layout (Block cause) = ⊥

abbrev pub IsFormedVerdict : Verdict → Type 0
IsFormedVerdict (Pass op) = IsFormed op
IsFormedVerdict (Block cause) = Unit {0}
