-- Which frames on an SMBus the rules of a manifest allow.
use Rattle.std.specs.Prelude.{◌≡◌, ◌==◌, ◌&&◌, ℕ, ◌/◌, ◌%◌, ◌≤◌, nat_le, Bool, List, [], ◌∷◌, length, take, slice_index, Any, Result, Ok}
use Rattle.std.specs.Int.{bit_at}
use Rattle.std.specs.List.{list_any}
use Rattle.pfr_flash.specs.Judging.{◌>>◌, require}
use Rattle.pfr_manifest.specs.declared.rule.Rule.{Rule}
use Rattle.pfr_smbus.specs.declared.frame.SmbusFrame.{SmbusFrame}
use Rattle.pfr_smbus.specs.declared.cause.SmbusCause.{SmbusCause}
use Rattle.pfr_smbus.specs.declared.cause.SmbusCause.TheVariants.{ShortFrame, BadAddress, NoRule, Command}

-- The bytes begin with this frame: bus, address, command. The address has seven bits.
pub record IsFrameOf (bytes : List ℕ) (frame : SmbusFrame) : Type 0 where
  pub begins : take 3 bytes ≡ frame.bus ∷ frame.address ∷ frame.command ∷ []
  pub address : frame.address ≤ 127

-- The frame that bytes begin with, or the first cause against them. What stands behind it isn't looked at.
unfoldable pub judge_frame : List ℕ → Result SmbusFrame SmbusCause
judge_frame bytes = do
  require ShortFrame (nat_le 3 (length bytes))
  require BadAddress (nat_le (slice_index bytes 1) 127)
  Ok (record { bus = slice_index bytes 0; address = slice_index bytes 1; command = slice_index bytes 2 })

-- The rule is for the frame's bus and address.
abbrev pub IsFor : SmbusFrame → Rule → Type 0
IsFor frame rule = (rule.bus ≡ frame.bus) × (rule.address ≡ frame.address)

-- the same as a test
abbrev pub is_for : SmbusFrame → Rule → Bool
is_for frame rule = rule.bus == frame.bus && rule.address == frame.address

-- The bit of a command, 0 or 1: bit c % 8 of byte c / 8, the lowest first.
abbrev pub command_bit : ℕ → Rule → ℕ
command_bit command rule = bit_at (slice_index rule.commands (command / 8)) (command % 8)

-- The rule has the command: its bit is set.
abbrev pub HasCommand : ℕ → Rule → Type 0
HasCommand command rule = command_bit command rule ≡ 1

-- the same as a test
abbrev pub has_command : ℕ → Rule → Bool
has_command command rule = command_bit command rule == 1

-- The rule allows the frame.
abbrev pub Allows : SmbusFrame → Rule → Type 0
Allows frame rule = IsFor frame rule × HasCommand frame.command rule

-- the same as a test
abbrev pub allows : SmbusFrame → Rule → Bool
allows frame rule = is_for frame rule && has_command frame.command rule

-- Some rule is for the frame's bus and address, and some such rule has its command.
unfoldable pub judge_allowed : List Rule → SmbusFrame → Result (Unit {0}) SmbusCause
judge_allowed rules frame = do
  require NoRule (list_any (is_for frame) rules)
  require Command (list_any (allows frame) rules)

-- what a cause tells of the rules
abbrev pub Blocks : List Rule → SmbusFrame → SmbusCause → Type 0
Blocks rules frame NoRule = ¬ Any (IsFor frame) rules
Blocks rules frame Command = Any (IsFor frame) rules × (¬ Any (Allows frame) rules)
Blocks rules frame cause = ⊥
