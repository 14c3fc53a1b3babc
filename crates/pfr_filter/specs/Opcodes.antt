-- The opcodes of frames on an SPI bus.
use Rattle.std.specs.Prelude.{ℕ, ◌==◌, Bool, true, false, if◌then◌else◌, Option, Some, None}
use Rattle.pfr_filter.specs.declared.command.Command.{Command}
use Rattle.pfr_filter.specs.declared.command.Command.TheVariants.{Read, FastRead, ReadStatus, ReadId, WriteEnable, WriteDisable, PageProgram, SectorErase, BlockErase}

-- the opcode that erases the chip
abbrev pub chip_erase : ℕ
chip_erase = 0xC7

-- what the others ask for
unfoldable pub command_of : ℕ → Option Command
command_of opcode =
    if opcode == 0x03 then Some Read
    else if opcode == 0x0B then Some FastRead
    else if opcode == 0x05 then Some ReadStatus
    else if opcode == 0x9F then Some ReadId
    else if opcode == 0x06 then Some WriteEnable
    else if opcode == 0x04 then Some WriteDisable
    else if opcode == 0x02 then Some PageProgram
    else if opcode == 0x20 then Some SectorErase
    else if opcode == 0xD8 then Some BlockErase
    else None

-- how many bytes a frame needs
abbrev pub needs : Command → ℕ
needs Read = 5
needs FastRead = 6
needs ReadStatus = 1
needs ReadId = 1
needs WriteEnable = 1
needs WriteDisable = 1
needs PageProgram = 6
needs SectorErase = 5
needs BlockErase = 5

-- an address of four bytes stands behind the opcode
abbrev pub is_addressed : Command → Bool
is_addressed Read = true
is_addressed FastRead = true
is_addressed ReadStatus = false
is_addressed ReadId = false
is_addressed WriteEnable = false
is_addressed WriteDisable = false
is_addressed PageProgram = true
is_addressed SectorErase = true
is_addressed BlockErase = true
