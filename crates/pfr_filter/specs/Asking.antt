-- What frames on an SPI bus ask of a flash, and what that does.
use Rattle.std.specs.Prelude.{◌≡◌, ℕ, zero, suc, ◌+◌, ◌-◌, ◌*◌, ◌/◌, ◌%◌, ◌≤◌, Bool, true, false, List, [], ◌∷◌, ◌++◌, length, map, take, drop, replicate, All}
use Rattle.pfr_flash.specs.Bytes.{bytes_at}
use Rattle.pfr_flash.specs.Numbers.{big_at}
use Rattle.pfr_flash.specs.Operation.{Operation}
use Rattle.pfr_flash.specs.Operation as operation
use Rattle.pfr_flash.specs.declared.layout.Layout.{Layout}
use Rattle.pfr_manifest.specs.Access.{IsWritable}
use Rattle.pfr_manifest.specs.declared.manifest.Manifest.{Manifest}
use Rattle.pfr_filter.specs.declared.command.Command.{Command}
use Rattle.pfr_filter.specs.declared.command.Command.TheVariants as command
use Rattle.pfr_filter.specs.declared.verdict.BusOp.{BusOp}
use Rattle.pfr_filter.specs.declared.verdict.BusOp.TheVariants.{Read, Status, Id, WriteEnable, WriteDisable, Program, Erase}

-- the address behind the opcode, its highest byte first
abbrev pub address_of : List ℕ → ℕ
address_of frame = big_at frame 1 4

-- The bytes of a page of 256 bytes into which these are programmed from a place in it on: byte i of them stands at
-- (place + i) % 256, and 0xFF where none goes.
abbrev pub page_with : ℕ → List ℕ → List ℕ
page_with place bytes =
    let padded : List ℕ = bytes ++ replicate (256 - length bytes) 255 in
    drop (256 - place) padded ++ take (256 - place) padded

-- What a frame asks for, by its opcode. A page is programmed with 256 bytes behind the address at most.
abbrev pub op_of : Command → List ℕ → BusOp
op_of command.Read frame = Read
op_of command.FastRead frame = Read
op_of command.ReadStatus frame = Status
op_of command.ReadId frame = Id
op_of command.WriteEnable frame = WriteEnable
op_of command.WriteDisable frame = WriteDisable
op_of command.PageProgram frame = Program (256 * (address_of frame / 256)) (page_with (address_of frame % 256) (bytes_at frame 5 256))
op_of command.SectorErase frame = Erase (address_of frame / 4096) 1
op_of command.BlockErase frame = Erase (16 * (address_of frame / 65536)) 16

-- so many numbers from one on
unfoldable pub numbers_from : ℕ → ℕ → List ℕ
numbers_from first zero = []
numbers_from first (suc count) = first ∷ numbers_from (first + 1) count

-- the pages of 4,096 bytes that it writes, in rising order
abbrev pub pages_of : BusOp → List ℕ
pages_of (Program at page) = at / 4096 ∷ []
pages_of (Erase sector count) = numbers_from sector count
pages_of op = []

-- it writes
abbrev pub changes : BusOp → Bool
changes (Program at page) = true
changes (Erase sector count) = true
changes op = false

-- whether writes are enabled once this has passed
abbrev pub latched : BusOp → Bool → Bool
latched WriteEnable latch = true
latched WriteDisable latch = false
latched (Program at page) latch = false
latched (Erase sector count) latch = false
latched op latch = latch

-- what the flash does
abbrev pub bus_ops : BusOp → List Operation
bus_ops (Program at page) = operation.Program at page ∷ []
bus_ops (Erase sector count) = map (λ page. operation.Erase page) (numbers_from sector count)
bus_ops op = []

-- the manifest and the layout let the bus write each page that it writes
abbrev pub IsSafe : Manifest → Layout → BusOp → Type 0
IsSafe m layout op = All (IsWritable m layout) (pages_of op)

-- a page of 256 bytes begins where a program does, and no erase goes past the largest flash
abbrev pub IsFormed : BusOp → Type 0
IsFormed (Program at page) = (at % 256 ≡ 0) × (length page ≡ 256)
IsFormed (Erase sector count) = sector + count ≤ 1048576
IsFormed op = Unit {0}
