-- What the code's table of opcodes says of each of them.
use Rattle.std.specs.Prelude.{◌≡◌, ℕ, List, Some}
use Rattle.pfr_filter.specs.Opcodes.{command_of, needs, is_addressed}
use Rattle.pfr_filter.specs.Asking.{op_of, changes}
use Rattle.pfr_filter.specs.declared.command.Row.{Row}

-- the row is that of this opcode
pub record IsRowOf (opcode : ℕ) (row : Row) : Type 0 where
  pub command : command_of opcode ≡ Some row.command
  pub needs : row.needs ≡ needs row.command
  pub addressed : row.addressed ≡ is_addressed row.command
  pub latched : (frame : List ℕ) → row.latched ≡ changes (op_of row.command frame)
