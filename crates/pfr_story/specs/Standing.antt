-- How a bank stands, by what was noted.
use Rattle.std.specs.Prelude.{List, [], ◌∷◌, Bool, true, false, if◌then◌else◌}
use Rattle.pfr_flash.specs.declared.names.Bank.{Bank}
use Rattle.pfr_report.specs.declared.note.Note.{Note}
use Rattle.pfr_report.specs.declared.note.What.{What}
use Rattle.pfr_report.specs.declared.note.What.TheVariants as what
use Rattle.pfr_story.specs.Guards.{same_bank}
use Rattle.pfr_story.specs.declared.line.Line.{Line}
use Rattle.pfr_story.specs.declared.line.Line.TheVariants as line

pub data Standing : Type 0 where
  Off : Standing
  Held : Standing
  Running : Standing
  Locked : Standing

-- how a bank stands once this is noted
abbrev pub standing_after : Bank → What → Standing → Standing
standing_after which (what.Held b counts) s = if same_bank which b then Held else s
standing_after which (what.Released b svn counts) s = if same_bank which b then Running else s
standing_after which (what.Locked b why counts) s = if same_bank which b then Locked else s
standing_after which (what.Lost device counts) s = Off
standing_after which _ s = s

abbrev pub standing_from : Bank → Standing → List Note → Standing
standing_from which s [] = s
standing_from which s (note ∷ notes) = standing_from which (standing_after which note.what s) notes

-- Running, Locked or Off as the last of the bank's notes says, and Off where there is none
abbrev pub standing_of : Bank → List Note → Standing
standing_of which notes = standing_from which Off notes

abbrev pub is_off : Standing → Bool
is_off Off = true
is_off _ = false

abbrev pub is_running : Standing → Bool
is_running Running = true
is_running _ = false

-- what the platform says of a bank between two events
abbrev pub standing_by : Line → Standing
standing_by line.Off = Off
standing_by line.Locked = Locked
standing_by line.Running = Running
