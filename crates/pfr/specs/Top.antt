-- What the top call promises.
use Rattle.std.specs.Prelude.{◌≡◌, ◌⊎◌, ℕ, List, [], ◌++◌, Bool, true, Option, Some, IsSomeAnd, map, String, Vec, string_bytes}
use Rattle.std.specs.declared.alloc.Global.{Global}
use Rattle.pfr_flash.specs.FlashState.{Rose}
use Rattle.pfr_shelf.specs.Files.{Files}
use Rattle.pfr_shelf.specs.Pieces.{AppendsPart}
use Rattle.pfr_report.specs.Texts.{report}
use Rattle.pfr.specs.Checks.{IsVerdictsText}
use Rattle.pfr.specs.Commands.{command_of}
use Rattle.pfr.specs.Judging.{FileRow, run_rows, check_rows}
use Rattle.pfr.specs.Lines.{error_line}
use Rattle.pfr.specs.Making.{cert_names, cert_rows, make_names, make_rows, provision_names, provision_rows}
use Rattle.pfr.specs.Runs.{Outside, Said}
use Rattle.pfr.specs.Storing.{image_names}
use Rattle.pfr.specs.declared.finished.Bench.{Bench}
use Rattle.pfr.specs.declared.words.Command.{Command}
use Rattle.pfr.specs.declared.words.Command.TheVariants.{Run, Check, Make, Provision, Cert}
use Rattle.pfr.specs.declared.status.Role.{Role}
use Rattle.pfr.specs.declared.status.Status.{Status}
use Rattle.pfr.specs.declared.status.Status.TheVariants.{Done, WriteFault, StoreFault, NoMemory}

-- the command that the words are
abbrev pub asked : Vec (String Global) Global → Option Command
asked words = command_of (map (λ word. string_bytes word) words.items)

-- after the text the sink got the line; where its count rose, it may be a first part of the line
abbrev pub EndsWithLine : Bool → Outside → Outside → List ℕ → List ℕ → Type 0
EndsWithLine told before after text line = told ≡ true → (after.output ≡ before.output ++ (text ++ line))
    ⊎ (Rose before.sink_faults after.sink_faults × AppendsPart (before.output ++ text) after.output line)

-- what a command writes where it is done: a run the report of its notes, a check the verdicts of what its files hold, and others nothing
abbrev pub IsTextOf : Bool → Files → Option Command → Option Bench → List ℕ → Type 0
IsTextOf tells files (Some (Run request)) option text = IsSomeAnd option (λ bench. text ≡ report bench.notes.list)
IsTextOf tells files (Some (Check request)) option text = IsVerdictsText tells files request text
IsTextOf tells files asks option text = text ≡ []

-- what a command had written before the line of its status: only a run had written anything
abbrev pub WroteBefore : Option Command → Option Bench → Status → List ℕ → Type 0
WroteBefore (Some (Run request)) option status text = Said option status text
WroteBefore asks option status text = text ≡ []

-- what the sink got before the line of the status
abbrev pub Got : Bool → Bool → Outside → Outside → Option Command → Option Bench → Status → Type 0
Got tells told before after asks option Done =
    (text : List ℕ) × IsTextOf tells before.files asks option text × (told ≡ true → after.output ≡ before.output ++ text)
Got tells told before after asks option WriteFault =
    (text : List ℕ) × IsTextOf tells before.files asks option text × (told ≡ true → AppendsPart before.output after.output text)
Got tells told before after asks option status =
    (text : List ℕ) × WroteBefore asks option status text × (told ≡ true → after.output ≡ before.output ++ text)

-- what the sink got: at Done and WriteFault, which have no line, nothing more
abbrev pub Output : Bool → Bool → Outside → Outside → Option Command → Option Bench → Status → Type 0
Output tells told before after asks option Done = Got tells told before after asks option Done
Output tells told before after asks option WriteFault = Got tells told before after asks option WriteFault
Output tells told before after asks option status =
    (text : List ℕ) × WroteBefore asks option status text × EndsWithLine told before after text (error_line status)

-- the files of a command, in order
abbrev pub rows_of : Command → Files → List FileRow
rows_of (Run request) files = run_rows request files
rows_of (Check request) files = check_rows request files
rows_of (Make request) files = make_rows request files
rows_of (Provision request) files = provision_rows request files
rows_of (Cert request) files = cert_rows request files

-- the roles and the names of the files that a command stores
abbrev pub stored_names : Command → List (Role × List ℕ)
stored_names (Run request) = image_names request
stored_names (Check request) = []
stored_names (Make request) = make_names request
stored_names (Provision request) = provision_names request
stored_names (Cert request) = cert_names request

-- no command stores anything at such a status
abbrev pub IsIdle : Status → Type 0
IsIdle Done = ⊥
IsIdle (StoreFault file) = ⊥
IsIdle NoMemory = ⊥
IsIdle status = Unit {0}

-- this command stores nothing, or nothing at such a status
abbrev pub StoresNothing : Option Command → Status → Type 0
StoresNothing (Some (Check request)) status = Unit {0}
StoresNothing asks status = IsIdle status

-- This status, or want of memory.
abbrev pub IsOrNoMemory : Status → Status → Type 0
IsOrNoMemory wanted status = (status ≡ wanted) ⊎ (status ≡ NoMemory)
