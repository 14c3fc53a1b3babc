-- What the files of a command say, in the order in which they are loaded.
use Rattle.std.specs.Prelude.{◌≡◌, ◌==◌, ◌&&◌, ℕ, ◌%◌, ◌≤◌, nat_lt, nat_le, List, [], ◌∷◌, length, Bool, true, Option, Some, None, Result, Ok, Err, OnOk, IfErr, IsSomeAnd, ◌⊎◌, if◌then◌else◌}
use Rattle.pfr_flash.specs.FlashState.{Rose}
use Rattle.pfr_shelf.specs.Failures.{Failure, failing}
use Rattle.pfr_shelf.specs.Files.{Files}
use Rattle.pfr_shelf.specs.declared.failure.Access.TheVariants.{Load}
use Rattle.pfr_engine.specs.Rows.{judge_text}
use Rattle.pfr_engine.specs.declared.row.Row.{Row}
use Rattle.pfr_engine.specs.declared.engine_fail.EngineFail.{EngineFail}
use Rattle.pfr_engine.specs.declared.engine_fail.EngineFail.TheVariants as engine
use Rattle.pfr_script.specs.Reading.{judge_script}
use Rattle.pfr_script.specs.ScriptState.{ScriptState}
use Rattle.pfr_script.specs.declared.script_fail.ScriptFail.{ScriptFail}
use Rattle.pfr_script.specs.declared.script_fail.ScriptFail.TheVariants as script
use Rattle.pfr.specs.Request.{RunRequest, CheckRequest}
use Rattle.pfr.specs.declared.status.Role.{Role}
use Rattle.pfr.specs.declared.status.Role.TheVariants as role
use Rattle.pfr.specs.declared.status.Why.{Why}
use Rattle.pfr.specs.declared.status.Why.TheVariants as why
use Rattle.pfr.specs.declared.status.Status.{Status}
use Rattle.pfr.specs.declared.status.Status.TheVariants.{Done, Usage, BadInput, TooLong, ReadFault, WriteFault, StoreFault, NoMemory}

-- the most bytes that a file of this role may have; capsules and certificates are only stored
abbrev pub limit_of : Role → ℕ
limit_of role.Bmc = 67108864
limit_of role.Pch = 67108864
limit_of role.Nv = 32768
limit_of role.Engine = 4194304
limit_of role.Script = 50331648
limit_of role.Description = 262144
limit_of role.BmcImage = 67108864
limit_of role.PchImage = 67108864
limit_of role.BmcStaged = 67108864
limit_of role.PchStaged = 67108864
limit_of role.BmcCapsule = 67108864
limit_of role.PchCapsule = 67108864
limit_of role.Cert = 67108864

-- the length that an image has to have
abbrev pub image_fits : Role → ℕ → Bool
image_fits role.Nv size = size == 32768
image_fits _ size = (size % 65536 == 0) && (nat_le 65536 size && nat_le size 67108864)

-- the place of a fault, and the fault
abbrev pub Judge : Type 0
Judge = List ℕ → Option (ℕ × Why)

abbrev pub image_fault : Role → Judge
image_fault role bytes = if image_fits role (length bytes) then None else Some (length bytes, why.Size)

abbrev pub fault_in : {T : Type 0} → Result T EngineFail → Option (ℕ × Why)
fault_in (Ok rows) = None
fault_in (Err (engine.Text line cause)) = Some (line, why.Engine cause)
fault_in (Err engine.NoMemory) = None

abbrev pub engine_fault : Judge
engine_fault bytes = fault_in (judge_text bytes)

abbrev pub fault_in_script : {T : Type 0} → Result T ScriptFail → Option (ℕ × Why)
fault_in_script (Ok script) = None
fault_in_script (Err (script.Text line cause)) = Some (line, why.Script cause)
fault_in_script (Err script.NoMemory) = None

abbrev pub script_fault : Judge
script_fault bytes = fault_in_script (judge_script bytes)

-- what a file says: it is not there, it keeps its rules, or it breaks one, which this status tells
pub data Finding : Type 0 where
  Missing : Finding
  Keeps : Finding
  Breaks : Status → Finding

abbrev pub told_by : Role → Option (ℕ × Why) → Finding
told_by role None = Keeps
told_by role (Some fault) = Breaks (BadInput role fault.0 fault.1)

abbrev pub finding : Role → Judge → Option (List ℕ) → Finding
finding role judge None = Missing
finding role judge (Some bytes) =
    if nat_lt (limit_of role) (length bytes) then Breaks (TooLong role) else told_by role (judge bytes)

-- a file of a command: what it is for, its name, and what it says
pub record FileRow : Type 0 where
  pub role : Role
  pub name : List ℕ
  pub finding : Finding

-- what a shelf's files say of one of them
abbrev pub image_row : Role → List ℕ → Files → FileRow
image_row role name files = record { role = role; name = name; finding = finding role (image_fault role) (files name) }

abbrev pub engine_row : List ℕ → Files → FileRow
engine_row name files = record { role = role.Engine; name = name; finding = finding role.Engine engine_fault (files name) }

abbrev pub script_row : List ℕ → Files → FileRow
script_row name files = record { role = role.Script; name = name; finding = finding role.Script script_fault (files name) }

-- the files of a run, in order
abbrev pub run_rows : RunRequest → Files → List FileRow
run_rows request files =
    image_row role.Bmc request.bmc files ∷ image_row role.Pch request.pch files ∷ image_row role.Nv request.nv files
    ∷ engine_row request.engine files ∷ script_row request.script files ∷ []

-- the files of a check, in order: those of a run but for the script
abbrev pub check_rows : CheckRequest → Files → List FileRow
check_rows request files =
    image_row role.Bmc request.bmc files ∷ image_row role.Pch request.pch files ∷ image_row role.Nv request.nv files
    ∷ engine_row request.engine files ∷ []

-- what stands after a file
abbrev pub after_file : Finding → Finding → Finding
after_file Keeps rest = rest
after_file Missing rest = Missing
after_file (Breaks status) rest = Breaks status

-- the first that is missing or breaks a rule, or else all keep theirs
abbrev pub verdict : List FileRow → Finding
verdict [] = Keeps
verdict (file ∷ rest) = after_file file.finding (verdict rest)

-- each file before that of this role keeps its rules
abbrev pub ComesTo : Role → List FileRow → Type 0
ComesTo role [] = ⊥
ComesTo role (file ∷ rest) = (file.role ≡ role) ⊎ ((file.finding ≡ Keeps) × ComesTo role rest)

-- the last call that failed was the load of a file of this role
abbrev pub IsBlamed : Role → List FileRow → Option Failure → Type 0
IsBlamed role [] failed = ⊥
IsBlamed role (file ∷ rest) failed = ((file.role ≡ role) × (failed ≡ Some (failing Load file.name))) ⊎ IsBlamed role rest failed

-- A load gives this status only with its cause. The bytes show it if the shelf tells its files, or else the count,
-- which rose, and the last call that failed.
abbrev pub RefusesFor : Bool → List FileRow → ℕ → ℕ → Option Failure → Status → Type 0
RefusesFor tells files before after failed (BadInput file place why) = tells ≡ true → verdict files ≡ Breaks (BadInput file place why)
RefusesFor tells files before after failed (TooLong file) = tells ≡ true → verdict files ≡ Breaks (TooLong file)
RefusesFor tells files before after failed (ReadFault file) = Rose before after × IsBlamed file files failed × (tells ≡ true → ComesTo file files)
RefusesFor tells files before after failed NoMemory = Unit {0}
RefusesFor tells files before after failed Done = ⊥
RefusesFor tells files before after failed Usage = ⊥
RefusesFor tells files before after failed WriteFault = ⊥
RefusesFor tells files before after failed (StoreFault file) = ⊥

-- The loads of these files, from the shelf as it was to the shelf as it is.
pub record Loads {S T : Type 0} (tells : Bool) (files : S → Files) (faults : S → ℕ) (failed : S → Option Failure) (old new : S) (rows : Files → List FileRow) (result : Result T Status) : Type 0 where
  pub stays : tells ≡ true → files new ≡ files old
  pub ok : OnOk result (tells ≡ true → verdict (rows (files old)) ≡ Keeps)
  pub err : IfErr result (RefusesFor tells (rows (files old)) (faults old) (faults new) (failed new))
  pub later : faults old ≤ faults new

-- the file of that name is an engine's, with these rows
abbrev pub HoldsRows : Files → List ℕ → List Row → Type 0
HoldsRows files name rows = IsSomeAnd (files name) (λ bytes. judge_text bytes ≡ Ok rows)

-- the file of that name is a script, which says this
abbrev pub HoldsScript : Files → List ℕ → ScriptState → Type 0
HoldsScript files name script = IsSomeAnd (files name) (λ bytes. judge_script bytes ≡ Ok script)
