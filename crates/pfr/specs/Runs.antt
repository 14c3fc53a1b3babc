-- What a run does, status by status.
use Rattle.std.specs.Prelude.{◌≡◌, ◌⊎◌, ℕ, List, [], ◌++◌, take, Bool, true, Option, None, IsSomeAnd, IfSome}
use Rattle.pfr_report.specs.Texts.{report}
use Rattle.pfr_flash.specs.FlashState.{Rose}
use Rattle.pfr_shelf.specs.Failures.{Failure}
use Rattle.pfr_shelf.specs.Files.{Files}
use Rattle.pfr_shelf.specs.Pieces.{AppendsPart}
use Rattle.pfr.specs.Benches.{IsRun, HasRooms, IsMadeOf}
use Rattle.pfr.specs.Judging.{Keeps, RefusesFor, run_rows, verdict}
use Rattle.pfr.specs.Request.{RunRequest}
use Rattle.pfr.specs.Storing.{with_images, IsBlamedStore, StopsStoring, RefusesImages, image_names}
use Rattle.pfr.specs.declared.finished.Bench.{Bench}
use Rattle.pfr.specs.declared.status.Role.{Role}
use Rattle.pfr.specs.declared.status.Status.{Status}
use Rattle.pfr.specs.declared.status.Status.TheVariants.{Done, Usage, BadInput, TooLong, ReadFault, WriteFault, StoreFault, NoMemory}

-- The world outside at one moment: what the shelf and the sink hold, how often each has failed, and the shelf's last failure.
pub record Outside : Type 0 where
  pub files : Files
  pub shelf_faults : ℕ
  pub shelf_failed : Option Failure
  pub output : List ℕ
  pub sink_faults : ℕ

abbrev pub outside : {S K : Type 0} → (S → Files) → (S → ℕ) → (S → Option Failure) → (K → List ℕ) → (K → ℕ) → S → K → Outside
outside files shelf_faults shelf_failed written sink_faults shelf out = record {
  files = files shelf;
  shelf_faults = shelf_faults shelf;
  shelf_failed = shelf_failed shelf;
  output = written out;
  sink_faults = sink_faults out;
}

-- All items of the script were done, on a platform of the files.
pub record IsWhole (told : Bool) (before : Outside) (request : RunRequest) (bench : Bench) : Type 0 where
  pub run : IsRun bench.script.items bench
  pub rooms : HasRooms request.wear bench
  pub made : told ≡ true → IsMadeOf before.files request bench
  pub sound : told ≡ true → verdict (run_rows request before.files) ≡ Keeps

-- The first of the items were done, on a platform of the files.
pub record IsPart (told : Bool) (before : Outside) (request : RunRequest) (bench : Bench) : Type 0 where
  pub count : ℕ
  pub run : IsRun (take count bench.script.items) bench
  pub rooms : HasRooms request.wear bench
  pub made : told ≡ true → IsMadeOf before.files request bench
  pub sound : told ≡ true → verdict (run_rows request before.files) ≡ Keeps

-- a file was refused: nothing was done, and no file was changed
pub record IsRefused (told : Bool) (before after : Outside) (request : RunRequest) (option : Option Bench) (status : Status) : Type 0 where
  pub cause : RefusesFor told (run_rows request before.files) before.shelf_faults after.shelf_faults after.shelf_failed status
  pub bench : option ≡ None
  pub files : told ≡ true → after.files ≡ before.files

-- there was no memory for a load, for the platform or for an item, and no file was changed
pub record StopsEarly (told : Bool) (before after : Outside) (request : RunRequest) (option : Option Bench) : Type 0 where
  pub bench : IfSome option (IsPart told before request)
  pub files : told ≡ true → after.files ≡ before.files

-- there was no memory for a store
pub record StopsLate (told : Bool) (before after : Outside) (request : RunRequest) (bench : Bench) : Type 0 where
  pub whole : IsWhole told before request bench
  pub files : told ≡ true → (file : Role) × StopsStoring file before.files request bench after.files

-- When a run gives a status, with which bench, and which files it leaves.
abbrev pub RunAnswers : Bool → Outside → Outside → RunRequest → Option Bench → Status → Type 0
RunAnswers told before after request option Done =
    IsSomeAnd option (λ bench. IsWhole told before request bench
    × (told ≡ true → after.files ≡ with_images before.files request bench))
RunAnswers told before after request option Usage = ⊥
RunAnswers told before after request option (BadInput file place why) = IsRefused told before after request option (BadInput file place why)
RunAnswers told before after request option (TooLong file) = IsRefused told before after request option (TooLong file)
RunAnswers told before after request option (ReadFault file) = IsRefused told before after request option (ReadFault file)
RunAnswers told before after request option WriteFault =
    IsSomeAnd option (λ bench. IsWhole told before request bench
    × Rose before.sink_faults after.sink_faults
    × (told ≡ true → after.files ≡ before.files))
RunAnswers told before after request option (StoreFault file) =
    IsSomeAnd option (λ bench. IsWhole told before request bench
    × Rose before.shelf_faults after.shelf_faults
    × IsBlamedStore file (image_names request) after.shelf_failed
    × (told ≡ true → StopsStoring file before.files request bench after.files))
RunAnswers told before after request option NoMemory =
    StopsEarly told before after request option ⊎ IsSomeAnd option (StopsLate told before after request)

-- what a command had written before the line of its status
abbrev pub Said : Option Bench → Status → List ℕ → Type 0
Said option Done text = IsSomeAnd option (λ bench. text ≡ report bench.notes.list)
Said option (StoreFault file) text = IsSomeAnd option (λ bench. text ≡ report bench.notes.list)
Said option NoMemory text = (text ≡ []) ⊎ IsSomeAnd option (λ bench. IsRun bench.script.items bench × (text ≡ report bench.notes.list))
Said option _ text = text ≡ []

-- what the sink got from a run, before the line of its status
abbrev pub RunOutput : Bool → Outside → Outside → Option Bench → Status → Type 0
RunOutput told before after option WriteFault =
    IsSomeAnd option (λ bench. told ≡ true → AppendsPart before.output after.output (report bench.notes.list))
RunOutput told before after option status =
    (text : List ℕ) × Said option status text × (told ≡ true → after.output ≡ before.output ++ text)

-- what a whole run leaves outside: the report is written, and then the images are stored
abbrev pub Delivers : Bool → Outside → Outside → RunRequest → Bench → Status → Type 0
Delivers told before after request bench Done = told ≡ true → after.files ≡ with_images before.files request bench
Delivers told before after request bench WriteFault = Rose before.sink_faults after.sink_faults × (told ≡ true → after.files ≡ before.files)
Delivers told before after request bench status = RefusesImages told before.files after.files before.shelf_faults after.shelf_faults after.shelf_failed request bench status

-- the sink got the report of these notes and nothing else, or a first part of it
abbrev pub Reports : Bool → Outside → Outside → List ℕ → Status → Type 0
Reports told before after text WriteFault = told ≡ true → AppendsPart before.output after.output text
Reports told before after text _ = told ≡ true → after.output ≡ before.output ++ text
