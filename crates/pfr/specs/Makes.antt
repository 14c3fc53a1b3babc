-- What a command that makes files does, status by status.
use Rattle.std.specs.Prelude.{◌≡◌, ◌≢◌, ◌⊎◌, ℕ, List, [], ◌∷◌, Bool, true, Option, None, All}
use Rattle.pfr_flash.specs.FlashState.{Rose}
use Rattle.pfr_shelf.specs.Failures.{Failure}
use Rattle.pfr_shelf.specs.Files.{Files, put_file, SameBut}
use Rattle.pfr.specs.Judging.{FileRow, Keeps, RefusesFor, verdict}
use Rattle.pfr.specs.Making.{StoredFile}
use Rattle.pfr.specs.Runs.{Outside}
use Rattle.pfr.specs.Storing.{IsBlamedStore}
use Rattle.pfr.specs.declared.finished.Bench.{Bench}
use Rattle.pfr.specs.declared.status.Role.{Role}
use Rattle.pfr.specs.declared.status.Status.{Status}
use Rattle.pfr.specs.declared.status.Status.TheVariants.{Done, StoreFault, NoMemory}

-- the files, once these were stored one after another: of names that are the same the last is kept
abbrev pub put_all : List StoredFile → Files → Files
put_all [] files = files
put_all (stored ∷ others) files = put_all others (put_file files stored.name stored.bytes)

-- the store of this role's file failed: it may hold anything, and those before it were stored
abbrev pub StopsAt : Role → List StoredFile → Files → Files → Type 0
StopsAt file [] old new = ⊥
StopsAt file (stored ∷ others) old new = ((stored.role ≡ file) × SameBut stored.name old new) ⊎ StopsAt file others (put_file old stored.name stored.bytes) new

-- The files of the shelf where it tells them. Where it does not, some files: a description that nobody tells may name any.
abbrev pub MayHold : Bool → Files → Files → Type 0
MayHold told files held = told ≡ true → held ≡ files

-- a file was refused
pub record RefusesSome (told : Bool) (files : Files) (rows : Files → List FileRow) (before after : ℕ) (failed : Option Failure) (status : Status) : Type 0 where
  pub held : Files
  pub may : MayHold told files held
  pub cause : RefusesFor told (rows held) before after failed status

-- When such a command gives a status, and which files it leaves. Its files say `rows`, and it stores `stores`, under these names.
abbrev pub MakesFor : Bool → Outside → Outside → (Files → List FileRow) → List (Role × List ℕ) → (Files → List StoredFile) → Status → Type 0
MakesFor told before after rows names stores Done =
    told ≡ true → (verdict (rows before.files) ≡ Keeps) × (after.files ≡ put_all (stores before.files) before.files)
MakesFor told before after rows names stores (StoreFault file) =
    Rose before.shelf_faults after.shelf_faults × IsBlamedStore file names after.shelf_failed
    × (told ≡ true → (verdict (rows before.files) ≡ Keeps) × StopsAt file (stores before.files) before.files after.files)
MakesFor told before after rows names stores NoMemory =
    told ≡ true → (after.files ≡ before.files)
    ⊎ ((verdict (rows before.files) ≡ Keeps) × ((file : Role) × StopsAt file (stores before.files) before.files after.files))
MakesFor told before after rows names stores status =
    RefusesSome told before.files rows before.shelf_faults after.shelf_faults after.shelf_failed status × (told ≡ true → after.files ≡ before.files)

-- Whatever its status, it has no bench.
pub record MakingAnswers (told : Bool) (before after : Outside) (rows : Files → List FileRow) (names : List (Role × List ℕ)) (stores : Files → List StoredFile) (option : Option Bench) (status : Status) : Type 0 where
  pub cause : MakesFor told before after rows names stores status
  pub bench : option ≡ None

-- each file but those of these names is as before
abbrev pub KeepsAllBut : List (Role × List ℕ) → Files → Files → Type 0
KeepsAllBut names old new = (name : List ℕ) → All (λ named. name ≢ named.1) names → new name ≡ old name

-- the shelf alone, where nothing is written
abbrev pub shelf_alone : {S : Type 0} → (S → Files) → (S → ℕ) → (S → Option Failure) → S → Outside
shelf_alone files faults failed shelf = record { files = files shelf; shelf_faults = faults shelf; shelf_failed = failed shelf; output = []; sink_faults = 0 }
