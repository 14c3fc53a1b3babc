-- What an event changes of the store's logs, floors and cancelled keys, operation by operation.
use Rattle.std.specs.Prelude.{◌≡◌, ◌≢◌, ◌⊎◌, ◌↔◌, ℕ, ◌+◌, ◌<◌, ◌≤◌, List}
use Rattle.pfr_flash.specs.Bytes.{bytes_at}
use Rattle.pfr_flash.specs.FlashState.{upto, op_count_of}
use Rattle.pfr_flash.specs.declared.names.Bank.{Bank}
use Rattle.pfr_flash.specs.declared.names.ContentType.{ContentType}
use Rattle.pfr_flash.specs.declared.names.Counts.{Counts}
use Rattle.pfr_fuses.specs.FuseMap.{IsFloorBit, IsCancelled}
use Rattle.pfr_jobs.specs.Log.{log_at}
use Rattle.pfr_script.specs.declared.event.Event.{Event}
use Rattle.pfr_script.specs.declared.event.Intent.TheVariants.{Cert}
use Rattle.pfr_report.specs.Texts.{IsNoted}
use Rattle.pfr_report.specs.declared.note.Note.{Note}
use Rattle.pfr_report.specs.declared.note.What.TheVariants.{Held}
use Rattle.pfr_story.specs.Promises.{IsUpdateTo}
use Rattle.pfr_story.specs.Story.{other_bank}
use Rattle.pfr_story.specs.World.{World, added}

-- At this count of the store's operations the bank is in work: it was held, and the other one before that, or only behind this count.
pub record IsInWork (which : Bank) (count : ℕ) (notes : List Note) : Type 0 where
  pub at : Counts
  pub held : IsNoted notes (Held which at)
  pub before : at.nv ≤ count
  pub alone : (other : Counts) → IsNoted notes (Held (other_bank which) other) → (other.nv ≤ at.nv) ⊎ (count < other.nv)

-- the three sectors of a bank's log, its floor, and the cancelled keys of a type, in two stores
abbrev pub SameLog : Bank → List ℕ → List ℕ → Type 0
SameLog which old new = bytes_at new (log_at which) 0x3000 ≡ bytes_at old (log_at which) 0x3000

abbrev pub SameFloor : Bank → List ℕ → List ℕ → Type 0
SameFloor which old new = (k : ℕ) → (IsFloorBit new which k ↔ IsFloorBit old which k)

abbrev pub SameRow : ContentType → List ℕ → List ℕ → Type 0
SameRow type old new = (id : ℕ) → (IsCancelled new type id ↔ IsCancelled old type id)

-- What one operation of the store changes, at its count.
pub record ChangesInWork (e : Event) (notes : List Note) (count : ℕ) (old new : List ℕ) : Type 0 where
  -- A bank's log, and its floor, change only while the bank is in work.
  pub logs : (which : Bank) → SameLog which old new ⊎ IsInWork which count notes
  pub floors : (which : Bank) → SameFloor which old new ⊎ IsInWork which count notes
  -- The cancelled keys of one type do only at an update by a certificate, while its bank is in work.
  pub rows : ((type : ContentType) → SameRow type old new)
      ⊎ ((which : Bank) × IsUpdateTo which Cert e × IsInWork which count notes × (type : ContentType) × ((other : ContentType) → other ≢ type → SameRow other old new))

-- So does each operation of the store in an event.
abbrev pub StoreChangesInWork : Event → World → World → Type 0
StoreChangesInWork e old new = (count : ℕ) → op_count_of old.nv ≤ count → count < op_count_of new.nv
    → ChangesInWork e (added old new) count (upto new.nv count) (upto new.nv (count + 1))
