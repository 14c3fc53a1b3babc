-- What a platform has done: the operations of its devices and its notes; and plans of what it is to do.
use Rattle.std.specs.Prelude.{◌≡◌, ℕ, List, [], ◌∷◌, ◌++◌, length, map}
use Rattle.pfr_flash.specs.Operation.{Operation, play, IsTorn}
use Rattle.pfr_flash.specs.declared.names.Bank.{Bank}
use Rattle.pfr_flash.specs.declared.names.Bank.TheVariants as bank
use Rattle.pfr_flash.specs.declared.names.Counts.{Counts}
use Rattle.pfr_flash.specs.declared.names.Device.{Device}
use Rattle.pfr_flash.specs.declared.names.Device.TheVariants as device
use Rattle.pfr_report.specs.declared.note.Note.{Note}
use Rattle.pfr_report.specs.declared.note.What.{What}
use Rattle.pfr_story.specs.Guards.{Guards, guards_after}

-- the bytes of a device at first, and the operations done since
pub record Past : Type 0 where
  pub start : List ℕ
  pub ops : List Operation

pub record Story : Type 0 where
  pub bmc : Past
  pub pch : Past
  pub nv : Past
  -- the number of the item that is being done, and the notes so far
  pub item : ℕ
  pub notes : List Note
  pub guards : Guards

-- the bytes as they are
abbrev pub image_of : Past → List ℕ
image_of past = play past.start past.ops

abbrev pub past_at : Device → Story → Past
past_at device.Bmc story = story.bmc
past_at device.Pch story = story.pch
past_at device.Nv story = story.nv

abbrev pub image_at : Device → Story → List ℕ
image_at which story = image_of (past_at which story)

abbrev pub device_of : Bank → Device
device_of bank.Bmc = device.Bmc
device_of bank.Pch = device.Pch

abbrev pub other_bank : Bank → Bank
other_bank bank.Bmc = bank.Pch
other_bank bank.Pch = bank.Bmc

-- how many operations each device has done
abbrev pub counts_of : Story → Counts
counts_of story = record { bmc = length story.bmc.ops; pch = length story.pch.ops; nv = length story.nv.ops }

-- One thing that is done: something is noted, with the counts of that moment, or a device does one operation, or it is only
-- asked.
pub data Move : Type 0 where
  Says : (what : Counts → What) → Move
  Does : (which : Device) (op : Operation) → Move
  Asks : (which : Device) → Move

abbrev pub with_op : Past → Operation → Past
with_op past op = record past { ops = past.ops ++ op ∷ [] }

abbrev pub operated : Device → Operation → Story → Story
operated device.Bmc op story = record story { bmc = with_op story.bmc op }
operated device.Pch op story = record story { pch = with_op story.pch op }
operated device.Nv op story = record story { nv = with_op story.nv op }

-- a note moves the guards too
abbrev pub noted : (Counts → What) → Story → Story
noted what story = record story {
  notes = story.notes ++ (record { item = story.item; what = what (counts_of story) } ∷ []);
  guards = guards_after (what (counts_of story)) story.guards;
}

abbrev pub moved_by : Move → Story → Story
moved_by (Says what) story = noted what story
moved_by (Does which op) story = operated which op story
moved_by (Asks which) story = story

-- the story once these moves are made, in order
abbrev pub after : List Move → Story → Story
after [] story = story
after (move ∷ moves) story = after moves (moved_by move story)

-- A plan says, of each story, what is to be done next.
abbrev pub Plan : Type 0
Plan = Story → List Move

-- one plan, and then another from where the first leads
abbrev pub then : Plan → Plan → Plan
then first second story = first story ++ second (after (first story) story)

abbrev pub says : (Counts → What) → Plan
says what story = Says what ∷ []

-- these operations of a device, in order
abbrev pub all_do : Device → List Operation → List Move
all_do which ops = map (λ op. Does which op) ops

-- a call of a device that is to do these operations, and may ask it besides
abbrev pub called : Device → List Operation → List Move
called which ops = all_do which ops ++ Asks which ∷ []

-- How a call of this device failed in place of the next move: it was only asked, or it did nothing of its operation, or a torn
-- one.
pub data FailedAt (which : Device) (story : Story) : Move → List Move → Type 0 where
  asking : FailedAt which story (Asks which) []
  unbegun : (op : Operation) → FailedAt which story (Does which op) []
  torn : (op done : Operation) → IsTorn (image_at which story) op done → FailedAt which story (Does which op) (Does which done ∷ [])

-- The moves that were made where a call of this device failed: a front of the plan up to a move of this device.
pub record IsCut (which : Device) (moves : List Move) (story : Story) (trace : List Move) : Type 0 where
  pub front : List Move
  pub next : Move
  pub rest : List Move
  pub last : List Move
  pub plan : moves ≡ front ++ (next ∷ rest)
  pub is : trace ≡ front ++ last
  pub failed : FailedAt which (after front story) next last
