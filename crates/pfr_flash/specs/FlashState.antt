-- A flash device as contracts see it.
use Rattle.std.specs.Prelude.{ℕ, ◌+◌, ◌-◌, ◌^◌, ◌≤◌, min, max, Bool, false, ◌==◌, if◌then◌else◌, List, [], ◌∷◌, ◌++◌, length, Option, Some, None, Result, Ok, Err}
use Rattle.pfr_flash.specs.Operation.{Operation, play, play_first, torn_by}
use Rattle.pfr_flash.specs.declared.flash.FlashFail.{FlashFail}
use Rattle.pfr_flash.specs.declared.flash.FlashFail.TheVariants.{Fault, Lost}

-- an armed cut or fault: the number of its operation, from 1 on, and the pattern that it leaves
pub record Due : Type 0 where
  pub number : ℕ
  pub tear : List ℕ

pub record FlashState : Type 0 where
  -- the bytes at first, and the operations done since
  pub start : List ℕ
  pub ops : List Operation
  pub powered : Bool
  -- how often a call answered Fault, and how often the device lost its power in a call
  pub faults : ℕ
  pub losses : ℕ
  -- how many cuts and faults may still be armed, and how many operations there is room for
  pub arms : ℕ
  pub room : ℕ
  -- how many bytes were asked of reads
  pub taken : ℕ
  pub cut_due : Option Due
  pub fault_due : Option Due
  pub read_due : Bool

-- the bytes after the first k operations
abbrev pub upto : FlashState → ℕ → List ℕ
upto d k = play_first k d.start d.ops

-- the bytes as they are
abbrev pub now : FlashState → List ℕ
now d = play d.start d.ops

abbrev pub size_of : FlashState → ℕ
size_of d = length d.start

abbrev pub op_count_of : FlashState → ℕ
op_count_of d = length d.ops

-- A count that is kept as a u64 stays at its end, and never falls.
abbrev pub raised_by : ℕ → ℕ → ℕ
raised_by count more = max count (min (count + more) (2 ^ 64 - 1))

-- the count rose, or stands at its end
abbrev pub Rose : ℕ → ℕ → Type 0
Rose before after = raised_by before 1 ≤ after

-- How an erase or a program ends.
pub data Ending : Type 0 where
  -- the device is off
  Off : Ending
  -- there is no room for an operation
  Full : Ending
  -- it is torn by an armed cut, or by an armed fault
  Cut : (tear : List ℕ) → Ending
  Broken : (tear : List ℕ) → Ending
  Done : Ending

-- the tear of an armed cut or fault, where its operation is that of this number
abbrev pub due_at : ℕ → Option Due → Option (List ℕ)
due_at number None = None
due_at number (Some due) = if due.number == number then Some due.tear else None

-- what stays armed once the operation of this number is done
abbrev pub due_after : ℕ → Option Due → Option Due
due_after number None = None
due_after number (Some due) = if due.number == number then None else Some due

-- where a cut and a fault meet, the cut is done
abbrev pub torn_ending : Option (List ℕ) → Option (List ℕ) → Ending
torn_ending (Some tear) fault = Cut tear
torn_ending None (Some tear) = Broken tear
torn_ending None None = Done

abbrev pub ending_with : Bool → ℕ → ℕ → Option Due → Option Due → Ending
ending_with powered count room cut_due fault_due =
    if powered
    then (if count == room then Full else torn_ending (due_at (count + 1) cut_due) (due_at (count + 1) fault_due))
    else Off

unfoldable pub ending : FlashState → Ending
ending d = ending_with d.powered (op_count_of d) d.room d.cut_due d.fault_due

-- the state with one more operation
abbrev pub with_op : FlashState → Operation → FlashState
with_op d op = record d { ops = d.ops ++ op ∷ [] }

-- what an erase or a program leaves at each ending
abbrev pub after_ending : Operation → FlashState → Ending → FlashState
after_ending op d Off = d
after_ending op d Full = record d { faults = raised_by d.faults 1 }
after_ending op d (Cut tear) = record d {
  ops = d.ops ++ torn_by tear (now d) op ∷ [];
  powered = false;
  losses = d.losses + 1;
  cut_due = None;
  fault_due = due_after (op_count_of d + 1) d.fault_due;
}
after_ending op d (Broken tear) = record d {
  ops = d.ops ++ torn_by tear (now d) op ∷ [];
  faults = raised_by d.faults 1;
  fault_due = None;
}
after_ending op d Done = with_op d op

unfoldable pub after : Operation → FlashState → FlashState
after op d = after_ending op d (ending d)

-- what an erase or a program answers at each ending
abbrev pub answer_at : Ending → Result (Unit {0}) FlashFail
answer_at Off = Err Lost
answer_at Full = Err Fault
answer_at (Cut tear) = Err Lost
answer_at (Broken tear) = Err Fault
answer_at Done = Ok tt

unfoldable pub answer : FlashState → Result (Unit {0}) FlashFail
answer d = answer_at (ending d)
