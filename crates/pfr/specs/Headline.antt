-- What a bench promises of its whole run, over its devices, its notes and its script's items.
use Rattle.std.specs.Prelude.{◌≡◌, ℕ, ◌+◌, ◌*◌, ◌/◌, List, [], ◌∷◌, ◌++◌, All, slice_get, Some}
use Rattle.pfr_flash.specs.FlashState.{FlashState, upto, size_of, op_count_of}
use Rattle.pfr_flash.specs.declared.names.Bank.{Bank}
use Rattle.pfr_flash.specs.declared.names.Bank.TheVariants.{Bmc, Pch}
use Rattle.pfr_flash.specs.declared.names.Counts.{Counts}
use Rattle.pfr_engine.specs.Accepting.{acceptance}
use Rattle.pfr_recoverable.specs.Recoverable.{IsRecoverable}
use Rattle.pfr_script.specs.declared.event.Event.TheVariants.{Power}
use Rattle.pfr_script.specs.declared.item.Item.TheVariants.{Event}
use Rattle.pfr_report.specs.Texts.{IsNoted}
use Rattle.pfr_report.specs.declared.note.What.TheVariants.{Held}
use Rattle.pfr_story.specs.Bringing.{IsCalm, ReleasedSoon}
use Rattle.pfr_story.specs.Promises.{count_at}
use Rattle.pfr_story.specs.Recovery.{moments_of, Rise, StaysAlong}
use Rattle.pfr_story.specs.Spans.{spans_of}
use Rattle.pfr_story.specs.Whole.{notes_of, IsJobless}
use Rattle.pfr_story.specs.World.{past_of}
use Rattle.pfr.specs.declared.finished.Bench.{Bench}

abbrev pub device_in : Bank → Bench → FlashState
device_in Bmc bench = bench.bmc.device
device_in Pch bench = bench.pch.device

-- before the first operation, and behind the last
abbrev pub first_counts : Counts
first_counts = record { bmc = 0; pch = 0; nv = 0 }

abbrev pub last_counts : Bench → Counts
last_counts bench = record { bmc = op_count_of bench.bmc.device; pch = op_count_of bench.pch.device; nv = op_count_of bench.nv.device }

-- The counts of the run's notes never fall, from its start to its end.
abbrev pub CountsNeverFall : Bench → Type 0
CountsNeverFall bench = Rise first_counts (moments_of bench.notes.list ++ last_counts bench ∷ [])

-- the bank could be recovered at these counts
abbrev pub CouldRecover : Bench → Bank → Counts → Type 0
CouldRecover bench which at = IsRecoverable which (upto (device_in which bench) (count_at which at)) (upto bench.nv.device at.nv) (acceptance bench.engine)

-- Where a bank could be recovered at the start of the run or at a note that carries counts, it could at the next such note, and so at
-- each later one and at the end.
abbrev pub RecoversThroughout : Bench → Type 0
RecoversThroughout bench = (which : Bank) → StaysAlong (CouldRecover bench which) first_counts (moments_of bench.notes.list ++ last_counts bench ∷ [])

-- Where an item of the script is a power-on, a bank that could be recovered where it was held in that was released in it, after at most
-- 34 operations for each of its pages, unless a call failed while the bank was in work. Items are numbered from 1 on.
abbrev pub PowerOnsReleaseIn : Bench → Type 0
PowerOnsReleaseIn bench = (place : ℕ) → slice_get bench.script.items place ≡ Some (Event Power) → (which : Bank) (at : Counts)
    → IsCalm which (notes_of (place + 1) bench.notes.list) → IsNoted (notes_of (place + 1) bench.notes.list) (Held which at) → CouldRecover bench which at
    → ReleasedSoon which at (34 * (size_of (device_in which bench) / 4096)) (notes_of (place + 1) bench.notes.list)

-- While a bank stands released no job of it is open, at any count of the store.
abbrev pub RunsWithoutJobs : Bench → Type 0
RunsWithoutJobs bench = (which : Bank) → All (λ span. IsJobless which (past_of bench.nv.device) span.0 span.1) (spans_of which bench.notes.list (last_counts bench))
