-- A whole run, from its loads to its stores.
use Rattle.std.proofs.Common.{◌≡◌, ◌∙◌, ap, sym, subst, inr, ℕ, ◌≤◌, List, length, take, Bool, true, Some, arith}
use Rattle.std.proofs.Math.Seq.{take-length}
use Rattle.pfr_shelf.specs.Files.{Files}
use Rattle.pfr_script.specs.ScriptState.{ScriptState}
use Rattle.pfr_script.specs.declared.item.Item.{Item}
use Rattle.pfr_engine.specs.declared.row.Row.{Row}
use Rattle.pfr.specs.Benches.{IsRun, HasRun, IsMadeOf}
use Rattle.pfr.specs.Judging.{Keeps, HoldsRows, HoldsScript, run_rows, verdict}
use Rattle.pfr.specs.Loading.{IsLoaded}
use Rattle.pfr.specs.Played.{IsRunOf}
use Rattle.pfr.specs.Request.{RunRequest}
use Rattle.pfr.specs.Runs.{Delivers, IsPart, IsWhole, Outside, RunAnswers}
use Rattle.pfr.specs.Storing.{StopsStoring, with_images}
use Rattle.pfr.specs.declared.finished.Bench.{Bench}
use Rattle.pfr.specs.declared.load.Loaded.{Loaded}
use Rattle.pfr.specs.declared.status.Status.{Status}
use Rattle.pfr.specs.declared.status.Status.TheVariants.{Done, Usage, BadInput, TooLong, ReadFault, WriteFault, StoreFault, NoMemory}

-- what was loaded, in a bench
made_of : (files : Files) (request : RunRequest) (wear : ℕ) (loaded : Loaded) (bench : Bench) (items : List Item) → IsLoaded files request loaded → IsRunOf wear loaded bench items → IsMadeOf files request bench
made_of files request wear loaded bench items found ran = record {
  bmc = found.bmc ∙ ap Some (sym ran.bmc);
  pch = found.pch ∙ ap Some (sym ran.pch);
  nv = found.nv ∙ ap Some (sym ran.nv);
  engine = subst (λ (e : List Row). HoldsRows files request.engine e) (sym ran.engine) found.engine;
  script = subst (λ (s : ScriptState). HoldsScript files request.script s) (sym ran.script) found.script;
}

pub whole_run : (told : Bool) (before : Outside) (request : RunRequest) (loaded : Loaded) (bench : Bench) → (told ≡ true → IsLoaded before.files request loaded)
    → (told ≡ true → verdict (run_rows request before.files) ≡ Keeps) → IsRunOf request.wear loaded bench bench.script.items → IsWhole told before request bench
whole_run told before request loaded bench found sound ran = record {
  run = ran.run;
  rooms = ran.rooms;
  made = λ t. made_of before.files request request.wear loaded bench bench.script.items (found t) ran;
  sound = sound;
}

pub part_run : (told : Bool) (before : Outside) (request : RunRequest) (loaded : Loaded) (bench : Bench) (count : ℕ) → (told ≡ true → IsLoaded before.files request loaded)
    → (told ≡ true → verdict (run_rows request before.files) ≡ Keeps) → IsRunOf request.wear loaded bench (take count bench.script.items) → IsPart told before request bench
part_run told before request loaded bench count found sound ran = record {
  count = count;
  run = ran.run;
  rooms = ran.rooms;
  made = λ t. made_of before.files request request.wear loaded bench (take count bench.script.items) (found t) ran;
  sound = sound;
}

pub has_part : (wear : ℕ) (loaded : Loaded) (bench : Bench) (count : ℕ) → IsRunOf wear loaded bench (take count bench.script.items) → HasRun bench
has_part wear loaded bench count ran = record { count = count; run = ran.run; limits = ran.limits; sizes = ran.sizes; texts = ran.texts }

pub has_whole : (wear : ℕ) (loaded : Loaded) (bench : Bench) → IsRunOf wear loaded bench bench.script.items → HasRun bench
has_whole wear loaded bench ran = record {
  count = length bench.script.items;
  run = subst (λ (items : List Item). IsRun items bench) (sym (take-length bench.script.items)) ran.run;
  limits = ran.limits;
  sizes = ran.sizes;
  texts = ran.texts;
}

-- a whole run, and then its report and its stores
pub run_delivered : (told : Bool) (before mid after : Outside) (request : RunRequest) (bench : Bench) (status : Status) → IsWhole told before request bench → (told ≡ true → mid.files ≡ before.files)
    → before.shelf_faults ≤ mid.shelf_faults → mid.sink_faults ≡ before.sink_faults → Delivers told mid after request bench status → RunAnswers told before after request (Some bench) status
run_delivered told before mid after request bench Done whole same shelf sink d = (whole, λ t. d t ∙ ap (λ f. with_images f request bench) (same t))
run_delivered told before mid after request bench WriteFault whole same shelf sink d = (whole, let r = d.0 in omega arith, λ t. d.1 t ∙ same t)
run_delivered told before mid after request bench (StoreFault role) whole same shelf sink d =
    (whole, let r = d.0 in omega arith, d.1, λ t. subst (λ (f : Files). StopsStoring role f request bench after.files) (same t) (d.2 t))
run_delivered told before mid after request bench NoMemory whole same shelf sink d =
    inr (record { whole = whole; files = λ t. ((d t).0, subst (λ (f : Files). StopsStoring (d t).0 f request bench after.files) (same t) (d t).1) })
run_delivered told before mid after request bench Usage whole same shelf sink d = absurd d
run_delivered told before mid after request bench (BadInput file place why) whole same shelf sink d = absurd d
run_delivered told before mid after request bench (TooLong file) whole same shelf sink d = absurd d
run_delivered told before mid after request bench (ReadFault file) whole same shelf sink d = absurd d
