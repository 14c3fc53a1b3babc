-- What a bench promises of failures, by the laws of runs and what is true of every script.
use Rattle.std.proofs.Common.{◌≡◌, ◌∙◌, ◌+◌, ◌≤◌, ◌<◌, ℕ, List, [], ap, arith, cond, length, refl, subst, take, Option}
use Rattle.std.proofs.lemmas.List.{length-take}
use Rattle.std.proofs.lemmas.List.Elements.{All-take}
use Rattle.std.proofs.lemmas.List.Sums.{sum_by-take-le}
use Rattle.std.specs.Prelude.{IfSome, None, false, min}
use Rattle.pfr_flash.specs.FlashState.{FlashState, op_count_of}
use Rattle.pfr_flash.specs.declared.names.Device.{Device}
use Rattle.pfr_flash.specs.declared.names.Device.TheVariants as device
use Rattle.pfr_engine.specs.Accepting.{acceptance}
use Rattle.pfr_script.specs.Arms.{FewItems, arms_in, is_arm_of}
use Rattle.pfr_script.specs.declared.item.Item.{Item}
use Rattle.pfr_story.specs.CalmRun.{calm_run}
use Rattle.pfr_story.specs.FaultCount.{LocksAreCounted}
use Rattle.pfr_story.specs.Guards.{Guards}
use Rattle.pfr_story.specs.Scripted.{HasRoomLeft, IsEvent}
use Rattle.pfr_story.specs.Story.{Story}
use Rattle.pfr_story.specs.World.{World, past_of, state_at, story_of}
use Rattle.pfr_story.proofs.ScriptRunLaws.{IsAtRest, Reached-arms, Reached-by_script, Reached-calm, Reached-locks_counted, Reached-undisturbed}
use Rattle.pfr.specs.Benches.{HasRun, IsRun, StandsAs, end_of, fresh_of}
use Rattle.pfr.specs.ScriptsFaults.{CountsFaults, HasScriptsFaults, IsToldBy, RunsCalm, StaysUndisturbed}
use Rattle.pfr.specs.declared.finished.Bench.{Bench}
use Rattle.pfr.proofs.BenchLemmas.{as_if, of_each, of_end}

-- ---- the first items of a script
few_taken : (n : ℕ) (items : List Item) → FewItems items → length (take n items) ≤ 65536
few_taken n items few = omega (arith, few, length-take n items)

arms_taken : (which : Device) (n : ℕ) (items : List Item) → arms_in which items ≤ 256 → arms_in which (take n items) ≤ 256
arms_taken which n items few = omega (arith, few, sum_by-take-le (λ (x : Item). cond (is_arm_of which x) 1 0) items n)

-- ---- a device as it was made
no_fault : (bench : Bench) (which : Device) → (state_at which (fresh_of bench)).faults ≡ 0
no_fault bench device.Bmc = refl
no_fault bench device.Pch = refl
no_fault bench device.Nv = refl

all_arms : (bench : Bench) (which : Device) → (state_at which (fresh_of bench)).arms ≡ 256
all_arms bench device.Bmc = refl
all_arms bench device.Pch = refl
all_arms bench device.Nv = refl

at_rest : (bench : Bench) (which : Device) → IsAtRest (state_at which (fresh_of bench))
at_rest bench device.Bmc = record { cut = refl; fault = refl; read = refl; faults = refl }
at_rest bench device.Pch = record { cut = refl; fault = refl; read = refl; faults = refl }
at_rest bench device.Nv = record { cut = refl; fault = refl; read = refl; faults = refl }

-- ---- the end
room_there : (there here : World) → StandsAs there here → HasRoomLeft here → HasRoomLeft there
room_there there here s room device.Bmc = subst (λ (d : FlashState). op_count_of d < d.room) s.bmc (room device.Bmc)
room_there there here s room device.Pch = subst (λ (d : FlashState). op_count_of d < d.room) s.pch (room device.Pch)
room_there there here s room device.Nv = subst (λ (d : FlashState). op_count_of d < d.room) s.nv (room device.Nv)

locks_as : (w : World) (item spare : ℕ) (guards : Guards) → LocksAreCounted w → LocksAreCounted (as_if w item spare guards)
locks_as w item spare guards p = record { bmc = p.bmc; pch = p.pch; nv = p.nv; twice = p.twice }

has_counted : (bench : Bench) → HasRun bench → CountsFaults bench
has_counted bench has =
    of_end (λ (w : World). LocksAreCounted w) bench has (locks_as has.run.end (end_of bench).item (end_of bench).notes.spare (end_of bench).guards
    (Reached-locks_counted (acceptance bench.engine) bench.script.tears (take has.count bench.script.items) (fresh_of bench) has.run.end refl (no_fault bench) (few_taken has.count bench.script.items has.limits.few) has.run.reached))

has_scripted : (bench : Bench) → HasRun bench → HasScriptsFaults bench
has_scripted bench has =
    let items = take has.count bench.script.items in
    let reached =
    Reached-by_script (acceptance bench.engine) bench.script.tears items (fresh_of bench) has.run.end (no_fault bench) (few_taken has.count bench.script.items has.limits.few) has.run.reached in
    record {
      count = has.count;
      end = has.run.end;
      reached = reached;
      left = has.run.left;
      arms = λ which.
          let all = all_arms bench which in
          let few = arms_taken which has.count bench.script.items (has.limits.arms which) in
          Reached-arms bench.script.tears which items (fresh_of bench) has.run.end (omega (arith, all, few)) reached ∙ all;
    }

has_undisturbed : (bench : Bench) → HasRun bench → StaysUndisturbed bench
has_undisturbed bench has events room =
    let p =
    Reached-undisturbed (acceptance bench.engine) bench.script.tears (take has.count bench.script.items) (fresh_of bench) has.run.end refl (at_rest bench)
    (All-take IsEvent has.count bench.script.items events) (room_there has.run.end (end_of bench) has.run.left room) has.run.reached in
    (rw has.run.left.notes p.0, λ which. rw has.run.left.notes (p.1 which))

has_calm : (bench : Bench) → HasRun bench → RunsCalm bench
has_calm bench has items run events room =
    let is =
    Reached-calm (acceptance bench.engine) bench.script.tears items (fresh_of bench) run.end (at_rest bench) events (room_there run.end (end_of bench) run.left room) run.reached in
    record {
      bmc = ap past_of run.left.bmc ∙ ap (λ (s : Story). s.bmc) is;
      pch = ap past_of run.left.pch ∙ ap (λ (s : Story). s.pch) is;
      nv = ap past_of run.left.nv ∙ ap (λ (s : Story). s.nv) is;
      notes = run.left.notes ∙ ap (λ (s : Story). s.notes) is;
    }

-- ---- of each bench
pub each_counted_fault : (option : Option Bench) → IfSome option HasRun → IfSome option CountsFaults
each_counted_fault option has = of_each CountsFaults has_counted option has

pub each_scripted : (option : Option Bench) → IfSome option HasRun → IfSome option HasScriptsFaults
each_scripted option has = of_each HasScriptsFaults has_scripted option has

pub each_undisturbed : (option : Option Bench) → IfSome option HasRun → IfSome option StaysUndisturbed
each_undisturbed option has = of_each StaysUndisturbed has_undisturbed option has

pub each_calm : (option : Option Bench) → IfSome option HasRun → IfSome option RunsCalm
each_calm option has = of_each RunsCalm has_calm option has
