-- What a bench promises of its whole run, by the laws of whole runs.
use Rattle.std.proofs.Common.{◌≡◌, refl, ℕ, ◌+◌, List, take, Option}
use Rattle.std.specs.Prelude.{IfSome, slice_get, Some}
use Rattle.pfr_flash.specs.declared.names.Bank.{Bank}
use Rattle.pfr_flash.specs.declared.names.Bank.TheVariants as bank
use Rattle.pfr_flash.specs.declared.names.Counts.{Counts}
use Rattle.pfr_engine.specs.Accepting.{acceptance}
use Rattle.pfr_recoverable.specs.Recoverable.{IsRecoverable}
use Rattle.pfr_script.specs.declared.item.Item.{Item}
use Rattle.pfr_story.specs.World.{World, story_of}
use Rattle.pfr_story.specs.Recovery.{CountsRise, StaysRecoverable}
use Rattle.pfr_story.specs.Whole.{PowerOnsRelease, RunsJobless}
use Rattle.pfr_story.specs.Guards.{Guards}
use Rattle.pfr_story.proofs.TrustedRunLaws.{fresh_underway}
use Rattle.pfr_story.proofs.JoblessLaws.{Reached-jobless}
use Rattle.pfr_story.proofs.PowerRunLaws.{PowersSoFar, Reached-powers, powers_fresh, powers_all}
use Rattle.pfr.specs.Benches.{fresh_of, end_of, HasRun}
use Rattle.pfr.specs.Headline.{CountsNeverFall, RecoversThroughout, PowerOnsReleaseIn, RunsWithoutJobs}
use Rattle.pfr.specs.declared.finished.Bench.{Bench}
use Rattle.pfr.proofs.BenchLemmas.{as_if, held_at, fresh_start, of_end, of_each}

-- ---- a world, but for the number of its items, the memory for notes, and the guards
recovers_as : (R : Bank → List ℕ → List ℕ → Type 0) (first w : World) (item spare : ℕ) (guards : Guards) → StaysRecoverable R first w → StaysRecoverable R first (as_if w item spare guards)
recovers_as R first w item spare guards p bank.Bmc = p bank.Bmc
recovers_as R first w item spare guards p bank.Pch = p bank.Pch

releases_all_as : (R : Bank → List ℕ → List ℕ → Type 0) (items : List Item) (w : World) (item spare : ℕ) (guards : Guards) → PowerOnsRelease R items w → PowerOnsRelease R items (as_if w item spare guards)
releases_all_as R items w item spare guards p place e bank.Bmc at calm n r = p place e bank.Bmc at calm n r
releases_all_as R items w item spare guards p place e bank.Pch at calm n r = p place e bank.Pch at calm n r

-- ---- the promises of a bench
abbrev R : Bench → Bank → List ℕ → List ℕ → Type 0
R bench which image nv = IsRecoverable which image nv (acceptance bench.engine)

so_far : (bench : Bench) (has : HasRun bench) → PowersSoFar (R bench) (fresh_of bench) (take has.count bench.script.items) has.run.end
so_far bench has =
    let accepts = acceptance bench.engine in
    Reached-powers accepts bench.script.tears (fresh_of bench) has.sizes.bmc has.sizes.pch has.sizes.nv (take has.count bench.script.items) has.run.end
    (fresh_underway accepts (fresh_of bench) (fresh_start bench has)) (held_at bench has.run.end has.run.left) has.run.reached (powers_fresh (R bench) (fresh_of bench) refl refl)

has_counted : (bench : Bench) → HasRun bench → CountsNeverFall bench
has_counted bench has = of_end (λ (w : World). CountsRise (fresh_of bench) w) bench has (so_far bench has).recovers.counted

has_recoverable : (bench : Bench) → HasRun bench → RecoversThroughout bench
has_recoverable bench has = all
  where
    at_end : StaysRecoverable (R bench) (fresh_of bench) (end_of bench)
    at_end = of_end (λ (w : World). StaysRecoverable (R bench) (fresh_of bench) w) bench has
        (recovers_as (R bench) (fresh_of bench) has.run.end (end_of bench).item (end_of bench).notes.spare (end_of bench).guards (so_far bench has).recovers.stays)

    all : RecoversThroughout bench
    all bank.Bmc = at_end bank.Bmc
    all bank.Pch = at_end bank.Pch

has_powers : (bench : Bench) → HasRun bench → PowerOnsReleaseIn bench
has_powers bench has = all
  where
    at_end : PowerOnsRelease (R bench) bench.script.items (end_of bench)
    at_end = of_end (λ (w : World). PowerOnsRelease (R bench) bench.script.items w) bench has
        (releases_all_as (R bench) bench.script.items has.run.end (end_of bench).item (end_of bench).notes.spare (end_of bench).guards
        (powers_all (R bench) (fresh_of bench) bench.script.items has.count has.run.end (so_far bench has)))

    all : PowerOnsReleaseIn bench
    all place e bank.Bmc at calm n r = at_end place e bank.Bmc at calm n r
    all place e bank.Pch at calm n r = at_end place e bank.Pch at calm n r

has_jobless : (bench : Bench) → HasRun bench → RunsWithoutJobs bench
has_jobless bench has which =
    let accepts = acceptance bench.engine in
    of_end (λ (w : World). RunsJobless which (story_of w)) bench has
    (Reached-jobless accepts bench.script.tears (fresh_of bench) has.sizes.bmc has.sizes.pch has.sizes.nv (take has.count bench.script.items) has.run.end
    (fresh_underway accepts (fresh_of bench) (fresh_start bench has)) (held_at bench has.run.end has.run.left) has.run.reached refl which)

-- ---- of each bench
pub each_counted : (option : Option Bench) → IfSome option HasRun → IfSome option CountsNeverFall
each_counted option has = of_each CountsNeverFall has_counted option has

pub each_recoverable : (option : Option Bench) → IfSome option HasRun → IfSome option RecoversThroughout
each_recoverable option has = of_each RecoversThroughout has_recoverable option has

pub each_powers : (option : Option Bench) → IfSome option HasRun → IfSome option PowerOnsReleaseIn
each_powers option has = of_each PowerOnsReleaseIn has_powers option has

pub each_jobless : (option : Option Bench) → IfSome option HasRun → IfSome option RunsWithoutJobs
each_jobless option has = of_each RunsWithoutJobs has_jobless option has
