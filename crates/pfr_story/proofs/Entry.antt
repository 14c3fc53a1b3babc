-- What is known of a bank where the event of a step begins.
use Rattle.std.proofs.Common.{◌≡◌, refl, sym, ap, subst, ℕ, ◌+◌, ◌-◌, Bool, true, false, length}
use Rattle.std.specs.Prelude.{not, min, nat_lt, if◌then◌else◌}
use Rattle.std.proofs.lemmas.Bool.{false≢true}
use Rattle.pfr_flash.specs.FlashState.{now, size_of}
use Rattle.pfr_flash.specs.Layout.{IsBankSize}
use Rattle.pfr_flash.specs.declared.names.Bank.{Bank}
use Rattle.pfr_flash.specs.declared.names.Bank.TheVariants as bank
use Rattle.pfr_engine.specs.Acceptance.{Acceptance}
use Rattle.pfr_auth.specs.Trusted.{IsTrusted}
use Rattle.pfr_script.specs.declared.event.Event.{Event}
use Rattle.pfr_script.specs.declared.event.Event.TheVariants as event
use Rattle.pfr_watch.specs.Watching.{unless_done, ticked}
use Rattle.pfr_watch.specs.declared.stage.Stage.{Stage}
use Rattle.pfr_watch.specs.declared.stage.Stage.TheVariants as stage
use Rattle.pfr_watch.specs.declared.watch.Watch.{Watch}
use Rattle.pfr_story.specs.Guards.{Guard, guard_at}
use Rattle.pfr_story.specs.Story.{Story, device_of}
use Rattle.pfr_story.specs.World.{World, story_of, state_at, AllMoved}
use Rattle.pfr_story.specs.Course.{Course, Follows}
use Rattle.pfr_story.specs.Plans.{mine, store, level_after}
use Rattle.pfr_story.specs.Standing.{Standing, Running, standing_of, is_running}
use Rattle.pfr_story.specs.Turn.{ticked_if, begun}
use Rattle.pfr_story.specs.Promises.{Runs}
use Rattle.pfr_story.proofs.WorldLaws.{AllMoved-refl, AllMoved-trans}
use Rattle.pfr_story.proofs.Courses.{Steps-moved}
use Rattle.pfr_story.proofs.BringRules.{IsReady, level_at}
use Rattle.pfr_story.proofs.Bytes.{mine_sized}

-- each bank that runs is trusted
abbrev pub TrustedRunning : Acceptance → World → Type 0
TrustedRunning accepts w = (which : Bank) → Runs which w → IsTrusted (now (state_at (device_of which) w)) (now w.nv) which accepts

pub trusted_here : (accepts : Acceptance) (e : Event) (old : World) → TrustedRunning accepts old → (b : Bank) → Runs b old
    → IsTrusted (mine b (story_of (begun e old))) (store (story_of (begun e old))) b accepts
trusted_here accepts e old trusted bank.Bmc runs = trusted bank.Bmc runs
trusted_here accepts e old trusted bank.Pch runs = trusted bank.Pch runs

-- so its fuses can be read, and its layout is valid
pub trusted_ready : (accepts : Acceptance) (b : Bank) (story : Story) (t : IsTrusted (mine b story) (store story) b accepts) → IsReady b t.fuses story
trusted_ready accepts b story t = record { provisioned = t.provisioned; layout = t.layout }

pub sized_here : (e : Event) (old : World) → IsBankSize (size_of old.bmc) → IsBankSize (size_of old.pch) → (b : Bank) → IsBankSize (length (mine b (story_of (begun e old))))
sized_here e old bmc pch bank.Bmc = subst IsBankSize (sym (mine_sized bank.Bmc old old (AllMoved-refl old))) bmc
sized_here e old bmc pch bank.Pch = subst IsBankSize (sym (mine_sized bank.Pch old old (AllMoved-refl old))) pch

pub follows_moved : (c : Course) (first new : World) → Follows c first new → AllMoved first new
follows_moved c first new (mid, start, rest) = AllMoved-trans first mid new start.moved (Steps-moved c.stretches mid new rest)

-- ---- how far the recoveries are
by_stage : (P : Watch → Type 0) (at : Stage) (going done : Watch) → P going → P done → P (unless_done at going done)
by_stage P stage.Bmc going done p q = p
by_stage P stage.Me going done p q = p
by_stage P stage.Acm going done p q = p
by_stage P stage.Ibb going done p q = p
by_stage P stage.Obb going done p q = p
by_stage P stage.Done going done p q = q

by_test : (P : Watch → Type 0) (test : Bool) (less same : Watch) → P less → P same → P (if test then less else same)
by_test P true less same p q = p
by_test P false less same p q = q

-- ticks leave them
ticked_recoveries : (watch : Watch) (n : ℕ) → (ticked watch n).recoveries ≡ watch.recoveries
ticked_recoveries watch n =
    let same : Watch → Type 0 = λ w. w.recoveries ≡ watch.recoveries in
    let less : Watch = record watch { left = watch.left - n } in
    by_stage same watch.stage (if nat_lt n watch.left then less else watch) watch (by_test same (nat_lt n watch.left) less watch refl refl) refl

ticked_level : (runs : Bool) (n : ℕ) (guard : Guard) → level_after (ticked_if runs n guard).watch ≡ level_after guard.watch
ticked_level true n guard = ap (λ (r : ℕ). min (r + 1) 4) (ticked_recoveries guard.watch n)
ticked_level false n guard = refl

-- so an expiry is one to the level by the guards before
pub begun_level : (e : Event) (old : World) (b : Bank) → level_at b (story_of (begun e old)) ≡ level_after (guard_at b old.guards).watch
begun_level (event.Tick n) old bank.Bmc = ticked_level (is_running (standing_of bank.Bmc old.notes.list)) n old.guards.bmc
begun_level (event.Tick n) old bank.Pch = ticked_level (is_running (standing_of bank.Pch old.notes.list)) n old.guards.pch
begun_level e old b = refl

-- a bank that runs takes its events
pub takes : (s : Standing) → s ≡ Running → ¬ (not (is_running s) ≡ true)
takes s runs idle = false≢true (subst (λ (x : Standing). not (is_running x) ≡ true) runs idle)
