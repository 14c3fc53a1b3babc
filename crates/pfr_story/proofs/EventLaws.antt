-- What is noted belongs to its event.
use Rattle.std.proofs.Common.{◌≡◌, ◌≢◌, ◌∙◌, refl, sym, ap, subst, ℕ, ◌+◌, ◌-◌, List, [], ◌∷◌, Bool, true, false, Option, Result, Ok, Err, inl, inr}
use Rattle.std.specs.Prelude.{◌⊎◌, min, nat_lt, if◌then◌else◌}
use Rattle.std.proofs.lemmas.Bool.{false≢true}
use Rattle.pfr_flash.specs.FlashState.{now, size_of}
use Rattle.pfr_flash.specs.Layout.{IsBankSize}
use Rattle.pfr_flash.specs.declared.names.Bank.{Bank}
use Rattle.pfr_flash.specs.declared.names.Bank.TheVariants as bank
use Rattle.pfr_flash.specs.declared.names.Counts.{Counts}
use Rattle.pfr_flash.specs.declared.names.Device.{Device}
use Rattle.pfr_flash.specs.declared.names.Device.TheVariants as device
use Rattle.pfr_engine.specs.Acceptance.{Acceptance}
use Rattle.pfr_fuses.specs.FusesOf.{fuses_of}
use Rattle.pfr_fuses.specs.Provisioning.{provision_plan}
use Rattle.pfr_fuses.specs.declared.fuse_fail.FuseFail.{FuseFail}
use Rattle.pfr_fuses.specs.declared.root_slot.RootSlot.{RootSlot}
use Rattle.pfr_script.specs.declared.event.Event.{Event}
use Rattle.pfr_script.specs.declared.event.Event.TheVariants as event
use Rattle.pfr_script.specs.declared.event.Intent.{Intent}
use Rattle.pfr_script.specs.declared.event.Intent.TheVariants as intent
use Rattle.pfr_watch.specs.Stages.{next_stage}
use Rattle.pfr_watch.specs.Watching.{unless_done, expires}
use Rattle.pfr_watch.specs.declared.stage.Stage.{Stage}
use Rattle.pfr_watch.specs.declared.stage.Stage.TheVariants as stage
use Rattle.pfr_watch.specs.declared.watch.Watch.{Watch}
use Rattle.pfr_report.specs.Texts.{IsNoted}
use Rattle.pfr_report.specs.declared.note.Note.{Note}
use Rattle.pfr_report.specs.declared.note.What.{What}
use Rattle.pfr_report.specs.declared.note.What.TheVariants as what
use Rattle.pfr_story.specs.Guards.{Guard, guard_at}
use Rattle.pfr_story.specs.Story.{Story, Says, noted, counts_of, called}
use Rattle.pfr_story.specs.World.{World, story_of, IsDark, added}
use Rattle.pfr_story.specs.Safety.{Rule, AllSafe}
use Rattle.pfr_story.specs.JobPlans.{job_notes}
use Rattle.pfr_story.specs.Plans.{store, migration_in, provisioned_in, refusal_of, brought_up, expired}
use Rattle.pfr_story.specs.UpdatePlans.{updating}
use Rattle.pfr_story.specs.Course.{Stretch, Steps, Course, Follows}
use Rattle.pfr_story.specs.Keeping.{IsSettled}
use Rattle.pfr_story.specs.Standing.{standing_of, is_off, is_running}
use Rattle.pfr_story.specs.Turn.{power_course, off_course, update_course, ignored, ignored_if, is_due, stage_at, tick_course, pass_note, is_idle, taken, ticked_if, begun, Turn}
use Rattle.pfr_story.specs.Promises.{AreOff, IsIgnored, IsUneventful, IsUnnoted, StaysQuiet, LostEnds, LostIsDark, Runs, RunningHasNoJob, IsAtStage, IsUpdateTo, IsCheck, IsWork, IsHolding, BelongsTo, NotesBelong}
use Rattle.pfr_story.proofs.SafetyLaws.{AllSafe-append}
use Rattle.pfr_story.proofs.Courses.{IsTakenBy, Turn-cases, taken_runs, taken_boots}
use Rattle.pfr_story.proofs.BringMakes.{Whenever, made_told, MayBringBack, MayCheck, MayUpdate, brought_made, expired_made, updating_made}
use Rattle.pfr_story.proofs.BringRules.{Any, level_at}
use Rattle.pfr_story.proofs.Bytes.{HaveBytes}
use Rattle.pfr_story.proofs.Entry.{TrustedRunning}
use Rattle.pfr_story.proofs.RecoveryUpdateLaws.{Turn-gives_none_up}
use Rattle.pfr_story.proofs.BusRules.{AllowsSpi, spi_safe, AllowsSmbus, smbus_safe}
use Rattle.pfr_story.proofs.Traces.{Saying, call_says, Traced, Traced-known}
use Rattle.pfr_story.proofs.JobMakes.{AreJobNotes}
use Rattle.pfr_story.proofs.JudgedLaws.{due_runs}
use Rattle.pfr_story.proofs.Made.{Whichever, Made, added_said}
use Rattle.pfr_story.proofs.StepTraces.{AllowsHold, AllowsLock, AllowsLost, AllowsFaults, pass_noted, noted_by, power_by, provision_by, spi_by, smbus_by, tick_by, failed_by, update_by}
use Rattle.pfr_story.proofs.StoreLaws.{judged_here}

-- what is noted of what was judged of a provision
abbrev pub outcome_of : Result ℕ FuseFail → What
outcome_of (Ok number) = what.Provisioned
outcome_of (Err cause) = what.ProvisionRefused (refusal_of cause)

-- ---- each note belongs to its event
abbrev Belongs : Event → World → Rule
Belongs e old = Saying (λ that story. BelongsTo e old that)

-- a loss belongs to each
losses_belong : (e : Event) (old : World) → AllowsLost (Belongs e old)
losses_belong e old which story = tt

-- a bank is held and locked where it is in work, and at a frame
holds_belong : (e : Event) (old : World) (b : Bank) → IsHolding b e old → AllowsHold (Belongs e old) b
holds_belong e old b holding story = holding

locks_belong : (e : Event) (old : World) (b : Bank) → IsHolding b e old → AllowsLock (Belongs e old) b
locks_belong e old b holding which story = inl holding

-- both are at a power-on
power_faults : (old : World) → AllowsFaults (Belongs event.Power old)
power_faults old = record { held = λ b. holds_belong event.Power old b (inl (inl (inl tt))); locked = λ b. locks_belong event.Power old b (inl (inl (inl tt))); lost = losses_belong event.Power old }

-- what is noted of a bank that is checked, or brought back
checks_belong : (e : Event) (old : World) (b : Bank) → IsCheck b e old → MayCheck (Whenever (λ that. BelongsTo e old that)) b
checks_belong e old b check = record {
  held = λ at. inl (inl check);
  released = λ svn at. inl check;
  locked = λ cause unfailed at. inl (inl (inl check));
  untrusted = λ cause at. check;
  restored = λ level at. inl check;
}

back_belongs : (e : Event) (old : World) (b : Bank) → IsWork b e old → MayBringBack (Whenever (λ that. BelongsTo e old that)) b
back_belongs e old b work = record { held = λ at. inl work; released = λ svn at. work; locked = λ cause unfailed at. inl (inl work); restored = λ level at. work }

provision_belongs : (root : RootSlot) (old : World) → ¬ AreOff old → (r : Result ℕ FuseFail) (story : Story) → AllSafe (Belongs (event.Provision root) old) (provisioned_in root r story) story
provision_belongs root old on (Ok number) story =
    AllSafe-append (Belongs (event.Provision root) old) (called device.Nv (provision_plan number root)) (Says (λ _. what.Provisioned) ∷ []) story
    (call_says (λ that here. BelongsTo (event.Provision root) old that) device.Nv (provision_plan number root) story) ((on, tt), tt)
provision_belongs root old on (Err cause) story = ((on, tt), tt)

spi_belongs : (b : Bank) (frame : List ℕ) (old : World) → Runs b old → AllowsSpi (Belongs (event.Spi b frame) old) b
spi_belongs b frame old runs = record { passed = λ op story. (runs, refl); blocked = λ cause story. (runs, refl); asks = λ story. tt; works = λ op story. tt }

smbus_belongs : (b : Bank) (frame : List ℕ) (old : World) → Runs b old → AllowsSmbus (Belongs (event.Smbus b frame) old) b
smbus_belongs b frame old runs = record { passed = λ story. (runs, refl); blocked = λ cause story. (runs, refl) }

-- ticks leave how many recoveries there are
still_by_stage : (at : Stage) (going done : Watch) (n : ℕ) → going.recoveries ≡ n → done.recoveries ≡ n → (unless_done at going done).recoveries ≡ n
still_by_stage stage.Done going done n e f = f
still_by_stage stage.Bmc going done n e f = e
still_by_stage stage.Me going done n e f = e
still_by_stage stage.Acm going done n e f = e
still_by_stage stage.Ibb going done n e f = e
still_by_stage stage.Obb going done n e f = e

still_by_test : (few : Bool) (watch : Watch) (left : ℕ) → (if few then record watch { left = left } else watch).recoveries ≡ watch.recoveries
still_by_test true watch left = refl
still_by_test false watch left = refl

still_recoveries : (runs : Bool) (n : ℕ) (guard : Guard) → (ticked_if runs n guard).watch.recoveries ≡ guard.watch.recoveries
still_recoveries true n guard =
    let watch : Watch = guard.watch in
    still_by_stage watch.stage (if nat_lt n watch.left then record watch { left = watch.left - n } else watch) watch watch.recoveries (still_by_test (nat_lt n watch.left) watch (watch.left - n)) refl
still_recoveries false n guard = refl

pub ticked_level : (b : Bank) (n : ℕ) (old : World) → level_at b (story_of (begun (event.Tick n) old)) ≡ level_at b (story_of old)
ticked_level bank.Bmc n old = ap (λ (k : ℕ). min (k + 1) 4) (still_recoveries (is_running (standing_of bank.Bmc old.notes.list)) n old.guards.bmc)
ticked_level bank.Pch n old = ap (λ (k : ℕ). min (k + 1) 4) (still_recoveries (is_running (standing_of bank.Pch old.notes.list)) n old.guards.pch)

-- a stage that is passed
abbrev taken_boot : Bank → World → Course
taken_boot b old = record { first = Says (λ _. pass_note b (stage_at b (story_of old)) (next_stage (stage_at b (story_of old)))) ∷ []; stretches = [] }

pass_belongs : (b : Bank) (old new : World) → Runs b old → stage_at b (story_of old) ≢ stage.Done → Follows (taken_boot b old) (begun (event.Boot b true) old) new
    → Traced (Belongs (event.Boot b true) old) (begun (event.Boot b true) old) new
pass_belongs b old new runs undone t =
    let e : Event = event.Boot b true in
    let at : Stage = stage_at b (story_of old) in
    let here : IsAtStage b at old = record { runs = runs; at = refl; undone = undone } in
    noted_by (Belongs e old) (losses_belong e old) (begun e old) new Any (λ w moved. tt) (taken_boot b old).first t
    (pass_noted (λ (that : What). BelongsTo e old that) b at (next_stage at) (λ last. (refl, at, here, last)) (λ more. (refl, here, more)), tt)

-- jobs are taken up at a power-on
jobs_belong : (old : World) (b : Bank) → AreJobNotes Whichever (Whenever (λ that. BelongsTo event.Power old that)) b tt tt (job_notes b)
jobs_belong old b = record { resumes = λ kind at. tt; gives = λ at. tt; tells = λ svn at. inl tt; restores = λ level at. inl (inl tt); updates = λ dynamic svn at. inl tt }

-- a job that an update of the recovery area gives up: by its plan alone this may come
abbrev GivesUp : Event → What → Type 0
GivesUp e (what.Abandoned b) = IsUpdateTo b intent.Recovery e
GivesUp e that = ⊥

abbrev MayBelong : Event → World → What → Type 0
MayBelong e old that = BelongsTo e old that ⊎ GivesUp e that

-- what an update comes to
update_belongs : (b : Bank) (how : Intent) (old : World) → Runs b old → MayUpdate (Whenever (MayBelong (event.Update b how) old)) b how
update_belongs b how old runs = record {
  refused = λ cause is at. inl (runs, (refl, is));
  updated = λ dynamic is svn at. inl (inr (runs, (refl, is)));
  given_up = λ is at. inr (refl, is);
  recovery_updated = λ is svn at. inl (inr (runs, (refl, is)));
  cancelled = λ is type id at. inl (b, runs, (refl, is));
}

-- and the check behind it
update_checks : (b : Bank) (how : Intent) (old : World) → Runs b old → MayCheck (Whenever (MayBelong (event.Update b how) old)) b
update_checks b how old runs =
    let check : IsCheck b (event.Update b how) old = inr (runs, refl) in
    record {
      held = λ at. inl (inl (inl check));
      released = λ svn at. inl (inl check);
      locked = λ cause unfailed at. inl (inl (inl (inl check)));
      untrusted = λ cause at. inl check;
      restored = λ level at. inl (inl check);
    }

-- the expiry of a watch by ticks is work on its bank
due_works : (b : Bank) (n : ℕ) (old : World) → is_due b n (story_of old) ≡ true → IsWork b (event.Tick n) old
due_works b n old due = inr (due_runs (standing_of b old.notes.list) (expires (guard_at b old.guards).watch n) due, due)

module _ (accepts : Acceptance) (old new : World) where
  expired_belongs : (e : Event) (b : Bank) (story : Story) → IsWork b e old → BelongsTo e old (what.Expired b (level_at b story)) → AllSafe (Belongs e old) (expired accepts b story) story
  expired_belongs e b story work told =
      made_told Whichever (λ that. BelongsTo e old that) (expired accepts b story) story
      (expired_made Whichever (Whenever (λ that. BelongsTo e old that)) b tt tt (back_belongs e old b work) accepts story (λ at. told))

  abbrev NotesAllBelong : Event → Type 0
  NotesAllBelong e = Traced (Belongs e old) (begun e old) new

  power_belongs : Follows (power_course accepts) (begun event.Power old) new → NotesAllBelong event.Power
  power_belongs t =
      power_by (Belongs event.Power old) (losses_belong event.Power old) (begun event.Power old) new Any (λ w moved. tt) Any accepts (power_faults old)
      (λ story any. (tt, call_says (λ that here. BelongsTo event.Power old that) device.Nv (migration_in (fuses_of (store story))) story))
      (λ b story any.
      made_told Whichever (λ that. BelongsTo event.Power old that) (brought_up accepts b story) story
      (brought_made Whichever (Whenever (λ that. BelongsTo event.Power old that)) b tt tt (checks_belong event.Power old b (inl tt)) accepts (jobs_belong old b) story)) tt tt t

  tick_belongs : (n : ℕ) → Follows (tick_course accepts n (story_of old)) (begun (event.Tick n) old) new → NotesAllBelong (event.Tick n)
  tick_belongs n t =
      let e : Event = event.Tick n in
      tick_by (Belongs e old) (losses_belong e old) (begun e old) new Any (λ w moved. tt) accepts n (story_of old)
      (λ b due. locks_belong e old b (inl (due_works b n old due)))
      (λ b there any due same. expired_belongs e b there (due_works b n old due) (due, same ∙ ticked_level b n old)) t

  -- at each event but an update
  abbrev IsUpdating : Event → Type 0
  IsUpdating (event.Update b how) = Unit {0}
  IsUpdating e = ⊥

  taken_belong : (e : Event) → ¬ IsUpdating e → IsTakenBy accepts e old new → NotesAllBelong e
  taken_belong (event.Update b how) other on = absurd (other tt)
  taken_belong event.Power other on = power_belongs on.1
  taken_belong event.Off other on = noted_by (Belongs event.Off old) (losses_belong event.Off old) (begun event.Off old) new Any (λ w moved. tt) off_course.first on.1 (tt, tt)
  taken_belong (event.Provision root) other on =
      let e : Event = event.Provision root in
      let stands : ¬ AreOff old = λ off. false≢true (sym on.0 ∙ off) in
      provision_by (Belongs e old) (losses_belong e old) (begun e old) new Any (λ w moved. tt) Any root (λ b which story. inr (stands, tt))
      (λ story any. (tt, provision_belongs root old stands (judged_here root story) story)) tt on.1
  taken_belong (event.Spi b frame) other on =
      let e : Event = event.Spi b frame in
      let runs : Runs b old = taken_runs (standing_of b old.notes.list) on.0 in
      let holding : IsHolding b e old = inr (runs, refl) in
      spi_by (Belongs e old) (losses_belong e old) (begun e old) new Any (λ w moved. tt) Any accepts b frame (holds_belong e old b holding) (locks_belong e old b holding)
      (λ story any. spi_safe (Belongs e old) accepts b frame (spi_belongs b frame old runs) story) tt on.1
  taken_belong (event.Smbus b frame) other on =
      let e : Event = event.Smbus b frame in
      smbus_by (Belongs e old) (losses_belong e old) (begun e old) new Any (λ w moved. tt) accepts b frame (story_of old)
      (smbus_safe (Belongs e old) accepts b frame (smbus_belongs b frame old (taken_runs (standing_of b old.notes.list) on.0)) (story_of old) (story_of (begun e old))) on.1
  taken_belong (event.Tick n) other on = tick_belongs n on.1
  taken_belong (event.Boot b true) other on =
      let k = taken_boots (standing_of b old.notes.list) (stage_at b (story_of old)) on.0 in
      pass_belongs b old new k.0 k.1 on.1
  taken_belong (event.Boot b false) other on =
      let e : Event = event.Boot b false in
      let runs : Runs b old = (taken_boots (standing_of b old.notes.list) (stage_at b (story_of old)) on.0).0 in
      let work : IsWork b e old = inr (runs, (refl, on.0)) in
      failed_by (Belongs e old) (losses_belong e old) (begun e old) new Any (λ w moved. tt) accepts b (locks_belong e old b (inl work))
      (λ any. expired_belongs e b (story_of (begun e old)) work ((refl, on.0), refl)) on.1

  -- at an update each note may belong to it
  update_traced : (b : Bank) (how : Intent) → Runs b old → Follows (update_course accepts b how) (begun (event.Update b how) old) new
      → Traced (Saying (λ that story. MayBelong (event.Update b how) old that)) (begun (event.Update b how) old) new
  update_traced b how runs t =
      let e : Event = event.Update b how in
      update_by (Saying (λ that story. MayBelong e old that)) (λ which story. inl tt) (begun e old) new Any (λ w moved. tt) accepts b how (λ which story. inl (inl (inl (inl (inr (runs, refl))))))
      (λ any.
      made_told Whichever (MayBelong e old) (updating accepts b how (story_of (begun e old))) (story_of (begun e old))
      (updating_made Whichever (Whenever (MayBelong e old)) b tt tt (update_checks b how old runs) accepts how (update_belongs b how old runs) (story_of (begun e old)))) t

  -- and does, since no job is given up
  update_known : (b : Bank) (how : Intent) → (how ≡ intent.Recovery → (c : Bank) → ¬ IsNoted (added old new) (what.Abandoned c))
      → Traced (Saying (λ that story. MayBelong (event.Update b how) old that)) (begun (event.Update b how) old) new → NotesBelong (event.Update b how) old new
  update_known b how never traced that n = elim (Traced-known (λ note story. MayBelong (event.Update b how) old note) (begun (event.Update b how) old) new traced that n).1 [
    | inl own ↦ own
    | inr up ↦ absurd (not_given_up that up n)
  ]
    where
      not_given_up : (note : What) → GivesUp (event.Update b how) note → ¬ IsNoted (added old new) note
      not_given_up (what.Abandoned c) up m = never up.1 c m
      not_given_up note up m = up

  by_traced : (e : Event) → NotesAllBelong e → NotesBelong e old new
  by_traced e traced that n = (Traced-known (λ note story. BelongsTo e old note) (begun e old) new traced that n).1

  module _ (have : HaveBytes new) (bmc : IsBankSize (size_of old.bmc)) (pch : IsBankSize (size_of old.pch)) (nv : size_of old.nv ≡ 32768) (trusted : TrustedRunning accepts old) (idle : RunningHasNoJob old)
      (settled : (which : Bank) → Runs which old → IsSettled (now old.nv)) where
    on_belong : (e : Event) → Turn accepts e old new → IsTakenBy accepts e old new → NotesBelong e old new
    on_belong (event.Update b how) t on =
        let runs : Runs b old = taken_runs (standing_of b old.notes.list) on.0 in
        update_known b how (λ is. Turn-gives_none_up accepts b how old new t have bmc pch nv trusted idle settled runs is) (update_traced b how runs on.1)
    on_belong e t on = by_traced e (taken_belong e (λ up. up) on)

    all_belong : (e : Event) → Turn accepts e old new → NotesBelong e old new
    all_belong e t = elim (Turn-cases accepts e old new t) [
      | inl none ↦ by_traced e (noted_by (Belongs e old) (losses_belong e old) (begun e old) new Any (λ w moved. tt) ignored.first none.1 (none.0, tt))
      | inr on ↦ on_belong e t on
    ]

-- Each note that a step adds belongs to its event.
pub Turn-belongs : (accepts : Acceptance) (e : Event) (old new : World) → Turn accepts e old new → HaveBytes new → IsBankSize (size_of old.bmc) → IsBankSize (size_of old.pch)
    → size_of old.nv ≡ 32768 → TrustedRunning accepts old → RunningHasNoJob old → ((which : Bank) → Runs which old → IsSettled (now old.nv)) → NotesBelong e old new
Turn-belongs accepts e old new t have bmc pch nv trusted idle settled = all_belong accepts old new have bmc pch nv trusted idle settled e t

-- ---- an event that isn't taken
is_ignored : (e : Event) (old new : World) → Follows ignored (begun e old) new → IsIgnored old new
is_ignored e old new (mid, first, rest) =
    let story : story_of new ≡ noted (λ _. what.Ignored) (story_of (begun e old)) = rest.is ∙ first.is in
    let made : Made (begun e old) new = record { trace = Says (λ _. what.Ignored) ∷ []; is = story } in
    record { counts = ap (λ (s : Story). counts_of s) story; notes = added_said (begun e old) new made }

-- ticks by which no watch expires call for nothing
nothing_due : (accepts : Acceptance) (n : ℕ) (story : Story) → is_due bank.Bmc n story ≡ false → is_due bank.Pch n story ≡ false → (tick_course accepts n story).stretches ≡ []
nothing_due accepts n story bmc pch = rw (bmc, pch) refl

is_unnoted : (accepts : Acceptance) (e : Event) (old new : World) → Turn accepts e old new → IsUneventful e old → IsUnnoted old new
is_unnoted accepts (event.Tick n) old new (mid, first, rest) none =
    let begin : World = begun (event.Tick n) old in
    let last = subst (λ (ss : List Stretch). Steps ss mid new) (nothing_due accepts n (story_of old) (none bank.Bmc) (none bank.Pch)) rest in
    let story : story_of new ≡ story_of begin = last.is ∙ first.is in
    record { counts = ap (λ (s : Story). counts_of s) story; notes = added_said begin new (record { trace = []; is = story }) }
is_unnoted accepts e old new t none = absurd none

-- Banks that don't take an event do nothing, and ticks by which no watch expires do and note nothing.
pub Turn-quiet : (accepts : Acceptance) (e : Event) (old new : World) → Turn accepts e old new → StaysQuiet e old new
Turn-quiet accepts e old new t = record {
  idle = λ idle. is_ignored e old new (subst (λ (b : Bool). Follows (ignored_if b (taken accepts e (story_of old))) (begun e old) new) idle t);
  uneventful = is_unnoted accepts e old new t;
}

-- ---- no device has power once a loss is noted
only_ignored : (old : World) (notes : List Note) (device : Option Device) (at : Counts) → notes ≡ record { item = old.item + 1; what = what.Ignored } ∷ [] → ¬ IsNoted notes (what.Lost device at)
only_ignored old notes device at e n = elim (subst (λ (ns : List Note). IsNoted ns (what.Lost device at)) e n) [ inl same ↦ absurd cc | inr none ↦ none ]

-- No device has power once a loss of power is noted, where none has once an event was taken and the banks are off by what was noted.
pub Turn-dark : (accepts : Acceptance) (e : Event) (old new : World) → Turn accepts e old new → LostEnds old new → (is_idle e (story_of old) ≡ false → added old new ≢ [] → AreOff new → IsDark new) → LostIsDark old new
Turn-dark accepts e old new t ends dark device at n = elim (Turn-cases accepts e old new t) [
  | inl idle ↦ absurd (only_ignored old (added old new) device at (is_ignored e old new idle.1).notes n)
  | inr on ↦ dark on.0 (λ none. subst (λ (ns : List Note). IsNoted ns (what.Lost device at)) none n) (ap is_off (ends device at n).bmc)
]
