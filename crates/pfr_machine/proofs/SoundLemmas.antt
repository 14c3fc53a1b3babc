-- A platform carries that each bank was trusted while it stood released.
use Rattle.std.proofs.Common.{◌≡◌, ◌∙◌, sym, ap, subst, List, arith}
use Rattle.pfr_flash.specs.FlashState.{now}
use Rattle.pfr_flash.specs.declared.names.Bank.{Bank}
use Rattle.pfr_flash.specs.declared.names.Bank.TheVariants as bank
use Rattle.pfr_engine.specs.Acceptance.{Acceptance}
use Rattle.pfr_auth.specs.Trusted.{IsTrusted}
use Rattle.pfr_script.specs.declared.event.Event.{Event}
use Rattle.pfr_report.specs.declared.note.Note.{Note}
use Rattle.pfr_jobs.specs.Log.{open_job}
use Rattle.pfr_jobs.specs.declared.job.OpenJob.TheVariants as job
use Rattle.pfr_story.specs.Course.{Follows}
use Rattle.pfr_story.specs.Keeping.{HasTrustedSpans, IsSettled}
use Rattle.pfr_story.specs.Promises.{Runs}
use Rattle.pfr_story.specs.Standing.{standing_of, standing_by}
use Rattle.pfr_story.specs.Story.{device_of}
use Rattle.pfr_story.specs.Turn.{course, next_item, Turn}
use Rattle.pfr_story.specs.World.{World, AreDevices, state_at, story_of}
use Rattle.pfr_story.specs.declared.line.Line.{Line}
use Rattle.pfr_story.specs.declared.line.Line.TheVariants as line
use Rattle.pfr_story.proofs.Bytes.{have_bytes}
use Rattle.pfr_story.proofs.KeepingLaws.{Turn-trusted_spans, trusted_now}
use Rattle.pfr_machine.specs.Inside.{HasSizes, IsSound, IsWhole}
use Rattle.pfr_machine.specs.Ready.{LeavesWhole}
use Rattle.pfr_machine.specs.Stages.{IsHere, IsReady, IsThere, world_in}
use Rattle.pfr_machine.specs.Turning.{RestsSo}
use Rattle.pfr_machine.specs.Watching.{clocked}
use Rattle.pfr_machine.specs.Worlds.{PlatformState}
use Rattle.pfr_machine.specs.declared.stage.Stage.{Stage}
use Rattle.pfr_machine.specs.declared.stage.Stage.TheVariants as stage
use Rattle.pfr_machine.proofs.TurnLemmas.{Begun, turned, still_whole, sizes_before}

-- a step leaves it so, with devices that hold bytes
pub still_sound : (old next : World) → Begun old next → (accepts : Acceptance) (e : Event) (new : World) → IsSound accepts old → Follows (course accepts e (story_of next)) (clocked e next) new
    → LeavesWhole 64 next new → AreDevices new → HasSizes new → IsSound accepts new
still_sound old next b accepts e new h f l devices sizes =
    let t : Turn accepts e old new = turned old next b accepts e new f in
    record {
      whole = still_whole old next b accepts e new h.whole f l;
      trusted = λ which. let s = sizes_before accepts e old new t sizes in Turn-trusted_spans accepts which e old new t (have_bytes new devices) s.bmc s.pch s.nv h.trusted;
    }

-- a bank that runs is trusted where an item was begun
pub begun_trusted : (old next : World) → Begun old next → (accepts : Acceptance) → IsSound accepts old → (which : Bank) → Runs which next → IsTrusted (now (state_at (device_of which) next)) (now next.nv) which accepts
begun_trusted old next b accepts h which runs =
    let t = trusted_now accepts which old (h.trusted which) (ap (λ (list : List Note). standing_of which list) (sym b.list) ∙ runs) in
    subst (λ (w : World). IsTrusted (now (state_at (device_of which) w)) (now w.nv) which accepts) (sym b.is) (of_begun which t)
  where
    of_begun : (which : Bank) → IsTrusted (now (state_at (device_of which) old)) (now old.nv) which accepts
        → IsTrusted (now (state_at (device_of which) (record (next_item old) { notes = next.notes }))) (now old.nv) which accepts
    of_begun bank.Bmc t = t
    of_begun bank.Pch t = t

-- while a bank runs the store is settled, and no job of it is open
pub begun_settled : (old next : World) → Begun old next → (accepts : Acceptance) → IsSound accepts old → (which : Bank) → Runs which next → IsSettled (now next.nv)
begun_settled old next b accepts h which runs =
    subst (λ (w : World). IsSettled (now w.nv)) (sym b.is) ((h.trusted which).settled (ap (λ (list : List Note). standing_of which list) (sym b.list) ∙ runs))

pub begun_idle : (old next : World) → Begun old next → (accepts : Acceptance) → IsSound accepts old → (which : Bank) → Runs which next → open_job (now next.nv) which ≡ job.None
begun_idle old next b accepts h which runs =
    subst (λ (w : World). open_job (now w.nv) which ≡ job.None) (sym b.is) ((h.trusted which).idle (ap (λ (list : List Note). standing_of which list) (sym b.list) ∙ runs))

-- more room for notes leaves it so
pub room_sound : (accepts : Acceptance) (old new : World) → new ≡ record old { notes = new.notes } → new.notes.list ≡ old.notes.list → IsSound accepts old → IsSound accepts new
room_sound accepts old new is list h =
    let same : new ≡ record old { notes = record { list = old.notes.list; spare = new.notes.spare } } = is ∙ ap (λ (l : List Note). record old { notes = record { list = l; spare = new.notes.spare } }) list in
    subst (λ (w : World). IsSound accepts w) (sym same) (record {
      whole = record { together = h.whole.together; apart = h.whole.apart; on = h.whole.on; few = h.whole.few };
      trusted = h.trusted;
    })

pub there_sound : {F : Type 0} (accepts : Acceptance) (o : Stage F) → IsThere accepts o → IsSound accepts (world_in o)
there_sound accepts (stage.Fresh w) h = h
there_sound accepts (stage.Ready w) h = h
there_sound accepts stage.Away h = absurd h

pub sound_there : {F : Type 0} (accepts : Acceptance) (o : Stage F) → IsHere o → IsSound accepts (world_in o) → IsThere accepts o
sound_there accepts (stage.Fresh w) here h = h
sound_there accepts (stage.Ready w) here h = h
sound_there accepts stage.Away here h = absurd here

pub ready_here : {F : Type 0} (o : Stage F) → IsReady o → IsHere o
ready_here (stage.Fresh w) h = absurd h
ready_here (stage.Ready w) h = tt
ready_here stage.Away h = absurd h

pub there_here : {F : Type 0} (accepts : Acceptance) (o : Stage F) → IsThere accepts o → IsHere o
there_here accepts (stage.Fresh w) h = tt
there_here accepts (stage.Ready w) h = tt
there_here accepts stage.Away h = absurd h

-- what a turn asks for, where an item was begun
pub begun_rests : (old next : World) → Begun old next → (accepts : Acceptance) → IsSound accepts old → RestsSo accepts next
begun_rests old next b accepts h =
    let same : next ≡ record (next_item old) { notes = record { list = old.notes.list; spare = next.notes.spare } } = b.is ∙ ap (λ (l : List Note). record (next_item old) { notes = record { list = l; spare = next.notes.spare } }) b.list in
    record {
      whole = subst (λ (w : World). IsWhole w) (sym same) (record { together = h.whole.together; apart = h.whole.apart; on = h.whole.on; few = omega (arith, h.whole.few) });
      settled = begun_settled old next b accepts h;
      idle = begun_idle old next b accepts h;
      trusted = begun_trusted old next b accepts h;
    }

-- a bank that runs is trusted now
module _ {E F : Type 0} (accepts : E → Acceptance) (which : Bank) (p : PlatformState E) (o : Stage F) (engine : E) (view : record { world = world_in o; engine = engine } ≡ p) (h : IsThere (accepts engine) o) where
  pub known_spans : HasTrustedSpans (accepts p.engine) which (story_of p.world)
  known_spans = subst (λ (q : PlatformState E). HasTrustedSpans (accepts q.engine) which (story_of q.world)) view ((there_sound (accepts engine) o h).trusted which)

  pub known_trusted : Runs which p.world → IsTrusted (now (state_at (device_of which) p.world)) (now p.world.nv) which (accepts p.engine)
  known_trusted runs = trusted_now (accepts p.engine) which p.world known_spans runs

  pub line_trusted : (inner : World) (how : Line) → world_in o ≡ inner → standing_by how ≡ standing_of which inner.notes.list → how ≡ line.Running
      → IsTrusted (now (state_at (device_of which) p.world)) (now p.world.nv) which (accepts p.engine)
  line_trusted inner how same stands runs =
      known_trusted (ap (λ (q : PlatformState E). standing_of which q.world.notes.list) (sym view) ∙ ap (λ (w : World). standing_of which w.notes.list) same ∙ sym stands ∙ ap standing_by runs)
