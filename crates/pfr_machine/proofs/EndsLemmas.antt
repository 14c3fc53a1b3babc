-- How work on a bank ends, by plans.
use Rattle.std.proofs.Common.{◌≡◌, ◌≢◌, ◌∙◌, refl, sym, ap, subst, ℕ, ◌+◌, ◌≤◌, List, length, Result, Ok, Err}
use Rattle.pfr_flash.specs.FlashState.{now, size_of}
use Rattle.pfr_flash.specs.declared.names.Bank.{Bank}
use Rattle.pfr_flash.specs.declared.names.Bank.TheVariants as bank
use Rattle.pfr_flash.proofs.RangeLemmas.{length-now}
use Rattle.pfr_report.specs.declared.note.What.{What}
use Rattle.pfr_story.specs.Standing.{standing_of, standing_by, Off}
use Rattle.pfr_story.specs.Story.{Story, Move, Plan, after, then, says, device_of, other_bank}
use Rattle.pfr_story.specs.World.{World, story_of, state_at}
use Rattle.pfr_story.specs.Goes.{Ran, Stopped, Goes}
use Rattle.pfr_story.specs.Plans.{mine}
use Rattle.pfr_story.specs.declared.line.Line.{Line}
use Rattle.pfr_story.specs.declared.stop.Stop.{Stop}
use Rattle.pfr_story.proofs.Sequence.{Ran-append, Stopped-first, Stopped-next}
use Rattle.pfr_machine.specs.Worlds.{AddsNotes, DeskState, IsAwake, Stays, with_note}
use Rattle.pfr_machine.specs.Ready.{LeavesSeated, HaltsIn, EndsSeated}
use Rattle.pfr_machine.specs.declared.desk.Halt.{Halt}
use Rattle.pfr_machine.proofs.WorldLemmas.{AddsNotes-then, AddsNotes-most, AddsNotes-noted, noted_ran}

-- ---- what stays, and what ends
-- the plan was done, and ended with a release or a lock
abbrev pub DoneSeated : Plan → ℕ → DeskState → World → Type 0
DoneSeated plan most old new = Ran (plan (story_of old.world)) old.world new × LeavesSeated most old new

-- work behind other work on the bank, which stayed held
module _ {T : Type 0} (m n : ℕ) (old mid : DeskState) (answer : Result T Stop) (s : Stays m old mid answer) where
  leaves_behind : (new : World) → LeavesSeated n mid new → LeavesSeated (m + n) old new
  leaves_behind new l = record {
    mine = subst (λ (b : Bank). standing_of b new.notes.list ≢ Off) s.bank l.mine;
    other = ap (λ (b : Bank). standing_of (other_bank b) new.notes.list) (sym s.bank) ∙ (l.other ∙ ap (λ (how : Line). standing_by how) s.other);
    notes = AddsNotes-then m n old.world.notes mid.world.notes new.notes s.notes l.notes;
    nv = l.nv;
  }

  halts_behind : (stop : Stop) (new : DeskState) → Stays {T = Unit {0}} n mid new (Err stop) → Stays {T = Unit {0}} (m + n) old new (Err stop)
  halts_behind stop new k = record {
    bank = k.bank ∙ s.bank;
    other = k.other ∙ s.other;
    notes = AddsNotes-then m n old.world.notes mid.world.notes new.world.notes s.notes k.notes;
    awake = λ e. subst (λ (b : Bank). IsAwake b new.world) s.bank (k.awake e);
  }

-- one plan, and then another
pub ends_then : {T F : Type 0} (a b : Plan) (m n : ℕ) (old mid : DeskState) (answer : Result T Stop) (r : Result World (Halt F)) → Ran (a (story_of old.world)) old.world mid.world → Stays m old mid answer
    → EndsSeated b n mid r → EndsSeated (then a b) (m + n) old r
ends_then a b m n old mid answer (Ok new) p s e = (
  Ran-append (a (story_of old.world)) (b (after (a (story_of old.world)) (story_of old.world))) old.world mid.world new p (subst (λ (t : Story). Ran (b t) mid.world new) p.is e.0),
  leaves_behind m n old mid answer s new e.1,
)
ends_then a b m n old mid answer (Err halt) p s e = record {
  stopped = Stopped-next a b halt.stop.device halt.stop.fail old.world mid.world halt.desk.world p e.stopped;
  stays = halts_behind m n old mid answer s halt.stop halt.desk e.stays;
}

-- a plan that begins with the same moves
pub ends_as : {F : Type 0} (a b : Plan) (most : ℕ) (old : DeskState) (r : Result World (Halt F)) → a (story_of old.world) ≡ b (story_of old.world) → EndsSeated a most old r → EndsSeated b most old r
ends_as a b most old (Ok new) e h = (subst (λ (moves : List Move). Ran moves old.world new) e h.0, h.1)
ends_as a b most old (Err halt) e h = record {
  stopped = subst (λ (moves : List Move). Stopped moves halt.stop.device halt.stop.fail old.world halt.desk.world) e h.stopped;
  stays = h.stays;
}

pub stays_most : (m n : ℕ) (old new : DeskState) (stop : Stop) → m ≤ n → Stays {T = Unit {0}} m old new (Err stop) → Stays {T = Unit {0}} n old new (Err stop)
stays_most m n old new stop le s = record { bank = s.bank; other = s.other; notes = AddsNotes-most m n old.world.notes new.world.notes s.notes le; awake = s.awake }

-- the first of two plans stopped
pub halts_first : (a b : Plan) (m n : ℕ) (old : DeskState) (stop : Stop) (new : DeskState) → m ≤ n → HaltsIn a m old stop new → HaltsIn (then a b) n old stop new
halts_first a b m n old stop new le h = record {
  stopped = Stopped-first a b stop.device stop.fail old.world new.world h.stopped;
  stays = stays_most m n old new stop le h.stays;
}

pub halts_called : {T : Type 0} (a : Plan) (m : ℕ) (old : DeskState) (stop : Stop) (new : DeskState) → Goes {T = T} a old.world new.world (Err stop) → Stays {T = T} m old new (Err stop) → HaltsIn a m old stop new
halts_called a m old stop new g s = record { stopped = g; stays = record { bank = s.bank; other = s.other; notes = s.notes; awake = s.awake } }

pub leaves_most : (m n : ℕ) (old : DeskState) (new : World) → m ≤ n → LeavesSeated m old new → LeavesSeated n old new
leaves_most m n old new le l = record { mine = l.mine; other = l.other; notes = AddsNotes-most m n old.world.notes new.notes l.notes le; nv = l.nv }

-- more notes may be added
pub ends_most : {F : Type 0} (plan : Plan) (m n : ℕ) (old : DeskState) (r : Result World (Halt F)) → m ≤ n → EndsSeated plan m old r → EndsSeated plan n old r
ends_most plan m n old (Ok new) le h = (h.0, leaves_most m n old new le h.1)
ends_most plan m n old (Err halt) le h = record { stopped = h.stopped; stays = stays_most m n old halt.desk halt.stop le h.stays }

-- ---- something was noted, and the work goes on
awake_noted : (b : Bank) (what : What) (w : World) → IsAwake b w → IsAwake b (with_note what w)
awake_noted bank.Bmc what w h = record { mine = h.mine; nv = h.nv }
awake_noted bank.Pch what w h = record { mine = h.mine; nv = h.nv }

module _ (what : What) (old new : DeskState) (e : new ≡ record old { world = with_note what old.world }) where
  pub noted_stays : 1 ≤ old.world.notes.spare → IsAwake old.bank old.world → Stays {T = Unit {0}} 1 old new (Ok tt)
  noted_stays room awake = record {
    bank = ap (λ (d : DeskState). d.bank) e;
    other = ap (λ (d : DeskState). d.other) e;
    notes = subst (λ (d : DeskState). AddsNotes 1 old.world.notes d.world.notes) (sym e) (AddsNotes-noted what old.world room);
    awake = subst (λ (d : DeskState). IsAwake old.bank d.world) (sym e) (awake_noted old.bank what old.world awake);
  }

pub behind_note : {F : Type 0} (what : What) (next : Bank → Plan) (m : ℕ) (old mid : DeskState) (r : Result World (Halt F)) → mid ≡ record old { world = with_note what old.world } → 1 ≤ old.world.notes.spare
    → IsAwake old.bank old.world → EndsSeated (next mid.bank) m mid r → EndsSeated (then (says (λ _. what)) (next old.bank)) (1 + m) old r
behind_note what next m old mid r e room awake h =
    ends_then (says (λ _. what)) (next old.bank) 1 m old mid (Ok tt) r (noted_ran (λ _. what) what old.world mid.world refl (ap (λ (d : DeskState). d.world) e)) (noted_stays what old mid e room awake)
    (subst (λ (b : Bank). EndsSeated (next b) m mid r) (ap (λ (d : DeskState). d.bank) e) h)

-- ---- what calls leave of the devices
pub image_now : (b : Bank) (w : World) → mine b (story_of w) ≡ now (state_at (device_of b) w)
image_now bank.Bmc w = refl
image_now bank.Pch w = refl

pub size_now : (b : Bank) (w : World) → length (mine b (story_of w)) ≡ size_of (state_at (device_of b) w)
size_now b w = ap (λ (bytes : List ℕ). length bytes) (image_now b w) ∙ length-now (state_at (device_of b) w)
