-- A power-on works on the BMC and then on the PCH.
use Rattle.std.proofs.Common.{◌≡◌, refl, ap, subst, arith, ℕ, ◌≤◌, List, [], ◌∷◌, length, length-append, drop, inl, inr}
use Rattle.std.proofs.lemmas.Bool.{false≢true}
use Rattle.std.proofs.lemmas.List.{drop_all, drop-append-le}
use Rattle.pfr_flash.specs.FlashState.{size_of}
use Rattle.pfr_flash.specs.Operation.{Operation}
use Rattle.pfr_flash.specs.declared.names.Bank.{Bank}
use Rattle.pfr_flash.specs.declared.names.Bank.TheVariants as bank
use Rattle.pfr_flash.specs.declared.names.Counts.{Counts}
use Rattle.pfr_flash.specs.declared.names.Device.{Device}
use Rattle.pfr_flash.specs.declared.names.Device.TheVariants as device
use Rattle.pfr_engine.specs.Acceptance.{Acceptance}
use Rattle.pfr_fuses.specs.FusesOf.{fuses_of}
use Rattle.pfr_script.specs.declared.event.Event.{Event}
use Rattle.pfr_script.specs.declared.event.Event.TheVariants as event
use Rattle.pfr_report.specs.Texts.{IsNoted}
use Rattle.pfr_report.specs.declared.note.Note.{Note}
use Rattle.pfr_report.specs.declared.note.What.{What}
use Rattle.pfr_report.specs.declared.note.What.TheVariants as what
use Rattle.pfr_story.specs.Course.{Follows}
use Rattle.pfr_story.specs.Plans.{store, brought_up, migrated, migration_in}
use Rattle.pfr_story.specs.PowerOrder.{WorksInOrder, PowersInOrder}
use Rattle.pfr_story.specs.Recovery.{KeepsRecoverable}
use Rattle.pfr_story.specs.Safety.{Rule, AllSafe, Keeps}
use Rattle.pfr_story.specs.Story.{Story, Move, Says, Does, Asks, after, moved_by, noted, counts_of, IsCut}
use Rattle.pfr_story.specs.Turn.{fault_of, bank_stretch, fuse_stretch, power_course, begun, Turn}
use Rattle.pfr_story.specs.World.{World, story_of, AllMoved}
use Rattle.pfr_story.proofs.BringAllowed.{IsSized, AllowsBank, allowed_safe}
use Rattle.pfr_story.proofs.BringRules.{Any}
use Rattle.pfr_story.proofs.Courses.{Turn-cases}
use Rattle.pfr_story.proofs.SafetyLaws.{safe_whole, safe_cut, kept_by, called_any}
use Rattle.pfr_story.proofs.StepTraces.{IsGoodStretch, power_along, sized}
use Rattle.pfr_story.proofs.Traces.{IsStamped, Traced, Traced-keeps, noted_append}
use Rattle.pfr_story.proofs.WorkShapes.{Going, Ended, Brings, stroked, logged, raised, cleared, untrusted, refused, resumed, given_up, restored, updated, recovery_updated, cancelled, released, unready, no_image, no_recovery, spent}
use Rattle.pfr_story.proofs.WorkWalks.{brought_worked}
use Rattle.pfr_story.proofs.WorldLaws.{AllMoved-refl}

-- good moves of this rule keep what it is named by
abbrev pub Carrying : (Story → Type 0) → Rule
Carrying J move story = J story → J (moved_by move story)

pub carries : (J : Story → Type 0) → Keeps (Carrying J) J
carries J move story good j = good j

pub whole_carries : (J : Story → Type 0) (moves : List Move) (story : Story) → AllSafe (Carrying J) moves story → J story → J (after moves story)
whole_carries J moves story safe j = kept_by (Carrying J) J (carries J) moves story (safe_whole (Carrying J) moves story safe) j

pub cut_carries : (J : Story → Type 0) (which : Device) (moves trace : List Move) (story : Story) → AllSafe (Carrying J) moves story → IsCut which moves story trace → J story → J (after trace story)
cut_carries J which moves trace story safe cut j = kept_by (Carrying J) J (carries J) trace story (safe_cut (Carrying J) which moves trace story safe cut) j

-- by the notes before the event, and how much each bank's device had done
module _ (base : List Note) (bmc pch : ℕ) where
  abbrev fresh : Story → List Note
  fresh story = drop (length base) story.notes

  -- the PCH isn't held yet, and its device did nothing
  record IsEarly (story : Story) : Type 0 where
    front : length base ≤ length story.notes
    unheld : (at : Counts) → ¬ IsNoted (fresh story) (what.Held bank.Pch at)
    still : length story.pch.ops ≡ pch

  abbrev IsFirst : Story → Type 0
  IsFirst story = IsEarly story × (length story.bmc.ops ≡ bmc)

  abbrev IsInOrder : What → Type 0
  IsInOrder (what.Held bank.Bmc at) = (at.bmc ≡ bmc) × (at.pch ≡ pch)
  IsInOrder (what.Held bank.Pch at) = at.pch ≡ pch
  IsInOrder that = Unit {0}

  abbrev Ordered : Rule
  Ordered (Says w) story = IsStamped (w (counts_of story)) (counts_of story) × IsInOrder (w (counts_of story))
  Ordered (Asks which) story = Unit {0}
  Ordered (Does device.Bmc op) story = (at : Counts) → ¬ IsNoted (fresh story) (what.Held bank.Pch at)
  Ordered (Does device.Pch op) story = Unit {0}
  Ordered (Does device.Nv op) story = Unit {0}

  early_says : (w : Counts → What) (story : Story) → ((at : Counts) → ¬ (w (counts_of story) ≡ what.Held bank.Pch at)) → IsEarly story → IsEarly (noted w story)
  early_says w story other p =
      let note : Note = record { item = story.item; what = w (counts_of story) } in
      record {
        front = omega (arith, p.front, length-append story.notes (note ∷ []));
        unheld = λ at n. elim (noted_append (fresh story) (note ∷ []) (what.Held bank.Pch at) (subst (λ (notes : List Note). IsNoted notes (what.Held bank.Pch at)) (drop-append-le (length base) story.notes (note ∷ []) p.front) n)) [
          | inl old ↦ p.unheld at old
          | inr now ↦ elim now [ inl is ↦ other at is | inr none ↦ none ]
        ];
        still = p.still;
      }

  early_does : (op : Operation) (story : Story) → IsEarly story → IsEarly (moved_by (Does device.Bmc op) story)
  early_does op story p = record { front = p.front; unheld = p.unheld; still = p.still }

  early_stores : (op : Operation) (story : Story) → IsEarly story → IsEarly (moved_by (Does device.Nv op) story)
  early_stores op story p = record { front = p.front; unheld = p.unheld; still = p.still }

  -- ---- the work on the BMC
  early_bank : AllowsBank (Carrying IsEarly) bank.Bmc
  early_bank = record {
    released = λ svn story p. early_says (what.Released bank.Bmc svn) story (λ at e. cc) p;
    locked = λ cause story p. early_says (what.Locked bank.Bmc cause) story (λ at e. cc) p;
    untrusted = λ cause story p. early_says (λ _. what.Untrusted bank.Bmc cause) story (λ at e. cc) p;
    jobs = record {
      asks = λ which story own p. p;
      works = λ op story p. early_does op story p;
      logs = λ op story own p. early_stores op story p;
      raises = λ op story raise p. early_stores op story p;
    };
    tells = record {
      resumed = λ kind story p. early_says (λ _. what.Resumed bank.Bmc kind) story (λ at e. cc) p;
      given_up = λ story p. early_says (λ _. what.Abandoned bank.Bmc) story (λ at e. cc) p;
      restored = λ level story p. early_says (λ _. what.Restored bank.Bmc level) story (λ at e. cc) p;
      updated = λ dynamic svn story p. early_says (λ _. what.Updated bank.Bmc dynamic svn) story (λ at e. cc) p;
      recovery_updated = λ svn story p. early_says (λ _. what.RecoveryUpdated bank.Bmc svn) story (λ at e. cc) p;
    };
  }

  goes : (accepts : Acceptance) (move : Move) (story : Story) → Going bank.Bmc Brings ⊥ story move → (⊥ → (c : Bank) → KeepsRecoverable accepts c move story) → IsEarly story → Ordered move story × IsEarly (moved_by move story)
  goes accepts _ story (stroked op) keeps p = (p.unheld, early_does op story p)
  goes accepts _ story (logged op own) keeps p = (tt, early_stores op story p)
  goes accepts _ story (raised op raise) keeps p = (tt, early_stores op story p)
  goes accepts _ story (cleared cancels type op own clear) keeps p = (tt, early_stores op story p)
  goes accepts _ story (untrusted checks cause) keeps p = ((tt, tt), early_says (λ _. what.Untrusted bank.Bmc cause) story (λ at e. cc) p)
  goes accepts _ story (refused cause may) keeps p = absurd may
  goes accepts _ story (resumed resumes kind) keeps p = ((tt, tt), early_says (λ _. what.Resumed bank.Bmc kind) story (λ at e. cc) p)
  goes accepts _ story (given_up copies) keeps p = ((tt, tt), early_says (λ _. what.Abandoned bank.Bmc) story (λ at e. cc) p)
  goes accepts _ story (restored level) keeps p = ((tt, tt), early_says (λ _. what.Restored bank.Bmc level) story (λ at e. cc) p)
  goes accepts _ story (updated dynamic replaces svn) keeps p = ((tt, tt), early_says (λ _. what.Updated bank.Bmc dynamic svn) story (λ at e. cc) p)
  goes accepts _ story (recovery_updated copies svn floor) keeps p = ((tt, tt), early_says (λ _. what.RecoveryUpdated bank.Bmc svn) story (λ at e. cc) p)
  goes accepts _ story (cancelled cancels type id clear) keeps p = absurd cancels

  ends : (accepts : Acceptance) (move : Move) (story : Story) → Ended accepts bank.Bmc Brings ⊥ story move → IsEarly story → Ordered move story
  ends accepts _ story (released fuses m ready j known) p = (refl, tt)
  ends accepts _ story (unready cause is) p = (refl, tt)
  ends accepts _ story (no_image fuses cause other ready j known) p = (refl, tt)
  ends accepts _ story (no_recovery expires fuses cause ready j known) p = (refl, tt)
  ends accepts _ story (spent expires) p = (refl, tt)

  bmc_goes : (accepts : Acceptance) (story : Story) → IsSized story → IsFirst story → AllSafe Ordered (brought_up accepts bank.Bmc story) story
  bmc_goes accepts story size p =
      brought_worked Ordered IsEarly accepts bank.Bmc ⊥ (record { asks = λ which there own. tt; goes = goes accepts; ends = ends accepts }) story size (λ none. absurd none)
      (refl, (p.1, p.0.still)) (early_says (what.Held bank.Bmc) story (λ at e. cc) p.0)

  bmc_carries : (accepts : Acceptance) (story : Story) → IsSized story → AllSafe (Carrying IsEarly) (brought_up accepts bank.Bmc story) story
  bmc_carries accepts story size = allowed_safe (Carrying IsEarly) accepts bank.Bmc early_bank story size (λ p. early_says (what.Held bank.Bmc) story (λ at e. cc) p)

  -- ---- the work on the PCH
  late_bank : AllowsBank Ordered bank.Pch
  late_bank = record {
    released = λ svn story. (refl, tt);
    locked = λ cause story. (refl, tt);
    untrusted = λ cause story. (tt, tt);
    jobs = record { asks = λ which story own. tt; works = λ op story. tt; logs = λ op story own. tt; raises = λ op story raise. tt };
    tells = record { resumed = λ kind story. (tt, tt); given_up = λ story. (tt, tt); restored = λ level story. (tt, tt); updated = λ dynamic svn story. (tt, tt); recovery_updated = λ svn story. (tt, tt) };
  }

  -- ---- the fuses
  fuses_carry : (story : Story) → AllSafe (Carrying IsFirst) (migrated story) story
  fuses_carry story = ((λ p. p), called_any (Carrying IsFirst) device.Nv (λ op there p. (early_stores op there p.0, p.1)) (λ there p. p) (migration_in (fuses_of (store story))) story)

  fuses_go : (story : Story) → AllSafe Ordered (migrated story) story
  fuses_go story = (tt, called_any Ordered device.Nv (λ op there. tt) (λ there. tt) (migration_in (fuses_of (store story))) story)

  -- ---- the stretches
  module _ (accepts : Acceptance) (first new : World) where
    fuses_good : IsGoodStretch Ordered first new IsSized IsFirst fuse_stretch IsFirst
    fuses_good = record {
      plan = record { safe = λ story p. fuses_go story; ends = λ story p. whole_carries IsFirst (migrated story) story (fuses_carry story) p.1 };
      noted = λ which story trace p cut rose.
          let there = cut_carries IsFirst which (migrated story) trace story (fuses_carry story) cut p.1 in
          ((refl, (there.1, there.0.still)), ((refl, tt), ((refl, there.0.still), ((refl, tt), tt))));
      on = λ which story trace p cut e. absurd (false≢true e);
    }

    bmc_good : IsGoodStretch Ordered first new IsSized IsFirst (bank_stretch accepts bank.Bmc) IsEarly
    bmc_good = record {
      plan = record { safe = λ story p. bmc_goes accepts story p.0 p.1; ends = λ story p. whole_carries IsEarly (brought_up accepts bank.Bmc story) story (bmc_carries accepts story p.0) p.1.0 };
      noted = λ which story trace p cut rose. ((refl, tt), tt);
      on = λ which story trace p cut e.
          early_says (what.Locked bank.Bmc (fault_of which)) (after trace story) (λ at is. cc) (cut_carries IsEarly which (brought_up accepts bank.Bmc story) trace story (bmc_carries accepts story p.0) cut p.1.0);
    }

    pch_good : IsGoodStretch Ordered first new IsSized IsEarly (bank_stretch accepts bank.Pch) Any
    pch_good = record {
      plan = record { safe = λ story p. allowed_safe Ordered accepts bank.Pch late_bank story p.0 (refl, p.1.still); ends = λ story p. tt };
      noted = λ which story trace p cut rose. ((refl, tt), tt);
      on = λ which story trace p cut e. tt;
    }

    power_ordered : (known : (w : World) → AllMoved w new → IsSized (story_of w)) → IsFirst (noted (λ _. what.Power) (story_of first)) → Follows (power_course accepts) first new → Traced Ordered first new
    power_ordered known p t =
        power_along Ordered first new IsSized known (λ which story fell. ((refl, tt), tt)) first new (record { before = AllMoved-refl first; behind = AllMoved-refl new }) accepts IsFirst IsFirst IsEarly Any fuses_good bmc_good pch_good (tt, tt) p t

  -- ---- what it comes to
  record Held_so (story : Story) : Type 0 where
    front : length base ≤ length story.notes
    order : (that : What) → IsNoted (fresh story) that → IsInOrder that
    last : (at : Counts) → IsNoted (fresh story) (what.Held bank.Pch at) → at.bmc ≡ length story.bmc.ops

  so_says : (w : Counts → What) (story : Story) → Ordered (Says w) story → Held_so story → Held_so (noted w story)
  so_says w story good p =
      let note : Note = record { item = story.item; what = w (counts_of story) } in
      let split = λ (that : What) (n : IsNoted (fresh (noted w story)) that). noted_append (fresh story) (note ∷ []) that (subst (λ (notes : List Note). IsNoted notes that) (drop-append-le (length base) story.notes (note ∷ []) p.front) n) in
      record {
        front = omega (arith, p.front, length-append story.notes (note ∷ []));
        order = λ that n. elim (split that n) [
          | inl old ↦ p.order that old
          | inr now ↦ elim now [ inl is ↦ subst IsInOrder is good.1 | inr none ↦ absurd none ]
        ];
        last = λ at n. elim (split (what.Held bank.Pch at) n) [
          | inl old ↦ p.last at old
          | inr now ↦ elim now [ inl is ↦ ap (λ (c : Counts). c.bmc) (subst (λ (that : What). IsStamped that (counts_of story)) is good.0) | inr none ↦ absurd none ]
        ];
      }

  so_kept : Keeps Ordered Held_so
  so_kept (Says w) story good p = so_says w story good p
  so_kept (Asks which) story good p = p
  so_kept (Does device.Bmc op) story good p = record { front = p.front; order = p.order; last = λ at n. absurd (good at n) }
  so_kept (Does device.Pch op) story good p = record { front = p.front; order = p.order; last = p.last }
  so_kept (Does device.Nv op) story good p = record { front = p.front; order = p.order; last = p.last }

-- ---- a whole step
module _ (accepts : Acceptance) (old new : World) (size : size_of old.nv ≡ 32768) (t : Follows (power_course accepts) (begun event.Power old) new) where
  abbrev first : World
  first = begun event.Power old

  unnoted : (that : What) → ¬ IsNoted (drop (length old.notes.list) old.notes.list) that
  unnoted that n = subst (λ (notes : List Note). IsNoted notes that) (drop_all (length old.notes.list) old.notes.list (omega arith)) n

  early : IsEarly old.notes.list (length old.bmc.ops) (length old.pch.ops) (noted (λ _. what.Power) (story_of first))
  early = early_says old.notes.list (length old.bmc.ops) (length old.pch.ops) (λ _. what.Power) (story_of first) (λ at e. cc) (record { front = omega arith; unheld = λ at n. unnoted (what.Held bank.Pch at) n; still = refl })

  in_order : WorksInOrder old new
  in_order =
      let b : ℕ = length old.bmc.ops in
      let p : ℕ = length old.pch.ops in
      let traced = power_ordered old.notes.list b p accepts first new (sized first new size (power_course accepts) t) (early, refl) t in
      let all : Held_so old.notes.list b p (story_of new) = Traced-keeps (Ordered old.notes.list b p) (Held_so old.notes.list b p) (so_kept old.notes.list b p) first new traced
      (record { front = omega arith; order = λ that n. absurd (unnoted that n); last = λ at n. absurd (unnoted (what.Held bank.Pch at) n) }) in
      record { bmc = λ at n. all.order (what.Held bank.Bmc at) n; pch = λ at n. (all.order (what.Held bank.Pch at) n, all.last at n) }

-- A power-on works on the BMC and then on the PCH.
pub Turn-in_order : (accepts : Acceptance) (e : Event) (old new : World) → size_of old.nv ≡ 32768 → Turn accepts e old new → PowersInOrder e old new
Turn-in_order accepts event.Power old new size t = elim (Turn-cases accepts event.Power old new t) [
  | inl idle ↦ absurd (false≢true idle.0)
  | inr on ↦ in_order accepts old new size on.1
]
Turn-in_order accepts event.Off old new size t = tt
Turn-in_order accepts (event.Provision root) old new size t = tt
Turn-in_order accepts (event.Spi b frame) old new size t = tt
Turn-in_order accepts (event.Smbus b frame) old new size t = tt
Turn-in_order accepts (event.Tick n) old new size t = tt
Turn-in_order accepts (event.Boot b pass) old new size t = tt
Turn-in_order accepts (event.Update b intent) old new size t = tt
