-- A power-on migrates a store of profile 1 before it holds a bank.
use Rattle.std.proofs.Common.{◌≡◌, ◌∙◌, refl, sym, ap, subst, arith, ℕ, ◌+◌, ◌<◌, ◌≤◌, ◌⊎◌, List, [], ◌∷◌, ◌++◌, length, length-append, drop, inl, inr, Some, Ok}
use Rattle.std.proofs.lemmas.Bool.{false≢true}
use Rattle.std.proofs.lemmas.List.{drop_all, drop-append-le, take_all}
use Rattle.pfr_flash.specs.Bytes.{AreBytes}
use Rattle.pfr_flash.specs.FlashState.{now, upto, size_of}
use Rattle.pfr_flash.specs.Operation.{Operation, applied, play, play_first}
use Rattle.pfr_flash.specs.Range.{IsWithin}
use Rattle.pfr_flash.specs.declared.names.Bank.{Bank}
use Rattle.pfr_flash.specs.declared.names.Bank.TheVariants as bank
use Rattle.pfr_flash.specs.declared.names.Counts.{Counts}
use Rattle.pfr_flash.specs.declared.names.Device.TheVariants as device
use Rattle.pfr_flash.proofs.PlayLemmas.{length-play}
use Rattle.pfr_engine.specs.Acceptance.{Acceptance}
use Rattle.pfr_fuses.specs.FuseMap.{profile_of, floor_at}
use Rattle.pfr_fuses.specs.FusesOf.{fuses_of}
use Rattle.pfr_fuses.specs.FusesState.{FusesState}
use Rattle.pfr_fuses.specs.declared.profile.Profile.TheVariants.{Two}
use Rattle.pfr_fuses.proofs.GrowthLemmas.{profile-outside}
use Rattle.pfr_fuses.proofs.StaysLemmas.{floor_in_sector}
use Rattle.pfr_jobs.specs.Log.{log_at}
use Rattle.pfr_jobs.proofs.BeginLaw.{log_low}
use Rattle.pfr_script.specs.declared.event.Event.{Event}
use Rattle.pfr_script.specs.declared.event.Event.TheVariants as event
use Rattle.pfr_report.specs.Texts.{IsNoted}
use Rattle.pfr_report.specs.declared.note.LockWhy.TheVariants as why
use Rattle.pfr_report.specs.declared.note.Note.{Note}
use Rattle.pfr_report.specs.declared.note.What.{What}
use Rattle.pfr_report.specs.declared.note.What.TheVariants as what
use Rattle.pfr_story.specs.Course.{Faults, LosesPower, Steps, Follows}
use Rattle.pfr_story.specs.Migrating.{MigratesAtPower}
use Rattle.pfr_story.specs.Plans.{store, migrated, migration_in}
use Rattle.pfr_story.specs.Safety.{AllSafe}
use Rattle.pfr_story.specs.Story.{Story, after, noted, operated, counts_of, device_of}
use Rattle.pfr_story.specs.Turn.{fault_of, bank_stretch, fuse_stretch, unreadable, power_course, begun, Turn}
use Rattle.pfr_story.specs.World.{World, story_of, added}
use Rattle.pfr_story.proofs.BringAllowed.{IsSized, AllowsBank, allowed_safe}
use Rattle.pfr_story.proofs.Bytes.{HaveBytes, images_then}
use Rattle.pfr_story.proofs.ContentsLaws.{migrates}
use Rattle.pfr_story.proofs.Courses.{went_on, Turn-cases}
use Rattle.pfr_story.proofs.Endings.{IsKept, steps_traced}
use Rattle.pfr_story.proofs.FuseLaws.{profile_kept}
use Rattle.pfr_story.proofs.InWorkRules.{play_before}
use Rattle.pfr_story.proofs.JobGrowth.{within_outside}
use Rattle.pfr_story.proofs.JobWalks.{store_sized}
use Rattle.pfr_story.proofs.Made.{said, notes_after}
use Rattle.pfr_story.proofs.PowerOrderLaws.{Carrying, carries, whole_carries, cut_carries}
use Rattle.pfr_story.proofs.SafetyLaws.{image_operated, called_any}
use Rattle.pfr_story.proofs.Traces.{IsStamped, Traced-keeps, noted_append, noted_right, precedes_moved}
use Rattle.pfr_story.proofs.Turns.{Turn-moved}

-- ---- what leaves the profile
kept_by_within : (from len : ℕ) (op : Operation) (story : Story) → ((0xA00 < from) ⊎ (from + len ≤ 0xA00)) → IsWithin from len op → profile_of (store (operated device.Nv op story)) ≡ profile_of (store story)
kept_by_within from len op story apart w =
    ap (λ (nv : List ℕ). profile_of nv) (image_operated device.Nv op story) ∙ profile-outside from len (store story) (applied (store story) op) apart (within_outside from len (store story) op w)

module _ (base : List Note) where
  abbrev fresh : Story → List Note
  fresh story = drop (length base) story.notes

  -- no bank is held yet
  record IsUnheld (story : Story) : Type 0 where
    front : length base ≤ length story.notes
    unheld : (which : Bank) (at : Counts) → ¬ IsNoted (fresh story) (what.Held which at)

  -- the store is of profile 2, and was where a bank was held
  record IsTwo (story : Story) : Type 0 where
    front : length base ≤ length story.notes
    two : profile_of (store story) ≡ Two
    held : (which : Bank) (at : Counts) → IsNoted (fresh story) (what.Held which at) → (at.nv ≤ length story.nv.ops) × (profile_of (play_first at.nv story.nv.start story.nv.ops) ≡ Two)

  module _ (w : Counts → What) (story : Story) (front : length base ≤ length story.notes) where
    abbrev last : Note
    last = record { item = story.item; what = w (counts_of story) }

    front_noted : length base ≤ length (noted w story).notes
    front_noted = omega (arith, front, length-append story.notes (last ∷ []))

    was_noted : (that : What) → IsNoted (fresh (noted w story)) that → IsNoted (fresh story) that ⊎ (w (counts_of story) ≡ that)
    was_noted that n = elim (noted_append (fresh story) (last ∷ []) that (subst (λ (notes : List Note). IsNoted notes that) (drop-append-le (length base) story.notes (last ∷ []) front) n)) [
      | inl old ↦ inl old
      | inr now ↦ elim now [ inl is ↦ inr is | inr none ↦ absurd none ]
    ]

  unheld_says : (w : Counts → What) (story : Story) → ((which : Bank) (at : Counts) → ¬ (w (counts_of story) ≡ what.Held which at)) → IsUnheld story → IsUnheld (noted w story)
  unheld_says w story other p = record {
    front = front_noted w story p.front;
    unheld = λ which at n. elim (was_noted w story p.front (what.Held which at) n) [ inl old ↦ p.unheld which at old | inr is ↦ other which at is ];
  }

  two_says : (w : Counts → What) (story : Story) → IsStamped (w (counts_of story)) (counts_of story) → IsTwo story → IsTwo (noted w story)
  two_says w story stamp p = record {
    front = front_noted w story p.front;
    two = p.two;
    held = λ which at n. elim (was_noted w story p.front (what.Held which at) n) [
      | inl old ↦ p.held which at old
      | inr is ↦
          let here : at ≡ counts_of story = subst (λ (that : What). IsStamped that (counts_of story)) is stamp in
          subst (λ (c : Counts). (c.nv ≤ length story.nv.ops) × (profile_of (play_first c.nv story.nv.start story.nv.ops) ≡ Two)) (sym here) (omega arith, here_two story p.two)
    ];
  }
    where
      here_two : (s : Story) → profile_of (store s) ≡ Two → profile_of (play_first (length s.nv.ops) s.nv.start s.nv.ops) ≡ Two
      here_two s two = ap (λ (ops : List Operation). profile_of (play s.nv.start ops)) (take_all (length s.nv.ops) s.nv.ops (omega arith)) ∙ two

  two_stored : (op : Operation) (story : Story) → profile_of (store (operated device.Nv op story)) ≡ profile_of (store story) → IsTwo story → IsTwo (operated device.Nv op story)
  two_stored op story same p = record {
    front = p.front;
    two = same ∙ p.two;
    held = λ which at n.
        let was = p.held which at n in
        (omega (arith, was.0, length-append story.nv.ops (op ∷ [])), ap (λ (nv : List ℕ). profile_of nv) (play_before story.nv op at.nv was.0) ∙ was.1);
  }

  two_stroked : (b : Bank) (op : Operation) (story : Story) → IsTwo story → IsTwo (operated (device_of b) op story)
  two_stroked bank.Bmc op story p = record { front = p.front; two = p.two; held = p.held }
  two_stroked bank.Pch op story p = record { front = p.front; two = p.two; held = p.held }

  -- ---- the work on a bank
  two_bank : (b : Bank) → AllowsBank (Carrying IsTwo) b
  two_bank b = record {
    released = λ svn story p. two_says (what.Released b svn) story refl p;
    locked = λ cause story p. two_says (what.Locked b cause) story refl p;
    untrusted = λ cause story p. two_says (λ _. what.Untrusted b cause) story tt p;
    jobs = record {
      asks = λ which story own p. p;
      works = λ op story p. two_stroked b op story p;
      logs = λ op story own p. two_stored op story (kept_by_within (log_at b) 0x3000 op story (inl (omega (arith, log_low b))) own) p;
      raises = λ op story raise p. two_stored op story (kept_by_within (floor_at Two b) 16 op story (inl (omega (arith, (floor_in_sector b).0))) raise.within) p;
    };
    tells = record {
      resumed = λ kind story p. two_says (λ _. what.Resumed b kind) story tt p;
      given_up = λ story p. two_says (λ _. what.Abandoned b) story tt p;
      restored = λ level story p. two_says (λ _. what.Restored b level) story tt p;
      updated = λ dynamic svn story p. two_says (λ _. what.Updated b dynamic svn) story tt p;
      recovery_updated = λ svn story p. two_says (λ _. what.RecoveryUpdated b svn) story tt p;
    };
  }

  bank_kept : (accepts : Acceptance) (b : Bank) → IsKept (Carrying IsTwo) (bank_stretch accepts b)
  bank_kept accepts b = record {
    plan = λ story size. allowed_safe (Carrying IsTwo) accepts b (two_bank b) story size (λ p. two_says (what.Held b) story refl p);
    fault = λ which story. ((λ p. two_says (what.Locked b (fault_of which)) story refl p), tt);
  }

  -- ---- the fuses
  fuses_carry : (story : Story) → AllSafe (Carrying IsUnheld) (migrated story) story
  fuses_carry story =
      ((λ p. p), called_any (Carrying IsUnheld) device.Nv (λ op there p. record { front = p.front; unheld = p.unheld }) (λ there p. p) (migration_in (fuses_of (store story))) story)

  -- both banks are locked where they couldn't be
  locked_here : (story : Story) → IsUnheld story → (which : Bank) (at : Counts) → IsNoted (fresh (after unreadable story)) (what.Held which at) → IsNoted (fresh (after unreadable story)) (what.Locked which why.StoreFault at)
  locked_here story p which at n =
      let notes : fresh (after unreadable story) ≡ fresh story ++ said unreadable story =
      ap (λ (all : List Note). drop (length base) all) (notes_after unreadable story) ∙ drop-append-le (length base) story.notes (said unreadable story) p.front in
      subst (λ (all : List Note). IsNoted all (what.Locked which why.StoreFault at)) (sym notes)
      (elim (noted_append (fresh story) (said unreadable story) (what.Held which at) (subst (λ (all : List Note). IsNoted all (what.Held which at)) notes n)) [
        | inl old ↦ absurd (p.unheld which at old)
        | inr now ↦ noted_right (fresh story) (said unreadable story) (what.Locked which why.StoreFault at) (by_place now)
      ])
    where
      locked_of : What → What
      locked_of (what.Held b c) = what.Locked b why.StoreFault c
      locked_of that = that

      by_place : IsNoted (said unreadable story) (what.Held which at) → IsNoted (said unreadable story) (what.Locked which why.StoreFault at)
      by_place (inl is) = inr (inl (ap locked_of is))
      by_place (inr (inl is)) = absurd (let never : what.Locked bank.Bmc why.StoreFault (counts_of story) ≡ what.Held which at = is in cc)
      by_place (inr (inr (inl is))) = inr (inr (inr (inl (ap locked_of is))))
      by_place (inr (inr (inr (inl is)))) = absurd (let never : what.Locked bank.Pch why.StoreFault (counts_of story) ≡ what.Held which at = is in cc)
      by_place (inr (inr (inr (inr none)))) = absurd none

-- ---- a whole step
module _ (accepts : Acceptance) (old new : World) (size : size_of old.nv ≡ 32768) (bytes : AreBytes (now old.nv)) where
  abbrev base : List Note
  base = old.notes.list

  abbrev begin : Story
  begin = noted (λ _. what.Power) (story_of (begun event.Power old))

  abbrev Migrates : Type 0
  Migrates = (which : Bank) (at : Counts) → IsNoted (added old new) (what.Held which at) → ¬ IsNoted (added old new) (what.Locked which why.StoreFault at)
      → (fuses : FusesState) → fuses_of (now old.nv) ≡ Ok fuses → profile_of (upto new.nv at.nv) ≡ Two

  sized : IsSized begin
  sized = length-play old.nv.start old.nv.ops ∙ size

  unheld : IsUnheld base begin
  unheld = unheld_says base (λ _. what.Power) (story_of (begun event.Power old)) (λ which at e. cc)
      (record { front = omega arith; unheld = λ which at n. subst (λ (notes : List Note). IsNoted notes (what.Held which at)) (drop_all (length base) base (omega arith)) n })

  none_held : IsUnheld base (story_of new) → Migrates
  none_held p which at n = absurd (p.unheld which at n)

  crossed : (mid : World) → story_of mid ≡ after (migrated begin) begin → Steps (bank_stretch accepts bank.Bmc ∷ bank_stretch accepts bank.Pch ∷ []) mid new → Migrates
  crossed mid is rest which at n unlocked fuses f =
      let there : Story = after (migrated begin) begin in
      let says = (migrates fuses begin f sized bytes).says in
      let two : profile_of (store there) ≡ Two = sym (profile_kept (store there) (record fuses { profile = Two }) says) in
      let free : IsUnheld base there = whole_carries (IsUnheld base) (migrated begin) begin (fuses_carry base begin) unheld in
      let start : IsTwo base there = record { front = free.front; two = two; held = λ b c m. absurd (free.unheld b c m) } in
      let mid_sized : IsSized (story_of mid) = ap (λ (s : Story). length (store s)) is ∙ store_sized (migrated begin) begin ∙ sized in
      let traced = steps_traced (Carrying (IsTwo base)) (λ d story p. two_says base (what.Lost (Some d)) story refl p) (bank_stretch accepts bank.Bmc ∷ bank_stretch accepts bank.Pch ∷ [])
      (bank_kept base accepts bank.Bmc, (bank_kept base accepts bank.Pch, tt)) mid new mid_sized rest in
      ((Traced-keeps (Carrying (IsTwo base)) (IsTwo base) (carries (IsTwo base)) mid new traced (subst (IsTwo base) (sym is) start)).held which at n).1

  faulted : (first mid : World) → story_of first ≡ begin → (f : Faults fuse_stretch first mid) → story_of new ≡ story_of mid → Migrates
  faulted first mid is f ends which at n unlocked =
      let free : IsUnheld base (after f.stopped.trace (story_of first)) =
      cut_carries (IsUnheld base) f.which (migrated (story_of first)) f.stopped.trace (story_of first) (fuses_carry base (story_of first)) f.stopped.cut (subst (IsUnheld base) (sym is) unheld) in
      let there : story_of new ≡ after unreadable (after f.stopped.trace (story_of first)) = ends ∙ f.noted.is ∙ ap (λ (s : Story). after unreadable s) f.stopped.is in
      absurd (unlocked (subst (λ (s : Story). IsNoted (drop (length base) s.notes) (what.Locked which why.StoreFault at)) (sym there)
      (locked_here base (after f.stopped.trace (story_of first)) free which at (subst (λ (s : Story). IsNoted (drop (length base) s.notes) (what.Held which at)) there n))))

  lost_power : (first : World) → story_of first ≡ begin → LosesPower fuse_stretch first new → Migrates
  lost_power first is l =
      let free : IsUnheld base (after l.stopped.trace (story_of first)) =
      cut_carries (IsUnheld base) l.which (migrated (story_of first)) l.stopped.trace (story_of first) (fuses_carry base (story_of first)) l.stopped.cut (subst (IsUnheld base) (sym is) unheld) in
      let there : story_of new ≡ noted (what.Lost (Some l.which)) (after l.stopped.trace (story_of first)) = l.noted.is ∙ ap (λ (s : Story). noted (what.Lost (Some l.which)) s) l.stopped.is in
      none_held (subst (IsUnheld base) (sym there) (unheld_says base (what.Lost (Some l.which)) (after l.stopped.trace (story_of first)) (λ which at e. cc) free))

  migrates_so : Follows (power_course accepts) (begun event.Power old) new → Migrates
  migrates_so (first, says, inl (mid, c, rest)) =
      crossed mid (c.is ∙ ap (λ (s : Story). after (migrated s) s) says.is) rest
  migrates_so (first, says, inr (inl (mid, f, rest))) =
      faulted first mid says.is f (went_on fuse_stretch.goes_on (Steps (bank_stretch accepts bank.Bmc ∷ bank_stretch accepts bank.Pch ∷ [])) mid new (story_of new ≡ story_of mid) (λ on r. absurd (false≢true on)) (λ r. r.is) rest)
  migrates_so (first, says, inr (inr l)) = lost_power first says.is l

-- A power-on migrates a store of profile 1.
pub Turn-migrates : (accepts : Acceptance) (e : Event) (old new : World) → size_of old.nv ≡ 32768 → HaveBytes new → Turn accepts e old new → MigratesAtPower e old new
Turn-migrates accepts event.Power old new size held t = elim (Turn-cases accepts event.Power old new t) [
  | inl idle ↦ absurd (false≢true idle.0)
  | inr on ↦
      let first : World = begun event.Power old in
      migrates_so accepts old new size (images_then (story_of first) new (precedes_moved first new (Turn-moved accepts event.Power old new t)) held device.Nv) on.1
]
Turn-migrates accepts event.Off old new size held t = tt
Turn-migrates accepts (event.Provision root) old new size held t = tt
Turn-migrates accepts (event.Spi b frame) old new size held t = tt
Turn-migrates accepts (event.Smbus b frame) old new size held t = tt
Turn-migrates accepts (event.Tick n) old new size held t = tt
Turn-migrates accepts (event.Boot b pass) old new size held t = tt
Turn-migrates accepts (event.Update b intent) old new size held t = tt
