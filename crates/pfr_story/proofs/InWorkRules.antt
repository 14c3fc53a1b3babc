-- The rule for the operations of the store in an event, and what it comes to at each of their counts.
use Rattle.std.proofs.Common.{◌≡◌, ◌∙◌, refl, sym, ap, subst, arith, ℕ, ◌+◌, ◌<◌, ◌≤◌, List, [], ◌∷◌, ◌++◌, length, length-append, drop, ◌⊎◌, inl, inr}
use Rattle.std.proofs.lemmas.Bool.{cases_lt}
use Rattle.std.proofs.lemmas.List.{take_all, take-append-le, drop-append-le}
use Rattle.pfr_flash.specs.Operation.{Operation, applied, play, play_first}
use Rattle.pfr_flash.specs.declared.names.Bank.{Bank}
use Rattle.pfr_flash.specs.declared.names.Bank.TheVariants as bank
use Rattle.pfr_flash.specs.declared.names.Counts.{Counts}
use Rattle.pfr_flash.specs.declared.names.Device.TheVariants as device
use Rattle.pfr_flash.proofs.PlayLemmas.{play_push}
use Rattle.pfr_script.specs.declared.event.Event.{Event}
use Rattle.pfr_report.specs.Texts.{IsNoted}
use Rattle.pfr_report.specs.declared.note.Note.{Note}
use Rattle.pfr_report.specs.declared.note.What.{What}
use Rattle.pfr_report.specs.declared.note.What.TheVariants as what
use Rattle.pfr_story.specs.InWork.{IsInWork, ChangesInWork}
use Rattle.pfr_story.specs.Plans.{store}
use Rattle.pfr_story.specs.Safety.{Rule, Keeps}
use Rattle.pfr_story.specs.Story.{Past, Story, Says, Does, Asks, noted, operated, counts_of, image_of, with_op, device_of, other_bank}
use Rattle.pfr_story.proofs.Made.{noted_left}
use Rattle.pfr_story.proofs.Traces.{IsStamped, noted_append, noted_right}

-- ---- counts of a device with one more operation
module _ (past : Past) (op : Operation) where
  pub play_before : (n : ℕ) → n ≤ length past.ops → play_first n past.start (past.ops ++ op ∷ []) ≡ play_first n past.start past.ops
  play_before n low = ap (λ (ops : List Operation). play past.start ops) (take-append-le n past.ops (op ∷ []) low)

  pub play_here : play_first (length past.ops) past.start (past.ops ++ op ∷ []) ≡ image_of past
  play_here = play_before (length past.ops) (omega arith) ∙ ap (λ (ops : List Operation). play past.start ops) (take_all (length past.ops) past.ops (omega arith))

  pub play_last : play_first (length past.ops + 1) past.start (past.ops ++ op ∷ []) ≡ applied (image_of past) op
  play_last =
      let more : List Operation = past.ops ++ op ∷ [] in
      ap (λ (ops : List Operation). play past.start ops) (take_all (length past.ops + 1) more (omega (arith, length-append past.ops (op ∷ [])))) ∙ play_push past.start past.ops op

-- what is in work by some notes is so by others
work_as : (e : Event) (notes more : List Note) (count : ℕ) (old new : List ℕ) → ((which : Bank) → IsInWork which count notes → IsInWork which count more) → ChangesInWork e notes count old new → ChangesInWork e more count old new
work_as e notes more count old new also c = record {
  logs = λ which. elim (c.logs which) [ inl same ↦ inl same | inr work ↦ inr (also which work) ];
  floors = λ which. elim (c.floors which) [ inl same ↦ inl same | inr work ↦ inr (also which work) ];
  rows = elim c.rows [ inl same ↦ inl same | inr k ↦ inr (k.0, k.1, also k.0 k.2, k.3, k.4) ];
}

no_other : (b : Bank) (at other : Counts) → ¬ (what.Held b at ≡ what.Held (other_bank b) other)
no_other bank.Bmc at other e = absurd cc
no_other bank.Pch at other e = absurd cc

-- the notes of the event are those behind these
module _ (e : Event) (base : List Note) where
  abbrev pub fresh : Story → List Note
  fresh story = drop (length base) story.notes

  -- a note carries the counts of its moment, and an operation of the store changes only what it may
  abbrev pub InWork : Rule
  InWork (Says w) story = IsStamped (w (counts_of story)) (counts_of story)
  InWork (Asks which) story = Unit {0}
  InWork (Does device.Bmc op) story = Unit {0}
  InWork (Does device.Pch op) story = Unit {0}
  InWork (Does device.Nv op) story = ChangesInWork e (fresh story) (length story.nv.ops) (store story) (applied (store story) op)

  -- the event has begun, and each note that holds a bank was made at a count so far
  pub record IsSince (story : Story) : Type 0 where
    pub front : length base ≤ length story.notes
    pub held : (c : Bank) (at : Counts) → IsNoted (fresh story) (what.Held c at) → at.nv ≤ length story.nv.ops

  module _ (w : Counts → What) (story : Story) (s : IsSince story) where
    abbrev last : Note
    last = record { item = story.item; what = w (counts_of story) }

    fresh_noted : fresh (noted w story) ≡ fresh story ++ last ∷ []
    fresh_noted = drop-append-le (length base) story.notes (last ∷ []) s.front

    was_noted : (that : What) → IsNoted (fresh (noted w story)) that → IsNoted (fresh story) that ⊎ (w (counts_of story) ≡ that)
    was_noted that n = elim (noted_append (fresh story) (last ∷ []) that (subst (λ (notes : List Note). IsNoted notes that) fresh_noted n)) [
      | inl old ↦ inl old
      | inr now ↦ elim now [ inl is ↦ inr is | inr none ↦ absurd none ]
    ]

    still_noted : (that : What) → IsNoted (fresh story) that → IsNoted (fresh (noted w story)) that
    still_noted that n = subst (λ (notes : List Note). IsNoted notes that) (sym fresh_noted) (noted_left (fresh story) (last ∷ []) that n)

    now_noted : IsNoted (fresh (noted w story)) (w (counts_of story))
    now_noted = subst (λ (notes : List Note). IsNoted notes (w (counts_of story))) (sym fresh_noted) (noted_right (fresh story) (last ∷ []) (w (counts_of story)) (inl refl))

    module _ (stamp : IsStamped (w (counts_of story)) (counts_of story)) where
      held_now : (c : Bank) (at : Counts) → w (counts_of story) ≡ what.Held c at → at ≡ counts_of story
      held_now c at is = subst (λ (that : What). IsStamped that (counts_of story)) is stamp

      pub since_says : IsSince (noted w story)
      since_says = record {
        front = omega (arith, s.front, length-append story.notes (last ∷ []));
        held = λ c at n. elim (was_noted (what.Held c at) n) [ inl old ↦ s.held c at old | inr is ↦ omega (arith, ap (λ (x : Counts). x.nv) (held_now c at is)) ];
      }

      -- a bank that was in work at an earlier count was so by more notes too
      still_work : (which : Bank) (count : ℕ) → count < length story.nv.ops → IsInWork which count (fresh story) → IsInWork which count (fresh (noted w story))
      still_work which count soon work = record {
        at = work.at;
        held = still_noted (what.Held which work.at) work.held;
        before = work.before;
        alone = λ other n. elim (was_noted (what.Held (other_bank which) other) n) [
          | inl old ↦ work.alone other old
          | inr is ↦ inr (omega (arith, soon, ap (λ (x : Counts). x.nv) (held_now (other_bank which) other is)))
        ];
      }

  -- ---- the bank in work
  pub record Works (b : Bank) (story : Story) : Type 0 where
    pub since : IsSince story
    pub work : IsInWork b (length story.nv.ops) (fresh story)

  pub held_works : (b : Bank) (story : Story) → IsSince story → Works b (noted (what.Held b) story)
  held_works b story s = record {
    since = since_says (what.Held b) story s refl;
    work = record {
      at = counts_of story;
      held = now_noted (what.Held b) story s;
      before = omega arith;
      alone = λ other n. elim (was_noted (what.Held b) story s (what.Held (other_bank b) other) n) [
        | inl old ↦ inl (s.held (other_bank b) other old)
        | inr is ↦ absurd (no_other b (counts_of story) other is)
      ];
    };
  }

  -- what is noted besides
  pub works_says : (b : Bank) (that : What) (story : Story) → IsStamped that (counts_of story) → ((c : Bank) (at : Counts) → ¬ (that ≡ what.Held c at)) → Works b story → Works b (noted (λ _. that) story)
  works_says b that story stamp other p = record {
    since = since_says (λ _. that) story p.since stamp;
    work = record {
      at = p.work.at;
      held = still_noted (λ _. that) story p.since (what.Held b p.work.at) p.work.held;
      before = p.work.before;
      alone = λ at n. elim (was_noted (λ _. that) story p.since (what.Held (other_bank b) at) n) [ inl old ↦ p.work.alone at old | inr is ↦ absurd (other (other_bank b) at is) ];
    };
  }

  since_stored : (op : Operation) (story : Story) → IsSince story → IsSince (operated device.Nv op story)
  since_stored op story s = record { front = s.front; held = λ c at n. omega (arith, s.held c at n, length-append story.nv.ops (op ∷ [])) }

  pub works_stored : (b : Bank) (op : Operation) (story : Story) → Works b story → Works b (operated device.Nv op story)
  works_stored b op story p = record {
    since = since_stored op story p.since;
    work = record {
      at = p.work.at;
      held = p.work.held;
      before = omega (arith, p.work.before, length-append story.nv.ops (op ∷ []));
      alone = λ other n. elim (p.work.alone other n) [ inl early ↦ inl early | inr late ↦ absurd (omega (arith, late, p.since.held (other_bank b) other n)) ];
    };
  }

  pub works_stroked : (b c : Bank) (op : Operation) (story : Story) → Works c story → Works c (operated (device_of b) op story)
  works_stroked bank.Bmc c op story p = record { since = record { front = p.since.front; held = p.since.held }; work = p.work }
  works_stroked bank.Pch c op story p = record { since = record { front = p.since.front; held = p.since.held }; work = p.work }

  pub since_kept : Keeps InWork IsSince
  since_kept (Says w) story good s = since_says w story s good
  since_kept (Asks which) story good s = s
  since_kept (Does device.Bmc op) story good s = record { front = s.front; held = s.held }
  since_kept (Does device.Pch op) story good s = record { front = s.front; held = s.held }
  since_kept (Does device.Nv op) story good s = since_stored op story s

  -- ---- at each count
  module _ (count : ℕ) where
    -- each operation of the store behind this count changed only what it may
    pub record Changed (story : Story) : Type 0 where
      pub since : IsSince story
      pub each : (n : ℕ) → count ≤ n → n < length story.nv.ops → ChangesInWork e (fresh story) n (play_first n story.nv.start story.nv.ops) (play_first (n + 1) story.nv.start story.nv.ops)

    one_more : (op : Operation) (story : Story) → InWork (Does device.Nv op) story → Changed story → (n : ℕ) → count ≤ n → n < length (with_op story.nv op).ops
        → ChangesInWork e (fresh story) n (play_first n story.nv.start (with_op story.nv op).ops) (play_first (n + 1) story.nv.start (with_op story.nv op).ops)
    one_more op story good p n low high = elim (cases_lt n (length story.nv.ops)) [
      | inl soon ↦ rw (play_before story.nv op n (omega (arith, soon)), play_before story.nv op (n + 1) (omega (arith, soon))) (p.each n low soon)
      | inr late ↦
          let is : length story.nv.ops ≡ n = omega (arith, late, high, length-append story.nv.ops (op ∷ [])) in
          subst (λ (k : ℕ). ChangesInWork e (fresh story) k (play_first k story.nv.start (with_op story.nv op).ops) (play_first (k + 1) story.nv.start (with_op story.nv op).ops)) is
          (rw (play_here story.nv op, play_last story.nv op) good)
    ]

    pub changed_kept : Keeps InWork Changed
    changed_kept (Says w) story good p = record {
      since = since_says w story p.since good;
      each = λ n low high. work_as e (fresh story) (fresh (noted w story)) n _ _ (λ which. still_work w story p.since good which n high) (p.each n low high);
    }
    changed_kept (Asks which) story good p = p
    changed_kept (Does device.Bmc op) story good p = record { since = since_kept (Does device.Bmc op) story good p.since; each = p.each }
    changed_kept (Does device.Pch op) story good p = record { since = since_kept (Does device.Pch op) story good p.since; each = p.each }
    changed_kept (Does device.Nv op) story good p = record { since = since_stored op story p.since; each = one_more op story good p }
