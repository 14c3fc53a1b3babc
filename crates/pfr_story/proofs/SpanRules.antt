-- How the spans of a bank are kept while a bank is in work.
use Rattle.std.proofs.Common.{◌≡◌, ◌∙◌, refl, ℕ, true, false, List, [], ◌∷◌, length, ◌⊎◌, inl, inr, Ok}
use Rattle.pfr_flash.specs.Operation.{Operation}
use Rattle.pfr_flash.specs.declared.names.Bank.{Bank}
use Rattle.pfr_flash.specs.declared.names.Bank.TheVariants as bank
use Rattle.pfr_flash.specs.declared.names.Counts.{Counts}
use Rattle.pfr_flash.specs.declared.names.Device.TheVariants as device
use Rattle.pfr_engine.specs.Acceptance.{Acceptance}
use Rattle.pfr_fuses.specs.FusesState.{FusesState}
use Rattle.pfr_fuses.specs.FusesOf.{fuses_of}
use Rattle.pfr_fuses.specs.declared.profile.Profile.TheVariants.{Two}
use Rattle.pfr_report.specs.declared.note.What.{What}
use Rattle.pfr_report.specs.declared.note.What.TheVariants as what
use Rattle.pfr_story.specs.Guards.{same_bank}
use Rattle.pfr_story.specs.Keeping.{IsSettled}
use Rattle.pfr_story.specs.Plans.{store}
use Rattle.pfr_story.specs.Safety.{Rule, AllSafe, Both}
use Rattle.pfr_story.specs.Spans.{opens_after, opens_from}
use Rattle.pfr_story.specs.Story.{Story, Says, Does, Asks, after, noted, operated, counts_of, device_of, called}
use Rattle.pfr_story.proofs.SpanLaws.{SparesOpen, KeepsSpans, open_none, open_any, opens_push}

-- a store that can be read is of profile 2
abbrev pub NotOne : List ℕ → Type 0
NotOne nv = (fuses : FusesState) → fuses_of nv ≡ Ok fuses → fuses.profile ≡ Two

-- such a store stays so
abbrev pub KeepsTwo : Rule
KeepsTwo (Says w) story = Unit {0}
KeepsTwo (Does device.Bmc op) story = Unit {0}
KeepsTwo (Does device.Pch op) story = Unit {0}
KeepsTwo (Does device.Nv op) story = NotOne (store story) → NotOne (store (operated device.Nv op story))
KeepsTwo (Asks at) story = Unit {0}

pub own_two : (b : Bank) (op : Operation) (story : Story) → KeepsTwo (Does (device_of b) op) story
own_two bank.Bmc op story = tt
own_two bank.Pch op story = tt

module _ (accepts : Acceptance) (which : Bank) where
  -- the spans of this bank are kept, and a store that can be read stays of profile 2
  abbrev pub InWork : Rule
  InWork = Both (KeepsSpans accepts which) KeepsTwo

  -- no span of this bank is open, or another bank is in work and the store is settled
  abbrev pub IsIdle : Bank → Bank → Story → Type 0
  IsIdle w b story = (opens_from w [] story.notes ≡ []) ⊎ ((same_bank w b ≡ false) × IsSettled (store story))

  -- Bank b is in work; where it is this bank, a store that can be read is of profile 2. The store has its size.
  pub record AtWork (b : Bank) (story : Story) : Type 0 where
    pub idle : IsIdle which b story
    pub two : same_bank which b ≡ true → NotOne (store story)
    pub size : length (store story) ≡ 32768

  pub opens_told : (w : Bank) (that : Counts → What) (story : Story) → opens_from w [] (noted that story).notes ≡ opens_after w (that (counts_of story)) (opens_from w [] story.notes)
  opens_told w that story = opens_push w [] story.notes (record { item = story.item; what = that (counts_of story) })

  held_aside : (w b : Bank) (story : Story) → same_bank w b ≡ false → (opens_from w [] story.notes ≡ []) ⊎ IsSettled (store story) → IsIdle w b (noted (what.Held b) story)
  held_aside bank.Bmc bank.Bmc story other p = absurd cc
  held_aside bank.Bmc bank.Pch story other p = elim p [ inl none ↦ inl (opens_told bank.Bmc (what.Held bank.Pch) story ∙ none) | inr q ↦ inr (refl, q) ]
  held_aside bank.Pch bank.Bmc story other p = elim p [ inl none ↦ inl (opens_told bank.Pch (what.Held bank.Bmc) story ∙ none) | inr q ↦ inr (refl, q) ]
  held_aside bank.Pch bank.Pch story other p = absurd cc

  pub held_idle : (w b : Bank) (story : Story) → (opens_from w [] story.notes ≡ []) ⊎ IsSettled (store story) → IsIdle w b (noted (what.Held b) story)
  held_idle bank.Bmc bank.Bmc story p = inl (opens_told bank.Bmc (what.Held bank.Bmc) story)
  held_idle bank.Bmc bank.Pch story p = held_aside bank.Bmc bank.Pch story refl p
  held_idle bank.Pch bank.Bmc story p = held_aside bank.Pch bank.Bmc story refl p
  held_idle bank.Pch bank.Pch story p = inl (opens_told bank.Pch (what.Held bank.Pch) story)

  -- an operation of the bank in work
  pub spared_at : (w b : Bank) (op : Operation) (story : Story) → IsIdle w b story → KeepsSpans accepts w (Does (device_of b) op) story
  spared_at w b op story (inl e) = open_none (SparesOpen accepts w (device_of b) op story) (opens_from w [] story.notes) e
  spared_at bank.Bmc bank.Bmc op story (inr other) = absurd (let e = other.0 in cc)
  spared_at bank.Bmc bank.Pch op story (inr other) = open_any (SparesOpen accepts bank.Bmc device.Pch op story) (λ begin. record { spares = λ t. tt; settled = other.1 }) (opens_from bank.Bmc [] story.notes)
  spared_at bank.Pch bank.Bmc op story (inr other) = open_any (SparesOpen accepts bank.Pch device.Bmc op story) (λ begin. record { spares = λ t. tt; settled = other.1 }) (opens_from bank.Pch [] story.notes)
  spared_at bank.Pch bank.Pch op story (inr other) = absurd (let e = other.0 in cc)

  pub op_safe : (b : Bank) (op : Operation) (story : Story) → AtWork b story → InWork (Does (device_of b) op) story
  op_safe b op story w = (spared_at which b op story w.idle, own_two b op story)

  pub op_work : (b : Bank) (op : Operation) (story : Story) → AtWork b story → AtWork b (operated (device_of b) op story)
  op_work bank.Bmc op story w = record { idle = w.idle; two = w.two; size = w.size }
  op_work bank.Pch op story w = record { idle = w.idle; two = w.two; size = w.size }

  pub ops_safe : (b : Bank) (ops : List Operation) (story : Story) → AtWork b story → AllSafe InWork (called (device_of b) ops) story
  ops_safe b [] story w = ((tt, tt), tt)
  ops_safe b (op ∷ ops) story w = ((op_safe b op story w, λ done t. op_safe b done story w), ops_safe b ops (operated (device_of b) op story) (op_work b op story w))

  pub ops_work : (b : Bank) (ops : List Operation) (story : Story) → AtWork b story → AtWork b (after (called (device_of b) ops) story)
  ops_work b [] story w = w
  ops_work b (op ∷ ops) story w = ops_work b ops (operated (device_of b) op story) (op_work b op story w)

  -- a note that neither opens nor ends a span
  pub still_work : (b : Bank) (w : Counts → What) (story : Story) → ((opens : List Counts) → opens_after which (w (counts_of story)) opens ≡ opens) → AtWork b story → AtWork b (noted w story)
  still_work b w story still p =
      record {
        idle = elim p.idle [ inl e ↦ inl (opens_told which w story ∙ still (opens_from which [] story.notes) ∙ e) | inr other ↦ inr other ];
        two = p.two;
        size = p.size;
      }
