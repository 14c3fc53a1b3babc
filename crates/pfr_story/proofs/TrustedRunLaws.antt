-- Laws of whole runs that begin with no note: a bank that runs where an item begins is trusted there.
use Rattle.std.proofs.Common.{◌≡◌, ◌∙◌, ℕ, ◌+◌, List, [], ◌∷◌, length, sym, ap, subst}
use Rattle.std.specs.List.{AllByRecursion}
use Rattle.std.specs.Prelude.{slice_index_or}
use Rattle.pfr_flash.specs.FlashState.{size_of}
use Rattle.pfr_flash.specs.Layout.{IsBankSize}
use Rattle.pfr_flash.specs.declared.names.Bank.{Bank}
use Rattle.pfr_flash.specs.declared.names.Bank.TheVariants as bank
use Rattle.pfr_engine.specs.Acceptance.{Acceptance}
use Rattle.pfr_script.specs.declared.item.Item.{Item}
use Rattle.pfr_script.specs.declared.item.Item.TheVariants as item
use Rattle.pfr_report.specs.declared.note.Note.{Note}
use Rattle.pfr_story.specs.Story.{Story}
use Rattle.pfr_story.specs.World.{World, story_of}
use Rattle.pfr_story.specs.Standing as standing
use Rattle.pfr_story.specs.Standing.{standing_of}
use Rattle.pfr_story.specs.Run.{Did, Reached}
use Rattle.pfr_story.specs.Keeping.{HasTrustedSpans}
use Rattle.pfr_story.specs.Promises.{RunningHasNoJob}
use Rattle.pfr_story.proofs.Bytes.{HaveBytes, have_before}
use Rattle.pfr_story.proofs.Entry.{TrustedRunning}
use Rattle.pfr_story.proofs.RunLaws.{IsFresh, IsLater, IsLater-refl, IsLater-trans, IsLater-did, Reached-later, armed_story}
use Rattle.pfr_story.proofs.KeepingLaws.{Turn-trusted_spans, trusted_now}

-- where an item of the run begins, behind its first world: each bank was trusted throughout its spans
pub record IsUnderway (accepts : Acceptance) (first w : World) : Type 0 where
  pub later : IsLater first w
  pub trusted : (which : Bank) → HasTrustedSpans accepts which (story_of w)

pub underway_trusted : (accepts : Acceptance) (first w : World) → IsUnderway accepts first w → TrustedRunning accepts w
underway_trusted accepts first w u which runs = trusted_now accepts which w (u.trusted which) runs

-- and no job of it is open
pub underway_idle : (accepts : Acceptance) (first w : World) → IsUnderway accepts first w → RunningHasNoJob w
underway_idle accepts first w u which runs = (u.trusted which).idle runs

-- no bank runs yet
unnoted_off : (which : Bank) (notes : List Note) → notes ≡ [] → ¬ (standing_of which notes ≡ standing.Running)
unnoted_off which notes e runs = let off : standing.Off ≡ standing.Running = ap (λ (ns : List Note). standing_of which ns) (sym e) ∙ runs in cc

unnoted_spans : (accepts : Acceptance) (which : Bank) (story : Story) → story.notes ≡ [] → HasTrustedSpans accepts which story
unnoted_spans accepts which story e = record { spans = rw e tt; settled = λ runs. absurd (unnoted_off which story.notes e runs); idle = λ runs. absurd (unnoted_off which story.notes e runs) }

pub fresh_underway : (accepts : Acceptance) (first : World) → IsFresh first → IsUnderway accepts first first
fresh_underway accepts first fresh = record { later = IsLater-refl first; trusted = λ which. unnoted_spans accepts which (story_of first) fresh.notes }

-- the number of the item changes nothing of it
spans_item : (accepts : Acceptance) (which : Bank) (n : ℕ) (story : Story) → HasTrustedSpans accepts which story → HasTrustedSpans accepts which (record story { item = n })
spans_item accepts bank.Bmc n story h = record { spans = h.spans; settled = h.settled; idle = h.idle }
spans_item accepts bank.Pch n story h = record { spans = h.spans; settled = h.settled; idle = h.idle }

module _ (accepts : Acceptance) (tears : List (List ℕ)) where
  did_spans : (which : Bank) (i : Item) (old new : World) → HaveBytes new → IsBankSize (size_of old.bmc) → IsBankSize (size_of old.pch) → size_of old.nv ≡ 32768 → Did accepts tears i old new
      → ((c : Bank) → HasTrustedSpans accepts c (story_of old)) → HasTrustedSpans accepts which (story_of new)
  did_spans which (item.Event e) old new held bmc pch size t h = Turn-trusted_spans accepts which e old new t held bmc pch size h
  did_spans which (item.Arm arm) old new held bmc pch size is h =
      subst (λ (s : Story). HasTrustedSpans accepts which s) (sym (ap story_of is ∙ armed_story arm (slice_index_or tears arm.tear []) old))
      (spans_item accepts which (old.item + 1) (story_of old) (h which))

  module _ (first : World) (bmc : IsBankSize (size_of first.bmc)) (pch : IsBankSize (size_of first.pch)) (size : size_of first.nv ≡ 32768) where
    -- an item leaves a world that the run can go on from
    pub did_underway : (i : Item) (old new : World) → HaveBytes new → Did accepts tears i old new → IsUnderway accepts first old → IsUnderway accepts first new
    did_underway i old new held did u = record {
      later = IsLater-trans first old new u.later (IsLater-did accepts tears i old new did);
      trusted = λ which.
          did_spans which i old new held (subst (λ (start : List ℕ). IsBankSize (length start)) (sym u.later.precedes.bmc.start) bmc)
          (subst (λ (start : List ℕ). IsBankSize (length start)) (sym u.later.precedes.pch.start) pch) (ap (λ (start : List ℕ). length start) u.later.precedes.nv.start ∙ size) did u.trusted;
    }

    -- What holds of each item besides, by what P says of it, holds of it in the run, where the devices had bytes.
    pub Reached-with : (P : Item → Type 0) (Q : Item → World → World → Type 0)
        → ((i : Item) (old new : World) → P i → IsUnderway accepts first old → HaveBytes new → Did accepts tears i old new → Q i old new)
        → (items : List Item) (old new : World) → AllByRecursion P items → IsUnderway accepts first old → HaveBytes new → Reached (Did accepts tears) items old new
        → Reached (λ i a b. Did accepts tears i a b × Q i a b) items old new
    Reached-with P Q holds [] old new known u held r = r
    Reached-with P Q holds (i ∷ items) old new known u held (mid, did, r) =
        let bytes = have_before mid new (Reached-later accepts tears items mid new r).precedes held in
        (mid, (did, holds i old mid known.0 u bytes did), Reached-with P Q holds items mid new known.1 (did_underway i old mid bytes did u) held r)
