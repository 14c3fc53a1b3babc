-- The spans in which a bank stands released.
use Rattle.std.specs.Prelude.{ℕ, ◌≤◌, List, [], ◌∷◌, ◌++◌, length, All, if◌then◌else◌}
use Rattle.pfr_flash.specs.Operation.{play_first}
use Rattle.pfr_flash.specs.Range.{Leaves}
use Rattle.pfr_flash.specs.declared.names.Bank.{Bank}
use Rattle.pfr_flash.specs.declared.names.Counts.{Counts}
use Rattle.pfr_engine.specs.Acceptance.{Acceptance}
use Rattle.pfr_fuses.specs.RootSlot.{layout_of}
use Rattle.pfr_auth.specs.Leaving.{LeavesImage, LeavesStore}
use Rattle.pfr_auth.specs.Throughout.{IsTrustedBy, between}
use Rattle.pfr_auth.specs.Trusted.{IsTrusted}
use Rattle.pfr_report.specs.declared.note.Note.{Note}
use Rattle.pfr_report.specs.declared.note.What.{What}
use Rattle.pfr_report.specs.declared.note.What.TheVariants as what
use Rattle.pfr_story.specs.Story.{Past, Story, counts_of, past_at, device_of}
use Rattle.pfr_story.specs.Guards.{same_bank}
use Rattle.pfr_story.specs.Promises.{count_at}

-- the begins of the bank's spans that are open once this is noted
abbrev pub opens_after : Bank → What → List Counts → List Counts
opens_after which (what.Held b counts) opens = if same_bank which b then [] else opens
opens_after which (what.Released b svn counts) opens = if same_bank which b then counts ∷ opens else opens
opens_after which (what.Locked b why counts) opens = if same_bank which b then [] else opens
opens_after which (what.Lost device counts) opens = []
opens_after which _ opens = opens

-- spans that end so
abbrev pub closes : Counts → List Counts → List (Counts × Counts)
closes end [] = []
closes end (begin ∷ begins) = (begin, end) ∷ closes end begins

-- the spans that this note ends
abbrev pub ended : Bank → What → List Counts → List (Counts × Counts)
ended which (what.Held b counts) opens = if same_bank which b then closes counts opens else []
ended which (what.Locked b why counts) opens = if same_bank which b then closes counts opens else []
ended which (what.Lost device counts) opens = closes counts opens
ended which _ opens = []

abbrev pub opens_from : Bank → List Counts → List Note → List Counts
opens_from which opens [] = opens
opens_from which opens (note ∷ notes) = opens_from which (opens_after which note.what opens) notes

abbrev pub ended_from : Bank → List Counts → List Note → List (Counts × Counts)
ended_from which opens [] = []
ended_from which opens (note ∷ notes) = ended which note.what opens ++ ended_from which (opens_after which note.what opens) notes

-- From each note Released of the bank to the next note Held or Locked of it or Lost, or to the end where none follows.
abbrev pub spans_of : Bank → List Note → Counts → List (Counts × Counts)
spans_of which notes end = ended_from which [] notes ++ closes end (opens_from which [] notes)

-- Where the span begins the bank is trusted, and no operation in the span touches a byte that this reads, or the bank's recovery
-- area. So at each count in the span, of the bank and of the store, it is trusted, by the same manifest.
pub record IsSpan (accepts : Acceptance) (which : Bank) (mine nv : Past) (begin end : Counts) : Type 0 where
  pub forth : count_at which begin ≤ count_at which end
  pub forth_store : begin.nv ≤ end.nv
  pub done : count_at which end ≤ length mine.ops
  pub done_store : end.nv ≤ length nv.ops
  pub trusted : IsTrusted (play_first (count_at which begin) mine.start mine.ops) (play_first begin.nv nv.start nv.ops) which accepts
  pub image : All (LeavesImage (layout_of trusted.fuses.provision which) trusted.manifest)
      (between (count_at which begin) (count_at which end) mine.ops)
  pub recovery : All (Leaves (layout_of trusted.fuses.provision which).recovery_at (layout_of trusted.fuses.provision which).area_len)
      (between (count_at which begin) (count_at which end) mine.ops)
  pub store : All (LeavesStore trusted.fuses which) (between begin.nv end.nv nv.ops)
  pub throughout : (b n : ℕ) → count_at which begin ≤ b → b ≤ count_at which end → begin.nv ≤ n → n ≤ end.nv
      → IsTrustedBy trusted.manifest (play_first b mine.start mine.ops) (play_first n nv.start nv.ops) which accepts

abbrev pub AllSpans : Acceptance → Bank → Past → Past → List (Counts × Counts) → Type 0
AllSpans accepts which mine nv [] = Unit {0}
AllSpans accepts which mine nv (span ∷ spans) = IsSpan accepts which mine nv span.0 span.1 × AllSpans accepts which mine nv spans

-- each span of the bank is such
abbrev pub ReleasedSpans : Acceptance → Bank → Story → Type 0
ReleasedSpans accepts which story = AllSpans accepts which (past_at (device_of which) story) story.nv (spans_of which story.notes (counts_of story))
