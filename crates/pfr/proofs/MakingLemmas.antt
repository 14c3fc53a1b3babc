-- What holds of each command that makes files.
use Rattle.std.proofs.Common.{◌≡◌, ◌∙◌, ap, refl, sym, inl, inr, ℕ, List, [], append-nil, Bool, true, Option, Some, None}
use Rattle.pfr_flash.specs.FlashState.{Rose}
use Rattle.pfr_shelf.specs.Failures.{Failure}
use Rattle.pfr_shelf.specs.Files.{Files}
use Rattle.pfr.specs.Judging.{FileRow, Finding, Keeps, Breaks, verdict}
use Rattle.pfr.specs.Makes.{MakesFor, MakingAnswers, RefusesSome, shelf_alone}
use Rattle.pfr.specs.Making.{StoredFile}
use Rattle.pfr.specs.Runs.{Outside, outside}
use Rattle.pfr.specs.Top.{Got, IsIdle, IsOrNoMemory, IsTextOf, WroteBefore}
use Rattle.pfr.specs.declared.words.Command.{Command}
use Rattle.pfr.specs.declared.words.Command.TheVariants.{Run, Check, Make, Provision, Cert}
use Rattle.pfr.specs.declared.status.Role.{Role}
use Rattle.pfr.specs.declared.status.Status.{Status}
use Rattle.pfr.specs.declared.status.Status.TheVariants.{Done, Usage, BadInput, TooLong, ReadFault, WriteFault, StoreFault, NoMemory}
use Rattle.pfr.proofs.AnswerLemmas.{keeps_or_breaks, breaks_one}

-- ---- such a command does not see the sink
makes_beside : {S K : Type 0} (tells : Bool) (files : S → Files) (faults : S → ℕ) (failed : S → Option Failure) (written : K → List ℕ) (sink_faults : K → ℕ) (old new : S) (out : K) (rows : Files → List FileRow) (names : List (Role × List ℕ)) (stores : Files → List StoredFile) (status : Status)
    → MakesFor tells (shelf_alone files faults failed old) (shelf_alone files faults failed new) rows names stores status
    → MakesFor tells (outside files faults failed written sink_faults old out) (outside files faults failed written sink_faults new out) rows names stores status
makes_beside tells files faults failed written sink_faults old new out rows names stores Done m = m
makes_beside tells files faults failed written sink_faults old new out rows names stores Usage m = m
makes_beside tells files faults failed written sink_faults old new out rows names stores (BadInput file place why) m = m
makes_beside tells files faults failed written sink_faults old new out rows names stores (TooLong file) m = m
makes_beside tells files faults failed written sink_faults old new out rows names stores (ReadFault file) m = m
makes_beside tells files faults failed written sink_faults old new out rows names stores WriteFault m = m
makes_beside tells files faults failed written sink_faults old new out rows names stores (StoreFault file) m = m
makes_beside tells files faults failed written sink_faults old new out rows names stores NoMemory m = m

pub making_answers : {S K : Type 0} (tells : Bool) (files : S → Files) (faults : S → ℕ) (failed : S → Option Failure) (written : K → List ℕ) (sink_faults : K → ℕ) (old new : S) (out : K) (rows : Files → List FileRow) (names : List (Role × List ℕ)) (stores : Files → List StoredFile) (status : Status)
    → MakesFor tells (shelf_alone files faults failed old) (shelf_alone files faults failed new) rows names stores status
    → MakingAnswers tells (outside files faults failed written sink_faults old out) (outside files faults failed written sink_faults new out) rows names stores None status
making_answers tells files faults failed written sink_faults old new out rows names stores status m =
    record { cause = makes_beside tells files faults failed written sink_faults old new out rows names stores status m; bench = refl }

-- ---- nothing was written
pub silent_got : (tells told : Bool) (before after : Outside) (asks : Option Command) (status : Status) → IsTextOf tells before.files asks None [] → WroteBefore asks None status [] → after.output ≡ before.output → Got tells told before after asks None status
silent_got tells told before after asks Done d w o = ([], d, λ t. o ∙ sym (append-nil before.output))
silent_got tells told before after asks WriteFault d w o = ([], d, λ t. record { part = []; rest = []; whole = refl; appended = o ∙ sym (append-nil before.output) })
silent_got tells told before after asks Usage d w o = ([], w, λ t. o ∙ sym (append-nil before.output))
silent_got tells told before after asks (BadInput file place why) d w o = ([], w, λ t. o ∙ sym (append-nil before.output))
silent_got tells told before after asks (TooLong file) d w o = ([], w, λ t. o ∙ sym (append-nil before.output))
silent_got tells told before after asks (ReadFault file) d w o = ([], w, λ t. o ∙ sym (append-nil before.output))
silent_got tells told before after asks (StoreFault file) d w o = ([], w, λ t. o ∙ sym (append-nil before.output))
silent_got tells told before after asks NoMemory d w o = ([], w, λ t. o ∙ sym (append-nil before.output))

nothing_wrote : (asks : Option Command) → WroteBefore asks None NoMemory []
nothing_wrote None = refl
nothing_wrote (Some (Run request)) = inl refl
nothing_wrote (Some (Check request)) = refl
nothing_wrote (Some (Make request)) = refl
nothing_wrote (Some (Provision request)) = refl
nothing_wrote (Some (Cert request)) = refl

-- there was no memory for the words, whatever they are
pub unread_got : (tells told : Bool) (before after : Outside) (asks : Option Command) → after.output ≡ before.output → Got tells told before after asks None NoMemory
unread_got tells told before after asks o = ([], nothing_wrote asks, λ t. o ∙ sym (append-nil before.output))

-- ---- the first file that breaks a rule is told
-- what the files say that are told
refusal_says : (told : Bool) (files : Files) (rows : Files → List FileRow) (before after : ℕ) (failed : Option Failure) (status : Status) (found : Finding) (r : RefusesSome told files rows before after failed status) → told ≡ true
    → verdict (rows r.held) ≡ found → verdict (rows files) ≡ found
refusal_says told files rows before after failed status found r t says = ap (λ (f : Files). verdict (rows f)) (sym (r.may t)) ∙ says

pub making_breach : (told : Bool) (before after : Outside) (rows : Files → List FileRow) (names : List (Role × List ℕ)) (stores : Files → List StoredFile) (wanted status : Status) → MakesFor told before after rows names stores status → told ≡ true
    → verdict (rows before.files) ≡ Breaks wanted → ¬ Rose before.shelf_faults after.shelf_faults → IsOrNoMemory wanted status
making_breach told before after rows names stores wanted Done m t v n = absurd (keeps_or_breaks _ wanted (m t).0 v)
making_breach told before after rows names stores wanted Usage m t v n = absurd m.0.cause
making_breach told before after rows names stores wanted (BadInput file place why) m t v n = inl (breaks_one _ _ wanted (refusal_says _ _ rows _ _ _ _ _ m.0 t (m.0.cause t)) v)
making_breach told before after rows names stores wanted (TooLong file) m t v n = inl (breaks_one _ _ wanted (refusal_says _ _ rows _ _ _ _ _ m.0 t (m.0.cause t)) v)
making_breach told before after rows names stores wanted (ReadFault file) m t v n = absurd (n m.0.cause.0)
making_breach told before after rows names stores wanted WriteFault m t v n = absurd m.0.cause
making_breach told before after rows names stores wanted (StoreFault file) m t v n = absurd (n m.0)
making_breach told before after rows names stores wanted NoMemory m t v n = inr refl

-- ---- where all files keep their rules and nothing failed, the command is done
pub making_complete : (told : Bool) (before after : Outside) (rows : Files → List FileRow) (names : List (Role × List ℕ)) (stores : Files → List StoredFile) (status : Status) → MakesFor told before after rows names stores status → told ≡ true
    → verdict (rows before.files) ≡ Keeps → ¬ Rose before.shelf_faults after.shelf_faults → IsOrNoMemory Done status
making_complete told before after rows names stores Done m t v n = inl refl
making_complete told before after rows names stores Usage m t v n = absurd m.0.cause
making_complete told before after rows names stores (BadInput file place why) m t v n = absurd (keeps_or_breaks _ _ v (refusal_says _ _ rows _ _ _ _ _ m.0 t (m.0.cause t)))
making_complete told before after rows names stores (TooLong file) m t v n = absurd (keeps_or_breaks _ _ v (refusal_says _ _ rows _ _ _ _ _ m.0 t (m.0.cause t)))
making_complete told before after rows names stores (ReadFault file) m t v n = absurd (n m.0.cause.0)
making_complete told before after rows names stores WriteFault m t v n = absurd m.0.cause
making_complete told before after rows names stores (StoreFault file) m t v n = absurd (n m.0)
making_complete told before after rows names stores NoMemory m t v n = inr refl

-- ---- the statuses at which nothing is stored
pub making_stays : (told : Bool) (before after : Outside) (rows : Files → List FileRow) (names : List (Role × List ℕ)) (stores : Files → List StoredFile) (status : Status) → MakesFor told before after rows names stores status → IsIdle status → told ≡ true
    → after.files ≡ before.files
making_stays told before after rows names stores Done m i t = absurd i
making_stays told before after rows names stores Usage m i t = m.1 t
making_stays told before after rows names stores (BadInput file place why) m i t = m.1 t
making_stays told before after rows names stores (TooLong file) m i t = m.1 t
making_stays told before after rows names stores (ReadFault file) m i t = m.1 t
making_stays told before after rows names stores WriteFault m i t = m.1 t
making_stays told before after rows names stores (StoreFault file) m i t = absurd i
making_stays told before after rows names stores NoMemory m i t = absurd i
