-- Reading lines one after the other.
use Rattle.std.proofs.Common.{◌≡◌, ℕ, ◌+◌, ◌<◌, ◌==◌, List, [], ◌∷◌, ◌++◌, length, Result, Ok, Err, refl, sym, ◌∙◌, ap, arith, append_assoc}
use Rattle.std.proofs.lemmas.List.Splits.{length-slice_split}
use Rattle.pfr_engine.specs.declared.row.Row.{Row}
use Rattle.pfr_engine.specs.declared.engine_fail.EngineFail.{EngineFail}
use Rattle.pfr_engine.specs.declared.engine_fail.EngineFail.TheVariants.{NoMemory, Text}
use Rattle.pfr_engine.specs.declared.engine_why.EngineWhy.TheVariants as causes
use Rattle.pfr_engine.specs.Judging.{◌>>=◌, ◌>>◌, require}
use Rattle.pfr_engine.specs.Rows.{judge_line, judge_lines, lines_in, Refuses}

-- rows that were read, and those that are to be read
abbrev pub with_front : List Row → Result (List Row) EngineFail → Result (List Row) EngineFail
with_front front read = read >>= λ rows. Ok (front ++ rows)

-- one line, with others behind it
one_line : (line : ℕ) (text : List ℕ) (others : List (List ℕ)) → 0 < length others →
    judge_lines line (text ∷ others) ≡ (judge_line line text >>= λ row. judge_lines (line + 1) others >>= λ rows. Ok (row ∷ rows))
one_line line text [] h = absurd (omega arith)
one_line line text (next ∷ others) h = refl

pushed : (front : List Row) (row : Row) (read : Result (List Row) EngineFail) → with_front front (read >>= λ rows. Ok (row ∷ rows)) ≡ with_front (front ++ row ∷ []) read
pushed front row (Ok rows) = ap Ok (sym (append_assoc front (row ∷ []) rows))
pushed front row (Err e) = refl

pub some_lines : (text : List ℕ) → 0 < length (lines_in text)
some_lines text = rw (length-slice_split (λ byte. byte == 10) text) (omega arith)

pub advance : (line : ℕ) (text first others : List ℕ) (front front' : List Row) (row : Row) (all : Result (List Row) EngineFail) →
    lines_in text ≡ first ∷ lines_in others → judge_line line first ≡ Ok row → front' ≡ front ++ row ∷ [] →
    with_front front (judge_lines line (lines_in text)) ≡ all →
    with_front front' (judge_lines (line + 1) (lines_in others)) ≡ all
advance line text first others front front' row all split is pushes so_far =
    let read : judge_lines line (lines_in text) ≡ (judge_lines (line + 1) (lines_in others) >>= λ rows. Ok (row ∷ rows)) =
    ap (judge_lines line) split ∙ one_line line first (lines_in others) (some_lines others)
    ∙ ap (λ r. r >>= λ row. judge_lines (line + 1) (lines_in others) >>= λ rows. Ok (row ∷ rows)) is in
    rw pushes (sym (pushed front row (judge_lines (line + 1) (lines_in others))) ∙ ap (with_front front) (sym read) ∙ so_far)

-- a refusal of a line is that of the text
pub refuses : (line : ℕ) (text first others : List ℕ) (front : List Row) (cause : EngineFail) (all : Result (List Row) EngineFail) →
    lines_in text ≡ first ∷ lines_in others → with_front front (judge_lines line (lines_in text)) ≡ all →
    Refuses cause (judge_line line first) → Refuses cause all
refuses line text first others front NoMemory all split so_far refused = tt
refuses line text first others front (Text number why) all split so_far refused =
    let read : judge_lines line (lines_in text) ≡ Err (Text number why) =
    ap (judge_lines line) split ∙ one_line line first (lines_in others) (some_lines others)
    ∙ ap (λ r. r >>= λ row. judge_lines (line + 1) (lines_in others) >>= λ rows. Ok (row ∷ rows)) refused in
    sym so_far ∙ ap (with_front front) read

-- what stands behind the last newline
pub last : (line : ℕ) (text : List ℕ) (front : List Row) (all : Result (List Row) EngineFail) → lines_in text ≡ text ∷ [] →
    with_front front (judge_lines line (lines_in text)) ≡ all →
    all ≡ with_front front (require (Text line causes.Newline) (length text == 0) >> Ok [])
last line text front all split so_far = sym so_far ∙ ap (λ parts. with_front front (judge_lines line parts)) split
