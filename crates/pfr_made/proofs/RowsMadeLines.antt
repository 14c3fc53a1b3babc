-- Texts of several lines: each is judged alone, and words with a space between each two are found again.
use Rattle.std.proofs.Common.{◌≡◌, ◌==◌, ℕ, ◌+◌, ◌<◌, ◌≤◌, true, false, nat_le, List, [], ◌∷◌, ◌++◌, length, All, Ok, refl, ap, ◌∙◌, arith, append_assoc}
use Rattle.std.specs.List.{join_with_byte}
use Rattle.std.proofs.lemmas.Bool.Decides.{nat_tests}
use Rattle.std.proofs.lemmas.List.Elements.{All-nil, All-cons, All-append, All-head, All-tail}
use Rattle.std.proofs.lemmas.List.Splits.{slice_split_at, slice_split_none}
use Rattle.pfr_engine.proofs.LineLemmas.{some_lines}
use Rattle.pfr_engine.specs.Rows.{judge_row, judge_line, judge_lines, judge_text, lines_in}
use Rattle.pfr_engine.specs.Words.{words_in}
use Rattle.pfr_engine.specs.declared.row.Row.{Row}

abbrev IsClear : ℕ → List ℕ → Type 0
IsClear ending bytes = All (λ byte. (byte == ending) ≡ false) bytes

-- the text is one line, with a newline, and says the row
pub record SpellsRow (text : List ℕ) (row : Row) : Type 0 where
  pub line : List ℕ
  pub whole : text ≡ line ++ 10 ∷ []
  pub clear : All (λ byte. (byte == 10) ≡ false) line
  pub judged : judge_row line ≡ Ok row

one_line : (number : ℕ) (text : List ℕ) (others : List (List ℕ)) (row : Row) (rows : List Row) → 0 < length others →
    judge_line number text ≡ Ok row → judge_lines (number + 1) others ≡ Ok rows → judge_lines number (text ∷ others) ≡ Ok (row ∷ rows)
one_line number text [] row rows some is are = absurd (omega arith)
one_line number text (next ∷ others) row rows some is are = rw (is, are) refl

judged_line : (number : ℕ) (line : List ℕ) (row : Row) → number ≤ 4096 → judge_row line ≡ Ok row → judge_line number line ≡ Ok row
unfolding judge_line
judged_line number line row few is =
    let t : nat_le number 4096 ≡ true = grind (arith, nat_tests) in
    rw (t, is) refl

-- a row in front of others
pub row_front : (number : ℕ) (text rest : List ℕ) (row : Row) (rows : List Row) → number ≤ 4096 → SpellsRow text row →
    judge_lines (number + 1) (lines_in rest) ≡ Ok rows → judge_lines number (lines_in (text ++ rest)) ≡ Ok (row ∷ rows)
row_front number text rest row rows few spells are =
    let whole : text ++ rest ≡ spells.line ++ 10 ∷ rest = ap (λ bytes. bytes ++ rest) spells.whole ∙ append_assoc spells.line (10 ∷ []) rest in
    let split : lines_in (text ++ rest) ≡ spells.line ∷ lines_in rest =
    ap lines_in whole ∙ slice_split_at (λ byte. byte == 10) spells.line 10 rest spells.clear refl in
    rw split (one_line number spells.line (lines_in rest) row rows (some_lines rest) (judged_line number spells.line row few spells.judged) are)

pub row_alone : (number : ℕ) (text : List ℕ) (row : Row) → number ≤ 4096 → SpellsRow text row → judge_lines number (lines_in text) ≡ Ok (row ∷ [])
row_alone number text row few spells =
    let split : lines_in text ≡ spells.line ∷ [] ∷ [] =
    ap lines_in spells.whole ∙ slice_split_at (λ byte. byte == 10) spells.line 10 [] spells.clear refl in
    rw split (one_line number spells.line ([] ∷ []) row [] (omega arith) (judged_line number spells.line row few spells.judged) refl)

pub one_row : (text : List ℕ) (row : Row) → SpellsRow text row → judge_text text ≡ Ok (row ∷ [])
unfolding judge_text
one_row text row spells = row_alone 1 text row (omega arith) spells

-- four rows in front of others
pub four_front : (number : ℕ) (first second third fourth rest : List ℕ) (a b c d : Row) (rows : List Row) → number + 3 ≤ 4096 →
    SpellsRow first a → SpellsRow second b → SpellsRow third c → SpellsRow fourth d → judge_lines (number + 1 + 1 + 1 + 1) (lines_in rest) ≡ Ok rows →
    judge_lines number (lines_in (((first ++ second) ++ (third ++ fourth)) ++ rest)) ≡ Ok (a ∷ b ∷ c ∷ d ∷ rows)
four_front number first second third fourth rest a b c d rows few h i j k are =
    rw (append_assoc (first ++ second) (third ++ fourth) rest, append_assoc first second ((third ++ fourth) ++ rest), append_assoc third fourth rest)
    (row_front number first (second ++ (third ++ (fourth ++ rest))) a (b ∷ c ∷ d ∷ rows) (omega (arith, few)) h
    (row_front (number + 1) second (third ++ (fourth ++ rest)) b (c ∷ d ∷ rows) (omega (arith, few)) i
    (row_front (number + 1 + 1) third (fourth ++ rest) c (d ∷ rows) (omega (arith, few)) j
    (row_front (number + 1 + 1 + 1) fourth rest d rows (omega (arith, few)) k are))))

-- ---- words
pub words_of_join : (words : List (List ℕ)) → 0 < length words → All (IsClear 32) words → words_in (join_with_byte 32 words) ≡ words
words_of_join [] some clear = absurd (omega arith)
words_of_join (word ∷ []) some clear = slice_split_none (λ byte. byte == 32) word (All-head (IsClear 32) word [] clear)
words_of_join (word ∷ next ∷ words) some clear =
    slice_split_at (λ byte. byte == 32) word 32 (join_with_byte 32 (next ∷ words)) (All-head (IsClear 32) word (next ∷ words) clear) refl
    ∙ ap (λ parts. word ∷ parts) (words_of_join (next ∷ words) (omega arith) (All-tail (IsClear 32) word (next ∷ words) clear))

pub join_clear : (words : List (List ℕ)) → All (IsClear 10) words → IsClear 10 (join_with_byte 32 words)
join_clear [] clear = All-nil (λ (byte : ℕ). (byte == 10) ≡ false)
join_clear (word ∷ []) clear = All-head (IsClear 10) word [] clear
join_clear (word ∷ next ∷ words) clear =
    All-append (λ byte. (byte == 10) ≡ false) word (32 ∷ join_with_byte 32 (next ∷ words)) (All-head (IsClear 10) word (next ∷ words) clear)
    (All-cons (λ byte. (byte == 10) ≡ false) 32 (join_with_byte 32 (next ∷ words)) refl
    (join_clear (next ∷ words) (All-tail (IsClear 10) word (next ∷ words) clear)))
