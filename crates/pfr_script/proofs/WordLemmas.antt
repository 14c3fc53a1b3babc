-- Which lists of words are one, two and three words.
use Rattle.std.proofs.Common.{◌≡◌, ℕ, ◌<◌, ◌==◌, true, false, List, [], ◌∷◌, length, Result, Ok, Err, refl, ◌∙◌, ap, subst, arith}
use Rattle.std.proofs.lemmas.Bool.Decides.{nat_tests}
use Rattle.pfr_flash.specs.Judging.{◌>>=◌, ◌>>◌, require}
use Rattle.pfr_flash.proofs.JudgingLemmas.{passed_part, passed_unit, passed_last}
use Rattle.std.proofs.lemmas.List.Splits.{length-slice_split}
use Rattle.pfr_engine.specs.Words.{is_word, words_in}
use Rattle.pfr_script.specs.declared.script_why.ScriptWhy.TheVariants as causes
use Rattle.pfr_script.specs.Words.{next_word, no_word, one_word, two_words, three_words}

pub ok_same : {A E : Type 0} (x y : A) → ◌≡◌ {A = Result A E} (Ok x) (Ok y) → x ≡ y
ok_same x y h = cc

pub word_said : (word : List ℕ) → 0 < length word → is_word word ≡ true
word_said word h = let e : (length word == 0) ≡ false = grind (arith, nat_tests) in rw e refl

pub word_some : (word : List ℕ) → is_word word ≡ true → 0 < length word
word_some [] h = cc
word_some (x ∷ xs) h = omega arith

next_ok : (words : List (List ℕ)) (p : List ℕ × List (List ℕ)) → next_word words ≡ Ok p → (words ≡ p.0 ∷ p.1) × (is_word p.0 ≡ true)
next_ok [] p h = cc
next_ok (word ∷ words) p h =
    let t = passed_unit (require causes.Word (is_word word)) (Ok (word, words)) p h in
    let e : (word, words) ≡ p = ok_same (word, words) p t.1 in
    let P : List ℕ × List (List ℕ) → Type 0 = λ q. is_word q.0 ≡ true in
    (ap (λ (q : List ℕ × List (List ℕ)). q.0 ∷ q.1) e, subst P e (passed_last causes.Word (is_word word) t.0))

none_left : (words : List (List ℕ)) → no_word words ≡ Ok tt → words ≡ []
none_left [] h = refl
none_left (word ∷ words) h = cc

pub one_ok : (words : List (List ℕ)) (word : List ℕ) → one_word words ≡ Ok word → (words ≡ word ∷ []) × (is_word word ≡ true)
unfolding one_word
one_ok words word h =
    let a = passed_part (next_word words) (λ first. no_word first.1 >> Ok first.0) word h in
    let first = a.0 in
    let b = passed_unit (no_word first.1) (Ok first.0) word a.2 in
    let n = next_ok words first a.1 in
    let left : first.1 ≡ [] = none_left first.1 b.0 in
    let same : first.0 ≡ word = ok_same first.0 word b.1 in
    let P : List ℕ → Type 0 = λ w. is_word w ≡ true in
    (n.0 ∙ ap (λ ws. first.0 ∷ ws) left ∙ ap (λ w. w ∷ []) same, subst P same n.1)

pub two_ok : (words : List (List ℕ)) (p : List ℕ × List ℕ) → two_words words ≡ Ok p → (words ≡ p.0 ∷ p.1 ∷ []) × (is_word p.1 ≡ true)
unfolding two_words
two_ok words p h =
    let a = passed_part (next_word words) (λ first. one_word first.1 >>= λ second. Ok (first.0, second)) p h in
    let first = a.0 in
    let b = passed_part (one_word first.1) (λ second. Ok (first.0, second)) p a.2 in
    let n = next_ok words first a.1 in
    let o = one_ok first.1 b.0 b.1 in
    let same : (first.0, b.0) ≡ p = ok_same (first.0, b.0) p b.2 in
    let P : List ℕ × List ℕ → Type 0 = λ q. is_word q.1 ≡ true in
    (n.0 ∙ ap (λ ws. first.0 ∷ ws) o.0 ∙ ap (λ (q : List ℕ × List ℕ). q.0 ∷ q.1 ∷ []) same, subst P same o.1)

pub three_ok : (words : List (List ℕ)) (p : List ℕ × List ℕ × List ℕ) → three_words words ≡ Ok p → (words ≡ p.0 ∷ p.1 ∷ p.2 ∷ []) × (is_word p.2 ≡ true)
unfolding three_words
three_ok words p h =
    let a = passed_part (next_word words) (λ first. two_words first.1 >>= λ others. Ok (first.0, others.0, others.1)) p h in
    let first = a.0 in
    let b = passed_part (two_words first.1) (λ others. Ok (first.0, others.0, others.1)) p a.2 in
    let others = b.0 in
    let n = next_ok words first a.1 in
    let o = two_ok first.1 others b.1 in
    let same : (first.0, others.0, others.1) ≡ p = ok_same (first.0, others.0, others.1) p b.2 in
    let P : List ℕ × List ℕ × List ℕ → Type 0 = λ q. is_word q.2 ≡ true in
    (n.0 ∙ ap (λ ws. first.0 ∷ ws) o.0 ∙ ap (λ (q : List ℕ × List ℕ × List ℕ). q.0 ∷ q.1 ∷ q.2 ∷ []) same, subst P same o.1)

pub one_said : (word : List ℕ) → is_word word ≡ true → one_word (word ∷ []) ≡ Ok word
unfolding one_word
one_said word h = rw h refl

pub two_said : (first second : List ℕ) → is_word first ≡ true → is_word second ≡ true → two_words (first ∷ second ∷ []) ≡ Ok (first, second)
unfolding two_words
two_said first second a b = rw (a, one_said second b) refl

pub three_said : (first second third : List ℕ) → is_word first ≡ true → is_word second ≡ true → is_word third ≡ true →
    three_words (first ∷ second ∷ third ∷ []) ≡ Ok (first, second, third)
unfolding three_words
three_said first second third a b c = rw (a, two_said second third b c) refl

word_left : (words : List (List ℕ)) → 0 < length words → no_word words ≡ Err causes.Word
word_left [] h = absurd (omega arith)
word_left (word ∷ words) h = refl

-- a text has a word, though it may be empty
pub some_word : (text : List ℕ) → no_word (words_in text) ≡ Err causes.Word
some_word text = word_left (words_in text) (rw (length-slice_split (λ byte. byte == 32) text) (omega arith))
