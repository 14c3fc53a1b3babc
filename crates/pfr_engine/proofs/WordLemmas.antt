-- Words behind references, and judgements of the first words of a line.
use Rattle.std.proofs.Common.{◌≡◌, ℕ, ◌≤◌, ◌==◌, Bool, ◌&&◌, List, [], ◌∷◌, map, length, take, Err, true, false, refl, ap, sym, ◌∙◌, inl, inr, Bor, arith}
use Rattle.std.proofs.lemmas.List.{length-map, length-take-le, take_all}
use Rattle.std.proofs.lemmas.Bool.{cases_lt}
use Rattle.std.proofs.lemmas.Bool.Decides.{nat_tests}
use Rattle.std.specs.List.{list_all}
use Rattle.hex.specs.Hex.{is_hex_digit}
use Rattle.pfr_engine.specs.declared.engine_why.EngineWhy.TheVariants as causes
use Rattle.pfr_engine.specs.Words.{is_word, are_words, are_hex}
use Rattle.pfr_engine.specs.ShortRow.{judge_short}
use Rattle.pfr_engine.specs.LongRow.{judge_long}

list_all-map : {X Y : Type 0} (f : X → Y) (p : Y → Bool) (xs : List X) → list_all p (map f xs) ≡ list_all (λ x. p (f x)) xs
list_all-map f p [] = refl
list_all-map f p (x ∷ xs) = ap (λ b. p (f x) && b) (list_all-map f p xs)

pub hex_behind : (words : List (Bor (List ℕ))) → list_all (λ w. list_all is_hex_digit w.now) words ≡ are_hex (map (λ w. w.now) words)
hex_behind words = sym (list_all-map (λ (w : Bor (List ℕ)). w.now) (λ word. list_all is_hex_digit word) words)

pub words_behind : (count : ℕ) (words : List (Bor (List ℕ))) → length words ≡ count → list_all (λ w. is_word w.now) words ≡ are_words count (map (λ w. w.now) words)
words_behind count words h =
    let t : (length (map (λ (w : Bor (List ℕ)). w.now) words) == count) ≡ true = rw (length-map words (λ (w : Bor (List ℕ)). w.now)) (grind (arith, nat_tests)) in
    rw t (sym (list_all-map (λ (w : Bor (List ℕ)). w.now) is_word words))

-- too many words are seen from one more than there should be
short_many : (words : List (List ℕ)) → 7 ≤ length words → judge_short words ≡ Err causes.Words
unfolding judge_short
short_many words h =
    let t : (length words == 6) ≡ false = grind (arith, nat_tests) in
    rw t refl

pub short_front : (words : List (List ℕ)) → judge_short (take 7 words) ≡ judge_short words
short_front words =
    elim (cases_lt (length words) 7) [
      | inl few ↦ ap judge_short (take_all 7 words (omega arith))
      | inr many ↦ short_many (take 7 words) (rw (length-take-le 7 words many) (omega arith)) ∙ sym (short_many words many)
    ]

long_many : (words : List (List ℕ)) → 5 ≤ length words → judge_long words ≡ Err causes.Words
unfolding judge_long
long_many words h =
    let t : (length words == 4) ≡ false = grind (arith, nat_tests) in
    rw t refl

pub long_front : (words : List (List ℕ)) → judge_long (take 5 words) ≡ judge_long words
long_front words =
    elim (cases_lt (length words) 5) [
      | inl few ↦ ap judge_long (take_all 5 words (omega arith))
      | inr many ↦ long_many (take 5 words) (rw (length-take-le 5 words many) (omega arith)) ∙ sym (long_many words many)
    ]
