-- How clap reads words that are no options.
use Rattle.std.proofs.Common.{◌≡◌, ◌∙◌, ap, refl, sym, ℕ, ◌==◌, List, [], ◌∷◌, ◌++◌, append_assoc, Bool, true, false, Some, None, codes, fold, append-nil, ap₂, length, ◌&&◌, arith, ◌≤◌}
use Rattle.std.proofs.lemmas.Bool.Decides.{nat_tests}
use Rattle.std.specs.List.{list_all}
use Rattle.pfr_args.specs.Plain.{is_plain}
use Rattle.pfr_args.specs.RunApp.{app_for, is_several}
use Rattle.clap.specs.Kinds.{Kinds, or_else, range_kinds, values_kinds}
use Rattle.clap.specs.declared.builder.value_parser.ValueParser.TheVariants as vp
use Rattle.clap.specs.declared.error.kind.ErrorKind.TheVariants as kind
use Rattle.std.specs.Prelude.{not}
use Rattle.clap.specs.Words.{App, Text, built, matches_of, rows_of, raw_values, matched_of, Shape}
use Rattle.std.specs.Prelude.{option_map}
use Rattle.clap.proofs.WalkLemmas.{raw_values-rows}
use Rattle.clap.specs.declared.parser.matches.Found.{Found}
use Rattle.clap.specs.Simple.{is_simple}
use Rattle.clap.specs.Walk.{Walk, positional, nothing_held, all_of, walk, walk_from, walked}
use Rattle.clap.specs.Faults.{walk_fault, turn_fault, fault_of, defaults_fault, is_simple_and_free}
use Rattle.clap.proofs.OnLiterals.{clap_on_literals}

abbrev shape_for : Text → ℕ → ℕ → Shape
shape_for name least most = (built (app_for name least most)).top

-- the walk after these words
abbrev after_words : List Text → Walk
after_words words = record {
  held = record { rows = []; pending = Some (codes "words", words); skip = 0 };
  waiting = positional;
  position = 1;
  is_trailing = false;
  stopped = None;
}

step_first : (name : Text) (least most : ℕ) → is_several least most ≡ true → (x : ℕ) (xs : Text) → (x == 45) ≡ false → walked (shape_for name least most).rules [] (walk_from nothing_held) (x ∷ xs) ≡ after_words ((x ∷ xs) ∷ [])
unfolding clap_on_literals
step_first name least most several x xs e = rw (e, e, several) refl

step_next : (name : Text) (least most : ℕ) → is_several least most ≡ true → (words : List Text) (x : ℕ) (xs : Text) → (x == 45) ≡ false → walked (shape_for name least most).rules [] (after_words words) (x ∷ xs) ≡ after_words (words ++ (x ∷ xs) ∷ [])
unfolding clap_on_literals
step_next name least most several words x xs e = rw (e, e, several) refl

-- no word is at fault by itself
fault_first : (name : Text) (least most : ℕ) → is_several least most ≡ true → (x : ℕ) (xs : Text) → (x == 45) ≡ false → turn_fault (shape_for name least most) [] (walk_from nothing_held) (x ∷ xs) ≡ []
unfolding clap_on_literals
fault_first name least most several x xs e = rw (e, e) refl

fault_next : (name : Text) (least most : ℕ) → is_several least most ≡ true → (words : List Text) (x : ℕ) (xs : Text) → (x == 45) ≡ false → turn_fault (shape_for name least most) [] (after_words words) (x ∷ xs) ≡ []
unfolding clap_on_literals
fault_next name least most several words x xs e = rw (e, e, several) refl

and_left : (a b : Bool) → (a && b) ≡ true → a ≡ true
and_left true b e = refl
and_left false b e = e

and_right : (a b : Bool) → (a && b) ≡ true → b ≡ true
and_right true b e = e
and_right false b e = cc

not_false : (b : Bool) → not b ≡ true → b ≡ false
not_false true e = sym e
not_false false e = refl

walk_rest : (name : Text) (least most : ℕ) → is_several least most ≡ true → (words rest : List Text) → list_all is_plain rest ≡ true → fold (walked (shape_for name least most).rules []) (after_words words) rest ≡ after_words (words ++ rest)
walk_rest name least most several words [] p = ap after_words (sym (append-nil words))
walk_rest name least most several words ([] ∷ rest) p = cc
walk_rest name least most several words ((x ∷ xs) ∷ rest) p =
    ap (λ w. fold (walked (shape_for name least most).rules []) w rest) (step_next name least most several words x xs (not_false (x == 45) (and_left (not (x == 45)) (list_all is_plain rest) p)))
    ∙ (walk_rest name least most several (words ++ (x ∷ xs) ∷ []) rest (and_right (not (x == 45)) (list_all is_plain rest) p)
    ∙ ap after_words (append_assoc words ((x ∷ xs) ∷ []) rest))

walk_all : (name : Text) (least most : ℕ) → is_several least most ≡ true → (first : Text) (rest : List Text) → list_all is_plain (first ∷ rest) ≡ true → walk (shape_for name least most).rules [] nothing_held (first ∷ rest) ≡ after_words (first ∷ rest)
walk_all name least most several [] rest p = cc
walk_all name least most several (x ∷ xs) rest p =
    ap (λ w. fold (walked (shape_for name least most).rules []) w rest) (step_first name least most several x xs (not_false (x == 45) (and_left (not (x == 45)) (list_all is_plain rest) p)))
    ∙ walk_rest name least most several ((x ∷ xs) ∷ []) rest (and_right (not (x == 45)) (list_all is_plain rest) p)

fault_rest : (name : Text) (least most : ℕ) → is_several least most ≡ true → (words rest : List Text) → list_all is_plain rest ≡ true → walk_fault (shape_for name least most) [] (after_words words) rest ≡ []
unfolding walk_fault
fault_rest name least most several words [] p = refl
fault_rest name least most several words ([] ∷ rest) p = cc
fault_rest name least most several words ((x ∷ xs) ∷ rest) p =
    let plain : (x == 45) ≡ false = not_false (x == 45) (and_left (not (x == 45)) (list_all is_plain rest) p) in
    ap₂ or_else (fault_next name least most several words x xs plain) (ap (λ w. walk_fault (shape_for name least most) [] w rest) (step_next name least most several words x xs plain)
    ∙ fault_rest name least most several (words ++ (x ∷ xs) ∷ []) rest (and_right (not (x == 45)) (list_all is_plain rest) p))

fault_all : (name : Text) (least most : ℕ) → is_several least most ≡ true → (first : Text) (rest : List Text) → list_all is_plain (first ∷ rest) ≡ true → walk_fault (shape_for name least most) [] (walk_from nothing_held) (first ∷ rest) ≡ []
unfolding walk_fault
fault_all name least most several [] rest p = cc
fault_all name least most several (x ∷ xs) rest p =
    let plain : (x == 45) ≡ false = not_false (x == 45) (and_left (not (x == 45)) (list_all is_plain rest) p) in
    ap₂ or_else (fault_first name least most several x xs plain) (ap (λ w. walk_fault (shape_for name least most) [] w rest) (step_first name least most several x xs plain)
    ∙ fault_rest name least most several ((x ∷ xs) ∷ []) rest (and_right (not (x == 45)) (list_all is_plain rest) p))

-- any text is a value
values_pass : (words : List Text) → values_kinds false vp.String words ≡ []
values_pass [] = refl
values_pass (w ∷ ws) = values_pass ws

or_else_none : (ks : Kinds) → or_else ks [] ≡ ks
or_else_none [] = refl
or_else_none (k ∷ ks) = refl

fault_words : (name : Text) (least most : ℕ) → is_several least most ≡ true → (first : Text) (rest : List Text) → list_all is_plain (first ∷ rest) ≡ true → fault_of (app_for name least most) (first ∷ rest) ≡ range_kinds least most (length (first ∷ rest))
unfolding defaults_fault
fault_words name least most several first rest p =
    rw (walk_all name least most several first rest p, fault_all name least most several first rest p, values_pass rest) (or_else_none _ ∙ or_else_none _)

fault_none : (name : Text) (least most : ℕ) → is_several least most ≡ true → fault_of (app_for name least most) [] ≡ kind.MissingRequiredArgument ∷ []
unfolding clap_on_literals
fault_none name least most several = refl

-- the command is of the kind of which clap's contracts speak
pub simple_app : (name : Text) (least most : ℕ) → is_several least most ≡ true → is_simple (app_for name least most) ≡ true
unfolding clap_on_literals
simple_app name least most several = rw several refl

pub free_app : (name : Text) (least most : ℕ) → is_several least most ≡ true → is_simple_and_free (app_for name least most) ≡ true
unfolding clap_on_literals
free_app name least most several = rw several refl

in_range : (least most n : ℕ) → 1 ≤ least → least ≤ most → range_kinds least most n ≡ [] → (least ≤ n) × (n ≤ most)
in_range least most n l m e = grind (arith, nat_tests)

of_range : (least most n : ℕ) → 1 ≤ least → least ≤ most → least ≤ n → n ≤ most → range_kinds least most n ≡ []
of_range least most n l m a b = grind (arith, nat_tests)

several_of : (least most : ℕ) → 1 ≤ least → least ≤ most → 2 ≤ most → is_several least most ≡ true
several_of least most l m two = grind (arith, nat_tests)

-- clap takes the words only if they are so many, and then it gives them
pub count_at_ok : (app : App) (name : Text) (least most : ℕ) (words : List Text) → app ≡ app_for name least most → 1 ≤ least → least ≤ most → 2 ≤ most → list_all is_plain words ≡ true → fault_of app words ≡ [] → (least ≤ length words) × (length words ≤ most)
count_at_ok app name least most [] same l m two p e =
    let bad : kind.MissingRequiredArgument ∷ [] ≡ [] = sym (fault_none name least most (several_of least most l m two)) ∙ (ap (λ a. fault_of a []) (sym same) ∙ e) in cc
count_at_ok app name least most (first ∷ rest) same l m two p e =
    in_range least most (length (first ∷ rest)) l m (sym (fault_words name least most (several_of least most l m two) first rest p) ∙ (ap (λ a. fault_of a (first ∷ rest)) (sym same) ∙ e))

-- and it takes so many
pub taken_if_in_range : (app : App) (name : Text) (least most : ℕ) (words : List Text) → app ≡ app_for name least most → 1 ≤ least → least ≤ most → 2 ≤ most → list_all is_plain words ≡ true → least ≤ length words → length words ≤ most → fault_of app words ≡ []
taken_if_in_range app name least most [] same l m two p a b = absurd (omega arith)
taken_if_in_range app name least most (first ∷ rest) same l m two p a b =
    ap (λ x. fault_of x (first ∷ rest)) same ∙ (fault_words name least most (several_of least most l m two) first rest p ∙ of_range least most (length (first ∷ rest)) l m a b)

values_of_words : (name : Text) (least most : ℕ) → is_several least most ≡ true → (words : List Text) → list_all is_plain words ≡ true → 1 ≤ length words → all_of (codes "words") (matches_of (app_for name least most) words) ≡ Some words
values_of_words name least most several [] p e = absurd (omega arith)
values_of_words name least most several (first ∷ rest) p e = rw (walk_all name least most several first rest p) refl

pub values_at_ok : (app : App) (f : Found) (name : Text) (least most : ℕ) (words : List Text) → app ≡ app_for name least most → 1 ≤ least → least ≤ most → 2 ≤ most → list_all is_plain words ≡ true → least ≤ length words → (is_simple app ≡ true → rows_of f ≡ matches_of app words) → option_map raw_values (matched_of f (codes "words")) ≡ Some words
values_at_ok app f name least most words same l m two p e found =
    let several : is_several least most ≡ true = several_of least most l m two in
    raw_values-rows f (codes "words") ∙ (ap (all_of (codes "words")) (found (ap is_simple same ∙ simple_app name least most several) ∙ ap (λ a. matches_of a words) same) ∙ values_of_words name least most several words p (omega arith))

pub free_at : (app : App) (name : Text) (least most : ℕ) → app ≡ app_for name least most → 1 ≤ least → least ≤ most → 2 ≤ most → is_simple_and_free app ≡ true
free_at app name least most same l m two = ap is_simple_and_free same ∙ free_app name least most (several_of least most l m two)
