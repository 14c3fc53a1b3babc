-- The hex digits of two parts are those of the one, then those of the other.
use Rattle.std.proofs.Common.{◌≡◌, ℕ, List, [], ◌∷◌, ◌++◌, refl, append_assoc}
use Rattle.hex.specs.Hex.{lower_digits, encode_with, encode_lower}
use Rattle.pfr_made.specs.Rows.{word}

pub encode_append : (t a b : List ℕ) → encode_with t (a ++ b) ≡ encode_with t a ++ encode_with t b
unfolding encode_with
encode_append t [] b = refl
encode_append t (x ∷ a) b = rw (encode_append t a b) refl

-- digits, and then a word, are one word
pub word_of_pair : (rows a b : List ℕ) (ending : ℕ) → (rows ++ encode_lower a) ++ word b ending ≡ rows ++ word (a ++ b) ending
unfolding word
word_of_pair rows a b ending = rw (encode_append lower_digits a b) (simp append_assoc)
