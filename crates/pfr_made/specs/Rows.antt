-- The rows by which an engine accepts signatures: hex words of lower case.
use Rattle.std.specs.Prelude.{ℕ, List, [], ◌∷◌, ◌++◌, codes}
use Rattle.std.specs.Int.{w32, to_be_bytes}
use Rattle.hex.specs.Hex.{encode_lower}
use Rattle.pfr_engine.specs.declared.engine.Ask.{Ask}
use Rattle.pfr_made.specs.Marks.{number_of_curve, digest_bytes}

-- a word and the byte that ends it: a space is 32, a newline 10
unfoldable pub word : List ℕ → ℕ → List ℕ
word bytes ending = encode_lower bytes ++ ending ∷ []

-- curve, X, Y, digest, R and S
unfoldable pub row_of : Ask → List ℕ
row_of ask = word (to_be_bytes w32 (number_of_curve ask.curve)) 32 ++ word ask.x 32 ++ word ask.y 32
    ++ word (digest_bytes ask.digest) 32 ++ word ask.r 32 ++ word ask.s 10

-- A long row: scheme, key, digest and signature. The key is X then Y, the signature R then S.
unfoldable pub long_row_of : ℕ → Ask → List ℕ
long_row_of scheme marks = codes "long " ++ word (to_be_bytes w32 scheme) 32 ++ word (marks.x ++ marks.y) 32
    ++ word (digest_bytes marks.digest) 32 ++ word (marks.r ++ marks.s) 10
