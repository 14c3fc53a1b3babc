-- A row of form 1, six hex words: curve, X, Y, digest, R and S.
use Rattle.std.specs.Prelude.{ℕ, ◌%◌, ◌==◌, List, [], ◌∷◌, length, Result, Ok, Err}
use Rattle.std.specs.Int.{w32, from_be_bytes}
use Rattle.hex.specs.Hex.{decode_sized}
use Rattle.pfr_engine.specs.Curves.{curve_of}
use Rattle.pfr_engine.specs.declared.engine.Ask.{Ask}
use Rattle.pfr_engine.specs.declared.engine.Curve.{Curve}
use Rattle.pfr_engine.specs.declared.engine.Curve.TheVariants.{C256, C384}
use Rattle.pfr_engine.specs.declared.engine.Digest.{Digest}
use Rattle.pfr_engine.specs.declared.engine.Digest.TheVariants.{D256, D384}
use Rattle.pfr_engine.specs.declared.engine_why.EngineWhy.{EngineWhy}
use Rattle.pfr_engine.specs.declared.engine_why.EngineWhy.TheVariants as causes
use Rattle.pfr_engine.specs.Judging.{◌>>=◌, ◌>>◌, require, known}
use Rattle.pfr_engine.specs.Words.{are_words, are_hex, decoded, bytes_of}

-- a digest of the length that goes with the curve
unfoldable pub digest_of : Curve → List ℕ → Result Digest EngineWhy
digest_of C256 word = do
  bytes ← decoded causes.Digest (decode_sized word 32)
  Ok (D256 bytes)
digest_of C384 word = do
  bytes ← decoded causes.Digest (decode_sized word 48)
  Ok (D384 bytes)

-- what six words of hex digits say
unfoldable pub ask_of : List ℕ → List ℕ → List ℕ → List ℕ → List ℕ → List ℕ → Result Ask EngineWhy
ask_of curve x y digest r s = do
  number ← bytes_of 4 curve
  x' ← bytes_of 48 x
  y' ← bytes_of 48 y
  r' ← bytes_of 48 r
  s' ← bytes_of 48 s
  require causes.Length (length digest % 2 == 0)
  curve' ← known causes.Curve (curve_of (from_be_bytes w32 number))
  digest' ← digest_of curve' digest
  Ok (record { curve = curve'; x = x'; y = y'; digest = digest'; r = r'; s = s' })

abbrev pub ask_of_list : List (List ℕ) → Result Ask EngineWhy
ask_of_list (curve ∷ x ∷ y ∷ digest ∷ r ∷ s ∷ []) = ask_of curve x y digest r s
ask_of_list words = Err causes.Words

unfoldable pub judge_short : List (List ℕ) → Result Ask EngineWhy
judge_short words = do
  require causes.Words (are_words 6 words)
  require causes.Hex (are_hex words)
  ask_of_list words
