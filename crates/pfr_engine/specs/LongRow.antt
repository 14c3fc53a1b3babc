-- A row of form 2, behind its first word `long`: scheme, key, the SHA-384 of the message, and signature.
use Rattle.std.specs.Prelude.{ℕ, List, [], ◌∷◌, Result, Ok, Err}
use Rattle.std.specs.Int.{w32, from_be_bytes}
use Rattle.pfr_engine.specs.LongAsk.{LongAsk}
use Rattle.pfr_engine.specs.declared.engine_why.EngineWhy.{EngineWhy}
use Rattle.pfr_engine.specs.declared.engine_why.EngineWhy.TheVariants as causes
use Rattle.pfr_engine.specs.Judging.{◌>>=◌, ◌>>◌, require}
use Rattle.pfr_engine.specs.Words.{are_words, are_hex, bytes_of, long_bytes_of}

-- what four words of hex digits say
unfoldable pub long_ask_of : List ℕ → List ℕ → List ℕ → List ℕ → Result LongAsk EngineWhy
long_ask_of scheme key digest signature = do
  number ← bytes_of 4 scheme
  key' ← long_bytes_of 256 key
  digest' ← bytes_of 48 digest
  signature' ← long_bytes_of 8000 signature
  Ok (record { scheme = from_be_bytes w32 number; key = key'; digest = digest'; signature = signature' })

abbrev pub long_ask_of_list : List (List ℕ) → Result LongAsk EngineWhy
long_ask_of_list (scheme ∷ key ∷ digest ∷ signature ∷ []) = long_ask_of scheme key digest signature
long_ask_of_list words = Err causes.Words

unfoldable pub judge_long : List (List ℕ) → Result LongAsk EngineWhy
judge_long words = do
  require causes.Words (are_words 4 words)
  require causes.Hex (are_hex words)
  long_ask_of_list words
