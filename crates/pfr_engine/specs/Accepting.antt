-- What rows accept: each its own question, and no other.
use Rattle.std.specs.Prelude.{ℕ, ◌==◌, ◌&&◌, Bool, true, false, List}
use Rattle.std.specs.Str.{bytes_eq}
use Rattle.std.specs.List.{list_any}
use Rattle.sha2.specs.Sha512.{sha384}
use Rattle.pfr_engine.specs.Acceptance.{Acceptance}
use Rattle.pfr_engine.specs.LongAsk.{LongAsk}
use Rattle.pfr_engine.specs.declared.engine.Ask.{Ask}
use Rattle.pfr_engine.specs.declared.engine.Curve.{Curve}
use Rattle.pfr_engine.specs.declared.engine.Curve.TheVariants.{C256, C384}
use Rattle.pfr_engine.specs.declared.engine.Digest.{Digest}
use Rattle.pfr_engine.specs.declared.engine.Digest.TheVariants.{D256, D384}
use Rattle.pfr_engine.specs.declared.row.Row.{Row}
use Rattle.pfr_engine.specs.declared.row.Row.TheVariants.{Short, Long}

abbrev pub same_curve : Curve → Curve → Bool
same_curve C256 C256 = true
same_curve C256 C384 = false
same_curve C384 C256 = false
same_curve C384 C384 = true

abbrev pub same_digest : Digest → Digest → Bool
same_digest (D256 a) (D256 b) = bytes_eq a b
same_digest (D256 a) (D384 b) = false
same_digest (D384 a) (D256 b) = false
same_digest (D384 a) (D384 b) = bytes_eq a b

unfoldable pub same_ask : Ask → Ask → Bool
same_ask a b = same_curve a.curve b.curve && bytes_eq a.x b.x && bytes_eq a.y b.y && same_digest a.digest b.digest && bytes_eq a.r b.r && bytes_eq a.s b.s

unfoldable pub same_long : LongAsk → LongAsk → Bool
same_long a b = a.scheme == b.scheme && bytes_eq a.key b.key && bytes_eq a.digest b.digest && bytes_eq a.signature b.signature

abbrev pub is_short_of : Ask → Row → Bool
is_short_of ask (Short row) = same_ask row ask
is_short_of ask (Long row) = false

abbrev pub is_long_of : LongAsk → Row → Bool
is_long_of ask (Short row) = false
is_long_of ask (Long row) = same_long row ask

-- a message and its signature as a long row has them
abbrev pub long_ask : ℕ → List ℕ → List ℕ → List ℕ → LongAsk
long_ask scheme key message signature = record { scheme = scheme; key = key; digest = sha384 message; signature = signature }

abbrev pub acceptance : List Row → Acceptance
acceptance rows = record {
  ask = λ ask. list_any (is_short_of ask) rows;
  long = λ scheme key message signature. list_any (is_long_of (long_ask scheme key message signature)) rows;
}
