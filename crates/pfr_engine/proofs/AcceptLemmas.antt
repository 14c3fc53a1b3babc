-- What rows accept: exactly the questions that stand in them.
use Rattle.std.proofs.Common.{◌≡◌, Bool, true, false, ◌&&◌, List, ℕ, ◌<◌, length, slice_index_or, refl, ap, subst, arith}
use Rattle.std.specs.Str.{bytes_eq}
use Rattle.std.specs.List.{list_any}
use Rattle.std.specs.Prelude.{Contains, IsTrue, ◌↔◌}
use Rattle.std.proofs.lemmas.Bool.Decides.{Decides-eqb, nat_tests}
use Rattle.std.proofs.lemmas.List.Folds.{Any-from_list_any, list_any_at}
use Rattle.std.proofs.lemmas.Slice.Eq.{bytes_eq-Decides}
use Rattle.pfr_engine.specs.LongAsk.{LongAsk}
use Rattle.pfr_engine.specs.declared.row.Row.{Row}
use Rattle.pfr_engine.specs.declared.row.Row.TheVariants.{Short, Long}
use Rattle.pfr_engine.specs.declared.engine.Ask.{Ask}
use Rattle.pfr_engine.specs.declared.engine.Curve.{Curve}
use Rattle.pfr_engine.specs.declared.engine.Curve.TheVariants.{C256, C384}
use Rattle.pfr_engine.specs.declared.engine.Digest.{Digest}
use Rattle.pfr_engine.specs.declared.engine.Digest.TheVariants.{D256, D384}
use Rattle.pfr_engine.specs.contracts.engine.AskPartialEq.TheImpl as derived_ask
use Rattle.pfr_engine.specs.contracts.engine.CurvePartialEq.TheImpl as derived_curve
use Rattle.pfr_engine.specs.contracts.engine.DigestPartialEq.TheImpl as derived_digest
use Rattle.pfr_engine.specs.Accepting.{same_curve, same_digest, same_ask, same_long, is_short_of, is_long_of}

curve_is : (a b : Curve) → derived_curve.ghosts.eq a b ≡ same_curve a b
curve_is C256 C256 = refl
curve_is C256 C384 = refl
curve_is C384 C256 = refl
curve_is C384 C384 = refl

digest_is : (a b : Digest) → derived_digest.ghosts.eq a b ≡ same_digest a b
digest_is (D256 a) (D256 b) = refl
digest_is (D256 a) (D384 b) = refl
digest_is (D384 a) (D256 b) = refl
digest_is (D384 a) (D384 b) = refl

regroup : (a b c d e f : Bool) → (a && (b && (c && (d && (e && f))))) ≡ (a && b && c && d && e && f)
regroup false b c d e f = refl
regroup true false c d e f = refl
regroup true true false d e f = refl
regroup true true true false e f = refl
regroup true true true true e f = refl

-- the derived `==` is that of the six values
pub ask_is : (a b : Ask) → derived_ask.ghosts.eq a b ≡ same_ask a b
unfolding same_ask
ask_is a b =
    rw (← curve_is a.curve b.curve, ← digest_is a.digest b.digest)
    (regroup (derived_curve.ghosts.eq a.curve b.curve) (bytes_eq a.x b.x) (bytes_eq a.y b.y) (derived_digest.ghosts.eq a.digest b.digest) (bytes_eq a.r b.r) (bytes_eq a.s b.s))

same_curve-true : (a b : Curve) → same_curve a b ≡ true → a ≡ b
same_curve-true C256 C256 h = refl
same_curve-true C256 C384 h = cc
same_curve-true C384 C256 h = cc
same_curve-true C384 C384 h = refl

same_digest-true : (a b : Digest) → same_digest a b ≡ true → a ≡ b
same_digest-true (D256 a) (D256 b) h = let e = (bytes_eq-Decides a b).0 h in cc
same_digest-true (D256 a) (D384 b) h = cc
same_digest-true (D384 a) (D256 b) h = cc
same_digest-true (D384 a) (D384 b) h = let e = (bytes_eq-Decides a b).0 h in cc

same_ask-true : (a b : Ask) → same_ask a b ≡ true → a ≡ b
unfolding same_ask
same_ask-true a b h = grind (arith, same_curve-true, same_digest-true, bytes_eq-Decides)

same_curve-self : (a : Curve) → same_curve a a ≡ true
same_curve-self C256 = refl
same_curve-self C384 = refl

same_digest-self : (a : Digest) → same_digest a a ≡ true
same_digest-self (D256 a) = (bytes_eq-Decides a a).1 refl
same_digest-self (D384 a) = (bytes_eq-Decides a a).1 refl

same_ask-self : (a : Ask) → same_ask a a ≡ true
unfolding same_ask
same_ask-self a = rw (same_curve-self a.curve, (bytes_eq-Decides a.x a.x).1 refl, (bytes_eq-Decides a.y a.y).1 refl, same_digest-self a.digest, (bytes_eq-Decides a.r a.r).1 refl, (bytes_eq-Decides a.s a.s).1 refl) refl

same_long-true : (a b : LongAsk) → same_long a b ≡ true → a ≡ b
unfolding same_long
same_long-true a b h = grind (arith, nat_tests, bytes_eq-Decides)

same_long-self : (a : LongAsk) → same_long a a ≡ true
unfolding same_long
same_long-self a = rw ((Decides-eqb a.scheme a.scheme).1 refl, (bytes_eq-Decides a.key a.key).1 refl, (bytes_eq-Decides a.digest a.digest).1 refl, (bytes_eq-Decides a.signature a.signature).1 refl) refl

short-true : (ask : Ask) (row : Row) → is_short_of ask row ≡ true → row ≡ Short ask
short-true ask (Short row) h = ap Short (same_ask-true row ask h)
short-true ask (Long row) h = cc

long-true : (ask : LongAsk) (row : Row) → is_long_of ask row ≡ true → row ≡ Long ask
long-true ask (Short row) h = cc
long-true ask (Long row) h = ap Long (same_long-true row ask h)

-- a test that one value alone passes finds that value
found_is : {X : Type 0} (p : X → Bool) (y : X) (xs : List X) → ((x : X) → p x ≡ true → x ≡ y) → p y ≡ true →
    (IsTrue (list_any p xs) ↔ Contains xs y)
found_is {X} p y xs only self = (
  λ h.
      let a = Any-from_list_any p xs h in
      let P : X → Type 0 = λ x. (k : ℕ) × (k < length xs) × (slice_index_or xs k x ≡ x) in
      subst P (only a.1 a.4) (a.0, a.2, a.3),
  λ h. list_any_at p xs h.0 y h.1 (rw h.2 self),
)

pub accepts_short : (ask : Ask) (rows : List Row) → IsTrue (list_any (is_short_of ask) rows) ↔ Contains rows (Short ask)
accepts_short ask rows = found_is (is_short_of ask) (Short ask) rows (short-true ask) (same_ask-self ask)

pub accepts_long : (ask : LongAsk) (rows : List Row) → IsTrue (list_any (is_long_of ask) rows) ↔ Contains rows (Long ask)
accepts_long ask rows = found_is (is_long_of ask) (Long ask) rows (long-true ask) (same_long-self ask)
