-- The files of a shelf, after a store.
use Rattle.std.proofs.Common.{◌≡◌, ◌≢◌, ◌∙◌, ap, refl, sym, List, ℕ, Bool, true, false, Result, Ok, Err}
use Rattle.std.specs.Bool.{Decides}
use Rattle.std.specs.Result.{OnOk, OnErr}
use Rattle.std.specs.Str.{bytes_eq}
use Rattle.std.proofs.lemmas.Slice.Eq.{bytes_eq-Decides}
use Rattle.pfr_shelf.specs.Files.{Files, put_file, SameBut}

-- a file of another name stays
pub put_other : (files : Files) (name bytes other : List ℕ) → other ≢ name → put_file files name bytes other ≡ files other
put_other files name bytes other differs = rw (by_case (bytes_eq name other) (bytes_eq-Decides name other) (λ e. differs (sym e))) refl
  where
    by_case : {P : Type 0} (b : Bool) → Decides b P → ¬ P → b ≡ false
    by_case true d n = absurd (n (d.0 refl))
    by_case false d n = refl

-- where a store leaves every file at an `Err`, it leaves those of other names in either case
pub store_keeps : {T E : Type 0} (old new : Files) (name bytes : List ℕ) (r : Result T E) → OnOk r (new ≡ put_file old name bytes) → OnErr r (new ≡ old) → SameBut name old new
store_keeps old new name bytes (Ok x) stored stays other differs = ap (λ (f : Files). f other) stored ∙ put_other old name bytes other differs
store_keeps old new name bytes (Err e) stored stays other differs = ap (λ (f : Files). f other) stays
