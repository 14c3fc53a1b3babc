-- What an engine accepts: signatures of form 1, and those of form 2 by scheme, key, message and signature.
use Rattle.std.specs.Prelude.{ℕ, Bool, List}
use Rattle.pfr_engine.specs.declared.engine.Ask.{Ask}

pub record Acceptance : Type 0 where
  pub ask : Ask → Bool
  pub long : ℕ → List ℕ → List ℕ → List ℕ → Bool
