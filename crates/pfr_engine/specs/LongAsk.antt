-- What a long row says: a scheme, a key, the SHA-384 of a message, and its signature.
use Rattle.std.specs.Prelude.{ℕ, List}

pub record LongAsk : Type 0 where
  pub scheme : ℕ
  pub key : List ℕ
  pub digest : List ℕ
  pub signature : List ℕ
