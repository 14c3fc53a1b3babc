-- The chain that is made of a content.
use Rattle.std.specs.Prelude.{ℕ, ◌+◌, List, length, Some}
use Rattle.pfr_chain.specs.declared.judging.Chain.{Chain}
use Rattle.pfr_description.specs.declared.keys.KeyDescription.{KeyDescription}

abbrev pub made_chain : ℕ → KeyDescription → List ℕ → Chain
made_chain place key content = record { content_at = place + 1024; length = length content; key = Some key.id }
