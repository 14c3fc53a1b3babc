-- When an engine accepts rows.
use Rattle.std.specs.Prelude.{◌≡◌, ℕ, true, List, All, Ok}
use Rattle.sha2.specs.Sha512.{sha384}
use Rattle.pfr_engine.specs.Acceptance.{Acceptance}
use Rattle.pfr_engine.specs.Rows.{judge_text}
use Rattle.pfr_engine.specs.declared.row.Row.{Row}
use Rattle.pfr_engine.specs.declared.row.Row.TheVariants.{Short, Long}

abbrev pub AcceptsRow : Acceptance → Row → Type 0
AcceptsRow accepts (Short ask) = accepts.ask ask ≡ true
AcceptsRow accepts (Long ask) =
    (message : List ℕ) → sha384 message ≡ ask.digest → accepts.long ask.scheme ask.key message ask.signature ≡ true

-- the engine accepts the rows that a text spells
abbrev pub AcceptsText : Acceptance → List ℕ → Type 0
AcceptsText accepts text = (rows : List Row) → judge_text text ≡ Ok rows → All (AcceptsRow accepts) rows
