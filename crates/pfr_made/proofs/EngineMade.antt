-- An engine of rows accepts what a text spells, where it has all the text's rows.
use Rattle.std.proofs.Common.{◌≡◌, ℕ, List, get_or, All, Ok, ap, sym, subst}
use Rattle.std.specs.Prelude.{Contains}
use Rattle.std.proofs.lemmas.List.Elements.{Contains-get_or}
use Rattle.pfr_engine.specs.Accepting.{acceptance, long_ask}
use Rattle.pfr_engine.specs.LongAsk.{LongAsk}
use Rattle.pfr_engine.specs.Rows.{judge_text}
use Rattle.pfr_engine.specs.declared.row.Row.{Row}
use Rattle.pfr_engine.specs.declared.row.Row.TheVariants.{Short, Long}
use Rattle.pfr_engine.proofs.AcceptLemmas.{accepts_long, accepts_short}
use Rattle.pfr_made.specs.Accepting.{AcceptsRow, AcceptsText}

-- one of its rows
row_accepted : (rows : List Row) (row : Row) → Contains rows row → AcceptsRow (acceptance rows) row
row_accepted rows (Short ask) has = (accepts_short ask rows).1 has
row_accepted rows (Long ask) has = λ message same.
    let is : ask ≡ long_ask ask.scheme ask.key message ask.signature = ap (λ (digest : List ℕ). record ask { digest = digest }) (sym same) in
    (accepts_long (long_ask ask.scheme ask.key message ask.signature) rows).1 (subst (λ (a : LongAsk). Contains rows (Long a)) is has)

pub rows_accepted : (rows : List Row) (text : List ℕ) → ((spelled : List Row) → judge_text text ≡ Ok spelled → All (Contains rows) spelled) → AcceptsText (acceptance rows) text
rows_accepted rows text has spelled is = λ k d below. row_accepted rows (get_or spelled k d) (has spelled is k d below)

-- the engine of the text's own rows
pub text_accepted : (rows : List Row) (text : List ℕ) → judge_text text ≡ Ok rows → AcceptsText (acceptance rows) text
text_accepted rows text is = rows_accepted rows text (λ spelled e.
    let same : rows ≡ spelled = cc in
    subst (λ (all : List Row). All (Contains rows) all) same (λ k d below. Contains-get_or rows k d below))
