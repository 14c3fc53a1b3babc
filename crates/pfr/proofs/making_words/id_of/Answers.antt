use Rattle.std.proofs.Common.{◌≡◌, ◌∙◌, ap, sym, true}
use Rattle.pfr.specs.Commands.{is_decimal}
use Rattle.pfr.proofs.WordLemmas.{parsed_id}
use Rattle.pfr.proofs.making_words.id_of.Goals as goal

pub returns-in-Err : goal.returns-in-Err
returns-in-Err c =
    let decimal : is_decimal c.args.word.now ≡ true = ap is_decimal (sym c.as_bytes.ensures.value) ∙ (sym c.is_decimal.ensures ∙ c.if-not-is_decimal.false) in
    let is = parsed_id c.args.word.now c.parse.result decimal c.parse.ensures.value.0 in
    rw c.in-Err.is at is
