use Rattle.std.proofs.Common.{◌≡◌, ◌∙◌, ap, sym, true}
use Rattle.pfr.specs.Commands.{is_numeral}
use Rattle.pfr.proofs.WordLemmas.{parsed}
use Rattle.pfr.proofs.words.wear_of.Goals as goal

pub returns-in-Err-clause-exact : goal.returns-in-Err-clause-exact
returns-in-Err-clause-exact c =
    let numeral : is_numeral c.args.word.now ≡ true = ap is_numeral (sym c.as_bytes.ensures.value) ∙ (sym c.is_numeral.ensures ∙ c.if-not-is_numeral.false) in
    let is = parsed c.args.word.now c.parse.result numeral c.parse.ensures.value.0 in
    rw c.in-Err.is at is
