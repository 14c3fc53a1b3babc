use Rattle.std.proofs.Common.{◌∙◌, sym}
use Rattle.pfr_script.proofs.NumberLemmas.{digits_are_text, parsed, parsed_above_zero}
use Rattle.pfr_script.proofs.number.read_number.Goals as goal

pub returns-in_default-clause-exact : goal.returns-in_default-clause-exact
returns-in_default-clause-exact c = absurd (c.in_default.ensures.cases.0 (digits_are_text c.args.word.now (sym c.are_digits.ensures ∙ c.if-not-are_digits.false)))

pub returns-in-Err-clause-exact : goal.returns-in-Err-clause-exact
returns-in-Err-clause-exact c =
    let text = rw c.in-Ok.ensures.cases.0 at c.parse.ensures.value.0 in
    let is = parsed c.args.word.now c.parse.result (sym c.are_digits.ensures ∙ c.if-not-are_digits.false) (sym c.begins_above_zero.ensures ∙ c.if-not-begins_above_zero.false) text in
    rw c.in-Err.is at is

pub returns-in-Ok-parse-clause-some : goal.returns-in-Ok-parse-clause-some
returns-in-Ok-parse-clause-some c =
    let text = rw c.in-Ok.ensures.cases.0 at c.parse.ensures.value.0 in
    let some = parsed_above_zero c.args.word.now c.parse.result (sym c.are_digits.ensures ∙ c.if-not-are_digits.false) (sym c.begins_above_zero.ensures ∙ c.if-not-begins_above_zero.false) text in
    rw c.in-Ok-parse.is at some
