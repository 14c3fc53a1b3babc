use Rattle.std.proofs.Common.{◌≡◌, ◌∙◌, Err, sym, arith, rules}
use Rattle.pfr_script.proofs.NumberLemmas.{narrow_in, narrow_out, narrow_err}
use Rattle.pfr_script.proofs.number.read_ticks.Goals as goal

pub returns-in_err-number : goal.returns-in_err-number
returns-in_err-number c =
    let same : c.from_residual.result ≡ Err c.in_err-number.field-0.0 = search rules in
    same ∙ sym (narrow_err 65535 c.args.word.now c.in_err-number.field-0.0 (omega arith) (sym c.read_number.ensures.exact ∙ c.in_err-number.was))

pub returns-in-Ok : goal.returns-in-Ok
returns-in-Ok c = rw c.in-Ok.ensures.1 (sym (narrow_in 65535 c.args.word.now c.in_ok-number.number (omega arith) (sym c.read_number.ensures.exact ∙ c.in_ok-number.was) (omega (arith, c.in-Ok.ensures.0))))

pub returns-in-Err : goal.returns-in-Err
returns-in-Err c = sym (narrow_out 65535 c.args.word.now c.in_ok-number.number (omega arith) (sym c.read_number.ensures.exact ∙ c.in_ok-number.was) (omega (arith, c.in-Err.ensures)))
