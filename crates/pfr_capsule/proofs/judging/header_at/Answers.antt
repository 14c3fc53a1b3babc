use Rattle.std.proofs.Common.{◌∙◌, sym, Ok, Err, arith}
use Rattle.std.proofs.lemmas.Result.{err_from_is_err_and}
use Rattle.pfr_flash.specs.FlashState.{FlashState, now}
use Rattle.pfr_flash.proofs.RangeLemmas.{length-now}
use Rattle.pfr_flash.proofs.EndsLemmas.{EndsAt-refl}
use Rattle.pfr_capsule.proofs.Parts.{header_judged}
use Rattle.pfr_capsule.proofs.judging.header_at.Goals as goal

pub returns-then-end-at-clause-ends : goal.returns-then-end-at-clause-ends
returns-then-end-at-clause-ends g c = EndsAt-refl _

pub returns-in_err-check_numbers-clause-exact : goal.returns-in_err-check_numbers-clause-exact
returns-in_err-check_numbers-clause-exact g c =
    let p = err_from_is_err_and c.from_residual-in_err-check_numbers.result c.from_residual-in_err-check_numbers.ensures.1 in
    let old : FlashState = g.F.Flash.device c.args.flash.now in
    rw (p.1, p.2, c.in_err-check_numbers.ensures.found)
    (header_judged (now old) c.args.at c.args.end c.size-size.result c.read.new.into c.read-header.result (omega (arith, c.requires.begins, c.if-end-at.false)) c.in_ok-read.ensures.bytes c.read-header.ensures (c.size-size.ensures ∙ sym (length-now old))
    (Err c.in_err-check_numbers.field-0.0) (sym c.in_err-check_numbers.ensures.exact))

pub returns-clause-exact : goal.returns-clause-exact
returns-clause-exact g c =
    let old : FlashState = g.F.Flash.device c.args.flash.now in
    header_judged (now old) c.args.at c.args.end c.size-size.result c.read.new.into c.read-header.result (omega (arith, c.requires.begins, c.if-end-at.false)) c.in_ok-read.ensures.bytes c.read-header.ensures (c.size-size.ensures ∙ sym (length-now old))
    (Ok tt) (sym c.in_ok-check_numbers.ensures.exact)
