use Rattle.std.proofs.Common.{◌∙◌, ℕ, ◌+◌, ◌/◌, ◌<◌, List, length, ap, sym, subst, refl, arith, Err}
use Rattle.std.proofs.lemmas.Result.{err_from_is_err_and}
use Rattle.pfr_flash.specs.declared.flash.FlashFail.{FlashFail}
use Rattle.pfr_bank.proofs.BusLemmas.{erased_more, erased_none, erased_part, none_to_erase, sector_inside}
use Rattle.pfr_bank.proofs.bus.erase_sectors.Goals as goal

pub loop-k-init : goal.loop-k-init
loop-k-init g c = (erased_none c.args.sector (g.F.Flash.device c.args.flash.now), λ none. refl)

pub erase-requires : goal.erase-requires
erase-requires g c =
    subst (λ (start : List ℕ). c.args.sector + c.loop-k.k < length start / 4096) (sym c.loop-k.invariant.0.worked.moved.start)
    (sector_inside c.args.sector c.args.count c.loop-k.k _ c.loop-k-test.true c.requires.inside)

pub returns-in_err-erase-clause-follows : goal.returns-in_err-erase-clause-follows
returns-in_err-erase-clause-follows g c =
    let p = err_from_is_err_and c.from_residual.result c.from_residual.ensures.1 in
    erased_part c.args.sector c.args.count c.loop-k.k _ _ _ c.erase.result c.from_residual.result c.in_err-erase.field-0.0 c.loop-k-test.true c.loop-k.invariant.0 c.erase.ensures c.in_err-erase.was
    (p.1 ∙ ap (λ (e : FlashFail). Err e) p.2)

pub returns-in_err-erase-clause-idle : goal.returns-in_err-erase-clause-idle
returns-in_err-erase-clause-idle g c = λ none. absurd (omega (arith, none_to_erase c.args.sector c.args.count none, c.loop-k-test.true))

pub loop-k-preserved : goal.loop-k-preserved
loop-k-preserved g c = (
  erased_more c.args.sector c.loop-k.k _ _ _ _ c.erase.result c.in_ok-erase.field-0 refl c.loop-k.invariant.0 c.erase.ensures c.in_ok-erase.was,
  λ none. absurd (omega (arith, none)),
)

pub returns-clause-idle : goal.returns-clause-idle
returns-clause-idle g c = λ none. (refl, c.loop-k.invariant.1 (omega (arith, none_to_erase c.args.sector c.args.count none, c.loop-k.auto.k-end)))
