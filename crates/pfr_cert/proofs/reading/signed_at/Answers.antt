use Rattle.std.proofs.lemmas.Result.{err_from_is_err_and}
use Rattle.pfr_flash.proofs.EndsLemmas.{ends_content}
use Rattle.pfr_cert.proofs.Parts.{chain_refused}
use Rattle.pfr_cert.proofs.reading.signed_at.Goals as goal

pub returns-in_err-chain-clause-exact : goal.returns-in_err-chain-clause-exact
returns-in_err-chain-clause-exact g c =
    let p = err_from_is_err_and c.from_residual-in_err-chain.result c.from_residual-in_err-chain.ensures.1 in
    rw (p.1, p.2) (chain_refused (g.F.Flash.device c.args.flash.now) (g.F.Flash.device c.content_type.new.flash) _ _ _ _ _ _ _ _ _ c.in_err-chain.field-0.0
    (ends_content c.in_ok-content_type.ensures.ends) c.in_ok-content_type.ensures.exact c.wanted-ty.ensures.exact c.cancelling.ensures c.new-cancelled.ensures c.in_err-chain.ensures.exact)
