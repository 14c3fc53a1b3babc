use Rattle.std.proofs.Common.{ap}
use Rattle.std.proofs.lemmas.Result.{err_from_is_err_and}
use Rattle.pfr_flash.proofs.EndsLemmas.{ends_content}
use Rattle.pfr_fuses.specs.declared.root_slot.RootSlot.{RootSlot}
use Rattle.pfr_auth.proofs.Parts.{chain_refused, manifest_refused, manifest_found}
use Rattle.pfr_auth.proofs.judging.signed_manifest.Goals as goal

pub returns-in_err-chain-clause-exact : goal.returns-in_err-chain-clause-exact
returns-in_err-chain-clause-exact g c =
    let p = err_from_is_err_and c.from_residual.result c.from_residual.ensures.1 in
    rw (p.1, p.2) (chain_refused (g.F.Flash.device c.args.flash.now) _ _ _ _ _ _ _ c.requires.layout c.manifest_type-ty.ensures (ap (λ (slot : RootSlot). slot.root) c.provision-provision.ensures) c.row-cancelled.ensures
    c.in_err-chain.field-0.0 c.in_err-chain.ensures.exact)

pub returns-in_err-read-clause-exact : goal.returns-in_err-read-clause-exact
returns-in_err-read-clause-exact g c =
    let p = err_from_is_err_and c.from_residual-in_err-read.result c.from_residual-in_err-read.ensures.1 in
    rw (p.1, p.2) (manifest_refused (g.F.Flash.device c.args.flash.now) _ _ _ _ _ _ _ c.requires.layout c.manifest_type-ty.ensures (ap (λ (slot : RootSlot). slot.root) c.provision-provision.ensures) c.row-cancelled.ensures
    (g.F.Flash.device c.verify.new.flash) c.in_ok-chain.chain c.in_err-read.field-0.0 (ends_content c.in_ok-chain.ensures.ends) c.in_ok-chain.ensures.exact c.in_err-read.ensures.exact)

pub returns-clause-exact : goal.returns-clause-exact
returns-clause-exact g c =
    manifest_found (g.F.Flash.device c.args.flash.now) _ _ _ _ _ _ _ c.requires.layout c.manifest_type-ty.ensures (ap (λ (slot : RootSlot). slot.root) c.provision-provision.ensures) c.row-cancelled.ensures
    (g.F.Flash.device c.verify.new.flash) c.in_ok-chain.chain c.in_ok-read.field-0 (ends_content c.in_ok-chain.ensures.ends) c.in_ok-chain.ensures.exact c.in_ok-read.ensures.exact
