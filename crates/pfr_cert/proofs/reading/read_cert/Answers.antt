use Rattle.std.proofs.Common.{ℕ, List, sym, subst}
use Rattle.pfr_flash.specs.FlashState.{now}
use Rattle.pfr_flash.specs.declared.layout.Layout.{Layout}
use Rattle.pfr_flash.proofs.AnswerLemmas.{answered}
use Rattle.pfr_cert.specs.Certificate.{IsCertificate}
use Rattle.pfr_cert.proofs.CertLaw.{cert_holds, cert_ends}
use Rattle.pfr_cert.proofs.reading.read_cert.Goals as goal

pub returns-clause-ok : goal.returns-clause-ok
returns-clause-ok g c =
    let image : List ℕ = now (g.F.Flash.device c.args.flash.now) in
    let accepts = g.E.Engine.accepts c.args.engine.now in
    answered _ _ _ _ c.judged.ensures.exact (λ cert h.
    subst (λ (l : Layout). IsCertificate image l.staging_at l.area_len c.args.bank c.args.fuses.now.provision.root accepts cert) (sym c.requires.layout)
    (cert_holds c.args.bank image c.args.fuses.now accepts cert h))

pub returns-clause-only : goal.returns-clause-only
returns-clause-only g c = λ cert is.
    let image : List ℕ = now (g.F.Flash.device c.args.flash.now) in
    let accepts = g.E.Engine.accepts c.args.engine.now in
    let there = subst (λ (l : Layout). IsCertificate image l.staging_at l.area_len c.args.bank c.args.fuses.now.provision.root accepts cert) c.requires.layout is in
    rw (cert_ends c.args.bank image c.args.fuses.now accepts cert there) at c.judged.ensures.exact
