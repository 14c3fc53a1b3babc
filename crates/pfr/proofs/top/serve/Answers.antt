use Rattle.std.proofs.Common.{◌≡◌, ◌∙◌, ap, refl, subst, sym, Option, Some}
use Rattle.pfr.specs.Runs.{outside}
use Rattle.pfr.specs.Top.{Got, asked}
use Rattle.pfr.specs.declared.finished.Finished.{Finished}
use Rattle.pfr.specs.declared.words.Command.{Command}
use Rattle.pfr.specs.declared.words.Command.TheVariants.{Cert, Check, Make, Provision}
use Rattle.pfr.proofs.CommandLemmas.{check_got}
use Rattle.pfr.proofs.MakingLemmas.{silent_got, unread_got}
use Rattle.pfr.proofs.top.serve.Goals as goal

pub returns-in-Ok-Some-Check-clause-output : goal.returns-in-Ok-Some-Check-clause-output
returns-in-Ok-Some-Check-clause-output g c =
    let s = g.S.Shelf in
    let k = g.K.Sink in
    let before = outside s.files s.faults s.failed k.written k.faults c.args.shelf.now c.args.out.now in
    let after = outside s.files s.faults s.failed k.written k.faults c.check.new.shelf c.check.new.out in
    let found = c.without_bench-in-Ok-Some-Check in
    let request = c.in-Ok-Some-Check.request in
    let asks : asked c.args.words.now ≡ Some (Check request) = sym c.in-Ok-Some-Check.ensures ∙ (c.in-Ok-Some-Check.field-0-is ∙ ap Some c.in-Ok-Some-Check.field-0-0-is) in
    subst (λ (asks : Option Command). Got s.tells k.tells before after asks found.result.bench found.result.status) (sym asks)
    (subst (λ (f : Finished). Got s.tells k.tells before after (Some (Check request)) f.bench f.status) (sym found.ensures)
    (check_got s.tells k.tells before after request c.check.result c.check.ensures.cause c.check.ensures.output))

pub returns-in-Ok-Some-Make-clause-output : goal.returns-in-Ok-Some-Make-clause-output
returns-in-Ok-Some-Make-clause-output g c =
    let s = g.S.Shelf in
    let k = g.K.Sink in
    let before = outside s.files s.faults s.failed k.written k.faults c.args.shelf.now c.args.out.now in
    let after = outside s.files s.faults s.failed k.written k.faults c.make.new.shelf c.args.out.now in
    let found = c.without_bench-in-Ok-Some-Make in
    let request = c.in-Ok-Some-Make.request in
    let asks : asked c.args.words.now ≡ Some (Make request) = sym c.in-Ok-Some-Make.ensures ∙ (c.in-Ok-Some-Make.field-0-is ∙ ap Some c.in-Ok-Some-Make.field-0-0-is) in
    subst (λ (asks : Option Command). Got s.tells k.tells before after asks found.result.bench found.result.status) (sym asks)
    (subst (λ (f : Finished). Got s.tells k.tells before after (Some (Make request)) f.bench f.status) (sym found.ensures)
    (silent_got s.tells k.tells before after (Some (Make request)) c.make.result refl refl refl))

pub returns-in-Ok-Some-Provision-clause-output : goal.returns-in-Ok-Some-Provision-clause-output
returns-in-Ok-Some-Provision-clause-output g c =
    let s = g.S.Shelf in
    let k = g.K.Sink in
    let before = outside s.files s.faults s.failed k.written k.faults c.args.shelf.now c.args.out.now in
    let after = outside s.files s.faults s.failed k.written k.faults c.provision.new.shelf c.args.out.now in
    let found = c.without_bench-in-Ok-Some-Provision in
    let request = c.in-Ok-Some-Provision.request in
    let asks : asked c.args.words.now ≡ Some (Provision request) = sym c.in-Ok-Some-Provision.ensures ∙ (c.in-Ok-Some-Provision.field-0-is ∙ ap Some c.in-Ok-Some-Provision.field-0-0-is) in
    subst (λ (asks : Option Command). Got s.tells k.tells before after asks found.result.bench found.result.status) (sym asks)
    (subst (λ (f : Finished). Got s.tells k.tells before after (Some (Provision request)) f.bench f.status) (sym found.ensures)
    (silent_got s.tells k.tells before after (Some (Provision request)) c.provision.result refl refl refl))

pub returns-in-Ok-Some-Cert-clause-output : goal.returns-in-Ok-Some-Cert-clause-output
returns-in-Ok-Some-Cert-clause-output g c =
    let s = g.S.Shelf in
    let k = g.K.Sink in
    let before = outside s.files s.faults s.failed k.written k.faults c.args.shelf.now c.args.out.now in
    let after = outside s.files s.faults s.failed k.written k.faults c.cert.new.shelf c.args.out.now in
    let found = c.without_bench-in-Ok-Some-Cert in
    let request = c.in-Ok-Some-Cert.request in
    let asks : asked c.args.words.now ≡ Some (Cert request) = sym c.in-Ok-Some-Cert.ensures ∙ (c.in-Ok-Some-Cert.field-0-is ∙ ap Some c.in-Ok-Some-Cert.field-0-0-is) in
    subst (λ (asks : Option Command). Got s.tells k.tells before after asks found.result.bench found.result.status) (sym asks)
    (subst (λ (f : Finished). Got s.tells k.tells before after (Some (Cert request)) f.bench f.status) (sym found.ensures)
    (silent_got s.tells k.tells before after (Some (Cert request)) c.cert.result refl refl refl))

pub returns-in-Err-clause-output : goal.returns-in-Err-clause-output
returns-in-Err-clause-output g c =
    let s = g.S.Shelf in
    let k = g.K.Sink in
    let world = outside s.files s.faults s.failed k.written k.faults c.args.shelf.now c.args.out.now in
    subst (λ (f : Finished). Got s.tells k.tells world world (asked c.args.words.now) f.bench f.status) (sym c.without_bench.ensures)
    (unread_got s.tells k.tells world world (asked c.args.words.now) refl)
