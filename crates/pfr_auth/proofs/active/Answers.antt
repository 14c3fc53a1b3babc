use Rattle.std.proofs.Common.{◌≡◌, ℕ, List}
use Rattle.pfr_flash.specs.FlashState.{FlashState, now}
use Rattle.pfr_flash.proofs.RangeLemmas.{length-now}
use Rattle.pfr_manifest.specs.declared.manifest.Manifest.{Manifest}
use Rattle.pfr_flash.proofs.AnswerLemmas.{answered}
use Rattle.pfr_flash.proofs.HoldingLemmas.{now_bytes}
use Rattle.pfr_auth.specs.Trusted.{IsTrusted, StandFor}
use Rattle.pfr_auth.proofs.LastingLaw.{answer_lasts}
use Rattle.pfr_auth.proofs.LeavingLaw.{trusted_between}
use Rattle.pfr_auth.proofs.TrustedLaw.{judged_trusted, trusted_found}
use Rattle.pfr_auth.proofs.active.Goals as goal

pub returns-clause-ok : goal.returns-clause-ok
returns-clause-ok g c =
    let d : FlashState = g.F.Flash.device c.args.flash.now in
    let valid = rw (← length-now d, c.requires.layout) at c.requires.valid in
    let P : Manifest → Type 0 = λ m. (nv : List ℕ) → StandFor nv c.args.fuses.now c.args.bank → (t : IsTrusted (now d) nv c.args.bank (g.E.Engine.accepts c.args.engine.now)) × (t.manifest ≡ m) in
    answered _ _ _ P c.judged.ensures.exact (λ m h nv p. judged_trusted (now d) nv c.args.bank (g.E.Engine.accepts c.args.engine.now) c.args.fuses.now m p valid (now_bytes d (g.met.F.Flash.holds_bytes c.args.flash.now)) h)

pub returns-clause-only : goal.returns-clause-only
returns-clause-only g c = λ nv p t. rw (trusted_found _ nv _ _ _ p t) at c.judged.ensures.exact

pub returns-clause-lasts : goal.returns-clause-lasts
returns-clause-lasts g c = answer_lasts (now (g.F.Flash.device c.args.flash.now)) c.args.bank _ c.args.fuses.now c.args.layout.now c.judged.result c.requires.layout (returns-clause-ok g c)

pub returns-clause-spans : goal.returns-clause-spans
returns-clause-spans g c = trusted_between
