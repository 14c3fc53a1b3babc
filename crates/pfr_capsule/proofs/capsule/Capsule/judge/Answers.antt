use Rattle.std.proofs.Common.{◌≡◌, ℕ, List}
use Rattle.pfr_flash.specs.FlashState.{FlashState, now}
use Rattle.pfr_flash.proofs.AnswerLemmas.{answered}
use Rattle.pfr_flash.proofs.HoldingLemmas.{now_bytes}
use Rattle.pfr_flash.proofs.RangeLemmas.{length-now}
use Rattle.pfr_capsule.specs.CapsuleState.{CapsuleState}
use Rattle.pfr_capsule.specs.Good.{IsGood, StandForBank}
use Rattle.pfr_capsule.proofs.GoodLaw.{judged_good, judged_lies, good_found}
use Rattle.pfr_capsule.proofs.capsule.Capsule.judge.Goals as goal

pub returns-clause-ok : goal.returns-clause-ok
returns-clause-ok g c =
    let d : FlashState = g.F.Flash.device c.args.flash.now in
    let valid = rw (← length-now d, c.requires.layout) at c.requires.valid in
    let exact = rw c.requires.layout at c.judged.ensures.exact in
    let P : CapsuleState → Type 0 = λ found. (nv : List ℕ) → StandForBank nv c.args.fuses.now c.args.bank → (t : IsGood (now d) c.args.place c.args.len nv c.args.bank (g.E.Engine.accepts c.args.engine.now)) × (t.capsule ≡ found) in
    answered _ _ _ P exact (λ found h nv p. judged_good (now d) nv c.args.place c.args.len c.args.bank (g.E.Engine.accepts c.args.engine.now) c.args.fuses.now found p valid (now_bytes d (g.met.F.Flash.holds_bytes c.args.flash.now)) h)

pub returns-clause-lies : goal.returns-clause-lies
returns-clause-lies g c =
    let d : FlashState = g.F.Flash.device c.args.flash.now in
    answered _ _ _ _ c.judged.ensures.exact (λ found h. judged_lies (now d) c.args.place c.args.len c.args.bank c.args.layout.now c.args.fuses.now (g.E.Engine.accepts c.args.engine.now) found (now_bytes d (g.met.F.Flash.holds_bytes c.args.flash.now)) h)

pub returns-clause-only : goal.returns-clause-only
returns-clause-only g c = λ nv p t.
    let is = c.requires.layout in
    let exact = rw is at c.judged.ensures.exact in
    rw (good_found (now (g.F.Flash.device c.args.flash.now)) nv c.args.place c.args.len c.args.bank (g.E.Engine.accepts c.args.engine.now) c.args.fuses.now p t) at exact
