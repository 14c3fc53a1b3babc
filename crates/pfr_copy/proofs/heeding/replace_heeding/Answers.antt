use Rattle.std.proofs.Common.{◌≡◌, ◌∙◌, ℕ, refl, ap, sym, subst, arith, Err}
use Rattle.std.proofs.lemmas.Result.{err_from_is_err_and}
use Rattle.pfr_flash.specs.FlashState.{now}
use Rattle.pfr_flash.specs.FuseRow.{is_cleared}
use Rattle.pfr_flash.specs.Layout.{IsBankSize}
use Rattle.pfr_flash.specs.declared.names.Bank.{Bank}
use Rattle.pfr_flash.proofs.HoldingLemmas.{now_bytes}
use Rattle.pfr_jobs.specs.LogState.{LogState, is_marked, log_of}
use Rattle.pfr_strokes.specs.declared.side.CopyFail.{CopyFail}
use Rattle.pfr_copy.proofs.HeedLemmas.{bank_size, heeded_all, heeded_none, kept_past, heeded_same, kept_on, kept_stop, store_size}
use Rattle.pfr_copy.proofs.ResumeLaw.{one_done, one_failed}
use Rattle.pfr_copy.proofs.StoppedLaw.{front_stopped}
use Rattle.pfr_copy.proofs.heeding.replace_heeding.Goals as goal
use Rattle.pfr_copy.proofs.heeding.replace_heeding.Goals.{then-not-marked+in_ok-replace_group, else-not-marked}

pub loop-group-init : goal.loop-group-init
loop-group-init g c =
    record { few = omega arith; heeded = heeded_none c.args.kind c.args.capsule.now c.args.layout.now c.args.jobs.now.bank (record { bank = g.F.Flash.device c.args.flash.now; store = g.F.Flash.device c.args.nv.now }) c.requires.store; stands = c.requires.stands }

pub replace_group-requires-clause-size : goal.replace_group-requires-clause-size
replace_group-requires-clause-size g c =
    subst (λ (n : ℕ). IsBankSize n) (sym (bank_size c.args.kind c.args.capsule.now c.args.layout.now c.args.jobs.now.bank (record { bank = g.F.Flash.device c.args.flash.now; store = g.F.Flash.device c.args.nv.now }) (record { bank = g.F.Flash.device c.loop-group.flash; store = g.F.Flash.device c.loop-group.nv }) c.loop-group.group c.loop-group.invariant.heeded c.requires.can (now_bytes (g.F.Flash.device c.args.flash.now) (g.met.F.Flash.holds_bytes c.args.flash.now)))) c.requires.size

pub replace_group-requires-clause-can : goal.replace_group-requires-clause-can
replace_group-requires-clause-can g c =
    (heeded_same c.args.kind c.args.capsule.now c.args.layout.now c.args.jobs.now.bank (record { bank = g.F.Flash.device c.args.flash.now; store = g.F.Flash.device c.args.nv.now }) (record { bank = g.F.Flash.device c.loop-group.flash; store = g.F.Flash.device c.loop-group.nv }) c.loop-group.group c.loop-group.invariant.heeded c.requires.can (now_bytes (g.F.Flash.device c.args.flash.now) (g.met.F.Flash.holds_bytes c.args.flash.now))).can

pub replace_group-requires-clause-store : goal.replace_group-requires-clause-store
replace_group-requires-clause-store g c =
    store_size c.args.kind c.args.capsule.now c.args.layout.now c.args.jobs.now.bank (record { bank = g.F.Flash.device c.args.flash.now; store = g.F.Flash.device c.args.nv.now }) (record { bank = g.F.Flash.device c.loop-group.flash; store = g.F.Flash.device c.loop-group.nv }) c.loop-group.group c.loop-group.invariant.heeded c.requires.can (now_bytes (g.F.Flash.device c.args.flash.now) (g.met.F.Flash.holds_bytes c.args.flash.now)) ∙ c.requires.store

pub returns-in_err-replace_group-clause-passes : goal.returns-in_err-replace_group-clause-passes
returns-in_err-replace_group-clause-passes g c =
    let stands = c.loop-group.invariant.stands in
    let marks : is_cleared c.loop-group.jobs.marks c.loop-group.group ≡ is_marked (now (g.F.Flash.device c.loop-group.nv)) c.args.jobs.now.bank c.loop-group.group = ap (λ (l : LogState). is_cleared l.marks c.loop-group.group) stands in
    let first : is_marked (now (g.F.Flash.device c.args.nv.now)) c.args.jobs.now.bank c.loop-group.group ≡ c.marked.result = sym (c.loop-group.invariant.heeded.log.ahead c.loop-group.group (omega arith)) ∙ sym marks ∙ sym c.marked.ensures in
    let p = err_from_is_err_and c.from_residual.result c.from_residual.ensures.1 in
    kept_stop c.args.kind c.args.capsule.now c.args.layout.now c.args.jobs.now.bank (record { bank = g.F.Flash.device c.args.flash.now; store = g.F.Flash.device c.args.nv.now }) (record { bank = g.F.Flash.device c.loop-group.flash; store = g.F.Flash.device c.loop-group.nv }) c.loop-group.group c.loop-group.invariant.heeded c.requires.can (now_bytes (g.F.Flash.device c.args.flash.now) (g.met.F.Flash.holds_bytes c.args.flash.now))
    (first ∙ c.if-not-marked.true) (record { bank = g.F.Flash.device c.replace_group.new.flash; store = g.F.Flash.device c.replace_group.new.nv })
    c.loop-group.jobs.bank (ap (λ (l : LogState). l.bank) stands) (Unit {0}) (Unit {0}) c.in_err-replace_group.field-0.0 c.from_residual.result
    c.in_err-replace_group.ensures.passes (p.1 ∙ ap (λ (e : CopyFail). Err e) p.2)

pub loop-group-preserved : goal.loop-group-preserved
loop-group-preserved g c =
    let stands = c.loop-group.invariant.stands in
    let marks : is_cleared c.loop-group.jobs.marks c.loop-group.group ≡ is_marked (now (g.F.Flash.device c.loop-group.nv)) c.args.jobs.now.bank c.loop-group.group = ap (λ (l : LogState). is_cleared l.marks c.loop-group.group) stands in
    let first : is_marked (now (g.F.Flash.device c.args.nv.now)) c.args.jobs.now.bank c.loop-group.group ≡ c.marked.result = sym (c.loop-group.invariant.heeded.log.ahead c.loop-group.group (omega arith)) ∙ sym marks ∙ sym c.marked.ensures in
    elim c.if-not-marked.branch [
      | then-not-marked+in_ok-replace_group w ↦ record {
        few = omega (arith, c.loop-group-test.true);
        heeded = rw (w.flash-is, w.nv-is)
            (kept_on c.args.kind c.args.capsule.now c.args.layout.now c.args.jobs.now.bank (record { bank = g.F.Flash.device c.args.flash.now; store = g.F.Flash.device c.args.nv.now }) (record { bank = g.F.Flash.device c.loop-group.flash; store = g.F.Flash.device c.loop-group.nv }) c.loop-group.group c.loop-group.invariant.heeded c.requires.can (now_bytes (g.F.Flash.device c.args.flash.now) (g.met.F.Flash.holds_bytes c.args.flash.now))
            (first ∙ w.if-not-marked.true) (record { bank = g.F.Flash.device w.replace_group.new.flash; store = g.F.Flash.device w.replace_group.new.nv })
            c.loop-group.jobs.bank (ap (λ (l : LogState). l.bank) stands) _ refl (omega (arith, c.loop-group-test.true))
            (λ none. c.requires.open (ap (λ (l : LogState). l.job) c.requires.stands ∙ none)) w.in_ok-replace_group.ensures.passes);
        stands = rw (w.jobs-is, w.nv-is) (w.in_ok-replace_group.ensures.stands ∙ ap (λ (which : Bank). log_of (now (g.F.Flash.device w.replace_group.new.nv)) which) (ap (λ (l : LogState). l.bank) stands));
      }
      | else-not-marked w ↦ record {
        few = omega (arith, c.loop-group-test.true);
        heeded = rw (w.flash-is, w.nv-is) (kept_past c.args.kind c.args.capsule.now c.args.layout.now c.args.jobs.now.bank (record { bank = g.F.Flash.device c.args.flash.now; store = g.F.Flash.device c.args.nv.now }) (record { bank = g.F.Flash.device c.loop-group.flash; store = g.F.Flash.device c.loop-group.nv }) c.loop-group.group _ refl (first ∙ w.if-not-marked.false) c.loop-group.invariant.heeded);
        stands = rw (w.jobs-is, w.nv-is) stands;
      }
    ]

pub returns-clause-passes : goal.returns-clause-passes
returns-clause-passes g c =
    heeded_all c.args.kind c.args.capsule.now c.args.layout.now c.args.jobs.now.bank (record { bank = g.F.Flash.device c.args.flash.now; store = g.F.Flash.device c.args.nv.now }) (record { bank = g.F.Flash.device c.loop-group.flash; store = g.F.Flash.device c.loop-group.nv }) c.loop-group.group c.loop-group.invariant.heeded c.requires.can (now_bytes (g.F.Flash.device c.args.flash.now) (g.met.F.Flash.holds_bytes c.args.flash.now)) (omega (arith, c.loop-group.invariant.few, c.loop-group-test.false))

pub returns-in_err-replace_group-clause-one : goal.returns-in_err-replace_group-clause-one
returns-in_err-replace_group-clause-one g c =
    let stands = c.loop-group.invariant.stands in
    let marks : is_cleared c.loop-group.jobs.marks c.loop-group.group ≡ is_marked (now (g.F.Flash.device c.loop-group.nv)) c.args.jobs.now.bank c.loop-group.group = ap (λ (l : LogState). is_cleared l.marks c.loop-group.group) stands in
    let first : is_marked (now (g.F.Flash.device c.args.nv.now)) c.args.jobs.now.bank c.loop-group.group ≡ c.marked.result = sym (c.loop-group.invariant.heeded.log.ahead c.loop-group.group (omega arith)) ∙ sym marks ∙ sym c.marked.ensures in
    one_failed c.args.kind c.args.capsule.now c.args.layout.now c.args.jobs.now.bank (record { bank = g.F.Flash.device c.args.flash.now; store = g.F.Flash.device c.args.nv.now }) c.requires.can (now_bytes (g.F.Flash.device c.args.flash.now) (g.met.F.Flash.holds_bytes c.args.flash.now)) (record { bank = g.F.Flash.device c.loop-group.flash; store = g.F.Flash.device c.loop-group.nv }) c.loop-group.group c.loop-group.invariant.heeded c.loop-group-test.true
    (first ∙ c.if-not-marked.true) (record { bank = g.F.Flash.device c.replace_group.new.flash; store = g.F.Flash.device c.replace_group.new.nv })
    c.loop-group.jobs.bank (ap (λ (l : LogState). l.bank) stands) c.replace_group.ensures.others c.replace_group.result c.replace_group.ensures.passes

pub returns-clause-one : goal.returns-clause-one
returns-clause-one g c =
    one_done c.args.kind c.args.capsule.now c.args.layout.now c.args.jobs.now.bank (record { bank = g.F.Flash.device c.args.flash.now; store = g.F.Flash.device c.args.nv.now }) c.requires.can (now_bytes (g.F.Flash.device c.args.flash.now) (g.met.F.Flash.holds_bytes c.args.flash.now)) (record { bank = g.F.Flash.device c.loop-group.flash; store = g.F.Flash.device c.loop-group.nv }) c.loop-group.group c.loop-group.invariant.heeded

pub returns-in_err-replace_group-clause-stopped : goal.returns-in_err-replace_group-clause-stopped
returns-in_err-replace_group-clause-stopped g c =
    let stands = c.loop-group.invariant.stands in
    let marks : is_cleared c.loop-group.jobs.marks c.loop-group.group ≡ is_marked (now (g.F.Flash.device c.loop-group.nv)) c.args.jobs.now.bank c.loop-group.group = ap (λ (l : LogState). is_cleared l.marks c.loop-group.group) stands in
    let first : is_marked (now (g.F.Flash.device c.args.nv.now)) c.args.jobs.now.bank c.loop-group.group ≡ c.marked.result = sym (c.loop-group.invariant.heeded.log.ahead c.loop-group.group (omega arith)) ∙ sym marks ∙ sym c.marked.ensures in
    let p = err_from_is_err_and c.from_residual.result c.from_residual.ensures.1 in
    rw p.1 (front_stopped c.args.kind c.args.capsule.now c.args.layout.now c.args.jobs.now.bank (record { bank = g.F.Flash.device c.args.flash.now; store = g.F.Flash.device c.args.nv.now }) (record { bank = g.F.Flash.device c.loop-group.flash; store = g.F.Flash.device c.loop-group.nv }) c.loop-group.group c.loop-group.invariant.heeded c.requires.can (now_bytes (g.F.Flash.device c.args.flash.now) (g.met.F.Flash.holds_bytes c.args.flash.now))
    (first ∙ c.if-not-marked.true) c.loop-group.jobs.bank (ap (λ (l : LogState). l.bank) stands) (g.F.Flash.device c.replace_group.new.nv) c.replace_group.ensures.others c.in_err-replace_group.ensures.early)
