use Rattle.std.proofs.Common.{◌/◌, List, length, subst}
use Rattle.pfr_flash.specs.FlashState.{now}
use Rattle.pfr_flash.proofs.HoldingLemmas.{now_bytes}
use Rattle.pfr_jobs.specs.declared.job.JobKind.TheVariants as kinds
use Rattle.pfr_rebuilt.specs.Copying.{holds_text, recovery_page, recovery_pages}
use Rattle.pfr_copy.proofs.ClauseLaw.{again_by, marks_by, passes_by, rebuilt_by, recovery_is, recovery_same, resumes_by, strokes_by}
use Rattle.pfr_copy.proofs.LogLaw.{logged_by, opened_by, recovery_marks}
use Rattle.pfr_copy.proofs.StoppedLaw.{some_marks_by}
use Rattle.pfr_copy.proofs.RecoverLaw.{recoverable_by}
use Rattle.pfr_strokes.specs.Deeds.{Deed}
use Rattle.pfr_strokes.specs.Passes.{Passes}
use Rattle.pfr_copy.proofs.recovering.copy_recovery.Goals as goal

pub returns-clause-passes : goal.returns-clause-passes
returns-clause-passes g c =
    let d = g.F.Flash.device c.args.held.now.flash in
    let nv = g.F.Flash.device c.args.nv.now in
    let by = passes_by kinds.RecoveryFromStaging c.args.capsule.now c.args.layout.now c.args.held.now.bank (record { bank = d; store = nv }) (record { bank = g.F.Flash.device c.copy.new.flash; store = g.F.Flash.device c.copy.new.nv }) (recovery_page (now d) c.args.layout.now.staging_at c.args.capsule.now.length c.args.layout.now) (holds_text c.args.layout.now.recovery_at c.args.capsule.now.length) (recovery_pages c.args.layout.now c.args.capsule.now.length (length (now d))) (recovery_is (now d) c.args.capsule.now c.args.layout.now)
    c.copy.result c.args.marks c.args.jobs.now _ c.requires.log (rw c.flash.ensures.value at c.copy.ensures.passes) in
    subst (λ (deeds : List Deed). Passes deeds (record { bank = d; store = nv }) (record { bank = g.F.Flash.device c.copy.new.flash; store = g.F.Flash.device c.copy.new.nv }) c.copy.result) (recovery_same c.args.marks c.args.held.now.bank (now d) (now nv) c.args.capsule.now c.args.layout.now) by

pub returns-clause-rebuilt : goal.returns-clause-rebuilt
returns-clause-rebuilt g c =
    let d = g.F.Flash.device c.args.held.now.flash in
    let nv = g.F.Flash.device c.args.nv.now in
    let by = passes_by kinds.RecoveryFromStaging c.args.capsule.now c.args.layout.now c.args.held.now.bank (record { bank = d; store = nv }) (record { bank = g.F.Flash.device c.copy.new.flash; store = g.F.Flash.device c.copy.new.nv }) (recovery_page (now d) c.args.layout.now.staging_at c.args.capsule.now.length c.args.layout.now) (holds_text c.args.layout.now.recovery_at c.args.capsule.now.length) (recovery_pages c.args.layout.now c.args.capsule.now.length (length (now d))) (recovery_is (now d) c.args.capsule.now c.args.layout.now)
    c.copy.result c.args.marks c.args.jobs.now _ c.requires.log (rw c.flash.ensures.value at c.copy.ensures.passes) in
    rebuilt_by kinds.RecoveryFromStaging c.args.capsule.now c.args.layout.now c.args.held.now.bank (record { bank = d; store = nv }) (record { bank = g.F.Flash.device c.copy.new.flash; store = g.F.Flash.device c.copy.new.nv }) (recovery_page (now d) c.args.layout.now.staging_at c.args.capsule.now.length c.args.layout.now) (holds_text c.args.layout.now.recovery_at c.args.capsule.now.length) (recovery_pages c.args.layout.now c.args.capsule.now.length (length (now d))) (recovery_is (now d) c.args.capsule.now c.args.layout.now) c.copy.result c.requires.can (now_bytes d (g.met.F.Flash.holds_bytes c.args.held.now.flash)) c.args.marks by

pub returns-clause-again : goal.returns-clause-again
returns-clause-again g c =
    let d = g.F.Flash.device c.args.held.now.flash in
    let nv = g.F.Flash.device c.args.nv.now in
    let by = passes_by kinds.RecoveryFromStaging c.args.capsule.now c.args.layout.now c.args.held.now.bank (record { bank = d; store = nv }) (record { bank = g.F.Flash.device c.copy.new.flash; store = g.F.Flash.device c.copy.new.nv }) (recovery_page (now d) c.args.layout.now.staging_at c.args.capsule.now.length c.args.layout.now) (holds_text c.args.layout.now.recovery_at c.args.capsule.now.length) (recovery_pages c.args.layout.now c.args.capsule.now.length (length (now d))) (recovery_is (now d) c.args.capsule.now c.args.layout.now)
    c.copy.result c.args.marks c.args.jobs.now _ c.requires.log (rw c.flash.ensures.value at c.copy.ensures.passes) in
    again_by kinds.RecoveryFromStaging c.args.capsule.now c.args.layout.now c.args.held.now.bank (record { bank = d; store = nv }) (record { bank = g.F.Flash.device c.copy.new.flash; store = g.F.Flash.device c.copy.new.nv }) (recovery_page (now d) c.args.layout.now.staging_at c.args.capsule.now.length c.args.layout.now) (holds_text c.args.layout.now.recovery_at c.args.capsule.now.length) (recovery_pages c.args.layout.now c.args.capsule.now.length (length (now d))) (recovery_is (now d) c.args.capsule.now c.args.layout.now) c.copy.result c.requires.can (now_bytes d (g.met.F.Flash.holds_bytes c.args.held.now.flash)) c.args.marks (rebuilt_by kinds.RecoveryFromStaging c.args.capsule.now c.args.layout.now c.args.held.now.bank (record { bank = d; store = nv }) (record { bank = g.F.Flash.device c.copy.new.flash; store = g.F.Flash.device c.copy.new.nv }) (recovery_page (now d) c.args.layout.now.staging_at c.args.capsule.now.length c.args.layout.now) (holds_text c.args.layout.now.recovery_at c.args.capsule.now.length) (recovery_pages c.args.layout.now c.args.capsule.now.length (length (now d))) (recovery_is (now d) c.args.capsule.now c.args.layout.now) c.copy.result c.requires.can (now_bytes d (g.met.F.Flash.holds_bytes c.args.held.now.flash)) c.args.marks by)

pub returns-clause-strokes : goal.returns-clause-strokes
returns-clause-strokes g c =
    let d = g.F.Flash.device c.args.held.now.flash in
    let nv = g.F.Flash.device c.args.nv.now in
    let by = passes_by kinds.RecoveryFromStaging c.args.capsule.now c.args.layout.now c.args.held.now.bank (record { bank = d; store = nv }) (record { bank = g.F.Flash.device c.copy.new.flash; store = g.F.Flash.device c.copy.new.nv }) (recovery_page (now d) c.args.layout.now.staging_at c.args.capsule.now.length c.args.layout.now) (holds_text c.args.layout.now.recovery_at c.args.capsule.now.length) (recovery_pages c.args.layout.now c.args.capsule.now.length (length (now d))) (recovery_is (now d) c.args.capsule.now c.args.layout.now)
    c.copy.result c.args.marks c.args.jobs.now _ c.requires.log (rw c.flash.ensures.value at c.copy.ensures.passes) in
    strokes_by kinds.RecoveryFromStaging c.args.capsule.now c.args.layout.now c.args.held.now.bank (record { bank = d; store = nv }) (record { bank = g.F.Flash.device c.copy.new.flash; store = g.F.Flash.device c.copy.new.nv }) (recovery_page (now d) c.args.layout.now.staging_at c.args.capsule.now.length c.args.layout.now) (holds_text c.args.layout.now.recovery_at c.args.capsule.now.length) (recovery_pages c.args.layout.now c.args.capsule.now.length (length (now d))) (recovery_is (now d) c.args.capsule.now c.args.layout.now) c.copy.result c.requires.can (now_bytes d (g.met.F.Flash.holds_bytes c.args.held.now.flash)) c.args.marks by

pub returns-clause-marked : goal.returns-clause-marked
returns-clause-marked g c =
    let d = g.F.Flash.device c.args.held.now.flash in
    let nv = g.F.Flash.device c.args.nv.now in
    marks_by kinds.RecoveryFromStaging c.args.capsule.now c.args.layout.now c.args.held.now.bank (record { bank = d; store = nv }) (record { bank = g.F.Flash.device c.copy.new.flash; store = g.F.Flash.device c.copy.new.nv }) (recovery_page (now d) c.args.layout.now.staging_at c.args.capsule.now.length c.args.layout.now) (holds_text c.args.layout.now.recovery_at c.args.capsule.now.length) (recovery_pages c.args.layout.now c.args.capsule.now.length (length (now d))) (recovery_is (now d) c.args.capsule.now c.args.layout.now) c.copy.result c.args.marks c.args.jobs.now _ (length (now d) / 4096) c.requires.log (rw c.flash.ensures.value at c.copy.ensures.marked)

pub returns-clause-stopped : goal.returns-clause-stopped
returns-clause-stopped g c =
    let d = g.F.Flash.device c.args.held.now.flash in
    let nv = g.F.Flash.device c.args.nv.now in
    some_marks_by kinds.RecoveryFromStaging c.args.capsule.now c.args.layout.now c.args.held.now.bank (record { bank = d; store = nv }) (record { bank = g.F.Flash.device c.copy.new.flash; store = g.F.Flash.device c.copy.new.nv }) (recovery_page (now d) c.args.layout.now.staging_at c.args.capsule.now.length c.args.layout.now) (holds_text c.args.layout.now.recovery_at c.args.capsule.now.length) (recovery_pages c.args.layout.now c.args.capsule.now.length (length (now d))) (recovery_is (now d) c.args.capsule.now c.args.layout.now) c.copy.result c.args.marks c.args.jobs.now _ (length (now d) / 4096) c.requires.log (rw c.flash.ensures.value at c.copy.ensures.stopped)

pub returns-clause-resumes : goal.returns-clause-resumes
returns-clause-resumes g c =
    let d = g.F.Flash.device c.args.held.now.flash in
    let nv = g.F.Flash.device c.args.nv.now in
    let by = passes_by kinds.RecoveryFromStaging c.args.capsule.now c.args.layout.now c.args.held.now.bank (record { bank = d; store = nv }) (record { bank = g.F.Flash.device c.copy.new.flash; store = g.F.Flash.device c.copy.new.nv }) (recovery_page (now d) c.args.layout.now.staging_at c.args.capsule.now.length c.args.layout.now) (holds_text c.args.layout.now.recovery_at c.args.capsule.now.length) (recovery_pages c.args.layout.now c.args.capsule.now.length (length (now d))) (recovery_is (now d) c.args.capsule.now c.args.layout.now)
    c.copy.result c.args.marks c.args.jobs.now _ c.requires.log (rw c.flash.ensures.value at c.copy.ensures.passes) in
    resumes_by kinds.RecoveryFromStaging c.args.capsule.now c.args.layout.now c.args.held.now.bank (record { bank = d; store = nv }) (record { bank = g.F.Flash.device c.copy.new.flash; store = g.F.Flash.device c.copy.new.nv }) (recovery_page (now d) c.args.layout.now.staging_at c.args.capsule.now.length c.args.layout.now) (holds_text c.args.layout.now.recovery_at c.args.capsule.now.length) (recovery_pages c.args.layout.now c.args.capsule.now.length (length (now d))) (recovery_is (now d) c.args.capsule.now c.args.layout.now) c.copy.result c.requires.can (now_bytes d (g.met.F.Flash.holds_bytes c.args.held.now.flash)) c.args.marks c.args.jobs.now _ c.requires.log by (rw c.flash.ensures.value at c.copy.ensures.one)

pub returns-clause-recoverable : goal.returns-clause-recoverable
returns-clause-recoverable g c =
    let d = g.F.Flash.device c.args.held.now.flash in
    let nv = g.F.Flash.device c.args.nv.now in
    let by = passes_by kinds.RecoveryFromStaging c.args.capsule.now c.args.layout.now c.args.held.now.bank (record { bank = d; store = nv }) (record { bank = g.F.Flash.device c.copy.new.flash; store = g.F.Flash.device c.copy.new.nv }) (recovery_page (now d) c.args.layout.now.staging_at c.args.capsule.now.length c.args.layout.now) (holds_text c.args.layout.now.recovery_at c.args.capsule.now.length) (recovery_pages c.args.layout.now c.args.capsule.now.length (length (now d))) (recovery_is (now d) c.args.capsule.now c.args.layout.now)
    c.copy.result c.args.marks c.args.jobs.now _ c.requires.log (rw c.flash.ensures.value at c.copy.ensures.passes) in
    recoverable_by c.args.capsule.now c.args.layout.now c.args.held.now.bank (record { bank = d; store = nv }) (record { bank = g.F.Flash.device c.copy.new.flash; store = g.F.Flash.device c.copy.new.nv })
    c.requires.can (now_bytes d (g.met.F.Flash.holds_bytes c.args.held.now.flash)) c.requires.size c.args.marks c.copy.result by

pub returns-clause-logged : goal.returns-clause-logged
returns-clause-logged g c =
    let d = g.F.Flash.device c.args.held.now.flash in
    let nv = g.F.Flash.device c.args.nv.now in
    let by = passes_by kinds.RecoveryFromStaging c.args.capsule.now c.args.layout.now c.args.held.now.bank (record { bank = d; store = nv }) (record { bank = g.F.Flash.device c.copy.new.flash; store = g.F.Flash.device c.copy.new.nv }) (recovery_page (now d) c.args.layout.now.staging_at c.args.capsule.now.length c.args.layout.now) (holds_text c.args.layout.now.recovery_at c.args.capsule.now.length) (recovery_pages c.args.layout.now c.args.capsule.now.length (length (now d))) (recovery_is (now d) c.args.capsule.now c.args.layout.now)
    c.copy.result c.args.marks c.args.jobs.now _ c.requires.log (rw c.flash.ensures.value at c.copy.ensures.passes) in
    let only = recovery_marks c.args.capsule.now c.args.layout.now c.args.held.now.bank (record { bank = d; store = nv }) (record { bank = g.F.Flash.device c.copy.new.flash; store = g.F.Flash.device c.copy.new.nv }) c.requires.can (now_bytes d (g.met.F.Flash.holds_bytes c.args.held.now.flash)) c.args.marks in
    logged_by c.args.held.now.bank (record { bank = d; store = nv }) (record { bank = g.F.Flash.device c.copy.new.flash; store = g.F.Flash.device c.copy.new.nv }) c.args.marks _ only c.copy.ensures.unused c.copy.result by

pub returns-clause-opened : goal.returns-clause-opened
returns-clause-opened g c =
    let d = g.F.Flash.device c.args.held.now.flash in
    let nv = g.F.Flash.device c.args.nv.now in
    let by = passes_by kinds.RecoveryFromStaging c.args.capsule.now c.args.layout.now c.args.held.now.bank (record { bank = d; store = nv }) (record { bank = g.F.Flash.device c.copy.new.flash; store = g.F.Flash.device c.copy.new.nv }) (recovery_page (now d) c.args.layout.now.staging_at c.args.capsule.now.length c.args.layout.now) (holds_text c.args.layout.now.recovery_at c.args.capsule.now.length) (recovery_pages c.args.layout.now c.args.capsule.now.length (length (now d))) (recovery_is (now d) c.args.capsule.now c.args.layout.now)
    c.copy.result c.args.marks c.args.jobs.now _ c.requires.log (rw c.flash.ensures.value at c.copy.ensures.passes) in
    let only = recovery_marks c.args.capsule.now c.args.layout.now c.args.held.now.bank (record { bank = d; store = nv }) (record { bank = g.F.Flash.device c.copy.new.flash; store = g.F.Flash.device c.copy.new.nv }) c.requires.can (now_bytes d (g.met.F.Flash.holds_bytes c.args.held.now.flash)) c.args.marks in
    opened_by c.args.held.now.bank (record { bank = d; store = nv }) (record { bank = g.F.Flash.device c.copy.new.flash; store = g.F.Flash.device c.copy.new.nv }) c.args.marks _ only c.copy.ensures.unused c.copy.result by c.args.jobs.now c.requires.log
