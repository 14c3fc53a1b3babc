use Rattle.std.proofs.Common.{◌≡◌, ap, arith}
use Rattle.std.proofs.lemmas.Result.{err_from_is_err_and}
use Rattle.pfr_manifest.specs.declared.manifest.Manifest.{Manifest}
use Rattle.pfr_report.specs.declared.note.What.TheVariants.{RecoveryUpdated}
use Rattle.pfr_machine.proofs.PlanLemmas.{concluded_goes, concluded_stopped}
use Rattle.pfr_machine.proofs.desk.Desk.conclude.Goals as goal

pub returns-in_err-raise_floor-clause-goes : goal.returns-in_err-raise_floor-clause-goes
returns-in_err-raise_floor-clause-goes g c =
    let p = err_from_is_err_and c.from_residual.result c.from_residual.ensures.1 in
    let e : c.from.result ≡ c.args.capsule.now.manifest.svn = omega (arith, c.from.ensures, ap (λ (m : Manifest). m.svn) c.manifest.ensures) in
    rw (p.1, p.2) (concluded_stopped (λ b svn. RecoveryUpdated b svn) c.args.fuses.now c.args.capsule.now c.from.result e c.args.self.now.bank _ _ _ _ c.in_err-raise_floor.ensures.goes)

pub returns-clause-goes : goal.returns-clause-goes
returns-clause-goes g c =
    let e : c.from.result ≡ c.args.capsule.now.manifest.svn = omega (arith, c.from.ensures, ap (λ (m : Manifest). m.svn) c.manifest.ensures) in
    concluded_goes (λ b svn. RecoveryUpdated b svn) c.args.fuses.now c.args.capsule.now c.from.result e c.args.self.now c.raise_floor.new.self c.close_renewed.new.self c.close_renewed.result c.in_ok-raise_floor.ensures.stays.bank
    c.in_ok-raise_floor.ensures.goes (rw c.from.ensures c.close_renewed.ensures.goes)
