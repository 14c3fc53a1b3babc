use Rattle.std.proofs.Common.{◌≡◌, ◌≤◌}
use Rattle.pfr_flash.specs.FlashState.{now}
use Rattle.pfr_jobs.specs.LogState.{log_of}
use Rattle.pfr_copy.proofs.HeedLemmas.{IsHeeded}
use Rattle.pfr_copy.proofs.heeding.replace_heeding.Given as goal

-- the groups so far were done
abbrev pub invariant-loop-group : goal.invariant-loop-group
invariant-loop-group g l = record {
  few : l.group ≤ 128;
  heeded : IsHeeded l.kind l.capsule l.layout l.fn.jobs.bank (record { bank = g.F.Flash.device l.fn.flash; store = g.F.Flash.device l.fn.nv }) (record { bank = g.F.Flash.device l.flash; store = g.F.Flash.device l.nv }) l.group;
  stands : l.jobs ≡ log_of (now (g.F.Flash.device l.nv)) l.fn.jobs.bank;
}
