use Rattle.std.proofs.Common.{◌≤◌, arith}
use Rattle.pfr_flash.proofs.FollowsLemmas.{Follows-none}
use Rattle.pfr_fuses.specs.FusesState.{floor_of}
use Rattle.pfr_fuses.proofs.ClearingLemmas.{raise_plan-none}
use Rattle.pfr_fuses.proofs.fuses.Fuses.raise_fuse.Goals as goal

pub returns-then-to-floor-clause-follows : goal.returns-then-to-floor-clause-follows
returns-then-to-floor-clause-follows g c =
    let at_most : c.args.to ≤ floor_of c.args.self.now c.args.bank = omega (arith, c.floor.ensures.exact, c.if-to-floor.true) in
    rw (raise_plan-none (floor_of c.args.self.now c.args.bank) c.args.bank c.args.to at_most) (Follows-none (g.F.Flash.device c.args.nv.now) tt)
