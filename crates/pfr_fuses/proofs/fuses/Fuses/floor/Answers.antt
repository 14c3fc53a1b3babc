use Rattle.std.proofs.Common.{◌≡◌, ℕ, sym, subst, rules}
use Rattle.pfr_fuses.specs.FuseMap.{IsFloor}
use Rattle.pfr_fuses.specs.FusesState.{floor_of}
use Rattle.pfr_fuses.proofs.StandsLemmas.{kept_floor}
use Rattle.pfr_fuses.proofs.fuses.Fuses.floor.Goals as goal

pub returns-clause-stands : goal.returns-clause-stands
returns-clause-stands c =
    let exact : c.floor_of.result ≡ floor_of c.args.self.now c.args.bank = search rules in
    λ store h. subst (λ (floor : ℕ). IsFloor store c.args.bank floor) (sym exact) (kept_floor store c.args.self.now c.args.bank h)
