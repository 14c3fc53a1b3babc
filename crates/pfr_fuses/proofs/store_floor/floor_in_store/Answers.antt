use Rattle.std.proofs.Common.{◌∙◌, ap, sym, subst}
use Rattle.pfr_fuses.specs.FuseMap.{IsFloor}
use Rattle.pfr_fuses.specs.FusesState.{floor_in}
use Rattle.pfr_fuses.proofs.StandsLemmas.{store_floor}
use Rattle.pfr_fuses.proofs.store_floor.floor_in_store.Goals as goal

pub returns-clause-stands : goal.returns-clause-stands
returns-clause-stands c = subst (λ floor. IsFloor c.args.store.now c.args.bank floor) (sym (c.floor_of.ensures ∙ ap (floor_in 128) c.floor_fuses.ensures)) (store_floor c.args.store.now c.args.bank c.requires)
