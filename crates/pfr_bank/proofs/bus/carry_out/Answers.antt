use Rattle.std.proofs.Common.{refl}
use Rattle.pfr_bank.proofs.BusLemmas.{follows_nothing}
use Rattle.pfr_bank.proofs.bus.carry_out.Goals as goal

pub returns-in_default : goal.returns-in_default
returns-in_default g c = record {
  follows = follows_nothing c.args.op.now _ c.in_default.not-Program c.in_default.not-Erase;
  idle = λ none. (refl, refl);
}
