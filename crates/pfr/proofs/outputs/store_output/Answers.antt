use Rattle.std.proofs.Common.{inl, refl, arith}
use Rattle.pfr.proofs.outputs.store_output.Goals as goal

pub returns-in-Err-clause-stores : goal.returns-in-Err-clause-stores
returns-in-Err-clause-stores g c = record {
  ok = tt;
  err = λ told. (c.args.output.now.role, inl (refl, λ other differs. refl));
  later = omega arith;
}
