use Rattle.std.proofs.Common.{inl, refl}
use Rattle.pfr.proofs.outputs.store_file.Goals as goal

pub returns-in-Err-NoMemory-clause-stores : goal.returns-in-Err-NoMemory-clause-stores
returns-in-Err-NoMemory-clause-stores g c = record {
  ok = tt;
  err = λ told. (c.args.role, inl (refl, c.in-Err-NoMemory.ensures.others told));
  later = c.in-Err-NoMemory.ensures.later;
}
