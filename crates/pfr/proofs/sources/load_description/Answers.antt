use Rattle.std.proofs.lemmas.Result.{err_from_is_err_and}
use Rattle.pfr.specs.Making.{description_fault}
use Rattle.pfr.proofs.sources.load_description.Goals as goal

pub returns-in_err-bytes-clause-loads : goal.returns-in_err-bytes-clause-loads
returns-in_err-bytes-clause-loads g c =
    let p = err_from_is_err_and c.from_residual.result c.from_residual.ensures.1 in
    rw (p.1, p.2) (record {
      stays = c.load.ensures.stays;
      ok = tt;
      err = c.in_err-bytes.ensures.err description_fault;
      later = c.load.ensures.later;
    })
