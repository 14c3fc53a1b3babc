use Rattle.pfr.proofs.CheckLemmas.{verdicts_of}
use Rattle.pfr.proofs.check.check.Goals as goal

pub returns-in-Ok-write_verdicts-clause-output : goal.returns-in-Ok-write_verdicts-clause-output
returns-in-Ok-write_verdicts-clause-output g c =
    let s = g.S.Shelf in (
      _,
      verdicts_of s.tells (s.files c.args.shelf.now) c.args.request.now c.in-Ok.images c.in-Ok-judge_banks.verdicts c.in-Ok.ensures.loaded c.in-Ok-judge_banks.ensures,
      c.in-Ok-write_verdicts.ensures.ok,
    )

pub returns-in-Err-write_verdicts-clause-output : goal.returns-in-Err-write_verdicts-clause-output
returns-in-Err-write_verdicts-clause-output g c =
    let s = g.S.Shelf in (
      _,
      verdicts_of s.tells (s.files c.args.shelf.now) c.args.request.now c.in-Ok.images c.in-Ok-judge_banks.verdicts c.in-Ok.ensures.loaded c.in-Ok-judge_banks.ensures,
      c.in-Err-write_verdicts.ensures.part,
    )
