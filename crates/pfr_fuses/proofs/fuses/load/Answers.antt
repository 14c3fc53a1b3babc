use Rattle.std.proofs.Common.{◌∙◌}
use Rattle.pfr_flash.proofs.RangeLemmas.{length-now}
use Rattle.pfr_fuses.proofs.StandsLemmas.{answer_ok, answer_err, fuses_of-found, fuses_of-blank, fuses_of-spent}
use Rattle.pfr_fuses.proofs.fuses.load.Goals as goal

pub returns-clause-ok : goal.returns-clause-ok
returns-clause-ok g c = answer_ok _ _ (length-now (g.F.Flash.device c.args.nv.now) ∙ c.requires) c.loaded.ensures.exact

pub returns-clause-err : goal.returns-clause-err
returns-clause-err g c = answer_err _ _ c.loaded.ensures.exact

pub returns-clause-only : goal.returns-clause-only
returns-clause-only g c = λ number h. rw (fuses_of-found _ number h) at c.loaded.ensures.exact

pub returns-clause-blank : goal.returns-clause-blank
returns-clause-blank g c = λ h blank. rw (fuses_of-blank _ h blank) at c.loaded.ensures.exact

pub returns-clause-spent : goal.returns-clause-spent
returns-clause-spent g c = λ h spent. rw (fuses_of-spent _ h spent) at c.loaded.ensures.exact
