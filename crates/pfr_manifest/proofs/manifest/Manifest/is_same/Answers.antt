use Rattle.pfr_manifest.proofs.SameLemmas.{same_texts_by}
use Rattle.pfr_manifest.proofs.manifest.Manifest.is_same.Goals as goal

pub returns-clause-texts : goal.returns-clause-texts
returns-clause-texts c = λ layout size is also. same_texts_by c.args.self.now c.args.other.now layout size c.eq.result c.eq.ensures is also
