use Rattle.std.proofs.Common.{subst}
use Rattle.pfr_flash.specs.Bytes.{AreBytes}
use Rattle.pfr_flash.proofs.tear.Tear.copied.Goals as goal

pub returns-clause-bytes : goal.returns-clause-bytes
returns-clause-bytes c = subst AreBytes c.self.view_is c.self.invariant.2
