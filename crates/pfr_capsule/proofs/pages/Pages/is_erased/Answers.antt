use Rattle.std.proofs.Common.{arith}
use Rattle.pfr_flash.proofs.RangeLemmas.{length-now}
use Rattle.pfr_capsule.proofs.PageLaws.{erase_bit}
use Rattle.pfr_capsule.proofs.pages.Pages.is_erased.Goals as goal

pub overflow_add-self : goal.overflow_add-self
overflow_add-self g c = omega (arith, c.requires.index.erase_inside, length-now (g.F.Flash.device c.args.flash.now))

pub read-requires : goal.read-requires
read-requires g c = omega (arith, c.requires.index.whole, c.requires.index.erase_inside, length-now (g.F.Flash.device c.args.flash.now))

pub returns-clause-found : goal.returns-clause-found
returns-clause-found g c = erase_bit _ _ c.args.self.now c.args.n _ c.requires.index c.requires.inside c.in_ok-read.ensures.bytes c.has_bit.ensures
