use Rattle.std.proofs.Common.{arith}
use Rattle.pfr_flash.proofs.RangeLemmas.{length-now}
use Rattle.pfr_copy.proofs.contents.recovery_page.Goals as goal

pub holds_text-requires-clause-area : goal.holds_text-requires-clause-area
holds_text-requires-clause-area g c =
    omega (arith, c.requires.can.lies.within, c.requires.can.valid.inside.recovery, c.length.ensures, length-now (g.F.Flash.device c.args.flash.now), c.requires.size.most)

pub text_page-requires-clause-inside : goal.text_page-requires-clause-inside
text_page-requires-clause-inside g c =
    omega (arith, c.requires.can.lies.within, c.requires.can.valid.inside.staging, c.length-2.ensures, length-now (g.F.Flash.device c.args.flash.now))
