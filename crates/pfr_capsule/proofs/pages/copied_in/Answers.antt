use Rattle.std.proofs.Common.{arith}
use Rattle.pfr_capsule.proofs.CountLaws.{count_le}
use Rattle.pfr_capsule.proofs.pages.copied_in.Goals as goal

pub overflow_add-result : goal.overflow_add-result
overflow_add-result c = omega (arith, c.from.ensures, c.count_before.ensures, count_le c.args.stretch.now c.args.n)
