use Rattle.std.proofs.Common.{arith}
use Rattle.pfr_capsule.proofs.CountLaws.{count_le}
use Rattle.pfr_capsule.proofs.judging.check_maps.Goals as goal

pub overflow_mul-count_before : goal.overflow_mul-count_before
overflow_mul-count_before c = omega (arith, c.count_before.ensures, count_le c.args.copy.now c.args.bits, c.requires.few)
