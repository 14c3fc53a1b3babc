use Rattle.std.proofs.Common.{◌≡◌, ◌^◌, ◌≤◌, true, arith}
use Rattle.pfr_flash.proofs.JudgingLemmas.{Decides-true}
use Rattle.pfr_manifest.specs.Stretches.{writable_by}
use Rattle.pfr_filter.specs.Frames.{judge_spi}
use Rattle.pfr_filter.proofs.JudgeLaws.{judged_formed, verdict_formed, verdict_passes}
use Rattle.pfr_filter.proofs.judging.judge_counted.Goals as goal

pub new-requires : goal.new-requires
new-requires g c =
    let small : c.args.size ≤ 2 ^ 32 = omega arith in
    rw (c.verdict_of.ensures, c.judged.ensures.exact) (verdict_formed (judge_spi c.args.frame.now (writable_by c.args.table.now c.args.layout.now) c.args.size c.args.latch)
    (λ op h. judged_formed c.args.frame.now (writable_by c.args.table.now c.args.layout.now) c.args.size c.args.latch op small h))

pub returns-clause-passes : goal.returns-clause-passes
returns-clause-passes g c =
    λ op. rw (c.new.ensures, c.verdict_of.ensures, c.judged.ensures.exact)
    (verdict_passes c.args.frame.now (writable_by c.args.table.now c.args.layout.now) (λ page. writable_by c.args.table.now c.args.layout.now page ≡ true)
    (λ page. Decides-true (writable_by c.args.table.now c.args.layout.now page)) c.args.size c.args.latch op)
