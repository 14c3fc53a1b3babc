use Rattle.std.proofs.Common.{◌≡◌, true, false, nat_lt, arith}
use Rattle.std.proofs.lemmas.Bool.Decides.{nat_tests}
use Rattle.pfr_story.specs.Guards.{guard_at}
use Rattle.pfr_machine.proofs.RestLemmas.{free_at, rests_noted}
use Rattle.pfr_machine.proofs.WatchLemmas.{recovers, spent}
use Rattle.pfr_report.specs.declared.note.What.TheVariants.{Expired}
use Rattle.pfr_machine.proofs.inner.Inner.expire.Goals as goal

pub work-requires-clause-free : goal.work-requires-clause-free
work-requires-clause-free g c =
    let few : nat_lt c.note_expiry-level.result 4 ≡ true = grind (arith, nat_tests, c.if-level-lt-SPENT.true) in
    free_at c.args.bank c.note_expiry-level.result (guard_at c.args.bank c.args.self.guards).watch _ c.note_expiry-level.ensures.level few
    (rests_noted c.args.bank (Expired c.args.bank c.note_expiry-level.result) c.args.self c.note_expiry-level.new.self c.note_expiry-level.ensures.noted c.requires.rests)

pub work-requires-clause-settled : goal.work-requires-clause-settled
work-requires-clause-settled g c =
    (rests_noted c.args.bank (Expired c.args.bank c.note_expiry-level.result) c.args.self c.note_expiry-level.new.self c.note_expiry-level.ensures.noted c.requires.rests).0

pub returns-then-level-lt-SPENT : goal.returns-then-level-lt-SPENT
returns-then-level-lt-SPENT g c =
    let few : nat_lt c.note_expiry-level.result 4 ≡ true = grind (arith, nat_tests, c.if-level-lt-SPENT.true) in
    recovers (g.E.Engine.accepts c.args.engine.now) c.args.bank c.note_expiry-level.result c.args.self c.note_expiry-level.new.self c.note_expiry-level.ensures.level c.note_expiry-level.ensures.noted (omega (arith, c.requires.room))
    few c.work.result c.work.ensures

pub returns-else-level-lt-SPENT : goal.returns-else-level-lt-SPENT
returns-else-level-lt-SPENT g c =
    let many : nat_lt c.note_expiry-level.result 4 ≡ false = grind (arith, nat_tests, c.if-level-lt-SPENT.false) in
    spent (g.E.Engine.accepts c.args.engine.now) c.args.bank c.note_expiry-level.result c.args.self c.note_expiry-level.new.self c.note_expiry-level.ensures.level c.note_expiry-level.ensures.noted (omega (arith, c.requires.room))
    c.hold.result c.lock.result many c.hold.ensures.bank c.hold.ensures.other c.hold.ensures.ran c.hold.ensures.notes c.lock.ensures.ran c.lock.ensures.leaves
