use Rattle.pfr_story.proofs.Sequence.{Ran-append}
use Rattle.pfr_machine.proofs.inner.Inner.lock_unread.Goals as goal

pub returns-clause-ran : goal.returns-clause-ran
returns-clause-ran g c =
    let first = rw c.hold.ensures.bank at c.lock.ensures.ran in
    let second = rw c.hold-2.ensures.bank at c.lock-2.ensures.ran in
    Ran-append _ _ _ _ _ c.hold.ensures.ran (Ran-append _ _ _ _ _ first (Ran-append _ _ _ _ _ c.hold-2.ensures.ran second))
