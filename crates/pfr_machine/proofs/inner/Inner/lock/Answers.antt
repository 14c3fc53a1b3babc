use Rattle.std.proofs.Common.{◌∙◌, ap}
use Rattle.pfr_machine.proofs.SeatLemmas.{locked_are_beside, locked_says, locked_adds}
use Rattle.pfr_machine.proofs.inner.Inner.lock.Goals as goal

pub inner-requires : goal.inner-requires
inner-requires g c = record {
  seated = locked_are_beside g.F.Flash.device c.sides-bank.result c.sides-bank.ensures.seated (g.F.Flash.device c.lock.result.flash) (λ off. ap g.F.Flash.device c.lock.ensures.flash ∙ c.hold.ensures.off off) (λ on. ap g.F.Flash.device (c.lock.ensures.flash ∙ c.hold.ensures.on on))
      c.args.why c.counts-counts.result c.lock.result.bank c.push.new.self (c.lock.ensures.bank ∙ c.hold.ensures.bank) c.requires.text c.push.ensures.noted;
}

pub returns-clause-ran : goal.returns-clause-ran
returns-clause-ran g c =
    rw c.inner.ensures (locked_says g.F.Flash.device c.sides-bank.result c.sides-bank.ensures.seated (g.F.Flash.device c.lock.result.flash) (λ off. ap g.F.Flash.device c.lock.ensures.flash ∙ c.hold.ensures.off off) (λ on. ap g.F.Flash.device (c.lock.ensures.flash ∙ c.hold.ensures.on on))
    c.args.bank c.args.why c.counts-counts.result c.args.self c.push.new.self c.sides-bank.ensures.bank c.sides-bank.ensures.is c.counts-counts.ensures c.push.ensures.noted)

pub returns-clause-notes : goal.returns-clause-notes
returns-clause-notes g c =
    rw c.inner.ensures (locked_adds g.F.Flash.device c.sides-bank.result c.sides-bank.ensures.seated (g.F.Flash.device c.lock.result.flash) (λ off. ap g.F.Flash.device c.lock.ensures.flash ∙ c.hold.ensures.off off) (λ on. ap g.F.Flash.device (c.lock.ensures.flash ∙ c.hold.ensures.on on))
    c.args.why c.counts-counts.result c.args.self c.push.new.self c.sides-bank.ensures.is c.requires.room c.push.ensures.noted)
