-- What a held bank ends as, where its flash is lent.
use Rattle.std.specs.Borrow.{Lends, Fml, RattleType, MutBor}
use Rattle.pfr_bank.specs.declared.held.Held.{Held}
use Rattle.pfr_bank.specs.contracts.held.Held.{the_row}

module _ (F : RattleType) (h : MutBor (Held F.Denot)) where
  -- once the borrow r ends, the bank's flash is what r shows last
  abbrev pub lends_flash : MutBor F.Denot → Fml
  lends_flash r = Lends (the_row F) F h r (λ w. record h.now { flash = w })
