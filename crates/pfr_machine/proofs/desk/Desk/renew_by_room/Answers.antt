use Rattle.pfr_machine.proofs.desk.Desk.renew_by_room.Goals as goal

pub returns-then-is_spent : goal.returns-then-is_spent
returns-then-is_spent g c = rw (← c.is_spent.ensures, c.if-is_spent.true) c.refuse_so.ensures
