use Rattle.std.proofs.Common.{◌≡◌, ◌≢◌, ◌∙◌, ◌⊎◌, inl, inr, ℕ, List, length, None, Err, refl, sym, ap, arith, rules}
use Rattle.pfr_flash.proofs.FollowsLemmas.{Follows-none, Follows-step, Follows-stop}
use Rattle.pfr_flash.proofs.RangeLemmas.{length-now}
use Rattle.pfr_jobs.proofs.FreeLaws.{is_placed, freeing_switch, freeing_none}
use Rattle.pfr_jobs.specs.contracts.log.JobLog.{the_view}
use Rattle.pfr_jobs.proofs.log.JobLog.free_slot.Given as given
use Rattle.pfr_jobs.proofs.log.JobLog.free_slot.Goals as goal
use Rattle.pfr_jobs.proofs.log.JobLog.free_slot.Goals.{in_default-via-in-Some+else-self-eq-SLOTS, in_default-via-in_default}

pub returns-in_err-erase-in-Some-clause-follows : goal.returns-in_err-erase-in-Some-clause-follows
returns-in_err-erase-in-Some-clause-follows g c =
    let same : c.from_residual.result ≡ Err c.in_err-erase-in-Some.field-0.0 = search rules in
    rw (← c.self.view_is, (freeing_switch (the_view c.self.inside) c.in-Some.at c.in-Some.is c.if-self-eq-SLOTS.true).0, ← c.log_at-start.ensures) (Follows-stop _ _ _ _ _ _ _ c.erase.ensures c.in_err-erase-in-Some.was same)

pub overflow_add-start-in-Some : goal.overflow_add-start-in-Some
overflow_add-start-in-Some g c =
    let placed = is_placed _ _ _ (c.self.view_is ∙ c.requires.stands) (length-now (g.F.Flash.device c.args.nv.now) ∙ c.requires.size) in
    omega (arith, placed.inside, placed.unspent c.in-Some.at c.in-Some.is, c.log_at-start.ensures)

pub program-requires-clause-within : goal.program-requires-clause-within
program-requires-clause-within g c =
    let placed = is_placed _ _ _ (c.self.view_is ∙ c.requires.stands) (length-now (g.F.Flash.device c.args.nv.now) ∙ c.requires.size) in
    omega (arith, placed.inside, placed.unspent c.in-Some.at c.in-Some.is, c.log_at-start.ensures, ap (λ (bytes : List ℕ). length bytes) c.erase.ensures.worked.moved.start, c.requires.size)

pub returns-in_err-program-in-Some-clause-follows : goal.returns-in_err-program-in-Some-clause-follows
returns-in_err-program-in-Some-clause-follows g c =
    let same : c.from_residual-in_err-program-in-Some.result ≡ Err c.in_err-program-in-Some.field-0.0 = search rules in
    rw (← c.self.view_is, (freeing_switch (the_view c.self.inside) c.in-Some.at c.in-Some.is c.if-self-eq-SLOTS.true).0, ← c.log_at-start.ensures)
    (Follows-step _ _ _ _ _ _ _ _ c.erase.ensures c.in_ok-erase-in-Some.was (Follows-stop _ _ _ _ _ _ _ c.program.ensures c.in_err-program-in-Some.was same))

pub overflow_mul-result : goal.overflow_mul-result
overflow_mul-result g c =
    let placed = is_placed _ _ _ (c.self.view_is ∙ c.requires.stands) (length-now (g.F.Flash.device c.args.nv.now) ∙ c.requires.size) in
    omega (arith, placed.used)

pub overflow_add-result : goal.overflow_add-result
overflow_add-result g c =
    let placed = is_placed _ _ _ (c.self.view_is ∙ c.requires.stands) (length-now (g.F.Flash.device c.args.nv.now) ∙ c.requires.size) in
    omega (arith, placed.used, placed.page, placed.inside)

pub returns-in_ok-program-in-Some-clause-slot : goal.returns-in_ok-program-in-Some-clause-slot
returns-in_ok-program-in-Some-clause-slot g c = rw (← c.self.view_is, (freeing_switch (the_view c.self.inside) c.in-Some.at c.in-Some.is c.if-self-eq-SLOTS.true).1, c.log_at-start.ensures) refl

pub returns-in_ok-program-in-Some-clause-follows : goal.returns-in_ok-program-in-Some-clause-follows
returns-in_ok-program-in-Some-clause-follows g c =
    rw (← c.self.view_is, (freeing_switch (the_view c.self.inside) c.in-Some.at c.in-Some.is c.if-self-eq-SLOTS.true).0, ← c.log_at-start.ensures)
    (Follows-step _ _ _ _ _ _ _ _ c.erase.ensures c.in_ok-erase-in-Some.was (Follows-step _ _ _ _ _ _ _ _ c.program.ensures c.in_ok-program-in-Some.was (Follows-none _ _)))

-- no slot has to be freed
blank_slot : (g : given.Over) (c : goal.In_default g) → (c.self.inside.unspent ≡ None) ⊎ (c.self.inside.used ≢ 64)
blank_slot g c = elim c.in_default.branch [ in_default-via-in-Some+else-self-eq-SLOTS w ↦ inr w.if-self-eq-SLOTS.false | in_default-via-in_default w ↦ inl w.in_default.is ]

pub returns-in_default-clause-slot : goal.returns-in_default-clause-slot
returns-in_default-clause-slot g c = rw (← c.self.view_is) (sym (freeing_none (the_view c.self.inside) (blank_slot g c)).1)

pub returns-in_default-clause-follows : goal.returns-in_default-clause-follows
returns-in_default-clause-follows g c = rw (← c.self.view_is, (freeing_none (the_view c.self.inside) (blank_slot g c)).0) (Follows-none _ _)
