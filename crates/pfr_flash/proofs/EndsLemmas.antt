-- Calls that only read and end at the first read that fails.
use Rattle.std.proofs.Common.{◌≡◌, ℕ, ◌≤◌, Bool, true, false, refl, sym, ap, ◌∙◌, subst, arith, inr, Option, Some, None, Ok, Err}
use Rattle.pfr_flash.specs.FlashState.{FlashState, now, raised_by}
use Rattle.pfr_flash.specs.Moved.{Moved, Worked, ReadFaulted, at_read}
use Rattle.pfr_flash.specs.Flash.{Reads, with_taken}
use Rattle.pfr_flash.specs.Reading.{OnlyReads, FailsReading, left_at, EndsAt}
use Rattle.pfr_flash.specs.declared.flash.FlashFail.{FlashFail}
use Rattle.pfr_flash.specs.declared.flash.FlashFail.TheVariants.{Fault, Lost}
use Rattle.pfr_flash.proofs.DoesLemmas.{moved_still, worked_still, worked_same}

pub EndsAt-refl : (d : FlashState) → EndsAt None d d
EndsAt-refl d = record { leaves = refl; can = tt; taken = omega arith }

-- ---- calls in a row
-- where none failed, the next one ends the whole as it ends itself
ends_then : (failed : Option FlashFail) (a b c : FlashState) → EndsAt None a b → EndsAt failed b c → EndsAt failed a c
ends_then None a b c h k = record {
  leaves = k.leaves ∙ ap (λ (d : FlashState). left_at None d c.taken) h.leaves;
  can = tt;
  taken = omega (arith, h.taken, k.taken);
}
ends_then (Some Fault) a b c h k = record {
  leaves = k.leaves ∙ ap (λ (d : FlashState). left_at (Some Fault) d c.taken) h.leaves;
  can = (sym (ap (λ (d : FlashState). d.powered) h.leaves) ∙ k.can.0, sym (ap (λ (d : FlashState). d.read_due) h.leaves) ∙ k.can.1);
  taken = omega (arith, h.taken, k.taken);
}
ends_then (Some Lost) a b c h k = record {
  leaves = k.leaves ∙ ap (λ (d : FlashState). left_at (Some Lost) d c.taken) h.leaves;
  can = sym (ap (λ (d : FlashState). d.powered) h.leaves) ∙ k.can;
  taken = omega (arith, h.taken, k.taken);
}

pub then_ends : {failed : Option FlashFail} {a b c : FlashState} → EndsAt None a b → EndsAt failed b c → EndsAt failed a c
then_ends {failed} {a} {b} {c} h k = ends_then failed a b c h k

-- ---- what follows
-- such calls only read
only_reads : (old : FlashState) (faults taken : ℕ) (read_due : Bool) → Worked old (record old { faults = faults; taken = taken; read_due = read_due })
    → (old.read_due ≡ false → (read_due ≡ false) × (faults ≡ old.faults)) → OnlyReads old (record old { faults = faults; taken = taken; read_due = read_due })
only_reads old faults taken read_due worked calm = record {
  content = refl;
  start = refl;
  ops = refl;
  powered = refl;
  losses = refl;
  arms = refl;
  room = refl;
  cut_due = refl;
  fault_due = refl;
  taken = worked.taken;
  faults = worked.moved.faults;
  calm = calm;
  worked = worked;
}

still_reads : (old : FlashState) (taken : ℕ) → old.taken ≤ taken → OnlyReads old (record old { taken = taken })
still_reads old taken more = only_reads old old.faults taken old.read_due (worked_same old taken more) (λ z. (z, refl))

reads_if : (failed : Option FlashFail) (old new : FlashState) → EndsAt failed old new → OnlyReads old new
reads_if None old new h = subst (λ (d : FlashState). OnlyReads old d) (sym h.leaves) (still_reads old new.taken h.taken)
reads_if (Some Lost) old new h = subst (λ (d : FlashState). OnlyReads old d) (sym h.leaves) (still_reads old new.taken h.taken)
reads_if (Some Fault) old new h =
    let left : FlashState = left_at (Some Fault) old new.taken in
    let faulted : ReadFaulted old left = record { was = h.can.1; is = refl; counted = omega arith } in
    let moved : Moved old left = moved_still old old.powered left.faults new.taken false (omega arith) (inr faulted) (at_read faulted) in
    subst (λ (d : FlashState). OnlyReads old d) (sym h.leaves)
    (only_reads old left.faults new.taken false (worked_still old left.faults new.taken false moved h.taken (λ off. absurd (let on = h.can.0 in cc))) (λ calm. absurd (let due = h.can.1 in cc)))

pub ends_reads : {failed : Option FlashFail} {old new : FlashState} → EndsAt failed old new → OnlyReads old new
ends_reads {failed} {old} {new} h = reads_if failed old new h

-- the content stays
pub ends_content : {failed : Option FlashFail} {old new : FlashState} → EndsAt failed old new → now new ≡ now old
ends_content {failed} {old} {new} h = (reads_if failed old new h).content

-- and they fail as they tell
pub ends_fails : (fail : FlashFail) (old new : FlashState) → EndsAt (Some fail) old new → FailsReading fail old new
ends_fails Fault old new h = record {
  was = h.can.1;
  is = ap (λ (d : FlashState). d.read_due) h.leaves;
  counted = let e : new.faults ≡ raised_by old.faults 1 = ap (λ (d : FlashState). d.faults) h.leaves in omega (arith, e);
}
ends_fails Lost old new h = ap (λ (d : FlashState). d.powered) h.leaves ∙ h.can

-- ---- one read
pub reads_ok : (old new : FlashState) (count : ℕ) → new ≡ with_taken old count → old.powered ≡ true → Reads count old new (Ok tt)
reads_ok old new count is on =
    let ends : EndsAt None old (with_taken old count) = record { leaves = refl; can = tt; taken = omega arith } in
    rw is (record {
      ok = refl;
      off = λ h. cc;
      ops = refl;
      due = λ h. cc;
      failed = λ h. cc;
      fault = λ h. cc;
      lost = (λ h. cc, λ h. cc);
      reads = ends_reads ends;
      cause = tt;
      ends = ends;
    })

pub reads_lost : (old new : FlashState) (count : ℕ) → new ≡ with_taken old count → old.powered ≡ false → Reads count old new (Err Lost)
reads_lost old new count is off =
    let ends : EndsAt (Some Lost) old (with_taken old count) = record { leaves = refl; can = off; taken = omega arith } in
    rw is (record {
      ok = tt;
      off = λ _. refl;
      ops = refl;
      due = λ h. cc;
      failed = λ h. cc;
      fault = λ h. cc;
      lost = (λ _. off, λ _. refl);
      reads = ends_reads ends;
      cause = off;
      ends = ends;
    })

pub reads_fault : (old new : FlashState) (count : ℕ) → new ≡ left_at (Some Fault) old (raised_by old.taken count) → old.powered ≡ true → old.read_due ≡ true
    → Reads count old new (Err Fault)
reads_fault old new count is on due =
    let ends : EndsAt (Some Fault) old (left_at (Some Fault) old (raised_by old.taken count)) = record { leaves = refl; can = (on, due); taken = omega arith } in
    rw is (record {
      ok = tt;
      off = λ h. cc;
      ops = refl;
      due = λ _. due;
      failed = λ _. refl;
      fault = λ _. omega arith;
      lost = (λ h. cc, λ h. cc);
      reads = ends_reads ends;
      cause = ends_fails Fault old _ ends;
      ends = ends;
    })
