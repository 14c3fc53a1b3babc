-- A power-on brings each bank up of which no call failed.
use Rattle.std.proofs.Common.{◌≡◌, ◌∙◌, refl, sym, ap, subst, ℕ, ◌+◌, ◌*◌, ◌/◌, ◌≤◌, List, [], ◌∷◌, ◌++◌, length, Some, ◌⊎◌, inl, inr, Result, Ok}
use Rattle.std.proofs.lemmas.List.{append-nil}
use Rattle.pfr_flash.specs.Bytes.{AreBytes}
use Rattle.pfr_flash.specs.FlashState.{size_of}
use Rattle.pfr_flash.specs.Layout.{IsBankSize, IsValidLayout}
use Rattle.pfr_flash.specs.declared.flash.FlashFail.TheVariants.{Fault, Lost as Loses}
use Rattle.pfr_flash.specs.declared.names.Bank.{Bank}
use Rattle.pfr_flash.specs.declared.names.Bank.TheVariants as bank
use Rattle.pfr_flash.specs.declared.names.Counts.{Counts}
use Rattle.pfr_flash.specs.declared.names.Device.{Device}
use Rattle.pfr_flash.specs.declared.names.Device.TheVariants as device
use Rattle.pfr_flash.proofs.PlayLemmas.{length-play}
use Rattle.pfr_engine.specs.Acceptance.{Acceptance}
use Rattle.pfr_fuses.specs.FusesState.{FusesState}
use Rattle.pfr_fuses.specs.FusesOf.{fuses_of}
use Rattle.pfr_fuses.specs.RootSlot.{layout_of}
use Rattle.pfr_jobs.specs.declared.job.JobKind.TheVariants.{ActiveFromRecovery}
use Rattle.pfr_recoverable.specs.Recoverable.{IsRecoverable}
use Rattle.pfr_recoverable.proofs.StaysLaw.{fuses_one}
use Rattle.pfr_script.specs.declared.event.Event.{Event}
use Rattle.pfr_script.specs.declared.event.Event.TheVariants as event
use Rattle.pfr_report.specs.Texts.{IsNoted}
use Rattle.pfr_report.specs.declared.note.LockWhy.{LockWhy}
use Rattle.pfr_report.specs.declared.note.LockWhy.TheVariants as why
use Rattle.pfr_report.specs.declared.note.Note.{Note}
use Rattle.pfr_report.specs.declared.note.What.{What}
use Rattle.pfr_report.specs.declared.note.What.TheVariants as what
use Rattle.pfr_story.specs.Story.{Story, Move, Says, after, noted, counts_of, device_of}
use Rattle.pfr_story.specs.World.{World, story_of, counts_in, state_at, AllMoved, added}
use Rattle.pfr_story.specs.Course.{Crosses, Ends, Faults, LosesPower, Steps, lost}
use Rattle.pfr_story.specs.Plans.{mine, store, ready_of, by_ready, checked_then, brought_up, migrated, migration_in}
use Rattle.pfr_story.specs.Turn.{fault_of, bank_stretch, unreadable, fuse_stretch, begun, Turn}
use Rattle.pfr_story.specs.Causes.{HasOpenJob}
use Rattle.pfr_story.specs.Promises.{count_at, AtCounts, NotBefore, ReleasesTrusted, LocksHaveCauses}
use Rattle.pfr_story.specs.Bringing.{IsOver, IsCalm, IsNotedBehind, ReleasedSoon, IsWorkedFrom, BringsUp, BringsUpCalm, PowerReleases}
use Rattle.pfr_story.proofs.WorldLaws.{AllMoved-trans}
use Rattle.pfr_story.proofs.SafetyLaws.{image_noted, AllMake-called}
use Rattle.pfr_story.proofs.Courses.{Steps-moved}
use Rattle.pfr_story.proofs.Made.{said, notes_after, Steps-made, Whichever, Wrote, Anything, wrote_then, wrote_by, wrote_cut, wrote_moves, never_noted, noted_left, behind_within, added_is, in_added, only_between}
use Rattle.pfr_story.proofs.Sequence.{after-append}
use Rattle.pfr_story.proofs.Traces.{noted_append, noted_right, Precedes, Precedes-refl, Precedes-after, Precedes-trans, not_before, precedes_moved}
use Rattle.pfr_story.proofs.Bytes.{HaveBytes, images_then, mine_sized, bank_sized}
use Rattle.pfr_story.proofs.NoteLaws.{at_moment, Turn-releases, Turn-locks}
use Rattle.pfr_story.proofs.TailLaws.{IsOf, Apart, NoneOf, brought_apart, behind}
use Rattle.pfr_story.proofs.OwnLaws.{tail_caused}
use Rattle.pfr_story.proofs.CheckLaws.{IsOfCheck, of_check, check_no_job, HasCheck, checks_so}
use Rattle.pfr_story.proofs.TakenLaws.{CanTake, taken, checked_at, can_work, ready_parts, said_parts, checked_closed, checked_worked, checked_same, taken_of, taken_restored}
use Rattle.pfr_story.proofs.TwoLaws.{IsTwo, brought_two, stopped_two}
use Rattle.pfr_story.proofs.BringRules.{ready_is}
use Rattle.pfr_story.proofs.JobPower.{PowerEnds}
use Rattle.pfr_story.proofs.JobReleases.{bring_releases}
use Rattle.pfr_story.proofs.JobWalks.{store_sized}
use Rattle.pfr_story.proofs.SpanSteps.{not_one_then}

bank_forth : (which : Bank) (first second : Counts) → NotBefore first second → count_at which first ≤ count_at which second
bank_forth bank.Bmc first second p = p.bmc
bank_forth bank.Pch first second p = p.pch

-- ---- notes that can't be there where it is calm
fault_noted : (which : Bank) (d : Device) (notes : List Note) (at : Counts) → IsCalm which notes → ¬ IsNoted notes (what.Locked which (fault_of d) at)
fault_noted which device.Bmc notes at calm n = calm.flash at n
fault_noted which device.Pch notes at calm n = calm.flash at n
fault_noted which device.Nv notes at calm n = calm.store at n

not_over : (which : Bank) (notes : List Note) → ((at : Counts) → ¬ IsNoted notes (what.Held bank.Pch at)) → ¬ IsOver which notes
not_over bank.Bmc notes none over = none over.0 over.1
not_over bank.Pch notes none over = over

pub migrated_apart : (which : Bank) (story : Story) → NoneOf which (migrated story)
migrated_apart which story = (tt, AllMake-called Whichever (λ w. (at : Counts) → Apart which (w at)) device.Nv (migration_in (fuses_of (store story))) tt)

module _ (accepts : Acceptance) (first new : World) where
  -- a bank's stretch was crossed, and nothing is noted of it elsewhere
  pub record Crossed (which : Bank) : Type 0 where
    pub at : World
    pub end : World
    pub crosses : Crosses (bank_stretch accepts which) at end
    pub before : Wrote (Apart which) first at
    pub behind : Wrote (Apart which) end new
    pub come : AllMoved first at
    pub moved : AllMoved at new
    pub ended : AllMoved end new
    pub two : IsTwo (story_of at)

  -- what holds where the banks' parts begin: nothing is noted of them yet, and a store that can be read is of profile 2
  pub record Front (w : World) : Type 0 where
    pub apart : (b : Bank) → Wrote (Apart b) first w
    pub come : AllMoved first w
    pub two : IsTwo (story_of w)

  -- ---- what a bank's part notes of the other
  module _ (b which : Bank) (apart : ¬ (b ≡ which)) where
    pub crossed_writes : (old mid : World) → IsTwo (story_of old) → Crosses (bank_stretch accepts b) old mid → Wrote (Apart which) old mid
    crossed_writes old mid two c = wrote_by (Apart which) (brought_up accepts b (story_of old)) old mid c.is (brought_apart accepts which b apart (story_of old) two.size)

    pub faulted_writes : (old mid : World) → IsTwo (story_of old) → Faults (bank_stretch accepts b) old mid → Wrote (Apart which) old mid
    faulted_writes old mid two f =
        wrote_then (Apart which) old f.at mid (wrote_cut (Apart which) (brought_up accepts b (story_of old)) f.which Fault old f.at f.stopped (brought_apart accepts which b apart (story_of old) two.size))
        (wrote_by (Apart which) (Says (what.Locked b (fault_of f.which)) ∷ []) f.at mid f.noted.is ((λ at e. apart e), tt))

    pub lost_writes : (old mid : World) → IsTwo (story_of old) → LosesPower (bank_stretch accepts b) old mid → Wrote (Apart which) old mid
    lost_writes old mid two l =
        wrote_then (Apart which) old l.at mid (wrote_cut (Apart which) (brought_up accepts b (story_of old)) l.which Loses old l.at l.stopped (brought_apart accepts which b apart (story_of old) two.size))
        (wrote_by (Apart which) (lost l.which) l.at mid l.noted.is ((λ at h. h), tt))

    pub last_writes : (old : World) → IsTwo (story_of old) → Steps (bank_stretch accepts b ∷ []) old new → Wrote (Apart which) old new
    last_writes old two (inl (mid, c, ends)) = wrote_then (Apart which) old mid new (crossed_writes old mid two c) (wrote_by (Apart which) [] mid new ends.is tt)
    last_writes old two (inr (inl (mid, f, ends))) = wrote_then (Apart which) old mid new (faulted_writes old mid two f) (wrote_by (Apart which) [] mid new ends.is tt)
    last_writes old two (inr (inr l)) = lost_writes old new two l

  -- ---- a store of profile 2 stays so in a bank's part
  pub crossed_two : (b : Bank) (old mid : World) → IsTwo (story_of old) → Crosses (bank_stretch accepts b) old mid → IsTwo (story_of mid)
  crossed_two b old mid two c = subst IsTwo (sym c.is) (brought_two accepts b (story_of old) two)

  pub faulted_two : (b : Bank) (old mid : World) → IsTwo (story_of old) → Faults (bank_stretch accepts b) old mid → IsTwo (story_of mid)
  faulted_two b old mid two f =
      let there : IsTwo (story_of f.at) = stopped_two accepts b f.which Fault old f.at f.stopped two in
      subst IsTwo (sym f.noted.is) (record { size = there.size; two = there.two })

  -- ---- where a call failed it isn't calm
  faulted : (which : Bank) (old mid : World) → Wrote Anything first old → (f : Faults (bank_stretch accepts which) old mid) → Wrote Anything mid new → ¬ IsCalm which (added first new)
  faulted which old mid front f back calm =
      let story : Story = story_of f.at in
      let note : Note = record { item = story.item; what = what.Locked which (fault_of f.which) (counts_of story) } in
      let to : Wrote Anything first f.at = wrote_then Anything first old f.at front (wrote_moves f.stopped.trace old f.at f.stopped.is) in
      fault_noted which f.which (added first new) (counts_of story) calm
      (in_added Anything Anything first f.at mid new (note ∷ []) to (ap (λ (s : Story). s.notes) f.noted.is) back (what.Locked which (fault_of f.which) (counts_of story)) (inl refl))

  loss_noted : (d : Device) (at : World) → Wrote Anything first at → story_of new ≡ after (lost d) (story_of at) → IsNoted (added first new) (what.Lost (Some d) (counts_in at))
  loss_noted d at front is =
      let note : Note = record { item = (story_of at).item; what = what.Lost (Some d) (counts_in at) } in
      in_added Anything Anything first at new new (note ∷ []) front (ap (λ (s : Story). s.notes) is) (wrote_moves [] new new refl) (what.Lost (Some d) (counts_in at)) (inl refl)

  -- the power is lost in a bank's part though it is calm: the work was over
  over : (b which : Bank) (w : World) → Wrote Anything first w → LosesPower (bank_stretch accepts b) w new → IsCalm which (added first new) → IsOver which (added first new)
  over b which w front l calm =
      let to : Wrote Anything first l.at = wrote_then Anything first w l.at front (wrote_moves l.stopped.trace w l.at l.stopped.is) in
      calm.on (Some l.which) (counts_in l.at) (loss_noted l.which l.at to l.noted.is)

  any : (P : What → Type 0) (a b : World) → Wrote P a b → Wrote Anything a b
  any P a b w = record { more = w.more; is = w.is; all = λ that n. tt }

  none_held : Wrote (Apart bank.Pch) first new → (at : Counts) → ¬ IsNoted (added first new) (what.Held bank.Pch at)
  none_held w at n = never_noted (Apart bank.Pch) first new w (what.Held bank.Pch at) n refl

  -- the fuses can't be read
  unread : (which : Bank) (at mid : World) → Wrote Anything first at → story_of mid ≡ after unreadable (story_of at) → Wrote Anything mid new → ¬ IsCalm which (added first new)
  unread which at mid front is back calm =
      let story : Story = story_of at in
      calm.store (counts_of story)
      (in_added Anything Anything first at mid new (said unreadable story) front (ap (λ (s : Story). s.notes) is ∙ notes_after unreadable story) back (what.Locked which why.StoreFault (counts_of story)) (locked which))
    where
      locked : (b : Bank) → IsNoted (said unreadable (story_of at)) (what.Locked b why.StoreFault (counts_of (story_of at)))
      locked bank.Bmc = inr (inl refl)
      locked bank.Pch = inr (inr (inr (inl refl)))

  -- ---- the banks' parts
  pub bmc_faulted : (w mid : World) → Front w → Faults (bank_stretch accepts bank.Bmc) w mid → Steps (bank_stretch accepts bank.Pch ∷ []) mid new → ¬ IsCalm bank.Bmc (added first new)
  bmc_faulted w mid front f rest =
      let made = Steps-made (bank_stretch accepts bank.Pch ∷ []) mid new rest in
      faulted bank.Bmc w mid (any (Apart bank.Bmc) first w (front.apart bank.Bmc)) f (wrote_moves made.trace mid new made.is)

  pub bmc_lost : (w : World) → Front w → LosesPower (bank_stretch accepts bank.Bmc) w new → ¬ IsCalm bank.Bmc (added first new)
  bmc_lost w front l calm =
      let whole : Wrote (Apart bank.Pch) first new = wrote_then (Apart bank.Pch) first w new (front.apart bank.Pch) (lost_writes bank.Bmc bank.Pch (λ e. cc) w new front.two l) in
      not_over bank.Bmc (added first new) (none_held whole) (over bank.Bmc bank.Bmc w (any (Apart bank.Bmc) first w (front.apart bank.Bmc)) l calm)

  pub pch_faulted : (w mid : World) → Wrote (Apart bank.Pch) first w → Faults (bank_stretch accepts bank.Pch) w mid → Ends mid new → ¬ IsCalm bank.Pch (added first new)
  pch_faulted w mid front f ends = faulted bank.Pch w mid (any (Apart bank.Pch) first w front) f (wrote_moves [] mid new ends.is)

  pub pch_lost : (w : World) → Wrote (Apart bank.Pch) first w → LosesPower (bank_stretch accepts bank.Pch) w new → ¬ IsCalm bank.Pch (added first new)
  pch_lost w front l calm = over bank.Pch bank.Pch w (any (Apart bank.Pch) first w front) l calm

  bmc_crossed : (w : World) → Front w → Steps (bank_stretch accepts bank.Bmc ∷ bank_stretch accepts bank.Pch ∷ []) w new → IsCalm bank.Bmc (added first new) → Crossed bank.Bmc
  bmc_crossed w front (inl (end, c, rest)) calm =
      let ended : AllMoved end new = Steps-moved (bank_stretch accepts bank.Pch ∷ []) end new rest in
      record {
        at = w;
        end = end;
        crosses = c;
        before = front.apart bank.Bmc;
        behind = last_writes bank.Pch bank.Bmc (λ e. cc) end (crossed_two bank.Bmc w end front.two c) rest;
        come = front.come;
        moved = AllMoved-trans w end new c.moved ended;
        ended = ended;
        two = front.two;
      }
  bmc_crossed w front (inr (inl (end, f, rest))) calm = absurd (bmc_faulted w end front f rest calm)
  bmc_crossed w front (inr (inr l)) calm = absurd (bmc_lost w front l calm)

  pch_last : (w : World) → Wrote (Apart bank.Pch) first w → AllMoved first w → IsTwo (story_of w) → Steps (bank_stretch accepts bank.Pch ∷ []) w new → IsCalm bank.Pch (added first new) → Crossed bank.Pch
  pch_last w front come two (inl (end, c, ends)) calm = record {
    at = w;
    end = end;
    crosses = c;
    before = front;
    behind = wrote_by (Apart bank.Pch) [] end new ends.is tt;
    come = come;
    moved = AllMoved-trans w end new c.moved ends.moved;
    ended = ends.moved;
    two = two;
  }
  pch_last w front come two (inr (inl (end, f, ends))) calm = absurd (pch_faulted w end front f ends calm)
  pch_last w front come two (inr (inr l)) calm = absurd (pch_lost w front l calm)

  pch_crossed : (w : World) → Front w → Steps (bank_stretch accepts bank.Bmc ∷ bank_stretch accepts bank.Pch ∷ []) w new → IsCalm bank.Pch (added first new) → Crossed bank.Pch
  pch_crossed w front (inl (mid, c, rest)) calm =
      pch_last mid (wrote_then (Apart bank.Pch) first w mid (front.apart bank.Pch) (crossed_writes bank.Bmc bank.Pch (λ e. cc) w mid front.two c)) (AllMoved-trans first w mid front.come c.moved)
      (crossed_two bank.Bmc w mid front.two c) rest calm
  pch_crossed w front (inr (inl (mid, f, rest))) calm =
      pch_last mid (wrote_then (Apart bank.Pch) first w mid (front.apart bank.Pch) (faulted_writes bank.Bmc bank.Pch (λ e. cc) w mid front.two f))
      (AllMoved-trans first w mid front.come (AllMoved-trans w f.at mid f.stopped.moved f.noted.moved)) (faulted_two bank.Bmc w mid front.two f) rest calm
  pch_crossed w front (inr (inr l)) calm = absurd (over bank.Bmc bank.Pch w (any (Apart bank.Bmc) first w (front.apart bank.Bmc)) l calm)

  bank_crossed : (which : Bank) (w : World) → Front w → Steps (bank_stretch accepts bank.Bmc ∷ bank_stretch accepts bank.Pch ∷ []) w new → IsCalm which (added first new) → Crossed which
  bank_crossed bank.Bmc w front rest calm = bmc_crossed w front rest calm
  bank_crossed bank.Pch w front rest calm = pch_crossed w front rest calm

  -- ---- a calm bank's part was crossed
  module _ (size : size_of first.nv ≡ 32768) where
    pub store_size : (w : World) → AllMoved first w → length w.nv.start ≡ 32768
    store_size w come = ap (λ (bytes : List ℕ). length bytes) come.nv.start ∙ size

    -- the migration leads to where they begin
    pub migrated_two : (w mid : World) → AllMoved first w → Crosses fuse_stretch w mid → IsTwo (story_of mid)
    migrated_two w mid come c =
        let moves : List Move = migrated (story_of w) in
        subst IsTwo (sym c.is) (record {
          size = store_sized moves (story_of w) ∙ length-play w.nv.start w.nv.ops ∙ store_size w come;
          two = not_one_then (story_of w) (store_size w come);
        })

    fuses_crossed : (which : Bank) (w : World) → ((b : Bank) → Wrote (Apart b) first w) → AllMoved first w
        → Steps (fuse_stretch ∷ bank_stretch accepts bank.Bmc ∷ bank_stretch accepts bank.Pch ∷ []) w new → IsCalm which (added first new) → Crossed which
    fuses_crossed which w front come (inl (mid, c, rest)) calm =
        bank_crossed which mid (record {
          apart = λ b. wrote_then (Apart b) first w mid (front b) (wrote_by (Apart b) (migrated (story_of w)) w mid c.is (migrated_apart b (story_of w)));
          come = AllMoved-trans first w mid come c.moved;
          two = migrated_two w mid come c;
        }) rest calm
    fuses_crossed which w front come (inr (inl (mid, f, ends))) calm =
        let to : Wrote Anything first f.at = wrote_then Anything first w f.at (any (Apart which) first w (front which)) (wrote_moves f.stopped.trace w f.at f.stopped.is) in
        absurd (unread which f.at mid to f.noted.is (wrote_moves [] mid new ends.is) calm)
    fuses_crossed which w front come (inr (inr l)) calm =
        let to : Wrote (Apart bank.Pch) first l.at = wrote_then (Apart bank.Pch) first w l.at (front bank.Pch)
        (wrote_cut (Apart bank.Pch) (migrated (story_of w)) l.which Loses w l.at l.stopped (migrated_apart bank.Pch (story_of w))) in
        let whole : Wrote (Apart bank.Pch) first new = wrote_then (Apart bank.Pch) first l.at new to (wrote_by (Apart bank.Pch) (lost l.which) l.at new l.noted.is ((λ at h. h), tt)) in
        absurd (not_over which (added first new) (none_held whole) (calm.on (Some l.which) (counts_in l.at) (loss_noted l.which l.at (any (Apart bank.Pch) first l.at to) l.noted.is)))

  -- where it was noted to be held, and where it was checked
  abbrev held : {which : Bank} → Crossed which → Story
  held {which} c = noted (what.Held which) (story_of c.at)

  abbrev checked : {which : Bank} → Crossed which → Story
  checked {which} c = checked_at accepts which (held c)

  abbrev from : {which : Bank} → Crossed which → Counts
  from c = counts_of (checked c)

  -- ---- what is noted of it
  module _ (have : HaveBytes new) (which : Bank) (c : Crossed which) (bank_size : IsBankSize (size_of (state_at (device_of which) new))) where
    precedes : Precedes (held c) (story_of new)
    precedes = let p = precedes_moved c.at new c.moved in record { bmc = p.bmc; pch = p.pch; nv = p.nv }

    bytes : AreBytes (mine which (held c))
    bytes = images_then (held c) new precedes have (device_of which)

    -- its size is that of its device
    sized : length (mine which (held c)) ≡ size_of (state_at (device_of which) new)
    sized = ap (λ (xs : List ℕ). length xs) (image_noted (device_of which) (what.Held which) (story_of c.at)) ∙ mine_sized which c.at new c.moved

    pub can : CanTake which (held c)
    can = record { two = c.two.two; size = subst IsBankSize (sym sized) bank_size; bytes = bytes; store_size = c.two.size }

    -- ---- the moment of the check
    ends_so : story_of c.end ≡ after (checked_then accepts which (checked c)) (checked c)
    ends_so =
        c.crosses.is ∙ ap (λ (moves : List Move). after moves (held c)) (ready_parts accepts which (held c))
        ∙ after-append (taken accepts which (held c)) (checked_then accepts which (checked c)) (held c)

    then_precedes : Precedes (checked c) (story_of new)
    then_precedes =
        Precedes-trans (checked c) (story_of c.end) (story_of new)
        (subst (λ (there : Story). Precedes (checked c) there) (sym ends_so) (Precedes-after (checked c) (checked c) (checked_then accepts which (checked c)) (Precedes-refl (checked c))))
        (precedes_moved c.end new c.ended)

    then_bytes : AreBytes (mine which (checked c))
    then_bytes = images_then (checked c) new then_precedes have (device_of which)

    forth : NotBefore (counts_in c.at) (from c)
    forth = not_before (held c) (checked c) (Precedes-after (held c) (held c) (taken accepts which (held c)) (Precedes-refl (held c)))

    -- what follows from the contents at a moment is so by its counts
    pub by_held : (P : List ℕ → List ℕ → Type 0) → P (mine which (held c)) (store (held c)) → AtCounts P which (counts_in c.at) new
    by_held P h = at_moment P which (held c) (counts_in c.at) new refl precedes h

    by_counts : (P : List ℕ → List ℕ → Type 0) → P (mine which (checked c)) (store (checked c)) → AtCounts P which (from c) new
    by_counts P h = at_moment P which (checked c) (from c) new refl then_precedes h

    -- ---- its notes
    abbrev work : List Note
    work = said (taken accepts which (held c)) (held c)

    abbrev whole : List Note
    whole = said (brought_up accepts which (story_of c.at)) (story_of c.at)

    abbrev note : Note
    note = record { item = (story_of c.at).item; what = what.Held which (counts_in c.at) }

    pub whole_is : said (brought_up accepts which (story_of c.at)) (story_of c.at)
        ≡ record { item = (story_of c.at).item; what = what.Held which (counts_in c.at) } ∷ (said (taken accepts which (held c)) (held c) ++ behind accepts which (checked c))
    whole_is = ap (λ (notes : List Note). note ∷ notes) (said_parts accepts which (held c))

    pub own_is : c.end.notes.list ≡ c.at.notes.list ++ said (brought_up accepts which (story_of c.at)) (story_of c.at)
    own_is = ap (λ (s : Story). s.notes) c.crosses.is ∙ notes_after (brought_up accepts which (story_of c.at)) (story_of c.at)

    put : (that : What) → IsNoted (said (brought_up accepts which (story_of c.at)) (story_of c.at)) that → IsNoted (added first new) that
    put that n = in_added (Apart which) (Apart which) first c.at c.end new whole c.before own_is c.behind that n

    put_work : (that : What) → IsNoted (said (taken accepts which (held c)) (held c)) that → IsNoted (added first new) that
    put_work that n = put that (subst (λ (notes : List Note). IsNoted notes that) (sym whole_is) (inr (noted_left work (behind accepts which (checked c)) that n)))

    put_check : (that : What) → IsNoted (behind accepts which (checked c)) that → IsNoted (added first new) that
    put_check that n = put that (subst (λ (notes : List Note). IsNoted notes that) (sym whole_is) (inr (noted_right work (behind accepts which (checked c)) that n)))

    -- what is noted of it is that it is held, or of its open job, or stands behind that
    own : (that : What) → IsOf which that → IsNoted (added first new) that
        → (what.Held which (counts_in c.at) ≡ that) ⊎ IsNoted (said (taken accepts which (held c)) (held c)) that ⊎ IsNoted (behind accepts which (checked c)) that
    own that of n =
        let mine : IsNoted whole that = only_between (Apart which) (Apart which) first c.at c.end new whole c.before own_is c.behind that (λ apart. apart of) (λ apart. apart of) n in
        elim (subst (λ (notes : List Note). IsNoted notes that) whole_is mine) [ inl e ↦ inl e | inr m ↦ inr (noted_append work (behind accepts which (checked c)) that m) ]

    -- where it is a note of a check it stands behind that
    own_check : (that : What) → IsOfCheck which that → IsNoted (added first new) that → IsNoted (behind accepts which (checked c)) that
    own_check that of n = elim (own that (of_check which that of) n) [
      | inl e ↦ absurd (subst (IsOfCheck which) (sym e) of)
      | inr (inl m) ↦ absurd (check_no_job which that of (taken_of accepts which (held c) that m))
      | inr (inr m) ↦ m
    ]

    pub held_then : (at : Counts) → IsNoted (added first new) (what.Held which at) → at ≡ counts_in c.at
    held_then at n = elim (own (what.Held which at) refl n) [
      | inl e ↦ cc
      | inr (inl m) ↦ absurd (taken_of accepts which (held c) (what.Held which at) m)
      | inr (inr m) ↦ absurd (tail_caused accepts which (checked c) then_bytes (what.Held which at) m)
    ]

    -- what is noted behind another then is so in the step
    put_behind : (this that : What) → IsNotedBehind this that (behind accepts which (checked c)) → IsNotedBehind this that (added first new)
    put_behind this that k =
        let front : List Note = note ∷ work in
        let there : IsNotedBehind this that (front ++ (behind accepts which (checked c) ++ [])) = behind_within this that front (behind accepts which (checked c)) [] k in
        let mine : IsNotedBehind this that whole = subst (λ (notes : List Note). IsNotedBehind this that notes)
        (ap (λ (notes : List Note). front ++ notes) (append-nil (behind accepts which (checked c))) ∙ sym whole_is) there in
        subst (λ (notes : List Note). IsNotedBehind this that notes) (sym (added_is (Apart which) (Apart which) first c.at c.end new whole c.before own_is c.behind))
        (behind_within this that c.before.more whole c.behind.more mine)

    restored_then : (level : ℕ) → IsNoted (added first new) (what.Restored which level)
        → IsNoted (added first new) (what.Resumed which (ActiveFromRecovery level)) ⊎ IsNoted (behind accepts which (checked c)) (what.Restored which level)
    restored_then level n = elim (own (what.Restored which level) refl n) [
      | inl e ↦ absurd cc
      | inr (inl m) ↦ inl (put_work (what.Resumed which (ActiveFromRecovery level)) (taken_restored accepts which (held c) level m))
      | inr (inr m) ↦ inr m
    ]

    -- the notes of the check
    has_check : HasCheck accepts which (checked c) (added first new)
    has_check = record { put = put_check; put_behind = put_behind; own = own_check; restored = restored_then }

    -- where no job is open it is checked at once
    plain_then : ¬ AtCounts (λ image nv. HasOpenJob which image nv) which (counts_in c.at) new → from c ≡ counts_in c.at
    plain_then none =
        ap (λ (s : Story). counts_of s) (checked_same accepts which (held c) (λ opened. none (by_held (λ image nv. HasOpenJob which image nv) opened)))

    pub brings : IsCalm which (added first new) → ReleasesTrusted accepts first new → LocksHaveCauses accepts first new → BringsUp accepts which new (added first new) (counts_in c.at) (counts_of (checked_at accepts which (held c)))
    brings calm releases locks = record {
      held = put (what.Held which (counts_in c.at)) (inl refl);
      once = held_then;
      forth = forth;
      plain = plain_then;
      worked = by_held (λ image nv. HasOpenJob which image nv → AtCounts (λ then nv_then. IsWorkedFrom accepts which image nv then nv_then) which (from c) new)
          (λ opened. by_counts (λ then nv_then. IsWorkedFrom accepts which (mine which (held c)) (store (held c)) then nv_then) (checked_worked accepts which (held c) can opened));
      done = by_counts (λ image nv. ¬ HasOpenJob which image nv) (checked_closed accepts which (held c) can);
      checks = checks_so accepts first new which (checked c) then_precedes then_bytes has_check calm releases locks;
    }

    -- ---- and it ends released
    -- the note of that stands behind that it is held
    pub stands_behind : (that : What) → IsNoted (said (by_ready accepts which (ready_of which (held c)) (held c)) (held c)) that → IsNotedBehind (what.Held which (counts_in c.at)) that (added first new)
    stands_behind that n =
        let own : List Note = said (by_ready accepts which (ready_of which (held c)) (held c)) (held c) in
        record {
          before = c.before.more;
          item = (story_of c.at).item;
          behind = own ++ c.behind.more;
          is = added_is (Apart which) (Apart which) first c.at c.end new whole c.before own_is c.behind;
          noted = noted_left own c.behind.more that n;
        }

    soon : (moves : List Move) → moves ≡ by_ready accepts which (ready_of which (held c)) (held c) → PowerEnds which moves (held c) → ReleasedSoon which (counts_in c.at) (34 * (size_of (state_at (device_of which) new) / 4096)) (added first new)
    soon moves is r =
        let end : Counts = counts_of (after moves (held c)) in
        let that : What = what.Released which r.released.svn end in
        let last : IsNoted (said moves (held c)) that =
        subst (λ (notes : List Note). IsNoted notes that) (sym r.released.last) (noted_right r.released.before (record { item = r.released.item; what = that } ∷ []) that (inl refl)) in
        record {
          svn = r.released.svn;
          then = end;
          noted = stands_behind that (subst (λ (all : List Move). IsNoted (said all (held c)) that) is last);
          forth = bank_forth which (counts_in c.at) end (not_before (held c) (after moves (held c)) (Precedes-after (held c) (held c) moves (Precedes-refl (held c))));
          few = subst (λ (size : ℕ). count_at which end ≤ count_at which (counts_in c.at) + 34 * (size / 4096)) sized r.few;
        }

    can_end : (fuses : FusesState) → fuses_of (store (held c)) ≡ Ok fuses → IsValidLayout (layout_of fuses.provision which) (length (mine which (held c)))
        → IsRecoverable which (mine which (held c)) (store (held c)) accepts → ReleasedSoon which (counts_in c.at) (34 * (size_of (state_at (device_of which) new) / 4096)) (added first new)
    can_end fuses f l recoverable =
        let ready : ready_of which (held c) ≡ Ok fuses = ready_is which fuses (held c) f l in
        soon (by_ready accepts which (Ok fuses) (held c)) (ap (λ (r : Result FusesState LockWhy). by_ready accepts which r (held c)) (sym ready))
        (bring_releases accepts which fuses (held c) (can_work accepts which fuses (held c) can ready) recoverable)

    good_layout : (fuses other : FusesState) → fuses_of (store (held c)) ≡ Ok fuses → fuses_of (store (held c)) ≡ Ok other → IsValidLayout (layout_of other.provision which) (length (mine which (held c)))
        → IsValidLayout (layout_of fuses.provision which) (length (mine which (held c)))
    good_layout fuses other f g l =
        subst (λ (x : FusesState). IsValidLayout (layout_of x.provision which) (length (mine which (held c)))) (fuses_one (store (held c)) other fuses g f) l

    ends_released : IsRecoverable which (mine which (held c)) (store (held c)) accepts → ReleasedSoon which (counts_in c.at) (34 * (size_of (state_at (device_of which) new) / 4096)) (added first new)
    ends_released (inl good) = can_end good.fuses good.provisioned (good_layout good.fuses good.good.fuses good.provisioned good.good.provisioned good.good.layout) (inl good)
    ends_released (inr opened) = can_end opened.fuses opened.provisioned (good_layout opened.fuses opened.good.fuses opened.provisioned opened.good.provisioned opened.good.layout) (inr opened)

    pub powers : (at : Counts) → IsNoted (added first new) (what.Held which at) → AtCounts (λ image nv. IsRecoverable which image nv accepts) which at new
        → ReleasedSoon which at (34 * (size_of (state_at (device_of which) new) / 4096)) (added first new)
    powers at n = rw (held_then at n) (by_held
        (λ image nv. IsRecoverable which image nv accepts → ReleasedSoon which (counts_in c.at) (34 * (size_of (state_at (device_of which) new) / 4096)) (added first new)) ends_released)

-- ---- a whole step
module _ (accepts : Acceptance) (old new : World) (size : size_of old.nv ≡ 32768) (t : Turn accepts event.Power old new) (bmc : IsBankSize (size_of old.bmc)) (pch : IsBankSize (size_of old.pch)) (which : Bank)
    (calm : IsCalm which (added old new)) where
  abbrev start : World
  start = begun event.Power old

  pub power_crossed : Crossed accepts (begun event.Power old) new which
  power_crossed = let mid : World = t.0 in fuses_crossed accepts start new size which mid (λ b. wrote_by (Apart b) (Says (λ _. what.Power) ∷ []) start mid t.1.is ((λ at h. h), tt)) t.1.moved t.2 calm

  power_sized : IsBankSize (size_of (state_at (device_of which) new))
  power_sized = bank_sized which start new (AllMoved-trans start power_crossed.at new power_crossed.come power_crossed.moved) (by_bank which)
    where
      by_bank : (b : Bank) → IsBankSize (size_of (state_at (device_of b) (begun event.Power old)))
      by_bank bank.Bmc = bmc
      by_bank bank.Pch = pch

-- A power-on brings each bank up of which no call failed.
pub Turn-brings : (accepts : Acceptance) (e : Event) (old new : World) → size_of old.nv ≡ 32768 → Turn accepts e old new → HaveBytes new → IsBankSize (size_of old.bmc) → IsBankSize (size_of old.pch)
    → BringsUpCalm e accepts old new
Turn-brings accepts event.Power old new size t have bmc pch = λ which calm.
    let c = power_crossed accepts old new size t bmc pch which calm in (
      counts_in c.at,
      counts_of (checked_at accepts which (noted (what.Held which) (story_of c.at))),
      brings accepts (begun event.Power old) new have which c (power_sized accepts old new size t bmc pch which calm) calm (Turn-releases accepts event.Power old new size t have) (Turn-locks accepts event.Power old new size t have),
    )
Turn-brings accepts event.Off old new size t have bmc pch = tt
Turn-brings accepts (event.Provision root) old new size t have bmc pch = tt
Turn-brings accepts (event.Spi b frame) old new size t have bmc pch = tt
Turn-brings accepts (event.Smbus b frame) old new size t have bmc pch = tt
Turn-brings accepts (event.Tick n) old new size t have bmc pch = tt
Turn-brings accepts (event.Boot b pass) old new size t have bmc pch = tt
Turn-brings accepts (event.Update b intent) old new size t have bmc pch = tt

-- A bank that can be recovered, whatever job is open, ends a power-on released.
pub Turn-powers : (accepts : Acceptance) (e : Event) (old new : World) → size_of old.nv ≡ 32768 → Turn accepts e old new → HaveBytes new → IsBankSize (size_of old.bmc) → IsBankSize (size_of old.pch)
    → PowerReleases (λ bank image nv. IsRecoverable bank image nv accepts) e old new
Turn-powers accepts event.Power old new size t have bmc pch = λ which at calm held can.
    let c = power_crossed accepts old new size t bmc pch which calm in
    powers accepts (begun event.Power old) new have which c (power_sized accepts old new size t bmc pch which calm) at held can
Turn-powers accepts event.Off old new size t have bmc pch = tt
Turn-powers accepts (event.Provision root) old new size t have bmc pch = tt
Turn-powers accepts (event.Spi b frame) old new size t have bmc pch = tt
Turn-powers accepts (event.Smbus b frame) old new size t have bmc pch = tt
Turn-powers accepts (event.Tick n) old new size t have bmc pch = tt
Turn-powers accepts (event.Boot b pass) old new size t have bmc pch = tt
Turn-powers accepts (event.Update b intent) old new size t have bmc pch = tt
