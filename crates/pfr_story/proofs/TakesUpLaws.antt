-- Each bank that is held in a power-on takes its open job up where it can be resumed, and gives it up where it can't.
use Rattle.std.proofs.Common.{◌≡◌, ◌∙◌, refl, sym, ap, subst, ℕ, List, [], ◌∷◌, ◌++◌, length, ◌⊎◌, inl, inr}
use Rattle.pfr_flash.specs.FlashState.{size_of}
use Rattle.pfr_flash.specs.Layout.{IsBankSize}
use Rattle.pfr_flash.specs.declared.flash.FlashFail.{FlashFail}
use Rattle.pfr_flash.specs.declared.flash.FlashFail.TheVariants.{Fault, Lost as Loses}
use Rattle.pfr_flash.specs.declared.names.Bank.{Bank}
use Rattle.pfr_flash.specs.declared.names.Bank.TheVariants as bank
use Rattle.pfr_flash.specs.declared.names.Counts.{Counts}
use Rattle.pfr_flash.specs.declared.names.Device.{Device}
use Rattle.pfr_flash.specs.declared.names.Device.TheVariants as device
use Rattle.pfr_engine.specs.Acceptance.{Acceptance}
use Rattle.pfr_fuses.specs.FusesOf.{fuses_of}
use Rattle.pfr_capsule.specs.CapsuleState.{CapsuleState}
use Rattle.pfr_jobs.specs.declared.job.JobKind.{JobKind}
use Rattle.pfr_jobs.specs.declared.job.JobKind.TheVariants.{RecoveryFromStaging}
use Rattle.pfr_script.specs.declared.event.Event.TheVariants as event
use Rattle.pfr_report.specs.Texts.{IsNoted}
use Rattle.pfr_report.specs.declared.note.Note.{Note}
use Rattle.pfr_report.specs.declared.note.What.{What}
use Rattle.pfr_report.specs.declared.note.What.TheVariants as what
use Rattle.pfr_story.specs.Bringing.{IsCalm, IsNotedBehind}
use Rattle.pfr_story.specs.Causes.{IsResumable, IsGivenUp}
use Rattle.pfr_story.specs.Course.{Crosses, Faults, LosesPower, Steps, lost}
use Rattle.pfr_story.specs.Goes.{Stopped}
use Rattle.pfr_story.specs.JobPromises.{done_note}
use Rattle.pfr_story.specs.Plans.{mine, store, brought_up, migrated, migration_in}
use Rattle.pfr_story.specs.Promises.{AtCounts}
use Rattle.pfr_story.specs.Story.{Story, Move, Says, after, noted, past_at, FailedAt, asking, unbegun, torn, IsCut, device_of}
use Rattle.pfr_story.specs.Turn.{fault_of, bank_stretch, unreadable, fuse_stretch, begun, Turn}
use Rattle.pfr_story.specs.World.{World, story_of, counts_in, state_at, AllMoved, added}
use Rattle.pfr_story.proofs.BringLaws.{Front, Crossed, migrated_apart, crossed_writes, faulted_writes, lost_writes, last_writes, crossed_two, faulted_two, migrated_two, bmc_faulted, bmc_lost, pch_faulted, pch_lost, can as can_crossed, by_held as by_crossed, held_then as held_crossed, stands_behind, whole_is, own_is, power_crossed}
use Rattle.pfr_story.proofs.Bytes.{HaveBytes, images_then, mine_sized, bank_sized}
use Rattle.pfr_story.proofs.Courses.{Steps-moved}
use Rattle.pfr_story.proofs.Endings.{Ending, faulted_ends, lost_ends}
use Rattle.pfr_story.proofs.Fronts.{WentOn, crossed_on, faulted_on, lost_on, others_same}
use Rattle.pfr_story.proofs.Made.{said, said_append, notes_after, noted_first, Whichever, AllSay, Wrote, wrote_then, wrote_by, wrote_cut, never_noted, noted_left, behind_within, added_is, only_between}
use Rattle.pfr_story.proofs.NoteLaws.{at_moment}
use Rattle.pfr_story.proofs.OtherStands.{IsThereBy, there_left}
use Rattle.pfr_story.proofs.SafetyLaws.{image_noted, AllMake-called}
use Rattle.pfr_story.proofs.StoreLeft.{IsLeft, brought_leaves, left_cut, left_whole}
use Rattle.pfr_story.proofs.TailLaws.{IsOf, Apart, behind}
use Rattle.pfr_story.proofs.TakenLaws.{IsOfJob, CanTake, taken, checked_at, said_parts, taken_of}
use Rattle.pfr_story.proofs.TakenNotes.{behind_of, resumed_caused, abandoned_caused, resumed_done, given_up_noted}
use Rattle.pfr_story.proofs.Traces.{noted_append, Precedes, precedes_moved}
use Rattle.pfr_story.proofs.Turns.{Turn-moved}
use Rattle.pfr_story.proofs.TwoLaws.{IsTwo}
use Rattle.pfr_story.proofs.WorldLaws.{AllMoved-trans}

-- ---- the notes of moves that were cut short
none_last : (which : Device) (here : Story) (next : Move) (last : List Move) → FailedAt which here next last → (that : What) → ¬ IsNoted (said last here) that
none_last which here _ _ asking that n = n
none_last which here _ _ (unbegun op) that n = n
none_last which here _ _ (torn op done t) that n = n

-- are among those of the whole
pub cut_said : (which : Device) (moves trace : List Move) (story : Story) → IsCut which moves story trace → (that : What) → IsNoted (said trace story) that → IsNoted (said moves story) that
cut_said which moves trace story c that n =
    let here : Story = after c.front story in
    let is : said trace story ≡ said c.front story ++ said c.last here = ap (λ (all : List Move). said all story) c.is ∙ said_append c.front c.last story in
    elim (noted_append (said c.front story) (said c.last here) that (subst (λ (notes : List Note). IsNoted notes that) is n)) [
      | inl m ↦ subst (λ (all : List Move). IsNoted (said all story) that) (sym c.plan) (noted_first c.front (c.next ∷ c.rest) story that m)
      | inr m ↦ absurd (none_last which here c.next c.last c.failed that m)
    ]

-- a note at a call that failed
abbrev pub IsEnd : What → Type 0
IsEnd (what.Locked b cause at) = Unit {0}
IsEnd (what.Lost d at) = Unit {0}
IsEnd that = ⊥

-- nothing of this bank's jobs
abbrev pub IsUnjobbed : Bank → What → Type 0
IsUnjobbed which that = IsOf which that → ¬ IsOfJob that

module _ (accepts : Acceptance) (first new : World) where
  -- what bringing the bank up notes from this world, or what is noted at a call that failed
  abbrev pub IsOwnNote : Bank → World → What → Type 0
  IsOwnNote b w that = IsNoted (said (brought_up accepts b (story_of w)) (story_of w)) that ⊎ IsEnd that

  -- a bank's part was begun, and nothing is noted of it elsewhere
  pub record Begun (which : Bank) : Type 0 where
    pub at : World
    pub end : World
    pub ended : Ending which (Unit {0}) (brought_up accepts which (story_of at)) (story_of at) (story_of end)
    -- the other bank's part, if one is behind it, leaves the bank, and the capsule in its recovery area
    pub same : past_at (device_of which) (story_of new) ≡ past_at (device_of which) (story_of end)
    pub left : (image : List ℕ) (capsule : CapsuleState) → IsThereBy accepts which image capsule (store (story_of end)) → IsThereBy accepts which image capsule (store (story_of new))
    pub own : Wrote (IsOwnNote which at) at end
    pub before : Wrote (Apart which) first at
    pub behind : Wrote (Apart which) end new
    pub moved : AllMoved at new
    pub two : IsTwo (story_of at)
    pub went : WentOn accepts which (¬ IsCalm which (added first new)) at new

  -- ---- how it ends
  module _ (b : Bank) (old : World) where
    abbrev moves : List Move
    moves = brought_up accepts b (story_of old)

    crossed_own : (mid : World) → Crosses (bank_stretch accepts b) old mid → Wrote (IsOwnNote b old) old mid
    crossed_own mid c = record { more = said moves (story_of old); is = ap (λ (s : Story). s.notes) c.is ∙ notes_after moves (story_of old); all = λ that n. inl n }

    stopped_own : (which : Device) (fail : FlashFail) (at : World) → Stopped (brought_up accepts b (story_of old)) which fail old at → Wrote (IsOwnNote b old) old at
    stopped_own which fail at s = record {
      more = said s.trace (story_of old);
      is = ap (λ (t : Story). t.notes) s.is ∙ notes_after s.trace (story_of old);
      all = λ that n. inl (cut_said which moves s.trace (story_of old) s.cut that n);
    }

    faulted_own : (mid : World) → Faults (bank_stretch accepts b) old mid → Wrote (IsOwnNote b old) old mid
    faulted_own mid f =
        wrote_then (IsOwnNote b old) old f.at mid (stopped_own f.which Fault f.at f.stopped)
        (wrote_by (IsOwnNote b old) (Says (what.Locked b (fault_of f.which)) ∷ []) f.at mid f.noted.is ((λ at. inr tt), tt))

    lost_own : (mid : World) → LosesPower (bank_stretch accepts b) old mid → Wrote (IsOwnNote b old) old mid
    lost_own mid l =
        wrote_then (IsOwnNote b old) old l.at mid (stopped_own l.which Loses l.at l.stopped)
        (wrote_by (IsOwnNote b old) (lost l.which) l.at mid l.noted.is ((λ at. inr tt), tt))

  -- ---- where it is begun
  nothing_more : (which : Bank) → Wrote (Apart which) new new
  nothing_more which = wrote_by (Apart which) [] new new refl tt

  steps_left : (c : Bank) (I : List ℕ → Type 0) (left : IsLeft I c) (mid : World) → length (store (story_of mid)) ≡ 32768 → Steps (bank_stretch accepts c ∷ []) mid new → I (store (story_of mid)) → I (store (story_of new))
  steps_left c I left mid size (inl (end, k, ends)) i =
      subst (λ (s : Story). I (store s)) (sym (ends.is ∙ k.is))
      (left_whole accepts I c left (brought_up accepts c (story_of mid)) (story_of mid) (brought_leaves accepts I c left (story_of mid) size) (size, i))
  steps_left c I left mid size (inr (inl (end, f, ends))) i =
      let made = left_cut accepts I c left f.which (brought_up accepts c (story_of mid)) f.stopped.trace (story_of mid) (brought_leaves accepts I c left (story_of mid) size) f.stopped.cut (size, i) in
      let there : I (store (story_of f.at)) = subst (λ (s : Story). I (store s)) (sym f.stopped.is) made in
      subst (λ (s : Story). I (store s)) (sym (ends.is ∙ f.noted.is)) there
  steps_left c I left mid size (inr (inr l)) i =
      let made = left_cut accepts I c left l.which (brought_up accepts c (story_of mid)) l.stopped.trace (story_of mid) (brought_leaves accepts I c left (story_of mid) size) l.stopped.cut (size, i) in
      let there : I (store (story_of l.at)) = subst (λ (s : Story). I (store s)) (sym l.stopped.is) made in
      subst (λ (s : Story). I (store s)) (sym l.noted.is) there

  bmc_begun : (w : World) → Front accepts first new w → Steps (bank_stretch accepts bank.Bmc ∷ bank_stretch accepts bank.Pch ∷ []) w new → Begun bank.Bmc
  bmc_begun w front (inl (mid, c, rest)) = record {
    at = w;
    end = mid;
    ended = inl c.is;
    same = others_same accepts bank.Bmc new bank.Pch (λ e. cc) mid rest;
    left = λ image capsule i. steps_left bank.Pch (IsThereBy accepts bank.Bmc image capsule) (there_left accepts bank.Bmc bank.Pch (λ e. cc) image capsule) mid (crossed_two accepts first new bank.Bmc w mid front.two c).size rest i;
    own = crossed_own bank.Bmc w mid c;
    before = front.apart bank.Bmc;
    behind = last_writes accepts first new bank.Pch bank.Bmc (λ e. cc) mid (crossed_two accepts first new bank.Bmc w mid front.two c) rest;
    moved = AllMoved-trans w mid new c.moved (Steps-moved (bank_stretch accepts bank.Pch ∷ []) mid new rest);
    two = front.two;
    went = crossed_on accepts bank.Bmc new (¬ IsCalm bank.Bmc (added first new)) w mid (others_same accepts bank.Bmc new bank.Pch (λ e. cc) mid rest) c;
  }
  bmc_begun w front (inr (inl (mid, f, rest))) = record {
    at = w;
    end = mid;
    ended = faulted_ends (bank_stretch accepts bank.Bmc) bank.Bmc (Unit {0}) (λ d. refl) w mid f;
    same = others_same accepts bank.Bmc new bank.Pch (λ e. cc) mid rest;
    left = λ image capsule i. steps_left bank.Pch (IsThereBy accepts bank.Bmc image capsule) (there_left accepts bank.Bmc bank.Pch (λ e. cc) image capsule) mid (faulted_two accepts first new bank.Bmc w mid front.two f).size rest i;
    own = faulted_own bank.Bmc w mid f;
    before = front.apart bank.Bmc;
    behind = last_writes accepts first new bank.Pch bank.Bmc (λ e. cc) mid (faulted_two accepts first new bank.Bmc w mid front.two f) rest;
    moved = AllMoved-trans w mid new (AllMoved-trans w f.at mid f.stopped.moved f.noted.moved) (Steps-moved (bank_stretch accepts bank.Pch ∷ []) mid new rest);
    two = front.two;
    went = faulted_on accepts bank.Bmc new (¬ IsCalm bank.Bmc (added first new)) (bmc_faulted accepts first new w mid front f rest) w mid (others_same accepts bank.Bmc new bank.Pch (λ e. cc) mid rest) f;
  }
  bmc_begun w front (inr (inr l)) = record {
    at = w;
    end = new;
    ended = lost_ends (bank_stretch accepts bank.Bmc) bank.Bmc (Unit {0}) (λ d. refl) w tt new l;
    same = refl;
    left = λ image capsule i. i;
    own = lost_own bank.Bmc w new l;
    before = front.apart bank.Bmc;
    behind = nothing_more bank.Bmc;
    moved = AllMoved-trans w l.at new l.stopped.moved l.noted.moved;
    two = front.two;
    went = lost_on accepts bank.Bmc new (¬ IsCalm bank.Bmc (added first new)) (bmc_lost accepts first new w front l) w l;
  }

  last_begun : (w : World) → Wrote (Apart bank.Pch) first w → IsTwo (story_of w) → Steps (bank_stretch accepts bank.Pch ∷ []) w new → Begun bank.Pch
  last_begun w front two (inl (mid, c, ends)) = record {
    at = w;
    end = mid;
    ended = inl c.is;
    same = ap (λ (s : Story). past_at device.Pch s) ends.is;
    left = λ image capsule i. subst (λ (s : Story). IsThereBy accepts bank.Pch image capsule (store s)) (sym ends.is) i;
    own = crossed_own bank.Pch w mid c;
    before = front;
    behind = wrote_by (Apart bank.Pch) [] mid new ends.is tt;
    moved = AllMoved-trans w mid new c.moved ends.moved;
    two = two;
    went = crossed_on accepts bank.Pch new (¬ IsCalm bank.Pch (added first new)) w mid (ap (λ (s : Story). s.pch) ends.is) c;
  }
  last_begun w front two (inr (inl (mid, f, ends))) = record {
    at = w;
    end = mid;
    ended = faulted_ends (bank_stretch accepts bank.Pch) bank.Pch (Unit {0}) (λ d. refl) w mid f;
    same = ap (λ (s : Story). past_at device.Pch s) ends.is;
    left = λ image capsule i. subst (λ (s : Story). IsThereBy accepts bank.Pch image capsule (store s)) (sym ends.is) i;
    own = faulted_own bank.Pch w mid f;
    before = front;
    behind = wrote_by (Apart bank.Pch) [] mid new ends.is tt;
    moved = AllMoved-trans w mid new (AllMoved-trans w f.at mid f.stopped.moved f.noted.moved) ends.moved;
    two = two;
    went = faulted_on accepts bank.Pch new (¬ IsCalm bank.Pch (added first new)) (pch_faulted accepts first new w mid front f ends) w mid (ap (λ (s : Story). s.pch) ends.is) f;
  }
  last_begun w front two (inr (inr l)) = record {
    at = w;
    end = new;
    ended = lost_ends (bank_stretch accepts bank.Pch) bank.Pch (Unit {0}) (λ d. refl) w tt new l;
    same = refl;
    left = λ image capsule i. i;
    own = lost_own bank.Pch w new l;
    before = front;
    behind = nothing_more bank.Pch;
    moved = AllMoved-trans w l.at new l.stopped.moved l.noted.moved;
    two = two;
    went = lost_on accepts bank.Pch new (¬ IsCalm bank.Pch (added first new)) (pch_lost accepts first new w front l) w l;
  }

  -- or it isn't, and nothing is noted of its jobs
  abbrev pub IsReached : Bank → Type 0
  IsReached which = Begun which ⊎ Wrote (IsUnjobbed which) first new

  unjobbed : (which : Bank) (a b : World) → Wrote (Apart which) a b → Wrote (IsUnjobbed which) a b
  unjobbed which a b w = record { more = w.more; is = w.is; all = λ that n of. absurd (w.all that n of) }

  pch_begun : (w : World) → Front accepts first new w → Steps (bank_stretch accepts bank.Bmc ∷ bank_stretch accepts bank.Pch ∷ []) w new → IsReached bank.Pch
  pch_begun w front (inl (mid, c, rest)) =
      inl (last_begun mid (wrote_then (Apart bank.Pch) first w mid (front.apart bank.Pch) (crossed_writes accepts first new bank.Bmc bank.Pch (λ e. cc) w mid front.two c)) (crossed_two accepts first new bank.Bmc w mid front.two c) rest)
  pch_begun w front (inr (inl (mid, f, rest))) =
      inl (last_begun mid (wrote_then (Apart bank.Pch) first w mid (front.apart bank.Pch) (faulted_writes accepts first new bank.Bmc bank.Pch (λ e. cc) w mid front.two f)) (faulted_two accepts first new bank.Bmc w mid front.two f) rest)
  pch_begun w front (inr (inr l)) =
      inr (unjobbed bank.Pch first new (wrote_then (Apart bank.Pch) first w new (front.apart bank.Pch) (lost_writes accepts first new bank.Bmc bank.Pch (λ e. cc) w new front.two l)))

  bank_begun : (which : Bank) (w : World) → Front accepts first new w → Steps (bank_stretch accepts bank.Bmc ∷ bank_stretch accepts bank.Pch ∷ []) w new → IsReached which
  bank_begun bank.Bmc w front rest = inl (bmc_begun w front rest)
  bank_begun bank.Pch w front rest = pch_begun w front rest

  migrated_unjobbed : (which : Bank) (story : Story) → AllSay (IsUnjobbed which) (migrated story)
  migrated_unjobbed which story = (tt, AllMake-called Whichever (λ w. (at : Counts) → IsUnjobbed which (w at)) device.Nv (migration_in (fuses_of (store story))) tt)

  fuses_begun : size_of first.nv ≡ 32768 → (which : Bank) (w : World) → ((b : Bank) → Wrote (Apart b) first w) → AllMoved first w
      → Steps (fuse_stretch ∷ bank_stretch accepts bank.Bmc ∷ bank_stretch accepts bank.Pch ∷ []) w new → IsReached which
  fuses_begun size which w front come (inl (mid, c, rest)) =
      bank_begun which mid (record {
        apart = λ b. wrote_then (Apart b) first w mid (front b) (wrote_by (Apart b) (migrated (story_of w)) w mid c.is (migrated_apart b (story_of w)));
        come = AllMoved-trans first w mid come c.moved;
        two = migrated_two accepts first new size w mid come c;
      }) rest
  fuses_begun size which w front come (inr (inl (mid, f, ends))) =
      let P : What → Type 0 = IsUnjobbed which in
      let to : Wrote P first f.at = wrote_then P first w f.at (unjobbed which first w (front which)) (wrote_cut P (migrated (story_of w)) f.which Fault w f.at f.stopped (migrated_unjobbed which (story_of w))) in
      let locks : Wrote P f.at mid = wrote_by P unreadable f.at mid f.noted.is ((λ at of job. job), ((λ at of job. job), ((λ at of job. job), ((λ at of job. job), tt)))) in
      inr (wrote_then P first mid new (wrote_then P first f.at mid to locks) (wrote_by P [] mid new ends.is tt))
  fuses_begun size which w front come (inr (inr l)) =
      let P : What → Type 0 = IsUnjobbed which in
      let to : Wrote P first l.at = wrote_then P first w l.at (unjobbed which first w (front which)) (wrote_cut P (migrated (story_of w)) l.which Loses w l.at l.stopped (migrated_unjobbed which (story_of w))) in
      inr (wrote_then P first l.at new to (wrote_by P (lost l.which) l.at new l.noted.is ((λ at of job. job), tt)))

  -- ---- what is noted of it
  module _ (have : HaveBytes new) (which : Bank) (bank_size : IsBankSize (size_of (state_at (device_of which) new))) (c : Begun which) where
    abbrev pub held : Story
    held = noted (what.Held which) (story_of c.at)

    precedes : Precedes held (story_of new)
    precedes = let p = precedes_moved c.at new c.moved in record { bmc = p.bmc; pch = p.pch; nv = p.nv }

    pub can : CanTake which held
    can = record {
      two = c.two.two;
      size = subst IsBankSize (sym (ap (λ (xs : List ℕ). length xs) (image_noted (device_of which) (what.Held which) (story_of c.at)) ∙ mine_sized which c.at new c.moved)) bank_size;
      bytes = images_then held new precedes have (device_of which);
      store_size = c.two.size;
    }

    pub own_noted : (that : What) → IsOf which that → ¬ IsEnd that → IsNoted (added first new) that
        → (what.Held which (counts_in c.at) ≡ that) ⊎ IsNoted (said (taken accepts which held) held) that ⊎ IsNoted (behind accepts which (checked_at accepts which held)) that
    own_noted that of other n =
        let work : List Note = said (taken accepts which held) held in
        let check : List Note = behind accepts which (checked_at accepts which held) in
        elim (c.own.all that (only_between (Apart which) (Apart which) first c.at c.end new c.own.more c.before c.own.is c.behind that (λ apart. apart of) (λ apart. apart of) n)) [
          | inl (inl e) ↦ inl e
          | inl (inr m) ↦ inr (noted_append work check that (subst (λ (notes : List Note). IsNoted notes that) (said_parts accepts which held) m))
          | inr e ↦ absurd (other e)
        ]

    pub held_at : (at : Counts) → IsNoted (added first new) (what.Held which at) → at ≡ counts_in c.at
    held_at at n = elim (own_noted (what.Held which at) refl (λ e. e) n) [
      | inl e ↦ cc
      | inr (inl m) ↦ absurd (taken_of accepts which held (what.Held which at) m)
      | inr (inr m) ↦ absurd (behind_of accepts which (checked_at accepts which held) (what.Held which at) m)
    ]

    pub by_held : (P : List ℕ → List ℕ → Type 0) (at : Counts) → IsNoted (added first new) (what.Held which at) → P (mine which held) (store held) → AtCounts P which at new
    by_held P at n h = at_moment P which held at new (held_at at n) precedes h

    pub resumed_at : (at : Counts) → IsNoted (added first new) (what.Held which at) → (kind : JobKind) → IsNoted (added first new) (what.Resumed which kind)
        → AtCounts (λ image nv. IsResumable kind which image nv accepts) which at new
    resumed_at at h kind n = elim (own_noted (what.Resumed which kind) refl (λ e. e) n) [
      | inl e ↦ absurd cc
      | inr (inl m) ↦ by_held (λ image nv. IsResumable kind which image nv accepts) at h (resumed_caused accepts which held can kind m)
      | inr (inr m) ↦ absurd (behind_of accepts which (checked_at accepts which held) (what.Resumed which kind) m)
    ]

    abandoned_at : (at : Counts) → IsNoted (added first new) (what.Held which at) → IsNoted (added first new) (what.Abandoned which) → AtCounts (λ image nv. IsGivenUp which image nv accepts) which at new
    abandoned_at at h n = elim (own_noted (what.Abandoned which) refl (λ e. e) n) [
      | inl e ↦ absurd cc
      | inr (inl m) ↦ by_held (λ image nv. IsGivenUp which image nv accepts) at h (abandoned_caused accepts which held can m)
      | inr (inr m) ↦ absurd (behind_of accepts which (checked_at accepts which held) (what.Abandoned which) m)
    ]

  -- ---- where no call failed
  module _ (have : HaveBytes new) (which : Bank) (c : Crossed accepts first new which) (bank_size : IsBankSize (size_of (state_at (device_of which) new))) where
    abbrev there : Story
    there = noted (what.Held which) (story_of c.at)

    abbrev work : List Note
    work = said (taken accepts which there) there

    abbrev check : List Note
    check = behind accepts which (checked_at accepts which there)

    ready : CanTake which there
    ready = can_crossed accepts first new have which c bank_size

    -- what is noted of the job stands behind Held
    taken_behind : (that : What) → IsNoted (said (taken accepts which there) there) that → IsNotedBehind (what.Held which (counts_in c.at)) that (added first new)
    taken_behind that n =
        stands_behind accepts first new have which c bank_size that
        (subst (λ (notes : List Note). IsNoted notes that) (sym (said_parts accepts which there)) (noted_left work check that n))

    -- and in its order
    taken_within : (this that : What) → IsNotedBehind this that (said (taken accepts which there) there) → IsNotedBehind this that (added first new)
    taken_within this that k =
        let whole : List Note = said (brought_up accepts which (story_of c.at)) (story_of c.at) in
        let front : List Note = record { item = (story_of c.at).item; what = what.Held which (counts_in c.at) } ∷ [] in
        let own : IsNotedBehind this that whole =
        subst (λ (notes : List Note). IsNotedBehind this that notes) (sym (whole_is accepts first new have which c bank_size)) (behind_within this that front work check k) in
        subst (λ (notes : List Note). IsNotedBehind this that notes)
        (sym (added_is (Apart which) (Apart which) first c.at c.end new whole c.before (own_is accepts first new have which c bank_size) c.behind))
        (behind_within this that c.before.more whole c.behind.more own)

    from_held : (P : List ℕ → List ℕ → Type 0) (at : Counts) → IsNoted (added first new) (what.Held which at) → P (mine which there) (store there) → AtCounts P which at new
    from_held P at n h = rw (held_crossed accepts first new have which c bank_size at n) (by_crossed accepts first new have which c bank_size P h)

    -- the notes of a job that is done
    abbrev IsTold : JobKind → List ℕ → List ℕ → Type 0
    IsTold kind image nv =
        (r : IsResumable kind which image nv accepts) → (svn : ℕ) × (¬ (kind ≡ RecoveryFromStaging) → svn ≡ r.good.capsule.manifest.svn) × IsNotedBehind (what.Resumed which kind) (done_note which kind svn) (added first new)

    told_held : (kind : JobKind) → IsTold kind (mine which there) (store there)
    told_held kind r =
        let d = resumed_done accepts which kind there r ready in
        (d.told, d.same, taken_within (what.Resumed which kind) (done_note which kind d.told) (record { before = []; item = d.item; behind = d.rest; is = d.is; noted = d.done }))

    resumes_held : (kind : JobKind) → IsResumable kind which (mine which there) (store there) accepts → IsNotedBehind (what.Held which (counts_in c.at)) (what.Resumed which kind) (added first new)
    resumes_held kind r =
        let d = resumed_done accepts which kind there r ready in
        taken_behind (what.Resumed which kind) (subst (λ (notes : List Note). IsNoted notes (what.Resumed which kind)) (sym d.is) (inl refl))

    abandons_held : IsGivenUp which (mine which there) (store there) accepts → IsNotedBehind (what.Held which (counts_in c.at)) (what.Abandoned which) (added first new)
    abandons_held g = taken_behind (what.Abandoned which) (given_up_noted accepts which there ready g)

    -- at the counts of Held
    still_held : (at : Counts) (that : What) → IsNoted (added first new) (what.Held which at) → IsNotedBehind (what.Held which (counts_in c.at)) that (added first new) → IsNotedBehind (what.Held which at) that (added first new)
    still_held at that n k = subst (λ (counts : Counts). IsNotedBehind (what.Held which counts) that (added first new)) (sym (held_crossed accepts first new have which c bank_size at n)) k

    pub resumes_at : (at : Counts) → IsNoted (added first new) (what.Held which at) → (kind : JobKind) → AtCounts (λ image nv. IsResumable kind which image nv accepts) which at new
        → IsNotedBehind (what.Held which at) (what.Resumed which kind) (added first new)
    resumes_at at n kind =
        from_held (λ image nv. IsResumable kind which image nv accepts → IsNotedBehind (what.Held which at) (what.Resumed which kind) (added first new)) at n
        (λ r. still_held at (what.Resumed which kind) n (resumes_held kind r))

    pub abandons_at : (at : Counts) → IsNoted (added first new) (what.Held which at) → AtCounts (λ image nv. IsGivenUp which image nv accepts) which at new
        → IsNotedBehind (what.Held which at) (what.Abandoned which) (added first new)
    abandons_at at n =
        from_held (λ image nv. IsGivenUp which image nv accepts → IsNotedBehind (what.Held which at) (what.Abandoned which) (added first new)) at n (λ g. still_held at (what.Abandoned which) n (abandons_held g))

    pub told_at : (at : Counts) → IsNoted (added first new) (what.Held which at) → (kind : JobKind) → AtCounts (IsTold kind) which at new
    told_at at n kind = from_held (IsTold kind) at n (told_held kind)

module _ (accepts : Acceptance) (old new : World) (size : size_of old.nv ≡ 32768) (t : Turn accepts event.Power old new) (have : HaveBytes new) (bmc : IsBankSize (size_of old.bmc)) (pch : IsBankSize (size_of old.pch)) (which : Bank) where
  abbrev start : World
  start = begun event.Power old

  pub reached : IsReached accepts (begun event.Power old) new which
  reached = let mid : World = t.0 in fuses_begun accepts start new size which mid (λ b. wrote_by (Apart b) (Says (λ _. what.Power) ∷ []) start mid t.1.is ((λ at h. h), tt)) t.1.moved t.2

  pub new_size : IsBankSize (size_of (state_at (device_of which) new))
  new_size = bank_sized which start new (Turn-moved accepts event.Power old new t) (by_bank which)
    where
      by_bank : (b : Bank) → IsBankSize (size_of (state_at (device_of b) (begun event.Power old)))
      by_bank bank.Bmc = bmc
      by_bank bank.Pch = pch

  pub resumed_by : (at : Counts) → IsNoted (added old new) (what.Held which at) → (kind : JobKind) → IsReached accepts (begun event.Power old) new which → IsNoted (added old new) (what.Resumed which kind)
      → AtCounts (λ image nv. IsResumable kind which image nv accepts) which at new
  resumed_by at h kind (inl c) n = resumed_at accepts start new have which new_size c at h kind n
  resumed_by at h kind (inr w) n = absurd (never_noted (IsUnjobbed which) start new w (what.Resumed which kind) n refl tt)

  pub abandoned_by : (at : Counts) → IsNoted (added old new) (what.Held which at) → IsReached accepts (begun event.Power old) new which → IsNoted (added old new) (what.Abandoned which)
      → AtCounts (λ image nv. IsGivenUp which image nv accepts) which at new
  abandoned_by at h (inl c) n = abandoned_at accepts start new have which new_size c at h n
  abandoned_by at h (inr w) n = absurd (never_noted (IsUnjobbed which) start new w (what.Abandoned which) n refl tt)

  pub crossed : IsCalm which (added old new) → Crossed accepts (begun event.Power old) new which
  crossed calm = power_crossed accepts old new size t bmc pch which calm
