-- What comes in a step of an expired watch of one bank.
use Rattle.std.proofs.Common.{◌≡◌, ◌∙◌, ◌<◌, ◌≤◌, refl, sym, ap, subst, arith, ℕ, true, false, List, ◌∷◌, ◌++◌, length, ◌⊎◌, inl, inr, Result, Ok, Err}
use Rattle.std.specs.Prelude.{nat_lt}
use Rattle.pfr_flash.specs.Bytes.{AreBytes}
use Rattle.pfr_flash.specs.Layout.{IsBankSize}
use Rattle.pfr_flash.specs.declared.layout.Layout.{Layout}
use Rattle.pfr_flash.specs.declared.names.Bank.{Bank}
use Rattle.pfr_flash.specs.declared.names.Bank.TheVariants as bank
use Rattle.pfr_flash.specs.declared.names.Counts.{Counts}
use Rattle.pfr_engine.specs.Acceptance.{Acceptance}
use Rattle.pfr_fuses.specs.FusesState.{FusesState}
use Rattle.pfr_fuses.specs.RootSlot.{layout_of}
use Rattle.pfr_manifest.specs.declared.manifest.Manifest.{Manifest}
use Rattle.pfr_capsule.specs.CapsuleState.{CapsuleState}
use Rattle.pfr_capsule.specs.declared.fail.CapsuleFail.{CapsuleFail}
use Rattle.pfr_capsule.proofs.GoodLaw.{good_found}
use Rattle.pfr_auth.specs.Trusted.{IsTrusted}
use Rattle.pfr_jobs.specs.LogState.{is_spent}
use Rattle.pfr_jobs.specs.declared.job.JobKind.{JobKind}
use Rattle.pfr_rebuilt.specs.ActiveCopying.{active_rebuilt}
use Rattle.pfr_story.specs.Stopping.{IsOpenOrMade}
use Rattle.pfr_story.proofs.JobCounts.{done_on}
use Rattle.pfr_story.proofs.JobWalks.{store_sized}
use Rattle.pfr_story.proofs.StoppedLaws.{open_or_made}
use Rattle.pfr_jobs.specs.Log.{open_job}
use Rattle.pfr_jobs.specs.declared.job.JobKind.TheVariants.{ActiveFromRecovery}
use Rattle.pfr_jobs.specs.declared.job.OpenJob.TheVariants as job
use Rattle.pfr_recoverable.specs.Recoverable.{HasGoodRecovery}
use Rattle.pfr_recoverable.proofs.StaysLaw.{fuses_one}
use Rattle.pfr_script.specs.declared.event.Event.{Event}
use Rattle.pfr_watch.specs.declared.watch.Watch.{Watch}
use Rattle.pfr_report.specs.Texts.{IsNoted}
use Rattle.pfr_report.specs.declared.note.LockWhy.TheVariants as why
use Rattle.pfr_report.specs.declared.note.Note.{Note}
use Rattle.pfr_report.specs.declared.note.What.{What}
use Rattle.pfr_report.specs.declared.note.What.TheVariants as what
use Rattle.pfr_story.specs.Guards.{guard_at}
use Rattle.pfr_story.specs.Story.{Story, Move, after, counts_of, device_of}
use Rattle.pfr_story.specs.World.{World, story_of, AllMoved, added}
use Rattle.pfr_story.specs.Plans.{mine, store, judged_recovery, restored, level_after, expired_to, expired}
use Rattle.pfr_story.specs.Turn.{begun}
use Rattle.pfr_story.specs.Causes.{HasBadRecovery}
use Rattle.pfr_story.specs.Promises.{AtCounts, IsExpiring}
use Rattle.pfr_story.specs.Bringing.{IsOver, IsCalm, IsNotedBehind}
use Rattle.pfr_story.specs.Making.{IsMadeFrom}
use Rattle.pfr_story.specs.Guarding.{IsReached, IsReleasedAt, ExpiresAt, ExpiresBy}
use Rattle.pfr_story.proofs.WorldLaws.{AllMoved-trans}
use Rattle.pfr_story.proofs.RestoreLaws.{stand_for, found_good}
use Rattle.pfr_story.proofs.BringAllowed.{IsSized}
use Rattle.pfr_story.proofs.BringRules.{IsReady, level_at}
use Rattle.pfr_story.proofs.Traces.{Precedes, precedes_moved, noted_right, KnownBefore}
use Rattle.pfr_story.proofs.Made.{notes_after, Made, added_said, Wrote, never_noted, behind_within, added_is, in_added, only_between}
use Rattle.pfr_story.proofs.Bytes.{HaveBytes, images_then}
use Rattle.pfr_story.proofs.NoteLaws.{at_moment}
use Rattle.pfr_story.proofs.Entry.{trusted_ready}
use Rattle.pfr_story.proofs.Endings.{Ending, ended_trace, ended_is}
use Rattle.pfr_story.proofs.AnewLaws.{IsAnew, made_so}
use Rattle.pfr_story.proofs.JobTrust.{IsTrustedNow}
use Rattle.pfr_story.proofs.ExpiryLaws.{held_from, Expiry, ready_there, mine_there, expiry_noted, expiry_known, spent_noted, locked_noted, restored_noted, made_from, restored_anew, restored_stopped}
use Rattle.pfr_story.proofs.QuietLaws.{IsOf, Elsewhere, Unwatched}

-- ---- levels
below_four : (n : ℕ) → n < 4 → nat_lt n 4 ≡ true
below_four n h = search (arith, h)

spent_four : (watch : Watch) → nat_lt (level_after watch) 4 ≡ false → level_after watch ≡ 4
spent_four watch e = grind (arith, e)

four_spent : (n : ℕ) → n ≡ 4 → nat_lt n 4 ≡ false
four_spent n e = rw e refl

few_below : (n : ℕ) → nat_lt n 4 ≡ true → n < 4
few_below n e = grind (arith, e)

level_low : (watch : Watch) → 1 ≤ level_after watch
level_low watch = grind arith

-- ---- the stretch of a bank whose watch expires
-- nothing before it tells of the bank, or that the PCH is held
abbrev pub Early : Bank → What → Type 0
Early b that = Elsewhere b that × Elsewhere bank.Pch that

-- it is trusted, no job of it is open, and its watch expires to this level
pub record StandsAt (accepts : Acceptance) (b : Bank) (level : ℕ) (story : Story) : Type 0 where
  pub rises : level_at b story ≡ level
  pub trusted : IsTrusted (mine b story) (store story) b accepts
  pub size : IsBankSize (length (mine b story))
  pub sized : IsSized story
  pub idle : open_job (store story) b ≡ job.None

-- the bank holds the same, by which it is as trusted as before, and its log has the same job open
pub record HoldsSame (accepts : Acceptance) (b : Bank) (from to : Story) : Type 0 where
  pub mine : mine b to ≡ mine b from
  pub count : done_on b to ≡ done_on b from
  pub trusts : (m : Manifest) → IsTrustedNow accepts b m from → IsTrustedNow accepts b m to
  pub size : length (store to) ≡ length (store from)
  pub opened : IsSized from → open_job (store to) b ≡ open_job (store from) b

pub holds_refl : (accepts : Acceptance) (b : Bank) (story : Story) → HoldsSame accepts b story story
holds_refl accepts b story = record { mine = refl; count = refl; trusts = λ m t. t; size = refl; opened = λ sized. refl }

pub record Expiring (accepts : Acceptance) (b : Bank) (level : ℕ) (first new : World) : Type 0 where
  pub at : World
  pub end : World
  pub stands : StandsAt accepts b level (story_of at)
  -- where power was lost the PCH isn't held behind it
  pub ending : Ending b (Wrote (Elsewhere bank.Pch) end new) (expired accepts b (story_of at)) (story_of at) (story_of end)
  pub before : Wrote (Early b) first at
  pub behind : Wrote (Elsewhere b) end new
  pub kept : HoldsSame accepts b (story_of end) (story_of new)
  pub moved : AllMoved at end
  pub left : AllMoved end new

made_notes : (old new : World) → Made old new → new.notes.list ≡ old.notes.list ++ added old new
made_notes old new made =
    ap (λ (s : Story). s.notes) made.is ∙ notes_after made.trace (story_of old)
    ∙ ap (λ (more : List Note). old.notes.list ++ more) (sym (added_said old new made))

-- an image that was made anew is one while that holds
anew_kept : (accepts : Acceptance) (b : Bank) (kind : JobKind) (fuses : FusesState) (capsule : CapsuleState) (before : List ℕ) (story later : Story) → HoldsSame accepts b story later
    → IsAnew accepts b kind fuses capsule before story → IsAnew accepts b kind fuses capsule before later
anew_kept accepts b kind fuses capsule before story later same p = record { image = same.mine ∙ p.image; trusted = same.trusts capsule.manifest p.trusted }

-- what stands before another note is noted
this_noted : (this that : What) (notes : List Note) → IsNotedBehind this that notes → IsNoted notes this
this_noted this that notes k =
    subst (λ (all : List Note). IsNoted all this) (sym k.is) (noted_right k.before (record { item = k.item; what = this } ∷ k.behind) this (inl refl))

module _ (accepts : Acceptance) (b : Bank) (level : ℕ) (first new : World) (have : HaveBytes new) (p : Expiring accepts b level first new) where
  abbrev start : Story
  start = story_of p.at

  abbrev held : Story
  held = held_from b level start

  abbrev fuses : FusesState
  fuses = p.stands.trusted.fuses

  abbrev Losing : Type 0
  Losing = Wrote (Elsewhere bank.Pch) p.end new

  abbrev notes : List Note
  notes = added first new

  ready : IsReady b fuses start
  ready = trusted_ready accepts b start p.stands.trusted

  ready_held : IsReady b fuses held
  ready_held = ready_there accepts b level fuses start ready p.stands.sized

  low : 1 ≤ level
  low = subst (λ (n : ℕ). 1 ≤ n) p.stands.rises (level_low (guard_at b start.guards).watch)

  ending : Ending b Losing (expired_to accepts b level start) start (story_of p.end)
  ending = subst (λ (n : ℕ). Ending b Losing (expired_to accepts b n start) start (story_of p.end)) p.stands.rises p.ending

  own_is : p.end.notes.list ≡ p.at.notes.list ++ added p.at p.end
  own_is =
      let moves : List Move = expired_to accepts b level start in
      made_notes p.at p.end (record { trace = ended_trace b Losing moves start (story_of p.end) ending; is = ended_is b Losing moves start (story_of p.end) ending })

  put : (that : What) → IsNoted (added p.at p.end) that → IsNoted notes that
  put that n = in_added (Early b) (Elsewhere b) first p.at p.end new (added p.at p.end) p.before own_is p.behind that n

  put_behind : (this that : What) → IsNotedBehind this that (added p.at p.end) → IsNotedBehind this that notes
  put_behind this that k =
      subst (λ (all : List Note). IsNotedBehind this that all) (sym (added_is (Early b) (Elsewhere b) first p.at p.end new (added p.at p.end) p.before own_is p.behind))
      (behind_within this that p.before.more (added p.at p.end) p.behind.more k)

  own : (that : What) → IsOf b that → IsNoted notes that → IsNoted (added p.at p.end) that
  own that of n = only_between (Early b) (Elsewhere b) first p.at p.end new (added p.at p.end) p.before own_is p.behind that (λ early. early.0 of) (λ elsewhere. elsewhere of) n

  known : (that : What) → IsNoted (added p.at p.end) that → KnownBefore (Expiry accepts b level fuses start) that (story_of p.end)
  known that n = expiry_known accepts b level Losing fuses p.at p.end ready p.stands.sized ending p.moved that n

  expiry_behind : IsNotedBehind (what.Expired b level) (what.Held b (counts_of held)) notes
  expiry_behind = put_behind (what.Expired b level) (what.Held b (counts_of held)) (expiry_noted accepts b level Losing fuses p.at p.end ready p.stands.sized ending)

  expires_so : IsNoted notes (what.Expired b level)
  expires_so = this_noted (what.Expired b level) (what.Held b (counts_of held)) notes expiry_behind

  -- the work on it isn't over where power is lost on the way
  not_over : (c : Bank) → c ≡ b → Losing → ¬ IsOver c notes
  not_over bank.Pch e losing over = over
  not_over bank.Bmc e losing over = absurd
      (let that : What = what.Held bank.Pch over.0 in
      let n = only_between (Early b) (Elsewhere bank.Pch) first p.at p.end new (added p.at p.end) p.before own_is losing that (λ early. early.1 refl) (λ elsewhere. elsewhere refl) over.1 in
      let pch : bank.Pch ≡ b = (known that n).1 in
      let never : bank.Bmc ≡ bank.Pch = e ∙ sym pch in cc)

  -- ---- by what stands in its recovery area where it is held
  came : AllMoved p.at new
  came = AllMoved-trans p.at p.end new p.moved p.left

  bytes : AreBytes (mine b start)
  bytes = images_then start new (precedes_moved p.at new came) have (device_of b)

  precedes : Precedes held (story_of new)
  precedes = let before = precedes_moved p.at new came in record { bmc = before.bmc; pch = before.pch; nv = before.nv }

  abbrev found : Result CapsuleState CapsuleFail
  found = judged_recovery accepts b fuses held

  by_counts : (P : List ℕ → List ℕ → Type 0) → P (mine b held) (store held) → AtCounts P b (counts_of held) new
  by_counts P h = at_moment P b held (counts_of held) new refl precedes h

  found_bad : (cause : CapsuleFail) → HasBadRecovery cause b (mine b held) (store held) accepts → found ≡ Err cause
  found_bad cause h = subst (λ (f : FusesState). judged_recovery accepts b f held ≡ Err cause) (fuses_one (store held) h.fuses fuses h.provisioned ready_held.provisioned) h.judged

  good_found_here : (g : HasGoodRecovery b (mine b held) (store held) accepts) → found ≡ Ok g.good.capsule
  good_found_here g =
      let layout : Layout = layout_of g.fuses.provision b in
      subst (λ (f : FusesState). judged_recovery accepts b f held ≡ Ok g.good.capsule) (fuses_one (store held) g.fuses fuses g.provisioned ready_held.provisioned)
      (good_found (mine b held) (store held) layout.recovery_at layout.area_len b accepts g.fuses (stand_for (store held) g.fuses b g.provisioned) g.good)

  released_so : level < 4 → IsCalm b notes → (g : HasGoodRecovery b (mine b held) (store held) accepts) → IsReleasedAt b level g.good.capsule.manifest.svn notes
  released_so below calm g =
      let capsule : CapsuleState = g.good.capsule in
      let j = good_found_here g in
      let from_here = made_from accepts b level Losing fuses p.at p.end ready p.stands.sized ending p.stands.size bytes capsule j in
      let that : What = what.Released b capsule.manifest.svn (counts_of (after (restored b level fuses capsule held) held)) in
      record {
        then = counts_of (after (restored b level fuses capsule held) held);
        noted = put_behind (what.Restored b level) that (restored_noted accepts b level Losing fuses p.at p.end ready p.stands.sized ending notes put (below_four level below) calm (not_over b refl) p.stands.idle low capsule from_here j);
      }

  locked_so : level < 4 → IsCalm b notes → (cause : CapsuleFail) → HasBadRecovery cause b (mine b held) (store held) accepts → IsNoted notes (what.Locked b (why.NoRecovery cause) (counts_of held))
  locked_so below calm cause h =
      put (what.Locked b (why.NoRecovery cause) (counts_of held))
      (locked_noted accepts b level Losing fuses p.at p.end ready p.stands.sized ending notes put (below_four level below) calm (not_over b refl) cause (found_bad cause h))

  -- what a restore leaves, and from which capsule
  abbrev IsRestoredFrom : List ℕ → List ℕ → Type 0
  IsRestoredFrom image nv = (r : HasGoodRecovery b image nv accepts) × IsMadeFrom accepts b (ActiveFromRecovery level) image r.good.capsule (layout_of r.fuses.provision b) new

  restored_from : IsNoted notes (what.Restored b level) → IsRestoredFrom (mine b held) (store held)
  restored_from n =
      let here = own (what.Restored b level) refl n in
      let k = (known (what.Restored b level) here).1 in
      let capsule : CapsuleState = k.1 in
      let good = found_good accepts b fuses capsule held ready_held.provisioned ready_held.layout (subst AreBytes (sym (mine_there accepts b level fuses start ready p.stands.sized)) bytes) k.2 in
      let at_end = restored_anew accepts b level Losing fuses p.at p.end ready p.stands.sized ending p.stands.size bytes p.stands.idle low p.moved k.0 capsule k.2 here in
      let anew = anew_kept accepts b (ActiveFromRecovery level) fuses capsule (mine b held) (story_of p.end) (story_of new) p.kept at_end in (
        record { fuses = fuses; provisioned = ready_held.provisioned; good = good.0 },
        made_so accepts b (ActiveFromRecovery level) fuses good.0.capsule (mine b held) new
            (subst (λ (c : CapsuleState). IsAnew accepts b (ActiveFromRecovery level) fuses c (mine b held) (story_of new)) (sym good.1) anew),
      )

  -- wherever it was stopped
  sized_end : IsSized (story_of p.end)
  sized_end =
      let moves : List Move = expired_to accepts b level start in
      ap (λ (s : Story). length (store s)) (ended_is b Losing moves start (story_of p.end) ending) ∙ store_sized (ended_trace b Losing moves start (story_of p.end) ending) start ∙ p.stands.sized

  abbrev IsStoppedFrom : List ℕ → List ℕ → Type 0
  IsStoppedFrom image nv =
      (r : HasGoodRecovery b image nv accepts) → (is_spent nv b ≡ true)
      ⊎ IsOpenOrMade b (ActiveFromRecovery level) r.good.capsule.digest (active_rebuilt (ActiveFromRecovery level) image r.good.capsule (layout_of r.fuses.provision b)) new (counts_of held)

  stopped_from : level < 4 → IsStoppedFrom (mine b held) (store held)
  stopped_from below r =
      let kind : JobKind = ActiveFromRecovery level in
      let capsule : CapsuleState = r.good.capsule in
      let image : List ℕ = active_rebuilt kind (mine b held) capsule (layout_of fuses.provision b) in
      let IsLeft : FusesState → Type 0 = λ f. (is_spent (store held) b ≡ true) ⊎ IsOpenOrMade b kind capsule.digest (active_rebuilt kind (mine b held) capsule (layout_of f.provision b)) new (counts_of held) in
      let at_end = restored_stopped accepts b level Losing fuses p.at p.end ready p.stands.sized ending p.stands.size bytes p.stands.idle low (below_four level below) capsule (good_found_here r) in
      subst IsLeft (fuses_one (store held) fuses r.fuses ready_held.provisioned r.provisioned)
      (elim at_end [
        | inl spent ↦ inl spent
        | inr (inl same) ↦ inr (open_or_made b kind capsule.digest image held new (inl (p.kept.count ∙ same)))
        | inr (inr (inl opened)) ↦ inr (open_or_made b kind capsule.digest image held new (inr (inl (p.kept.opened sized_end ∙ opened))))
        | inr (inr (inr made)) ↦ inr (open_or_made b kind capsule.digest image held new (inr (inr (p.kept.mine ∙ made))))
      ])

  expires_at : ExpiresAt accepts b level new notes (counts_of held)
  expires_at = record {
    held = expiry_behind;
    spent = λ four. put (what.Locked b why.WatchdogSpent (counts_of held)) (spent_noted accepts b level Losing fuses p.at p.end ready p.stands.sized ending (four_spent level four));
    restored = λ below calm. by_counts (λ image nv. (g : HasGoodRecovery b image nv accepts) → IsReleasedAt b level g.good.capsule.manifest.svn notes) (released_so below calm);
    locked = λ below calm cause. by_counts (λ image nv. HasBadRecovery cause b image nv accepts → IsNoted notes (what.Locked b (why.NoRecovery cause) (counts_of held))) (locked_so below calm cause);
    made = λ n. by_counts IsRestoredFrom (restored_from n);
    stopped = λ below. by_counts IsStoppedFrom (stopped_from below);
  }

  -- a bank is locked for the want of a capsule by what stands in its recovery area then
  no_recovery_by : (cause : CapsuleFail) (at : Counts) → IsNoted notes (what.Locked b (why.NoRecovery cause) at) → (level < 4) × AtCounts (λ image nv. HasBadRecovery cause b image nv accepts) b at new
  no_recovery_by cause at n =
      let that : What = what.Locked b (why.NoRecovery cause) at in
      let k = (known that (own that refl n)).1 in
      (few_below level k.0, at_moment (λ image nv. HasBadRecovery cause b image nv accepts) b held at new k.1 precedes (record { fuses = fuses; provisioned = ready_held.provisioned; judged = k.2 }))

-- ---- what a step says of a bank's watch: that it expires, or nothing
abbrev pub Outcome : Acceptance → Event → Bank → World → World → Type 0
Outcome accepts e which old new =
    (IsExpiring e which old × Expiring accepts which (level_after (guard_at which old.guards).watch) (begun e old) new)
    ⊎ (Wrote (Unwatched which) (begun e old) new × (IsExpiring e which old → ¬ IsReached e which old (added old new)))

pub expires_by : (accepts : Acceptance) (e : Event) (which : Bank) (old new : World) → HaveBytes new → Outcome accepts e which old new → ExpiresBy e accepts which old new
expires_by accepts e which old new have (inl (expiring, p)) =
    let watch : Watch = (guard_at which old.guards).watch in
    let level : ℕ = level_after watch in
    let first : World = begun e old in
    let held : Story = held_from which level (story_of p.at) in
    record {
      all = λ is reached. expires_so accepts which level first new have p;
      to = λ l n.
          let same : l ≡ level = (known accepts which level first new have p (what.Expired which l) (own accepts which level first new have p (what.Expired which l) refl n)).1.1 in
          (counts_of held, subst (λ (x : ℕ). ExpiresAt accepts which x new (added old new) (counts_of held)) (sym same) (expires_at accepts which level first new have p));
      spent = λ at n.
          let that : What = what.Locked which why.WatchdogSpent at in
          let four : level ≡ 4 = spent_four watch (known accepts which level first new have p that (own accepts which level first new have p that refl n)).1 in
          subst (λ (x : ℕ). IsNoted (added old new) (what.Expired which x)) four (expires_so accepts which level first new have p);
      no_recovery = λ cause at n.
          let k = no_recovery_by accepts which level first new have p cause at n in
          (level, k.0, expires_so accepts which level first new have p, k.1);
    }
expires_by accepts e which old new have (inr (wrote, unreached)) =
    let never : (that : What) → IsNoted (added old new) that → Unwatched which that = never_noted (Unwatched which) (begun e old) new wrote in
    record {
      all = λ is reached. absurd (unreached is reached);
      to = λ l n. absurd (never (what.Expired which l) n refl);
      spent = λ at n. absurd (never (what.Locked which why.WatchdogSpent at) n refl tt);
      no_recovery = λ cause at n. absurd (never (what.Locked which (why.NoRecovery cause) at) n refl tt);
    }
