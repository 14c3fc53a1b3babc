-- A bank that is checked and, where it isn't trusted, recovered by some plan: what it ends with, and in how many operations.
use Rattle.std.proofs.Common.{◌≡◌, ◌∙◌, ℕ, ◌+◌, ◌*◌, ◌/◌, ◌≤◌, refl, sym, ap, subst, arith, List, [], ◌∷◌, ◌++◌, length, append_assoc, All, Result, Ok, Err}
use Rattle.pfr_flash.specs.Bytes.{AreBytes}
use Rattle.pfr_flash.specs.Layout.{IsBankSize, IsValidLayout}
use Rattle.pfr_flash.specs.declared.layout.Layout.{Layout}
use Rattle.pfr_flash.specs.declared.names.Bank.{Bank}
use Rattle.pfr_flash.specs.declared.names.Counts.{Counts}
use Rattle.pfr_engine.specs.Acceptance.{Acceptance}
use Rattle.pfr_fuses.specs.FusesState.{FusesState}
use Rattle.pfr_fuses.specs.FusesOf.{fuses_of}
use Rattle.pfr_fuses.specs.RootSlot.{layout_of}
use Rattle.pfr_manifest.specs.Regions.{IsRegion}
use Rattle.pfr_manifest.specs.declared.manifest.Manifest.{Manifest}
use Rattle.pfr_capsule.specs.CapsuleState.{CapsuleState}
use Rattle.pfr_capsule.specs.Good.{IsGood}
use Rattle.pfr_capsule.specs.declared.fail.CapsuleFail.{CapsuleFail}
use Rattle.pfr_capsule.proofs.GoodFacts.{good_regions}
use Rattle.pfr_capsule.proofs.GoodLaw.{good_found}
use Rattle.pfr_auth.specs.Areas.{judge_area}
use Rattle.pfr_auth.specs.declared.areas.Area.TheVariants.{Recovery}
use Rattle.pfr_auth.specs.declared.fail.ActiveFail.{ActiveFail}
use Rattle.pfr_jobs.specs.declared.job.JobKind.{JobKind}
use Rattle.pfr_jobs.specs.declared.job.JobKind.TheVariants.{ActiveFromRecovery}
use Rattle.pfr_strokes.proofs.ReplacedLaws.{few_together, pages_are}
use Rattle.pfr_rebuilt.specs.ActiveCopying.{is_active_page, active_pages}
use Rattle.pfr_rebuilt.specs.Copying.{holds_text, recovery_pages}
use Rattle.pfr_recoverable.specs.Recoverable.{HasGoodRecovery}
use Rattle.pfr_recoverable.proofs.BoundLaw.{apart}
use Rattle.pfr_recoverable.proofs.StaysLaw.{fuses_one}
use Rattle.pfr_report.specs.declared.note.LockWhy.TheVariants as lock
use Rattle.pfr_report.specs.declared.note.Note.{Note}
use Rattle.pfr_report.specs.declared.note.What.{What}
use Rattle.pfr_report.specs.declared.note.What.TheVariants.{Released, Locked, Untrusted}
use Rattle.pfr_story.specs.Story.{Story, Move, Plan, after, then, says, noted, counts_of, device_of}
use Rattle.pfr_story.specs.Plans.{mine, store, asks, judged_active, judged_recovery, restored, by_second, checked_again, by_recovery, by_active, tail}
use Rattle.pfr_story.proofs.Sequence.{after-append}
use Rattle.pfr_story.proofs.SafetyLaws.{image_noted}
use Rattle.pfr_story.proofs.Made.{said, said_append}
use Rattle.pfr_story.proofs.RestoreLaws.{stand_for, RestoresFrom}
use Rattle.pfr_story.proofs.JobCounts.{done_on, noted_count}

-- ---- the pages of both: a bank has no more of them than pages
pub recovery_few : (layout : Layout) (len size : ℕ) → length (recovery_pages layout len size) ≤ size / 4096
unfolding recovery_pages
recovery_few layout len size = (pages_are (holds_text layout.recovery_at len) (size / 4096)).few

pub both_few : (kind : JobKind) (image : List ℕ) (capsule : CapsuleState) (layout : Layout) (len : ℕ) → IsValidLayout layout (length image) → len ≤ layout.area_len
    → All (IsRegion layout (length image)) capsule.manifest.regions → length (recovery_pages layout len (length image)) + length (active_pages kind image capsule layout) ≤ length image / 4096
unfolding recovery_pages active_pages
both_few kind image capsule layout len valid fits regions =
    few_together (holds_text layout.recovery_at len) (is_active_page kind image capsule layout) (apart kind image capsule layout valid len fits regions) (length image / 4096)

-- ---- the tail of a power-on, where a plan is given that restores a bank
abbrev pub Restoring : Type 0
Restoring = FusesState → CapsuleState → Plan

abbrev pub by_recovery_with : Restoring → Acceptance → Bank → FusesState → ActiveFail → Result CapsuleState CapsuleFail → Plan
by_recovery_with restores accepts b fuses why (Ok capsule) = then (restores fuses capsule) (checked_again accepts b fuses)
by_recovery_with restores accepts b fuses why (Err cause) = says (Locked b (lock.NoGoodImage why cause))

abbrev pub recovered_with : Restoring → Acceptance → Bank → FusesState → ActiveFail → Plan
recovered_with restores accepts b fuses why = then (asks b) (λ story. by_recovery_with restores accepts b fuses why (judged_recovery accepts b fuses story) story)

abbrev pub by_active_with : Restoring → Acceptance → Bank → FusesState → Result Manifest ActiveFail → Plan
by_active_with restores accepts b fuses (Ok m) = says (Released b m.svn)
by_active_with restores accepts b fuses (Err why) = then (says (λ _. Untrusted b why)) (recovered_with restores accepts b fuses why)

abbrev pub tail_with : Restoring → Acceptance → Bank → FusesState → Plan
tail_with restores accepts b fuses = then (asks b) (λ story. by_active_with restores accepts b fuses (judged_active accepts b fuses story) story)

-- where that is a restore as it stands, this is the tail
pub tail_is : (accepts : Acceptance) (b : Bank) (fuses : FusesState) (story : Story) → tail_with (restored b 1) accepts b fuses story ≡ tail accepts b fuses story
tail_is accepts b fuses story = ap (λ (moves : List Move). asks b story ++ moves) (by_check (judged_active accepts b fuses story))
  where
    by_area : (why : ActiveFail) (r : Result CapsuleState CapsuleFail) (there : Story) → by_recovery_with (restored b 1) accepts b fuses why r there ≡ by_recovery accepts b fuses why r there
    by_area why (Ok capsule) there = refl
    by_area why (Err cause) there = refl

    by_check : (r : Result Manifest ActiveFail) → by_active_with (restored b 1) accepts b fuses r story ≡ by_active accepts b fuses r story
    by_check (Ok m) = refl
    by_check (Err why) =
        let there : Story = noted (λ _. Untrusted b why) story in
        ap (λ (moves : List Move). says (λ _. Untrusted b why) story ++ (asks b there ++ moves)) (by_area why (judged_recovery accepts b fuses there) there)

-- ---- what moves end with
-- the last note is that the bank is released, with the counts of that moment
pub record EndsReleased (b : Bank) (moves : List Move) (story : Story) : Type 0 where
  pub before : List Note
  pub item : ℕ
  pub svn : ℕ
  pub last : said moves story ≡ before ++ (record { item = item; what = Released b svn (counts_of (after moves story)) } ∷ [])

pub ends_behind : (b : Bank) (moves more : List Move) (story : Story) → EndsReleased b more (after moves story) → EndsReleased b (moves ++ more) story
ends_behind b moves more story e =
    let there : Story = after moves story in
    record {
      before = said moves story ++ e.before;
      item = e.item;
      svn = e.svn;
      last = said_append moves more story ∙ ap (λ (notes : List Note). said moves story ++ notes) e.last
          ∙ sym (append_assoc (said moves story) e.before (record { item = e.item; what = Released b e.svn (counts_of (after more there)) } ∷ []))
          ∙ ap (λ (s : Story). (said moves story ++ e.before) ++ (record { item = e.item; what = Released b e.svn (counts_of s) } ∷ [])) (sym (after-append moves more story));
    }

-- What a plan does that restores a bank: the image is judged well then, and it takes at most 17 operations for each page.
pub record RestoresWell (accepts : Acceptance) (b : Bank) (fuses : FusesState) (capsule : CapsuleState) (plan : Plan) (story : Story) : Type 0 where
  pub judged : judged_active accepts b fuses (after (plan story) story) ≡ Ok capsule.manifest
  pub few : done_on b (after (plan story) story) ≤ done_on b story + 17 * length (active_pages (ActiveFromRecovery 1) (mine b story) capsule (layout_of fuses.provision b))

module _ (restores : Restoring) (accepts : Acceptance) (b : Bank) (fuses : FusesState) (story : Story) (was : fuses_of (store story) ≡ Ok fuses) (g : HasGoodRecovery b (mine b story) (store story) accepts)
    (bytes : AreBytes (mine b story)) (size : IsBankSize (length (mine b story)))
    (well : (capsule : CapsuleState) (w : Counts → What) → capsule ≡ g.good.capsule → RestoresFrom accepts b fuses capsule (noted w story) → RestoresWell accepts b fuses capsule (restores fuses capsule) (noted w story)) where
  abbrev layout : Layout
  layout = layout_of fuses.provision b

  abbrev moves : List Move
  moves = tail_with restores accepts b fuses story

  -- the good capsule, by these fuses
  good_here : (h : IsGood (mine b story) (layout_of fuses.provision b).recovery_at (layout_of fuses.provision b).area_len (store story) b accepts) × (h.capsule ≡ g.good.capsule)
  good_here =
      subst (λ (f : FusesState). (h : IsGood (mine b story) (layout_of f.provision b).recovery_at (layout_of f.provision b).area_len (store story) b accepts) × (h.capsule ≡ g.good.capsule))
      (fuses_one (store story) g.fuses fuses g.provisioned was) (g.good, refl)

  same_fuses : good_here.0.fuses ≡ fuses
  same_fuses = fuses_one (store story) good_here.0.fuses fuses good_here.0.provisioned was

  pub tail_layout : IsValidLayout (layout_of fuses.provision b) (length (mine b story))
  tail_layout = subst (λ (f : FusesState). IsValidLayout (layout_of f.provision b) (length (mine b story))) same_fuses good_here.0.layout

  regions : All (IsRegion (layout_of fuses.provision b) (length (mine b story))) good_here.0.capsule.manifest.regions
  regions =
      subst (λ (f : FusesState). All (IsRegion (layout_of f.provision b) (length (mine b story))) good_here.0.capsule.manifest.regions) same_fuses
      (good_regions (mine b story) (store story) layout.recovery_at layout.area_len b accepts good_here.0)

  found : judged_recovery accepts b fuses story ≡ Ok good_here.0.capsule
  found = good_found (mine b story) (store story) layout.recovery_at layout.area_len b accepts fuses (stand_for (store story) fuses b was) good_here.0

  -- released, and in few operations, together with those for as many pages as a text in the recovery area has
  pub record TailEnds (moves : List Move) : Type 0 where
    pub released : EndsReleased b moves story
    pub few : (len : ℕ) → len ≤ layout.area_len → done_on b (after moves story) + 17 * length (recovery_pages layout len (length (mine b story))) ≤ done_on b story + 17 * (length (mine b story) / 4096)

  by_restoring : (why : ActiveFail) → TailEnds (asks b story ++ by_active_with restores accepts b fuses (Err why) story)
  by_restoring why =
      let w : Counts → What = λ _. Untrusted b why in
      let there : Story = noted w story in
      let capsule : CapsuleState = good_here.0.capsule in
      let same : mine b there ≡ mine b story = image_noted (device_of b) w story in
      let judged : judged_recovery accepts b fuses there ≡ Ok capsule = ap (λ (image : List ℕ). judge_area Recovery b image fuses accepts) same ∙ found in
      let from : RestoresFrom accepts b fuses capsule there = record {
        provisioned = was;
        layout = subst (λ (image : List ℕ). IsValidLayout layout (length image)) (sym same) tail_layout;
        size = subst (λ (image : List ℕ). IsBankSize (length image)) (sym same) size;
        bytes = subst AreBytes (sym same) bytes;
        judged = judged;
      } in
      let r = well capsule w good_here.1 from in
      let anew : List Move = restores fuses capsule there in
      let end : Story = after anew there in
      let again : EndsReleased b (checked_again accepts b fuses end) end =
      subst (λ (x : Result Manifest ActiveFail). EndsReleased b (asks b end ++ by_second b x end) end) (sym r.judged)
      (record { before = []; item = end.item; svn = capsule.manifest.svn; last = refl }) in
      let P : List Move → Type 0 = λ moves. TailEnds (asks b story ++ (says w story ++ (asks b there ++ moves))) in
      subst (λ (x : Result CapsuleState CapsuleFail). P (by_recovery_with restores accepts b fuses why x there)) (sym judged) (record {
        released = ends_behind b (asks b story ++ says w story) (asks b there ++ (anew ++ checked_again accepts b fuses end)) story (ends_behind b (asks b there ++ anew) (checked_again accepts b fuses end) there again);
        few = λ len fits.
            let both = both_few (ActiveFromRecovery 1) (mine b story) capsule layout len tail_layout fits regions in
            let pages = ap (λ (image : List ℕ). length (active_pages (ActiveFromRecovery 1) image capsule layout)) same in
            let ended = ap (λ (s : Story). done_on b s) (after-append anew (checked_again accepts b fuses end) there) in
            let still : done_on b (after (checked_again accepts b fuses end) end) ≡ done_on b end =
            subst (λ (x : Result Manifest ActiveFail). done_on b (after (asks b end ++ by_second b x end) end) ≡ done_on b end) (sym r.judged) (noted_count b (Released b capsule.manifest.svn) end) in
            omega (arith, both, pages, ended, still, r.few, noted_count b w story);
      })

  by_checked : (r : Result Manifest ActiveFail) → TailEnds (asks b story ++ by_active_with restores accepts b fuses r story)
  by_checked (Ok m) = record {
    released = record { before = []; item = story.item; svn = m.svn; last = refl };
    few = λ len fits. omega (arith, recovery_few layout len (length (mine b story)), noted_count b (Released b m.svn) story);
  }
  by_checked (Err why) = by_restoring why

  -- A bank with a good recovery area ends released.
  pub tail_ends : TailEnds (tail_with restores accepts b fuses story)
  tail_ends = by_checked (judged_active accepts b fuses story)
