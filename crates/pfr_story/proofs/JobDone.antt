-- Where work on an active job leads.
use Rattle.std.proofs.Common.{◌≡◌, ◌∙◌, ℕ, ◌+◌, ◌/◌, ◌≤◌, ◌<◌, refl, sym, ap, subst, Bool, true, false, List, [], ◌∷◌, ◌++◌, length, Ok}
use Rattle.pfr_flash.specs.Layout.{IsBankSize}
use Rattle.pfr_flash.specs.Bytes.{AreBytes}
use Rattle.pfr_flash.specs.declared.layout.Layout.{Layout}
use Rattle.pfr_flash.specs.Operation.{play}
use Rattle.pfr_flash.specs.declared.names.Bank.{Bank}
use Rattle.pfr_flash.specs.declared.names.Counts.{Counts}
use Rattle.pfr_flash.specs.declared.names.Device.TheVariants as device
use Rattle.pfr_engine.specs.Acceptance.{Acceptance}
use Rattle.pfr_fuses.specs.FusesState.{FusesState}
use Rattle.pfr_fuses.specs.FusesOf.{fuses_of}
use Rattle.pfr_fuses.specs.RootSlot.{layout_of}
use Rattle.pfr_manifest.specs.declared.manifest.Manifest.{Manifest}
use Rattle.pfr_capsule.specs.CapsuleState.{CapsuleState}
use Rattle.pfr_capsule.specs.Good.{IsGood}
use Rattle.pfr_auth.specs.Judge.{judge_active}
use Rattle.pfr_auth.specs.Trusted.{IsTrusted}
use Rattle.pfr_auth.proofs.TrustedLaw.{stands_whole, trusted_found}
use Rattle.pfr_jobs.specs.Log.{open_job}
use Rattle.pfr_jobs.specs.LogPlans.{IsKind, begin_plan}
use Rattle.pfr_jobs.specs.LogState.{is_marked, is_spent}
use Rattle.pfr_jobs.specs.declared.job.JobKind.{JobKind}
use Rattle.pfr_jobs.specs.declared.job.JobKind.TheVariants.{RecoveryFromStaging}
use Rattle.pfr_jobs.specs.declared.job.OpenJob.{OpenJob}
use Rattle.pfr_jobs.specs.declared.job.OpenJob.TheVariants as job
use Rattle.pfr_jobs.proofs.SlotLaw.{IsDigest}
use Rattle.pfr_strokes.specs.Replaced.{replaced}
use Rattle.pfr_strokes.specs.Strokes.{strokes_of}
use Rattle.pfr_strokes.proofs.ReplacedLaws.{AllCan, IsOneOf}
use Rattle.pfr_rebuilt.specs.ActiveCopying.{active_page, active_pages, active_rebuilt}
use Rattle.pfr_rebuilt.specs.Passing.{group_pages, left_pages}
use Rattle.pfr_recoverable.proofs.CutLaw.{good_with}
use Rattle.pfr_recoverable.proofs.RestoredLaw.{restored_trusted}
use Rattle.pfr_recoverable.proofs.StaysLaw.{fuses_one}
use Rattle.pfr_report.specs.declared.note.What.{What}
use Rattle.pfr_story.specs.Story.{Story, Says, after, noted, other_bank, device_of}
use Rattle.pfr_story.specs.Plans.{mine, store, judged_active}
use Rattle.pfr_story.specs.JobPlans.{begun_job, finished_job, worked, written_over, done_with, by_log, with_job}
use Rattle.pfr_story.specs.JobContents.{active_resumed}
use Rattle.pfr_story.proofs.Sequence.{after-append}
use Rattle.pfr_story.proofs.SafetyLaws.{image_noted, image_called}
use Rattle.pfr_story.proofs.AnewLaws.{MadeFrom}
use Rattle.pfr_story.proofs.JobEnds.{left_one, left_all, group_small}
use Rattle.pfr_story.proofs.JobFresh.{takes_job, begin_fresh}
use Rattle.pfr_story.proofs.JobPages.{replaced_bytes, active_can, active_replaced}
use Rattle.pfr_story.proofs.JobSteps.{StandsSo, stands_then, begun_stands, finished_stands, worked_stands, written_stands, active_below}

-- ---- a note, and the end of a job
pub stands_as : (b : Bank) (running other_job : OpenJob) (image other_image : List ℕ) (old new : Story) → running ≡ other_job → image ≡ other_image → StandsSo b running image old new → StandsSo b other_job other_image old new
stands_as b running other_job image other_image old new e f p =
    subst (λ (j : OpenJob). StandsSo b j other_image old new) e (subst (λ (bytes : List ℕ). StandsSo b running bytes old new) f p)

pub stands_noted : (b : Bank) (running : OpenJob) (image : List ℕ) (w : Counts → What) (old new : Story) → StandsSo b running image old new → StandsSo b running image old (noted w new)
stands_noted b running image w old new p = record {
  bank = image_noted (device_of b) w new ∙ p.bank;
  logged = p.logged;
  other = image_noted (device_of (other_bank b)) w new ∙ p.other;
}

pub stands_finished : (b : Bank) (running : OpenJob) (image : List ℕ) (old new : Story) → (running ≡ job.None → ⊥) → StandsSo b running image old new → StandsSo b job.None image old (after (finished_job b new) new)
stands_finished b running image old new is_open p =
    let there : Story = after (finished_job b new) new in
    stands_then b running job.None image image old new there p
    (stands_as b job.None job.None (mine b new) image new there refl p.bank (finished_stands b new p.logged.size (λ e. is_open (sym p.logged.opened ∙ e))))

-- ---- a good capsule, while the bank and what the fuses say are the same
pub from_later : (accepts : Acceptance) (b : Bank) (fuses : FusesState) (capsule : CapsuleState) (story later : Story) → mine b later ≡ mine b story → fuses_of (store later) ≡ fuses_of (store story)
    → MadeFrom accepts b fuses capsule story → MadeFrom accepts b fuses capsule later
from_later accepts b fuses capsule story later same stored from =
    let P : List ℕ → Type 0 = λ image. (g : IsGood image from.place from.len (store later) b accepts) × (g.capsule ≡ capsule) in
    let here = good_with (mine b story) (store story) (store later) from.place from.len b accepts from.good stored in
    let there : P (mine b later) = subst P (sym same) (here.0, here.1 ∙ from.capsule_is) in
    record {
      place = from.place;
      len = from.len;
      good = there.0;
      capsule_is = there.1;
      provisioned = stored ∙ from.provisioned;
      inside = subst (λ (image : List ℕ). from.place + from.len ≤ length image) (sym same) from.inside;
      size = subst (λ (image : List ℕ). IsBankSize (length image)) (sym same) from.size;
      bytes = subst AreBytes (sym same) from.bytes;
    }

-- ---- what the passes leave of the image
module _ (accepts : Acceptance) (b : Bank) (kind : JobKind) (fuses : FusesState) (capsule : CapsuleState) (story : Story) (from : MadeFrom accepts b fuses capsule story) (size : length (store story) ≡ 32768) where
  abbrev image : List ℕ
  image = mine b story

  abbrev layout : Layout
  layout = layout_of fuses.provision b

  played : (list : List ℕ) → ((n : ℕ) → IsOneOf n list → IsOneOf n (active_pages kind image capsule layout)) → play image (strokes_of (active_page image capsule layout) list) ≡ replaced image (active_page image capsule layout) list
  played =
      subst (λ (c : CapsuleState). (list : List ℕ) → ((n : ℕ) → IsOneOf n list → IsOneOf n (active_pages kind image c layout)) → play image (strokes_of (active_page image c layout) list) ≡ replaced image (active_page image c layout) list) from.capsule_is
      (active_replaced kind image (store story) from.place from.len b accepts from.good from.size.blocks from.size.most from.inside from.bytes layout)

  can : (list : List ℕ) → ((n : ℕ) → IsOneOf n list → IsOneOf n (active_pages kind image capsule layout)) → AllCan (length image) (active_page image capsule layout) list
  can =
      subst (λ (c : CapsuleState). (list : List ℕ) → ((n : ℕ) → IsOneOf n list → IsOneOf n (active_pages kind image c layout)) → AllCan (length image) (active_page image c layout) list) from.capsule_is
      (active_can kind image (store story) from.place from.len b accepts from.good from.size.blocks from.size.most from.inside from.bytes layout)

  pub worked_replaced : StandsSo b (open_job (store story) b) (active_resumed kind b image (store story) capsule layout) story (after (worked b kind fuses capsule story) story)
  worked_replaced =
      let pages : List ℕ = active_pages kind image capsule layout in
      let list : List ℕ = left_pages (is_marked (store story) b) (group_pages (length image)) pages in
      stands_as b (open_job (store story) b) (open_job (store story) b) (play image (strokes_of (active_page image capsule layout) list)) (active_resumed kind b image (store story) capsule layout) story
      (after (worked b kind fuses capsule story) story) refl (played list (λ n one. left_one (is_marked (store story) b) (group_pages (length image)) pages n one)) (worked_stands b fuses capsule story size kind)

  pub written_replaced : StandsSo b (open_job (store story) b) (active_rebuilt kind image capsule layout) story (after (written_over b kind fuses capsule story) story)
  written_replaced =
      let pages : List ℕ = active_pages kind image capsule layout in
      stands_as b (open_job (store story) b) (open_job (store story) b) (play image (strokes_of (active_page image capsule layout) pages)) (active_rebuilt kind image capsule layout) story
      (after (written_over b kind fuses capsule story) story) refl (played pages (λ n one. one)) (written_stands b fuses capsule story size kind)

  pub resumed_bytes : AreBytes (active_resumed kind b image (store story) capsule layout)
  resumed_bytes =
      let pages : List ℕ = active_pages kind image capsule layout in
      replaced_bytes (length image) image (active_page image capsule layout) (left_pages (is_marked (store story) b) (group_pages (length image)) pages) from.bytes
      (can (left_pages (is_marked (store story) b) (group_pages (length image)) pages) (λ n one. left_one (is_marked (store story) b) (group_pages (length image)) pages n one))

  -- where none of its groups is marked, that is the whole image
  pub unmarked_whole : ((group : ℕ) → group < 128 → is_marked (store story) b group ≡ false) → active_resumed kind b image (store story) capsule layout ≡ active_rebuilt kind image capsule layout
  unmarked_whole none =
      ap (λ (list : List ℕ). replaced image (active_page image capsule layout) list)
      (left_all (is_marked (store story) b) (group_pages (length image)) (active_pages kind image capsule layout)
      (λ n one. none (n / group_pages (length image)) (group_small (length image) n (active_below kind b image (store story) capsule layout n one))))

  -- it is judged well then, by the capsule's manifest
  module _ (active : ¬ (kind ≡ RecoveryFromStaging)) where
    same_fuses : from.good.fuses ≡ fuses
    same_fuses = fuses_one (store story) from.good.fuses fuses from.good.provisioned from.provisioned

    pub rebuilt_trusted : (t : IsTrusted (active_rebuilt kind image capsule layout) (store story) b accepts) × (t.manifest ≡ capsule.manifest)
    rebuilt_trusted =
        let g = from.good in
        subst (λ (c : CapsuleState). (t : IsTrusted (active_rebuilt kind image c layout) (store story) b accepts) × (t.manifest ≡ c.manifest)) from.capsule_is
        (subst (λ (f : FusesState). (t : IsTrusted (active_rebuilt kind image g.capsule (layout_of f.provision b)) (store story) b accepts) × (t.manifest ≡ g.capsule.manifest)) same_fuses
        (restored_trusted kind active image (store story) from.place from.len b accepts g from.size.blocks from.size.most from.inside from.bytes))

    pub rebuilt_judged : judge_active (active_rebuilt kind image capsule layout) b fuses accepts ≡ Ok capsule.manifest
    rebuilt_judged =
        trusted_found (active_rebuilt kind image capsule layout) (store story) b accepts fuses (stands_whole (store story) fuses b from.provisioned) rebuilt_trusted.0
        ∙ ap (λ (m : Manifest). Ok m) rebuilt_trusted.1

-- what is trusted is so by each store that says the same fuses
pub trusted_with : (bytes nv later : List ℕ) (b : Bank) (accepts : Acceptance) (t : IsTrusted bytes nv b accepts) → fuses_of later ≡ fuses_of nv → (u : IsTrusted bytes later b accepts) × (u.manifest ≡ t.manifest)
trusted_with bytes nv later b accepts t same = (
  record {
    fuses = t.fuses;
    manifest = t.manifest;
    chain = t.chain;
    provisioned = same ∙ t.provisioned;
    layout = t.layout;
    signed = t.signed;
    spelled = t.spelled;
    svn = t.svn;
    hashed = t.hashed;
  },
  refl,
)

-- ---- the work, its end, and what is noted
pub done_is : (b : Bank) (kind : JobKind) (fuses : FusesState) (capsule : CapsuleState) (that : What) (story : Story)
    → after (done_with b kind fuses capsule that story) story
    ≡ noted (λ _. that) (after (finished_job b (after (worked b kind fuses capsule story) story)) (after (worked b kind fuses capsule story) story))
done_is b kind fuses capsule that story =
    let there : Story = after (worked b kind fuses capsule story) story in
    after-append (worked b kind fuses capsule story) (finished_job b there ++ Says (λ _. that) ∷ []) story
    ∙ after-append (finished_job b there) (Says (λ _. that) ∷ []) there

module _ (accepts : Acceptance) (b : Bank) (kind : JobKind) (fuses : FusesState) (capsule : CapsuleState) (that : What) (story : Story) (from : MadeFrom accepts b fuses capsule story) (size : length (store story) ≡ 32768) where
  -- An open job is done: its pages are replaced but those of marked groups, and nothing is open.
  pub done_stands : (open_job (store story) b ≡ job.None → ⊥)
      → StandsSo b job.None (active_resumed kind b (mine b story) (store story) capsule (layout_of fuses.provision b)) story (after (done_with b kind fuses capsule that story) story)
  done_stands is_open =
      let then_image : List ℕ = active_resumed kind b (mine b story) (store story) capsule (layout_of fuses.provision b) in
      let there : Story = after (worked b kind fuses capsule story) story in
      subst (λ (s : Story). StandsSo b job.None then_image story s) (sym (done_is b kind fuses capsule that story))
      (stands_noted b job.None then_image (λ _. that) story (after (finished_job b there) there)
      (stands_finished b (open_job (store story) b) then_image story there is_open (worked_replaced accepts b kind fuses capsule story from size)))

-- the image is rebuilt, trusted and judged well by the capsule's manifest, and nothing is open
pub record IsDone (accepts : Acceptance) (b : Bank) (kind : JobKind) (fuses : FusesState) (capsule : CapsuleState) (old new : Story) : Type 0 where
  pub stands : StandsSo b job.None (active_rebuilt kind (mine b old) capsule (layout_of fuses.provision b)) old new
  pub trusted : (t : IsTrusted (mine b new) (store new) b accepts) × (t.manifest ≡ capsule.manifest)
  pub judged : judged_active accepts b fuses new ≡ Ok capsule.manifest

module _ (accepts : Acceptance) (b : Bank) (kind : JobKind) (active : ¬ (kind ≡ RecoveryFromStaging)) (fuses : FusesState) (capsule : CapsuleState) (that : What) (story : Story)
    (from : MadeFrom accepts b fuses capsule story) (size : length (store story) ≡ 32768) (none : open_job (store story) b ≡ job.None) (d : IsDigest capsule.digest) (valid : IsKind kind) where
  abbrev whole : List ℕ
  whole = active_rebuilt kind (mine b story) capsule (layout_of fuses.provision b)

  fresh_stands : is_spent (store story) b ≡ false → StandsSo b job.None whole story (after (by_log false b kind fuses capsule that story) story)
  fresh_stands free =
      let takes = takes_job (store story) b free in
      let begun : Story = after (begun_job b kind capsule.digest story) story in
      let first : StandsSo b (job.Job kind capsule.digest) (mine b story) story begun = begun_stands b kind capsule.digest story size none takes d valid in
      let later : MadeFrom accepts b fuses capsule begun = from_later accepts b fuses capsule story begun first.bank first.logged.fuses from in
      let resumed : List ℕ = active_resumed kind b (mine b begun) (store begun) capsule (layout_of fuses.provision b) in
      let second : StandsSo b job.None resumed begun (after (done_with b kind fuses capsule that begun) begun) =
      done_stands accepts b kind fuses capsule that begun later first.logged.size (λ e. absurd (let o = first.logged.opened in cc)) in
      let unmarked : (group : ℕ) → group < 128 → is_marked (store begun) b group ≡ false =
      λ group small. ap (λ (nv : List ℕ). is_marked nv b group) (image_called device.Nv (begin_plan (store story) b kind capsule.digest) story) ∙ begin_fresh (store story) b kind capsule.digest size none takes d group small in
      let same : resumed ≡ whole = unmarked_whole accepts b kind fuses capsule begun later first.logged.size unmarked ∙ ap (λ (bytes : List ℕ). active_rebuilt kind bytes capsule (layout_of fuses.provision b)) first.bank in
      subst (λ (s : Story). StandsSo b job.None whole story s) (sym (after-append (begun_job b kind capsule.digest story) (done_with b kind fuses capsule that begun) story))
      (stands_then b (job.Job kind capsule.digest) job.None (mine b story) whole story begun (after (done_with b kind fuses capsule that begun) begun) first
      (stands_as b job.None job.None resumed whole begun (after (done_with b kind fuses capsule that begun) begun) refl same second))

  spent_stands : StandsSo b job.None whole story (after (by_log true b kind fuses capsule that story) story)
  spent_stands =
      let there : Story = after (written_over b kind fuses capsule story) story in
      subst (λ (s : Story). StandsSo b job.None whole story s) (sym (after-append (written_over b kind fuses capsule story) (Says (λ _. that) ∷ []) story))
      (stands_noted b job.None whole (λ _. that) story there
      (stands_as b (open_job (store story) b) job.None whole whole story there none refl (written_replaced accepts b kind fuses capsule story from size)))

  by_spent : (t : Bool) → is_spent (store story) b ≡ t → StandsSo b job.None whole story (after (by_log t b kind fuses capsule that story) story)
  by_spent true e = spent_stands
  by_spent false e = fresh_stands e

  -- A job that is begun and done at once makes the image anew, whether the log takes it or is spent.
  pub with_job_done : IsDone accepts b kind fuses capsule story (after (with_job b kind fuses capsule that story) story)
  with_job_done =
      let new : Story = after (with_job b kind fuses capsule that story) story in
      let stands : StandsSo b job.None whole story new = by_spent (is_spent (store story) b) refl in
      let t = rebuilt_trusted accepts b kind fuses capsule story from size active in
      let u = trusted_with whole (store story) (store new) b accepts t.0 stands.logged.fuses in
      record {
        stands = stands;
        trusted = subst (λ (bytes : List ℕ). (v : IsTrusted bytes (store new) b accepts) × (v.manifest ≡ capsule.manifest)) (sym stands.bank) (u.0, u.1 ∙ t.1);
        judged = ap (λ (bytes : List ℕ). judge_active bytes b fuses accepts) stands.bank ∙ rebuilt_judged accepts b kind fuses capsule story from size active;
      }
