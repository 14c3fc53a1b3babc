-- The pass of a job, as moves: what it keeps, and that it leaves the bank one that can be recovered, at every cut, whatever it tore.
use Rattle.std.proofs.Common.{◌≡◌, ◌∙◌, refl, sym, ap, subst, arith, ℕ, zero, suc, ◌+◌, ◌*◌, ◌/◌, ◌%◌, ◌≤◌, ◌<◌, max, Bool, true, false, if◌then◌else◌, not, List, [], ◌∷◌, ◌++◌, length, filter, All, ◌⊎◌, inl, inr, Option, Ok}
use Rattle.std.proofs.lemmas.Bool.Decides.{nat_tests}
use Rattle.std.proofs.Math.Nat.{div-lt_iff_lt-mul}
use Rattle.pfr_flash.specs.Bytes.{AreBytes, bytes_at, and_bytes}
use Rattle.pfr_flash.specs.Layout.{IsValidLayout}
use Rattle.pfr_flash.specs.Operation.{Operation, Erase, Program, Torn, applied}
use Rattle.pfr_flash.specs.Range.{place_of, len_of, Leaves, IsWithin, AllWithin}
use Rattle.pfr_flash.specs.declared.layout.Layout.{Layout}
use Rattle.pfr_flash.specs.declared.names.Bank.{Bank}
use Rattle.pfr_flash.specs.declared.names.Device.TheVariants as device
use Rattle.pfr_flash.proofs.AreBytesLemmas.{AreBytes-nil, AreBytes-applied, AreBytes-and, AreBytes-written, AreBytes-bytes_at}
use Rattle.pfr_flash.proofs.LeavingLemmas.{leaves_torn, left_bytes}
use Rattle.pfr_flash.proofs.PlayLemmas.{length-applied}
use Rattle.pfr_flash.proofs.RangeLemmas.{IsTorn-within}
use Rattle.pfr_engine.specs.Acceptance.{Acceptance}
use Rattle.pfr_fuses.specs.FuseMap.{profile_of}
use Rattle.pfr_fuses.specs.FusesState.{FusesState}
use Rattle.pfr_fuses.specs.FusesOf.{fuses_of}
use Rattle.pfr_fuses.specs.RootSlot.{layout_of}
use Rattle.pfr_manifest.specs.Regions.{IsRegion}
use Rattle.pfr_capsule.specs.CapsuleState.{CapsuleState}
use Rattle.pfr_jobs.specs.Log.{log_at, spent_in, selector, current_at, current_page, last_gated, open_job}
use Rattle.pfr_jobs.specs.LogPlans.{mark_by, mark_plan}
use Rattle.pfr_jobs.specs.LogState.{is_marked}
use Rattle.pfr_jobs.specs.declared.job.JobKind.{JobKind}
use Rattle.pfr_jobs.proofs.LogLaws.{LastOf, nothing, found, last_of, page_inside}
use Rattle.pfr_jobs.proofs.CutLaws.{mark_keeps, mark_current}
use Rattle.pfr_strokes.specs.Strokes.{is_blank, programs, program_of, strokes}
use Rattle.pfr_strokes.specs.Deeds.{Deed, Asks, Does, called, ends_group, page_deeds, marked_by, unmarked}
use Rattle.pfr_strokes.specs.declared.side.Side.TheVariants as side
use Rattle.pfr_strokes.proofs.ReplacedLaws.{IsOneOf, pages_are}
use Rattle.pfr_rebuilt.specs.ActiveCopying.{is_active_page, active_page, active_pages}
use Rattle.pfr_rebuilt.specs.Copying.{holds_text, recovery_page, recovery_pages}
use Rattle.pfr_rebuilt.specs.Passing.{group_pages, left_pages, active_heeding, active_ignoring, recovery_heeding, recovery_ignoring}
use Rattle.pfr_recoverable.specs.Recoverable.{HasGoodRecovery}
use Rattle.pfr_recoverable.proofs.PassLaw.{IsMarkAt}
use Rattle.pfr_recoverable.proofs.StaysLaw.{recovery_left}
use Rattle.pfr_recoverable.proofs.CutLaw.{IsAtWork, work_kept}
use Rattle.pfr_story.specs.Story.{Story, Does as DoesMove, after, moved_by, operated, device_of}
use Rattle.pfr_story.specs.Deeds.{deed_move, deed_moves}
use Rattle.pfr_story.specs.Safety.{IsSafe, AllSafe}
use Rattle.pfr_story.specs.Plans.{mine, store}
use Rattle.pfr_story.specs.Recovery.{KeepsRecoverable}
use Rattle.pfr_story.proofs.SafetyLaws.{image_operated, mine_operated, store_operated}
use Rattle.pfr_story.proofs.KeepLaws.{strokes_in, page_beside}
use Rattle.pfr_story.proofs.JobSafety.{IsKept, kept_refl, kept_trans, kept_logged, nv_there, bank_there, own_logs, NoReplacing, calm_good, logged_safe}

-- ---- deeds of a pass
-- it isn't one that was torn
abbrev pub IsWhole : Operation → Type 0
IsWhole (Torn at after) = ⊥
IsWhole op = Unit {0}

abbrev pub AllWhole : List Operation → Type 0
AllWhole [] = Unit {0}
AllWhole (op ∷ ops) = IsWhole op × AllWhole ops

-- on the bank it leaves so many bytes from a place, on the store it is a mark of the page that begins there
abbrev pub IsWork : ℕ → ℕ → ℕ → Deed → Type 0
IsWork from len at (Asks which) = Unit {0}
IsWork from len at (Does side.Bank op) = Leaves from len op × IsWhole op
IsWork from len at (Does side.Store op) = IsMarkAt at op

abbrev pub AllWork : ℕ → ℕ → ℕ → List Deed → Type 0
AllWork from len at [] = Unit {0}
AllWork from len at (deed ∷ deeds) = IsWork from len at deed × AllWork from len at deeds

programs_whole : (at : ℕ) (bytes : List ℕ) (k : ℕ) → AllWhole (programs at bytes k)
unfolding programs
programs_whole at bytes zero = tt
programs_whole at bytes (suc k) = both (programs at bytes k) (program_of (at + 256 * k) (bytes_at bytes (256 * k) 256)) (programs_whole at bytes k) (by_test (is_blank (bytes_at bytes (256 * k) 256)))
  where
    both : (ops more : List Operation) → AllWhole ops → AllWhole more → AllWhole (ops ++ more)
    both [] more p q = q
    both (op ∷ ops) more p q = (p.0, both ops more p.1 q)

    by_test : (b : Bool) → AllWhole (if b then [] else Program (at + 256 * k) (bytes_at bytes (256 * k) 256) ∷ [])
    by_test true = tt
    by_test false = (tt, tt)

strokes_whole : (page : ℕ) (bytes : List ℕ) → AllWhole (strokes page bytes)
unfolding strokes
strokes_whole page bytes = (tt, programs_whole (4096 * page) bytes 16)

module _ (from len at : ℕ) where
  work_both : (deeds more : List Deed) → AllWork from len at deeds → AllWork from len at more → AllWork from len at (deeds ++ more)
  work_both [] more p q = q
  work_both (deed ∷ deeds) more p q = (p.0, work_both deeds more p.1 q)

  -- a page beside those bytes
  abbrev pub IsBeside : ℕ → Type 0
  IsBeside page = (4096 * page + 4096 ≤ from) ⊎ (from + len ≤ 4096 * page)

  page_work : (page : ℕ) (ops : List Operation) → IsBeside page → AllWithin (4096 * page) 4096 ops → AllWhole ops → AllWork from len at (called side.Bank ops)
  page_work page [] beside within whole = (tt, tt)
  page_work page (op ∷ ops) beside within whole = ((by_side beside within.0, whole.0), page_work page ops beside within.1 whole.1)
    where
      by_side : IsBeside page → IsWithin (4096 * page) 4096 op → Leaves from len op
      by_side (inl before) i = inl (omega (arith, before, i.high))
      by_side (inr behind) i = inr (omega (arith, behind, i.low))

  pub pages_work : (content : ℕ → List ℕ) (group : ℕ) (mark : ℕ → List Deed) (pages : List ℕ) → ((page : ℕ) → IsOneOf page pages → IsBeside page)
      → ((page : ℕ) → IsOneOf page pages → AllWork from len at (mark (page / group))) → AllWork from len at (page_deeds content group mark pages)
  unfolding page_deeds
  pages_work content group mark [] beside marks = tt
  pages_work content group mark (page ∷ pages) beside marks =
      work_both (called side.Bank (strokes page (content page))) ((if ends_group group page pages then mark (page / group) else []) ++ page_deeds content group mark pages)
      (page_work page (strokes page (content page)) (beside page (inl refl)) (strokes_in page (content page)) (strokes_whole page (content page)))
      (work_both (if ends_group group page pages then mark (page / group) else []) (page_deeds content group mark pages) (by_end (ends_group group page pages))
      (pages_work content group mark pages (λ n one. beside n (inr one)) (λ n one. marks n (inr one))))
    where
      by_end : (ends : Bool) → AllWork from len at (if ends then mark (page / group) else [])
      by_end true = marks page (inl refl)
      by_end false = tt

-- a mark of the open slot
pub mark_work : (from len : ℕ) (nv : List ℕ) (b : Bank) (group : ℕ) → group < 128 → AllWork from len (current_at nv b) (marked_by (mark_plan nv b) group)
unfolding mark_plan
mark_work from len nv b group small = by_set (is_marked nv b group)
  where
    by_last : (last : Option ℕ) → LastOf (current_page nv b) 64 last → AllWork from len (current_at nv b) (called side.Store (mark_by (current_at nv b) last group) ++ Asks side.Bank ∷ [])
    by_last _ (nothing none) = (tt, (tt, tt))
    by_last _ (found k below gated above) = (record { slot = k; group = group; few = below; small = small; place = omega arith; one = refl }, (tt, (tt, tt)))

    by_set : (set : Bool) → AllWork from len (current_at nv b) (called side.Store (if set then [] else mark_by (current_at nv b) (last_gated (current_page nv b) 64) group) ++ Asks side.Bank ∷ [])
    by_set true = (tt, (tt, tt))
    by_set false = by_last (last_gated (current_page nv b) 64) (last_of (current_page nv b) 64)

-- a bank has at most 128 groups of pages
pub group_small : (size page : ℕ) → page < size / 4096 → page / group_pages size < 128
group_small size page below =
    let g : ℕ = max 1 ((size / 4096 + 127) / 128) in
    let some : zero < g = omega arith in
    let few : page < 128 * g = omega (arith, below) in
    (div-lt_iff_lt-mul {k = g} {x = page} {y = 128} some).1 (omega (arith, few))

pub one_left : (test : ℕ → Bool) (pages : List ℕ) (n : ℕ) → IsOneOf n (filter test pages) → IsOneOf n pages
one_left test [] n one = one
one_left test (page ∷ pages) n one = by_test (test page) one (λ rest. one_left test pages n rest)
  where
    by_test : (t : Bool) → IsOneOf n (if t then page ∷ filter test pages else filter test pages) → (IsOneOf n (filter test pages) → IsOneOf n pages) → IsOneOf n (page ∷ pages)
    by_test true (inl same) rest = inl same
    by_test true (inr one) rest = inr (rest one)
    by_test false one rest = inr (rest one)

-- ---- the passes of both kinds
module _ (from len : ℕ) (b : Bank) (nv image : List ℕ) (content : ℕ → List ℕ) (test : ℕ → Bool) (beside : (page : ℕ) → test page ≡ true → (4096 * page + 4096 ≤ from) ⊎ (from + len ≤ 4096 * page)) where
  abbrev group : ℕ
  group = group_pages (length image)

  heeding_work : (pages : List ℕ) → ((page : ℕ) → IsOneOf page pages → (page < length image / 4096) × (test page ≡ true))
      → AllWork from len (current_at nv b) (page_deeds content (group_pages (length image)) (marked_by (mark_plan nv b)) (left_pages (is_marked nv b) (group_pages (length image)) pages))
  heeding_work pages only =
      let left : List ℕ = left_pages (is_marked nv b) (group_pages (length image)) pages in
      let whole = one_left (λ page. not (is_marked nv b (page / group_pages (length image)))) pages in
      pages_work from len (current_at nv b) content (group_pages (length image)) (marked_by (mark_plan nv b)) left
      (λ n one. beside n (only n (whole n one)).1)
      (λ n one. mark_work from len nv b (n / group_pages (length image)) (group_small (length image) n (only n (whole n one)).0))

  ignoring_work : (pages : List ℕ) → ((page : ℕ) → IsOneOf page pages → (page < length image / 4096) × (test page ≡ true))
      → AllWork from len (current_at nv b) (page_deeds content (group_pages (length image)) unmarked pages)
  ignoring_work pages only = pages_work from len (current_at nv b) content (group_pages (length image)) unmarked pages (λ n one. beside n (only n one).1) (λ n one. tt)

module _ (kind : JobKind) (b : Bank) (image nv : List ℕ) (capsule : CapsuleState) (layout : Layout) (valid : IsValidLayout layout (length image))
    (regions : All (IsRegion layout (length image)) capsule.manifest.regions) where
  abbrev test_active : ℕ → Bool
  test_active n = is_active_page kind image capsule layout n

  -- A job on the active image leaves the recovery area.
  pub active_work : AllWork layout.recovery_at layout.area_len (current_at nv b) (active_heeding kind b image nv capsule layout)
  unfolding active_heeding active_pages
  active_work = (
    tt,
    heeding_work layout.recovery_at layout.area_len b nv image (active_page image capsule layout) (λ n. is_active_page kind image capsule layout n)
        (page_beside kind image capsule layout valid regions) (active_pages kind image capsule layout) (pages_are (is_active_page kind image capsule layout) (length image / 4096)).only,
  )

  pub active_over : AllWork layout.recovery_at layout.area_len (current_at nv b) (active_ignoring kind image capsule layout)
  unfolding active_ignoring active_pages
  active_over = (
    tt,
    ignoring_work layout.recovery_at layout.area_len b nv image (active_page image capsule layout) (λ n. is_active_page kind image capsule layout n)
        (page_beside kind image capsule layout valid regions) (active_pages kind image capsule layout) (pages_are (is_active_page kind image capsule layout) (length image / 4096)).only,
  )

module _ (b : Bank) (image nv : List ℕ) (count : ℕ) (layout : Layout) (valid : IsValidLayout layout (length image)) (fits : count ≤ layout.area_len) where
  recovery_beside : (page : ℕ) → holds_text layout.recovery_at count page ≡ true → (4096 * page + 4096 ≤ layout.staging_at) ⊎ (layout.staging_at + layout.area_len ≤ 4096 * page)
  recovery_beside page holds = by_side valid.apart.recovery_staging
    where
      low : layout.recovery_at ≤ 4096 * page
      low = grind (arith, nat_tests)

      high : 4096 * page < layout.recovery_at + count
      high = grind (arith, nat_tests)

      by_side : ((layout.recovery_at + layout.area_len ≤ layout.staging_at) ⊎ (layout.staging_at + layout.area_len ≤ layout.recovery_at)) → (4096 * page + 4096 ≤ layout.staging_at) ⊎ (layout.staging_at + layout.area_len ≤ 4096 * page)
      by_side (inl before) = inl (omega (arith, before, high, fits, valid.aligned.recovery_at, valid.aligned.area_len))
      by_side (inr behind) = inr (omega (arith, behind, low))

  -- One on the recovery area leaves the staging area.
  pub recovery_work : AllWork layout.staging_at layout.area_len (current_at nv b) (recovery_heeding b image nv count layout)
  unfolding recovery_heeding recovery_pages
  recovery_work = (
    tt,
    heeding_work layout.staging_at layout.area_len b nv image (recovery_page image layout.staging_at count layout) (λ n. holds_text layout.recovery_at count n)
        recovery_beside (recovery_pages layout count (length image)) (pages_are (holds_text layout.recovery_at count) (length image / 4096)).only,
  )

  pub recovery_over : AllWork layout.staging_at layout.area_len (current_at nv b) (recovery_ignoring image count layout)
  unfolding recovery_ignoring recovery_pages
  recovery_over = (
    tt,
    ignoring_work layout.staging_at layout.area_len b nv image (recovery_page image layout.staging_at count layout) (λ n. holds_text layout.recovery_at count n)
        recovery_beside (recovery_pages layout count (length image)) (pages_are (holds_text layout.recovery_at count) (length image / 4096)).only,
  )

-- ---- what a pass keeps
pub record IsPassed (b : Bank) (from len : ℕ) (old new : Story) : Type 0 where
  pub kept : IsKept b old new
  pub still : open_job (store new) b ≡ open_job (store old) b
  pub current : current_at (store new) b ≡ current_at (store old) b
  pub left : from + len ≤ length (mine b old) → bytes_at (mine b new) from len ≡ bytes_at (mine b old) from len

bytes_whole : (image : List ℕ) (op : Operation) → AreBytes image → IsWhole op → AreBytes (applied image op)
bytes_whole image (Erase sector) h whole = AreBytes-applied image (Erase sector) h AreBytes-nil
bytes_whole image (Program at bytes) h whole =
    AreBytes-written image at (and_bytes (bytes_at image at (length bytes)) bytes) h (AreBytes-and (bytes_at image at (length bytes)) bytes (AreBytes-bytes_at image at (length bytes) h))
bytes_whole image (Torn at after) h whole = absurd whole

pub mark_own : (nv : List ℕ) (b : Bank) (op : Operation) → IsMarkAt (current_at nv b) op → IsWithin (log_at b) 0x3000 op
mark_own nv b op m = record {
  low = omega (arith, m.place);
  high = omega (arith, m.place, m.one, m.few, m.small, page_inside b (spent_in (selector nv b)));
}

pub mark_torn : (image : List ℕ) (at : ℕ) (op done : Operation) → IsMarkAt at op → (place_of done ≡ place_of op) × (len_of done ≡ len_of op) → IsMarkAt at done
mark_torn image at op done m same = record { slot = m.slot; group = m.group; few = m.few; small = m.small; place = same.0 ∙ m.place; one = same.1 ∙ m.one }

module _ (b : Bank) (from len : ℕ) where
  pub one_passed : (deed : Deed) (story : Story) → length (store story) ≡ 32768 → IsWork from len (current_at (store story) b) deed → IsPassed b from len story (moved_by (deed_move b deed) story)
  one_passed (Asks which) story size work = record { kept = kept_refl b story; still = refl; current = refl; left = λ inside. refl }
  one_passed (Does side.Bank op) story size work =
      let same : store (operated (device_of b) op story) ≡ store story = store_operated b op story in
      let is : mine b (operated (device_of b) op story) ≡ applied (mine b story) op = image_operated (device_of b) op story in
      record {
        kept = record {
          fuses = ap fuses_of same;
          profile = ap profile_of same;
          store_size = ap (λ (nv : List ℕ). length nv) same;
          size = ap (λ (image : List ℕ). length image) is ∙ length-applied (mine b story) op;
          bytes = λ h. subst AreBytes (sym is) (bytes_whole (mine b story) op h work.1);
        };
        still = ap (λ (nv : List ℕ). open_job nv b) same;
        current = ap (λ (nv : List ℕ). current_at nv b) same;
        left = λ inside. ap (λ (image : List ℕ). bytes_at image from len) is ∙ left_bytes (mine b story) op from len work.0 inside;
      }
  one_passed (Does side.Store op) story size m =
      let is : store (operated device.Nv op story) ≡ applied (store story) op = image_operated device.Nv op story in
      let same : mine b (operated device.Nv op story) ≡ mine b story = mine_operated b op story in
      record {
        kept = kept_logged b (op ∷ []) story size (own_logs b op (mark_own (store story) b op m), tt);
        still = ap (λ (nv : List ℕ). open_job nv b) is ∙ mark_keeps (store story) b size op m.slot m.group m.few m.small m.place m.one;
        current = ap (λ (nv : List ℕ). current_at nv b) is ∙ mark_current (store story) b size op m.slot m.group m.few m.small m.place m.one;
        left = λ inside. ap (λ (image : List ℕ). bytes_at image from len) same;
      }

  pub all_passed : (deeds : List Deed) (story : Story) → length (store story) ≡ 32768 → AllWork from len (current_at (store story) b) deeds → IsPassed b from len story (after (deed_moves b deeds) story)
  all_passed [] story size all = record { kept = kept_refl b story; still = refl; current = refl; left = λ inside. refl }
  all_passed (deed ∷ deeds) story size all =
      let next : Story = moved_by (deed_move b deed) story in
      let one : IsPassed b from len story next = one_passed deed story size all.0 in
      let rest : IsPassed b from len next (after (deed_moves b deeds) next) =
      all_passed deeds next (one.kept.store_size ∙ size) (subst (λ (at : ℕ). AllWork from len at deeds) (sym one.current) all.1) in
      record {
        kept = kept_trans b story next (after (deed_moves b deeds) next) one.kept rest.kept;
        still = rest.still ∙ one.still;
        current = rest.current ∙ one.current;
        left = λ inside. rest.left (subst (λ (n : ℕ). from + len ≤ n) (sym one.kept.size) inside) ∙ one.left inside;
      }

-- ---- a pass is safe
module _ (accepts : Acceptance) (b : Bank) (layout : Layout) where
  -- the layout is that of the store's provision, the devices have their sizes, and no job is open that replaces the recovery area
  pub record IsCalm (story : Story) : Type 0 where
    pub by_layout : (fuses : FusesState) → fuses_of (store story) ≡ Ok fuses → layout_of fuses.provision b ≡ layout
    pub blocks : length (mine b story) % 65536 ≡ 0
    pub size : length (store story) ≡ 32768
    pub calm : NoReplacing b (store story)

  area_left : (op : Operation) (story : Story) → IsCalm story → Leaves layout.recovery_at layout.area_len op → KeepsRecoverable accepts b (DoesMove (device_of b) op) story
  area_left op story c leaves can =
      let r = calm_good accepts b story c.calm can in
      let l : Leaves (layout_of r.fuses.provision b).recovery_at (layout_of r.fuses.provision b).area_len op =
      subst (λ (lay : Layout). Leaves lay.recovery_at lay.area_len op) (sym (c.by_layout r.fuses r.provisioned)) leaves in
      inl (bank_there (λ image nv. HasGoodRecovery b image nv accepts) b op story (recovery_left b (mine b story) (store story) accepts r op c.blocks l))

  one_active : (deed : Deed) (story : Story) → IsCalm story → IsWork layout.recovery_at layout.area_len (current_at (store story) b) deed → IsSafe (KeepsRecoverable accepts b) (deed_move b deed) story
  one_active (Asks which) story c work = tt
  one_active (Does side.Bank op) story c work = (
    area_left op story c work.0,
    λ done t. area_left done story c (leaves_torn (mine b story) layout.recovery_at layout.area_len op done t work.0),
  )
  one_active (Does side.Store op) story c m = logged_safe accepts b op story (calm_good accepts b story c.calm) c.size (own_logs b op (mark_own (store story) b op m))

  calm_then : (old new : Story) → IsPassed b layout.recovery_at layout.area_len old new → IsCalm old → IsCalm new
  calm_then old new p c = record {
    by_layout = λ fuses is. c.by_layout fuses (sym p.kept.fuses ∙ is);
    blocks = subst (λ (n : ℕ). n % 65536 ≡ 0) (sym p.kept.size) c.blocks;
    size = p.kept.store_size ∙ c.size;
    calm = λ digest e. c.calm digest (sym p.still ∙ e);
  }

  -- A pass that leaves the recovery area.
  pub active_safe : (deeds : List Deed) (story : Story) → IsCalm story → AllWork layout.recovery_at layout.area_len (current_at (store story) b) deeds → AllSafe (KeepsRecoverable accepts b) (deed_moves b deeds) story
  active_safe [] story c all = tt
  active_safe (deed ∷ deeds) story c all =
      let next : Story = moved_by (deed_move b deed) story in
      let one : IsPassed b layout.recovery_at layout.area_len story next = one_passed b layout.recovery_at layout.area_len deed story c.size all.0 in (
        one_active deed story c all.0,
        active_safe deeds next (calm_then story next one c) (subst (λ (at : ℕ). AllWork layout.recovery_at layout.area_len at deeds) (sym one.current) all.1),
      )

  abbrev AtWork : Story → Type 0
  AtWork story = IsAtWork layout b (mine b story) (store story) accepts

  bank_work : (op : Operation) (story : Story) → AtWork story → Leaves layout.staging_at layout.area_len op → AtWork (operated (device_of b) op story)
  bank_work op story w leaves = bank_there (λ image nv. IsAtWork layout b image nv accepts) b op story (work_kept layout b (mine b story) (store story) accepts (Does side.Bank op) leaves w)

  store_work : (op : Operation) (story : Story) → AtWork story → IsMarkAt (current_at (store story) b) op → AtWork (operated device.Nv op story)
  store_work op story w m =
      nv_there (λ image nv. IsAtWork layout b image nv accepts) b op story
      (work_kept layout b (mine b story) (store story) accepts (Does side.Store op)
      (own_logs b op (mark_own (store story) b op m), mark_keeps (store story) b w.store op m.slot m.group m.few m.small m.place m.one) w)

  one_staged : (deed : Deed) (story : Story) → AtWork story → IsWork layout.staging_at layout.area_len (current_at (store story) b) deed
      → IsSafe (KeepsRecoverable accepts b) (deed_move b deed) story × AtWork (moved_by (deed_move b deed) story)
  one_staged (Asks which) story w work = (tt, w)
  one_staged (Does side.Bank op) story w work = (
    (
      λ can. inr (bank_work op story w work.0).job,
      λ done t can. inr (bank_work done story w (leaves_torn (mine b story) layout.staging_at layout.area_len op done t work.0)).job,
    ),
    bank_work op story w work.0,
  )
  one_staged (Does side.Store op) story w m = (
    (
      λ can. inr (store_work op story w m).job,
      λ done t can. inr (store_work done story w (mark_torn (store story) (current_at (store story) b) op done m (IsTorn-within (store story) op done t))).job,
    ),
    store_work op story w m,
  )

  -- One that leaves the staging area, from which an open job replaces the recovery area.
  pub staged_safe : (deeds : List Deed) (story : Story) → AtWork story → AllWork layout.staging_at layout.area_len (current_at (store story) b) deeds → AllSafe (KeepsRecoverable accepts b) (deed_moves b deeds) story
  staged_safe [] story w all = tt
  staged_safe (deed ∷ deeds) story w all =
      let next : Story = moved_by (deed_move b deed) story in
      let passed : IsPassed b layout.staging_at layout.area_len story next = one_passed b layout.staging_at layout.area_len deed story w.store all.0 in
      let one = one_staged deed story w all.0 in
      (one.0, staged_safe deeds next one.1 (subst (λ (at : ℕ). AllWork layout.staging_at layout.area_len at deeds) (sym passed.current) all.1))
