-- What holds where the groups below a number were looked at.
use Rattle.std.proofs.Common.{◌≡◌, ◌∙◌, ℕ, suc, ◌+◌, ◌*◌, ◌/◌, ◌≤◌, ◌<◌, ◌&&◌, Bool, true, false, not, min, refl, sym, ap, subst, arith, List, length, Result, Ok, Err, if◌then◌else◌, []}
use Rattle.std.proofs.lemmas.Bool.{false≢true}
use Rattle.pfr_flash.specs.Bytes.{AreBytes}
use Rattle.pfr_flash.specs.FlashState.{now, size_of}
use Rattle.pfr_flash.specs.Operation.{Operation, play}
use Rattle.pfr_flash.specs.declared.layout.Layout.{Layout}
use Rattle.pfr_flash.specs.declared.names.Bank.{Bank}
use Rattle.pfr_flash.proofs.RangeLemmas.{length-now}
use Rattle.pfr_capsule.specs.CapsuleState.{CapsuleState}
use Rattle.pfr_jobs.specs.Log.{open_job}
use Rattle.pfr_jobs.specs.LogPlans.{mark_plan}
use Rattle.pfr_jobs.specs.LogState.{is_marked}
use Rattle.pfr_jobs.specs.declared.job.JobKind.{JobKind}
use Rattle.pfr_jobs.specs.declared.job.OpenJob.TheVariants as job
use Rattle.pfr_rebuilt.specs.Passing.{group_pages, heeding}
use Rattle.pfr_strokes.specs.Deeds.{Deed, marked_by, pass}
use Rattle.pfr_strokes.specs.Passes.{Pair, DidAll, Passes}
use Rattle.pfr_strokes.specs.Replaced.{group_at, has_pages, pages_below, pages_of_group}
use Rattle.pfr_strokes.specs.declared.side.CopyFail.{CopyFail}
use Rattle.pfr_strokes.specs.declared.side.Side.TheVariants as side
use Rattle.pfr_strokes.proofs.GroupLaws.{in_group, of_between}
use Rattle.pfr_strokes.proofs.HeedLaws.{group_same, heeds_all, heeds_none, heeds_on, heeds_past, heeds_stop}
use Rattle.pfr_strokes.proofs.PassesLemmas.{Did-now}
use Rattle.pfr_strokes.proofs.PassLaws.{marked_none, pass_strokes}
use Rattle.pfr_strokes.proofs.ReplacedLaws.{pages_are}
use Rattle.pfr_strokes.proofs.StretchLaws.{group_store}
use Rattle.pfr_copy.specs.Working.{CanDo, is_job_page, job_page, job_pages}
use Rattle.pfr_copy.proofs.JobLaw.{AreJobPages, SameJob, job_stays}
use Rattle.pfr_copy.proofs.MarkLaw.{IsLogAt, LogStep, log_begins, log_on, log_past, mark_step, same_mark}

-- the pages of the groups below a number that aren't marked
abbrev pub heeded : (ℕ → Bool) → (ℕ → Bool) → ℕ → ℕ → ℕ → List ℕ
heeded test marked group all number = pages_below (λ (page : ℕ). test page && not (marked (page / group))) (group_at group all number)

-- a bank has at most 128 groups
pub some_pages : (size : ℕ) → 0 < group_pages size
some_pages size = omega arith

pub enough_groups : (size : ℕ) → size / 4096 ≤ 128 * group_pages size
enough_groups size = omega arith

-- the groups below a number were done
pub record IsHeeded (kind : JobKind) (capsule : CapsuleState) (layout : Layout) (bank : Bank) (a b : Pair) (number : ℕ) : Type 0 where
  pub did : DidAll (pass (job_page kind (now a.bank) capsule layout) (group_pages (length (now a.bank))) (marked_by (mark_plan (now a.store) bank))
      (heeded (is_job_page kind (now a.bank) capsule layout) (is_marked (now a.store) bank) (group_pages (length (now a.bank))) (length (now a.bank) / 4096) number)) a b
  pub log : IsLogAt (now a.store) (now b.store) bank (λ (g : ℕ). has_pages (pages_of_group (is_job_page kind (now a.bank) capsule layout) (group_pages (length (now a.bank))) (length (now a.bank) / 4096) g)) number

module _ (kind : JobKind) (capsule : CapsuleState) (layout : Layout) (bank : Bank) (a : Pair) where
  content : ℕ → List ℕ
  content = job_page kind (now a.bank) capsule layout

  test : ℕ → Bool
  test = is_job_page kind (now a.bank) capsule layout

  marked : ℕ → Bool
  marked = is_marked (now a.store) bank

  plan : ℕ → List Operation
  plan = mark_plan (now a.store) bank

  group : ℕ
  group = group_pages (length (now a.bank))

  all : ℕ
  all = length (now a.bank) / 4096

  some : 0 < group_pages (length (now a.bank))
  some = some_pages (length (now a.bank))

  pub heeded_none : size_of a.store ≡ 32768 → IsHeeded kind capsule layout bank a a 0
  unfolding content test marked plan group all
  heeded_none size = record {
    did = heeds_none content group all some test marked plan a;
    log = log_begins (now a.store) bank (λ (g : ℕ). has_pages (pages_of_group test group all g)) (length-now a.store ∙ size);
  }

  -- a group that is marked
  pub heeded_past : (b : Pair) (number : ℕ) → is_marked (now a.store) bank number ≡ true → IsHeeded kind capsule layout bank a b number → IsHeeded kind capsule layout bank a b (suc number)
  unfolding content test marked plan group all
  heeded_past b number e h = record {
    did = subst (λ (pages : List ℕ). DidAll (pass content group (marked_by plan) pages) a b) (sym (heeds_past content group all some test marked plan number e)) h.did;
    log = log_past (now a.store) bank (λ (g : ℕ). has_pages (pages_of_group test group all g)) (now b.store) number e h.log;
  }

  pub kept_past : (b : Pair) (number next : ℕ) → next ≡ number + 1 → is_marked (now a.store) bank number ≡ true → IsHeeded kind capsule layout bank a b number → IsHeeded kind capsule layout bank a b next
  kept_past b number next is e h =
      let same : suc number ≡ next = omega (arith, is) in
      subst (λ (n : ℕ). IsHeeded kind capsule layout bank a b n) same (heeded_past b number e h)

  -- the pages so far are the job's
  pub left_are : (number : ℕ) → AreJobPages kind (now a.bank) capsule layout (heeded (is_job_page kind (now a.bank) capsule layout) (is_marked (now a.store) bank) (group_pages (length (now a.bank))) (length (now a.bank) / 4096) number)
  left_are number n one =
      let is = (pages_are (λ (page : ℕ). is_job_page kind (now a.bank) capsule layout page && not (is_marked (now a.store) bank (page / group_pages (length (now a.bank))))) (group_at (group_pages (length (now a.bank))) (length (now a.bank) / 4096) number)).only n one in
      (by_product (number * group_pages (length (now a.bank))) is.0, first (is_job_page kind (now a.bank) capsule layout n) (not (is_marked (now a.store) bank (n / group_pages (length (now a.bank))))) is.1)
    where
      first : (p q : Bool) → (p && q) ≡ true → p ≡ true
      first true q e = refl
      first false q e = absurd (false≢true e)

      by_product : (m : ℕ) → n < min m (length (now a.bank) / 4096) → n < length (now a.bank) / 4096
      by_product m h = omega (arith, h)

  module _ (b : Pair) (number : ℕ) (h : IsHeeded kind capsule layout bank a b number) (can : CanDo kind (now a.bank) layout capsule) (bytes : AreBytes (now a.bank)) where
    -- the job is the same still
    pub heeded_same : SameJob kind (now a.bank) (now b.bank) capsule layout
    heeded_same =
        let pages : List ℕ = heeded (is_job_page kind (now a.bank) capsule layout) (is_marked (now a.store) bank) (group_pages (length (now a.bank))) (length (now a.bank) / 4096) number in
        subst (λ (image : List ℕ). SameJob kind (now a.bank) image capsule layout)
        (sym (Did-now _ a.bank b.bank (h.did.each side.Bank)
        ∙ ap (λ (ops : List Operation). play (now a.bank) ops) (pass_strokes (job_page kind (now a.bank) capsule layout) (group_pages (length (now a.bank))) (marked_by (mark_plan (now a.store) bank)) (marked_none (mark_plan (now a.store) bank)) pages)))
        (job_stays (now a.bank) capsule layout bytes kind can pages (left_are number))

    pub bank_size : size_of b.bank ≡ size_of a.bank
    bank_size = ap (λ (image : List ℕ). length image) (h.did.each side.Bank).worked.moved.start

    pub store_size : size_of b.store ≡ size_of a.store
    store_size = ap (λ (image : List ℕ). length image) (h.did.each side.Store).worked.moved.start

    -- and so is the pass over the next group
    next_same : (size : ℕ) → size ≡ length (now a.bank)
        → pass (job_page kind (now b.bank) capsule layout) (group_pages size) (marked_by (mark_plan (now b.store) bank)) (pages_of_group (is_job_page kind (now b.bank) capsule layout) (group_pages size) (size / 4096) number)
        ≡ pass (job_page kind (now a.bank) capsule layout) (group_pages (length (now a.bank))) (marked_by (mark_plan (now a.store) bank)) (pages_of_group (is_job_page kind (now a.bank) capsule layout) (group_pages (length (now a.bank))) (length (now a.bank) / 4096) number)
    next_same size is =
        let s = heeded_same in
        ap (λ (n : ℕ). pass (job_page kind (now b.bank) capsule layout) (group_pages n) (marked_by (mark_plan (now b.store) bank)) (pages_of_group (is_job_page kind (now b.bank) capsule layout) (group_pages n) (n / 4096) number)) is
        ∙ group_same (job_page kind (now a.bank) capsule layout) (job_page kind (now b.bank) capsule layout) (is_job_page kind (now a.bank) capsule layout) (is_job_page kind (now b.bank) capsule layout)
        (mark_plan (now a.store) bank) (mark_plan (now b.store) bank) (group_pages (length (now a.bank))) (length (now a.bank) / 4096) number some
        s.content s.test (same_mark (now a.store) bank (λ (g : ℕ). has_pages (pages_of_group (is_job_page kind (now a.bank) capsule layout) (group_pages (length (now a.bank))) (length (now a.bank) / 4096) g)) (now b.store) number h.log)

    module _ (unset : is_marked (now a.store) bank number ≡ false) (c : Pair) where
      pub next_passes : {B : Type 0} (result : Result B CopyFail)
          → Passes (pass (job_page kind (now b.bank) capsule layout) (group_pages (length (now b.bank))) (marked_by (mark_plan (now b.store) bank))
          (pages_of_group (is_job_page kind (now b.bank) capsule layout) (group_pages (length (now b.bank))) (length (now b.bank) / 4096) number)) b c result
          → Passes (pass (job_page kind (now a.bank) capsule layout) (group_pages (length (now a.bank))) (marked_by (mark_plan (now a.store) bank))
          (pages_of_group (is_job_page kind (now a.bank) capsule layout) (group_pages (length (now a.bank))) (length (now a.bank) / 4096) number)) b c result
      next_passes result k = subst (λ (deeds : List Deed). Passes deeds b c result) (next_same (length (now b.bank)) heeded_same.size) k

      whole_passes : {B : Type 0} (result : Result B CopyFail)
          → Passes (pass (job_page kind (now b.bank) capsule layout) (group_pages (length (now b.bank))) (marked_by (mark_plan (now b.store) bank))
          (pages_of_group (is_job_page kind (now b.bank) capsule layout) (group_pages (length (now b.bank))) (length (now b.bank) / 4096) number)) b c result
          → Passes (pass (job_page kind (now a.bank) capsule layout) (group_pages (length (now a.bank))) (marked_by (mark_plan (now a.store) bank))
          (heeded (is_job_page kind (now a.bank) capsule layout) (is_marked (now a.store) bank) (group_pages (length (now a.bank))) (length (now a.bank) / 4096) (suc number))) a c result
      whole_passes result k =
          heeds_on (job_page kind (now a.bank) capsule layout) (group_pages (length (now a.bank))) (length (now a.bank) / 4096) some (is_job_page kind (now a.bank) capsule layout) (is_marked (now a.store) bank) (mark_plan (now a.store) bank)
          number a b c result unset h.did (next_passes result k)

      -- the next group was done
      pub heeded_on : number < 128 → ¬ (open_job (now a.store) bank ≡ job.None)
          → DidAll (pass (job_page kind (now b.bank) capsule layout) (group_pages (length (now b.bank))) (marked_by (mark_plan (now b.store) bank))
          (pages_of_group (is_job_page kind (now b.bank) capsule layout) (group_pages (length (now b.bank))) (length (now b.bank) / 4096) number)) b c
          → IsHeeded kind capsule layout bank a c (suc number)
      heeded_on small opened k =
          let done : DidAll (pass (job_page kind (now a.bank) capsule layout) (group_pages (length (now a.bank))) (marked_by (mark_plan (now a.store) bank))
          (pages_of_group (is_job_page kind (now a.bank) capsule layout) (group_pages (length (now a.bank))) (length (now a.bank) / 4096) number)) b c = next_passes {B = Unit {0}} (Ok tt) k in
          record {
            did = whole_passes {B = Unit {0}} (Ok tt) k;
            log = log_on (now a.store) bank (λ (g : ℕ). has_pages (pages_of_group (is_job_page kind (now a.bank) capsule layout) (group_pages (length (now a.bank))) (length (now a.bank) / 4096) g)) (now b.store) (now c.store) number h.log
                (store_step (has_pages (pages_of_group (is_job_page kind (now a.bank) capsule layout) (group_pages (length (now a.bank))) (length (now a.bank) / 4096) number)) (Did-now _ b.store c.store (done.each side.Store)
                ∙ ap (λ (ops : List Operation). play (now b.store) ops) (group_store (job_page kind (now a.bank) capsule layout) (group_pages (length (now a.bank))) number
                (pages_of_group (is_job_page kind (now a.bank) capsule layout) (group_pages (length (now a.bank))) (length (now a.bank) / 4096) number)
                (λ mark. of_between (job_page kind (now a.bank) capsule layout) (group_pages (length (now a.bank))) mark (is_job_page kind (now a.bank) capsule layout) number _ _ (λ j below. in_group (group_pages (length (now a.bank))) (length (now a.bank) / 4096) number some j below))
                (mark_plan (now a.store) bank))));
          }
        where
          store_step : (has : Bool) → now c.store ≡ play (now b.store) (if has then mark_plan (now a.store) bank number else []) → LogStep (now b.store) (now c.store) bank number has
          store_step has is =
              subst (λ (nv : List ℕ). LogStep (now b.store) nv bank number has)
              (ap (λ (ops : List Operation). play (now b.store) (if has then ops else [])) (same_mark (now a.store) bank (λ (g : ℕ). has_pages (pages_of_group (is_job_page kind (now a.bank) capsule layout) (group_pages (length (now a.bank))) (length (now a.bank) / 4096) g)) (now b.store) number h.log) ∙ sym is)
              (mark_step (now b.store) bank h.log.size number has small (λ none. opened (sym h.log.opened ∙ none)))

      -- or failed
      pub heeded_stop : (B C : Type 0) (fail : CopyFail)
          → Passes {T = B} (pass (job_page kind (now b.bank) capsule layout) (group_pages (length (now b.bank))) (marked_by (mark_plan (now b.store) bank))
          (pages_of_group (is_job_page kind (now b.bank) capsule layout) (group_pages (length (now b.bank))) (length (now b.bank) / 4096) number)) b c (Err fail)
          → Passes {T = C} (heeding bank (now a.store) (job_page kind (now a.bank) capsule layout) (group_pages (length (now a.bank))) (job_pages kind (now a.bank) capsule layout)) a c (Err fail)
      heeded_stop B C fail k =
          heeds_stop (job_page kind (now a.bank) capsule layout) (group_pages (length (now a.bank))) (length (now a.bank) / 4096) some (is_job_page kind (now a.bank) capsule layout) (is_marked (now a.store) bank) (mark_plan (now a.store) bank)
          (enough_groups (length (now a.bank))) B C (suc number) a c fail (whole_passes {B = B} (Err fail) k)

      -- the same by the log that is kept
      module _ (other : Bank) (same : other ≡ bank) where
        pub kept_on : (next : ℕ) → next ≡ number + 1 → number < 128 → ¬ (open_job (now a.store) bank ≡ job.None) → DidAll (pass (job_page kind (now b.bank) capsule layout) (group_pages (length (now b.bank))) (marked_by (mark_plan (now b.store) other))
            (pages_of_group (is_job_page kind (now b.bank) capsule layout) (group_pages (length (now b.bank))) (length (now b.bank) / 4096) number)) b c → IsHeeded kind capsule layout bank a c next
        kept_on next is small opened k =
            let e : suc number ≡ next = omega (arith, is) in
            subst (λ (n : ℕ). IsHeeded kind capsule layout bank a c n) e (heeded_on small opened (subst (λ (which : Bank). DidAll (pass (job_page kind (now b.bank) capsule layout) (group_pages (length (now b.bank))) (marked_by (mark_plan (now b.store) which))
            (pages_of_group (is_job_page kind (now b.bank) capsule layout) (group_pages (length (now b.bank))) (length (now b.bank) / 4096) number)) b c) same k))

        pub kept_stop : (B C : Type 0) (fail : CopyFail) (result : Result C CopyFail) → Passes {T = B} (pass (job_page kind (now b.bank) capsule layout) (group_pages (length (now b.bank))) (marked_by (mark_plan (now b.store) other))
            (pages_of_group (is_job_page kind (now b.bank) capsule layout) (group_pages (length (now b.bank))) (length (now b.bank) / 4096) number)) b c (Err fail) → result ≡ Err fail
            → Passes (heeding bank (now a.store) (job_page kind (now a.bank) capsule layout) (group_pages (length (now a.bank))) (job_pages kind (now a.bank) capsule layout)) a c result
        kept_stop B C fail result k is =
            subst (λ (r : Result C CopyFail). Passes (heeding bank (now a.store) (job_page kind (now a.bank) capsule layout) (group_pages (length (now a.bank))) (job_pages kind (now a.bank) capsule layout)) a c r) (sym is)
            (heeded_stop B C fail (subst (λ (which : Bank). Passes {T = B} (pass (job_page kind (now b.bank) capsule layout) (group_pages (length (now b.bank))) (marked_by (mark_plan (now b.store) which))
            (pages_of_group (is_job_page kind (now b.bank) capsule layout) (group_pages (length (now b.bank))) (length (now b.bank) / 4096) number)) b c (Err fail)) same k))

    -- all groups were done
    pub heeded_all : number ≡ 128 → DidAll (heeding bank (now a.store) (job_page kind (now a.bank) capsule layout) (group_pages (length (now a.bank))) (job_pages kind (now a.bank) capsule layout)) a b
    heeded_all is =
        subst (λ (pages : List ℕ). DidAll (pass (job_page kind (now a.bank) capsule layout) (group_pages (length (now a.bank))) (marked_by (mark_plan (now a.store) bank)) pages) a b)
        (heeds_all (job_page kind (now a.bank) capsule layout) (group_pages (length (now a.bank))) (length (now a.bank) / 4096) some (is_job_page kind (now a.bank) capsule layout) (is_marked (now a.store) bank) (mark_plan (now a.store) bank)
        (enough_groups (length (now a.bank))))
        (subst (λ (n : ℕ). DidAll (pass (job_page kind (now a.bank) capsule layout) (group_pages (length (now a.bank))) (marked_by (mark_plan (now a.store) bank))
        (heeded (is_job_page kind (now a.bank) capsule layout) (is_marked (now a.store) bank) (group_pages (length (now a.bank))) (length (now a.bank) / 4096) n)) a b) is h.did)
