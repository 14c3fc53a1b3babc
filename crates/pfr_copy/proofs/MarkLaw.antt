-- What marks leave of a bank's log.
use Rattle.std.proofs.Common.{◌≡◌, ◌∙◌, ℕ, zero, suc, ◌+◌, ◌*◌, ◌≤◌, ◌<◌, ◌==◌, ◌||◌, Bool, true, false, if◌then◌else◌, refl, sym, ap, subst, arith, List, [], length, Option, Some, ◌⊎◌, inl, inr}
use Rattle.std.proofs.lemmas.Bool.{cases_lt}
use Rattle.std.proofs.lemmas.Bool.Decides.{nat_tests}
use Rattle.pfr_flash.specs.FuseRow.{IsCleared, fuse_at, is_cleared, with_cleared}
use Rattle.pfr_flash.specs.Operation.{Operation, play}
use Rattle.pfr_flash.specs.declared.names.Bank.{Bank}
use Rattle.pfr_flash.proofs.BytesLemmas.{length-bytes_at}
use Rattle.pfr_flash.proofs.FuseLemmas.{IsCleared-with_cleared}
use Rattle.pfr_flash.proofs.PlayLemmas.{length-play}
use Rattle.pfr_jobs.specs.Log.{current_at, current_page, last_gated, open_by, open_in, open_job}
use Rattle.pfr_jobs.specs.LogPlans.{mark_by, mark_plan}
use Rattle.pfr_jobs.specs.LogState.{LogState, is_marked, marks_in, marks_of}
use Rattle.pfr_jobs.specs.declared.job.OpenJob.TheVariants as job
use Rattle.pfr_jobs.proofs.CallLaws.{mark_stands, mark_plan_set}
use Rattle.pfr_jobs.proofs.LogLaws.{LastOf, nothing, found, last_of, current_inside}

-- ---- rows of marks
same_zero : (x y : ℕ) → (x ≡ 0 → y ≡ 0) → (y ≡ 0 → x ≡ 0) → (x == 0) ≡ (y == 0)
same_zero zero zero f g = refl
same_zero zero (suc y) f g = absurd (omega (arith, f refl))
same_zero (suc x) zero f g = absurd (omega (arith, g refl))
same_zero (suc x) (suc y) f g = grind (arith, nat_tests)

is_zero : (x : ℕ) → x ≡ 0 → (x == 0) ≡ true
is_zero zero e = refl
is_zero (suc x) e = absurd (omega (arith, e))

module _ (row : List ℕ) (bit : ℕ) (inside : bit < 8 * length row) where
  cleared_here : is_cleared (with_cleared row bit) bit ≡ true
  cleared_here = is_zero (fuse_at (with_cleared row bit) bit) ((IsCleared-with_cleared row bit bit inside).1 (inr refl))

  cleared_others : (k : ℕ) → ¬ (k ≡ bit) → is_cleared (with_cleared row bit) k ≡ is_cleared row k
  cleared_others k other =
      same_zero (fuse_at (with_cleared row bit) k) (fuse_at row k)
      (λ e. by_side ((IsCleared-with_cleared row bit k inside).0 e)) (λ e. (IsCleared-with_cleared row bit k inside).1 (inl e))
    where
      by_side : (IsCleared row k ⊎ (k ≡ bit)) → IsCleared row k
      by_side (inl e) = e
      by_side (inr same) = absurd (other same)

-- ---- a mark
-- the log is as it was, but for this group's mark
pub record LogStep (nv later : List ℕ) (b : Bank) (number : ℕ) (some : Bool) : Type 0 where
  pub size : length later ≡ 32768
  pub current : current_at later b ≡ current_at nv b
  pub last : last_gated (current_page later b) 64 ≡ last_gated (current_page nv b) 64
  pub opened : open_job later b ≡ open_job nv b
  pub others : (g : ℕ) → ¬ (g ≡ number) → is_marked later b g ≡ is_marked nv b g
  pub here : is_marked later b number ≡ (is_marked nv b number || some)

marks_long : (nv : List ℕ) (b : Bank) (k : ℕ) → length nv ≡ 32768 → k < 64 → last_gated (current_page nv b) 64 ≡ Some k → length (marks_of nv b) ≡ 16
unfolding marks_of
marks_long nv b k size few last =
    let page : length (current_page nv b) ≡ 4096 = length-bytes_at nv (current_at nv b) 4096 (omega (arith, current_inside nv b, size)) in
    ap (λ (l : Option ℕ). length (marks_in (current_page nv b) l)) last ∙ length-bytes_at (current_page nv b) (64 * k + 36) 16 (omega (arith, page, few))

or_none : (b : Bool) → b ≡ (b || false)
or_none true = refl
or_none false = refl

module _ (nv : List ℕ) (b : Bank) (size : length nv ≡ 32768) where
  stays : (number : ℕ) → LogStep nv nv b number false
  stays number = record { size = size; current = refl; last = refl; opened = refl; others = λ g other. refl; here = or_none (is_marked nv b number) }

  set_already : (number : ℕ) → is_marked nv b number ≡ true → LogStep nv nv b number true
  set_already number e = record { size = size; current = refl; last = refl; opened = refl; others = λ g other. refl; here = e ∙ sym (ap (λ (t : Bool). t || true) e) }

  newly : (number k : ℕ) → number < 128 → k < 64 → last_gated (current_page nv b) 64 ≡ Some k → is_marked nv b number ≡ false → LogStep nv (play nv (mark_plan nv b number)) b number true
  newly number k small few last e =
      let is = mark_stands nv b k last number size small e in
      let marks : marks_of (play nv (mark_plan nv b number)) b ≡ with_cleared (marks_of nv b) number = ap (λ (l : LogState). l.marks) is in
      let long : length (marks_of nv b) ≡ 16 = marks_long nv b k size few last in
      record {
        size = length-play nv (mark_plan nv b number) ∙ size;
        current = ap (λ (l : LogState). l.page) is;
        last = ap (λ (l : LogState). l.last) is;
        opened = ap (λ (l : LogState). l.job) is;
        others = λ g other. ap (λ (row : List ℕ). is_cleared row g) marks ∙ cleared_others (marks_of nv b) number (omega (arith, long, small)) g other;
        here = ap (λ (row : List ℕ). is_cleared row number) marks ∙ cleared_here (marks_of nv b) number (omega (arith, long, small)) ∙ sym (ap (λ (t : Bool). t || true) e);
      }

  -- A group's mark is set, or nothing is done.
  pub mark_step : (number : ℕ) (some : Bool) → number < 128 → ¬ (open_job nv b ≡ job.None) → LogStep nv (play nv (if some then mark_plan nv b number else [])) b number some
  unfolding open_job open_in
  mark_step number false small opened = stays number
  mark_step number true small opened = by_mark (is_marked nv b number) refl
    where
      by_last : (last : Option ℕ) → LastOf (current_page nv b) 64 last → last_gated (current_page nv b) 64 ≡ last → is_marked nv b number ≡ false → LogStep nv (play nv (mark_plan nv b number)) b number true
      by_last _ (nothing none) last e = absurd (opened (ap (λ (l : Option ℕ). open_by (current_page nv b) l) last))
      by_last _ (found k few gated above) last e = newly number k small few last e

      by_mark : (t : Bool) → is_marked nv b number ≡ t → LogStep nv (play nv (mark_plan nv b number)) b number true
      by_mark true e = subst (λ (ops : List Operation). LogStep nv (play nv ops) b number true) (sym (mark_plan_set nv b number e)) (set_already number e)
      by_mark false e = by_last (last_gated (current_page nv b) 64) (last_of (current_page nv b) 64) refl e

-- ---- marks of groups, one after the other
-- The log as it is once the groups below a number were looked at, and those of them that were touched were marked.
pub record IsLogAt (nv later : List ℕ) (b : Bank) (touched : ℕ → Bool) (number : ℕ) : Type 0 where
  pub size : length later ≡ 32768
  pub current : current_at later b ≡ current_at nv b
  pub last : last_gated (current_page later b) 64 ≡ last_gated (current_page nv b) 64
  pub opened : open_job later b ≡ open_job nv b
  pub ahead : (g : ℕ) → number ≤ g → is_marked later b g ≡ is_marked nv b g
  pub behind : (g : ℕ) → g < number → is_marked later b g ≡ (is_marked nv b g || touched g)

module _ (nv : List ℕ) (b : Bank) (touched : ℕ → Bool) where
  pub log_begins : length nv ≡ 32768 → IsLogAt nv nv b touched 0
  log_begins size = record { size = size; current = refl; last = refl; opened = refl; ahead = λ g h. refl; behind = λ g h. absurd (omega arith) }

  -- a group that is marked was passed over
  pub log_past : (later : List ℕ) (number : ℕ) → is_marked nv b number ≡ true → IsLogAt nv later b touched number → IsLogAt nv later b touched (suc number)
  log_past later number e h = record {
    size = h.size;
    current = h.current;
    last = h.last;
    opened = h.opened;
    ahead = λ g from. h.ahead g (omega (arith, from));
    behind = λ g below. by_number g below (cases_lt g number);
  }
    where
      by_number : (g : ℕ) → g < suc number → (g < number) ⊎ (number ≤ g) → is_marked later b g ≡ (is_marked nv b g || touched g)
      by_number g below (inl less) = h.behind g less
      by_number g below (inr from) =
          let same : number ≡ g = omega arith in
          subst (λ (n : ℕ). is_marked later b n ≡ (is_marked nv b n || touched n)) same (h.ahead number (omega arith) ∙ e ∙ sym (ap (λ (t : Bool). t || touched number) e))

  -- another one was done
  pub log_on : (later next : List ℕ) (number : ℕ) → IsLogAt nv later b touched number → LogStep later next b number (touched number) → IsLogAt nv next b touched (suc number)
  log_on later next number h step = record {
    size = step.size;
    current = step.current ∙ h.current;
    last = step.last ∙ h.last;
    opened = step.opened ∙ h.opened;
    ahead = λ g from. step.others g (λ same. absurd (omega (arith, from, same))) ∙ h.ahead g (omega (arith, from));
    behind = λ g below. by_number g below (cases_lt g number);
  }
    where
      by_number : (g : ℕ) → g < suc number → (g < number) ⊎ (number ≤ g) → is_marked next b g ≡ (is_marked nv b g || touched g)
      by_number g below (inl less) = step.others g (λ same. absurd (omega (arith, less, same))) ∙ h.behind g less
      by_number g below (inr from) =
          let same : number ≡ g = omega arith in
          subst (λ (n : ℕ). is_marked next b n ≡ (is_marked nv b n || touched n)) same (step.here ∙ ap (λ (t : Bool). t || touched number) (h.ahead number (omega arith)))

  -- a mark to come is the same as at first
  pub same_mark : (later : List ℕ) (number : ℕ) → IsLogAt nv later b touched number → mark_plan later b number ≡ mark_plan nv b number
  unfolding mark_plan
  same_mark later number h =
      ap (λ (t : Bool). if t then [] else mark_by (current_at later b) (last_gated (current_page later b) 64) number) (h.ahead number (omega arith))
      ∙ ap (λ (at : ℕ). if is_marked nv b number then [] else mark_by at (last_gated (current_page later b) 64) number) h.current
      ∙ ap (λ (l : Option ℕ). if is_marked nv b number then [] else mark_by (current_at nv b) l number) h.last
