-- Groups that are marked one after another are marked at once.
use Rattle.std.proofs.Common.{◌≡◌, ◌∙◌, ℕ, zero, suc, ◌+◌, ◌*◌, ◌/◌, ◌≤◌, ◌<◌, Bool, true, false, List, [], ◌∷◌, ◌++◌, length, length-set, get_or, bit_and, Option, Some, None, refl, sym, ap, subst, arith}
use Rattle.std.specs.List.{AllByRecursion}
use Rattle.pfr_flash.specs.Bytes.{AreBytes, bytes_at, written}
use Rattle.pfr_flash.specs.FuseRow.{fuse_byte, with_cleared}
use Rattle.pfr_flash.specs.Operation.{Operation, Program, play}
use Rattle.pfr_flash.specs.declared.names.Bank.{Bank}
use Rattle.pfr_flash.proofs.AreBytesLemmas.{AreBytes-nil, AreBytes-cons, AreBytes-applied}
use Rattle.pfr_flash.proofs.BytesLemmas.{length-bytes_at, bytes_at-written}
use Rattle.pfr_flash.proofs.PlayLemmas.{length-play}
use Rattle.pfr_jobs.specs.Log.{current_at, current_page, last_gated}
use Rattle.pfr_jobs.specs.LogPlans.{mark_plan}
use Rattle.pfr_jobs.specs.LogState.{LogState, is_marked}
use Rattle.pfr_jobs.specs.Logged.{all_cleared, marked_by, marked}
use Rattle.pfr_jobs.proofs.CallLaws.{mark_plan_is, mark_plan_set, mark_plan_none, mark_stands}
use Rattle.pfr_jobs.proofs.LogLaws.{LastOf, nothing, found, last_of, current_inside}
use Rattle.pfr_jobs.proofs.LoggedLaws.{own_bytes, mark_written}

-- ---- lists
-- what is written over what was written
written_twice : (image : List ℕ) (at : ℕ) (xs ys : List ℕ) → length xs ≤ length ys → written (written image at xs) at ys ≡ written image at ys
unfolding written
written_twice [] at xs ys h = refl
written_twice (i ∷ image) (suc at) xs ys h = ap (λ (zs : List ℕ). i ∷ zs) (written_twice image at xs ys h)
written_twice (i ∷ image) zero [] ys h = refl
written_twice (i ∷ image) zero (x ∷ xs) [] h = absurd (omega arith)
written_twice (i ∷ image) zero (x ∷ xs) (y ∷ ys) h = ap (λ (zs : List ℕ). y ∷ zs) (written_twice image zero xs ys (omega arith))

length-with_cleared : (row : List ℕ) (bit : ℕ) → length (with_cleared row bit) ≡ length row
unfolding with_cleared
length-with_cleared row bit = length-set row (bit / 8) (bit_and (get_or row (bit / 8) 0) (fuse_byte bit))

length-all_cleared : (row bits : List ℕ) → length (all_cleared row bits) ≡ length row
length-all_cleared row [] = refl
length-all_cleared row (bit ∷ bits) = length-all_cleared (with_cleared row bit) bits ∙ length-with_cleared row bit

small_fuse : (bit : ℕ) → fuse_byte bit < 256
unfolding fuse_byte
small_fuse bit = omega arith

-- ---- one group, and more
module _ (nv : List ℕ) (b : Bank) (group : ℕ) (size : length nv ≡ 32768) (small : group < 128) where
  -- nothing is done, or the group's fuse is cleared
  by_mark : (P : List ℕ → Type 0) → P nv
      → ((k : ℕ) → last_gated (current_page nv b) 64 ≡ Some k → is_marked nv b group ≡ false → P (play nv (mark_plan nv b group))) → P (play nv (mark_plan nv b group))
  by_mark P none one = by_set (is_marked nv b group) refl (last_gated (current_page nv b) 64) refl
    where
      by_set : (set : Bool) → is_marked nv b group ≡ set → (last : Option ℕ) → last_gated (current_page nv b) 64 ≡ last → P (play nv (mark_plan nv b group))
      by_set true m last e = subst (λ (ops : List Operation). P (play nv ops)) (sym (mark_plan_set nv b group m)) none
      by_set false m None e = subst (λ (ops : List Operation). P (play nv ops)) (sym (mark_plan_none nv b group m e)) none
      by_set false m (Some k) e = one k e m

  -- the page stays the current one, and its last gated slot the last one
  record SameSlot (image : List ℕ) : Type 0 where
    page : current_at image b ≡ current_at nv b
    last : last_gated (current_page image b) 64 ≡ last_gated (current_page nv b) 64

  same_slot : SameSlot (play nv (mark_plan nv b group))
  same_slot = by_mark SameSlot (record { page = refl; last = refl }) (λ k e m. let s = mark_stands nv b k e group size small m in
      record { page = ap (λ (l : LogState). l.page) s; last = ap (λ (l : LogState). l.last) s })

  module _ (bytes : AreBytes nv) where
    pub marked_bytes : AreBytes (marked nv b (group ∷ []))
    marked_bytes = subst AreBytes (mark_written nv b group size small bytes) (by_mark AreBytes bytes (λ k e m.
        subst (λ (ops : List Operation). AreBytes (play nv ops)) (sym (mark_plan_is nv b k e group m))
        (AreBytes-applied nv (Program (current_at nv b + 64 * k + 36 + group / 8) (fuse_byte group ∷ [])) bytes (AreBytes-cons (fuse_byte group) [] (small_fuse group) AreBytes-nil))))

    pub marked_size : length (marked nv b (group ∷ [])) ≡ 32768
    marked_size = sym (ap (λ (image : List ℕ). length image) (mark_written nv b group size small bytes)) ∙ length-play nv (mark_plan nv b group) ∙ size

    same_marked : SameSlot (marked nv b (group ∷ []))
    same_marked = subst SameSlot (mark_written nv b group size small bytes) same_slot

    pub marked_front : (groups : List ℕ) → marked nv b (group ∷ groups) ≡ marked (marked nv b (group ∷ [])) b groups
    unfolding marked
    marked_front groups =
        by_last (last_gated (current_page nv b) 64) (last_of (current_page nv b) 64)
        ∙ sym (ap (λ (at : ℕ). marked_by one at (last_gated (current_page one b) 64) groups) same_marked.page ∙ ap (λ (last : Option ℕ). marked_by one (current_at nv b) last groups) same_marked.last)
      where
        one : List ℕ
        one = marked nv b (group ∷ [])

        by_last : (last : Option ℕ) → LastOf (current_page nv b) 64 last → marked_by nv (current_at nv b) last (group ∷ groups) ≡ marked_by (marked_by nv (current_at nv b) last (group ∷ [])) (current_at nv b) last groups
        by_last _ (nothing none) = refl
        by_last _ (found k few gated above) =
            sym (written_twice nv at row (all_cleared row groups) (omega (arith, length-all_cleared row groups)))
            ∙ ap (λ (now_row : List ℕ). written (written nv at row) at (all_cleared now_row groups)) (sym again)
          where
            at : ℕ
            at = current_at nv b + 64 * k + 36

            row : List ℕ
            row = with_cleared (bytes_at nv at 16) group

            row_len : length row ≡ 16
            row_len = length-with_cleared (bytes_at nv at 16) group ∙ length-bytes_at nv at 16 (omega (arith, size, current_inside nv b, few))

            again : bytes_at (written nv at row) at 16 ≡ row
            again = ap (λ (count : ℕ). bytes_at (written nv at row) at count) (sym row_len) ∙ bytes_at-written nv at row (omega (arith, row_len, size, current_inside nv b, few))

-- ---- many groups, and more
pub marked_none : (nv : List ℕ) (b : Bank) → length nv ≡ 32768 → marked nv b [] ≡ nv
unfolding marked
marked_none nv b size = by_last (last_gated (current_page nv b) 64) (last_of (current_page nv b) 64)
  where
    by_last : (last : Option ℕ) → LastOf (current_page nv b) 64 last → marked_by nv (current_at nv b) last [] ≡ nv
    by_last _ (nothing none) = refl
    by_last _ (found k few gated above) = sym (own_bytes nv nv (current_at nv b + 64 * k + 36) 16 refl (omega (arith, size, current_inside nv b, few)) (λ p apart. refl))

-- What is marked behind others is marked with them.
pub marked_more : (nv : List ℕ) (b : Bank) (groups more : List ℕ) → length nv ≡ 32768 → AreBytes nv → AllByRecursion (λ group. group < 128) groups → marked (marked nv b groups) b more ≡ marked nv b (groups ++ more)
marked_more nv b [] more size bytes small = ap (λ (image : List ℕ). marked image b more) (marked_none nv b size)
marked_more nv b (group ∷ groups) more size bytes small =
    ap (λ (image : List ℕ). marked image b more) (marked_front nv b group size small.0 bytes groups)
    ∙ marked_more (marked nv b (group ∷ [])) b groups more (marked_size nv b group size small.0 bytes) (marked_bytes nv b group size small.0 bytes) small.1
    ∙ sym (marked_front nv b group size small.0 bytes (groups ++ more))
