-- A layout's tests hold exactly where it is valid.
use Rattle.std.proofs.Common.{◌≡◌, ℕ, Bool, true, false, if◌then◌else◌, Result, Ok, Err, refl, arith}
use Rattle.std.specs.Prelude.{◌↔◌}
use Rattle.std.proofs.lemmas.Bool.Decides.{nat_tests}
use Rattle.pfr_flash.specs.Layout.{AreApart, are_apart, is_aligned, is_apart, is_inside, IsAligned, IsInside, IsApart, IsValidLayout, judge_layout}
use Rattle.pfr_flash.specs.declared.layout.Layout.{Layout}
use Rattle.pfr_flash.specs.declared.layout.LayoutRule.{LayoutRule}
use Rattle.pfr_flash.specs.declared.layout.LayoutRule.TheVariants.{Align, Outside, Overlap}

apart_tests : (at len other_at other_len : ℕ) → (are_apart at len other_at other_len ≡ true) ↔ AreApart at len other_at other_len
apart_tests at len other_at other_len = (λ h. grind (arith, nat_tests), λ h. grind (arith, nat_tests))

aligned_tests : (l : Layout) → (is_aligned l ≡ true) ↔ IsAligned l
aligned_tests l = (λ h. grind (arith, nat_tests), λ h. grind (arith, nat_tests))

inside_tests : (l : Layout) (size : ℕ) → (is_inside l size ≡ true) ↔ IsInside l size
inside_tests l size = (λ h. grind (arith, nat_tests), λ h. grind (arith, nat_tests))

all_apart_holds : (l : Layout) → is_apart l ≡ true → IsApart l
all_apart_holds l h = grind (arith, nat_tests, apart_tests)

all_apart_ends : (l : Layout) → IsApart l → is_apart l ≡ true
all_apart_ends l h =
    let a = (apart_tests _ _ _ _).1 h.manifest_recovery in
    let b = (apart_tests _ _ _ _).1 h.manifest_staging in
    let c = (apart_tests _ _ _ _).1 h.recovery_staging in
    grind (arith, nat_tests)

abbrev by_tests : Bool → Bool → Bool → Result (Unit {0}) LayoutRule
by_tests aligned inside apart = if aligned then (if inside then (if apart then Ok tt else Err Overlap) else Err Outside) else Err Align

all_three : (aligned inside apart : Bool) → by_tests aligned inside apart ≡ Ok tt → (aligned ≡ true) × (inside ≡ true) × (apart ≡ true)
all_three true true true h = (refl, refl, refl)
all_three true true false h = cc
all_three true false apart h = cc
all_three false inside apart h = cc

-- A layout that is judged well is valid.
pub judged_valid : (l : Layout) (size : ℕ) → judge_layout l size ≡ Ok tt → IsValidLayout l size
unfolding judge_layout
judged_valid l size h =
    let t = all_three (is_aligned l) (is_inside l size) (is_apart l) h in
    record { aligned = (aligned_tests l).0 t.0; inside = (inside_tests l size).0 t.1; apart = all_apart_holds l t.2 }

-- A valid layout is judged well.
pub valid_judged : (l : Layout) (size : ℕ) → IsValidLayout l size → judge_layout l size ≡ Ok tt
unfolding judge_layout
valid_judged l size v = rw ((aligned_tests l).1 v.aligned, (inside_tests l size).1 v.inside, all_apart_ends l v.apart) refl
