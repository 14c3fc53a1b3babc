use Rattle.std.proofs.Common.{◌≡◌, ℕ, ◌-◌, ◌≤◌, ◌++◌, List, length, drop, take, replicate, refl, ap, ◌∙◌, arith, length-append}
use Rattle.std.proofs.lemmas.List.{length-replicate, drop-replicate}
use Rattle.pfr_filter.specs.Asking.{page_with}
use Rattle.pfr_filter.proofs.asking.page_with.Goals as goal

-- a page whose begin was overwritten, and which was then rotated
rotated : (place : ℕ) (bytes front old : List ℕ) → length bytes ≤ 256 → front ≡ bytes → old ≡ front ++ drop (length bytes) (replicate 256 255)
    → drop (length old - place) old ++ take (length old - place) old ≡ page_with place bytes
rotated place bytes front old few e f =
    let is : old ≡ bytes ++ replicate (256 - length bytes) 255 =
    f ∙ ap (λ (xs : List ℕ). xs ++ drop (length bytes) (replicate 256 255)) e ∙ ap (λ (xs : List ℕ). bytes ++ xs) (drop-replicate (length bytes) 256 255) in
    let long : length old ≡ 256 = ap length is ∙ length-append bytes (replicate (256 - length bytes) 255) ∙ omega (arith, length-replicate {A = ℕ} (256 - length bytes) 255) in
    rw (long, is) refl

pub returns : goal.returns
returns c = c.rotate_right.ensures.after ∙ rotated c.args.place c.args.bytes.now c.copy_from_slice.new.self _ c.requires.few c.copy_from_slice.ensures.after refl
