-- Regions that are judged, or made blank, one after the other.
use Rattle.std.proofs.Common.{◌≡◌, ℕ, ◌+◌, ◌-◌, ◌<◌, ◌≤◌, true, false, List, length, drop, get_or, replicate, Ok, Err, refl, sym, ap, arith}
use Rattle.std.proofs.lemmas.Bool.{cond-true, cond-false}
use Rattle.std.proofs.lemmas.List.{drop_more, drop_all, length-replicate}
use Rattle.pfr_flash.specs.declared.layout.Layout.{Layout}
use Rattle.pfr_flash.proofs.BytesLemmas.{put_mid_is}
use Rattle.pfr_manifest.specs.declared.fail.ManifestFail.{ManifestFail}
use borrow.Rule.Slice.PartMut.{put_mid}
use Rattle.pfr_made.specs.Fields.{blanks}
use Rattle.pfr_made.specs.Images.{is_blank, blanked, active_of}
use Rattle.pfr_made.specs.Entries.{judge_next, judge_regions}
use Rattle.pfr_manifest.specs.Regions.{LiesInside}
use Rattle.pfr_description.specs.declared.region.RegionDescription.{RegionDescription}

-- a region that passes leaves the others to be judged
pub passed_region : (k s e : ℕ) (xs : List RegionDescription) (layout : Layout) (size : ℕ) (d : RegionDescription) → k < length xs
    → judge_next k (get_or xs k d) s e layout size ≡ Ok tt
    → judge_regions (k + 1) (get_or xs k d).start (get_or xs k d).end (drop (k + 1) xs) layout size ≡ judge_regions k s e (drop k xs) layout size
unfolding judge_regions
passed_region k s e xs layout size d h passes = rw (drop_more xs k d h, passes) refl

-- a region that fails is the answer
pub failed_region : (k s e : ℕ) (xs : List RegionDescription) (layout : Layout) (size : ℕ) (d : RegionDescription) (cause : ManifestFail) → k < length xs
    → judge_next k (get_or xs k d) s e layout size ≡ Err cause → judge_regions k s e (drop k xs) layout size ≡ Err cause
unfolding judge_regions
failed_region k s e xs layout size d cause h fails = rw (drop_more xs k d h, fails) refl

-- and behind the last none is left
pub passed_all : (k s e : ℕ) (xs : List RegionDescription) (layout : Layout) (size : ℕ) → length xs ≤ k
    → judge_regions k s e (drop k xs) layout size ≡ Ok tt
unfolding judge_regions
passed_all k s e xs layout size h = rw (drop_all k xs h) refl

pub blank_first : (xs : List RegionDescription) (i : ℕ) (image : List ℕ) (d : RegionDescription) → i < length xs → is_blank (get_or xs i d) ≡ true
    → active_of (drop (i + 1) xs) (blanked (get_or xs i d) image) ≡ active_of (drop i xs) image
unfolding active_of
blank_first xs i image d h blank =
    rw (drop_more xs i d h) (ap (λ (im : List ℕ). active_of (drop (i + 1) xs) im) (sym (cond-true (is_blank (get_or xs i d)) (blanked (get_or xs i d) image) image blank)))

pub leave_first : (xs : List RegionDescription) (i : ℕ) (image : List ℕ) (d : RegionDescription) → i < length xs → is_blank (get_or xs i d) ≡ false
    → active_of (drop (i + 1) xs) image ≡ active_of (drop i xs) image
unfolding active_of
leave_first xs i image d h blank =
    rw (drop_more xs i d h) (ap (λ (im : List ℕ). active_of (drop (i + 1) xs) im) (sym (cond-false (is_blank (get_or xs i d)) (blanked (get_or xs i d) image) image blank)))

pub none_left : (xs : List RegionDescription) (i : ℕ) (image : List ℕ) → length xs ≤ i → active_of (drop i xs) image ≡ image
unfolding active_of
none_left xs i image h = rw (drop_all i xs h) refl

-- a part of an image that is filled with 0xFF
pub filled_region : (image part : List ℕ) (region : RegionDescription) → LiesInside (length image) region.start region.end
    → part ≡ replicate (region.end - region.start) 255
    → put_mid region.start (region.end - region.start) image part ≡ blanked region image
unfolding blanked blanks
filled_region image part region inside filled =
    let n : ℕ = region.end - region.start in
    let long : length (replicate (region.end - region.start) 255) ≡ region.end - region.start = length-replicate (region.end - region.start) 255 in
    let lies : region.start + length (replicate (region.end - region.start) 255) ≤ length image =
    let a : region.start ≤ region.end = inside.begins in
    let b : region.end ≤ length image = inside.ends in omega arith in
    rw filled (put_mid_is image region.start (replicate (region.end - region.start) 255) (region.end - region.start) lies (sym long))
