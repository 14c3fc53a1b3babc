-- The regions that are blank in the image that is hashed.
use Rattle.std.proofs.Common.{◌≡◌, ℕ, ◌+◌, ◌-◌, ◌≤◌, ◌<◌, inl, Bool, true, false, if◌then◌else◌, List, [], ◌∷◌, length, replicate, All, Ok, refl, sym, ap, ◌∙◌, arith}
use Rattle.std.proofs.lemmas.List.{length-replicate}
use Rattle.std.proofs.lemmas.List.Elements.{All-nil, All-cons}
use Rattle.pfr_flash.specs.Bytes.{bytes_at, written}
use Rattle.pfr_flash.proofs.BytesLemmas.{length-written, bytes_at-written}
use Rattle.pfr_description.specs.Described.{BankDescription}
use Rattle.pfr_description.specs.declared.region.RegionDescription.{RegionDescription}
use Rattle.pfr_made.specs.Fields.{blanks}
use Rattle.pfr_made.specs.Images.{active_of, blanked, is_blank}
use Rattle.pfr_made.specs.Entries.{judge_entries}
use Rattle.pfr_manifest.specs.Hashes.{bytes_between}
use Rattle.pfr_made.proofs.AreasMade.{bytes_at-apart}
use Rattle.pfr_made.proofs.PagesUse.{AreOrdered, entries_ordered}
use Rattle.pfr_made.proofs.ServesMade.{IsBlanked}

-- the image once a region is made blank, where it is to be
abbrev step : RegionDescription → List ℕ → List ℕ
step region image = if is_blank region then blanked region image else image

length-step : (region : RegionDescription) (image : List ℕ) → length (step region image) ≡ length image
unfolding blanked
length-step region image = by_test (is_blank region)
  where
    by_test : (b : Bool) → length (if b then written image region.start (blanks (region.end - region.start)) else image) ≡ length image
    by_test true = length-written image region.start (blanks (region.end - region.start))
    by_test false = refl

step-below : (region : RegionDescription) (image : List ℕ) (place count : ℕ) → place + count ≤ region.start → place + count ≤ length image → bytes_at (step region image) place count ≡ bytes_at image place count
unfolding blanked
step-below region image place count below inside = by_test (is_blank region)
  where
    by_test : (b : Bool) → bytes_at (if b then written image region.start (blanks (region.end - region.start)) else image) place count ≡ bytes_at image place count
    by_test true = bytes_at-apart image region.start (blanks (region.end - region.start)) place count (inl below) inside
    by_test false = refl

pub length-active : (regions : List RegionDescription) (image : List ℕ) → length (active_of regions image) ≡ length image
unfolding active_of
length-active [] image = refl
length-active (region ∷ others) image = length-active others (step region image) ∙ length-step region image

-- what lies before the regions stays
active-below : (from size : ℕ) (regions : List RegionDescription) (image : List ℕ) (place count : ℕ) → AreOrdered from size regions → length image ≡ size → place + count ≤ from
    → bytes_at (active_of regions image) place count ≡ bytes_at image place count
unfolding active_of
active-below from size [] image place count h long below = refl
active-below from size (region ∷ others) image place count h long below =
    active-below region.end size others (step region image) place count h.2 (length-step region image ∙ long) (omega (arith, h.0.some, h.1))
    ∙ step-below region image place count (omega (arith, h.1)) (omega (arith, h.0.some, h.0.inside, h.1))

step-blank : (region : RegionDescription) (image : List ℕ) → region.start < region.end → region.end ≤ length image → IsBlanked (step region image) region
unfolding blanked blanks
step-blank region image some inside h =
    let bytes : List ℕ = replicate (region.end - region.start) 255 in
    let long : length bytes ≡ region.end - region.start = length-replicate {A = ℕ} (region.end - region.start) 255 in
    rw h (ap (λ (n : ℕ). bytes_at (written image region.start bytes) region.start n) (sym long) ∙ bytes_at-written image region.start bytes (omega (arith, long, some, inside)))

blank_from : (from size : ℕ) (regions : List RegionDescription) (image : List ℕ) → AreOrdered from size regions → length image ≡ size → All (IsBlanked (active_of regions image)) regions
unfolding active_of
blank_from from size [] image h long = All-nil (IsBlanked image)
blank_from from size (region ∷ others) image h long =
    let next : List ℕ = step region image in
    let size_next : length next ≡ size = length-step region image ∙ long in
    let later : bytes_between (active_of others next) region.start region.end ≡ bytes_between next region.start region.end =
    active-below region.end size others next region.start (region.end - region.start) h.2 size_next (omega (arith, h.0.some)) in
    All-cons (IsBlanked (active_of others next)) region others
    (λ blank. later ∙ step-blank region image h.0.some (omega (arith, long, h.0.inside)) blank)
    (blank_from region.end size others next h.2 size_next)

-- each region whose digest is that of blank pages is blank there
pub active_blank : (part : BankDescription) (image : List ℕ) → judge_entries part ≡ Ok tt → length image ≡ part.size → All (IsBlanked (active_of part.regions image)) part.regions
active_blank part image judged long = blank_from 0 part.size part.regions image (entries_ordered part judged) long
