-- What stands in the areas of a bank's image that is made.
use Rattle.std.proofs.Common.{◌≡◌, ℕ, ◌+◌, ◌-◌, ◌≤◌, ◌<◌, ◌⊎◌, inl, inr, List, ◌++◌, length, get_or, take, drop, refl, sym, ap, ◌∙◌, arith, length-append}
use Rattle.std.proofs.lemmas.List.{length-replicate, take-take, take_at}
use Rattle.pfr_flash.specs.Bytes.{bytes_at, written}
use Rattle.pfr_flash.specs.Layout.{AreApart, IsValidLayout}
use Rattle.pfr_flash.specs.Range.{SameOutside}
use Rattle.pfr_flash.specs.declared.layout.Layout.{Layout}
use Rattle.pfr_flash.proofs.BytesLemmas.{length-written, get_or-written_below, get_or-written_above, bytes_at-written}
use Rattle.pfr_flash.proofs.RangeLemmas.{bytes_at-outside}
use Rattle.pfr_made.specs.Fields.{blanks, filled}
use Rattle.pfr_made.specs.Made.{with_area, with_areas}

-- ---- bytes that are put in place of others
pub length-blanks : (count : ℕ) → length (blanks count) ≡ count
unfolding blanks
length-blanks count = length-replicate {A = ℕ} count 255

-- they change no bytes apart from them
pub bytes_at-apart : (image : List ℕ) (at : ℕ) (bytes : List ℕ) (place count : ℕ) → (place + count ≤ at) ⊎ (at + length bytes ≤ place) → place + count ≤ length image
    → bytes_at (written image at bytes) place count ≡ bytes_at image place count
bytes_at-apart image at bytes place count apart fits =
    let same : SameOutside at (length bytes) image (written image at bytes) = record { stays = λ k out. by_side k out } in
    bytes_at-outside at (length bytes) image (written image at bytes) place count same (length-written image at bytes) apart fits
  where
    by_side : (k : ℕ) → (k < at) ⊎ (at + length bytes ≤ k) → get_or (written image at bytes) k 0 ≡ get_or image k 0
    by_side k (inl below) = get_or-written_below image at bytes k 0 below
    by_side k (inr above) = get_or-written_above image at bytes k 0 above

-- ---- areas
length-filled : (len : ℕ) (bytes : List ℕ) → length bytes ≤ len → length (filled len bytes) ≡ len
unfolding filled
length-filled len bytes fits = simp length-append (omega (arith, length-blanks (len - length bytes)))

pub length-with_area : (image : List ℕ) (at len : ℕ) (bytes : List ℕ) → length (with_area image at len bytes) ≡ length image
unfolding with_area
length-with_area image at len bytes = length-written image at (filled len bytes)

-- what is put into an area stands at its front
pub with_area-front : (image : List ℕ) (at len : ℕ) (bytes : List ℕ) → at + len ≤ length image → length bytes ≤ len → bytes_at (with_area image at len bytes) at (length bytes) ≡ bytes
unfolding with_area filled
with_area-front image at len bytes inside fits =
    let all : List ℕ = bytes ++ blanks (len - length bytes) in
    let long : length all ≡ len = length-filled len bytes fits in
    let there : bytes_at (written image at all) at (length all) ≡ all = bytes_at-written image at all (omega arith) in
    sym (take-take (length bytes) (length all) (drop at (written image at all)) (omega arith))
    ∙ ap (λ (xs : List ℕ). take (length bytes) xs) there ∙ take_at bytes (blanks (len - length bytes)) (length bytes) refl

-- and what is apart from the area stays
pub with_area-apart : (image : List ℕ) (at len : ℕ) (bytes : List ℕ) (place count : ℕ) → length bytes ≤ len → (place + count ≤ at) ⊎ (at + len ≤ place) → place + count ≤ length image
    → bytes_at (with_area image at len bytes) place count ≡ bytes_at image place count
unfolding with_area
with_area-apart image at len bytes place count fits apart inside =
    bytes_at-apart image at (filled len bytes) place count (by_side apart) inside
  where
    by_side : (place + count ≤ at) ⊎ (at + len ≤ place) → (place + count ≤ at) ⊎ (at + length (filled len bytes) ≤ place)
    by_side (inl below) = inl below
    by_side (inr above) = inr (omega (arith, length-filled len bytes fits))

-- ---- all three areas
-- what is put into an area, and its length
pub record Fits (layout : Layout) (manifest capsule staged : List ℕ) : Type 0 where
  pub manifest_fits : length manifest ≤ layout.manifest_len
  pub capsule_fits : length capsule ≤ layout.area_len
  pub staged_fits : length staged ≤ layout.area_len

-- so many bytes from a place on lie in none of the areas
pub record IsOutside (layout : Layout) (place count : ℕ) : Type 0 where
  pub of_manifest : (place + count ≤ layout.manifest_at) ⊎ (layout.manifest_at + layout.manifest_len ≤ place)
  pub of_recovery : (place + count ≤ layout.recovery_at) ⊎ (layout.recovery_at + layout.area_len ≤ place)
  pub of_staging : (place + count ≤ layout.staging_at) ⊎ (layout.staging_at + layout.area_len ≤ place)

-- the front of an area is apart from another
front_apart : (at len other_at other_len count : ℕ) → count ≤ len → AreApart at len other_at other_len → (at + count ≤ other_at) ⊎ (other_at + other_len ≤ at)
front_apart at len other_at other_len count fits (inl below) = inl (omega arith)
front_apart at len other_at other_len count fits (inr above) = inr above

module _ (image : List ℕ) (layout : Layout) (manifest capsule staged : List ℕ) (valid : IsValidLayout layout (length image)) (fits : Fits layout manifest capsule staged) where
  first : List ℕ
  first = with_area image layout.manifest_at layout.manifest_len manifest

  second : List ℕ
  second = with_area first layout.recovery_at layout.area_len capsule

  length-first : length first ≡ length image
  unfolding first
  length-first = length-with_area image layout.manifest_at layout.manifest_len manifest

  length-second : length second ≡ length image
  unfolding second
  length-second = length-with_area first layout.recovery_at layout.area_len capsule ∙ length-first

  areas_are : with_areas image layout manifest capsule staged ≡ with_area second layout.staging_at layout.area_len staged
  unfolding with_areas first second
  areas_are = refl

  pub length-with_areas : length (with_areas image layout manifest capsule staged) ≡ length image
  length-with_areas = ap length areas_are ∙ length-with_area second layout.staging_at layout.area_len staged ∙ length-second

  -- below the staged file
  staging_apart : (place count : ℕ) → (place + count ≤ layout.staging_at) ⊎ (layout.staging_at + layout.area_len ≤ place) → place + count ≤ length image
      → bytes_at (with_areas image layout manifest capsule staged) place count ≡ bytes_at second place count
  staging_apart place count apart inside =
      ap (λ (bytes : List ℕ). bytes_at bytes place count) areas_are
      ∙ with_area-apart second layout.staging_at layout.area_len staged place count fits.staged_fits apart (omega (arith, length-second, inside))

  recovery_apart : (place count : ℕ) → (place + count ≤ layout.recovery_at) ⊎ (layout.recovery_at + layout.area_len ≤ place) → place + count ≤ length image
      → bytes_at second place count ≡ bytes_at first place count
  unfolding second
  recovery_apart place count apart inside =
      with_area-apart first layout.recovery_at layout.area_len capsule place count fits.capsule_fits apart (omega (arith, length-first, inside))

  manifest_apart : (place count : ℕ) → (place + count ≤ layout.manifest_at) ⊎ (layout.manifest_at + layout.manifest_len ≤ place) → place + count ≤ length image
      → bytes_at first place count ≡ bytes_at image place count
  unfolding first
  manifest_apart place count apart inside = with_area-apart image layout.manifest_at layout.manifest_len manifest place count fits.manifest_fits apart inside

  -- the manifest area
  pub areas_manifest : bytes_at (with_areas image layout manifest capsule staged) layout.manifest_at (length manifest) ≡ manifest
  unfolding first
  areas_manifest =
      let inside : layout.manifest_at + length manifest ≤ length image = omega (arith, fits.manifest_fits, valid.inside.manifest) in
      staging_apart layout.manifest_at (length manifest) (front_apart _ layout.manifest_len _ _ (length manifest) fits.manifest_fits valid.apart.manifest_staging) inside
      ∙ recovery_apart layout.manifest_at (length manifest) (front_apart _ layout.manifest_len _ _ (length manifest) fits.manifest_fits valid.apart.manifest_recovery) inside
      ∙ with_area-front image layout.manifest_at layout.manifest_len manifest valid.inside.manifest fits.manifest_fits

  -- the recovery area
  pub areas_capsule : bytes_at (with_areas image layout manifest capsule staged) layout.recovery_at (length capsule) ≡ capsule
  unfolding second
  areas_capsule =
      let inside : layout.recovery_at + length capsule ≤ length image = omega (arith, fits.capsule_fits, valid.inside.recovery) in
      staging_apart layout.recovery_at (length capsule) (front_apart _ layout.area_len _ _ (length capsule) fits.capsule_fits valid.apart.recovery_staging) inside
      ∙ with_area-front first layout.recovery_at layout.area_len capsule (omega (arith, length-first, valid.inside.recovery)) fits.capsule_fits

  -- all else is as it was
  pub areas_outside : (place count : ℕ) → IsOutside layout place count → place + count ≤ length image → bytes_at (with_areas image layout manifest capsule staged) place count ≡ bytes_at image place count
  areas_outside place count out inside =
      staging_apart place count out.of_staging inside ∙ recovery_apart place count out.of_recovery inside ∙ manifest_apart place count out.of_manifest inside
