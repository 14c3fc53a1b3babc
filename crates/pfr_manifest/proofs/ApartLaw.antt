-- Pages that the bus may write share no byte with what the trust in a bank's image and its recovery stand on.
use Rattle.std.proofs.Common.{◌≡◌, ◌∙◌, sym, ap, subst, ℕ, ◌+◌, ◌-◌, ◌*◌, ◌<◌, ◌≤◌, ◌⊎◌, inl, inr, ⊎_elim, true, false, length, get_or, All, arith}
use Rattle.std.proofs.lemmas.Bool.{cases_lt}
use Rattle.std.proofs.lemmas.List.Elements.{All-from_get_or, All-filter, All-get_or, All-weaker, filter_passes}
use Rattle.pfr_flash.specs.Layout.{AreApart, IsApart}
use Rattle.pfr_flash.specs.Operation.{Operation}
use Rattle.pfr_flash.specs.Range.{IsWithin, Leaves}
use Rattle.pfr_flash.specs.declared.layout.Layout.{Layout}
use Rattle.pfr_manifest.specs.declared.manifest.Manifest.{Manifest}
use Rattle.pfr_manifest.specs.declared.region.Region.{Region}
use Rattle.pfr_manifest.specs.Access.{static_regions, IsPageWithin, IsWritable}
use Rattle.pfr_manifest.specs.Regions.{IsRegion, IsInOrder, is_static, is_writable}
use Rattle.pfr_manifest.proofs.StretchLemmas.{order_holds}

-- the page shares no byte with a region
abbrev IsApartFrom : ℕ → Region → Type 0
IsApartFrom page region = AreApart (4096 * page) 4096 region.start (region.end - region.start)

-- nor with the manifest area, the recovery area and each static region
pub record IsPageApart (m : Manifest) (layout : Layout) (page : ℕ) : Type 0 where
  pub manifest : AreApart (4096 * page) 4096 layout.manifest_at layout.manifest_len
  pub recovery : AreApart (4096 * page) 4096 layout.recovery_at layout.area_len
  pub static : All (λ region. AreApart (4096 * page) 4096 region.start (region.end - region.start)) (static_regions m)

-- a page within a place that is clear of an area
within_apart : (page from upto at len : ℕ) → IsPageWithin page from upto → (upto ≤ at) ⊎ (at + len ≤ from) → AreApart (4096 * page) 4096 at len
within_apart page from upto at len h clear = ⊎_elim (λ below. inl (omega (arith, h.0, h.1))) (λ above. inr (omega (arith, h.0, h.1))) clear

module _ (m : Manifest) (layout : Layout) (size page : ℕ) (each : All (IsRegion layout size) m.regions) (order : IsInOrder m.regions) (apart : IsApart layout) where
  -- where each static region is apart, all of them are
  of_static : All (λ (region : Region). is_static region ≡ true → IsApartFrom page region) m.regions → All (IsApartFrom page) (static_regions m)
  of_static h = λ k d below. All-filter is_static (λ (region : Region). is_static region ≡ true → IsApartFrom page region) m.regions h k d below (filter_passes is_static m.regions k d below)

  -- a region that lies elsewhere is apart
  apart_from : (from upto : ℕ) (region : Region) → IsRegion layout size region → IsPageWithin page from upto → (upto ≤ region.start) ⊎ (region.end ≤ from) → IsApartFrom page region
  apart_from from upto region is h clear = ⊎_elim (λ below. inl (omega (arith, h.0, h.1))) (λ above. inr (omega (arith, h.0, h.1, is.some))) clear

  module _ (k : ℕ) (region : Region) (below : k < length m.regions) (here : get_or m.regions k region ≡ region) (writable : is_writable region ≡ true) (within : IsPageWithin page region.start region.end) where
    -- the region is none of the static ones, and so apart from them
    other_apart : (j : ℕ) → j < length m.regions → is_static (get_or m.regions j region) ≡ true → IsApartFrom page (get_or m.regions j region)
    other_apart j h static = ⊎_elim (λ less. before less) (λ more. ⊎_elim (λ less. after less) (λ less. absurd (same (omega arith))) (cases_lt k j)) (cases_lt j k)
      where
        is : IsRegion layout size (get_or m.regions j region)
        is = All-get_or (IsRegion layout size) m.regions j region h each

        before : j < k → IsApartFrom page (get_or m.regions j region)
        before less = apart_from region.start region.end (get_or m.regions j region) is within
            (inr (let e = ap (λ (r : Region). r.start) here in omega (arith, order_holds m layout size each order j k region less below)))

        after : k < j → IsApartFrom page (get_or m.regions j region)
        after less = apart_from region.start region.end (get_or m.regions j region) is within
            (inl (let e = ap (λ (r : Region). r.end) here in omega (arith, order_holds m layout size each order k j region less h)))

        same : j ≡ k → ⊥
        same e =
            let at : get_or m.regions j region ≡ region = ap (λ (n : ℕ). get_or m.regions n region) e ∙ here in
            let not_both = is.not_both static in
            let w : is_writable (get_or m.regions j region) ≡ is_writable region = ap (λ (r : Region). is_writable r) at in
            let clash : true ≡ false = sym writable ∙ sym w ∙ not_both in
            cc

    in_region : IsPageApart m layout page
    in_region =
        let r : IsRegion layout size (get_or m.regions k region) = All-get_or (IsRegion layout size) m.regions k region below each in
        let is : IsRegion layout size region = subst (IsRegion layout size) here r in
        record {
          manifest = within_apart page region.start region.end layout.manifest_at layout.manifest_len within is.clear_of_manifest;
          recovery = within_apart page region.start region.end layout.recovery_at layout.area_len within is.clear_of_recovery;
          static = of_static (All-from_get_or (λ (other : Region). is_static other ≡ true → IsApartFrom page other) m.regions region (λ j h. other_apart j h));
        }

  in_staging : IsPageWithin page layout.staging_at (layout.staging_at + layout.area_len) → IsPageApart m layout page
  in_staging within = record {
    manifest = ⊎_elim (λ below. inr (omega (arith, within.0, within.1))) (λ above. inl (omega (arith, within.0, within.1))) apart.manifest_staging;
    recovery = ⊎_elim (λ below. inr (omega (arith, within.0, within.1))) (λ above. inl (omega (arith, within.0, within.1))) apart.recovery_staging;
    static = of_static (All-weaker (IsRegion layout size) (λ (region : Region). is_static region ≡ true → IsApartFrom page region)
        (λ region is static. apart_from layout.staging_at (layout.staging_at + layout.area_len) region is within (⊎_elim (λ below. inr below) (λ above. inl above) is.clear_of_staging)) m.regions each);
  }

  pub writable_apart : IsWritable m layout page → IsPageApart m layout page
  writable_apart (inl (k, region, below, here, holds)) = in_region k region below here holds.0 holds.1
  writable_apart (inr within) = in_staging within

-- ---- operations
-- what leaves the manifest area, the recovery area and each static region
pub record LeavesTrusted (m : Manifest) (layout : Layout) (op : Operation) : Type 0 where
  pub manifest : Leaves layout.manifest_at layout.manifest_len op
  pub recovery : Leaves layout.recovery_at layout.area_len op
  pub static : All (λ region. Leaves region.start (region.end - region.start) op) (static_regions m)

leaves_apart : (page at len : ℕ) (op : Operation) → IsWithin (4096 * page) 4096 op → AreApart (4096 * page) 4096 at len → Leaves at len op
leaves_apart page at len op within apart = ⊎_elim (λ below. inl (omega (arith, within.low, within.high))) (λ above. inr (omega (arith, within.low, within.high))) apart

-- An operation within a page that is apart leaves them, whole or torn.
pub writes_apart : (m : Manifest) (layout : Layout) (page : ℕ) (op : Operation) → IsWithin (4096 * page) 4096 op → IsPageApart m layout page → LeavesTrusted m layout op
writes_apart m layout page op within apart = record {
  manifest = leaves_apart page layout.manifest_at layout.manifest_len op within apart.manifest;
  recovery = leaves_apart page layout.recovery_at layout.area_len op within apart.recovery;
  static = All-weaker (λ (region : Region). AreApart (4096 * page) 4096 region.start (region.end - region.start)) (λ (region : Region). Leaves region.start (region.end - region.start) op)
      (λ region h. leaves_apart page region.start (region.end - region.start) op within h) (static_regions m) apart.static;
}
