-- Regions, and lists of them with their last one.
use Rattle.std.proofs.Common.{◌≡◌, ℕ, ◌+◌, ◌-◌, ◌<◌, ◌≤◌, nat_le, List, [], ◌∷◌, ◌++◌, length, get_or, refl, arith, sub-one}
use Rattle.std.specs.Bool.{Decides}
use Rattle.std.proofs.lemmas.Bool.Decides.{Decides-and, Decides-or}
use Rattle.pfr_flash.specs.declared.layout.Layout.{Layout}
use Rattle.pfr_flash.proofs.JudgingLemmas.{Decides-le}
use Rattle.pfr_manifest.specs.declared.region.Region.{Region}
use Rattle.pfr_manifest.specs.Regions.{IsClearOf, IsInOrder, last_start, last_end}
use Rattle.pfr_manifest.specs.Stretches.{stretch_of}
use Rattle.pfr_manifest.specs.Judge.{is_clear_of, is_clear}

-- ---- a region and the areas of a layout
Decides-clear_of : (region : Region) (at len : ℕ) → Decides (is_clear_of (stretch_of region) at len) (IsClearOf region at len)
Decides-clear_of region at len = Decides-or (nat_le region.end at) (nat_le (at + len) region.start) (Decides-le region.end at) (Decides-le (at + len) region.start)

pub Decides-clear : (region : Region) (layout : Layout) → Decides (is_clear (stretch_of region) layout)
    ((IsClearOf region layout.manifest_at layout.manifest_len × IsClearOf region layout.recovery_at layout.area_len) × IsClearOf region layout.staging_at layout.area_len)
Decides-clear region layout =
    Decides-and _ _ (Decides-and _ _ (Decides-clear_of region layout.manifest_at layout.manifest_len) (Decides-clear_of region layout.recovery_at layout.area_len))
    (Decides-clear_of region layout.staging_at layout.area_len)

-- ---- the last of several

pub last_start-get : (xs : List Region) (d : Region) → 0 < length xs → last_start xs ≡ (get_or xs (length xs - 1) d).start
last_start-get [] d h = absurd (omega arith)
last_start-get (x ∷ []) d h = refl
last_start-get (x ∷ y ∷ ys) d h = let e = last_start-get (y ∷ ys) d (omega arith) in rw sub-one (rw sub-one at e)

pub last_end-get : (xs : List Region) (d : Region) → 0 < length xs → last_end xs ≡ (get_or xs (length xs - 1) d).end
last_end-get [] d h = absurd (omega arith)
last_end-get (x ∷ []) d h = refl
last_end-get (x ∷ y ∷ ys) d h = let e = last_end-get (y ∷ ys) d (omega arith) in rw sub-one (rw sub-one at e)

pub last_end-push : (xs : List Region) (x : Region) → last_end (xs ++ x ∷ []) ≡ x.end
last_end-push [] x = refl
last_end-push (y ∷ []) x = refl
last_end-push (y ∷ z ∷ zs) x = last_end-push (z ∷ zs) x

pub last_start-push : (xs : List Region) (x : Region) → last_start (xs ++ x ∷ []) ≡ x.start
last_start-push [] x = refl
last_start-push (y ∷ []) x = refl
last_start-push (y ∷ z ∷ zs) x = last_start-push (z ∷ zs) x

pub IsInOrder-push : (xs : List Region) (x : Region) → IsInOrder xs → last_end xs ≤ x.start → IsInOrder (xs ++ x ∷ [])
IsInOrder-push [] x o h = tt
IsInOrder-push (y ∷ []) x o h = (h, tt)
IsInOrder-push (y ∷ z ∷ zs) x o h = (o.0, IsInOrder-push (z ∷ zs) x o.1 h)

-- what stands in order ends where a region in it begins, or before
pub last_end-before : (xs : List Region) (x : Region) (ys : List Region) → IsInOrder (xs ++ x ∷ ys) → last_end xs ≤ x.start
last_end-before [] x ys o = omega arith
last_end-before (y ∷ []) x ys o = o.0
last_end-before (y ∷ z ∷ zs) x ys o = last_end-before (z ∷ zs) x ys o.1
