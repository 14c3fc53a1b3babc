-- Tables of stretches, and which pages are writable by them.
use Rattle.std.proofs.Common.{◌≡◌, ℕ, zero, suc, ◌+◌, ◌*◌, ◌<◌, ◌≤◌, Bool, true, ◌||◌, nat_le, List, [], ◌∷◌, length, map, Any, All, refl, ap, arith}
use Rattle.std.specs.Bool.{Decides}
use Rattle.std.specs.List.{AllPairs, list_any}
use Rattle.std.proofs.lemmas.Bool.Decides.{Decides-and, Decides-or}
use Rattle.std.proofs.lemmas.List.{get_or-map, length-map}
use Rattle.std.proofs.lemmas.List.Elements.{All-nil, All-cons, All-head, All-tail, All-map, All-weaker}
use Rattle.std.proofs.lemmas.List.Folds.{Any-from_list_any, list_any-from_Any}
use Rattle.pfr_flash.specs.declared.layout.Layout.{Layout}
use Rattle.pfr_flash.proofs.JudgingLemmas.{Decides-le, Decides-true}
use Rattle.pfr_manifest.specs.declared.manifest.Manifest.{Manifest}
use Rattle.pfr_manifest.specs.declared.region.Region.{Region}
use Rattle.pfr_manifest.specs.declared.stretch.Stretch.{Stretch}
use Rattle.pfr_manifest.specs.Access.{IsPageWithin, IsWritable}
use Rattle.pfr_manifest.specs.Manifest.{IsManifestOf}
use Rattle.pfr_manifest.specs.Regions.{IsRegion, IsInOrder, is_writable}
use Rattle.pfr_manifest.specs.Stretches.{stretch_of, stretches_of, IsOfPages, IsTable, is_page_within, lets_write, writable_by}

-- ---- the regions of a manifest are a table
abbrev pub IsSome : Region → Type 0
IsSome region = region.start < region.end

order_tail : (x : Region) (xs : List Region) → IsInOrder (x ∷ xs) → IsInOrder xs
order_tail x [] o = tt
order_tail x (y ∷ ys) o = o.1

-- all that stand behind a region begin where it has ended, or later
behind : (x : Region) (xs : List Region) → IsInOrder (x ∷ xs) → All IsSome xs → All (λ other. x.end ≤ other.start) xs
behind x [] o h = All-nil (λ (other : Region). x.end ≤ other.start)
behind x (y ∷ ys) o h =
    let some : y.start < y.end = All-head IsSome y ys h in
    All-cons (λ (other : Region). x.end ≤ other.start) y ys o.0
    (All-weaker (λ (other : Region). y.end ≤ other.start) (λ (other : Region). x.end ≤ other.start) (λ z k. omega (arith, o.0)) ys (behind y ys o.1 (All-tail IsSome y ys h)))

all_in_order : (xs : List Region) → IsInOrder xs → All IsSome xs → AllPairs (λ one later. one.end ≤ later.start) xs
all_in_order [] o h i j d k l = absurd (omega arith)
all_in_order (x ∷ xs) o h i zero d k l = absurd (omega arith)
all_in_order (x ∷ xs) o h zero (suc j) d k l = behind x xs o (All-tail IsSome x xs h) j d (omega arith)
all_in_order (x ∷ xs) o h (suc i) (suc j) d k l = all_in_order xs (order_tail x xs o) (All-tail IsSome x xs h) i j d (omega arith) (omega arith)

-- a region ends before a later one begins
pub order_holds : (m : Manifest) (layout : Layout) (size : ℕ) → All (IsRegion layout size) m.regions → IsInOrder m.regions → AllPairs (λ one later. one.end ≤ later.start) m.regions
order_holds m layout size each order = all_in_order m.regions order (All-weaker (IsRegion layout size) IsSome (λ region is. is.some) m.regions each)

order_of : (xs : List Region) → AllPairs (λ (one later : Region). one.end ≤ later.start) xs → AllPairs (λ (one later : Stretch). one.end ≤ later.start) (map stretch_of xs)
order_of [] h i j d k l = absurd (omega arith)
order_of (x ∷ xs) h i j d k l =
    let long : j < length (x ∷ xs) = omega (arith, length-map (x ∷ xs) stretch_of) in
    rw (get_or-map stretch_of (x ∷ xs) i x d (omega arith), get_or-map stretch_of (x ∷ xs) j x d long) (h i j x k long)

pub table_of : (m : Manifest) (layout : Layout) (size : ℕ) → length m.regions ≤ 64 → All (IsRegion layout size) m.regions → IsInOrder m.regions → IsTable (stretches_of m)
table_of m layout size few each order = record {
  few = let e : length (stretches_of m) ≡ length m.regions = length-map m.regions stretch_of in omega arith;
  each = All-map IsOfPages stretch_of m.regions (All-weaker (IsRegion layout size) (λ (region : Region). IsOfPages (stretch_of region))
      (λ region is. record { start_aligned = is.start_aligned; end_aligned = is.end_aligned; some = is.some }) m.regions each);
  in_order = order_of m.regions (order_holds m layout size each order);
}

pub manifest_table : (bytes : List ℕ) (m : Manifest) (layout : Layout) (size : ℕ) → IsManifestOf bytes m layout size → IsTable (stretches_of m)
manifest_table bytes m layout size is = table_of m layout size is.few_regions is.each_region is.in_order

-- ---- writable pages
Decides-within : (page from upto : ℕ) → Decides (is_page_within page from upto) (IsPageWithin page from upto)
Decides-within page from upto = Decides-and (nat_le from (4096 * page)) (nat_le (4096 * page + 4096) upto) (Decides-le from (4096 * page)) (Decides-le (4096 * page + 4096) upto)

list_any-map : {X Y : Type 0} (p : Y → Bool) (f : X → Y) (xs : List X) → list_any p (map f xs) ≡ list_any (λ x. p (f x)) xs
list_any-map p f [] = refl
list_any-map p f (x ∷ xs) = ap (λ rest. p (f x) || rest) (list_any-map p f xs)

any_weaker : {X : Type 0} (P Q : X → Type 0) → ((x : X) → P x → Q x) → (xs : List X) → Any P xs → Any Q xs
any_weaker P Q f xs (k, x, within, is, holds) = (k, x, within, is, f x holds)

pub Decides-any : {X : Type 0} (p : X → Bool) (P : X → Type 0) → ((x : X) → Decides (p x) (P x)) → (xs : List X) → Decides (list_any p xs) (Any P xs)
Decides-any p P each xs = (
  λ yes. any_weaker (λ x. p x ≡ true) P (λ x h. (each x).0 h) xs (Any-from_list_any p xs yes),
  λ holds. list_any-from_Any p xs (any_weaker P (λ x. p x ≡ true) (λ x h. (each x).1 h) xs holds),
)

pub Decides-writable : (m : Manifest) (layout : Layout) (page : ℕ) → Decides (writable_by (stretches_of m) layout page) (IsWritable m layout page)
Decides-writable m layout page =
    let staging : ℕ = layout.staging_at + layout.area_len in
    Decides-or (list_any (lets_write page) (stretches_of m)) (is_page_within page layout.staging_at staging)
    (rw (list_any-map (lets_write page) stretch_of m.regions) (Decides-any (λ region. lets_write page (stretch_of region)) (λ region. (is_writable region ≡ true) × IsPageWithin page region.start region.end)
    (λ region. Decides-and (is_writable region) (is_page_within page region.start region.end) (Decides-true (is_writable region)) (Decides-within page region.start region.end)) m.regions))
    (Decides-within page layout.staging_at staging)
