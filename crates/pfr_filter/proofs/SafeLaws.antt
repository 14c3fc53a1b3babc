-- What the bus may write lies in its bank, and leaves what the trust in the bank's image and its recovery stand on.
use Rattle.std.proofs.Common.{◌≡◌, ℕ, ◌+◌, ◌-◌, ◌*◌, ◌/◌, ◌<◌, ◌≤◌, Bool, List, [], ◌∷◌, length, All, inl, inr, subst, sym, arith}
use Rattle.std.proofs.lemmas.List.Elements.{All-nil, All-cons, All-head, All-tail, All-map, All-weaker, All-get_or}
use Rattle.pfr_flash.specs.Flash.{IsInPage}
use Rattle.pfr_flash.specs.Layout.{IsApart, IsInside}
use Rattle.pfr_flash.specs.Operation.{Operation, applied, IsTorn}
use Rattle.pfr_flash.specs.Operation as operation
use Rattle.pfr_flash.specs.Plan.{IsPart}
use Rattle.pfr_flash.specs.Range.{IsWithin, place_of, len_of}
use Rattle.pfr_flash.specs.declared.layout.Layout.{Layout}
use Rattle.pfr_flash.proofs.LeavingLemmas.{leaves_torn}
use Rattle.pfr_manifest.specs.Access.{IsWritable, static_regions}
use Rattle.pfr_manifest.specs.Regions.{IsRegion, IsInOrder}
use Rattle.pfr_manifest.specs.declared.manifest.Manifest.{Manifest}
use Rattle.pfr_manifest.specs.declared.region.Region.{Region}
use Rattle.pfr_manifest.specs.Stretches.{stretches_of, writable_by}
use Rattle.pfr_manifest.proofs.ApartLaw.{LeavesTrusted, writable_apart, writes_apart}
use Rattle.pfr_manifest.proofs.StretchLemmas.{Decides-writable}
use Rattle.pfr_filter.specs.Asking.{numbers_from, bus_ops, IsSafe, IsFormed}
use Rattle.pfr_filter.specs.Frames.{verdict_on}
use Rattle.pfr_filter.specs.declared.verdict.BusOp.{BusOp}
use Rattle.pfr_filter.specs.declared.verdict.BusOp.TheVariants.{Read, Status, Id, WriteEnable, WriteDisable, Program, Erase}
use Rattle.pfr_filter.specs.declared.verdict.Verdict.TheVariants.{Pass}
use Rattle.pfr_filter.proofs.JudgeLaws.{IsPaged, passes_paged, verdict_passes}

-- each operation of what is formed lies in one of the pages that it writes
program_within : (at : ℕ) (page : List ℕ) → IsFormed (Program at page) → IsWithin (4096 * (at / 4096)) 4096 (operation.Program at page)
program_within at page formed = record { low = omega arith; high = omega (arith, formed.0, formed.1) }

erase_within : (page : ℕ) → IsWithin (4096 * page) 4096 (operation.Erase page)
erase_within page = record { low = omega arith; high = omega arith }

formed_paged : (op : BusOp) → IsFormed op → IsPaged op
formed_paged (Program at page) formed = formed
formed_paged _ formed = tt

-- what holds of an operation in a page holds of each operation, where the page of each may be written
module _ (m : Manifest) (layout : Layout) (P : Operation → Type 0) (holds : (page : ℕ) (done : Operation) → IsWritable m layout page → IsWithin (4096 * page) 4096 done → P done) where
  each_op : (op : BusOp) → IsPaged op → IsSafe m layout op → All P (bus_ops op)
  each_op (Program at page) formed safe =
      All-cons P (operation.Program at page) [] (holds (at / 4096) (operation.Program at page) (All-head (IsWritable m layout) (at / 4096) [] safe) (program_within at page formed)) (All-nil P)
  each_op (Erase sector count) formed safe =
      All-map P (λ page. operation.Erase page) (numbers_from sector count)
      (All-weaker (IsWritable m layout) (λ (page : ℕ). P (operation.Erase page)) (λ page may. holds page (operation.Erase page) may (erase_within page)) (numbers_from sector count) safe)
  each_op Read formed safe = All-nil P
  each_op Status formed safe = All-nil P
  each_op Id formed safe = All-nil P
  each_op WriteEnable formed safe = All-nil P
  each_op WriteDisable formed safe = All-nil P

-- ---- what is left
-- Each operation leaves the manifest area, the recovery area and each static region.
pub safe_leaves : (m : Manifest) (layout : Layout) (size : ℕ) (op : BusOp) → All (IsRegion layout size) m.regions → IsInOrder m.regions → IsApart layout
    → IsFormed op → IsSafe m layout op → All (LeavesTrusted m layout) (bus_ops op)
safe_leaves m layout size op each order apart formed safe =
    each_op m layout (LeavesTrusted m layout) (λ page done may within. writes_apart m layout page done within (writable_apart m layout size page each order apart may)) op (formed_paged op formed) safe

-- So does each operation of a frame that passes.
pub pass_leaves : (frame : List ℕ) (m : Manifest) (layout : Layout) (size : ℕ) (latch : Bool) (op : BusOp) → All (IsRegion layout size) m.regions → IsInOrder m.regions → IsApart layout
    → verdict_on frame m layout size latch ≡ Pass op → All (LeavesTrusted m layout) (bus_ops op)
pass_leaves frame m layout size latch op each order apart passed =
    let passes = (verdict_passes frame (writable_by (stretches_of m) layout) (IsWritable m layout) (Decides-writable m layout) size latch op).0 passed in
    each_op m layout (LeavesTrusted m layout) (λ page done may within. writes_apart m layout page done within (writable_apart m layout size page each order apart may)) op
    (passes_paged frame (IsWritable m layout) size latch op passes) passes.writable

-- and so does one that is torn
pub torn_leaves : (m : Manifest) (layout : Layout) (image : List ℕ) (op done : Operation) → IsTorn image op done → LeavesTrusted m layout op → LeavesTrusted m layout done
torn_leaves m layout image op done torn leaves = record {
  manifest = leaves_torn image layout.manifest_at layout.manifest_len op done torn leaves.manifest;
  recovery = leaves_torn image layout.recovery_at layout.area_len op done torn leaves.recovery;
  static = All-weaker _ _ (λ (region : Region) h. leaves_torn image region.start (region.end - region.start) op done torn h) (static_regions m) leaves.static;
}

-- so a part of them does, the last of which may be torn
pub part_leaves : (m : Manifest) (layout : Layout) (image : List ℕ) (plan added : List Operation) → IsPart image plan added
    → All (LeavesTrusted m layout) plan → All (LeavesTrusted m layout) added
part_leaves m layout image plan [] part all = All-nil (LeavesTrusted m layout)
part_leaves m layout image [] (op ∷ ops) part all = absurd part
part_leaves m layout image (next ∷ plan) (op ∷ ops) (inl whole) all =
    All-cons (LeavesTrusted m layout) op ops (subst (LeavesTrusted m layout) (sym whole.0) (All-head (LeavesTrusted m layout) next plan all))
    (part_leaves m layout (applied image next) plan ops whole.1 (All-tail (LeavesTrusted m layout) next plan all))
part_leaves m layout image (next ∷ plan) (op ∷ ops) (inr torn) all =
    rw torn.1 (All-cons (LeavesTrusted m layout) op [] (torn_leaves m layout image next op torn.0 (All-head (LeavesTrusted m layout) next plan all)) (All-nil (LeavesTrusted m layout)))

-- ---- where it lies
-- a page that the bus may write lies in the bank
pub writable_inside : (m : Manifest) (layout : Layout) (size page : ℕ) → All (IsRegion layout size) m.regions → IsInside layout size → IsWritable m layout page → 4096 * page + 4096 ≤ size
writable_inside m layout size page each inside (inl (k, region, below, here, holds)) =
    let is : IsRegion layout size region = subst (IsRegion layout size) here (All-get_or (IsRegion layout size) m.regions k region below each) in
    let within : 4096 * page + 4096 ≤ region.end = holds.1.1 in
    omega (arith, is.inside)
writable_inside m layout size page each inside (inr within) = omega (arith, within.1, inside.staging)

-- Each operation lies in the bank.
pub safe_within : (m : Manifest) (layout : Layout) (size : ℕ) (op : BusOp) → All (IsRegion layout size) m.regions → IsInside layout size
    → IsFormed op → IsSafe m layout op → All (λ done. place_of done + len_of done ≤ size) (bus_ops op)
safe_within m layout size op each inside formed safe =
    each_op m layout (λ done. place_of done + len_of done ≤ size) (λ page done may within. omega (arith, within.high, writable_inside m layout size page each inside may)) op (formed_paged op formed) safe

-- what a device asks of a program
pub program_asks : (m : Manifest) (layout : Layout) (size at : ℕ) (page : List ℕ) → All (IsRegion layout size) m.regions → IsInside layout size
    → IsFormed (Program at page) → IsSafe m layout (Program at page) → IsInPage at (length page) × (at + length page ≤ size)
program_asks m layout size at page each inside formed safe =
    let may = All-head (IsWritable m layout) (at / 4096) [] safe in
    (record { some = omega (arith, formed.1); within = omega (arith, formed.0, formed.1) }, omega (arith, formed.0, formed.1, writable_inside m layout size (at / 4096) each inside may))

-- and of an erase of each sector
pub erase_asks : (m : Manifest) (layout : Layout) (size : ℕ) (sectors : List ℕ) → All (IsRegion layout size) m.regions → IsInside layout size
    → All (IsWritable m layout) sectors → All (λ sector. sector < size / 4096) sectors
erase_asks m layout size sectors each inside safe =
    All-weaker (IsWritable m layout) (λ (sector : ℕ). sector < size / 4096) (λ sector may. omega (arith, writable_inside m layout size sector each inside may)) sectors safe
