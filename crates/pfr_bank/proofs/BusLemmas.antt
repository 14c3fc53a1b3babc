-- How a flash does what passed on a bus, sector by sector, and what that leaves.
use Rattle.std.specs.Prelude.{◌↔◌}
use Rattle.std.proofs.Common.{◌≡◌, ◌∙◌, ℕ, Bool, zero, suc, ◌+◌, ◌-◌, ◌*◌, ◌/◌, ◌<◌, ◌≤◌, refl, sym, ap, subst, arith, List, [], ◌∷◌, ◌++◌, drop, length, map, All, Result, Ok, Err}
use Rattle.std.proofs.Math.Seq.{drop-append_seam}
use Rattle.std.proofs.lemmas.List.{map-append}
use Rattle.std.proofs.lemmas.List.Elements.{All-weaker}
use Rattle.pfr_flash.specs.FlashState.{FlashState, now, op_count_of, size_of}
use Rattle.pfr_flash.specs.Flash.{Does}
use Rattle.pfr_flash.specs.Operation.{Operation, play}
use Rattle.pfr_flash.specs.Operation as operation
use Rattle.pfr_flash.specs.Plan.{Follows}
use Rattle.pfr_flash.specs.Range.{Leaves, place_of, len_of}
use Rattle.pfr_flash.specs.declared.flash.FlashFail.{FlashFail}
use Rattle.pfr_flash.specs.declared.layout.Layout.{Layout}
use Rattle.pfr_flash.proofs.FollowsLemmas.{DoesPart-now, Follows-does, Follows-first, Follows-none, Follows-then}
use Rattle.pfr_flash.proofs.RangeLemmas.{length-now}
use Rattle.pfr_manifest.specs.Access.{IsWritable}
use Rattle.pfr_manifest.specs.Stretches.{stretches_of, writable_by}
use Rattle.pfr_manifest.specs.declared.manifest.Manifest.{Manifest}
use Rattle.pfr_manifest.specs.declared.stretch.Stretch.{Stretch}
use Rattle.pfr_manifest.proofs.ApartLaw.{LeavesTrusted}
use Rattle.pfr_auth.specs.Leaving.{LeavesImage}
use Rattle.pfr_auth.proofs.LeavingLaw.{left_image}
use Rattle.pfr_filter.specs.Asking.{IsFormed, IsSafe, bus_ops, numbers_from}
use Rattle.pfr_filter.specs.Frames.{IsFormedVerdict, IsSafePass, Passes, judge_spi, verdict_of, verdict_on}
use Rattle.pfr_filter.specs.declared.verdict.BusOp.{BusOp}
use Rattle.pfr_filter.specs.declared.verdict.BusOp.TheVariants.{Erase, Program}
use Rattle.pfr_filter.specs.declared.verdict.Verdict.{Verdict}
use Rattle.pfr_filter.specs.declared.verdict.Verdict.TheVariants.{Pass}
use Rattle.pfr_filter.proofs.JudgeLaws.{manifest_passes}
use Rattle.pfr_filter.proofs.SafeLaws.{part_leaves, safe_leaves, safe_within}
use Rattle.pfr_filter.proofs.WalkLemmas.{one_number}
use Rattle.pfr_bank.specs.Seats.{RunningState}
use Rattle.pfr_bank.specs.Spelling.{StillSpells}
use Rattle.pfr_bank.proofs.SpellingLaw.{spells_kept}

-- ---- frames
-- By the table of a manifest a frame passes exactly where the manifest allows it.
pub judged_by_manifest : (frame : List ℕ) (m : Manifest) (layout : Layout) (table : List Stretch) (count size : ℕ) (latch : Bool) (verdict : Verdict) (op : BusOp) → table ≡ stretches_of m → count ≡ size
    → verdict ≡ verdict_of (judge_spi frame (writable_by table layout) count latch) → (verdict ≡ Pass op) ↔ Passes frame (IsWritable m layout) size latch op
judged_by_manifest frame m layout table count size latch verdict op tabled sized is =
    let found : verdict ≡ verdict_on frame m layout size latch =
    is ∙ ap (λ (t : List Stretch). verdict_of (judge_spi frame (writable_by t layout) count latch)) tabled ∙ ap (λ (n : ℕ). verdict_on frame m layout n latch) sized in
    subst (λ (v : Verdict). (v ≡ Pass op) ↔ Passes frame (IsWritable m layout) size latch op) (sym found)
    (manifest_passes frame m layout size latch op)

-- ---- what writes nothing
pub follows_nothing : (op : BusOp) (d : FlashState) → ((at : ℕ) (page : List ℕ) → op ≡ Program at page → ⊥) → ((sector count : ℕ) → op ≡ Erase sector count → ⊥)
    → Follows {A = Unit {0}} (bus_ops op) d d (Ok tt)
follows_nothing (Program at page) d no_program no_erase = absurd (no_program at page refl)
follows_nothing (Erase sector count) d no_program no_erase = absurd (no_erase sector count refl)
follows_nothing _ d no_program no_erase = Follows-none d tt

-- ---- sectors
-- the erases of so many sectors from one on
abbrev pub erases : ℕ → ℕ → List Operation
erases sector count = bus_ops (Erase sector count)

numbers_add : (first a b : ℕ) → numbers_from first (a + b) ≡ numbers_from first a ++ numbers_from (first + a) b
unfolding numbers_from
numbers_add first zero b =
    let none : zero + b ≡ b = omega arith in
    let here : first ≡ first + zero = omega arith in
    ap (numbers_from first) none ∙ ap (λ (n : ℕ). numbers_from n b) here
numbers_add first (suc a) b =
    let one : suc a + b ≡ suc (a + b) = omega arith in
    let next : first + 1 + a ≡ first + suc a = omega arith in
    ap (numbers_from first) one
    ∙ ap (λ (more : List ℕ). first ∷ more) (numbers_add (first + 1) a b ∙ ap (λ (n : ℕ). numbers_from (first + 1) a ++ numbers_from n b) next)

erases_add : (first a b : ℕ) → erases first (a + b) ≡ erases first a ++ erases (first + a) b
erases_add first a b =
    ap (λ (sectors : List ℕ). map (λ (page : ℕ). operation.Erase page) sectors) (numbers_add first a b) ∙ map-append (λ (page : ℕ). operation.Erase page) (numbers_from first a) (numbers_from (first + a) b)

-- the erases up to the next one, and those behind it
erases_next : (sector k : ℕ) → erases sector (k + 1) ≡ erases sector k ++ operation.Erase (sector + k) ∷ []
erases_next sector k = erases_add sector k 1 ∙ ap (λ (sectors : List ℕ). erases sector k ++ map (λ (page : ℕ). operation.Erase page) sectors) (one_number (sector + k))

erases_rest : (sector count k : ℕ) → k < count → erases sector count ≡ erases sector (k + 1) ++ erases (sector + (k + 1)) (count - (k + 1))
erases_rest sector count k less =
    let all : count ≡ k + 1 + (count - (k + 1)) = omega arith in
    ap (erases sector) all ∙ erases_add sector (k + 1) (count - (k + 1))

-- each sector lies in the flash
pub sector_inside : (first count k size : ℕ) → k < count → All (λ op. place_of op + len_of op ≤ size) (erases first count) → first + k < size / 4096
unfolding numbers_from
sector_inside first zero k size less h = absurd (omega (arith, less))
sector_inside first (suc count) zero size less h =
    let here : 4096 * first + 4096 ≤ size = h 0 (operation.Erase first) (omega arith) in
    omega (arith, here)
sector_inside first (suc count) (suc k) size less h =
    let next : first + 1 + k < size / 4096 = sector_inside (first + 1) count k size (omega arith) (λ i d below. h (suc i) d (omega arith)) in
    omega (arith, next)

-- no sector yet
pub erased_none : (sector : ℕ) (d : FlashState) → Follows {A = Unit {0}} (erases sector 0) d d (Ok tt)
unfolding numbers_from
erased_none sector d = Follows-none d tt

-- there is none to erase
pub none_to_erase : (sector count : ℕ) → erases sector count ≡ [] → count ≡ 0
unfolding numbers_from
none_to_erase sector zero h = refl
none_to_erase sector (suc count) h = absurd cc

-- one sector more was erased
pub erased_more : (sector k n : ℕ) (a b c : FlashState) (done : Result (Unit {0}) FlashFail) (u : Unit {0}) → n ≡ k + 1 → Follows {A = Unit {0}} (erases sector k) a b (Ok tt)
    → Does (operation.Erase (sector + k)) b c done → done ≡ Ok u → Follows {A = Unit {0}} (erases sector n) a c (Ok tt)
erased_more sector k n a b c done u number h d e =
    let one : Follows {A = Unit {0}} (operation.Erase (sector + k) ∷ []) b c (Ok tt) = Follows-does (operation.Erase (sector + k)) b c (Ok tt) (subst (λ (r : Result (Unit {0}) FlashFail). Does (operation.Erase (sector + k)) b c r) e d) in
    let plan : erases sector k ++ operation.Erase (sector + k) ∷ [] ≡ erases sector n = sym (ap (erases sector) number ∙ erases_next sector k) in
    subst (λ (ops : List Operation). Follows {A = Unit {0}} ops a c (Ok tt)) plan (Follows-then (erases sector k) (operation.Erase (sector + k) ∷ []) a b c tt (Ok tt) h one)

-- the next one failed
pub erased_part : (sector count k : ℕ) (a b c : FlashState) (done result : Result (Unit {0}) FlashFail) (f : FlashFail) → k < count → Follows {A = Unit {0}} (erases sector k) a b (Ok tt)
    → Does (operation.Erase (sector + k)) b c done → done ≡ Err f → result ≡ Err f → Follows (erases sector count) a c result
erased_part sector count k a b c done result f less h d e r =
    let one : Follows {A = Unit {0}} (operation.Erase (sector + k) ∷ []) b c (Err f) = Follows-does (operation.Erase (sector + k)) b c (Err f) (subst (λ (r : Result (Unit {0}) FlashFail). Does (operation.Erase (sector + k)) b c r) e d) in
    let front = Follows-then (erases sector k) (operation.Erase (sector + k) ∷ []) a b c tt (Err f) h one in
    let plan : (erases sector k ++ operation.Erase (sector + k) ∷ []) ++ erases (sector + (k + 1)) (count - (k + 1)) ≡ erases sector count =
    sym (erases_rest sector count k less ∙ ap (λ (ops : List Operation). ops ++ erases (sector + (k + 1)) (count - (k + 1))) (erases_next sector k)) in
    subst (λ (x : Result (Unit {0}) FlashFail). Follows (erases sector count) a c x) (sym r)
    (subst (λ (ops : List Operation). Follows {A = Unit {0}} ops a c (Err f)) plan
    (Follows-first (erases sector k ++ operation.Erase (sector + k) ∷ []) (erases (sector + (k + 1)) (count - (k + 1))) a c f front))

-- ---- what the bus did
-- A bank that runs, seen as such, whose flash does what a verdict lets pass.
module _ {F : Type 0} (device : F → FlashState) (bank seen : RunningState F) (is : bank ≡ seen) (verdict : Verdict) (op : BusOp) (passed : verdict ≡ Pass op) (formed : IsFormedVerdict verdict)
    (safe : IsSafePass seen.manifest seen.layout verdict) (spells : StillSpells (now (device bank.flash)) bank.manifest bank.layout) where
  formed_op : IsFormed op
  formed_op = subst IsFormedVerdict passed formed

  safe_op : IsSafe bank.manifest bank.layout op
  safe_op = subst (λ (v : Verdict). IsSafePass bank.manifest bank.layout v) passed (subst (λ (s : RunningState F). IsSafePass s.manifest s.layout verdict) (sym is) safe)

  -- it lies in the flash
  pub bus_inside : All (λ done. place_of done + len_of done ≤ size_of (device bank.flash)) (bus_ops op)
  bus_inside = subst (λ (size : ℕ). All (λ done. place_of done + len_of done ≤ size) (bus_ops op)) (length-now (device bank.flash))
      (safe_within bank.manifest bank.layout (length (now (device bank.flash))) op spells.spelled.each_region spells.valid.inside formed_op safe_op)

  module _ {A : Type 0} (new : FlashState) (result : Result A FlashFail) (does : Follows (bus_ops op) (device bank.flash) new result) where
    leave : All (LeavesTrusted bank.manifest bank.layout) does.part.added
    leave = part_leaves bank.manifest bank.layout (now (device bank.flash)) (bus_ops op) does.part.added does.part.part
        (safe_leaves bank.manifest bank.layout (length (now (device bank.flash))) op spells.spelled.each_region spells.spelled.in_order spells.valid.apart formed_op safe_op)

    leave_image : All (LeavesImage bank.layout bank.manifest) does.part.added
    leave_image = All-weaker (LeavesTrusted bank.manifest bank.layout) (LeavesImage bank.layout bank.manifest) (λ done left. record { area = left.manifest; static = left.static }) does.part.added leave

    leave_recovery : All (Leaves bank.layout.recovery_at bank.layout.area_len) does.part.added
    leave_recovery = All-weaker (LeavesTrusted bank.manifest bank.layout) (Leaves bank.layout.recovery_at bank.layout.area_len) (λ done left. left.recovery) does.part.added leave

    -- what holds of the operations that were done, as they are seen
    since : (P : RunningState F → Operation → Type 0) → All (P bank) does.part.added → All (P seen) (drop (op_count_of (device seen.flash)) new.ops)
    since P h =
        let added : drop (op_count_of (device bank.flash)) new.ops ≡ does.part.added =
        ap (λ (ops : List Operation). drop (op_count_of (device bank.flash)) ops) does.part.is ∙ drop-append_seam (device bank.flash).ops does.part.added in
        subst (λ (s : RunningState F). All (P s) (drop (op_count_of (device s.flash)) new.ops)) is (subst (λ (ops : List Operation). All (P bank) ops) (sym added) h)

    pub bus_leaves_image : All (LeavesImage seen.layout seen.manifest) (drop (op_count_of (device seen.flash)) new.ops)
    bus_leaves_image = since (λ s. LeavesImage s.layout s.manifest) leave_image

    pub bus_leaves_recovery : All (Leaves seen.layout.recovery_at seen.layout.area_len) (drop (op_count_of (device seen.flash)) new.ops)
    bus_leaves_recovery = since (λ s. Leaves s.layout.recovery_at s.layout.area_len) leave_recovery

    -- the image holds what it held
    pub bus_spells : StillSpells (now new) bank.manifest bank.layout
    bus_spells =
        let image : now new ≡ play (now (device bank.flash)) does.part.added = DoesPart-now (bus_ops op) (device bank.flash) new does.worked.moved.start does.part in
        subst (λ (bytes : List ℕ). StillSpells bytes bank.manifest bank.layout) (sym image)
        (spells_kept (now (device bank.flash)) (play (now (device bank.flash)) does.part.added) bank.manifest bank.layout
        (left_image bank.layout bank.manifest (now (device bank.flash)) does.part.added leave_image) spells)
