-- A frame is judged well exactly where it passes, and what it asks for is then formed.
use Rattle.std.proofs.Common.{◌≡◌, ℕ, ◌^◌, ◌<◌, ◌≤◌, ◌==◌, ◌||◌, Bool, true, false, not, nat_le, nat_lt, List, [], ◌∷◌, length, get_or, All, Some, None, Result, Ok, Err, refl, sym, ap, ◌∙◌, subst, arith, inl, inr, ◌%◌, drop, length-append, length-take, length-drop}
use Rattle.std.specs.Prelude.{◌↔◌}
use Rattle.std.specs.Bool.{Decides}
use Rattle.std.proofs.lemmas.Bool.{cases_Bool, eqb-true}
use Rattle.std.proofs.lemmas.Bool.Decides.{Decides-ltb}
use Rattle.std.proofs.lemmas.List.{length-replicate}
use Rattle.std.proofs.lemmas.List.Elements.{All-nil, All-cons, All-head, All-tail}
use Rattle.pfr_flash.specs.Bytes.{bytes_at}
use Rattle.pfr_flash.specs.Judging.{◌>>=◌, ◌>>◌, require, known, require_none}
use Rattle.pfr_flash.proofs.JudgingLemmas.{passed, passed_known, passed_test, passed_none, goes_on, Decides-le, Decides-true}
use Rattle.pfr_flash.specs.declared.layout.Layout.{Layout}
use Rattle.pfr_manifest.specs.Access.{IsWritable}
use Rattle.pfr_manifest.specs.Stretches.{stretches_of, writable_by}
use Rattle.pfr_manifest.specs.declared.manifest.Manifest.{Manifest}
use Rattle.pfr_manifest.proofs.StretchLemmas.{Decides-writable}
use Rattle.pfr_filter.specs.Opcodes.{chip_erase, command_of, needs, is_addressed}
use Rattle.pfr_filter.specs.Asking.{address_of, op_of, page_with, pages_of, changes, IsFormed}
use Rattle.pfr_filter.specs.Frames.{Passes, IsFormedVerdict, first_without, judge_spi, verdict_of, verdict_on}
use Rattle.pfr_filter.specs.declared.command.Command.{Command}
use Rattle.pfr_filter.specs.declared.command.Command.TheVariants.{Read, FastRead, ReadStatus, ReadId, WriteEnable, WriteDisable, PageProgram, SectorErase, BlockErase}
use Rattle.pfr_filter.specs.declared.verdict.BusOp.{BusOp}
use Rattle.pfr_filter.specs.declared.verdict.BusOp.TheVariants.{Program}
use Rattle.pfr_filter.specs.declared.verdict.Verdict.TheVariants.{Pass}
use Rattle.pfr_filter.specs.declared.verdict.BlockCause.{BlockCause}
use Rattle.pfr_filter.specs.declared.verdict.BlockCause.TheVariants.{Opcode, ChipErase, ShortFrame, Range, NotWritable, NoLatch}

-- ---- the tests
-- the opcode that erases the chip is none of the others
other_opcode : (opcode : ℕ) (command : Command) → command_of opcode ≡ Some command → not (opcode == chip_erase) ≡ true
unfolding command_of
other_opcode opcode command h = elim (cases_Bool (opcode == chip_erase)) [
  | inl same ↦ let e : opcode ≡ 0xC7 = eqb-true opcode chip_erase same in let none = rw e at h in cc
  | inr other ↦ rw other refl
]

-- a test that is asked for only where another holds
Decides-where : {P : Type 0} (only test : Bool) → Decides test P → Decides (not only || test) (only ≡ true → P)
Decides-where true test d = (λ h _. d.0 h, λ h. d.1 (h refl))
Decides-where false test d = (λ _ h. cc, λ _. refl)

-- no page is without the test exactly where each has it
module _ (test : ℕ → Bool) (IsOpen : ℕ → Type 0) (decides : (page : ℕ) → Decides (test page) (IsOpen page)) where
  by_test : (page : ℕ) (pages : List ℕ) (tested : Bool) → test page ≡ tested → first_without test (page ∷ pages) ≡ None → (tested ≡ true) × (first_without test pages ≡ None)
  unfolding first_without
  by_test page pages true e h = (refl, rw e at h)
  by_test page pages false e h = let none = rw e at h in cc

  each_open : (pages : List ℕ) → first_without test pages ≡ None → All IsOpen pages
  each_open [] h = All-nil IsOpen
  each_open (page ∷ pages) h =
      let parts = by_test page pages (test page) refl h in
      All-cons IsOpen page pages ((decides page).0 parts.0) (each_open pages parts.1)

  none_closed : (pages : List ℕ) → All IsOpen pages → first_without test pages ≡ None
  unfolding first_without
  none_closed [] h = refl
  none_closed (page ∷ pages) h = rw ((decides page).1 (All-head IsOpen page pages h)) (none_closed pages (All-tail IsOpen page pages h))

-- ---- the frame
-- the judgement of a frame from each of its tests on, but for the first two
abbrev by_latch : Bool → BusOp → Result BusOp BlockCause
by_latch latch op = require NoLatch (not (changes op) || latch) >> Ok op

abbrev by_pages : (ℕ → Bool) → Bool → BusOp → Result BusOp BlockCause
by_pages test latch op = require_none NotWritable (first_without test (pages_of op)) >> by_latch latch op

abbrev by_range : List ℕ → (ℕ → Bool) → ℕ → Bool → Command → Result BusOp BlockCause
by_range frame test size latch command =
    require Range (not (is_addressed command) || nat_lt (address_of frame) size) >> by_pages test latch (op_of command frame)

abbrev by_length : List ℕ → (ℕ → Bool) → ℕ → Bool → Command → Result BusOp BlockCause
by_length frame test size latch command = require ShortFrame (nat_le (needs command) (length frame)) >> by_range frame test size latch command

abbrev by_opcode : List ℕ → (ℕ → Bool) → ℕ → Bool → Result BusOp BlockCause
by_opcode frame test size latch = known Opcode (command_of (get_or frame 0 0)) >>= by_length frame test size latch

module _ (frame : List ℕ) (test : ℕ → Bool) (IsOpen : ℕ → Type 0) (decides : (page : ℕ) → Decides (test page) (IsOpen page)) (size : ℕ) (latch : Bool) (op : BusOp) where
  well_by_opcode : judge_spi frame test size latch ≡ Ok op → by_opcode frame test size latch ≡ Ok op
  unfolding judge_spi
  well_by_opcode h = (passed_test ChipErase (not (get_or frame 0 0 == chip_erase)) (by_opcode frame test size latch) op h).1

  -- it passes all tests
  judged_well : judge_spi frame test size latch ≡ Ok op → Passes frame IsOpen size latch op
  judged_well h =
      let (command, opcode, judged) = passed_known Opcode (command_of (get_or frame 0 0)) (by_length frame test size latch) op (well_by_opcode h) in
      let asked : BusOp = op_of command frame in
      let long = passed ShortFrame (nat_le (needs command) (length frame)) (by_range frame test size latch command) op (Decides-le (needs command) (length frame)) judged in
      let inside = passed Range (not (is_addressed command) || nat_lt (address_of frame) size) (by_pages test latch asked) op
      (Decides-where (is_addressed command) (nat_lt (address_of frame) size) (Decides-ltb (address_of frame) size)) long.1 in
      let pages = passed_none NotWritable (first_without test (pages_of asked)) (by_latch latch asked) op inside.1 in
      let latched = passed NoLatch (not (changes asked) || latch) (Ok asked) op (Decides-where (changes asked) latch (Decides-true latch)) pages.1 in
      let end : ◌≡◌ {A = Result BusOp BlockCause} (Ok asked) (Ok op) = latched.1 in
      let is : asked ≡ op = cc in
      record {
        command = command;
        opcode = opcode;
        long = long.0;
        inside = inside.0;
        asks = sym is;
        writable = subst (λ (o : BusOp). All IsOpen (pages_of o)) is (each_open test IsOpen decides (pages_of asked) pages.0);
        latched = subst (λ (o : BusOp). changes o ≡ true → latch ≡ true) is latched.0;
      }

  -- where it passes them, it goes on past each
  module _ (h : Passes frame IsOpen size latch op) where
    past_latch : by_latch latch op ≡ Ok op
    past_latch = goes_on NoLatch (not (changes op) || latch) (Ok op) (Decides-where (changes op) latch (Decides-true latch)) h.latched

    past_pages : by_pages test latch op ≡ Ok op
    past_pages = rw (none_closed test IsOpen decides (pages_of op) h.writable) past_latch

    past_range : by_range frame test size latch h.command ≡ Ok op
    past_range =
        goes_on Range (not (is_addressed h.command) || nat_lt (address_of frame) size) (by_pages test latch (op_of h.command frame))
        (Decides-where (is_addressed h.command) (nat_lt (address_of frame) size) (Decides-ltb (address_of frame) size)) h.inside
        ∙ ap (λ (o : BusOp). by_pages test latch o) (sym h.asks) ∙ past_pages

    past_length : by_length frame test size latch h.command ≡ Ok op
    past_length =
        goes_on ShortFrame (nat_le (needs h.command) (length frame)) (by_range frame test size latch h.command) (Decides-le (needs h.command) (length frame)) h.long ∙ past_range

    past_opcode : by_opcode frame test size latch ≡ Ok op
    past_opcode = rw h.opcode past_length

    passes_well : judge_spi frame test size latch ≡ Ok op
    unfolding judge_spi
    passes_well = rw (other_opcode (get_or frame 0 0) h.command h.opcode) past_opcode

  pub judged_passes : (judge_spi frame test size latch ≡ Ok op) ↔ Passes frame IsOpen size latch op
  judged_passes = (judged_well, passes_well)

-- ---- what it asks for is formed
length-page_with : (place : ℕ) (bytes : List ℕ) → place ≤ 256 → length bytes ≤ 256 → length (page_with place bytes) ≡ 256
length-page_with place bytes h few =
    simp (length-append, length-take, length-drop, length-replicate) (omega arith)

-- a program's page is, of whatever frame
abbrev pub IsPaged : BusOp → Type 0
IsPaged (Program at page) = IsFormed (Program at page)
IsPaged op = Unit {0}

paged : (command : Command) (frame : List ℕ) → IsPaged (op_of command frame)
paged PageProgram frame =
    (omega arith, length-page_with (address_of frame % 256) (bytes_at frame 5 256) (omega arith) (omega (arith, length-take 256 (drop 5 frame))))
paged _ frame = tt

formed : (command : Command) (frame : List ℕ) (size : ℕ) → size ≤ 2 ^ 32 → (is_addressed command ≡ true → address_of frame < size) → IsFormed (op_of command frame)
formed Read frame size small inside = tt
formed FastRead frame size small inside = tt
formed ReadStatus frame size small inside = tt
formed ReadId frame size small inside = tt
formed WriteEnable frame size small inside = tt
formed WriteDisable frame size small inside = tt
formed PageProgram frame size small inside = paged PageProgram frame
formed SectorErase frame size small inside = let less = inside refl in omega (arith, less)
formed BlockErase frame size small inside = let less = inside refl in omega (arith, less)

-- A frame that is judged well asks for what is formed.
pub judged_formed : (frame : List ℕ) (test : ℕ → Bool) (size : ℕ) (latch : Bool) (op : BusOp) → size ≤ 2 ^ 32 → judge_spi frame test size latch ≡ Ok op → IsFormed op
judged_formed frame test size latch op small h =
    let passes = (judged_passes frame test (λ page. test page ≡ true) (λ page. Decides-true (test page)) size latch op).0 h in
    subst IsFormed (sym passes.asks) (formed passes.command frame size small passes.inside)

pub passes_paged : (frame : List ℕ) (IsOpen : ℕ → Type 0) (size : ℕ) (latch : Bool) (op : BusOp) → Passes frame IsOpen size latch op → IsPaged op
passes_paged frame IsOpen size latch op passes = subst IsPaged (sym passes.asks) (paged passes.command frame)

-- ---- verdicts
pub verdict_formed : (judged : Result BusOp BlockCause) → ((op : BusOp) → judged ≡ Ok op → IsFormed op) → IsFormedVerdict (verdict_of judged)
verdict_formed (Ok op) each = each op refl
verdict_formed (Err cause) each = tt

pub pass_well : (judged : Result BusOp BlockCause) (op : BusOp) → verdict_of judged ≡ Pass op → judged ≡ Ok op
pass_well (Ok x) op h = let e : x ≡ op = cc in rw e refl
pass_well (Err cause) op h = cc

-- A frame's verdict is Pass exactly where the frame passes.
pub verdict_passes : (frame : List ℕ) (test : ℕ → Bool) (IsOpen : ℕ → Type 0) (decides : (page : ℕ) → Decides (test page) (IsOpen page)) (size : ℕ) (latch : Bool) (op : BusOp)
    → (verdict_of (judge_spi frame test size latch) ≡ Pass op) ↔ Passes frame IsOpen size latch op
verdict_passes frame test IsOpen decides size latch op =
    let law = judged_passes frame test IsOpen decides size latch op in
    (λ h. law.0 (pass_well (judge_spi frame test size latch) op h), λ h. ap (λ (r : Result BusOp BlockCause). verdict_of r) (law.1 h))

-- It passes by a manifest exactly where the manifest lets the bus write its pages: so what passes is safe.
pub manifest_passes : (frame : List ℕ) (m : Manifest) (layout : Layout) (size : ℕ) (latch : Bool) (op : BusOp)
    → (verdict_on frame m layout size latch ≡ Pass op) ↔ Passes frame (IsWritable m layout) size latch op
manifest_passes frame m layout size latch op = verdict_passes frame (writable_by (stretches_of m) layout) (IsWritable m layout) (Decides-writable m layout) size latch op
