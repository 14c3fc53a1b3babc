-- What the fuses of a store say that is made: this provision, no cancelled key, and floors of 0.
use Rattle.std.proofs.Common.{◌≡◌, ℕ, ◌+◌, ◌-◌, ◌≤◌, ◌<◌, false, List, [], ◌∷◌, ◌++◌, length, get_or, take, drop, replicate, Ok, refl, sym, ap, ◌∙◌, arith, append_assoc, length-append}
use Rattle.std.proofs.Math.Seq.{get_or-append_seam, drop-append-add}
use Rattle.std.proofs.lemmas.Bool.{ne_eqb}
use Rattle.std.proofs.lemmas.List.{drop-replicate, length-replicate, take-replicate, take-take, take_at}
use Rattle.byteorder.specs.Endian.{little_bytes}
use Rattle.sha2.proofs.Facts256.{length-sha256}
use Rattle.pfr_flash.specs.Bytes.{AreBytes, bytes_at, continued}
use Rattle.pfr_flash.specs.FuseRow.{fuse_at, is_cleared}
use Rattle.pfr_flash.specs.declared.layout.Layout.{Layout}
use Rattle.pfr_flash.specs.declared.names.Bank.{Bank}
use Rattle.pfr_flash.specs.declared.names.Bank.TheVariants.{Bmc, Pch}
use Rattle.pfr_flash.specs.declared.names.ContentType.{ContentType}
use Rattle.pfr_flash.specs.declared.names.ContentType.TheVariants.{PchManifest, PchCapsule, BmcManifest, BmcCapsule}
use Rattle.pfr_flash.proofs.BytesLemmas.{get_or-bytes_at, continued-whole}
use Rattle.pfr_engine.specs.declared.engine.Curve.{Curve}
use Rattle.pfr_fuses.specs.FuseMap.{floor_at, profile_of, row_at}
use Rattle.pfr_fuses.specs.FusesOf.{floor_fuses, fuses_of, row_fuses}
use Rattle.pfr_fuses.specs.FusesState.{FusesState, floor_of, row_of}
use Rattle.pfr_fuses.specs.RootSlot.{HasFields, IsSlot, layout_of, provision_in, slot_bytes, slot_of}
use Rattle.pfr_fuses.specs.RootSlot as slots
use Rattle.pfr_fuses.specs.Slots.{IsProvisionedBy, slot_at}
use Rattle.pfr_fuses.specs.declared.profile.Profile.TheVariants.{Two}
use Rattle.pfr_fuses.specs.declared.root_slot.RootSlot.{RootSlot}
use Rattle.pfr_fuses.proofs.FloorLemmas.{floor_in-none, not_cleared}
use Rattle.pfr_fuses.proofs.RootSlotLemmas.{length-layout, slot_of-bytes}
use Rattle.pfr_fuses.proofs.StandsLemmas.{fuses_of-found}
use Rattle.pfr_description.specs.declared.form.Form.{Form}
use Rattle.pfr_description.specs.declared.form.Form.TheVariants as forms
use Rattle.pfr_description.specs.declared.keys.PublicKey.{PublicKey}
use Rattle.pfr_made.specs.Fields.{blanks, number_bytes}
use Rattle.pfr_made.specs.Marks.{number_of_curve}
use Rattle.pfr_made.specs.Store.{layout_bytes, root_hash, store_of}
use Rattle.pfr_made.proofs.AreasMade.{length-blanks}
use Rattle.pfr_flash.proofs.AreBytesLemmas.{AreBytes-append}
use Rattle.pfr_made.proofs.ByteLaws.{little_bytes-are, sha256-bytes}

-- ---- the fuses that are meant
abbrev pub made_slot : Form → Curve → PublicKey → Layout → Layout → RootSlot
made_slot form curve root bmc pch = record { root = root_hash form curve root; bmc = bmc; pch = pch }

abbrev pub made_fuses : Form → Curve → PublicKey → Layout → Layout → FusesState
made_fuses form curve root bmc pch = record {
  provision = made_slot form curve root bmc pch;
  profile = Two;
  bmc_floor = replicate 16 255;
  pch_floor = replicate 16 255;
  pch_manifest = replicate 32 255;
  pch_capsule = replicate 32 255;
  bmc_manifest = replicate 32 255;
  bmc_capsule = replicate 32 255;
}

-- ---- lists that are put together
-- the element behind a front
behind : (all front rest : List ℕ) (at y d : ℕ) → all ≡ front ++ (y ∷ rest) → length front ≡ at → get_or all at d ≡ y
behind all front rest at y d is long = rw (is, ← long) (get_or-append_seam front y rest d)

-- a part of the blanks behind a front
blank_part : (all front : List ℕ) (count at width : ℕ) → all ≡ front ++ blanks count → length front ≤ at → at + width ≤ length front + count → bytes_at all at width ≡ replicate width 255
unfolding blanks
blank_part all front count at width is low high =
    let e : at ≡ length front + (at - length front) = omega arith in
    ap (λ (bytes : List ℕ). bytes_at bytes at width) is
    ∙ ap (λ (n : ℕ). take width (drop n (front ++ replicate count 255))) e
    ∙ ap (λ (bytes : List ℕ). take width bytes) (drop-append-add front (replicate count 255) (at - length front) ∙ drop-replicate (at - length front) count 255)
    ∙ take-replicate width (count - (at - length front)) 255 (omega arith)

regroup : (a b c d e f g h : List ℕ) → ((((((a ++ b) ++ c) ++ d) ++ e) ++ f) ++ g) ++ h ≡ (a ++ (b ++ c)) ++ (d ++ (e ++ (f ++ (g ++ h))))
regroup a b c d e f g h = simp append_assoc

second : (a d e f g h : List ℕ) → a ++ (d ++ (e ++ (f ++ (g ++ h)))) ≡ (a ++ d) ++ (e ++ (f ++ (g ++ h)))
second a d e f g h = simp append_assoc

third : (a d e f g h : List ℕ) → a ++ (d ++ (e ++ (f ++ (g ++ h)))) ≡ (((a ++ d) ++ e) ++ f) ++ (g ++ h)
third a d e f g h = simp append_assoc

fourth : (a d e f g h : List ℕ) → a ++ (d ++ (e ++ (f ++ (g ++ h)))) ≡ ((((a ++ d) ++ e) ++ f) ++ g) ++ h
fourth a d e f g h = simp append_assoc

same_layout : (l : Layout) → layout_bytes l ≡ slots.layout_bytes l
unfolding number_bytes slots.layout_bytes
same_layout l = refl

-- ---- the values of the slot
length-root : (form : Form) (curve : Curve) (root : PublicKey) → length (root_hash form curve root) ≡ 32
unfolding root_hash
length-root forms.One curve root = length-sha256 (root.x ++ root.y)
length-root forms.Two curve root = length-sha256 (2 ∷ (number_bytes (number_of_curve curve) ++ root.x ++ root.y))

root-bytes : (form : Form) (curve : Curve) (root : PublicKey) → AreBytes (root_hash form curve root)
unfolding root_hash
root-bytes forms.One curve root = sha256-bytes (root.x ++ root.y)
root-bytes forms.Two curve root = sha256-bytes (2 ∷ (number_bytes (number_of_curve curve) ++ root.x ++ root.y))

layout-bytes : (l : Layout) → AreBytes (slots.layout_bytes l)
unfolding slots.layout_bytes
layout-bytes l =
    let a = little_bytes 4 l.manifest_at in
    let b = little_bytes 4 l.manifest_len in
    let c = little_bytes 4 l.recovery_at in
    let d = little_bytes 4 l.staging_at in
    let e = little_bytes 4 l.area_len in
    AreBytes-append a (b ++ (c ++ (d ++ e))) (little_bytes-are 4 l.manifest_at) (AreBytes-append b (c ++ (d ++ e)) (little_bytes-are 4 l.manifest_len)
    (AreBytes-append c (d ++ e) (little_bytes-are 4 l.recovery_at) (AreBytes-append d e (little_bytes-are 4 l.staging_at) (little_bytes-are 4 l.area_len))))

-- ---- the store
module _ (form : Form) (curve : Curve) (root : PublicKey) (bmc pch : Layout) (bmc_fields : HasFields bmc) (pch_fields : HasFields pch) where
  abbrev what : RootSlot
  what = made_slot form curve root bmc pch

  abbrev nv : List ℕ
  nv = store_of form curve root bmc pch

  slot_all : AreBytes (slot_bytes what)
  unfolding slot_bytes
  slot_all = AreBytes-append (root_hash form curve root) (slots.layout_bytes bmc ++ slots.layout_bytes pch) (root-bytes form curve root)
      (AreBytes-append (slots.layout_bytes bmc) (slots.layout_bytes pch) (layout-bytes bmc) (layout-bytes pch))

  length-what : length (slot_bytes what) ≡ 72
  unfolding slot_bytes
  length-what = simp length-append (omega (arith, length-root form curve root, length-layout bmc, length-layout pch))

  is_slot : IsSlot what
  is_slot = record {
    root = length-root form curve root;
    bmc = bmc_fields;
    pch = pch_fields;
    bytes = λ i below. slot_all i;
  }

  parts : nv ≡ slot_bytes what ++ (blanks 183 ++ ((0 ∷ []) ++ (blanks 2304 ++ ((0 ∷ []) ++ blanks 30207))))
  unfolding slot_bytes
  parts = rw (same_layout bmc, same_layout pch) (regroup (root_hash form curve root) (slots.layout_bytes bmc) (slots.layout_bytes pch) (blanks 183) (0 ∷ []) (blanks 2304) (0 ∷ []) (blanks 30207))

  -- the gates
  slot_gate : get_or nv 255 0 ≡ 0
  slot_gate =
      let long : length (slot_bytes what ++ blanks 183) ≡ 255 = simp length-append (omega (arith, length-what, length-blanks 183)) in
      behind nv (slot_bytes what ++ blanks 183) (blanks 2304 ++ ((0 ∷ []) ++ blanks 30207)) 255 0 0
      (parts ∙ second (slot_bytes what) (blanks 183) (0 ∷ []) (blanks 2304) (0 ∷ []) (blanks 30207)) long

  profile_gate : get_or nv 2560 0 ≡ 0
  profile_gate =
      let front : List ℕ = ((slot_bytes what ++ blanks 183) ++ (0 ∷ [])) ++ blanks 2304 in
      let long : length front ≡ 2560 = simp length-append (omega (arith, length-what, length-blanks 183, length-blanks 2304)) in
      behind nv front (blanks 30207) 2560 0 0 (parts ∙ third (slot_bytes what) (blanks 183) (0 ∷ []) (blanks 2304) (0 ∷ []) (blanks 30207)) long

  profile_made : profile_of nv ≡ Two
  unfolding profile_of
  profile_made = rw profile_gate refl

  -- the slot provisions
  gate_is : get_or (slot_at nv 0) 255 0 ≡ 0
  gate_is = get_or-bytes_at nv 0 256 255 0 (omega arith) ∙ slot_gate

  provisioned : IsProvisionedBy nv 0
  provisioned = record {
    within = omega arith;
    gate = λ (h : get_or (slot_at nv 0) 255 0 ≡ 255). absurd (omega (arith, gate_is, h));
    first = λ k below. absurd (omega arith);
  }

  provision_made : provision_in (slot_at nv 0) ≡ what
  provision_made =
      let front : take 72 (slot_at nv 0) ≡ slot_bytes what =
      take-take 72 256 nv (omega arith) ∙ ap (λ (bytes : List ℕ). take 72 bytes) parts ∙ take_at (slot_bytes what) (blanks 183 ++ ((0 ∷ []) ++ (blanks 2304 ++ ((0 ∷ []) ++ blanks 30207)))) 72 length-what in
      ap slot_of front ∙ slot_of-bytes what is_slot

  -- the fuses
  fuses_blank : (at width : ℕ) → 2561 ≤ at → at + width ≤ 32768 → bytes_at nv at width ≡ replicate width 255
  fuses_blank at width low high =
      let front : List ℕ = (((slot_bytes what ++ blanks 183) ++ (0 ∷ [])) ++ blanks 2304) ++ (0 ∷ []) in
      let long : length front ≡ 2561 = simp length-append (omega (arith, length-what, length-blanks 183, length-blanks 2304)) in
      blank_part nv front 30207 at width (parts ∙ fourth (slot_bytes what) (blanks 183) (0 ∷ []) (blanks 2304) (0 ∷ []) (blanks 30207)) (omega (arith, long)) (omega (arith, long))

  kept : (at width : ℕ) → 2561 ≤ at → at + width ≤ 32768 → continued (bytes_at nv at width) width ≡ replicate width 255
  kept at width low high = ap (λ (bytes : List ℕ). continued bytes width) (fuses_blank at width low high) ∙ continued-whole (replicate width 255) width (length-replicate {A = ℕ} width 255)

  floor_made : (bank : Bank) → 2561 ≤ floor_at Two bank → floor_at Two bank + 16 ≤ 32768 → floor_fuses nv bank ≡ replicate 16 255
  unfolding floor_fuses
  floor_made bank low high = rw profile_made (kept (floor_at Two bank) 16 low high)

  row_made : (type : ContentType) → 2561 ≤ row_at Two type → row_at Two type + 32 ≤ 32768 → row_fuses nv type ≡ replicate 32 255
  unfolding row_fuses
  row_made type low high = rw profile_made (kept (row_at Two type) 32 low high)

  -- ---- the law
  pub fuses_made : fuses_of nv ≡ Ok (made_fuses form curve root bmc pch)
  fuses_made =
      let a = floor_made Bmc (omega arith) (omega arith) in
      let b = floor_made Pch (omega arith) (omega arith) in
      let c = row_made PchManifest (omega arith) (omega arith) in
      let d = row_made PchCapsule (omega arith) (omega arith) in
      let e = row_made BmcManifest (omega arith) (omega arith) in
      let f = row_made BmcCapsule (omega arith) (omega arith) in
      fuses_of-found nv 0 provisioned ∙ ap (λ (fuses : FusesState). Ok fuses) (rw (provision_made, profile_made, a, b, c, d, e, f) refl)

-- ---- what they say
none_cleared : (k : ℕ) → k < 256 → is_cleared (replicate 32 255) k ≡ false
none_cleared k below = ne_eqb (fuse_at (replicate 32 255) k) 0 (not_cleared 32 k below)

-- no key is cancelled
pub row_clear : (form : Form) (curve : Curve) (root : PublicKey) (bmc pch : Layout) (type : ContentType) (k : ℕ) → k < 256 → is_cleared (row_of (made_fuses form curve root bmc pch) type) k ≡ false
row_clear form curve root bmc pch PchManifest k below = none_cleared k below
row_clear form curve root bmc pch PchCapsule k below = none_cleared k below
row_clear form curve root bmc pch BmcManifest k below = none_cleared k below
row_clear form curve root bmc pch BmcCapsule k below = none_cleared k below
row_clear form curve root bmc pch type k below = none_cleared k below

-- the floors are 0
pub floor_zero : (form : Form) (curve : Curve) (root : PublicKey) (bmc pch : Layout) (bank : Bank) → floor_of (made_fuses form curve root bmc pch) bank ≡ 0
floor_zero form curve root bmc pch Bmc = sym (floor_in-none 128 (replicate 16 255) (λ k below. not_cleared 16 k below))
floor_zero form curve root bmc pch Pch = sym (floor_in-none 128 (replicate 16 255) (λ k below. not_cleared 16 k below))
