-- What the bytes of a provision say is what they were made of.
use Rattle.std.proofs.Common.{◌≡◌, ℕ, ◌+◌, ◌^◌, ◌<◌, List, [], ◌++◌, length, take, refl, sym, ap, ◌∙◌, arith, append_assoc, length-append}
use Rattle.std.proofs.lemmas.List.{drop_at, take_at, append-nil}
use Rattle.byteorder.specs.Endian.{little_bytes, little_number}
use Rattle.byteorder.specs.Numbers.{little_number-reads_back, length-bytes_low_first}
use Rattle.pfr_flash.specs.Bytes.{bytes_at}
use Rattle.pfr_flash.specs.Numbers.{little_at, number_at}
use Rattle.pfr_flash.specs.declared.layout.Layout.{Layout}
use Rattle.pfr_fuses.specs.RootSlot.{HasFields, IsSlot, layout_at, slot_of, layout_bytes, slot_bytes}
use Rattle.pfr_fuses.specs.declared.root_slot.RootSlot.{RootSlot}

pub length-number : (x : ℕ) → length (little_bytes 4 x) ≡ 4
length-number x = length-bytes_low_first 0 4 x

-- a part of bytes that are put together
pub part_middle : (all front part rest : List ℕ) (at count : ℕ) → all ≡ front ++ (part ++ rest) → length front ≡ at → length part ≡ count → bytes_at all at count ≡ part
part_middle all front part rest at count e hf hp = ap (λ (xs : List ℕ). bytes_at xs at count) e ∙ ap (λ (xs : List ℕ). take count xs) (drop_at front (part ++ rest) at hf) ∙ take_at part rest count hp

number_there : (all front rest : List ℕ) (at x : ℕ) → x < 2 ^ 32 → all ≡ front ++ (little_bytes 4 x ++ rest) → length front ≡ at → number_at all at ≡ x
unfolding little_at
number_there all front rest at x fits e hf =
    ap (little_number 4) (part_middle all front (little_bytes 4 x) rest at 4 e hf (length-number x) ∙ sym (append-nil (little_bytes 4 x))) ∙ little_number-reads_back 4 x [] fits

layout_there : (all front rest : List ℕ) (at : ℕ) (l : Layout) → HasFields l → all ≡ front ++ (layout_bytes l ++ rest) → length front ≡ at → layout_at all at ≡ l
unfolding layout_at layout_bytes
layout_there all front rest at l h e hf =
    let a = little_bytes 4 l.manifest_at in
    let b = little_bytes 4 l.manifest_len in
    let c = little_bytes 4 l.recovery_at in
    let d = little_bytes 4 l.staging_at in
    let f = little_bytes 4 l.area_len in
    let first : number_at all at ≡ l.manifest_at = number_there all front (b ++ (c ++ (d ++ (f ++ rest)))) at l.manifest_at h.manifest_at (e ∙ (simp append_assoc)) hf in
    let second : number_at all (at + 4) ≡ l.manifest_len =
    number_there all (front ++ a) (c ++ (d ++ (f ++ rest))) (at + 4) l.manifest_len h.manifest_len (e ∙ (simp append_assoc)) (simp length-append (omega (arith, length-number l.manifest_at))) in
    let third : number_at all (at + 8) ≡ l.recovery_at =
    number_there all ((front ++ a) ++ b) (d ++ (f ++ rest)) (at + 8) l.recovery_at h.recovery_at (e ∙ (simp append_assoc)) (simp length-append (omega (arith, length-number l.manifest_at, length-number l.manifest_len))) in
    let fourth : number_at all (at + 12) ≡ l.staging_at =
    number_there all (((front ++ a) ++ b) ++ c) (f ++ rest) (at + 12) l.staging_at h.staging_at (e ∙ (simp append_assoc))
    (simp length-append (omega (arith, length-number l.manifest_at, length-number l.manifest_len, length-number l.recovery_at))) in
    let fifth : number_at all (at + 16) ≡ l.area_len =
    number_there all ((((front ++ a) ++ b) ++ c) ++ d) rest (at + 16) l.area_len h.area_len (e ∙ (simp append_assoc))
    (simp length-append (omega (arith, length-number l.manifest_at, length-number l.manifest_len, length-number l.recovery_at, length-number l.staging_at))) in
    rw (first, second, third, fourth, fifth) refl

pub length-layout : (l : Layout) → length (layout_bytes l) ≡ 20
unfolding layout_bytes
length-layout l = simp length-append (omega (arith, length-number l.manifest_at, length-number l.manifest_len, length-number l.recovery_at, length-number l.staging_at, length-number l.area_len))

pub length-slot : (what : RootSlot) → IsSlot what → length (slot_bytes what) ≡ 72
unfolding slot_bytes
length-slot what h = simp length-append (omega (arith, h.root, length-layout what.bmc, length-layout what.pch))

-- what a program stores, it reads back
pub slot_of-bytes : (what : RootSlot) → IsSlot what → slot_of (slot_bytes what) ≡ what
unfolding slot_of slot_bytes
slot_of-bytes what h =
    let all = what.root ++ (layout_bytes what.bmc ++ layout_bytes what.pch) in
    let root : bytes_at all 0 32 ≡ what.root = part_middle all [] what.root (layout_bytes what.bmc ++ layout_bytes what.pch) 0 32 refl refl h.root in
    let bmc : layout_at all 32 ≡ what.bmc = layout_there all what.root (layout_bytes what.pch) 32 what.bmc h.bmc refl h.root in
    let pch : layout_at all 52 ≡ what.pch =
    layout_there all (what.root ++ layout_bytes what.bmc) [] 52 what.pch h.pch (simp (append_assoc, append-nil)) (simp length-append (omega (arith, h.root, length-layout what.bmc))) in
    rw (root, bmc, pch) refl
