-- A bank of a demo, and what a manifest would have of it, keep their rules.
use Rattle.std.proofs.Common.{◌≡◌, ℕ, ◌*◌, ◌≤◌, true, inl, Ok, refl, arith}
use Rattle.std.proofs.lemmas.Bool.{le-leb}
use Rattle.std.proofs.lemmas.Bool.Decides.{nat_tests}
use Rattle.pfr_flash.specs.Layout.{IsValidLayout}
use Rattle.pfr_flash.specs.declared.names.Bank.{Bank}
use Rattle.pfr_flash.proofs.LayoutLemmas.{valid_judged}
use Rattle.pfr_manifest.specs.Judge.{judge_stretch}
use Rattle.pfr_made.specs.Demo.{IsDemoSize, data_region, demo_bank, static_region}
use Rattle.pfr_made.specs.Entries.{judge_entries, judge_next, judge_regions}
use Rattle.pfr_made.specs.Judge.{is_bank_size, judge_place}

-- ---- size and layout
size_good : (sectors : ℕ) → IsDemoSize sectors → is_bank_size (4096 * sectors) ≡ true
size_good sectors size =
    let a = size.sixteens in
    let b = size.least in
    let c = size.most in
    grind (arith, nat_tests)

layout_good : (svn sectors : ℕ) → IsDemoSize sectors → IsValidLayout (demo_bank svn sectors).layout (4096 * sectors)
unfolding demo_bank
layout_good svn sectors size = record {
  aligned = record {
    manifest_at = omega arith;
    manifest_len = omega arith;
    recovery_at = omega (arith, size.sixteens);
    staging_at = omega (arith, size.sixteens);
    area_len = omega (arith, size.sixteens);
    some_manifest = omega arith;
    some_area = omega (arith, size.least);
  };
  inside = record { manifest = omega (arith, size.least); recovery = omega arith; staging = omega arith };
  apart = record {
    manifest_recovery = inl (omega (arith, size.least));
    manifest_staging = inl (omega (arith, size.least));
    recovery_staging = inl (omega arith);
  };
}

pub place_good : (bank : Bank) (svn sectors : ℕ) → IsDemoSize sectors → judge_place bank (demo_bank svn sectors) ≡ Ok tt
unfolding judge_place demo_bank
place_good bank svn sectors size =
    rw (size_good sectors size, valid_judged (demo_bank svn sectors).layout (4096 * sectors) (layout_good svn sectors size)) refl

-- ---- the regions
static_good : (svn sectors : ℕ) → IsDemoSize sectors → judge_next 0 (static_region sectors) 0 0 (demo_bank svn sectors).layout (4096 * sectors) ≡ Ok tt
unfolding judge_next judge_stretch demo_bank
static_good svn sectors size =
    let a = size.sixteens in
    let b = size.least in
    grind (arith, nat_tests)

data_good : (svn sectors : ℕ) → IsDemoSize sectors → judge_next 1 (data_region sectors) 65536 (1024 * sectors) (demo_bank svn sectors).layout (4096 * sectors) ≡ Ok tt
unfolding judge_next judge_stretch demo_bank
data_good svn sectors size =
    let a = size.sixteens in
    let b = size.least in
    grind (arith, nat_tests)

pub entries_good : (svn sectors : ℕ) → svn ≤ 127 → IsDemoSize sectors → judge_entries (demo_bank svn sectors) ≡ Ok tt
unfolding judge_entries judge_regions demo_bank
entries_good svn sectors low size =
    rw (le-leb svn 127 low, static_good svn sectors size, data_good svn sectors size) refl
