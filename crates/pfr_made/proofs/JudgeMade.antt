-- What it tells that a bank's description breaks no rule.
use Rattle.std.proofs.Common.{◌≡◌, ℕ, ◌+◌, ◌%◌, ◌≤◌, ◌&&◌, nat_le, List, length, Ok}
use Rattle.std.specs.Prelude.{◌==◌}
use Rattle.std.proofs.lemmas.Bool.{and_parts, leb-true, eqb-true}
use Rattle.pfr_flash.specs.Judging.{◌>>◌, require, told_as}
use Rattle.pfr_flash.specs.Layout.{judge_layout}
use Rattle.pfr_flash.specs.declared.names.Bank.{Bank}
use Rattle.pfr_flash.proofs.JudgingLemmas.{passed_last, passed_test, passed_unit, told_ok}
use Rattle.pfr_flash.proofs.LayoutLemmas.{judged_valid}
use Rattle.pfr_description.specs.Banks.{bank_of}
use Rattle.pfr_description.specs.Described.{BankDescription}
use Rattle.pfr_description.specs.Described.{Description}
use Rattle.pfr_description.specs.declared.fail.DescWhy.TheVariants.{Fit, Layout, Manifest}
use Rattle.pfr_description.specs.declared.fail.FitPart.{FitPart}
use Rattle.pfr_description.specs.declared.fail.FitPart.TheVariants as parts
use Rattle.pfr_made.specs.Capsules.{capsule_body}
use Rattle.pfr_made.specs.Judge.{IsPlaced, fit_capsule, fit_manifest, is_bank_size, judge_image, judge_place, require_fit}
use Rattle.pfr_made.specs.Made.{active_image, judge_bank, judge_fits, judge_given}
use Rattle.pfr_made.specs.Manifests.{manifest_length}
use Rattle.pfr_made.specs.Entries.{judge_entries}

-- all that a bank's description, image and staged file obey
pub record IsMakeable (desc : Description) (bank : Bank) (image staged : List ℕ) : Type 0 where
  pub placed : IsPlaced (bank_of desc bank)
  pub size : length image ≡ (bank_of desc bank).size
  pub entries : judge_entries (bank_of desc bank) ≡ Ok tt
  pub manifest : 1024 + manifest_length (bank_of desc bank) (active_image desc bank image) ≤ (bank_of desc bank).layout.manifest_len
  pub capsule : 1024 + length (capsule_body desc bank (active_image desc bank image)) ≤ (bank_of desc bank).layout.area_len
  pub staged_file : length staged ≤ (bank_of desc bank).layout.area_len

-- ---- what is told
passed_fit : (bank : Bank) (what : FitPart) (count area : ℕ) → require_fit bank what count area ≡ Ok tt → count ≤ area
passed_fit bank what count area h = leb-true count area (passed_last (Fit bank what) (nat_le count area) h)

pub place_told : (bank : Bank) (part : BankDescription) → judge_place bank part ≡ Ok tt → IsPlaced part
unfolding judge_place
place_told bank part h =
    let p = passed_test (Fit bank parts.Size) (is_bank_size part.size) (told_as (Layout bank) (judge_layout part.layout part.size)) tt h in
    let t = and_parts (part.size % 65536 == 0 && nat_le 65536 part.size) (nat_le part.size 67108864) p.0 in
    let u = and_parts (part.size % 65536 == 0) (nat_le 65536 part.size) t.0 in
    record {
      size = record { blocks = eqb-true (part.size % 65536) 0 u.0; most = leb-true part.size 67108864 t.1 };
      least = leb-true 65536 part.size u.1;
      layout = judged_valid part.layout part.size (told_ok (Layout bank) (judge_layout part.layout part.size) tt p.1);
    }

pub bank_told : (desc : Description) (bank : Bank) (image staged : List ℕ) → judge_bank desc bank image staged ≡ Ok tt → IsMakeable desc bank image staged
unfolding judge_given judge_fits judge_image fit_manifest fit_capsule
bank_told desc bank image staged h =
    let part : BankDescription = bank_of desc bank in
    let active : List ℕ = active_image desc bank image in
    let a = passed_unit (judge_given desc bank image) (judge_fits desc bank active staged) tt h in
    let b = passed_unit (judge_image bank part image) (told_as (Manifest bank) (judge_entries part)) tt a.0 in
    let c = passed_unit (judge_place bank part) (require (Fit bank parts.Image) (length image == part.size)) tt b.0 in
    let staged_fits = require_fit bank parts.Staged (length staged) part.layout.area_len in
    let d = passed_unit (fit_manifest bank part active) (fit_capsule bank desc active >> staged_fits) tt a.1 in
    let e = passed_unit (fit_capsule bank desc active) staged_fits tt d.1 in
    record {
      placed = place_told bank part c.0;
      size = eqb-true (length image) part.size (passed_last (Fit bank parts.Image) (length image == part.size) c.1);
      entries = told_ok (Manifest bank) (judge_entries part) tt b.1;
      manifest = passed_fit bank parts.Manifest (1024 + manifest_length part active) part.layout.manifest_len d.0;
      capsule = passed_fit bank parts.Capsule (1024 + length (capsule_body desc bank active)) part.layout.area_len e.0;
      staged_file = passed_fit bank parts.Staged (length staged) part.layout.area_len e.1;
    }
