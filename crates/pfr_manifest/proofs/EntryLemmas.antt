-- How the judgement of entries goes on from one to the next.
use Rattle.std.proofs.Common.{◌≡◌, ℕ, zero, suc, ◌+◌, ◌-◌, ◌<◌, ◌≤◌, List, [], ◌∷◌, length, take, drop, Ok, Err, refl, arith}
use Rattle.std.proofs.lemmas.List.{length_push}
use Rattle.pfr_flash.specs.declared.layout.Layout.{Layout}
use Rattle.pfr_manifest.specs.declared.manifest.Manifest.{Manifest}
use Rattle.pfr_manifest.specs.declared.region.Region.{Region}
use Rattle.pfr_manifest.specs.declared.rule.Rule.{Rule}
use Rattle.pfr_manifest.specs.declared.entry.Entry.TheVariants as entries
use Rattle.pfr_manifest.specs.declared.fail.ManifestFail.{ManifestFail}
use Rattle.pfr_flash.specs.Judging.{◌>>=◌, ◌>>◌}
use Rattle.pfr_manifest.specs.Judge.{judge_entry, judge_tail, judge_entries, after_entry, turns_left, region_len, with_region, with_rule, judge_header, judge_manifest}

-- no entries are left
pub judge_none : (turns place : ℕ) (m : Manifest) (layout : Layout) (size : ℕ) → judge_entries turns [] place m layout size ≡ Ok m
unfolding judge_entries
judge_none zero place m layout size = refl
judge_none (suc turns) place m layout size = refl

-- an entry, and what follows it
pub judge_some : (t : ℕ) (rest : List ℕ) (place : ℕ) (m : Manifest) (layout : Layout) (size : ℕ) → 0 < length rest →
    judge_entries (suc t) rest place m layout size ≡ (judge_entry (take 64 rest) place m layout size >>= λ entry. after_entry (λ left next read. judge_entries t left next read layout size) rest place m entry)
unfolding judge_entries
judge_some t [] place m layout size h = absurd (omega arith)
judge_some t (byte ∷ bytes) place m layout size h = refl

module _ (turns t : ℕ) (rest : List ℕ) (place : ℕ) (m : Manifest) (layout : Layout) (size : ℕ) (one_more : turns ≡ suc t) (some : 0 < length rest) where
  pub step_err : (cause : ManifestFail) → judge_entry (take 64 rest) place m layout size ≡ Err cause → judge_entries turns rest place m layout size ≡ Err cause
  step_err cause e = rw (one_more, judge_some t rest place m layout size some, e) refl

  pub step_tail : judge_entry (take 64 rest) place m layout size ≡ Ok entries.Tail → judge_entries turns rest place m layout size ≡ (judge_tail rest >> Ok m)
  step_tail e = rw (one_more, judge_some t rest place m layout size some, e) refl

  pub step_region : (region : Region) → judge_entry (take 64 rest) place m layout size ≡ Ok (entries.Region region) →
      judge_entries turns rest place m layout size ≡ judge_entries t (drop (region_len region) rest) (place + region_len region) (with_region m region) layout size
  step_region region e = rw (one_more, judge_some t rest place m layout size some, e) refl

  pub step_rule : (rule : Rule) → judge_entry (take 64 rest) place m layout size ≡ Ok (entries.Rule rule) →
      judge_entries turns rest place m layout size ≡ judge_entries t (drop 40 rest) (place + 40) (with_rule m rule) layout size
  step_rule rule e = rw (one_more, judge_some t rest place m layout size some, e) refl

pub turns_some : (m : Manifest) → length m.regions ≤ 64 → length m.rules ≤ 64 → turns_left m ≡ suc (128 - (length m.regions + length m.rules))
turns_some m h k = omega arith

pub turns-region : (m : Manifest) (region : Region) → length m.regions < 64 → length m.rules ≤ 64 → turns_left m ≡ suc (turns_left (with_region m region))
turns-region m region h k = let e = length_push m.regions region in omega arith

pub turns-rule : (m : Manifest) (rule : Rule) → length m.regions ≤ 64 → length m.rules < 64 → turns_left m ≡ suc (turns_left (with_rule m rule))
turns-rule m rule h k = let e = length_push m.rules rule in omega arith

-- a manifest is judged by its header, and then by its entries
pub header_refused : (bytes : List ℕ) (count : ℕ) (layout : Layout) (size : ℕ) (cause : ManifestFail) → length bytes ≡ count → judge_header (take 32 bytes) count ≡ Err cause → judge_manifest bytes layout size ≡ Err cause
unfolding judge_manifest
header_refused bytes count layout size cause long e = rw (long, e) refl

pub header_passed : (bytes : List ℕ) (count : ℕ) (layout : Layout) (size : ℕ) (header : Manifest) → length bytes ≡ count → judge_header (take 32 bytes) count ≡ Ok header
    → judge_manifest bytes layout size ≡ judge_entries (turns_left header) (drop 32 bytes) 32 header layout size
unfolding judge_manifest
header_passed bytes count layout size header long e = rw (long, e) refl
