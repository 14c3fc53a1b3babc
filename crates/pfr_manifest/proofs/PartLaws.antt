-- What the judgement of each part tells.
use Rattle.std.proofs.Common.{◌≡◌, ℕ, ◌≤◌, ◌<◌, ◌%◌, Bool, true, false, not, ◌&&◌, ◌==◌, nat_le, nat_lt, Some, Ok, List, length, slice_index, refl, arith}
use Rattle.std.proofs.lemmas.Bool.{leb-true}
use Rattle.std.proofs.lemmas.Bool.Decides.{nat_tests}
use Rattle.pfr_flash.specs.declared.layout.Layout.{Layout}
use Rattle.pfr_manifest.specs.declared.manifest.Manifest.{Manifest}
use Rattle.pfr_manifest.specs.declared.region.Region.{Region}
use Rattle.pfr_manifest.specs.declared.region.RegionHash.{RegionHash}
use Rattle.pfr_manifest.specs.declared.rule.Rule.{Rule}
use Rattle.pfr_flash.specs.Numbers.{number_at}
use Rattle.pfr_manifest.specs.Regions.{IsRegion, is_static, is_writable, last_start, last_end}
use Rattle.pfr_manifest.specs.Spelling.{magic}
use Rattle.pfr_manifest.specs.Stretches.{stretch_of}
use Rattle.pfr_manifest.specs.Judge.{judge_header, judge_definition, judge_stretch, judge_region, judge_rule, header_at, region_at, rule_at, hash_at, region_size, is_clear}
use Rattle.pfr_flash.proofs.JudgingLemmas.{passed_test, passed_last}
use Rattle.pfr_manifest.proofs.RegionLemmas.{Decides-clear}

pub header_holds : (header : List ℕ) (count : ℕ) (m : Manifest) → judge_header header count ≡ Ok m →
    (32 ≤ count) × (number_at header 0 ≡ magic) × (slice_index header 4 ≤ 127) × (number_at header 28 ≡ count) × (0 < count) × (count % 128 ≡ 0) × (m ≡ header_at header)
unfolding judge_header
header_holds header count m h = grind (arith, nat_tests)

pub header_ends : (header : List ℕ) (count : ℕ) → 32 ≤ count → number_at header 0 ≡ magic → slice_index header 4 ≤ 127 → number_at header 28 ≡ count → count % 128 ≡ 0 → judge_header header count ≡ Ok (header_at header)
unfolding judge_header
header_ends header count a b d e f = grind (arith, nat_tests)

pub definition_holds : (entry : List ℕ) (place : ℕ) (m : Manifest) (region : Region) → judge_definition entry place m ≡ Ok region →
    (length m.rules ≡ 0) × (16 ≤ length entry) × (region_size entry ≤ length entry) × (length m.regions < 64) × ((hash : RegionHash) × (hash_at entry ≡ Some hash) × (region ≡ region_at entry hash))
unfolding judge_definition
definition_holds entry place m region h = grind (arith, nat_tests)

pub definition_ends : (entry : List ℕ) (place : ℕ) (m : Manifest) (hash : RegionHash) → length m.rules ≡ 0 → 16 ≤ length entry → region_size entry ≤ length entry → length m.regions < 64 → hash_at entry ≡ Some hash
    → judge_definition entry place m ≡ Ok (region_at entry hash)
unfolding judge_definition
definition_ends entry place m hash a b d e f = grind (arith, nat_tests)

not_both_tells : (static writable : Bool) → not (static && writable) ≡ true → static ≡ true → writable ≡ false
not_both_tells true true h k = cc
not_both_tells true false h k = refl
not_both_tells false writable h k = cc

align_tells : (region : Region) → (region.start % 4096 == 0 && region.end % 4096 == 0) ≡ true → (region.start % 4096 ≡ 0) × (region.end % 4096 ≡ 0)
align_tells region h = grind (arith, nat_tests)

range_tells : (region : Region) (layout : Layout) (size : ℕ) → (nat_lt region.start region.end && nat_le region.end size && is_clear (stretch_of region) layout) ≡ true → (region.start < region.end) × (region.end ≤ size) × (is_clear (stretch_of region) layout ≡ true)
range_tells region layout size h = range_of (is_clear (stretch_of region) layout) h
  where
    range_of : (clear : Bool) → (nat_lt region.start region.end && nat_le region.end size && clear) ≡ true → (region.start < region.end) × (region.end ≤ size) × (clear ≡ true)
    range_of clear h = grind (arith, nat_tests)

region_tests_hold : (region : Region) (before : List Region) (layout : Layout) (size : ℕ) → judge_region region before layout size ≡ Ok tt →
    (is_static region ≡ true → is_writable region ≡ false) × (region.start % 4096 ≡ 0) × (region.end % 4096 ≡ 0) × (region.start < region.end) × (region.end ≤ size) × (is_clear (stretch_of region) layout ≡ true) × (last_end before ≤ region.start)
unfolding judge_stretch
region_tests_hold region before layout size h =
    let a = passed_test _ (not (is_static region && is_writable region)) _ tt h in
    let b = passed_test _ (region.start % 4096 == 0 && region.end % 4096 == 0) _ tt a.1 in
    let d = passed_test _ (nat_lt region.start region.end && nat_le region.end size && is_clear (stretch_of region) layout) _ tt b.1 in
    let e = passed_test _ (nat_le (last_start before) region.start) _ tt d.1 in
    let f = passed_last _ (nat_le (last_end before) region.start) e.1 in
    let aligned = align_tells region b.0 in
    let range = range_tells region layout size d.0 in
    (not_both_tells (is_static region) (is_writable region) a.0, aligned.0, aligned.1, range.0, range.1, range.2, leb-true (last_end before) region.start f)

pub region_holds : (region : Region) (before : List Region) (layout : Layout) (size : ℕ) → judge_region region before layout size ≡ Ok tt → IsRegion layout size region × (last_end before ≤ region.start)
region_holds region before layout size h =
    let t = region_tests_hold region before layout size h in
    let clear = (Decides-clear region layout).0 t.5 in (
      record {
        not_both = t.0;
        start_aligned = t.1;
        end_aligned = t.2;
        some = t.3;
        inside = t.4;
        clear_of_manifest = clear.0.0;
        clear_of_recovery = clear.0.1;
        clear_of_staging = clear.1;
      },
      t.6,
    )

region_tests_end : (region : Region) (before : List Region) (layout : Layout) (size : ℕ) (both : Bool) → (is_static region && is_writable region) ≡ both → both ≡ false → region.start % 4096 ≡ 0 → region.end % 4096 ≡ 0 → region.start < region.end → region.end ≤ size → is_clear (stretch_of region) layout ≡ true
    → last_start before ≤ region.start → last_end before ≤ region.start → judge_region region before layout size ≡ Ok tt
unfolding judge_stretch
region_tests_end region before layout size both e a b d f k l m n = grind (arith, nat_tests)

not_both : (static writable : Bool) → (static ≡ true → writable ≡ false) → (static && writable) ≡ false
not_both true writable h = h refl
not_both false writable h = refl

pub region_ends : (region : Region) (before : List Region) (layout : Layout) (size : ℕ) → IsRegion layout size region → last_start before ≤ region.start → last_end before ≤ region.start → judge_region region before layout size ≡ Ok tt
region_ends region before layout size is first last =
    let clear = (Decides-clear region layout).1 ((is.clear_of_manifest, is.clear_of_recovery), is.clear_of_staging) in
    region_tests_end region before layout size _ refl (not_both (is_static region) (is_writable region) is.not_both) is.start_aligned is.end_aligned is.some is.inside clear first last

pub rule_holds : (entry : List ℕ) (place : ℕ) (m : Manifest) (rule : Rule) → judge_rule entry place m ≡ Ok rule → (40 ≤ length entry) × (length m.rules < 64) × (rule ≡ rule_at entry)
unfolding judge_rule
rule_holds entry place m rule h = grind (arith, nat_tests)

pub rule_ends : (entry : List ℕ) (place : ℕ) (m : Manifest) → 40 ≤ length entry → length m.rules < 64 → judge_rule entry place m ≡ Ok (rule_at entry)
unfolding judge_rule
rule_ends entry place m a b = grind (arith, nat_tests)
