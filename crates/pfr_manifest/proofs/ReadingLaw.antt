-- A judgement that ends well has found a manifest.
use Rattle.std.proofs.Common.{◌≡◌, ℕ, zero, suc, ◌+◌, ◌-◌, ◌<◌, ◌≤◌, ◌==◌, ◌&&◌, nat_lt, Bool, true, false, List, [], ◌∷◌, ◌++◌, length, take, drop, replicate, slice_index, All, Result, Ok, refl, sym, ◌∙◌, ap, arith, subst, append_assoc, length-take, length-append}
use Rattle.std.specs.List.{flat_map, list_all}
use Rattle.std.proofs.lemmas.List.{length-replicate, append-nil, take-append-drop, take-take, length_push, nil_from_length}
use Rattle.std.proofs.lemmas.Grind.{flat_map-append}
use Rattle.std.proofs.lemmas.List.Elements.{All-push, All-nil}
use Rattle.std.proofs.lemmas.Bool.Decides.{nat_tests, Decides-eqb}
use Rattle.pfr_flash.specs.declared.layout.Layout.{Layout}
use Rattle.pfr_manifest.specs.declared.manifest.Manifest.{Manifest}
use Rattle.pfr_manifest.specs.declared.region.Region.{Region}
use Rattle.pfr_manifest.specs.declared.rule.Rule.{Rule}
use Rattle.pfr_manifest.specs.declared.entry.Entry.{Entry}
use Rattle.pfr_manifest.specs.declared.entry.Entry.TheVariants as entries
use Rattle.pfr_manifest.specs.declared.fail.ManifestFail.{ManifestFail}
use Rattle.pfr_manifest.specs.declared.fail.ManifestFail.TheVariants.{Tail}
use Rattle.pfr_flash.specs.Bytes.{AreBytes}
use Rattle.pfr_manifest.specs.Regions.{IsRegion, IsInOrder}
use Rattle.pfr_manifest.specs.Spelling.{header_bytes, region_bytes, rule_bytes, body_bytes}
use Rattle.pfr_manifest.specs.Manifest.{IsWide, IsRegionWide, IsRuleWide, IsManifestOf}
use Rattle.pfr_manifest.specs.Judge.{judge_header, judge_definition, judge_region, judge_rule, judge_entry, judge_tail, judge_entries, judge_manifest, after_entry, turns_left, region_len, with_region, with_rule}
use Rattle.pfr_flash.proofs.AreBytesLemmas.{AreBytes-take, AreBytes-drop}
use Rattle.pfr_manifest.proofs.RegionLemmas.{IsInOrder-push}
use Rattle.pfr_flash.proofs.JudgingLemmas.{passed_part, passed_unit, passed_last}
use Rattle.pfr_manifest.proofs.PartLaws.{header_holds, definition_holds, region_holds, rule_holds}
use Rattle.pfr_manifest.proofs.SpellingLaws.{IsReadRegion, IsReadRule, header_spelled, header_wide, region_spelled, rule_spelled}

-- what was read so far keeps the rules
record IsGood (layout : Layout) (size : ℕ) (m : Manifest) : Type 0 where
  pub svn : m.svn ≤ 127
  pub few_regions : length m.regions ≤ 64
  pub few_rules : length m.rules ≤ 64
  pub each_region : All (IsRegion layout size) m.regions
  pub in_order : IsInOrder m.regions
  pub wide : IsWide m

-- how an entry was judged
abbrev EntryIs : (entry : List ℕ) (place : ℕ) (m : Manifest) (layout : Layout) (size : ℕ) → Entry → Type 0
EntryIs entry place m layout size entries.Tail = Unit {0}
EntryIs entry place m layout size (entries.Region region) = (slice_index entry 0 ≡ 1) × (judge_definition entry place m ≡ Ok region) × (judge_region region m.regions layout size ≡ Ok tt)
EntryIs entry place m layout size (entries.Rule rule) = (slice_index entry 0 ≡ 2) × (judge_rule entry place m ≡ Ok rule)

module _ (layout : Layout) (size : ℕ) where
  entry_is : (entry : List ℕ) (place : ℕ) (m : Manifest) (found : Entry) → judge_entry entry place m layout size ≡ Ok found → EntryIs entry place m layout size found
  unfolding judge_entry
  entry_is entry place m entries.Tail h = tt
  entry_is entry place m (entries.Region region) h = grind (arith, nat_tests)
  entry_is entry place m (entries.Rule rule) h = grind (arith, nat_tests)

  -- one more region
  region_read : (entry : List ℕ) (place : ℕ) (m : Manifest) (region : Region) → AreBytes entry → IsGood layout size m → slice_index entry 0 ≡ 1 → judge_definition entry place m ≡ Ok region → judge_region region m.regions layout size ≡ Ok tt
      → IsReadRegion entry region × (m.rules ≡ []) × IsGood layout size (with_region m region)
  region_read entry place m region bytes good first defined judged =
      let d = definition_holds entry place m region defined in
      let j = region_holds region m.regions layout size judged in
      let hash = d.4 in
      let read : IsReadRegion entry region = subst (IsReadRegion entry) (sym hash.2) (region_spelled entry hash.0 bytes first d.1 d.2 hash.1) in
      let long = length_push m.regions region in (
        read,
        nil_from_length m.rules d.0,
        record {
          svn = good.svn;
          few_regions = omega arith;
          few_rules = good.few_rules;
          each_region = All-push (IsRegion layout size) m.regions region good.each_region j.0;
          in_order = IsInOrder-push m.regions region good.in_order j.1;
          wide = record {
            header = record { revision = good.wide.header.revision; reserved = good.wide.header.reserved; oem = good.wide.header.oem; long = good.wide.header.long };
            regions = All-push IsRegionWide m.regions region good.wide.regions read.wide;
            rules = good.wide.rules;
          };
        },
      )

  -- one more rule
  rule_read : (entry : List ℕ) (place : ℕ) (m : Manifest) (rule : Rule) → IsGood layout size m → slice_index entry 0 ≡ 2 → judge_rule entry place m ≡ Ok rule
      → (40 ≤ length entry) × IsReadRule entry rule × IsGood layout size (with_rule m rule)
  rule_read entry place m rule good first judged =
      let d = rule_holds entry place m rule judged in
      let read : IsReadRule entry rule = subst (IsReadRule entry) (sym d.2) (rule_spelled entry first d.0) in
      let long = length_push m.rules rule in (
        d.0,
        read,
        record {
          svn = good.svn;
          few_regions = good.few_regions;
          few_rules = omega arith;
          each_region = good.each_region;
          in_order = good.in_order;
          wide = record {
            header = record { revision = good.wide.header.revision; reserved = good.wide.header.reserved; oem = good.wide.header.oem; long = good.wide.header.long };
            regions = good.wide.regions;
            rules = All-push IsRuleWide m.rules rule good.wide.rules read.wide;
          };
        },
      )

-- a text one entry longer
header-same : (m : Manifest) (regions : List Region) (rules : List Rule) → header_bytes (record m { regions = regions; rules = rules }) ≡ header_bytes m
unfolding header_bytes
header-same m regions rules = refl

grown_region : (front regions more : List ℕ) → front ++ (regions ++ (more ++ [])) ++ [] ≡ front ++ regions ++ [] ++ more
grown_region front regions more = simp (append_assoc, append-nil)

body-region : (m : Manifest) (region : Region) → m.rules ≡ [] → body_bytes (with_region m region) ≡ body_bytes m ++ region_bytes region
body-region m region none =
    ap (λ h. h ++ flat_map region_bytes (m.regions ++ region ∷ []) ++ flat_map rule_bytes m.rules) (header-same m (m.regions ++ region ∷ []) m.rules)
    ∙ rw (flat_map-append region_bytes m.regions (region ∷ []), none) (grown_region (header_bytes (record m { rules = [] })) (flat_map region_bytes m.regions) (region_bytes region))

grown_rule : (front rules more : List ℕ) → front ++ (rules ++ (more ++ [])) ≡ front ++ rules ++ more
grown_rule front rules more = simp (append_assoc, append-nil)

body-rule : (m : Manifest) (rule : Rule) → body_bytes (with_rule m rule) ≡ body_bytes m ++ rule_bytes rule
body-rule m rule =
    ap (λ h. h ++ flat_map region_bytes m.regions ++ flat_map rule_bytes (m.rules ++ rule ∷ [])) (header-same m m.regions (m.rules ++ rule ∷ []))
    ∙ rw (flat_map-append rule_bytes m.rules (rule ∷ [])) (grown_rule (header_bytes m ++ flat_map region_bytes m.regions) (flat_map rule_bytes m.rules) (rule_bytes rule))

-- what the entries that were read make of a text: the body, and fewer than 128 bytes of 0xFF
record Ends (layout : Layout) (size : ℕ) (text : List ℕ) (long : ℕ) (last : Manifest) : Type 0 where
  pub good : IsGood layout size last
  pub length : last.length ≡ long
  pub tail : ℕ
  pub spelled : text ≡ body_bytes last ++ replicate tail 255
  pub short : tail < 128

blank_tail : (tail : List ℕ) → list_all (λ byte. byte == 255) tail ≡ true → tail ≡ replicate (length tail) 255
blank_tail [] h = refl
blank_tail (byte ∷ bytes) h =
    let p = both_true (byte == 255) (list_all (λ b. b == 255) bytes) h in
    let e = (Decides-eqb byte 255).0 p.0 in
    rw e (ap (λ t. 255 ∷ t) (blank_tail bytes p.1))
  where
    both_true : (a b : Bool) → (a && b) ≡ true → (a ≡ true) × (b ≡ true)
    both_true true b h = (refl, h)
    both_true false b h = cc

tail_holds : (tail : List ℕ) → judge_tail tail ≡ Ok tt → (length tail < 128) × (tail ≡ replicate (length tail) 255)
unfolding judge_tail
tail_holds tail h =
    let t = passed_last Tail (nat_lt (length tail) 128 && list_all (λ byte. byte == 255) tail) h in
    let p = both (list_all (λ byte. byte == 255) tail) t in
    (p.0, blank_tail tail p.1)
  where
    both : (blank : Bool) → (nat_lt (length tail) 128 && blank) ≡ true → (length tail < 128) × (blank ≡ true)
    both blank h = grind (arith, nat_tests)

module _ (layout : Layout) (size : ℕ) where
  -- how the rest of the entries ends, whatever was read before
  abbrev RestHolds : ℕ → Type 0
  RestHolds turns = (rest : List ℕ) (place : ℕ) (m last : Manifest) (front : List ℕ) → AreBytes rest → IsGood layout size m → front ≡ body_bytes m
      → judge_entries turns rest place m layout size ≡ Ok last → Ends layout size (front ++ rest) m.length last

  after_holds : (turns : ℕ) → RestHolds turns → (rest : List ℕ) (place : ℕ) (m last : Manifest) (front : List ℕ) → AreBytes rest → IsGood layout size m → front ≡ body_bytes m
      → (found : Entry) → EntryIs (take 64 rest) place m layout size found
      → after_entry (λ left next read. judge_entries turns left next read layout size) rest place m found ≡ Ok last → Ends layout size (front ++ rest) m.length last
  after_holds turns further rest place m last front bytes good is entries.Tail how h =
      let p = passed_unit (judge_tail rest) (Ok m) last h in
      let t = tail_holds rest p.0 in
      let e : m ≡ last = cc in
      subst (Ends layout size (front ++ rest) m.length) e (record {
        good = good;
        length = refl;
        tail = length rest;
        spelled = ap (λ t. t ++ rest) is ∙ ap (λ t. body_bytes m ++ t) t.1;
        short = t.0;
      })
  after_holds turns further rest place m last front bytes good is (entries.Region region) how h =
      let r = region_read layout size (take 64 rest) place m region (AreBytes-take 64 rest bytes) good how.0 how.1 how.2 in
      let n : ℕ = region_len region in
      let within : n ≤ length (take 64 rest) = r.0.whole in
      let piece : take n rest ≡ region_bytes region = sym (take-take n 64 rest (omega (arith, length-take 64 rest))) ∙ r.0.spelled in
      let next : front ++ take n rest ≡ body_bytes (with_region m region) = ap (λ t. t ++ take n rest) is ∙ ap (λ t. body_bytes m ++ t) piece ∙ sym (body-region m region r.1) in
      let rest_of : (front ++ take n rest) ++ drop n rest ≡ front ++ rest = append_assoc front (take n rest) (drop n rest) ∙ ap (λ t. front ++ t) (take-append-drop n rest) in
      rw rest_of at (further (drop n rest) (place + n) (with_region m region) last (front ++ take n rest) (AreBytes-drop n rest bytes) r.2 next h)
  after_holds turns further rest place m last front bytes good is (entries.Rule rule) how h =
      let r = rule_read layout size (take 64 rest) place m rule good how.0 how.1 in
      let within : 40 ≤ length (take 64 rest) = r.0 in
      let piece : take 40 rest ≡ rule_bytes rule = sym (take-take 40 64 rest (omega arith)) ∙ r.1.spelled in
      let next : front ++ take 40 rest ≡ body_bytes (with_rule m rule) = ap (λ t. t ++ take 40 rest) is ∙ ap (λ t. body_bytes m ++ t) piece ∙ sym (body-rule m rule) in
      let rest_of : (front ++ take 40 rest) ++ drop 40 rest ≡ front ++ rest = append_assoc front (take 40 rest) (drop 40 rest) ∙ ap (λ t. front ++ t) (take-append-drop 40 rest) in
      rw rest_of at (further (drop 40 rest) (place + 40) (with_rule m rule) last (front ++ take 40 rest) (AreBytes-drop 40 rest bytes) r.2 next h)

  none_left : (m last : Manifest) (front : List ℕ) → IsGood layout size m → front ≡ body_bytes m → ◌≡◌ {A = Result Manifest ManifestFail} (Ok m) (Ok last) → Ends layout size (front ++ []) m.length last
  none_left m last front good is h =
      let e : m ≡ last = cc in
      subst (Ends layout size (front ++ []) m.length) e (record {
        good = good;
        length = refl;
        tail = 0;
        spelled = ap (λ t. t ++ []) is;
        short = omega arith;
      })

  entries_hold : (turns : ℕ) → RestHolds turns
  unfolding judge_entries
  entries_hold zero [] place m last front bytes good is h = none_left m last front good is h
  entries_hold (suc turns) [] place m last front bytes good is h = none_left m last front good is h
  entries_hold zero (byte ∷ more) place m last front bytes good is h = cc
  entries_hold (suc turns) (byte ∷ more) place m last front bytes good is h =
      let p = passed_part (judge_entry (take 64 (byte ∷ more)) place m layout size) _ last h in
      after_holds turns (λ rest next read last front b g i k. entries_hold turns rest next read last front b g i k) (byte ∷ more) place m last front bytes good is p.0 (entry_is layout size (take 64 (byte ∷ more)) place m p.0 p.1) p.2

-- A judgement that ends well has found what the bytes spell.
pub judge_holds : (bytes : List ℕ) (layout : Layout) (size : ℕ) (m : Manifest) → AreBytes bytes → judge_manifest bytes layout size ≡ Ok m → IsManifestOf bytes m layout size
unfolding judge_manifest
judge_holds bytes layout size m are h =
    let front : List ℕ = take 32 bytes in
    let p = passed_part (judge_header front (length bytes)) (λ header. judge_entries (turns_left header) (drop 32 bytes) 32 header layout size) m h in
    let head = header_holds front (length bytes) p.0 p.1 in
    let long : length front ≡ 32 = omega (arith, length-take 32 bytes, head.0) in
    let are_front = AreBytes-take 32 bytes are in
    let spelled : front ≡ header_bytes p.0 = rw head.6 (header_spelled front are_front long head.1) in
    let none : (p.0.regions ≡ []) × (p.0.rules ≡ []) = (ap (λ (m : Manifest). m.regions) head.6, ap (λ (m : Manifest). m.rules) head.6) in
    let good : IsGood layout size p.0 = rw head.6 (record {
      svn = head.2;
      few_regions = omega arith;
      few_rules = omega arith;
      each_region = All-nil (IsRegion layout size);
      in_order = tt;
      wide = record { header = header_wide front are_front long; regions = All-nil IsRegionWide; rules = All-nil IsRuleWide };
    }) in
    let body : front ≡ body_bytes p.0 = simp (none.0, none.1, append-nil) spelled in
    let ends = entries_hold layout size (turns_left p.0) (drop 32 bytes) 32 p.0 m front (AreBytes-drop 32 bytes are) good body p.2 in
    let whole : bytes ≡ body_bytes m ++ replicate ends.tail 255 = sym (take-append-drop 32 bytes) ∙ ends.spelled in
    let header_long : p.0.length ≡ length bytes = ap (λ (m : Manifest). m.length) head.6 ∙ head.3 in
    let sum : length bytes ≡ length (body_bytes m) + ends.tail = ap length whole ∙ length-append (body_bytes m) (replicate ends.tail 255) ∙ ap (λ n. length (body_bytes m) + n) (length-replicate ends.tail 255) in
    let same : m.length ≡ length bytes = ends.length ∙ header_long in
    let tail : ends.tail ≡ m.length - length (body_bytes m) = omega arith in
    record {
      spelled = whole ∙ ap (λ n. body_bytes m ++ replicate n 255) tail;
      long = record { multiple_of = rw same head.5; holds = omega arith; least = omega (arith, ends.short) };
      wide = ends.good.wide;
      svn = ends.good.svn;
      few_regions = ends.good.few_regions;
      few_rules = ends.good.few_rules;
      each_region = ends.good.each_region;
      in_order = ends.good.in_order;
    }
