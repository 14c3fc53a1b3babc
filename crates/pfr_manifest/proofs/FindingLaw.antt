-- What is spelled as a manifest is found.
use Rattle.std.proofs.Common.{◌≡◌, ℕ, zero, suc, ◌+◌, ◌-◌, ◌^◌, ◌<◌, ◌≤◌, ◌==◌, true, List, [], ◌∷◌, ◌++◌, length, take, drop, replicate, slice_index, All, Some, Result, Ok, refl, sym, ◌∙◌, ap, arith, subst, append_assoc, length-take, length-append}
use Rattle.std.specs.List.{flat_map, list_all}
use Rattle.std.proofs.lemmas.List.{length-replicate, append-nil, take_at, drop_at, take-take}
use Rattle.std.proofs.lemmas.List.Elements.{All-head, All-tail}
use Rattle.std.proofs.lemmas.Bool.Decides.{nat_tests}
use Rattle.byteorder.specs.Endian.{little_bytes, little_number}
use Rattle.pfr_flash.specs.declared.layout.Layout.{Layout}
use Rattle.pfr_manifest.specs.declared.manifest.Manifest.{Manifest}
use Rattle.pfr_manifest.specs.declared.region.Region.{Region}
use Rattle.pfr_manifest.specs.declared.region.RegionHash.{RegionHash}
use Rattle.pfr_manifest.specs.declared.region.RegionHash.TheVariants as hashes
use Rattle.pfr_manifest.specs.declared.rule.Rule.{Rule}
use Rattle.pfr_manifest.specs.declared.entry.Entry.TheVariants as entries
use Rattle.pfr_manifest.specs.declared.fail.ManifestFail.{ManifestFail}
use Rattle.pfr_flash.specs.Judging.{◌>>◌}
use Rattle.pfr_flash.specs.Numbers.{little_at, number_at}
use Rattle.pfr_manifest.specs.Regions.{IsDigest, IsRegion, IsInOrder, last_start, last_end}
use Rattle.pfr_manifest.specs.Spelling.{magic, header_bytes, region_bytes, rule_bytes, body_bytes}
use Rattle.pfr_manifest.specs.Manifest.{IsHeaderWide, IsRegionWide, IsRuleWide, IsManifestOf}
use Rattle.pfr_manifest.specs.Judge.{judge_header, judge_definition, judge_region, judge_rule, judge_entry, judge_tail, judge_entries, judge_manifest, turns_left, header_at, region_at, rule_at, hash_at, region_size, region_len, len_of_hash, with_region, with_rule}
use Rattle.pfr_manifest.proofs.Numbers.{number_read}
use Rattle.pfr_manifest.proofs.RegionLemmas.{last_end-before}
use Rattle.pfr_manifest.proofs.EntryLemmas.{judge_none, step_tail, step_region, step_rule, turns_some, turns-region, turns-rule, header_passed}
use Rattle.pfr_manifest.proofs.PartLaws.{header_ends, definition_ends, region_ends, rule_ends}

-- ---- headers

abbrev bare : Manifest → Manifest
bare m = record m { regions = []; rules = [] }

-- what is read of a header's text
record IsReadHeader (text : List ℕ) (m : Manifest) : Type 0 where
  pub long : length text ≡ 32
  pub magic : number_at text 0 ≡ magic
  pub svn : slice_index text 4 ≡ m.svn
  pub length : number_at text 28 ≡ m.length
  pub is : header_at text ≡ bare m

header_fields : (svn bkc : ℕ) (revision reserved oem : List ℕ) (count : ℕ) (regions : List Region) (rules : List Rule) → length revision ≡ 2 → length reserved ≡ 4 → length oem ≡ 16 → count < 2 ^ 32 →
    IsReadHeader (header_bytes (record { svn = svn; bkc = bkc; revision = revision; reserved = reserved; oem = oem; length = count; regions = regions; rules = rules })) (record { svn = svn; bkc = bkc; revision = revision; reserved = reserved; oem = oem; length = count; regions = regions; rules = rules })
unfolding header_bytes little_at
header_fields svn bkc (a ∷ b ∷ []) (c ∷ d ∷ e ∷ f ∷ []) oem count regions rules p q long fits =
    let l = length-append oem (little_bytes 4 count) in
    let o : take 16 (oem ++ little_bytes 4 count) ≡ oem = take_at oem (little_bytes 4 count) 16 long in
    let n : take 4 (drop 16 (oem ++ little_bytes 4 count)) ≡ little_bytes 4 count = ap (take 4) (drop_at oem (little_bytes 4 count) 16 long) in
    let number : little_number 4 (take 4 (drop 16 (oem ++ little_bytes 4 count))) ≡ count = ap (little_number 4) n ∙ number_read count fits in
    record { long = omega arith; magic = refl; svn = refl; length = number; is = rw (o, number) refl }
header_fields svn bkc _ _ oem count regions rules p q r s = absurd (omega arith)

header_read : (m : Manifest) → IsHeaderWide m → IsReadHeader (header_bytes m) m
header_read m wide = header_fields m.svn m.bkc m.revision m.reserved m.oem m.length m.regions m.rules wide.revision wide.reserved wide.oem wide.long

-- ---- regions

-- what is read of the text of a region, behind which others may stand
record IsFoundRegion (entry : List ℕ) (region : Region) : Type 0 where
  pub first : slice_index entry 0 ≡ 1
  pub long : 16 ≤ length entry
  pub whole : region_size entry ≤ length entry
  pub hash : hash_at entry ≡ Some region.hash
  pub is : region_at entry region.hash ≡ region

abbrev region_of : ℕ → List ℕ → RegionHash → ℕ → ℕ → Region
region_of mask reserved hash start end = record { mask = mask; reserved = reserved; start = start; end = end; hash = hash }

region_found : (mask : ℕ) (reserved : List ℕ) (hash : RegionHash) (start end : ℕ) (more : List ℕ) → length reserved ≡ 4 → start < 2 ^ 32 → end < 2 ^ 32 → IsDigest hash →
    IsFoundRegion (take 64 (region_bytes (region_of mask reserved hash start end) ++ more)) (region_of mask reserved hash start end)
unfolding region_bytes region_at region_size hash_at little_at
region_found mask (a ∷ b ∷ c ∷ d ∷ []) hashes.None start end more p q r s = record {
  first = refl;
  long = omega arith;
  whole = omega arith;
  hash = refl;
  is = rw (number_read start q, number_read end r) refl;
}
region_found mask (a ∷ b ∷ c ∷ d ∷ []) (hashes.Sha256 digest) start end more p q r s =
    let e : take 32 (take 48 (digest ++ more)) ≡ digest = take-take 32 48 (digest ++ more) (omega arith) ∙ take_at digest more 32 s in
    record {
      first = refl;
      long = omega arith;
      whole = omega (arith, length-take 48 (digest ++ more), length-append digest more);
      hash = ap (λ t. Some (hashes.Sha256 t)) e;
      is = rw (number_read start q, number_read end r) refl;
    }
region_found mask (a ∷ b ∷ c ∷ d ∷ []) (hashes.Sha384 digest) start end more p q r s =
    let e : take 48 (take 48 (digest ++ more)) ≡ digest = take-take 48 48 (digest ++ more) (omega arith) ∙ take_at digest more 48 s in
    record {
      first = refl;
      long = omega arith;
      whole = omega (arith, length-take 48 (digest ++ more), length-append digest more);
      hash = ap (λ t. Some (hashes.Sha384 t)) e;
      is = rw (number_read start q, number_read end r) refl;
    }
region_found mask _ hash start end more p q r s = absurd (omega arith)

length-region_bytes : (mask : ℕ) (reserved : List ℕ) (hash : RegionHash) (start end : ℕ) → length reserved ≡ 4 → IsDigest hash → length (region_bytes (region_of mask reserved hash start end)) ≡ len_of_hash hash
unfolding region_bytes
length-region_bytes mask (a ∷ b ∷ c ∷ d ∷ []) hashes.None start end p s = refl
length-region_bytes mask (a ∷ b ∷ c ∷ d ∷ []) (hashes.Sha256 digest) start end p s = omega arith
length-region_bytes mask (a ∷ b ∷ c ∷ d ∷ []) (hashes.Sha384 digest) start end p s = omega arith
length-region_bytes mask _ hash start end p s = absurd (omega arith)

-- ---- rules

record IsFoundRule (entry : List ℕ) (rule : Rule) : Type 0 where
  pub first : slice_index entry 0 ≡ 2
  pub whole : 40 ≤ length entry
  pub is : rule_at entry ≡ rule

abbrev rule_of : List ℕ → ℕ → ℕ → ℕ → List ℕ → Rule
rule_of reserved bus rule address commands = record { reserved = reserved; bus = bus; rule = rule; address = address; commands = commands }

rule_found : (reserved : List ℕ) (bus rule address : ℕ) (commands more : List ℕ) → length reserved ≡ 4 → length commands ≡ 32 →
    IsFoundRule (take 64 (rule_bytes (rule_of reserved bus rule address commands) ++ more)) (rule_of reserved bus rule address commands)
unfolding rule_bytes rule_at
rule_found (a ∷ b ∷ c ∷ d ∷ []) bus rule address commands more p q =
    let e : take 32 (take 56 (commands ++ more)) ≡ commands = take-take 32 56 (commands ++ more) (omega arith) ∙ take_at commands more 32 q in
    record {
      first = refl;
      whole = omega (arith, length-take 56 (commands ++ more), length-append commands more);
      is = ap (λ t. rule_of (a ∷ b ∷ c ∷ d ∷ []) bus rule address t) e;
    }
rule_found _ bus rule address commands more p q = absurd (omega arith)

length-rule_bytes : (reserved : List ℕ) (bus rule address : ℕ) (commands : List ℕ) → length reserved ≡ 4 → length commands ≡ 32 → length (rule_bytes (rule_of reserved bus rule address commands)) ≡ 40
unfolding rule_bytes
length-rule_bytes (a ∷ b ∷ c ∷ d ∷ []) bus rule address commands p q = omega arith
length-rule_bytes _ bus rule address commands p q = absurd (omega arith)

-- ---- entries

-- a fact of each element holds of one in the middle
in_the_middle : {X : Type 0} (P : X → Type 0) (xs : List X) (x : X) (ys : List X) → All P (xs ++ x ∷ ys) → P x
in_the_middle P [] x ys h = h 0 x (omega arith)
in_the_middle P (z ∷ zs) x ys h = in_the_middle P zs x ys (All-tail P z (zs ++ x ∷ ys) h)

starts_below : (layout : Layout) (size : ℕ) (xs ys : List Region) → All (IsRegion layout size) (xs ++ ys) → last_start xs ≤ last_end xs
starts_below layout size [] ys h = omega arith
starts_below layout size (x ∷ []) ys h = let r = All-head (IsRegion layout size) x ys h in omega (arith, r.some)
starts_below layout size (x ∷ y ∷ zs) ys h = starts_below layout size (y ∷ zs) ys (All-tail (IsRegion layout size) x ((y ∷ zs) ++ ys) h)

abbrev with_regions : Manifest → List Region → Manifest
with_regions m regions = record m { regions = regions; rules = [] }

abbrev with_rules : Manifest → List Rule → Manifest
with_rules m rules = record m { rules = rules }

region_judged : (region : Region) (more : List ℕ) (place : ℕ) (m : Manifest) (layout : Layout) (size : ℕ) → IsRegionWide region → IsRegion layout size region → m.rules ≡ [] → length m.regions < 64
    → last_start m.regions ≤ region.start → last_end m.regions ≤ region.start → judge_entry (take 64 (region_bytes region ++ more)) place m layout size ≡ Ok (entries.Region region)
unfolding judge_entry
region_judged region more place m layout size wide is none few starts ends =
    let entry : List ℕ = take 64 (region_bytes region ++ more) in
    let f = region_found region.mask region.reserved region.hash region.start region.end more wide.reserved wide.start wide.end wide.digest in
    let d : judge_definition entry place m ≡ Ok region = definition_ends entry place m region.hash (ap length none) f.long f.whole few f.hash ∙ ap Ok f.is in
    let j : judge_region region m.regions layout size ≡ Ok tt = region_ends region m.regions layout size is starts ends in
    rw (f.first, d, j) refl

rule_judged : (rule : Rule) (more : List ℕ) (place : ℕ) (m : Manifest) (layout : Layout) (size : ℕ) → IsRuleWide rule → length m.rules < 64 → judge_entry (take 64 (rule_bytes rule ++ more)) place m layout size ≡ Ok (entries.Rule rule)
unfolding judge_entry
rule_judged rule more place m layout size wide few =
    let entry : List ℕ = take 64 (rule_bytes rule ++ more) in
    let f = rule_found rule.reserved rule.bus rule.rule rule.address rule.commands more wide.reserved wide.commands in
    let d : judge_rule entry place m ≡ Ok rule = rule_ends entry place m f.whole few ∙ ap Ok f.is in
    rw (f.first, d) refl

len_some : (hash : RegionHash) → 16 ≤ len_of_hash hash
len_some hashes.None = omega arith
len_some (hashes.Sha256 digest) = omega arith
len_some (hashes.Sha384 digest) = omega arith

module _ (layout : Layout) (size : ℕ) where
  -- the entries of a list of regions, behind others
  regions_found : (m : Manifest) (more : List ℕ) (result : Result Manifest ManifestFail) (todo done all : List Region) → all ≡ done ++ todo → length all ≤ 64 → All IsRegionWide all → All (IsRegion layout size) all → IsInOrder all
      → ((place : ℕ) → judge_entries (turns_left (with_regions m all)) more place (with_regions m all) layout size ≡ result)
      → (place : ℕ) → judge_entries (turns_left (with_regions m done)) (flat_map region_bytes todo ++ more) place (with_regions m done) layout size ≡ result
  regions_found m more result [] done all e few wide each order last place =
      let d : all ≡ done = e ∙ append-nil done in
      subst (λ regions. judge_entries (turns_left (with_regions m regions)) more place (with_regions m regions) layout size ≡ result) d (last place)
  regions_found m more result (region ∷ others) done all e few wide each order last place =
      let next : List ℕ = flat_map region_bytes others ++ more in
      let here : Manifest = with_regions m done in
      let w : IsRegionWide region = in_the_middle IsRegionWide done region others (subst (λ l. All IsRegionWide l) e wide) in
      let apart : All (IsRegion layout size) (done ++ region ∷ others) = subst (λ l. All (IsRegion layout size) l) e each in
      let is : IsRegion layout size region = in_the_middle (IsRegion layout size) done region others apart in
      let ends : last_end done ≤ region.start = last_end-before done region others (subst IsInOrder e order) in
      let starts : last_start done ≤ last_end done = starts_below layout size done (region ∷ others) apart in
      let count : length all ≡ length done + length (region ∷ others) = ap length e ∙ length-append done (region ∷ others) in
      let room : length done < 64 = omega arith in
      let long : length (region_bytes region) ≡ region_len region = length-region_bytes region.mask region.reserved region.hash region.start region.end w.reserved w.digest in
      let some : 0 < length (region_bytes region ++ next) = omega (arith, length-append (region_bytes region) next, len_some region.hash) in
      let judged = region_judged region next place here layout size w is refl room (omega arith) ends in
      let step = step_region (turns_left here) (turns_left (with_region here region)) (region_bytes region ++ next) place here layout size (turns-region here region room (omega arith)) some region judged in
      let rest : drop (region_len region) (region_bytes region ++ next) ≡ next = drop_at (region_bytes region) next (region_len region) long in
      rw (append_assoc (region_bytes region) (flat_map region_bytes others) more, step, rest) (regions_found m more result others (done ++ region ∷ []) all (e ∙ sym (append_assoc done (region ∷ []) others)) few wide each order last (place + region_len region))

  -- the entries of a list of rules, behind others
  rules_found : (m : Manifest) (more : List ℕ) (result : Result Manifest ManifestFail) (todo done all : List Rule) → all ≡ done ++ todo → length m.regions ≤ 64 → length all ≤ 64 → All IsRuleWide all
      → ((place : ℕ) → judge_entries (turns_left (with_rules m all)) more place (with_rules m all) layout size ≡ result)
      → (place : ℕ) → judge_entries (turns_left (with_rules m done)) (flat_map rule_bytes todo ++ more) place (with_rules m done) layout size ≡ result
  rules_found m more result [] done all e few_regions few wide last place =
      let d : all ≡ done = e ∙ append-nil done in
      subst (λ rules. judge_entries (turns_left (with_rules m rules)) more place (with_rules m rules) layout size ≡ result) d (last place)
  rules_found m more result (rule ∷ others) done all e few_regions few wide last place =
      let next : List ℕ = flat_map rule_bytes others ++ more in
      let here : Manifest = with_rules m done in
      let w : IsRuleWide rule = in_the_middle IsRuleWide done rule others (subst (λ l. All IsRuleWide l) e wide) in
      let count : length all ≡ length done + length (rule ∷ others) = ap length e ∙ length-append done (rule ∷ others) in
      let room : length done < 64 = omega arith in
      let long : length (rule_bytes rule) ≡ 40 = length-rule_bytes rule.reserved rule.bus rule.rule rule.address rule.commands w.reserved w.commands in
      let some : 0 < length (rule_bytes rule ++ next) = omega (arith, length-append (rule_bytes rule) next) in
      let judged = rule_judged rule next place here layout size w room in
      let step = step_rule (turns_left here) (turns_left (with_rule here rule)) (rule_bytes rule ++ next) place here layout size (turns-rule here rule few_regions room) some rule judged in
      let rest : drop 40 (rule_bytes rule ++ next) ≡ next = drop_at (rule_bytes rule) next 40 long in
      rw (append_assoc (rule_bytes rule) (flat_map rule_bytes others) more, step, rest) (rules_found m more result others (done ++ rule ∷ []) all (e ∙ sym (append_assoc done (rule ∷ []) others)) few_regions few wide last (place + 40))

all_blank : (n : ℕ) → list_all (λ byte. byte == 255) (replicate n 255) ≡ true
all_blank zero = refl
all_blank (suc n) = all_blank n

tail_ends : (tail : List ℕ) → length tail < 128 → list_all (λ byte. byte == 255) tail ≡ true → judge_tail tail ≡ Ok tt
unfolding judge_tail
tail_ends tail h k = grind (arith, nat_tests)

blank_is_tail : (more : List ℕ) (place : ℕ) (m : Manifest) (layout : Layout) (size : ℕ) → judge_entry (take 64 (255 ∷ more)) place m layout size ≡ Ok entries.Tail
unfolding judge_entry
blank_is_tail more place m layout size = refl

-- a tail ends the entries
tail_found : (n place : ℕ) (m : Manifest) (layout : Layout) (size : ℕ) → n < 128 → length m.regions ≤ 64 → length m.rules ≤ 64 → judge_entries (turns_left m) (replicate n 255) place m layout size ≡ Ok m
tail_found zero place m layout size h regions rules = judge_none (turns_left m) place m layout size
tail_found (suc n) place m layout size h regions rules =
    let t : judge_tail (255 ∷ replicate n 255) ≡ Ok tt = tail_ends (255 ∷ replicate n 255) (omega (arith, length-replicate {A = ℕ})) (all_blank n) in
    step_tail (turns_left m) _ (255 ∷ replicate n 255) place m layout size (turns_some m regions rules) (omega arith) (blank_is_tail (replicate n 255) place m layout size)
    ∙ ap (λ judged. judged >> Ok m) t

-- What the bytes spell is found.
pub judge_ends : (bytes : List ℕ) (layout : Layout) (size : ℕ) (m : Manifest) → IsManifestOf bytes m layout size → judge_manifest bytes layout size ≡ Ok m
judge_ends bytes layout size m is =
    let header : List ℕ = header_bytes m in
    let regions : List ℕ = flat_map region_bytes m.regions in
    let rules : List ℕ = flat_map rule_bytes m.rules in
    let tail : List ℕ = replicate (m.length - length (body_bytes m)) 255 in
    let r = header_read m is.wide.header in
    let text : bytes ≡ header ++ (regions ++ (rules ++ tail)) =
    is.spelled ∙ append_assoc (header ++ regions) rules tail ∙ append_assoc header regions (rules ++ tail) in
    let first : take 32 bytes ≡ header = ap (take 32) text ∙ take_at header (regions ++ (rules ++ tail)) 32 r.long in
    let rest : drop 32 bytes ≡ regions ++ (rules ++ tail) = ap (drop 32) text ∙ drop_at header (regions ++ (rules ++ tail)) 32 r.long in
    let body : 32 ≤ length (body_bytes m) = omega (arith, length-append (header ++ regions) rules, length-append header regions, r.long) in
    let blank : length tail ≡ m.length - length (body_bytes m) = length-replicate (m.length - length (body_bytes m)) 255 in
    let long : length bytes ≡ m.length = ap length is.spelled ∙ length-append (body_bytes m) tail ∙ omega (arith, blank, is.long.holds) in
    let head : judge_header header m.length ≡ Ok (bare m) =
    header_ends header m.length (omega (arith, is.long.holds)) r.magic (rw r.svn is.svn) r.length is.long.multiple_of ∙ ap Ok r.is in
    let passed = header_passed bytes m.length layout size (bare m) long (ap (λ t. judge_header t m.length) first ∙ head) in
    passed ∙ ap (λ t. judge_entries (turns_left (bare m)) t 32 (bare m) layout size) rest
    ∙ regions_found layout size m (rules ++ tail) (Ok m) m.regions [] m.regions refl is.few_regions is.wide.regions is.each_region is.in_order
    (λ place. rules_found layout size m tail (Ok m) m.rules [] m.rules refl is.few_regions is.few_rules is.wide.rules
    (λ last. tail_found (m.length - length (body_bytes m)) last m layout size (omega (arith, is.long.holds, is.long.least)) is.few_regions is.few_rules) place) 32

-- Bytes spell one manifest at most.
pub manifest_is_one : (bytes : List ℕ) (layout : Layout) (size : ℕ) (m other : Manifest) → IsManifestOf bytes m layout size → IsManifestOf bytes other layout size → m ≡ other
manifest_is_one bytes layout size m other is also =
    let a : judge_manifest bytes layout size ≡ Ok m = judge_ends bytes layout size m is in
    let b : judge_manifest bytes layout size ≡ Ok other = judge_ends bytes layout size other also in
    cc
