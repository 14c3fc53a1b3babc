-- The judgement of a manifest: its rules in order, and the first that fails is the answer.
use Rattle.std.specs.Prelude.{ℕ, zero, suc, ◌+◌, ◌-◌, ◌%◌, ◌≤◌, ◌<◌, ◌≡◌, ◌==◌, ◌&&◌, ◌||◌, Bool, not, nat_le, nat_lt, List, [], ◌∷◌, ◌++◌, length, take, drop, slice_index, Option, Some, None, Result, Ok, Err, if◌then◌else◌}
use Rattle.std.specs.List.{list_all}
use Rattle.pfr_flash.specs.declared.layout.Layout.{Layout}
use Rattle.pfr_flash.specs.Bytes.{bytes_at}
use Rattle.pfr_flash.specs.Numbers.{little_at, number_at}
use Rattle.pfr_manifest.specs.Regions.{is_static, last_start, last_end}
use Rattle.pfr_manifest.specs.Stretches.{stretch_of}
use Rattle.pfr_manifest.specs.declared.stretch.Stretch.{Stretch}
use Rattle.pfr_manifest.specs.Spelling.{magic}
use Rattle.pfr_flash.specs.Judging.{◌>>=◌, ◌>>◌, require, known}
use Rattle.pfr_manifest.specs.declared.manifest.Manifest.{Manifest}
use Rattle.pfr_manifest.specs.declared.region.Region.{Region}
use Rattle.pfr_manifest.specs.declared.region.RegionHash.{RegionHash}
use Rattle.pfr_manifest.specs.declared.region.RegionHash.TheVariants as hashes
use Rattle.pfr_manifest.specs.declared.rule.Rule.{Rule}
use Rattle.pfr_manifest.specs.declared.entry.Entry.{Entry}
use Rattle.pfr_manifest.specs.declared.entry.Entry.TheVariants as entries
use Rattle.pfr_manifest.specs.declared.fail.ManifestFail.{ManifestFail}
use Rattle.pfr_manifest.specs.declared.fail.ManifestFail.TheVariants.{Magic, Svn, Length, EntryType, TooMany, HashInfo, WritableHashed, Align, Range, Order, Overlap, Tail}

-- the manifest that a header spells, still without entries
abbrev pub header_at : List ℕ → Manifest
header_at bytes = record {
  svn = slice_index bytes 4;
  bkc = slice_index bytes 5;
  revision = bytes_at bytes 6 2;
  reserved = bytes_at bytes 8 4;
  oem = bytes_at bytes 12 16;
  length = number_at bytes 28;
  regions = [];
  rules = [];
}

-- the header of a manifest that has so many bytes
unfoldable pub judge_header : List ℕ → ℕ → Result Manifest ManifestFail
judge_header header count = do
  require Magic (nat_le 32 count && number_at header 0 == magic)
  require Svn (nat_le (slice_index header 4) 127)
  require Length (number_at header 28 == count && nat_lt 0 count && count % 128 == 0)
  Ok (header_at header)

-- how long a region's definition is, by its hash info
unfoldable pub region_size : List ℕ → ℕ
region_size entry =
    if little_at entry 2 2 == 1 then 48 else (if little_at entry 2 2 == 2 then 64 else 16)

-- the hash of a region's definition, by its hash info
unfoldable pub hash_at : List ℕ → Option RegionHash
hash_at entry =
    if little_at entry 2 2 == 0 then Some hashes.None
    else (if little_at entry 2 2 == 1 then Some (hashes.Sha256 (bytes_at entry 16 32))
    else (if little_at entry 2 2 == 2 then Some (hashes.Sha384 (bytes_at entry 16 48))
    else None))

unfoldable pub region_at : List ℕ → RegionHash → Region
region_at entry hash = record {
  mask = slice_index entry 1;
  reserved = bytes_at entry 4 4;
  start = number_at entry 8;
  end = number_at entry 12;
  hash = hash;
}

unfoldable pub rule_at : List ℕ → Rule
rule_at entry = record {
  reserved = bytes_at entry 1 4;
  bus = slice_index entry 5;
  rule = slice_index entry 6;
  address = slice_index entry 7;
  commands = bytes_at entry 8 32;
}

-- a region's definition at a place, behind the entries of m
unfoldable pub judge_definition : List ℕ → ℕ → Manifest → Result Region ManifestFail
judge_definition entry place m = do
  require (EntryType place) (length m.rules == 0 && nat_le 16 (length entry) && nat_le (region_size entry) (length entry))
  require TooMany (nat_lt (length m.regions) 64)
  hash ← known (HashInfo (length m.regions)) (hash_at entry)
  Ok (region_at entry hash)

-- it shares no byte with an area, or with any area of a layout
abbrev pub is_clear_of : Stretch → ℕ → ℕ → Bool
is_clear_of stretch at len = nat_le stretch.end at || nat_le (at + len) stretch.start

abbrev pub is_clear : Stretch → Layout → Bool
is_clear stretch layout =
    is_clear_of stretch layout.manifest_at layout.manifest_len
    && is_clear_of stretch layout.recovery_at layout.area_len
    && is_clear_of stretch layout.staging_at layout.area_len

-- Region k of a bank may lie there, with a hash or without one, behind a region from one place up to another.
unfoldable pub judge_stretch : Stretch → ℕ → Bool → ℕ → ℕ → Layout → ℕ → Result (Unit {0}) ManifestFail
judge_stretch stretch k hashed last_start last_end layout size = do
  require (WritableHashed k) (not (hashed && stretch.writable))
  require (Align k) (stretch.start % 4096 == 0 && stretch.end % 4096 == 0)
  require (Range k) (nat_lt stretch.start stretch.end && nat_le stretch.end size && is_clear stretch layout)
  require (Order k) (nat_le last_start stretch.start)
  require (Overlap k) (nat_le last_end stretch.start)

-- the numbers of a region, behind other regions
abbrev pub judge_region : Region → List Region → Layout → ℕ → Result (Unit {0}) ManifestFail
judge_region region before layout size =
    judge_stretch (stretch_of region) (length before) (is_static region) (last_start before) (last_end before) layout size

-- a rule's definition at a place, behind the entries of m
unfoldable pub judge_rule : List ℕ → ℕ → Manifest → Result Rule ManifestFail
judge_rule entry place m = do
  require (EntryType place) (nat_le 40 (length entry))
  require TooMany (nat_lt (length m.rules) 64)
  Ok (rule_at entry)

-- The entry at a place, by its type. It is given as its first 64 bytes, or those that there are.
unfoldable pub judge_entry : List ℕ → ℕ → Manifest → Layout → ℕ → Result Entry ManifestFail
judge_entry entry place m layout size =
    if slice_index entry 0 == 255 then Ok entries.Tail
    else (if slice_index entry 0 == 1 then (do
      region ← judge_definition entry place m
      judge_region region m.regions layout size
      Ok (entries.Region region))
    else (if slice_index entry 0 == 2 then (do
      rule ← judge_rule entry place m
      Ok (entries.Rule rule))
    else Err (EntryType place)))

-- what stands from the first type 0xFF on
unfoldable pub judge_tail : List ℕ → Result (Unit {0}) ManifestFail
judge_tail tail = require Tail (nat_lt (length tail) 128 && list_all (λ byte. byte == 255) tail)

abbrev pub with_region : Manifest → Region → Manifest
with_region m region = record m { regions = m.regions ++ region ∷ [] }

abbrev pub with_rule : Manifest → Rule → Manifest
with_rule m rule = record m { rules = m.rules ++ rule ∷ [] }

-- how long the definition of a region with this hash is
abbrev pub len_of_hash : RegionHash → ℕ
len_of_hash hashes.None = 16
len_of_hash (hashes.Sha256 digest) = 48
len_of_hash (hashes.Sha384 digest) = 64

abbrev pub region_len : Region → ℕ
region_len region = len_of_hash region.hash

-- the entry lies within so many bytes, and there is room for it behind those of m
abbrev pub HasRoom : Entry → ℕ → Manifest → Type 0
HasRoom entries.Tail count m = Unit {0}
HasRoom (entries.Region region) count m = (region_len region ≤ count) × (length m.regions < 64)
HasRoom (entries.Rule rule) count m = (40 ≤ count) × (length m.rules < 64)

abbrev pub HasNoEntries : Manifest → Type 0
HasNoEntries m = (m.regions ≡ []) × (m.rules ≡ [])

-- what follows an entry: the tail, or further entries behind it
abbrev pub after_entry : (List ℕ → ℕ → Manifest → Result Manifest ManifestFail) → List ℕ → ℕ → Manifest → Entry → Result Manifest ManifestFail
after_entry further rest place m entries.Tail = judge_tail rest >> Ok m
after_entry further rest place m (entries.Region region) =
    further (drop (region_len region) rest) (place + region_len region) (with_region m region)
after_entry further rest place m (entries.Rule rule) = further (drop 40 rest) (place + 40) (with_rule m rule)

-- The entries from a place on, behind those of m.
unfoldable pub judge_entries : ℕ → List ℕ → ℕ → Manifest → Layout → ℕ → Result Manifest ManifestFail
judge_entries turns [] place m layout size = Ok m
judge_entries zero (byte ∷ bytes) place m layout size = Err (EntryType place)
judge_entries (suc turns) (byte ∷ bytes) place m layout size = do
  entry ← judge_entry (take 64 (byte ∷ bytes)) place m layout size
  after_entry (λ rest next read. judge_entries turns rest next read layout size) (byte ∷ bytes) place m entry

-- Each further entry is one more of at most 64 regions and 64 rules, and a last turn finds the tail.
abbrev pub turns_left : Manifest → ℕ
turns_left m = 129 - (length m.regions + length m.rules)

-- The manifest that the bytes spell for a bank of this layout and this size, or the first cause against them.
unfoldable pub judge_manifest : List ℕ → Layout → ℕ → Result Manifest ManifestFail
judge_manifest bytes layout size = do
  header ← judge_header (take 32 bytes) (length bytes)
  judge_entries (turns_left header) (drop 32 bytes) 32 header layout size
