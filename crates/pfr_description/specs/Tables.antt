-- The parts of a description, as its tables spell them.
use Rattle.std.specs.Prelude.{ℕ, ◌==◌, ◌&&◌, Bool, true, false, not, is_some, codes, List, [], ◌∷◌, Option, Some, None, Result, Ok, Err, if◌then◌else◌}
use Rattle.std.specs.Int.{bit_at}
use Rattle.std.specs.Str.{bytes_eq}
use Rattle.toml.specs.Data.{Members}
use Rattle.pfr_engine.specs.declared.engine.Curve.{Curve}
use Rattle.pfr_engine.specs.declared.engine.Curve.TheVariants.{C256, C384}
use Rattle.pfr_flash.specs.declared.layout.Layout.{Layout}
use Rattle.pfr_flash.specs.declared.names.Bank.{Bank}
use Rattle.pfr_flash.specs.Judging.{◌>>=◌, known, require}
use Rattle.pfr_description.specs.Keys.{number_in, bytes_in, text_in, table_in, extra_in}
use Rattle.pfr_description.specs.declared.fail.DescWhy.{DescWhy}
use Rattle.pfr_description.specs.declared.fail.DescWhy.TheVariants.{Missing, Value}
use Rattle.pfr_description.specs.declared.field.Field.{Field}
use Rattle.pfr_description.specs.declared.field.Field.TheVariants as fields
use Rattle.pfr_description.specs.declared.form.Form.{Form}
use Rattle.pfr_description.specs.declared.form.Form.TheVariants.{One, Two}
use Rattle.pfr_description.specs.declared.keys.KeyDescription.{KeyDescription}
use Rattle.pfr_description.specs.declared.keys.PublicKey.{PublicKey}
use Rattle.pfr_description.specs.declared.region.HashKind.{HashKind}
use Rattle.pfr_description.specs.declared.region.HashKind.TheVariants as hashes
use Rattle.pfr_description.specs.declared.region.PageUse.{PageUse}
use Rattle.pfr_description.specs.declared.region.PageUse.TheVariants as uses
use Rattle.pfr_description.specs.declared.region.RegionDescription.{RegionDescription}
use Rattle.pfr_description.specs.declared.smbus.SmbusDescription.{SmbusDescription}

-- the greatest number of a field of four bytes
abbrev pub greatest : ℕ
greatest = 0xFFFFFFFF

abbrev pub curve_of : ℕ → Option Curve
curve_of number = if number == 256 then Some C256 else if number == 384 then Some C384 else None

abbrev pub curve_in : Members → Result Curve DescWhy
curve_in top = do
  number ← number_in None fields.Curve greatest top
  known (Value None fields.Curve) (curve_of number)

abbrev pub form_of : ℕ → Option Form
form_of number = if number == 1 then Some One else if number == 2 then Some Two else None

-- form 1 where no form is named
abbrev pub form_from : Result ℕ DescWhy → Result Form DescWhy
form_from (Ok number) = known (Value None fields.Form) (form_of number)
form_from (Err (Missing bank key)) = Ok One
form_from (Err why) = Err why

abbrev pub form_in : Members → Result Form DescWhy
form_in top = form_from (number_in None fields.Form greatest top)

abbrev pub point_in : Option Bank → Members → Result PublicKey DescWhy
point_in bank table = do
  x ← bytes_in bank fields.X 48 table
  y ← bytes_in bank fields.Y 48 table
  Ok (record { x = x; y = y })

-- the root key's table
abbrev pub root_keys : List Field
root_keys = fields.X ∷ fields.Y ∷ []

abbrev pub root_in : Members → Result PublicKey DescWhy
root_in top = do
  table ← table_in None fields.Root top
  point ← point_in None table
  none ← extra_in None root_keys table
  Ok point

-- the table of a key that signs, whose permissions have this bit
abbrev pub signer_keys : List Field
signer_keys = fields.Id ∷ fields.Permissions ∷ fields.X ∷ fields.Y ∷ []

abbrev pub signer_in : Bank → Field → ℕ → Members → Result KeyDescription DescWhy
signer_in bank key bit within = do
  table ← table_in (Some bank) key within
  id ← number_in (Some bank) fields.Id 255 table
  permissions ← number_in (Some bank) fields.Permissions greatest table
  allowed ← require (Value (Some bank) fields.Permissions) (bit_at permissions bit == 1)
  point ← point_in (Some bank) table
  none ← extra_in (Some bank) signer_keys table
  Ok (record { id = id; permissions = permissions; key = point })

abbrev pub layout_in : Bank → Members → Result Layout DescWhy
layout_in bank table = do
  manifest_at ← number_in (Some bank) fields.ManifestAt greatest table
  manifest_len ← number_in (Some bank) fields.ManifestLen greatest table
  recovery_at ← number_in (Some bank) fields.RecoveryAt greatest table
  staging_at ← number_in (Some bank) fields.StagingAt greatest table
  area_len ← number_in (Some bank) fields.AreaLen greatest table
  Ok (record { manifest_at = manifest_at; manifest_len = manifest_len; recovery_at = recovery_at; staging_at = staging_at; area_len = area_len })

-- the words for a hash, and for what a capsule does with pages
abbrev pub hash_named : List ℕ → Option (Option HashKind)
hash_named text =
    if bytes_eq text (codes "none") then Some None
    else if bytes_eq text (codes "sha256") then Some (Some hashes.Sha256)
    else if bytes_eq text (codes "sha384") then Some (Some hashes.Sha384)
    else None

abbrev pub pages_named : List ℕ → Option PageUse
pages_named text =
    if bytes_eq text (codes "copy") then Some uses.Copy
    else if bytes_eq text (codes "erase") then Some uses.Erase
    else if bytes_eq text (codes "keep") then Some uses.Keep
    else None

abbrev pub is_kept : PageUse → Bool
is_kept uses.Copy = false
is_kept uses.Erase = false
is_kept uses.Keep = true

abbrev pub hash_in : Bank → Members → Result (Option HashKind) DescWhy
hash_in bank table = do
  text ← text_in (Some bank) fields.Hash table
  known (Value (Some bank) fields.Hash) (hash_named text)

-- a region with a hash is not kept
abbrev pub pages_in : Bank → Option HashKind → Members → Result PageUse DescWhy
pages_in bank hash table = do
  text ← text_in (Some bank) fields.Pages table
  pages ← known (Value (Some bank) fields.Pages) (pages_named text)
  allowed ← require (Value (Some bank) fields.Pages) (not (is_some hash && is_kept pages))
  Ok pages

abbrev pub region_keys : List Field
region_keys = fields.Start ∷ fields.End ∷ fields.Mask ∷ fields.Hash ∷ fields.Pages ∷ []

abbrev pub region_in : Bank → Members → Result RegionDescription DescWhy
region_in bank table = do
  from ← number_in (Some bank) fields.Start greatest table
  upto ← number_in (Some bank) fields.End greatest table
  mask ← number_in (Some bank) fields.Mask 255 table
  hash ← hash_in bank table
  pages ← pages_in bank hash table
  none ← extra_in (Some bank) region_keys table
  Ok (record { start = from; end = upto; mask = mask; hash = hash; pages = pages })

abbrev pub rule_keys : List Field
rule_keys = fields.Bus ∷ fields.Rule ∷ fields.Address ∷ fields.Commands ∷ []

abbrev pub rule_in : Bank → Members → Result SmbusDescription DescWhy
rule_in bank table = do
  bus ← number_in (Some bank) fields.Bus 255 table
  rule ← number_in (Some bank) fields.Rule 255 table
  address ← number_in (Some bank) fields.Address 255 table
  commands ← bytes_in (Some bank) fields.Commands 32 table
  none ← extra_in (Some bank) rule_keys table
  Ok (record { bus = bus; rule = rule; address = address; commands = commands })
