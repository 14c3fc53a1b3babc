-- The keys of a description's tables, and what is read at them.
use Rattle.std.specs.List.{list_any}
use Rattle.std.specs.Str.{bytes_eq}
use Rattle.std.specs.Prelude.{ℕ, ℤ, pos, negsuc, nat_le, ◌&&◌, Bool, true, List, codes, Option, Some, None, Result, Ok, Err, if◌then◌else◌}
use Rattle.hex.specs.Hex.{decode_sized}
use Rattle.hex.specs.declared.error.FromHexError.{FromHexError}
use Rattle.toml.specs.Data.{Data, Members, no_members, member, get_member, as_integer, as_str, as_table}
use Rattle.pfr_flash.specs.Judging.{◌>>=◌, known}
use Rattle.pfr_flash.specs.declared.names.Bank.{Bank}
use Rattle.pfr_description.specs.declared.fail.DescWhy.{DescWhy}
use Rattle.pfr_description.specs.declared.fail.DescWhy.TheVariants.{Missing, Kind, Value, Extra}
use Rattle.pfr_description.specs.declared.field.Field.{Field}
use Rattle.pfr_description.specs.declared.field.Field.TheVariants as fields

abbrev pub name_of : Field → List ℕ
name_of fields.Curve = codes "curve"
name_of fields.Form = codes "form"
name_of fields.Root = codes "root"
name_of fields.X = codes "x"
name_of fields.Y = codes "y"
name_of fields.Bmc = codes "bmc"
name_of fields.Pch = codes "pch"
name_of fields.Image = codes "image"
name_of fields.Size = codes "size"
name_of fields.Svn = codes "svn"
name_of fields.Bkc = codes "bkc"
name_of fields.Revision = codes "revision"
name_of fields.Oem = codes "oem"
name_of fields.ManifestAt = codes "manifest_at"
name_of fields.ManifestLen = codes "manifest_len"
name_of fields.RecoveryAt = codes "recovery_at"
name_of fields.StagingAt = codes "staging_at"
name_of fields.AreaLen = codes "area_len"
name_of fields.ManifestKey = codes "manifest_key"
name_of fields.CapsuleKey = codes "capsule_key"
name_of fields.Id = codes "id"
name_of fields.Permissions = codes "permissions"
name_of fields.Staged = codes "staged"
name_of fields.Regions = codes "regions"
name_of fields.Start = codes "start"
name_of fields.End = codes "end"
name_of fields.Mask = codes "mask"
name_of fields.Hash = codes "hash"
name_of fields.Pages = codes "pages"
name_of fields.Smbus = codes "smbus"
name_of fields.Bus = codes "bus"
name_of fields.Rule = codes "rule"
name_of fields.Address = codes "address"
name_of fields.Commands = codes "commands"

-- a text is one of these keys
abbrev pub is_one_of : List Field → List ℕ → Bool
is_one_of keys text = list_any (λ key. bytes_eq (name_of key) text) keys

-- a table has no other keys
abbrev pub only_has : List Field → Members → Bool
only_has keys no_members = true
only_has keys (member name value others) = is_one_of keys name && only_has keys others

unfoldable pub extra_in : Option Bank → List Field → Members → Result (Unit {0}) DescWhy
extra_in bank keys table = if only_has keys table then Ok tt else Err (Extra bank)

-- the value at a key of a table
abbrev pub value_in : Option Bank → Field → Members → Result Data DescWhy
value_in bank key table = known (Missing bank key) (get_member (name_of key) table)

-- an integer from 0 to the greatest that is allowed
abbrev pub within : ℕ → ℤ → Option ℕ
within most (pos n) = if nat_le n most then Some n else None
within most (negsuc n) = None

abbrev pub number_in : Option Bank → Field → ℕ → Members → Result ℕ DescWhy
number_in bank key most table = do
  value ← value_in bank key table
  number ← known (Kind bank key) (as_integer value)
  known (Value bank key) (within most number)

abbrev pub text_in : Option Bank → Field → Members → Result (List ℕ) DescWhy
text_in bank key table = do
  value ← value_in bank key table
  known (Kind bank key) (as_str value)

abbrev pub table_in : Option Bank → Field → Members → Result Members DescWhy
table_in bank key table = do
  value ← value_in bank key table
  known (Kind bank key) (as_table value)

-- the bytes that hex digits spell, of either case
abbrev pub decoded : DescWhy → Result (List ℕ) FromHexError → Result (List ℕ) DescWhy
decoded why (Ok bytes) = Ok bytes
decoded why (Err e) = Err why

abbrev pub bytes_in : Option Bank → Field → ℕ → Members → Result (List ℕ) DescWhy
bytes_in bank key count table = do
  text ← text_in bank key table
  decoded (Value bank key) (decode_sized text count)
