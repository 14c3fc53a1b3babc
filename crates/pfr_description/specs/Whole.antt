-- A whole description: its rules in order, the first that is broken, and what the text says where none is.
use Rattle.std.specs.Prelude.{◌≡◌, ℕ, List, [], ◌∷◌, Some, None, Result, Ok, Err, if◌then◌else◌}
use Rattle.std.specs.Str.{is_utf8}
use Rattle.toml.specs.Data.{Members}
use Rattle.toml.specs.Parse.{parse_document}
use Rattle.pfr_flash.specs.declared.names.Bank.{Bank}
use Rattle.pfr_flash.specs.declared.names.Bank.TheVariants.{Bmc, Pch}
use Rattle.pfr_flash.specs.Judging.{◌>>=◌, known}
use Rattle.pfr_description.specs.Keys.{number_in, bytes_in, text_in, table_in, extra_in}
use Rattle.pfr_description.specs.Tables.{greatest, curve_in, form_in, root_in, layout_in, signer_in}
use Rattle.pfr_description.specs.Lists.{staged_in, regions_in, rules_in}
use Rattle.pfr_description.specs.Sound.{manifest_bit, capsule_bit}
use Rattle.pfr_description.specs.Described.{BankDescription, Description}
use Rattle.pfr_description.specs.declared.fail.DescFail.{DescFail}
use Rattle.pfr_description.specs.declared.fail.DescFail.TheVariants.{NoMemory, Why}
use Rattle.pfr_description.specs.declared.fail.DescWhy.{DescWhy}
use Rattle.pfr_description.specs.declared.fail.DescWhy.TheVariants.{Toml}
use Rattle.pfr_description.specs.declared.field.Field.{Field}
use Rattle.pfr_description.specs.declared.field.Field.TheVariants as fields
use Rattle.pfr_description.specs.declared.identity.Identity.{Identity}
use Rattle.pfr_description.specs.declared.keys.KeyDescription.{KeyDescription}

-- a reading answers what is judged, seen through a view, unless memory is wanting
abbrev pub ReadsAs : {A B : Type 0} → (A → B) → Result A DescFail → Result B DescWhy → Type 0
ReadsAs seen (Ok x) judged = judged ≡ Ok (seen x)
ReadsAs seen (Err (Why why)) judged = judged ≡ Err why
ReadsAs seen (Err NoMemory) judged = Unit {0}

-- the same of what is seen as it is
abbrev pub Reads : {A : Type 0} → Result A DescFail → Result A DescWhy → Type 0
Reads (Ok x) judged = judged ≡ Ok x
Reads (Err (Why why)) judged = judged ≡ Err why
Reads (Err NoMemory) judged = Unit {0}

-- a bank's size, and what its manifest begins with
unfoldable pub identity_in : Bank → Members → Result Identity DescWhy
identity_in bank table = do
  size ← number_in (Some bank) fields.Size greatest table
  svn ← number_in (Some bank) fields.Svn 127 table
  bkc ← number_in (Some bank) fields.Bkc 255 table
  revision ← bytes_in (Some bank) fields.Revision 2 table
  oem ← bytes_in (Some bank) fields.Oem 16 table
  Ok (record { size = size; svn = svn; bkc = bkc; revision = revision; oem = oem })

abbrev pub bank_keys : List Field
bank_keys =
    fields.Image ∷ fields.Size ∷ fields.Svn ∷ fields.Bkc ∷ fields.Revision ∷ fields.Oem ∷ fields.ManifestAt ∷ fields.ManifestLen ∷ fields.RecoveryAt ∷ fields.StagingAt ∷ fields.AreaLen ∷ fields.ManifestKey ∷ fields.CapsuleKey ∷ fields.Staged ∷ fields.Regions ∷ fields.Smbus ∷ []

-- the keys that sign a bank's manifest and its capsule
unfoldable pub signers_in : Bank → Members → Result (KeyDescription × KeyDescription) DescWhy
signers_in bank table = do
  manifest_key ← signer_in bank fields.ManifestKey (manifest_bit bank) table
  capsule_key ← signer_in bank fields.CapsuleKey (capsule_bit bank) table
  Ok (manifest_key, capsule_key)

unfoldable pub judge_bank : Bank → Members → Result BankDescription DescWhy
judge_bank bank table = do
  image ← text_in (Some bank) fields.Image table
  identity ← identity_in bank table
  layout ← layout_in bank table
  signers ← signers_in bank table
  staged ← staged_in bank table
  regions ← regions_in bank table
  rules ← rules_in bank table
  Ok (record { image = image; size = identity.size; svn = identity.svn; bkc = identity.bkc; revision = identity.revision; oem = identity.oem; layout = layout; manifest_key = signers.0; capsule_key = signers.1; staged = staged; regions = regions; smbus = rules })

-- how the top table calls a bank's
abbrev pub table_of : Bank → Field
table_of Bmc = fields.Bmc
table_of Pch = fields.Pch

unfoldable pub bank_in : Bank → Members → Result BankDescription DescWhy
bank_in bank top = do
  table ← table_in None (table_of bank) top
  part ← judge_bank bank table
  none ← extra_in (Some bank) bank_keys table
  Ok part

abbrev pub top_keys : List Field
top_keys = fields.Curve ∷ fields.Form ∷ fields.Root ∷ fields.Bmc ∷ fields.Pch ∷ []

unfoldable pub judge_top : Members → Result Description DescWhy
judge_top top = do
  curve ← curve_in top
  form ← form_in top
  none ← extra_in None top_keys top
  root ← root_in top
  bmc ← bank_in Bmc top
  pch ← bank_in Pch top
  Ok (record { curve = curve; form = form; root = root; bmc = bmc; pch = pch })

-- the top table of a text, where it is a document in UTF-8
unfoldable pub document_in : List ℕ → Result Members DescWhy
document_in text = if is_utf8 text then known Toml (parse_document text) else Err Toml

unfoldable pub judge_description : List ℕ → Result Description DescWhy
judge_description text = do
  top ← document_in text
  judge_top top
