-- What a bank's table may lack: the staged file's name, and the lists of regions and rules.
use Rattle.std.specs.Prelude.{ℕ, List, [], ◌∷◌, Option, Some, None, option_map, option_and_then, Result, Ok, Err}
use Rattle.toml.specs.Data.{Items, no_items, item, Members, as_array, as_table}
use Rattle.pfr_flash.specs.declared.names.Bank.{Bank}
use Rattle.pfr_flash.specs.Judging.{◌>>=◌, known}
use Rattle.pfr_description.specs.Keys.{value_in, text_in}
use Rattle.pfr_description.specs.Tables.{region_in, rule_in}
use Rattle.pfr_description.specs.declared.fail.DescWhy.{DescWhy}
use Rattle.pfr_description.specs.declared.fail.DescWhy.TheVariants.{Missing, Kind}
use Rattle.pfr_description.specs.declared.field.Field.{Field}
use Rattle.pfr_description.specs.declared.field.Field.TheVariants as fields
use Rattle.pfr_description.specs.declared.region.RegionDescription.{RegionDescription}
use Rattle.pfr_description.specs.declared.smbus.SmbusDescription.{SmbusDescription}

-- this, where the key is absent
abbrev pub absent_is : {A : Type 0} → A → Result A DescWhy → Result A DescWhy
absent_is other (Ok x) = Ok x
absent_is other (Err (Missing bank key)) = Ok other
absent_is other (Err why) = Err why

abbrev pub some_text_in : Option Bank → Field → Members → Result (Option (List ℕ)) DescWhy
some_text_in bank key table = do
  text ← text_in bank key table
  Ok (Some text)

-- the name of the file that is staged, if one is
unfoldable pub staged_in : Bank → Members → Result (Option (List ℕ)) DescWhy
staged_in bank table = absent_is None (some_text_in (Some bank) fields.Staged table)

abbrev pub list_in : Option Bank → Field → Members → Result Items DescWhy
list_in bank key table = do
  value ← value_in bank key table
  known (Kind bank key) (as_array value)

-- the items as tables, where each is one
abbrev pub tables_of : Items → Option (List Members)
tables_of no_items = Some []
tables_of (item value others) =
    option_and_then (λ table. option_map (λ tables. table ∷ tables) (tables_of others)) (as_table value)

-- the tables of a list, which is empty where it is absent
unfoldable pub tables_in : Option Bank → Field → Members → Result (List Members) DescWhy
tables_in bank key table = do
  list ← absent_is no_items (list_in bank key table)
  known (Kind bank key) (tables_of list)

-- what each table is read as, in order
abbrev pub each : {A : Type 0} → (Members → Result A DescWhy) → List Members → Result (List A) DescWhy
each read [] = Ok []
each read (table ∷ tables) = do
  first ← read table
  others ← each read tables
  Ok (first ∷ others)

unfoldable pub regions_in : Bank → Members → Result (List RegionDescription) DescWhy
regions_in bank table = do
  tables ← tables_in (Some bank) fields.Regions table
  each (region_in bank) tables

unfoldable pub rules_in : Bank → Members → Result (List SmbusDescription) DescWhy
rules_in bank table = do
  tables ← tables_in (Some bank) fields.Smbus table
  each (rule_in bank) tables
