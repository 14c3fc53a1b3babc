-- What a line says of a cause against a description.
use Rattle.std.specs.Prelude.{ℕ, List, [], ◌++◌, codes, Option, Some, None}
use Rattle.pfr_flash.specs.declared.names.Bank.{Bank}
use Rattle.pfr_description.specs.Keys.{name_of}
use Rattle.pfr_description.specs.declared.fail.DescWhy.{DescWhy}
use Rattle.pfr_description.specs.declared.fail.DescWhy.TheVariants.{Toml, Missing, Kind, Value, Extra, Layout, Manifest, Fit}
use Rattle.pfr_description.specs.declared.fail.FitPart.{FitPart}
use Rattle.pfr_description.specs.declared.fail.FitPart.TheVariants as part
use Rattle.pfr_report.specs.Texts.{bank_word}
use Rattle.pfr_report.specs.Words.{manifest_number, manifest_word, numbered, rule_word}

-- the bank in whose table a key stands
abbrev pub in_bank : Option Bank → List ℕ
in_bank None = []
in_bank (Some bank) = bank_word bank ++ codes " "

abbrev pub part_word : FitPart → List ℕ
part_word part.Size = codes "size"
part_word part.Image = codes "image"
part_word part.Manifest = codes "manifest"
part_word part.Capsule = codes "capsule"
part_word part.Staged = codes "staged"

abbrev pub description_text : DescWhy → List ℕ
description_text Toml = codes "toml"
description_text (Missing bank key) = in_bank bank ++ (codes "missing " ++ name_of key)
description_text (Kind bank key) = in_bank bank ++ (codes "kind " ++ name_of key)
description_text (Value bank key) = in_bank bank ++ (codes "value " ++ name_of key)
description_text (Extra bank) = in_bank bank ++ codes "extra"
description_text (Layout bank rule) = in_bank (Some bank) ++ (codes "layout " ++ rule_word rule)
description_text (Manifest bank cause) = in_bank (Some bank) ++ (codes "manifest:" ++ numbered (manifest_word cause) (manifest_number cause))
description_text (Fit bank part) = in_bank (Some bank) ++ (codes "fit " ++ part_word part)
