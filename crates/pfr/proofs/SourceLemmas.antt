-- The files that a description names: the same names whatever the files hold.
use Rattle.std.proofs.Common.{ℕ, List, Option, Some, None}
use Rattle.pfr_flash.specs.declared.names.Bank.{Bank}
use Rattle.pfr_shelf.specs.Files.{Files}
use Rattle.pfr_description.specs.Described.{BankDescription}
use Rattle.pfr.specs.Making.{bank_rows, image_role, staged_role, staged_rows}
use Rattle.pfr.specs.declared.status.Role.{Role}
use Rattle.pfr.proofs.LoadLemmas.{AreNamedAlike, no_rows, row_more}

pub staged_alike : (file : Role) (name : Option (List ℕ)) (f g : Files) → AreNamedAlike (staged_rows file name f) (staged_rows file name g)
staged_alike file None f g = no_rows
staged_alike file (Some name) f g = row_more file name _ _ _ _ no_rows

pub bank_alike : (bank : Bank) (part : BankDescription) (f g : Files) → AreNamedAlike (bank_rows bank part f) (bank_rows bank part g)
bank_alike bank part f g = row_more (image_role bank) part.image _ _ _ _ (staged_alike (staged_role bank) part.staged f g)
