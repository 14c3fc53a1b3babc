-- What the images are worth that `make` stores.
use Rattle.std.specs.Prelude.{◌≡◌, List, ◌++◌, Some, Ok}
use Rattle.pfr_flash.specs.declared.names.Bank.TheVariants.{Bmc, Pch}
use Rattle.pfr_shelf.specs.Files.{Files}
use Rattle.pfr_description.specs.Described.{Description}
use Rattle.pfr_engine.specs.Accepting.{acceptance}
use Rattle.pfr_engine.specs.Rows.{judge_text}
use Rattle.pfr_engine.specs.declared.row.Row.{Row}
use Rattle.pfr_made.specs.Trust.{IsPlatform, IsWorthy}
use Rattle.pfr.specs.Making.{described_in, flash_in, rows_in}
use Rattle.pfr.specs.Request.{MakeRequest}

-- What `make` stores of both banks is trusted and good with the store of the same description: for every engine that accepts a
-- bank's rows, and so for the engine of the rows of the file that is stored.
pub record MakesWorthy (files : Files) (request : MakeRequest) : Type 0 where
  pub desc : Description
  pub described : described_in (files request.description) ≡ Some desc
  pub bmc : IsWorthy desc Bmc (flash_in files desc Bmc) (rows_in files desc Bmc)
  pub pch : IsWorthy desc Pch (flash_in files desc Pch) (rows_in files desc Pch)
  pub rows : List Row
  pub engine : judge_text (rows_in files desc Bmc ++ rows_in files desc Pch) ≡ Ok rows
  pub platform : IsPlatform desc (flash_in files desc Bmc) (flash_in files desc Pch) (acceptance rows)
