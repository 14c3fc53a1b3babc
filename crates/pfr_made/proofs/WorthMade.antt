-- The image that is made of a bank is trusted, and its recovery area good.
use Rattle.std.proofs.Common.{◌≡◌, ℕ, List, Ok}
use Rattle.pfr_flash.specs.declared.names.Bank.{Bank}
use Rattle.pfr_description.specs.Described.{Description}
use Rattle.pfr_description.specs.Sound.{IsSound}
use Rattle.pfr_made.specs.Made.{active_image, flash_of, judge_bank, rows_of}
use Rattle.pfr_made.specs.Trust.{IsWorthy}
use Rattle.pfr_made.proofs.GoodMade.{good_made}
use Rattle.pfr_made.proofs.TrustMade.{trusted_made}

pub worthy_made : (desc : Description) (bank : Bank) (image staged : List ℕ) → IsSound desc → judge_bank desc bank image staged ≡ Ok tt
    → IsWorthy desc bank (flash_of desc bank image staged) (rows_of desc bank (active_image desc bank image))
worthy_made desc bank image staged sound judged = record {
  trusted = λ accepts accepted. trusted_made desc bank image staged sound.values judged sound accepts accepted;
  good = λ accepts accepted. good_made desc bank image staged sound.values judged sound accepts accepted;
}
