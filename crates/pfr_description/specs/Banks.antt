-- What a description says of a bank.
use Rattle.pfr_flash.specs.declared.names.Bank.{Bank}
use Rattle.pfr_flash.specs.declared.names.Bank.TheVariants.{Bmc, Pch}
use Rattle.pfr_description.specs.Described.{BankDescription, Description}

unfoldable pub bank_of : Description → Bank → BankDescription
bank_of description Bmc = description.bmc
bank_of description Pch = description.pch
