use Rattle.std.proofs.Common.{Err}
use Rattle.std.proofs.lemmas.Result.{err_from_is_err_and}
use Rattle.pfr_description.specs.Banks.{bank_of}
use Rattle.pfr_flash.specs.declared.names.Bank.TheVariants as bank
use Rattle.pfr.specs.Making.{bank_rows}
use Rattle.pfr.specs.declared.sources.Sources.{Sources}
use Rattle.pfr.proofs.LoadLemmas.{loads_then}
use Rattle.pfr.proofs.SourceLemmas.{bank_alike}
use Rattle.pfr.proofs.sources.load_both.Goals as goal

pub returns-in_err-pch-clause-loads : goal.returns-in_err-pch-clause-loads
returns-in_err-pch-clause-loads g c =
    let p = err_from_is_err_and c.from_residual-in_err-pch.result c.from_residual-in_err-pch.ensures.1 in
    let s = g.S.Shelf in
    let bmc = bank_of c.args.desc.now bank.Bmc in
    let pch = bank_of c.args.desc.now bank.Pch in
    let both = loads_then {T = Sources} {U = Sources} s.tells s.files s.faults s.failed c.args.shelf.now c.load_sources.new.shelf c.load_sources-2.new.shelf
    (bank_rows bank.Bmc bmc) (bank_rows bank.Pch pch) c.in_ok-bmc.bmc (Err c.in_err-pch.field-0.0) (bank_alike bank.Pch pch) c.in_ok-bmc.ensures.loads c.in_err-pch.ensures.loads in
    rw (p.1, p.2) (record { stays = both.stays; ok = tt; err = both.err; later = both.later })
