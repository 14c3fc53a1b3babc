use Rattle.std.proofs.Common.{◌∙◌, arith, []}
use Rattle.std.proofs.lemmas.Result.{err_from_is_err_and}
use Rattle.pfr.specs.MakesInside.{stored_under}
use Rattle.pfr.specs.declared.outputs.Output.{Output}
use Rattle.pfr.specs.declared.status.Role.TheVariants as role
use Rattle.pfr.proofs.StoreLemmas.{stores_end, stores_more}
use Rattle.pfr.proofs.outputs.store_outputs.Goals as goal

abbrev no_output : Output
no_output = record { role = role.Bmc; suffix = record { ref_ptr = (0, 0); now = [] }; bytes = record { ref_ptr = (0, 0); now = [] } }

pub returns-in_err-store_output-clause-stores : goal.returns-in_err-store_output-clause-stores
returns-in_err-store_output-clause-stores g c =
    let p = err_from_is_err_and c.from_residual.result c.from_residual.ensures.1 in
    let s = g.S.Shelf in
    rw (p.1, p.2) (stores_end {T = Unit {0}} {U = Unit {0}} s.tells s.files s.faults s.failed c.args.shelf.now c.loop-output.shelf c.store_output.new.shelf
    (stored_under c.args.prefix.now) c.args.outputs.now c.loop-output.output-index no_output tt c.in_err-store_output.field-0.0 (omega arith) c.loop-output.invariant.0 c.in_err-store_output.ensures.stores)

pub loop-output-preserved : goal.loop-output-preserved
loop-output-preserved g c =
    let s = g.S.Shelf in (
      stores_more {T = Unit {0}} {U = Unit {0}} s.tells s.files s.faults s.failed c.args.shelf.now c.loop-output.shelf c.store_output.new.shelf
          (stored_under c.args.prefix.now) c.args.outputs.now c.loop-output.output-index no_output tt c.in_ok-store_output.field-0 tt (omega arith) c.loop-output.invariant.0 c.in_ok-store_output.ensures.stores,
      c.in_ok-store_output.ensures.faultless ∙ c.loop-output.invariant.1,
    )
