use Rattle.std.proofs.Common.{◌∙◌, length, ap, arith}
use Rattle.pfr_flash.specs.Cells.{CellsState}
use Rattle.pfr_flash.proofs.CellsLemmas.{length-bytes}
use Rattle.pfr_flash.proofs.cells.Cells.size.Goals as goal

pub overflow_cast-result : goal.overflow_cast-result
overflow_cast-result c = omega (arith, c.len.ensures, length-bytes c.self.inside c.self.invariant, c.self.invariant.size)

pub returns : goal.returns
returns c = c.len.ensures ∙ c.self.inside.bytes.ok.0 ∙ length-bytes c.self.inside c.self.invariant ∙ ap (λ (s : CellsState). length s.start) c.self.view_is
