use Rattle.std.proofs.Common.{◌≡◌, map, take, Ok}
use Rattle.pfr.specs.MakesInside.{Stores, stored_under}
use Rattle.pfr.proofs.outputs.store_outputs.Given as goal

abbrev pub invariant-loop-output : goal.invariant-loop-output
invariant-loop-output g l =
    let s = g.S.Shelf in
    Stores {T = Unit {0}} s.tells s.files s.faults s.failed l.initial.shelf l.shelf (map (stored_under l.prefix) (take l.output-index l.outputs)) (Ok tt)
    × (s.faults l.shelf ≡ s.faults l.initial.shelf)
