use Rattle.std.proofs.Common.{◌≡◌, Ok}
use Rattle.pfr_flash.specs.Plan.{Follows}
use Rattle.pfr_bank.proofs.BusLemmas.{erases}
use Rattle.pfr_bank.proofs.bus.erase_sectors.Given as goal

-- the sectors so far were erased
abbrev pub invariant-loop-k : goal.invariant-loop-k
invariant-loop-k g l =
    Follows {A = Unit {0}} (erases l.fn.sector l.k) (g.F.Flash.device l.fn.flash) (g.F.Flash.device l.flash) (Ok tt)
    × (l.k ≡ 0 → l.flash ≡ l.fn.flash)
