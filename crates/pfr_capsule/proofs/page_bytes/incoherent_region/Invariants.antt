use Rattle.std.proofs.Common.{None, ◌≡◌, not, drop}
use Rattle.std.specs.List.{position_from}
use Rattle.pfr_flash.specs.FlashState.{now}
use Rattle.pfr_flash.specs.Reading.{EndsAt}
use Rattle.pfr_capsule.specs.PageBytes.{is_coherent, incoherent_region}
use Rattle.pfr_capsule.proofs.page_bytes.incoherent_region.Given as goal

-- what is left is to be judged as all of them
abbrev pub invariant-loop-k : goal.invariant-loop-k
invariant-loop-k g l = record {
  ends : EndsAt None (g.F.Flash.device l.fn.flash) (g.F.Flash.device l.flash);
  exact : position_from (λ region. not (is_coherent (now (g.F.Flash.device l.fn.flash)) l.pages region)) l.k (drop l.k l.regions)
      ≡ incoherent_region (now (g.F.Flash.device l.fn.flash)) l.pages l.regions;
}
