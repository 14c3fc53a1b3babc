use Rattle.std.proofs.Common.{◌≡◌, None, drop}
use Rattle.pfr_flash.specs.FlashState.{now}
use Rattle.pfr_flash.specs.Reading.{EndsAt}
use Rattle.pfr_auth.specs.Judge.{judge_regions}
use Rattle.pfr_auth.proofs.hashes.check_regions.Given as goal

-- what is left is to be judged as all of them
abbrev pub invariant-loop-k : goal.invariant-loop-k
invariant-loop-k g l = record {
  ends : EndsAt None (g.F.Flash.device l.fn.flash) (g.F.Flash.device l.flash);
  exact : judge_regions (now (g.F.Flash.device l.fn.flash)) l.k (drop l.k l.regions) ≡ judge_regions (now (g.F.Flash.device l.fn.flash)) 0 l.regions;
}
