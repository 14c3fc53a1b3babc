use Rattle.std.proofs.Common.{◌≡◌, take, false}
use Rattle.std.specs.List.{list_any}
use Rattle.pfr_smbus.specs.Frames.{is_for, allows}
use Rattle.pfr_smbus.proofs.judging.allowed.Given as goal

-- whether a rule so far is for the frame is known, and none so far allows it
abbrev pub invariant-loop-k : goal.invariant-loop-k
invariant-loop-k l = record {
  found : l.found ≡ list_any (is_for l.frame) (take l.k l.rules);
  none : list_any (allows l.frame) (take l.k l.rules) ≡ false;
}
