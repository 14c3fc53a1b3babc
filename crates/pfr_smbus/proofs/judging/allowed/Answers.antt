use Rattle.std.proofs.Common.{◌≡◌, true, List, Any, arith}
use Rattle.std.specs.List.{list_any}
use Rattle.std.proofs.lemmas.List.Folds.{Any-from_list_any}
use Rattle.std.proofs.lemmas.Grind.{common_steps}
use Rattle.pfr_manifest.specs.declared.rule.Rule.{Rule}
use Rattle.pfr_smbus.specs.declared.frame.SmbusFrame.{SmbusFrame}
use Rattle.pfr_smbus.specs.Frames.{IsFor, is_for}
use Rattle.pfr_smbus.proofs.judging.allowed.Goals as goal

some_for : (frame : SmbusFrame) (rules : List Rule) → list_any (is_for frame) rules ≡ true → Any (IsFor frame) rules
some_for frame rules h =
    let (k, x, within, is, test) = Any-from_list_any (is_for frame) rules h in
    (k, x, within, is, (grind (arith, test), grind (arith, test)))

pub returns-clause-err : goal.returns-clause-err
returns-clause-err c = (some_for c.args.frame.now c.args.rules.now (grind (arith, common_steps)), grind (arith, common_steps))
