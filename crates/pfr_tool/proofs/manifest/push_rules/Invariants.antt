use Rattle.std.proofs.Common.{◌≡◌, ◌++◌, take, map}
use Rattle.std.specs.List.{flat_map}
use Rattle.pfr_manifest.specs.Spelling.{rule_bytes}
use Rattle.pfr_made.specs.Manifests.{rule_of}
use Rattle.pfr_tool.proofs.manifest.push_rules.Given as goal

abbrev pub invariant-loop-rule : goal.invariant-loop-rule
invariant-loop-rule l = l.entries.items ≡ l.initial.entries.items ++ flat_map rule_bytes (map rule_of (take l.rule-index l.rules))
