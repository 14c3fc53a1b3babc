use Rattle.std.proofs.Common.{rules, tests, ◌≡◌, ◌==◌, arith}
use Rattle.std.specs.List.{list_all}
use Rattle.std.proofs.lemmas.Iterator.{YieldsList-from_slice}
use Rattle.std.proofs.lemmas.Iterator.Search.{all_from_yields_List}
use Rattle.std.proofs.lemmas.Bool.Decides.{nat_tests}
use Rattle.pfr_manifest.specs.Judge.{judge_tail}
use Rattle.pfr_manifest.proofs.entry.check_tail.Goals as goal

pub returns-clause-exact : goal.returns-clause-exact
unfolding judge_tail
returns-clause-exact c =
    let all : c.all.result ≡ list_all (λ b. b == 255) c.args.tail.now =
    all_from_yields_List (λ b. b == 255) _ _ c.all.result c.all.ensures.ran (YieldsList-from_slice c.args.tail.now cc) (λ x b q k. search (rules, tests)) in
    grind (arith, nat_tests)
