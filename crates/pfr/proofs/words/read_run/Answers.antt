use Rattle.std.proofs.Common.{◌≡◌, ◌≤◌, ap, sym, ℕ, List, length, false, true, map, option_map, string_bytes, arith}
use Rattle.std.proofs.lemmas.List.{length-map}
use Rattle.pfr.specs.declared.words.Command.TheVariants.{Run}
use Rattle.pfr.proofs.WordLemmas.{run_none}
use Rattle.pfr.proofs.words.read_run.Goals as goal

pub returns-in-None : goal.returns-in-None
returns-in-None c =
    let texts : List (List ℕ) = map (λ word. string_bytes word) c.args.words.now in
    let len : length texts ≡ length c.args.words.now = simp length-map in
    let few : ¬ ((5 ≤ length texts) × (length texts ≤ 6)) = λ (low, high). let bad : false ≡ true = rw c.in-None.is at (c.in_ok-args.ensures.count.1 (omega arith, omega arith)) in cc in
    ap (λ r. option_map (λ request. Run request) r) (sym (run_none texts few))
