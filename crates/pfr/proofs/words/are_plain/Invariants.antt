use Rattle.std.proofs.Common.{◌≡◌, drop, map, string_bytes}
use Rattle.std.specs.List.{list_all}
use Rattle.pfr_args.specs.Plain.{is_plain}
use Rattle.pfr.proofs.words.are_plain.Given as goal

abbrev pub invariant-loop-word : goal.invariant-loop-word
invariant-loop-word l = list_all is_plain (map (λ word. string_bytes word) l.words) ≡ list_all is_plain (map (λ word. string_bytes word) (drop l.word-index l.words))
