use Rattle.std.proofs.Common.{◌≡◌, ◌∙◌, sym, ap, List, ℕ, take, arith}
use Rattle.std.proofs.lemmas.List.{take-take}
use Rattle.std.proofs.lemmas.Grind.{common_steps}
use Rattle.pfr_flash.specs.Bytes.{bytes_at}
use Rattle.pfr_flash.specs.FlashState.{now}
use Rattle.pfr_manifest.specs.Judge.{judge_header}
use Rattle.pfr_manifest.proofs.AnswerLemmas.{answers_found}
use Rattle.pfr_manifest.proofs.reading.header_at.Goals as goal

pub returns-clause-exact : goal.returns-clause-exact
returns-clause-exact g c =
    let image : List ℕ = now (g.F.Flash.device c.args.flash.now) in
    let read : c.read.new.into ≡ bytes_at image c.args.place 32 = grind (arith, common_steps) in
    let header : c.read.new.into ≡ take 32 (bytes_at image c.args.place c.args.size) =
    read ∙ sym (take-take 32 c.args.size _ (omega arith)) in
    answers_found _ _ _ (c.read_header.ensures.exact ∙ ap (λ header. judge_header header c.args.size) header)
