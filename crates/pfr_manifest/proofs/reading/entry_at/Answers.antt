use Rattle.std.proofs.Common.{◌≡◌, ◌∙◌, sym, ap, List, ℕ, take, length, replicate, length-take, arith}
use Rattle.pfr_flash.specs.Bytes.{bytes_at}
use Rattle.pfr_flash.specs.FlashState.{now}
use Rattle.pfr_manifest.specs.Judge.{judge_entry}
use Rattle.pfr_manifest.proofs.AnswerLemmas.{answers_found, take-bytes_at}
use Rattle.pfr_manifest.proofs.reading.entry_at.Goals as goal

pub returns-clause-exact : goal.returns-clause-exact
returns-clause-exact g c =
    let image : List ℕ = now (g.F.Flash.device c.args.flash.now) in
    let long : length {A = ℕ} (take c.min-count.result (replicate 64 0)) ≡ c.min-count.result = omega (arith, length-take {A = ℕ}) in
    let read : c.read.new.into ≡ bytes_at image c.args.place c.min-count.result = c.in_ok-read.ensures.bytes ∙ ap (bytes_at image c.args.place) long in
    let piece : c.read.new.into ≡ take 64 (bytes_at image c.args.place c.args.left) =
    read ∙ ap (bytes_at image c.args.place) c.min-count.ensures ∙ sym (take-bytes_at image c.args.place c.args.left 64) in
    answers_found _ _ _ (c.read-2.ensures.exact ∙ ap (λ entry. judge_entry entry c.args.at c.args.manifest.now c.args.layout.now c.args.bank) piece)
