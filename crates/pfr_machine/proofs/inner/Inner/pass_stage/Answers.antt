use Rattle.std.proofs.Common.{◌≡◌, ◌∙◌, ap, sym, subst, arith}
use Rattle.pfr_flash.specs.declared.names.Bank.{Bank}
use Rattle.pfr_flash.specs.declared.names.Bank.TheVariants.{Bmc}
use Rattle.pfr_watch.specs.Stages.{next_stage}
use Rattle.pfr_watch.specs.declared.watch.Watch.{Watch}
use Rattle.pfr_report.specs.declared.note.What.{What}
use Rattle.pfr_story.specs.Standing.{Standing, standing_after}
use Rattle.pfr_story.specs.Turn.{pass_note}
use Rattle.pfr_machine.proofs.StandLemmas.{neither_off, noted_leaves, still_stands}
use Rattle.pfr_machine.proofs.WatchLemmas.{pass_still}
use Rattle.pfr_machine.proofs.WorldLemmas.{noted_ran}
use Rattle.pfr_machine.proofs.inner.Inner.pass_stage.Goals as goal

pub returns-clause-ran : goal.returns-clause-ran
returns-clause-ran g c =
    let is = c.pass_note-what.ensures.is ∙ ap (λ (w : Watch). pass_note c.args.bank w.stage (next_stage w.stage)) c.watch.ensures in
    noted_ran (λ _. _) c.pass_note-what.result c.args.self.now c.note.new.self is c.note.ensures.noted

pub returns-clause-leaves : goal.returns-clause-leaves
returns-clause-leaves g c =
    let still = subst (λ (what : What). (which : Bank) (s : Standing) → standing_after which what s ≡ s) (sym c.pass_note-what.ensures.is) (pass_still c.args.bank c.watch.result.stage (next_stage c.watch.result.stage)) in
    noted_leaves c.pass_note-what.result c.args.self.now c.note.new.self still c.note.ensures.noted (omega (arith, c.requires.room)) c.requires.whole

pub returns-clause-some : goal.returns-clause-some
returns-clause-some g c =
    let still = subst (λ (what : What). (which : Bank) (s : Standing) → standing_after which what s ≡ s) (sym c.pass_note-what.ensures.is) (pass_still c.args.bank c.watch.result.stage (next_stage c.watch.result.stage)) in
    λ off. neither_off c.args.bank c.args.self.now c.requires.whole c.requires.runs Bmc (sym (still_stands c.pass_note-what.result c.args.self.now c.note.new.self still c.note.ensures.noted Bmc) ∙ off)
