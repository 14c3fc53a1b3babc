use Rattle.std.proofs.Common.{◌≡◌, sym, subst, Ok, Err}
use Rattle.pfr_flash.specs.declared.names.Bank.{Bank}
use Rattle.pfr_flash.specs.declared.names.Device.TheVariants.{Nv}
use Rattle.pfr_report.specs.declared.note.What.{What}
use Rattle.pfr_story.specs.Promises.{sizes_judged}
use Rattle.pfr_story.specs.Standing.{Standing, standing_after}
use Rattle.pfr_machine.specs.Provisions.{provision_note, provision_ops}
use Rattle.pfr_machine.proofs.WorldLemmas.{noted_ran}
use Rattle.pfr_machine.proofs.StoreLemmas.{store_goes, store_stays, noted_stays, spare_kept}
use Rattle.pfr_machine.proofs.ProvisionLemmas.{tried, tried_short, note_keeps}
use Rattle.pfr_machine.proofs.inner.Inner.try_provision.Goals as goal

pub returns-in-Ok-clause-goes : goal.returns-in-Ok-clause-goes
returns-in-Ok-clause-goes g c =
    let j = sizes_judged c.args.what.now c.args.self.now in
    tried c.args.what.now _ _ _
    (store_goes _ _ c.provision_store.ensures.same (provision_ops c.args.what.now j) (Ok c.in-Ok.note) c.requires.on c.in-Ok.ensures.follows)
    (noted_ran (λ at. provision_note j) c.in-Ok.note _ _ c.in-Ok.ensures.noted c.note.ensures.noted)

pub returns-in-Ok-clause-stays : goal.returns-in-Ok-clause-stays
returns-in-Ok-clause-stays g c =
    let j = sizes_judged c.args.what.now c.args.self.now in
    noted_stays c.in-Ok.note c.args.self.now c.provision_store.new.self c.note.new.self
    (store_stays c.args.self.now c.provision_store.new.self c.provision_store.ensures.same (provision_ops c.args.what.now j) (Ok c.in-Ok.note) c.requires.on c.in-Ok.ensures.follows)
    (subst (λ (w : What). (which : Bank) (s : Standing) → standing_after which w s ≡ s) (sym c.in-Ok.ensures.noted) (note_keeps j))
    c.note.ensures.noted
    (spare_kept c.args.self.now c.provision_store.new.self c.provision_store.ensures.same c.requires.room)

pub returns-in-Err-clause-goes : goal.returns-in-Err-clause-goes
returns-in-Err-clause-goes g c =
    let j = sizes_judged c.args.what.now c.args.self.now in
    tried_short c.args.what.now Nv c.in-Err.fail _ _
    (store_goes _ _ c.provision_store.ensures.same {A = What} (provision_ops c.args.what.now j) (Err c.in-Err.fail) c.requires.on c.in-Err.ensures.follows)
