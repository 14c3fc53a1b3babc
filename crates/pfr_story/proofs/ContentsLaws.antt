-- What a migration and a provision leave, by whole images.
use Rattle.std.proofs.Common.{◌≡◌, ◌∙◌, refl, sym, ap, subst, ℕ, List, [], ◌∷◌, length, Result, Ok}
use Rattle.pfr_flash.specs.Bytes.{AreBytes}
use Rattle.pfr_flash.specs.Operation.{Operation, play}
use Rattle.pfr_flash.specs.declared.names.Bank.{Bank}
use Rattle.pfr_flash.specs.declared.names.Device.TheVariants as device
use Rattle.pfr_flash.proofs.PlanLemmas.{IsPart-whole}
use Rattle.pfr_fuses.specs.Changes.{migration}
use Rattle.pfr_fuses.specs.FusesState.{FusesState}
use Rattle.pfr_fuses.specs.FusesOf.{fuses_of}
use Rattle.pfr_fuses.specs.Provisioning.{judge_provision, provision_plan}
use Rattle.pfr_fuses.specs.RootSlot.{provision_in}
use Rattle.pfr_fuses.specs.Slots.{IsProvisionedBy, slot_at}
use Rattle.pfr_fuses.specs.declared.fuse_fail.FuseFail.{FuseFail}
use Rattle.pfr_fuses.specs.declared.profile.Profile.{Profile}
use Rattle.pfr_fuses.specs.declared.profile.Profile.TheVariants.{One, Two}
use Rattle.pfr_fuses.specs.declared.root_slot.RootSlot.{RootSlot}
use Rattle.pfr_report.specs.declared.note.What.TheVariants.{Provisioned}
use Rattle.pfr_story.specs.Story.{Story, Says, after, noted, operated, device_of, called}
use Rattle.pfr_story.specs.Plans.{mine, store, migration_by, migration_in, provisioned, provisioned_in}
use Rattle.pfr_story.specs.Contents.{MigratesWhole, ProvisionsWhole}
use Rattle.pfr_story.proofs.Sequence.{after-append}
use Rattle.pfr_story.proofs.SafetyLaws.{image_noted, image_called, mine_operated}
use Rattle.pfr_story.proofs.FuseLaws.{profile_migrated}
use Rattle.pfr_story.proofs.KeepLaws.{SaysFuses, migration_says}
use Rattle.pfr_story.proofs.ProvisionLaws.{provisioned_so}

-- ---- calls of the store
bank_called : (b : Bank) (ops : List Operation) (story : Story) → mine b (after (called device.Nv ops) story) ≡ mine b story
bank_called b [] story = refl
bank_called b (op ∷ ops) story = bank_called b ops (operated device.Nv op story) ∙ mine_operated b op story

-- ---- a migration
by_profile : (nv : List ℕ) (fuses : FusesState) (p : Profile) → fuses_of nv ≡ Ok fuses → length nv ≡ 32768 → AreBytes nv → fuses.profile ≡ p
    → fuses_of (play nv (migration_by p fuses)) ≡ Ok (record fuses { profile = Two })
by_profile nv fuses One f size bytes e =
    let says : SaysFuses fuses (play nv (migration fuses)) = migration_says nv fuses (migration fuses) size bytes f e (IsPart-whole nv (migration fuses)) in
    says ∙ ap (λ (p : Profile). Ok (record fuses { profile = p })) (profile_migrated nv fuses size)
by_profile nv fuses Two f size bytes e = f ∙ ap (λ (p : Profile). Ok (record fuses { profile = p })) e

pub migrates : MigratesWhole
migrates fuses story f size bytes = record {
  says =
      ap (λ (nv : List ℕ). fuses_of nv) (image_called device.Nv (migration_in (fuses_of (store story))) story)
      ∙ ap (λ (read : Result FusesState FuseFail). fuses_of (play (store story) (migration_in read))) f
      ∙ by_profile (store story) fuses fuses.profile f size bytes refl;
  banks = λ b. bank_called b (migration_in (fuses_of (store story))) story;
}

-- ---- a provision
left_by : (number : ℕ) (what : RootSlot) (story : Story) → judge_provision (store story) what (length story.bmc.start) (length story.pch.start) ≡ Ok number
    → after (provisioned what story) story ≡ noted (λ _. Provisioned) (after (called device.Nv (provision_plan number what)) story)
left_by number what story j =
    ap (λ (r : Result ℕ FuseFail). after (provisioned_in what r story) story) j ∙ after-append (called device.Nv (provision_plan number what)) (Says (λ _. Provisioned) ∷ []) story

pub provisions : ProvisionsWhole
provisions number what story size slot j =
    let plan : List Operation = provision_plan number what in
    let there : Story = after (called device.Nv plan) story in
    let left = left_by number what story j in
    let image : store (after (provisioned what story) story) ≡ play (store story) plan = ap (λ (s : Story). store s) left ∙ image_called device.Nv plan story in
    let so = provisioned_so (store story) what (length story.bmc.start) (length story.pch.start) number size slot j in
    record {
      by = subst (λ (nv : List ℕ). IsProvisionedBy nv number) (sym image) so.0;
      provision = ap (λ (nv : List ℕ). provision_in (slot_at nv number)) image ∙ so.1;
      banks = λ b. ap (λ (s : Story). mine b s) left ∙ image_noted (device_of b) (λ _. Provisioned) there ∙ bank_called b plan story;
    }
