-- What a migration and a provision leave, by whole images.
use Rattle.std.specs.Prelude.{◌≡◌, ℕ, length, Ok}
use Rattle.pfr_flash.specs.Bytes.{AreBytes}
use Rattle.pfr_flash.specs.declared.names.Bank.{Bank}
use Rattle.pfr_fuses.specs.FusesState.{FusesState}
use Rattle.pfr_fuses.specs.FusesOf.{fuses_of}
use Rattle.pfr_fuses.specs.Provisioning.{judge_provision}
use Rattle.pfr_fuses.specs.RootSlot.{IsSlot, provision_in}
use Rattle.pfr_fuses.specs.Slots.{IsProvisionedBy, slot_at}
use Rattle.pfr_fuses.specs.declared.profile.Profile.TheVariants.{Two}
use Rattle.pfr_fuses.specs.declared.root_slot.RootSlot.{RootSlot}
use Rattle.pfr_story.specs.Story.{Story, after}
use Rattle.pfr_story.specs.Plans.{mine, store, migrated, provisioned}

-- the store says these fuses, of profile 2, and the banks are as before
pub record IsMigrated (fuses : FusesState) (old new : Story) : Type 0 where
  pub says : fuses_of (store new) ≡ Ok (record fuses { profile = Two })
  pub banks : (which : Bank) → mine which new ≡ mine which old

-- So a migration leaves a store that is provisioned.
abbrev pub MigratesWhole : Type 0
MigratesWhole = (fuses : FusesState) (story : Story) → fuses_of (store story) ≡ Ok fuses → length (store story) ≡ 32768 → AreBytes (store story)
    → IsMigrated fuses story (after (migrated story) story)

-- the store is provisioned so, by this slot, and the banks are as before
pub record IsNowProvisioned (number : ℕ) (what : RootSlot) (old new : Story) : Type 0 where
  pub by : IsProvisionedBy (store new) number
  pub provision : provision_in (slot_at (store new) number) ≡ what
  pub banks : (which : Bank) → mine which new ≡ mine which old

-- So a provision leaves a store where a slot was found for it.
abbrev pub ProvisionsWhole : Type 0
ProvisionsWhole = (number : ℕ) (what : RootSlot) (story : Story) → length (store story) ≡ 32768 → IsSlot what
    → judge_provision (store story) what (length story.bmc.start) (length story.pch.start) ≡ Ok number
    → IsNowProvisioned number what story (after (provisioned what story) story)
