-- What a store provisions banks with, and what keeps it.
use Rattle.std.proofs.Common.{◌≡◌, ◌∙◌, sym, ap, subst, ℕ, List, [], Some, None, Result, Ok, Err, OnOk, OnErr}
use Rattle.pfr_flash.specs.FlashState.{FlashState, now}
use Rattle.pfr_flash.specs.Operation.{Operation}
use Rattle.pfr_flash.specs.Plan.{Follows}
use Rattle.pfr_flash.specs.declared.flash.FlashFail.{FlashFail}
use Rattle.pfr_flash.specs.declared.layout.Layout.{Layout}
use Rattle.pfr_flash.specs.declared.names.Bank.{Bank}
use Rattle.pfr_flash.proofs.CutLemmas.{part_end}
use Rattle.pfr_flash.proofs.FollowsLemmas.{DoesPart-now}
use Rattle.pfr_fuses.specs.FusesState.{FusesState}
use Rattle.pfr_fuses.specs.FusesOf.{fuses_of}
use Rattle.pfr_fuses.specs.Provisioning.{judge_provision}
use Rattle.pfr_fuses.specs.RootSlot.{layout_of}
use Rattle.pfr_fuses.specs.declared.fuse_fail.FuseFail.{FuseFail}
use Rattle.pfr_fuses.specs.declared.profile.Profile.{Profile}
use Rattle.pfr_fuses.specs.declared.profile.Profile.TheVariants.{Two}
use Rattle.pfr_fuses.specs.declared.root_slot.RootSlot.{RootSlot}
use Rattle.pfr_manifest.specs.declared.manifest.Manifest.{Manifest}
use Rattle.pfr_story.specs.Plans.{Ruling}
use Rattle.pfr_story.proofs.FuseLaws.{provisioned_refused}
use Rattle.pfr_machine.specs.Inside.{IsLaid, KeepsLaid}
use Rattle.pfr_machine.specs.Provisions.{provision_ops}

-- a bank that doesn't run was judged by nothing
pub none_laid : (which : Bank) (nv : List ℕ) (r : Ruling) → None ≡ Some r → IsLaid which r.layout nv
none_laid which nv r e = absurd cc

-- and one that runs by this
pub ruled_laid : (which : Bank) (manifest : Manifest) (layout : Layout) (nv : List ℕ) → IsLaid which layout nv
    → (r : Ruling) → Some (record { manifest = manifest; layout = layout }) ≡ Some r → IsLaid which r.layout nv
ruled_laid which manifest layout nv h r e =
    let same : record { manifest = manifest; layout = layout } ≡ r = cc in subst (λ (x : Ruling). IsLaid which x.layout nv) same h

-- the fuses of a store are one
pub fuses_laid : (which : Bank) (layout : Layout) (nv : List ℕ) (fuses : FusesState) → fuses_of nv ≡ Ok fuses → IsLaid which layout nv → layout_of fuses.provision which ≡ layout
fuses_laid which layout nv fuses f h =
    let one : fuses ≡ h.fuses = (let a = h.provisioned in cc) in ap (λ (x : FusesState). layout_of x.provision which) one ∙ h.same

-- ---- what keeps it
pub KeepsLaid-same : (old new : List ℕ) → new ≡ old → KeepsLaid old new
KeepsLaid-same old new e which layout h = subst (λ (nv : List ℕ). IsLaid which layout nv) (sym e) h

-- a migration, whatever was done of it
provision_after : {T U : Type 0} (r : Result T U) (fuses after : FusesState) → OnOk r (after ≡ record fuses { profile = Two }) → OnErr r (after ≡ fuses) → after.provision ≡ fuses.provision
provision_after (Ok x) fuses after kept left = ap (λ (f : FusesState). f.provision) kept
provision_after (Err e) fuses after kept left = ap (λ (f : FusesState). f.provision) left

pub migrated_laid : {T U : Type 0} (r : Result T U) (old new : List ℕ) (fuses after : FusesState) (profile : Profile) → fuses_of old ≡ Ok fuses
    → OnOk r (after ≡ record fuses { profile = Two }) → OnErr r (after ≡ fuses) → fuses_of new ≡ Ok (record after { profile = profile }) → KeepsLaid old new
migrated_laid r old new fuses after profile was kept left is which layout h = record {
  fuses = record after { profile = profile };
  provisioned = is;
  same = ap (λ (root : RootSlot). layout_of root which) (provision_after r fuses after kept left) ∙ fuses_laid which layout old fuses was h;
}

-- a provision, since a store that is provisioned refuses one
pub provision_laid : {A : Type 0} (what : RootSlot) (bmc_size pch_size : ℕ) (old new : FlashState) (r : Result A FlashFail) → Follows (provision_ops what (judge_provision (now old) what bmc_size pch_size)) old new r
    → KeepsLaid (now old) (now new)
provision_laid what bmc_size pch_size old new r f which layout h =
    let none : provision_ops what (judge_provision (now old) what bmc_size pch_size) ≡ [] =
    ap (λ (j : Result ℕ FuseFail). provision_ops what j) (provisioned_refused (now old) what bmc_size pch_size h.fuses h.provisioned) in
    let nothing : Follows [] old new r = subst (λ (ops : List Operation). Follows ops old new r) none f in
    subst (λ (nv : List ℕ). IsLaid which layout nv) (sym (DoesPart-now [] old new nothing.worked.moved.start nothing.part))
    (part_end (λ (nv : List ℕ). IsLaid which layout nv) (now old) nothing.part.added nothing.part.part h)
