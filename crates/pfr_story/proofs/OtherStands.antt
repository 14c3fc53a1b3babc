-- What work on a bank does to the store leaves the capsule in the other bank's recovery area: good, and the same one.
use Rattle.std.proofs.Common.{◌≡◌, ◌≢◌, ◌∙◌, refl, sym, ap, subst, ℕ, ◌≤◌, List, length, false}
use Rattle.pfr_flash.specs.FuseRow.{is_cleared}
use Rattle.pfr_flash.specs.Names.{capsule_type, manifest_type}
use Rattle.pfr_flash.specs.Operation.{Operation, applied}
use Rattle.pfr_flash.specs.declared.names.Bank.{Bank}
use Rattle.pfr_flash.specs.declared.names.Bank.TheVariants as bank
use Rattle.pfr_flash.proofs.PlayLemmas.{length-applied}
use Rattle.pfr_engine.specs.Acceptance.{Acceptance}
use Rattle.pfr_fuses.specs.Changes.{with_floor}
use Rattle.pfr_fuses.specs.FuseMap.{floor_at, profile_of}
use Rattle.pfr_fuses.specs.FusesOf.{fuses_of, floor_fuses}
use Rattle.pfr_fuses.specs.FusesState.{FusesState, floor_of, row_of}
use Rattle.pfr_fuses.specs.RootSlot.{layout_of}
use Rattle.pfr_fuses.specs.declared.profile.Profile.TheVariants.{Two}
use Rattle.pfr_fuses.specs.declared.root_slot.RootSlot.{RootSlot}
use Rattle.pfr_fuses.proofs.ExactLemmas.{ChangedAt, fuses_of-but_floor}
use Rattle.pfr_capsule.specs.CapsuleState.{CapsuleState}
use Rattle.pfr_capsule.specs.Good.{IsGood}
use Rattle.pfr_capsule.proofs.ServesLaw.{StillServes, good_serves, serves_same}
use Rattle.pfr_recoverable.specs.Recoverable.{HasGoodRecovery}
use Rattle.pfr_recoverable.proofs.CutLaw.{logs_same, good_with}
use Rattle.pfr_recoverable.proofs.RaiseLaw.{chain_free}
use Rattle.pfr_recoverable.proofs.StaysLaw.{fuses_one}
use Rattle.pfr_story.proofs.JobGrowth.{within_outside}
use Rattle.pfr_story.proofs.JobLeaves.{log_same, raise_same}
use Rattle.pfr_story.proofs.JobRules.{IsInLog, IsRaise}
use Rattle.pfr_story.proofs.JobSafety.{own_logs}
use Rattle.pfr_story.proofs.StoreLeft.{IsLeft}

-- ---- the fuses of a bank, where the other's floor is another
floor_stays : (fuses : FusesState) (b c : Bank) (row : List ℕ) → b ≢ c → floor_of (with_floor fuses c row) b ≡ floor_of fuses b
floor_stays fuses bank.Bmc bank.Bmc row other = absurd (other refl)
floor_stays fuses bank.Bmc bank.Pch row other = refl
floor_stays fuses bank.Pch bank.Bmc row other = refl
floor_stays fuses bank.Pch bank.Pch row other = absurd (other refl)

rows_stay : (fuses : FusesState) (b c : Bank) (row : List ℕ) → (row_of (with_floor fuses c row) (capsule_type b) ≡ row_of fuses (capsule_type b)) × (row_of (with_floor fuses c row) (manifest_type b) ≡ row_of fuses (manifest_type b))
rows_stay fuses bank.Bmc bank.Bmc row = (refl, refl)
rows_stay fuses bank.Bmc bank.Pch row = (refl, refl)
rows_stay fuses bank.Pch bank.Bmc row = (refl, refl)
rows_stay fuses bank.Pch bank.Pch row = (refl, refl)

provision_stays : (fuses : FusesState) (c : Bank) (row : List ℕ) → (with_floor fuses c row).provision ≡ fuses.provision
provision_stays fuses bank.Bmc row = refl
provision_stays fuses bank.Pch row = refl

-- ---- what is known of the store
-- by a store of profile 2 a capsule stands good in the recovery area, with the digest and the manifest of this one
pub record IsThereBy (accepts : Acceptance) (b : Bank) (image : List ℕ) (capsule : CapsuleState) (nv : List ℕ) : Type 0 where
  pub two : profile_of nv ≡ Two
  pub area : HasGoodRecovery b image nv accepts
  pub digest : area.good.capsule.digest ≡ capsule.digest
  pub manifest : area.good.capsule.manifest ≡ capsule.manifest

module _ (accepts : Acceptance) (b c : Bank) (apart : b ≢ c) (image : List ℕ) (capsule : CapsuleState) where
  abbrev IsThere : List ℕ → Type 0
  IsThere nv = IsThereBy accepts b image capsule nv

  logged : (nv : List ℕ) (op : Operation) → length nv ≡ 32768 → IsInLog c op → IsThere nv → IsThere (applied nv op)
  logged nv op size own p =
      let is : fuses_of (applied nv op) ≡ fuses_of nv = logs_same nv op size (own_logs c op own) in
      let layout = layout_of p.area.fuses.provision b in
      let kept = good_with image nv (applied nv op) layout.recovery_at layout.area_len b accepts p.area.good is in
      record {
        two = (log_same c nv op own size).profile ∙ p.two;
        area = record { fuses = p.area.fuses; provisioned = is ∙ p.area.provisioned; good = kept.0 };
        digest = ap (λ (x : CapsuleState). x.digest) kept.1 ∙ p.digest;
        manifest = ap (λ (x : CapsuleState). x.manifest) kept.1 ∙ p.manifest;
      }

  module _ (nv : List ℕ) (op : Operation) (size : length nv ≡ 32768) (raise : IsRaise c nv op) (p : IsThereBy accepts b image capsule nv) where
    abbrev later : List ℕ
    later = applied nv op

    abbrev place : ℕ
    place = (layout_of p.area.fuses.provision b).recovery_at

    abbrev len : ℕ
    len = (layout_of p.area.fuses.provision b).area_len

    abbrev g : IsGood image (layout_of p.area.fuses.provision b).recovery_at (layout_of p.area.fuses.provision b).area_len nv b accepts
    g = p.area.good

    changed : ChangedAt (floor_at Two c) 16 nv (applied nv op)
    changed = record { size = size; same_size = length-applied nv op; two = p.two; outside = within_outside (floor_at Two c) 16 nv op raise.within; store = raise_same c nv op raise size }

    serves : StillServes g.fuses g.parts.manifest.svn g.capsule.capsule_key g.capsule.manifest_key b (applied nv op)
    serves =
        let row : List ℕ = floor_fuses later c in
        let rows = rows_stay g.fuses b c row in
        record {
          all = with_floor g.fuses c row;
          provisioned = fuses_of-but_floor c nv later g.fuses changed g.provisioned;
          provision = provision_stays g.fuses c row;
          floor = subst (λ (n : ℕ). n ≤ g.parts.manifest.svn) (sym (floor_stays g.fuses b c row apart)) g.signed.svn;
          capsule_row = subst (λ (keys : List ℕ). is_cleared keys g.capsule.capsule_key ≡ false) (sym rows.0)
              (chain_free image place len (capsule_type b) g.fuses.provision.root (row_of g.fuses (capsule_type b)) accepts g.parts.capsule g.capsule.capsule_key g.capsule_key g.signed.capsule);
          manifest_row = subst (λ (keys : List ℕ). is_cleared keys g.capsule.manifest_key ≡ false) (sym rows.1)
              (chain_free image g.parts.capsule.content_at _ (manifest_type b) g.fuses.provision.root (row_of g.fuses (manifest_type b)) accepts g.parts.inner g.capsule.manifest_key g.manifest_key g.signed.inner);
        }

    abbrev again : IsGood image (layout_of p.area.fuses.provision b).recovery_at (layout_of p.area.fuses.provision b).area_len (applied nv op) b accepts
    again = good_serves image nv later place len b accepts g serves

    same : (again.capsule ≡ g.capsule) × (again.fuses.provision ≡ g.fuses.provision)
    same = serves_same image nv later place len b accepts g serves

    floor_raised : IsThereBy accepts b image capsule (applied nv op)
    floor_raised =
        let is : p.area.fuses.provision ≡ again.fuses.provision = ap (λ (f : FusesState). f.provision) (fuses_one nv p.area.fuses g.fuses p.area.provisioned g.provisioned) ∙ sym same.1 in
        let there : (h : IsGood image (layout_of again.fuses.provision b).recovery_at (layout_of again.fuses.provision b).area_len later b accepts) × (h.capsule ≡ g.capsule) =
        subst (λ (root : RootSlot). (h : IsGood image (layout_of root b).recovery_at (layout_of root b).area_len later b accepts) × (h.capsule ≡ g.capsule)) is (again, same.0) in
        record {
          two = (raise_same c nv op raise size).profile ∙ p.two;
          area = record { fuses = again.fuses; provisioned = again.provisioned; good = there.0 };
          digest = ap (λ (x : CapsuleState). x.digest) there.1 ∙ p.digest;
          manifest = ap (λ (x : CapsuleState). x.manifest) there.1 ∙ p.manifest;
        }

  -- Neither the log of the other bank nor the raise of its floor changes that.
  pub there_left : IsLeft (IsThereBy accepts b image capsule) c
  there_left = record { logs = λ nv op size own p. logged nv op size own p; raises = λ nv op size raise p. floor_raised nv op size raise p }
