-- A key that is cancelled while a good capsule stands in the recovery area has signed neither that capsule nor its manifest.
use Rattle.std.proofs.Common.{◌≡◌, ◌≢◌, subst, refl, ℕ, ◌==◌, Bool, true, false, not, Some, Ok}
use Rattle.std.proofs.lemmas.Bool.Decides.{Decides-eqb}
use Rattle.pfr_flash.specs.Names.{capsule_type, manifest_type}
use Rattle.pfr_flash.specs.declared.names.Bank.{Bank}
use Rattle.pfr_flash.specs.declared.names.Bank.TheVariants.{Bmc, Pch}
use Rattle.pfr_flash.specs.declared.names.ContentType.{ContentType}
use Rattle.pfr_flash.proofs.JudgingLemmas.{passed_test}
use Rattle.pfr_fuses.specs.FusesState.{FusesState}
use Rattle.pfr_capsule.specs.CapsuleState.{CapsuleState}
use Rattle.pfr_cert.specs.Applying.{has_signed, judge_apply}
use Rattle.pfr_cert.specs.declared.cert.Cert.{Cert}
use Rattle.pfr_cert.specs.declared.fail.CertFail.TheVariants.{KeyInUse}

not_signed : (b : Bool) → not b ≡ true → b ≡ false
not_signed false h = refl
not_signed true h = cc

unused : (fuses : FusesState) (cert : Cert) (capsule : CapsuleState) → judge_apply fuses cert (Some capsule) ≡ Ok tt → has_signed capsule cert.ty cert.id ≡ false
unfolding judge_apply
unused fuses cert capsule h = not_signed (has_signed capsule cert.ty cert.id) (passed_test KeyInUse (not (has_signed capsule cert.ty cert.id)) _ tt h).0

other : (a b : ℕ) → (a == b) ≡ false → a ≢ b
other a b h same = let t = (Decides-eqb a b).1 same in cc

capsule_differs : (bank : Bank) (capsule : CapsuleState) (id : ℕ) → has_signed capsule (capsule_type bank) id ≡ false → capsule.capsule_key ≢ id
capsule_differs Bmc capsule id h = other capsule.capsule_key id h
capsule_differs Pch capsule id h = other capsule.capsule_key id h

manifest_differs : (bank : Bank) (capsule : CapsuleState) (id : ℕ) → has_signed capsule (manifest_type bank) id ≡ false → capsule.manifest_key ≢ id
manifest_differs Bmc capsule id h = other capsule.manifest_key id h
manifest_differs Pch capsule id h = other capsule.manifest_key id h

-- of a certificate against the bank's capsules
pub spares_capsule_key : (fuses : FusesState) (cert : Cert) (capsule : CapsuleState) (bank : Bank) → judge_apply fuses cert (Some capsule) ≡ Ok tt → cert.ty ≡ capsule_type bank → capsule.capsule_key ≢ cert.id
spares_capsule_key fuses cert capsule bank h is =
    capsule_differs bank capsule cert.id (subst (λ (type : ContentType). has_signed capsule type cert.id ≡ false) is (unused fuses cert capsule h))

-- of one against its manifests
pub spares_manifest_key : (fuses : FusesState) (cert : Cert) (capsule : CapsuleState) (bank : Bank) → judge_apply fuses cert (Some capsule) ≡ Ok tt → cert.ty ≡ manifest_type bank → capsule.manifest_key ≢ cert.id
spares_manifest_key fuses cert capsule bank h is =
    manifest_differs bank capsule cert.id (subst (λ (type : ContentType). has_signed capsule type cert.id ≡ false) is (unused fuses cert capsule h))
