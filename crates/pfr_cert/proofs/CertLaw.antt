-- A certificate is judged well exactly where it is one for the bank, and as this one.
use Rattle.std.proofs.Common.{◌≡◌, ◌∙◌, ap, refl, subst, ℕ, ◌+◌, true, nat_le, List, replicate, inl, inr, Some, Result, Ok, arith}
use Rattle.std.proofs.lemmas.Slice.Eq.{bytes_eq-Decides}
use Rattle.std.specs.Str.{bytes_eq}
use Rattle.pfr_flash.specs.Bytes.{bytes_at}
use Rattle.pfr_flash.specs.Judging.{told_as}
use Rattle.pfr_flash.specs.Numbers.{number_at}
use Rattle.pfr_flash.specs.Names.{manifest_type, capsule_type}
use Rattle.pfr_flash.specs.declared.layout.Layout.{Layout}
use Rattle.pfr_flash.specs.declared.names.Bank.{Bank}
use Rattle.pfr_flash.specs.declared.names.Bank.TheVariants.{Bmc, Pch}
use Rattle.pfr_flash.specs.declared.names.ContentType.{ContentType}
use Rattle.pfr_flash.specs.declared.names.ContentType.TheVariants.{PchManifest, PchCapsule, BmcManifest, BmcCapsule, Controller, PchManifestCancel, PchCapsuleCancel, BmcManifestCancel, BmcCapsuleCancel}
use Rattle.pfr_flash.proofs.JudgingLemmas.{passed, passed_part, passed_test, goes_on, told_ok, Decides-le}
use Rattle.pfr_engine.specs.Acceptance.{Acceptance}
use Rattle.pfr_chain.specs.Chain.{IsChain}
use Rattle.pfr_chain.specs.Judge.{judge}
use Rattle.pfr_chain.specs.Types.{type_of}
use Rattle.pfr_chain.specs.declared.judging.Chain.{Chain}
use Rattle.pfr_chain.proofs.ChainLaw.{judge_holds as chain_holds, judge_ends as chain_ends}
use Rattle.pfr_chain.proofs.TypeLaw.{BlockAt-type}
use Rattle.pfr_fuses.specs.FusesState.{FusesState}
use Rattle.pfr_fuses.specs.RootSlot.{layout_of}
use Rattle.pfr_cert.specs.Certificate.{cancelling, no_cancellations, IsBody, IsCertificate, IsOf}
use Rattle.pfr_cert.specs.Judge.{is_of, judge_body, judge_cert, judge_signed, wanted}
use Rattle.pfr_cert.specs.declared.cert.Cert.{Cert}
use Rattle.pfr_cert.specs.declared.fail.CertFail.{CertFail}
use Rattle.pfr_cert.specs.declared.fail.CertFail.TheVariants.{Chain as OfChain, Body, KeyId, OtherBank}
use Rattle.pfr_cert.specs.declared.reading.Signed.{Signed}

-- ---- what is signed
signed_holds : (image : List ℕ) (place len : ℕ) (bank : Bank) (root : List ℕ) (accepts : Acceptance) (signed : Signed) → judge_signed image place len bank root accepts ≡ Ok signed
    → (chain : Chain) × IsChain image place len (cancelling signed.ty) root no_cancellations accepts chain × (signed.body ≡ bytes_at image chain.content_at 128)
unfolding judge_signed
signed_holds image place len bank root accepts signed h =
    let type : ContentType = wanted bank (type_of (number_at image (place + 8))) in
    let a = passed_part (judge image place len (cancelling type) root no_cancellations accepts) _ signed h in
    let made : Signed = record { ty = type; body = bytes_at image a.0.content_at 128 } in
    let is : made ≡ signed = cc in
    let P : Signed → Type 0 = λ s. (chain : Chain) × IsChain image place len (cancelling s.ty) root no_cancellations accepts chain × (s.body ≡ bytes_at image chain.content_at 128) in
    subst P is (a.0, chain_holds image place len (cancelling type) root no_cancellations accepts a.0 a.1, refl)

-- the type of a bank's certificate is the one that is looked for
wanted_manifest : (bank : Bank) → wanted bank (Some (cancelling (manifest_type bank))) ≡ manifest_type bank
wanted_manifest Bmc = refl
wanted_manifest Pch = refl

wanted_capsule : (bank : Bank) → wanted bank (Some (cancelling (capsule_type bank))) ≡ capsule_type bank
wanted_capsule Bmc = refl
wanted_capsule Pch = refl

wanted_own : (bank : Bank) (type : ContentType) → IsOf bank type → wanted bank (Some (cancelling type)) ≡ type
wanted_own bank type (inl is) = rw is (wanted_manifest bank)
wanted_own bank type (inr is) = rw is (wanted_capsule bank)

signed_ends : (image : List ℕ) (place len : ℕ) (bank : Bank) (root : List ℕ) (accepts : Acceptance) (type : ContentType) (chain : Chain)
    → IsOf bank type → IsChain image place len (cancelling type) root no_cancellations accepts chain
    → judge_signed image place len bank root accepts ≡ Ok (record { ty = type; body = bytes_at image chain.content_at 128 })
unfolding judge_signed
signed_ends image place len bank root accepts type chain own h =
    let is : wanted bank (type_of (number_at image (place + 8))) ≡ type = ap (wanted bank) (BlockAt-type image place len (cancelling type) h.blen h.block) ∙ wanted_own bank type own in
    rw (is, chain_ends image place len (cancelling type) root no_cancellations accepts chain h) refl

-- ---- the 128 bytes
said : {E : Type 0} (r : Result ℕ E) (x y : ℕ) → r ≡ Ok x → r ≡ Ok y → x ≡ y
said r x y p q = cc

body_holds : (body : List ℕ) (id : ℕ) → judge_body body ≡ Ok id → IsBody body id
unfolding judge_body
body_holds body id h =
    let a = passed Body (bytes_eq (bytes_at body 4 124) (replicate 124 0)) _ id (bytes_eq-Decides _ _) h in
    let b = passed KeyId (nat_le (number_at body 0) 255) _ id (Decides-le _ _) a.1 in
    let is : number_at body 0 ≡ id = said {E = CertFail} (Ok (number_at body 0)) (number_at body 0) id refl b.1 in
    record { named = is; byte = omega (arith, is, b.0); zeros = a.0 }

body_ends : (body : List ℕ) (id : ℕ) → IsBody body id → judge_body body ≡ Ok id
unfolding judge_body
body_ends body id h =
    rw (
      goes_on Body (bytes_eq (bytes_at body 4 124) (replicate 124 0)) _ (bytes_eq-Decides _ _) h.zeros,
      goes_on KeyId (nat_le (number_at body 0) 255) _ (Decides-le _ _) (omega (arith, h.named, h.byte)),
      h.named,
    ) refl

-- ---- the bank
of_holds : (bank : Bank) (type : ContentType) → is_of bank type ≡ true → IsOf bank type
of_holds Bmc BmcManifest h = inl refl
of_holds Bmc BmcCapsule h = inr refl
of_holds Bmc PchManifest h = cc
of_holds Bmc PchCapsule h = cc
of_holds Bmc Controller h = cc
of_holds Bmc PchManifestCancel h = cc
of_holds Bmc PchCapsuleCancel h = cc
of_holds Bmc BmcManifestCancel h = cc
of_holds Bmc BmcCapsuleCancel h = cc
of_holds Pch PchManifest h = inl refl
of_holds Pch PchCapsule h = inr refl
of_holds Pch BmcManifest h = cc
of_holds Pch BmcCapsule h = cc
of_holds Pch Controller h = cc
of_holds Pch PchManifestCancel h = cc
of_holds Pch PchCapsuleCancel h = cc
of_holds Pch BmcManifestCancel h = cc
of_holds Pch BmcCapsuleCancel h = cc

own_manifest : (bank : Bank) → is_of bank (manifest_type bank) ≡ true
own_manifest Bmc = refl
own_manifest Pch = refl

own_capsule : (bank : Bank) → is_of bank (capsule_type bank) ≡ true
own_capsule Bmc = refl
own_capsule Pch = refl

of_ends : (bank : Bank) (type : ContentType) → IsOf bank type → is_of bank type ≡ true
of_ends bank type (inl is) = rw is (own_manifest bank)
of_ends bank type (inr is) = rw is (own_capsule bank)

-- ---- What is judged well is a certificate.
pub cert_holds : (bank : Bank) (image : List ℕ) (fuses : FusesState) (accepts : Acceptance) (cert : Cert) → judge_cert bank image fuses accepts ≡ Ok cert
    → IsCertificate image (layout_of fuses.provision bank).staging_at (layout_of fuses.provision bank).area_len bank fuses.provision.root accepts cert
unfolding judge_cert
cert_holds bank image fuses accepts cert h =
    let layout : Layout = layout_of fuses.provision bank in
    let judged = judge_signed image layout.staging_at layout.area_len bank fuses.provision.root accepts in
    let a = passed_part (told_as OfChain judged) _ cert h in
    let s = signed_holds image layout.staging_at layout.area_len bank fuses.provision.root accepts a.0 (told_ok OfChain judged a.0 a.1) in
    let b = passed_part (judge_body a.0.body) _ cert a.2 in
    let o = passed_test OtherBank (is_of bank a.0.ty) _ cert b.2 in
    let made : Cert = record { ty = a.0.ty; id = b.0 } in
    let is : made ≡ cert = cc in
    let P : Cert → Type 0 = λ c. IsCertificate image layout.staging_at layout.area_len bank fuses.provision.root accepts c in
    let body : IsBody (bytes_at image s.0.content_at 128) b.0 = subst (λ (bytes : List ℕ). IsBody bytes b.0) s.2 (body_holds a.0.body b.0 b.1) in
    subst P is (record { chain = s.0; signed = s.1; body = body; own = of_holds bank a.0.ty o.0 })

-- ---- A certificate is judged well.
pub cert_ends : (bank : Bank) (image : List ℕ) (fuses : FusesState) (accepts : Acceptance) (cert : Cert)
    → IsCertificate image (layout_of fuses.provision bank).staging_at (layout_of fuses.provision bank).area_len bank fuses.provision.root accepts cert
    → judge_cert bank image fuses accepts ≡ Ok cert
unfolding judge_cert
cert_ends bank image fuses accepts cert c =
    let layout : Layout = layout_of fuses.provision bank in
    rw (
      signed_ends image layout.staging_at layout.area_len bank fuses.provision.root accepts cert.ty c.chain c.own c.signed,
      body_ends (bytes_at image c.chain.content_at 128) cert.id c.body,
      of_ends bank cert.ty c.own,
    ) refl
