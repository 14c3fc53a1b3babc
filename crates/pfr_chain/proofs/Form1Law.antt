-- What the judgements of form 1 tell, and when they end well.
use Rattle.std.proofs.Common.{◌≡◌, ℕ, ◌==◌, ◌&&◌, Bool, true, false, List, Option, Some, None, Ok, refl, subst, arith}
use Rattle.std.proofs.lemmas.Bool.Decides.{nat_tests}
use Rattle.std.proofs.lemmas.Slice.Eq.{bytes_eq-Decides}
use Rattle.pfr_flash.specs.Bytes.{bytes_at}
use Rattle.pfr_flash.specs.declared.names.ContentType.{ContentType}
use Rattle.pfr_engine.specs.Acceptance.{Acceptance}
use Rattle.pfr_engine.specs.Curves.{signature_magic}
use Rattle.pfr_engine.specs.declared.engine.Curve.{Curve}
use Rattle.pfr_flash.specs.Numbers.{number_at}
use Rattle.pfr_chain.specs.Types.{is_certificate}
use Rattle.pfr_chain.specs.Keys.{public_key_at, signature_at, ask_of, MaySign}
use Rattle.pfr_chain.specs.Form1.{IsRoot, IsKey, IsBlock0Entry, IsSignedBy, IsForm1}
use Rattle.pfr_chain.specs.Form1Judge.{judge_use, judge_root, judge_key, judge_block0_entry, judge_signatures, judge_form1}
use Rattle.pfr_flash.specs.Judging.{◌>>=◌, ◌>>◌}
use Rattle.pfr_chain.specs.declared.public_key.PublicKey.{PublicKey}
use Rattle.pfr_chain.specs.declared.signature.Signature.{Signature}
use Rattle.pfr_chain.specs.declared.fail.ChainFail.TheVariants.{KeyEntry, KeySignature}
use Rattle.pfr_flash.proofs.JudgingLemmas.{passed, passed_part, passed_unit, goes_on, Decides-true}

pub use_holds : (key_id permissions : ℕ) (type : ContentType) (row : List ℕ) → judge_use key_id permissions type row ≡ Ok tt → MaySign key_id permissions type row
unfolding judge_use
use_holds key_id permissions type row h = grind (arith, nat_tests)

pub use_ends : (key_id permissions : ℕ) (type : ContentType) (row : List ℕ) → MaySign key_id permissions type row → judge_use key_id permissions type row ≡ Ok tt
unfolding judge_use
use_ends key_id permissions type row m = grind (arith, nat_tests)

root_holds : (block root : List ℕ) (curve : Curve) → judge_root block root ≡ Ok curve → (number_at block 128 ≡ 0xF27F28D7) × IsRoot (public_key_at block 144) curve root
unfolding judge_root
root_holds block root curve h = grind (arith, nat_tests, bytes_eq-Decides)

root_ends : (block root : List ℕ) (curve : Curve) → number_at block 128 ≡ 0xF27F28D7 → IsRoot (public_key_at block 144) curve root → judge_root block root ≡ Ok curve
unfolding judge_root
root_ends block root curve a r = let e = (bytes_eq-Decides _ _).1 r.hash in grind (arith, nat_tests)

-- the three tests of a key entry
key_entry_holds : (magic curve root_curve signature number : ℕ) → (magic == 0x14711C2F && curve == root_curve && signature == number) ≡ true → (magic ≡ 0x14711C2F) × (curve ≡ root_curve) × (signature ≡ number)
key_entry_holds magic curve root_curve signature number h = grind (arith, nat_tests)

key_entry_ends : (magic curve root_curve signature number : ℕ) → magic ≡ 0x14711C2F → curve ≡ root_curve → signature ≡ number → (magic == 0x14711C2F && curve == root_curve && signature == number) ≡ true
key_entry_ends magic curve root_curve signature number a b c = grind (arith, nat_tests)

key_holds : (block : List ℕ) (type : ContentType) (curve : Curve) (row : List ℕ) (accepts : Acceptance) (id : ℕ) → judge_key block type curve row accepts ≡ Ok id → IsKey block curve type row accepts id
unfolding judge_key
key_holds block type curve row accepts id h =
    let root : PublicKey = public_key_at block 144 in
    let key : PublicKey = public_key_at block 276 in
    let signature : Signature = signature_at block 408 in
    let a = passed KeyEntry (key.magic == 0x14711C2F && key.curve == root.curve && signature.magic == signature_magic curve) _ id (Decides-true _) h in
    let b = passed_unit (judge_use key.key_id key.permissions type row) _ id a.1 in
    let c = passed KeySignature (accepts.ask (ask_of curve root (bytes_at block 280 128) signature)) _ id (Decides-true _) b.1 in
    let e = key_entry_holds key.magic key.curve root.curve signature.magic (signature_magic curve) a.0 in
    record { magic = e.0; same_curve = e.1; named = cc; may_sign = use_holds _ _ _ _ b.0; signed = record { magic = e.2; accepted = c.0 } }

key_ends : (block : List ℕ) (type : ContentType) (curve : Curve) (row : List ℕ) (accepts : Acceptance) (id : ℕ) → IsKey block curve type row accepts id → judge_key block type curve row accepts ≡ Ok id
unfolding judge_key
key_ends block type curve row accepts id k =
    let root : PublicKey = public_key_at block 144 in
    let key : PublicKey = public_key_at block 276 in
    let signature : Signature = signature_at block 408 in
    rw (
      goes_on KeyEntry (key.magic == 0x14711C2F && key.curve == root.curve && signature.magic == signature_magic curve) _ (Decides-true _) (key_entry_ends key.magic key.curve root.curve signature.magic (signature_magic curve) k.magic k.same_curve k.signed.magic),
      use_ends key.key_id key.permissions type row k.may_sign,
      goes_on KeySignature (accepts.ask (ask_of curve root (bytes_at block 280 128) signature)) _ (Decides-true _) k.signed.accepted,
      k.named,
    ) refl

entry_holds : (block : List ℕ) (at : ℕ) (curve : Curve) (key : PublicKey) (accepts : Acceptance) → judge_block0_entry block at curve key accepts ≡ Ok tt → IsBlock0Entry block at curve key accepts
unfolding judge_block0_entry
entry_holds block at curve key accepts h = grind (arith, nat_tests)

entry_ends : (block : List ℕ) (at : ℕ) (curve : Curve) (key : PublicKey) (accepts : Acceptance) → IsBlock0Entry block at curve key accepts → judge_block0_entry block at curve key accepts ≡ Ok tt
unfolding judge_block0_entry
entry_ends block at curve key accepts e = grind (arith, nat_tests)

signatures_hold : (block : List ℕ) (type : ContentType) (curve : Curve) (row : List ℕ) (accepts : Acceptance) (key : Option ℕ) (c : Bool) → is_certificate type ≡ c → judge_signatures block type curve row accepts ≡ Ok key → IsSignedBy key block curve type row accepts
unfolding judge_signatures
signatures_hold block type curve row accepts key true e h =
    let j : (judge_block0_entry block 276 curve (public_key_at block 144) accepts >> Ok None) ≡ Ok key = rw e at h in
    let p = passed_unit (judge_block0_entry block 276 curve (public_key_at block 144) accepts) _ key j in
    let is : None ≡ key = cc in
    let P : Option ℕ → Type 0 = λ k. IsSignedBy k block curve type row accepts in
    subst P is (record { certificate = e; entry = entry_holds _ _ _ _ _ p.0 })
signatures_hold block type curve row accepts key false e h =
    let j : (judge_key block type curve row accepts >>= λ id. (judge_block0_entry block 508 curve (public_key_at block 276) accepts >> Ok (Some id))) ≡ Ok key = rw e at h in
    let k = passed_part (judge_key block type curve row accepts) _ key j in
    let p = passed_unit (judge_block0_entry block 508 curve (public_key_at block 276) accepts) _ key k.2 in
    let is : Some k.0 ≡ key = cc in
    let P : Option ℕ → Type 0 = λ k. IsSignedBy k block curve type row accepts in
    subst P is (record { no_certificate = e; key = key_holds _ _ _ _ _ _ k.1; entry = entry_holds _ _ _ _ _ p.0 })

signatures_end : (block : List ℕ) (type : ContentType) (curve : Curve) (row : List ℕ) (accepts : Acceptance) (key : Option ℕ) → IsSignedBy key block curve type row accepts → judge_signatures block type curve row accepts ≡ Ok key
unfolding judge_signatures
signatures_end block type curve row accepts None s = rw (s.certificate, entry_ends block 276 curve (public_key_at block 144) accepts s.entry) refl
signatures_end block type curve row accepts (Some id) s = rw (s.no_certificate, key_ends block type curve row accepts id s.key, entry_ends block 508 curve (public_key_at block 276) accepts s.entry) refl

pub form1_holds : (block : List ℕ) (type : ContentType) (root row : List ℕ) (accepts : Acceptance) (key : Option ℕ) → judge_form1 block type root row accepts ≡ Ok key → (number_at block 128 ≡ 0xF27F28D7) × IsForm1 block type root row accepts key
unfolding judge_form1
form1_holds block type root row accepts key h =
    let r = passed_part (judge_root block root) _ key h in
    let e = root_holds block root r.0 r.1 in
    (e.0, record { curve = r.0; root_entry = e.1; signer = signatures_hold block type r.0 row accepts key (is_certificate type) refl r.2 })

pub form1_ends : (block : List ℕ) (type : ContentType) (root row : List ℕ) (accepts : Acceptance) (key : Option ℕ) → number_at block 128 ≡ 0xF27F28D7 → IsForm1 block type root row accepts key → judge_form1 block type root row accepts ≡ Ok key
unfolding judge_form1
form1_ends block type root row accepts key magic f =
    rw (root_ends block root f.curve magic f.root_entry, signatures_end block type f.curve row accepts key f.signer) refl
