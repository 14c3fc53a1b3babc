-- What the judgements of form 2 tell, and when they end well.
use Rattle.std.proofs.Common.{◌≡◌, ℕ, ◌+◌, ◌==◌, ◌&&◌, Bool, true, false, List, Option, Some, None, Ok, refl, sym, subst, arith}
use Rattle.std.proofs.lemmas.Bool.Decides.{nat_tests}
use Rattle.std.proofs.lemmas.Slice.Eq.{bytes_eq-Decides}
use Rattle.pfr_flash.specs.Bytes.{bytes_at}
use Rattle.pfr_flash.specs.declared.names.ContentType.{ContentType}
use Rattle.pfr_engine.specs.Acceptance.{Acceptance}
use Rattle.pfr_flash.specs.Numbers.{number_at}
use Rattle.pfr_chain.specs.Types.{is_certificate}
use Rattle.pfr_chain.specs.Form2.{key_of, key_end, signature_of, signature_end, scheme_of, IsLength, IsLongRoot, HasSignature, IsLongKey, IsLongEntry, IsLongSignedBy, IsForm2}
use Rattle.pfr_chain.specs.Form1Judge.{judge_use}
use Rattle.pfr_chain.specs.Form2Judge.{is_key_length, has_signature, is_root_entry, judge_long_root, judge_long_key, judge_long_entry, judge_long_signatures, judge_form2}
use Rattle.pfr_flash.specs.Judging.{◌>>=◌, ◌>>◌}
use Rattle.pfr_chain.specs.declared.form2.KeyPlace.{KeyPlace}
use Rattle.pfr_chain.specs.declared.fail.ChainFail.TheVariants.{KeyEntry, KeySignature}
use Rattle.pfr_flash.proofs.JudgingLemmas.{passed, passed_part, passed_unit, goes_on, Decides-true}
use Rattle.pfr_chain.proofs.Form1Law.{use_holds, use_ends}

key_length_holds : (n : ℕ) → is_key_length n ≡ true → IsLength 4 256 n
key_length_holds n h = grind (arith, nat_tests)

signature_holds : (block : List ℕ) (at : ℕ) → has_signature block at ≡ true → HasSignature block at
signature_holds block at h = grind (arith, nat_tests)

signature_ends : (block : List ℕ) (at : ℕ) → HasSignature block at → has_signature block at ≡ true
signature_ends block at s = grind (arith, nat_tests)

long_root_holds : (block root : List ℕ) (end : ℕ) → judge_long_root block root ≡ Ok end → (number_at block 128 ≡ 0xF27F28D8) × IsLongRoot block root × (key_end block 144 ≡ end)
unfolding judge_long_root is_root_entry
long_root_holds block root end h = grind (arith, nat_tests, bytes_eq-Decides, key_length_holds)

long_root_ends : (block root : List ℕ) → number_at block 128 ≡ 0xF27F28D8 → IsLongRoot block root → judge_long_root block root ≡ Ok (key_end block 144)
unfolding judge_long_root is_root_entry
long_root_ends block root m r = let e = (bytes_eq-Decides _ _).1 r.hash in grind (arith, nat_tests)

-- the tests of a key entry
key_entry_holds : (magic scheme root count : ℕ) (signature : Bool) → (magic == 0x14711C30 && scheme == root && is_key_length count && signature) ≡ true → (magic ≡ 0x14711C30) × (scheme ≡ root) × IsLength 4 256 count × (signature ≡ true)
key_entry_holds magic scheme root count signature h = grind (arith, nat_tests)

key_entry_ends : (magic scheme root count : ℕ) (signature : Bool) → magic ≡ 0x14711C30 → scheme ≡ root → IsLength 4 256 count → signature ≡ true → (magic == 0x14711C30 && scheme == root && is_key_length count && signature) ≡ true
key_entry_ends magic scheme root count signature a b c d = grind (arith, nat_tests)

long_key_holds : (block : List ℕ) (at : ℕ) (type : ContentType) (row : List ℕ) (accepts : Acceptance) (key : KeyPlace) → judge_long_key block at type row accepts ≡ Ok key
    → IsLongKey block at type row accepts key.id × (signature_end block (key_end block at) ≡ key.end)
unfolding judge_long_key
long_key_holds block at type row accepts key h =
    let signed : ℕ = key_end block at in
    let a = passed KeyEntry (number_at block at == 0x14711C30 && number_at block (at + 12) == scheme_of block && is_key_length (number_at block (at + 16)) && has_signature block signed) _ key (Decides-true _) h in
    let b = passed_unit (judge_use (number_at block (at + 8)) (number_at block (at + 4)) type row) _ key a.1 in
    let c = passed KeySignature (accepts.long (scheme_of block) (key_of block 144) (bytes_at block (at + 4) (16 + number_at block (at + 16))) (signature_of block signed)) _ key (Decides-true _) b.1 in
    let e = key_entry_holds (number_at block at) (number_at block (at + 12)) (scheme_of block) (number_at block (at + 16)) (has_signature block signed) a.0 in
    (record { magic = e.0; scheme = e.1; key_length = e.2; signature = signature_holds block signed e.3; named = cc; may_sign = use_holds _ _ _ _ b.0; accepted = c.0 }, cc)

long_key_ends : (block : List ℕ) (at : ℕ) (type : ContentType) (row : List ℕ) (accepts : Acceptance) (id : ℕ) → IsLongKey block at type row accepts id
    → judge_long_key block at type row accepts ≡ Ok (record { id = id; end = signature_end block (key_end block at) })
unfolding judge_long_key
long_key_ends block at type row accepts id k =
    let signed : ℕ = key_end block at in
    rw (
      goes_on KeyEntry (number_at block at == 0x14711C30 && number_at block (at + 12) == scheme_of block && is_key_length (number_at block (at + 16)) && has_signature block signed) _ (Decides-true _)
          (key_entry_ends (number_at block at) (number_at block (at + 12)) (scheme_of block) (number_at block (at + 16)) (has_signature block signed) k.magic k.scheme k.key_length (signature_ends block signed k.signature)),
      use_ends (number_at block (at + 8)) (number_at block (at + 4)) type row k.may_sign,
      goes_on KeySignature (accepts.long (scheme_of block) (key_of block 144) (bytes_at block (at + 4) (16 + number_at block (at + 16))) (signature_of block signed)) _ (Decides-true _) k.accepted,
      k.named,
    ) refl

long_entry_holds : (block : List ℕ) (at : ℕ) (key : List ℕ) (accepts : Acceptance) → judge_long_entry block at key accepts ≡ Ok tt → IsLongEntry block at key accepts
unfolding judge_long_entry
long_entry_holds block at key accepts h = grind (arith, nat_tests, signature_holds)

long_entry_ends : (block : List ℕ) (at : ℕ) (key : List ℕ) (accepts : Acceptance) → IsLongEntry block at key accepts → judge_long_entry block at key accepts ≡ Ok tt
unfolding judge_long_entry
long_entry_ends block at key accepts e = let s = signature_ends block (at + 4) e.signature in grind (arith, nat_tests)

signatures_hold : (block : List ℕ) (type : ContentType) (row : List ℕ) (accepts : Acceptance) (key : Option ℕ) (c : Bool) → is_certificate type ≡ c → judge_long_signatures block (key_end block 144) type row accepts ≡ Ok key → IsLongSignedBy key block type row accepts
unfolding judge_long_signatures
signatures_hold block type row accepts key true e h =
    let at : ℕ = key_end block 144 in
    let j : (judge_long_entry block at (key_of block 144) accepts >> Ok None) ≡ Ok key = rw e at h in
    let p = passed_unit (judge_long_entry block at (key_of block 144) accepts) _ key j in
    let is : None ≡ key = cc in
    let P : Option ℕ → Type 0 = λ k. IsLongSignedBy k block type row accepts in
    subst P is (record { certificate = e; entry = long_entry_holds _ _ _ _ p.0 })
signatures_hold block type row accepts key false e h =
    let at : ℕ = key_end block 144 in
    let j : (judge_long_key block at type row accepts >>= λ k. (judge_long_entry block k.end (key_of block at) accepts >> Ok (Some k.id))) ≡ Ok key = rw e at h in
    let k = passed_part (judge_long_key block at type row accepts) _ key j in
    let p = passed_unit (judge_long_entry block k.0.end (key_of block at) accepts) _ key k.2 in
    let q = long_key_holds block at type row accepts k.0 k.1 in
    let is : Some k.0.id ≡ key = cc in
    let P : Option ℕ → Type 0 = λ k. IsLongSignedBy k block type row accepts in
    let E : ℕ → Type 0 = λ end. IsLongEntry block end (key_of block at) accepts in
    subst P is (record { no_certificate = e; key = q.0; entry = subst E (sym q.1) (long_entry_holds _ _ _ _ p.0) })

signatures_end : (block : List ℕ) (type : ContentType) (row : List ℕ) (accepts : Acceptance) (key : Option ℕ) → IsLongSignedBy key block type row accepts → judge_long_signatures block (key_end block 144) type row accepts ≡ Ok key
unfolding judge_long_signatures
signatures_end block type row accepts None s = rw (s.certificate, long_entry_ends block (key_end block 144) (key_of block 144) accepts s.entry) refl
signatures_end block type row accepts (Some id) s =
    let at : ℕ = key_end block 144 in
    rw (s.no_certificate, long_key_ends block at type row accepts id s.key, long_entry_ends block (signature_end block (key_end block at)) (key_of block at) accepts s.entry) refl

pub form2_holds : (block : List ℕ) (type : ContentType) (root row : List ℕ) (accepts : Acceptance) (key : Option ℕ) → judge_form2 block type root row accepts ≡ Ok key → (number_at block 128 ≡ 0xF27F28D8) × IsForm2 block type root row accepts key
unfolding judge_form2
form2_holds block type root row accepts key h =
    let r = passed_part (judge_long_root block root) _ key h in
    let e = long_root_holds block root r.0 r.1 in
    let P : ℕ → Type 0 = λ at. judge_long_signatures block at type row accepts ≡ Ok key in
    (e.0, record { root_entry = e.1; signer = signatures_hold block type row accepts key (is_certificate type) refl (subst P (sym e.2) r.2) })

pub form2_ends : (block : List ℕ) (type : ContentType) (root row : List ℕ) (accepts : Acceptance) (key : Option ℕ) → number_at block 128 ≡ 0xF27F28D8 → IsForm2 block type root row accepts key → judge_form2 block type root row accepts ≡ Ok key
unfolding judge_form2
form2_ends block type root row accepts key magic f =
    rw (long_root_ends block root magic f.root_entry, signatures_end block type row accepts key f.signer) refl
