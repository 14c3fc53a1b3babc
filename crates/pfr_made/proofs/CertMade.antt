-- The certificate that is made is taken by its bank, by the store that is made of the same description, for any engine that accepts
-- the row.
use Rattle.std.proofs.Common.{◌≡◌, ℕ, ◌+◌, ◌-◌, ◌<◌, ◌≤◌, true, List, ◌++◌, length, replicate, inl, inr, None, Ok, refl, sym, ◌∙◌, ap, subst, arith, length-append}
use Rattle.pfr_engine.specs.Acceptance.{Acceptance}
use Rattle.pfr_flash.specs.Bytes.{bytes_at}
use Rattle.pfr_flash.specs.Names.{capsule_type, manifest_type}
use Rattle.pfr_flash.specs.declared.names.Bank.{Bank}
use Rattle.pfr_flash.specs.declared.names.Bank.TheVariants.{Bmc, Pch}
use Rattle.pfr_flash.specs.declared.names.ContentType.{ContentType}
use Rattle.pfr_chain.specs.Chain.{IsBlock1, IsChain}
use Rattle.pfr_chain.specs.Form1.{IsForm1}
use Rattle.pfr_chain.specs.Form2.{key_of, IsForm2, IsLongEntry}
use Rattle.pfr_chain.specs.Types.{is_certificate}
use Rattle.pfr_chain.specs.declared.form.Form as chain_forms
use Rattle.pfr_chain.specs.declared.judging.Chain.{Chain}
use Rattle.pfr_cert.specs.Certificate.{cancelling, no_cancellations, IsBody, IsCertificate, IsOf}
use Rattle.pfr_fuses.specs.FusesOf.{fuses_of}
use Rattle.pfr_fuses.specs.FusesState.{FusesState}
use Rattle.pfr_description.specs.Described.{Description}
use Rattle.pfr_description.specs.Typed.{IsKeyValue, IsValue}
use Rattle.pfr_description.specs.declared.form.Form.{Form}
use Rattle.pfr_description.specs.declared.form.Form.TheVariants.{One, Two}
use Rattle.pfr_made.specs.Accepting.{AcceptsText}
use Rattle.pfr_made.specs.Blocks.{block0_bytes, chain_form, root_block_in, root_signed_bytes}
use Rattle.pfr_made.specs.Certificates.{certificate_body, certificate_bytes, certificate_row}
use Rattle.pfr_made.specs.Fields.{number_bytes, zeros, padded}
use Rattle.pfr_made.specs.Form1 as form1
use Rattle.pfr_made.specs.Form2 as form2
use Rattle.pfr_made.specs.Marks.{marks_of}
use Rattle.pfr_made.specs.Store.{root_hash, store_for}
use Rattle.pfr_made.specs.Trust.{IsWorthyCert}
use Rattle.pfr_made.proofs.BlockHeadMade.{length-block0}
use Rattle.pfr_made.proofs.BlockLengthsMade.{marks_long, length-head1, length-block0_entry1, length-head2, length-block0_entry2}
use Rattle.pfr_made.proofs.BlockMade.{IsMadeBlock, StandsAt, stands_at}
use Rattle.pfr_made.proofs.BlockPartsMade.{length-number, length-padded, last_part, number_inside, rest_stands}
use Rattle.pfr_made.proofs.BlockSignedMade.{head1, head2}
use Rattle.pfr_made.proofs.BlockThreeMade.{HasThree, has_three}
use Rattle.pfr_made.proofs.ChainMade.{fuses_for, fuses_there}
use Rattle.pfr_made.proofs.Form1Made.{entry_made, root_made, root_read}
use Rattle.pfr_made.proofs.Form2Block.{has_block0_entry, has_head}
use Rattle.pfr_made.proofs.Form2Made.{block0_entry, root_end, root_entry, root_key}
use Rattle.pfr_made.proofs.PiecesStand.{padded_stands, read_number, stands}
use Rattle.pfr_made.proofs.RowsMadeAccepted.{AcceptsIn, accepted_root}
use Rattle.pfr_chain.specs.Keys.{any}

-- ---- a block that the root signs
parts1 : (desc : Description) (block0 : List ℕ) → IsKeyValue desc.root → length block0 ≡ 128
    → HasThree block0 (form1.head_bytes desc) (form1.block0_entry (marks_of desc.curve desc.root block0)) 148 104 (form1.root_block_of desc block0)
unfolding form1.root_block_of
parts1 desc block0 root long =
    has_three block0 _ _ 148 104 long (length-head1 desc root) (length-block0_entry1 (marks_of desc.curve desc.root block0) (marks_long desc.curve desc.root block0)) (omega arith)

parts2 : (desc : Description) (block0 : List ℕ) → IsKeyValue desc.root → length block0 ≡ 128
    → HasThree block0 (form2.head_bytes desc) (form2.block0_entry (form2.long_marks_of desc.root block0)) 132 104 (form2.root_block_of desc block0)
unfolding form2.root_block_of
parts2 desc block0 root long =
    has_three block0 _ _ 132 104 long (length-head2 desc root) (length-block0_entry2 (form2.long_marks_of desc.root block0) (marks_long _ desc.root block0)) (omega arith)

is_made : (form : Form) (desc : Description) (type : ContentType) (content : List ℕ) → IsKeyValue desc.root → IsMadeBlock form type content (root_block_in form desc (block0_bytes form type content))
is_made One desc type content root =
    let p = parts1 desc (block0_bytes One type content) root (length-block0 One type content) in
    record {
      long = p.long;
      block0 = p.first;
      block1_magic = number_inside (form1.root_block_of desc (block0_bytes One type content)) (form1.head_bytes desc) 128 148 0 p.head (omega arith) ∙ (head1 desc root).magic;
    }
is_made Two desc type content root =
    let p = parts2 desc (block0_bytes Two type content) root (length-block0 Two type content) in
    record {
      long = p.long;
      block0 = p.first;
      block1_magic = number_inside (form2.root_block_of desc (block0_bytes Two type content)) (form2.head_bytes desc) 128 132 0 p.head (omega arith) ∙ (head2 desc root).magic;
    }

-- ---- Block 1
made_1 : (desc : Description) (block0 block : List ℕ) (type : ContentType) (row : List ℕ) (accepts : Acceptance) → IsKeyValue desc.root → is_certificate type ≡ true
    → HasThree block0 (form1.head_bytes desc) (form1.block0_entry (marks_of desc.curve desc.root block0)) 148 104 block
    → AcceptsIn One accepts desc desc.root block0 → IsForm1 block type (root_hash One desc.curve desc.root) row accepts None
made_1 desc block0 block type row accepts root certificate p accepted = record {
  curve = desc.curve;
  root_entry = root_made desc block root p.head;
  signer = record {
    certificate = certificate;
    entry = entry_made desc.curve 0xA757A046 any any desc.root block0 block 276 _ accepts (root_read desc block root p.head) p.first p.last accepted;
  };
}

made_2 : (desc : Description) (block0 block : List ℕ) (type : ContentType) (row : List ℕ) (accepts : Acceptance) → IsKeyValue desc.root → is_certificate type ≡ true
    → HasThree block0 (form2.head_bytes desc) (form2.block0_entry (form2.long_marks_of desc.root block0)) 132 104 block
    → AcceptsIn Two accepts desc desc.root block0 → IsForm2 block type (root_hash Two desc.curve desc.root) row accepts None
made_2 desc block0 block type row accepts root certificate p accepted =
    let head = has_head block desc root (stands block 128 132 (form2.head_bytes desc) (length-head2 desc root) p.head) in
    let marks = form2.long_marks_of desc.root block0 in
    let entry = has_block0_entry block 260 desc.root block0 (stands block 260 104 (form2.block0_entry marks) (length-block0_entry2 marks (marks_long _ desc.root block0)) p.last) in
    let signed : IsLongEntry block 260 (key_of block 144) accepts = block0_entry block desc head 260 desc.root (key_of block 144) block0 accepts p.long (omega arith) (root_key block desc head) p.first entry accepted in
    record {
      root_entry = root_entry block desc head p.long;
      signer = record { certificate = certificate; entry = subst (λ (at : ℕ). IsLongEntry block at (key_of block 144) accepts) (sym (root_end block desc head)) signed };
    }

block1_made : (form : Form) (desc : Description) (type : ContentType) (content row : List ℕ) (accepts : Acceptance) → IsKeyValue desc.root → is_certificate type ≡ true
    → AcceptsIn form accepts desc desc.root (block0_bytes form type content)
    → IsBlock1 (chain_form form) (root_block_in form desc (block0_bytes form type content)) type (root_hash form desc.curve desc.root) row accepts None
block1_made One desc type content row accepts root certificate accepted =
    made_1 desc (block0_bytes One type content) _ type row accepts root certificate (parts1 desc (block0_bytes One type content) root (length-block0 One type content)) accepted
block1_made Two desc type content row accepts root certificate accepted =
    made_2 desc (block0_bytes Two type content) _ type row accepts root certificate (parts2 desc (block0_bytes Two type content) root (length-block0 Two type content)) accepted

-- ---- the chain of a content that the root signs
abbrev root_chain : ℕ → List ℕ → Chain
root_chain place content = record { content_at = place + 1024; length = length content; key = None }

module _ (desc : Description) (type : ContentType) (content image : List ℕ) (place : ℕ) (root : IsKeyValue desc.root)
    (there : bytes_at image place (1024 + length content) ≡ root_signed_bytes desc type content) where
  chain_made : (len : ℕ) (row : List ℕ) (accepts : Acceptance) → is_certificate type ≡ true → length content ≡ 128
      → AcceptsIn desc.form accepts desc desc.root (block0_bytes desc.form type content) → 1024 + length content ≤ len
      → IsChain image place len type (root_hash desc.form desc.curve desc.root) row accepts (root_chain place content)
  unfolding root_signed_bytes
  chain_made len row accepts certificate long accepted fits =
      let block : List ℕ = root_block_in desc.form desc (block0_bytes desc.form type content) in
      let s : StandsAt desc.form type content block image place len =
      stands_at desc.form type content block image place len (is_made desc.form desc type content root) (record { not_empty = omega (arith, long); small = omega (arith, long); certificate = λ _. long }) there fits in
      let made = block1_made desc.form desc type content row accepts root certificate accepted in
      let B : List ℕ → Type 0 = λ bytes. IsBlock1 (chain_form desc.form) bytes type (root_hash desc.form desc.curve desc.root) row accepts None in
      let F : chain_forms.Form → Type 0 = λ form. IsBlock1 form (bytes_at image place 1024) type (root_hash desc.form desc.curve desc.root) row accepts None in
      record {
        blen = 1024;
        block = s.at;
        signed = subst F (sym s.has_form) (subst B (sym s.is_block) made);
        content_at = refl;
        length = s.long;
      }

  content_there : bytes_at image (place + 1024) (length content) ≡ content
  unfolding root_signed_bytes
  content_there =
      let block : List ℕ = root_block_in desc.form desc (block0_bytes desc.form type content) in
      let first : length block ≡ 1024 = (is_made desc.form desc type content root).long in
      let long : length (block ++ content) ≡ 1024 + length content = omega (arith, first, length-append block content) in
      subst (λ (n : ℕ). bytes_at image (place + n) (length content) ≡ content) first (rest_stands image place block content (ap (bytes_at image place) long ∙ there))

length-root_signed : (desc : Description) (type : ContentType) (content : List ℕ) → IsKeyValue desc.root → length (root_signed_bytes desc type content) ≡ 1024 + length content
unfolding root_signed_bytes
length-root_signed desc type content root =
    omega (arith, (is_made desc.form desc type content root).long, length-append (root_block_in desc.form desc (block0_bytes desc.form type content)) content)

-- ---- a certificate's 128 bytes
length-body : (id : ℕ) → length (certificate_body id) ≡ 128
unfolding certificate_body
length-body id = length-padded 128 (number_bytes id) (omega (arith, length-number id))

body_zeros : (id : ℕ) → bytes_at (certificate_body id) 4 124 ≡ replicate 124 0
unfolding certificate_body padded zeros
body_zeros id =
    let count : 128 - length (number_bytes id) ≡ 124 = omega (arith, length-number id) in
    rw count (last_part (number_bytes id) (zeros 124) 4 124 (length-number id) refl)

body_made : (id : ℕ) → id < 256 → IsBody (certificate_body id) id
unfolding certificate_body
body_made id small = record {
  named = read_number (padded 128 (number_bytes id)) 0 id (omega arith) (padded_stands 128 (number_bytes id));
  byte = omega arith;
  zeros = body_zeros id;
}

-- ---- the law
certificate_manifest : (bank : Bank) → is_certificate (cancelling (manifest_type bank)) ≡ true
certificate_manifest Bmc = refl
certificate_manifest Pch = refl

certificate_capsule : (bank : Bank) → is_certificate (cancelling (capsule_type bank)) ≡ true
certificate_capsule Bmc = refl
certificate_capsule Pch = refl

certificate_own : (bank : Bank) (type : ContentType) → IsOf bank type → is_certificate (cancelling type) ≡ true
certificate_own bank type (inl is) = rw is (certificate_manifest bank)
certificate_own bank type (inr is) = rw is (certificate_capsule bank)

cert_made : (desc : Description) (type : ContentType) (id : ℕ) (bank : Bank) (accepts : Acceptance) (image : List ℕ) (place len : ℕ) → IsKeyValue desc.root → id < 256 → IsOf bank type
    → AcceptsText accepts (certificate_row desc type id) → bytes_at image place 1152 ≡ certificate_bytes desc type id → 1152 ≤ len
    → IsCertificate image place len bank (root_hash desc.form desc.curve desc.root) accepts (record { ty = type; id = id })
cert_made desc type id bank accepts image place len root small own accepted there room =
    let body : List ℕ = certificate_body id in
    let long : length body ≡ 128 = length-body id in
    let whole : bytes_at image place (1024 + length body) ≡ certificate_bytes desc type id = ap (λ (n : ℕ). bytes_at image place (1024 + n)) long ∙ there in
    let chain = chain_made desc (cancelling type) body image place root whole len no_cancellations accepts (certificate_own bank type own) long
    (accepted_root accepts desc (cancelling type) body root accepted) (omega (arith, long, room)) in
    let content : bytes_at image (place + 1024) 128 ≡ body = ap (bytes_at image (place + 1024)) (sym long) ∙ content_there desc (cancelling type) body image place root whole in
    record {
      chain = root_chain place body;
      signed = chain;
      body = subst (λ (bytes : List ℕ). IsBody bytes id) (sym content) (body_made id small);
      own = own;
    }

root_there : (desc : Description) (fuses : FusesState) → IsValue desc → fuses_of (store_for desc) ≡ Ok fuses → fuses.provision.root ≡ root_hash desc.form desc.curve desc.root
root_there desc fuses is there =
    let here = fuses_there desc is in
    let same : fuses ≡ fuses_for desc = cc in
    ap (λ (f : FusesState). f.provision.root) same

pub worthy_cert : (desc : Description) (type : ContentType) (id : ℕ) → IsValue desc → id < 256 → IsWorthyCert desc type id (certificate_bytes desc type id) (certificate_row desc type id)
worthy_cert desc type id is small = record {
  taken = λ accepts accepted fuses provisioned bank own image place len there room.
      let long : length (certificate_bytes desc type id) ≡ 1152 = length-root_signed desc (cancelling type) (certificate_body id) is.root ∙ ap (λ (n : ℕ). 1024 + n) (length-body id) in
      subst (λ (root : List ℕ). IsCertificate image place len bank root accepts (record { ty = type; id = id })) (sym (root_there desc fuses is provisioned))
      (cert_made desc type id bank accepts image place len is.root small own accepted (ap (bytes_at image place) (sym long) ∙ there) (omega (arith, long, room)));
}
