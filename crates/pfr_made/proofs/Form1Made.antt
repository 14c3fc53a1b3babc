-- The chain of form 1 that is made of a content which a key signs.
use Rattle.std.proofs.Common.{◌≡◌, ℕ, ◌+◌, ◌^◌, ◌<◌, ◌≤◌, true, false, Some, List, ◌++◌, length, refl, sym, ap, subst, ◌∙◌, arith, length-append}
use Rattle.pfr_flash.specs.Bytes.{bytes_at}
use Rattle.pfr_flash.specs.declared.names.ContentType.{ContentType}
use Rattle.pfr_engine.specs.Acceptance.{Acceptance}
use Rattle.pfr_engine.specs.declared.engine.Ask.{Ask}
use Rattle.pfr_engine.specs.declared.engine.Curve.{Curve}
use Rattle.pfr_chain.specs.Chain.{IsBlock1, IsChain}
use Rattle.pfr_flash.specs.Numbers.{number_at}
use Rattle.pfr_chain.specs.Form1.{IsRoot, IsSigned, IsKey, IsBlock0Entry, IsForm1}
use Rattle.pfr_chain.specs.Keys.{any, public_key_at, signature_at, MaySign}
use Rattle.pfr_chain.specs.Types.{is_certificate}
use Rattle.pfr_chain.specs.declared.form.Form as chain_forms
use Rattle.pfr_chain.specs.declared.public_key.PublicKey as chain
use Rattle.pfr_chain.specs.declared.signature.Signature.{Signature}
use Rattle.pfr_made.specs.Blocks.{block0_bytes, block_in, signed_bytes}
use Rattle.pfr_made.proofs.Chained.{made_chain}
use Rattle.pfr_made.specs.Fields.{number_bytes}
use Rattle.pfr_made.specs.Form1.{key_bytes, signature_bytes, signed_key, marks_on_key, head_bytes, key_entry, block0_entry, block_of}
use Rattle.pfr_made.specs.Marks.{marks_of}
use Rattle.pfr_made.specs.Store.{root_hash}
use Rattle.pfr_description.specs.Typed.{IsKeyValue, IsSignerValue}
use Rattle.pfr_made.proofs.BlockPartsMade.{length-number, in_front, last_part, first_part, number_there, inside_at, number_inside_at}
use Rattle.pfr_made.proofs.BlockHeadMade.{length-block0}
use Rattle.pfr_made.proofs.BlockMade.{StandsAt}
use Rattle.pfr_made.proofs.BlockLengthsMade.{IsMark, marks_long, length-key1, length-signature1}
use Rattle.pfr_made.proofs.BlockSignedMade.{HasParts1, parts1, head1, block_made}
use Rattle.pfr_made.proofs.Form1PartsMade.{curve_of-number, entry_of, key_read, signature_in, signature_read}
use Rattle.pfr_description.specs.Described.{Description}
use Rattle.pfr_description.specs.declared.form.Form.{Form}
use Rattle.pfr_description.specs.declared.form.Form.TheVariants.{One}
use Rattle.pfr_description.specs.declared.keys.KeyDescription.{KeyDescription}
use Rattle.pfr_description.specs.declared.keys.PublicKey.{PublicKey}

-- ---- entries
-- the root entry
pub root_read : (desc : Description) (block : List ℕ) → IsKeyValue desc.root → bytes_at block 128 148 ≡ head_bytes desc → public_key_at block 144 ≡ entry_of 0xA757A046 desc.curve any any desc.root
root_read desc block root there =
    let head = head1 desc root in
    let magic : number_at block 144 ≡ 0xA757A046 = number_inside_at block (head_bytes desc) 128 148 16 144 there refl (omega arith) ∙ head.entry in
    let bytes : bytes_at block 148 128 ≡ key_bytes desc.curve any any desc.root = inside_at block (head_bytes desc) 128 148 20 148 128 there refl (omega arith) ∙ head.root in
    key_read block 144 0xA757A046 desc.curve any any desc.root (omega arith) (omega arith) root magic bytes

-- a key entry: its magic, key and signature
record HasEntry (desc : Description) (key : KeyDescription) (entry : List ℕ) : Type 0 where
  pub magic : number_at entry 0 ≡ 0x14711C2F
  pub signed : bytes_at entry 4 128 ≡ signed_key desc key
  pub signature : bytes_at entry 132 100 ≡ signature_bytes (marks_on_key desc key)

entry_read : (desc : Description) (key : KeyDescription) → IsKeyValue key.key → HasEntry desc key (key_entry desc key)
unfolding key_entry
entry_read desc key k =
    let a : List ℕ = number_bytes 0x14711C2F in
    let b : List ℕ = signed_key desc key in
    let c : List ℕ = signature_bytes (marks_on_key desc key) in
    let long_a : length a ≡ 4 = length-number 0x14711C2F in
    let long_b : length b ≡ 128 = length-key1 desc.curve key.permissions key.id key.key k in
    let long_c : length c ≡ 100 = length-signature1 (marks_on_key desc key) (marks_long desc.curve desc.root b) in
    let front : length (a ++ b) ≡ 132 = simp length-append (omega (arith, long_a, long_b)) in
    record {
      magic = number_there (a ++ b ++ c) 0 0x14711C2F (omega arith) (in_front (a ++ b) c 0 4 (omega arith) ∙ first_part a b 4 long_a);
      signed = in_front (a ++ b) c 4 128 (omega arith) ∙ last_part a b 4 128 long_a long_b;
      signature = last_part (a ++ b) c 132 100 front long_c;
    }

-- a block-0 entry: its magic and signature
record HasBlock0Entry (marks : Ask) (entry : List ℕ) : Type 0 where
  pub magic : number_at entry 0 ≡ 0x15364367
  pub signature : bytes_at entry 4 100 ≡ signature_bytes marks

block0_entry_read : (marks : Ask) → IsMark marks → HasBlock0Entry marks (block0_entry marks)
unfolding block0_entry
block0_entry_read marks m =
    let a : List ℕ = number_bytes 0x15364367 in
    let b : List ℕ = signature_bytes marks in
    record {
      magic = number_there (a ++ b) 0 0x15364367 (omega arith) (first_part a b 4 (length-number 0x15364367));
      signature = last_part a b 4 100 (length-number 0x15364367) (length-signature1 marks m);
    }

-- the engine accepts a key's marks on a message
signed_there : (accepts : Acceptance) (curve : Curve) (magic permissions id : ℕ) (by : PublicKey) (message read : List ℕ) (key : chain.PublicKey) (signature : Signature)
    → key ≡ entry_of magic curve permissions id by → read ≡ message → signature ≡ signature_in (marks_of curve by message) → accepts.ask (marks_of curve by message) ≡ true → IsSigned accepts curve key read signature
signed_there accepts curve magic permissions id by message read key signature is_key is_message is_signature accepted = rw (is_key, is_message, is_signature) (record { magic = refl; accepted = accepted })

-- the root's key, with the hash that the store is given
pub root_made : (desc : Description) (block : List ℕ) → IsKeyValue desc.root → bytes_at block 128 148 ≡ head_bytes desc → IsRoot (public_key_at block 144) desc.curve (root_hash One desc.curve desc.root)
unfolding root_hash
root_made desc block root there = rw (root_read desc block root there) (record { magic = refl; permissions = refl; key_id = refl; curve_number = curve_of-number desc.curve; hash = refl })

-- a block-0 entry at a place, by the key that an entry has
pub entry_made : (curve : Curve) (magic permissions id : ℕ) (by : PublicKey) (block0 block : List ℕ) (at : ℕ) (key : chain.PublicKey) (accepts : Acceptance)
    → key ≡ entry_of magic curve permissions id by → bytes_at block 0 128 ≡ block0 → bytes_at block at 104 ≡ block0_entry (marks_of curve by block0)
    → accepts.ask (marks_of curve by block0) ≡ true → IsBlock0Entry block at curve key accepts
entry_made curve magic permissions id by block0 block at key accepts is_key first last accepted =
    let marks : Ask = marks_of curve by block0 in
    let m = marks_long curve by block0 in
    let entry = block0_entry_read marks m in
    let signature : signature_at block (at + 4) ≡ signature_in marks = signature_read block (at + 4) marks m (inside_at block (block0_entry marks) at 104 4 (at + 4) 100 last refl (omega arith) ∙ entry.signature) in
    record {
      magic = number_inside_at block (block0_entry marks) at 104 0 at last (omega arith) (omega arith) ∙ entry.magic;
      signed = signed_there accepts curve magic permissions id by block0 _ _ _ is_key first signature accepted;
    }

-- ---- Block 1
module _ (desc : Description) (key : KeyDescription) (block0 block : List ℕ) (root : IsKeyValue desc.root) (signer : IsSignerValue key) (p : HasParts1 desc key block0 block) where
  signer_read : public_key_at block 276 ≡ entry_of 0x14711C2F desc.curve key.permissions key.id key.key
  signer_read =
      let entry = entry_read desc key signer.key in
      let magic : number_at block 276 ≡ 0x14711C2F = number_inside_at block (key_entry desc key) 276 232 0 276 p.entry refl (omega arith) ∙ entry.magic in
      let bytes : bytes_at block 280 128 ≡ signed_key desc key = inside_at block (key_entry desc key) 276 232 4 280 128 p.entry refl (omega arith) ∙ entry.signed in
      key_read block 276 0x14711C2F desc.curve key.permissions key.id key.key signer.permissions (omega (arith, signer.id)) signer.key magic bytes

  key_made : (type : ContentType) (row : List ℕ) (accepts : Acceptance) → MaySign key.id key.permissions type row → accepts.ask (marks_on_key desc key) ≡ true → IsKey block desc.curve type row accepts key.id
  key_made type row accepts may accepted =
      let entry = entry_read desc key signer.key in
      let signature : signature_at block 408 ≡ signature_in (marks_on_key desc key) =
      signature_read block 408 (marks_on_key desc key) (marks_long desc.curve desc.root (signed_key desc key)) (inside_at block (key_entry desc key) 276 232 132 408 100 p.entry refl (omega arith) ∙ entry.signature) in
      let message : bytes_at block 280 128 ≡ signed_key desc key = inside_at block (key_entry desc key) 276 232 4 280 128 p.entry refl (omega arith) ∙ entry.signed in
      let of_root = root_read desc block root p.head in
      record {
        magic = ap (λ (k : chain.PublicKey). k.magic) signer_read;
        same_curve = ap (λ (k : chain.PublicKey). k.curve) signer_read ∙ sym (ap (λ (k : chain.PublicKey). k.curve) of_root);
        named = sym (ap (λ (k : chain.PublicKey). k.key_id) signer_read);
        may_sign = rw signer_read may;
        signed = signed_there accepts desc.curve 0xA757A046 any any desc.root (signed_key desc key) _ _ _ of_root message signature accepted;
      }

  -- the block is one of form 1, signed by the key
  pub form1_made : (type : ContentType) (row : List ℕ) (accepts : Acceptance) → is_certificate type ≡ false → MaySign key.id key.permissions type row → accepts.ask (marks_on_key desc key) ≡ true
      → accepts.ask (marks_of desc.curve key.key block0) ≡ true → IsForm1 block type (root_hash One desc.curve desc.root) row accepts (Some key.id)
  form1_made type row accepts other may on_key on_block0 = record {
    curve = desc.curve;
    root_entry = root_made desc block root p.head;
    signer = record { no_certificate = other; key = key_made type row accepts may on_key; entry = entry_made desc.curve 0x14711C2F key.permissions key.id key.key block0 block 508 _ accepts signer_read p.first p.last on_block0 };
  }

-- ---- the chain
-- The signed bytes of a content are its chain wherever they stand.
pub chain_made_1 : (desc : Description) (key : KeyDescription) (type : ContentType) (content image : List ℕ) (place len : ℕ) (row : List ℕ) (accepts : Acceptance)
    → desc.form ≡ One → IsKeyValue desc.root → IsSignerValue key → is_certificate type ≡ false → 0 < length content → length content < 2 ^ 32
    → MaySign key.id key.permissions type row → accepts.ask (marks_on_key desc key) ≡ true → accepts.ask (marks_of desc.curve key.key (block0_bytes desc.form type content)) ≡ true
    → bytes_at image place (1024 + length content) ≡ signed_bytes desc key type content → 1024 + length content ≤ len
    → IsChain image place len type (root_hash desc.form desc.curve desc.root) row accepts (made_chain place key content)
chain_made_1 desc key type content image place len row accepts one root signer other some small may on_key on_block0 is fits =
    let S : Form → Type 0 = λ form. StandsAt form type content (block_in form desc key (block0_bytes form type content)) image place len in
    let stands : S One = subst S one (block_made desc key type content image place len root signer other some small is fits) in
    let A : Form → Type 0 = λ form. accepts.ask (marks_of desc.curve key.key (block0_bytes form type content)) ≡ true in
    let block0 : List ℕ = block0_bytes One type content in
    let p = parts1 desc key block0 root signer.key (length-block0 One type content) in
    let made = form1_made desc key block0 (block_of desc key block0) root signer p type row accepts other may on_key (subst A one on_block0) in
    let R : Form → Type 0 = λ form. IsChain image place len type (root_hash form desc.curve desc.root) row accepts (made_chain place key content) in
    let F : chain_forms.Form → Type 0 = λ form. IsBlock1 form (bytes_at image place 1024) type (root_hash One desc.curve desc.root) row accepts (Some key.id) in
    let B : List ℕ → Type 0 = λ block. IsForm1 block type (root_hash One desc.curve desc.root) row accepts (Some key.id) in
    subst R (sym one) (record {
      blen = 1024;
      block = stands.at;
      signed = subst F (sym stands.has_form) (subst B (sym stands.is_block) made);
      content_at = refl;
      length = stands.long;
    })
