-- The block of form 2 that is made is signed: by the root the key, and by the key Block 0.
use Rattle.std.proofs.Common.{◌≡◌, ℕ, ◌+◌, ◌≤◌, true, false, List, ◌++◌, length, Some, refl, sym, ◌∙◌, ap, subst, arith, append_assoc}
use Rattle.sha2.specs.Sha256.{sha256}
use Rattle.pfr_engine.specs.Acceptance.{Acceptance}
use Rattle.pfr_flash.specs.Bytes.{bytes_at}
use Rattle.pfr_flash.specs.declared.names.ContentType.{ContentType}
use Rattle.pfr_flash.specs.Numbers.{number_at}
use Rattle.pfr_chain.specs.Types.{is_certificate}
use Rattle.pfr_chain.specs.Keys.{MaySign}
use Rattle.pfr_chain.specs.Form2.{key_of, key_end, signature_of, signature_end, scheme_of, root_hash, IsLength, IsLongRoot, HasSignature, IsLongKey, IsLongEntry, IsForm2}
use Rattle.pfr_made.specs.Form2.{signed_key, long_marks_of, marks_on_key}
use Rattle.pfr_made.specs.Marks.{number_of_curve}
use Rattle.pfr_made.specs.Store as store
use Rattle.pfr_made.proofs.Form2Keys.{HasKey, HasMarks}
use Rattle.pfr_made.proofs.Form2Block.{HasBlock0Entry, HasHead, HasParts}
use Rattle.pfr_engine.specs.declared.engine.Ask.{Ask}
use Rattle.pfr_engine.specs.declared.engine.Curve.{Curve}
use Rattle.pfr_description.specs.Described.{Description}
use Rattle.pfr_description.specs.declared.form.Form.TheVariants.{Two}
use Rattle.pfr_description.specs.declared.keys.KeyDescription.{KeyDescription}
use Rattle.pfr_description.specs.declared.keys.PublicKey.{PublicKey}

-- the engine accepts the root's signature of a key
abbrev pub AcceptsKey : Acceptance → Description → KeyDescription → Type 0
AcceptsKey accepts desc signer =
    accepts.long (number_of_curve desc.curve) (desc.root.x ++ desc.root.y) (signed_key desc signer) ((marks_on_key desc signer).r ++ (marks_on_key desc signer).s) ≡ true

-- the engine accepts a key's signature of Block 0
abbrev pub AcceptsMarks : Acceptance → Description → PublicKey → List ℕ → Type 0
AcceptsMarks accepts desc by block0 =
    accepts.long (number_of_curve desc.curve) (by.x ++ by.y) block0 ((long_marks_of by block0).r ++ (long_marks_of by block0).s) ≡ true

abbrev pub AcceptsBlock0 : Acceptance → Description → KeyDescription → List ℕ → Type 0
AcceptsBlock0 accepts desc signer block0 = AcceptsMarks accepts desc signer.key block0

-- ---- what the entries hold
is_length_96 : (n most : ℕ) → 96 ≤ most → n ≡ 96 → IsLength 4 most n
is_length_96 n most h is = record { not_less = omega arith; not_more = omega arith; multiple = rw is refl }

key_there : (block : List ℕ) (at : ℕ) (curve : Curve) (permissions id : ℕ) (key : PublicKey) → HasKey block (at + 4) curve permissions id key → key_of block at ≡ key.x ++ key.y
key_there block at curve permissions id key h =
    let count : number_at block (at + 16) ≡ 96 = ap (number_at block) (sym (at_16 at)) ∙ h.count in
    ap (bytes_at block (at + 20)) count ∙ ap (λ (p : ℕ). bytes_at block p 96) (sym (at_20 at)) ∙ h.point
  where
    at_16 : (at : ℕ) → at + 4 + 12 ≡ at + 16
    at_16 at = omega arith

    at_20 : (at : ℕ) → at + 4 + 16 ≡ at + 20
    at_20 at = omega arith

signature_there : (block : List ℕ) (at : ℕ) (marks : Ask) → HasMarks block at marks → signature_of block at ≡ marks.r ++ marks.s
signature_there block at marks h = ap (bytes_at block (at + 4)) h.count ∙ h.numbers

has_signature : (block : List ℕ) (at : ℕ) (marks : Ask) → HasMarks block at marks → at + 100 ≤ length block → HasSignature block at
has_signature block at marks h within = record { count = is_length_96 (number_at block at) 8000 (omega arith) h.count; within = omega (arith, h.count) }

-- ---- the root entry
module _ (block : List ℕ) (desc : Description) (head : HasHead block desc) where
  pub root_end : key_end block 144 ≡ 260
  root_end = omega (arith, head.root.count)

  pub root_key : key_of block 144 ≡ desc.root.x ++ desc.root.y
  root_key = key_there block 144 desc.curve _ _ desc.root head.root

  pub scheme : scheme_of block ≡ number_of_curve desc.curve
  scheme = head.root.scheme

  hash : root_hash block ≡ store.root_hash Two desc.curve desc.root
  unfolding root_hash store.root_hash
  hash = ap sha256 (rw (head.root.scheme_bytes, root_key) (simp append_assoc))

  pub root_entry : length block ≡ 1024 → IsLongRoot block (store.root_hash Two desc.curve desc.root)
  root_entry long = record {
    magic = head.root_magic;
    permissions = head.root.may;
    key_id = head.root.named;
    key_length = is_length_96 (number_at block 160) 256 (omega arith) head.root.count;
    within = omega (arith, root_end, long);
    hash = hash;
  }

  -- a block-0 entry at a place, by a key
  pub block0_entry : (at : ℕ) (by : PublicKey) (key block0 : List ℕ) (accepts : Acceptance) → length block ≡ 1024 → at + 104 ≤ 1024 → key ≡ by.x ++ by.y → bytes_at block 0 128 ≡ block0
      → HasBlock0Entry block at (long_marks_of by block0) → AcceptsMarks accepts desc by block0 → IsLongEntry block at key accepts
  block0_entry at by key block0 accepts long room is_key front entry accepted = record {
    starts = omega (arith, long, room);
    magic = entry.magic;
    signature = has_signature block (at + 4) (long_marks_of by block0) entry.signature (omega (arith, long, room));
    accepted = rw (scheme, is_key, front, signature_there block (at + 4) (long_marks_of by block0) entry.signature) accepted;
  }

-- ---- the entries of a block that a key signs
module _ (block : List ℕ) (desc : Description) (signer : KeyDescription) (block0 : List ℕ) (long : length block ≡ 1024) (parts : HasParts block desc signer block0) where
  entry_end : key_end block 260 ≡ 376
  entry_end = omega (arith, parts.key.count)

  signed_end : signature_end block 376 ≡ 476
  signed_end = omega (arith, parts.marks_on_key.count)

  signer_key : key_of block 260 ≡ signer.key.x ++ signer.key.y
  signer_key = key_there block 260 desc.curve _ _ signer.key parts.key

  key_signed : bytes_at block 264 (16 + number_at block 276) ≡ signed_key desc signer
  key_signed = ap (λ (n : ℕ). bytes_at block 264 (16 + n)) parts.key.count ∙ parts.signed

  key_entry : (type : ContentType) (row : List ℕ) (accepts : Acceptance) → MaySign signer.id signer.permissions type row → AcceptsKey accepts desc signer
      → IsLongKey block 260 type row accepts signer.id
  key_entry type row accepts may accepted = record {
    magic = parts.key_magic;
    scheme = parts.key.scheme ∙ sym (scheme block desc parts.head);
    key_length = is_length_96 (number_at block 276) 256 (omega arith) parts.key.count;
    signature = subst (λ (p : ℕ). HasSignature block p) (sym entry_end) (has_signature block 376 (marks_on_key desc signer) parts.marks_on_key (omega arith));
    named = sym parts.key.named;
    may_sign = rw (parts.key.named, parts.key.may) may;
    accepted = rw (scheme block desc parts.head, root_key block desc parts.head, key_signed, entry_end, signature_there block 376 (marks_on_key desc signer) parts.marks_on_key) accepted;
  }

  signed_entry : (accepts : Acceptance) → AcceptsBlock0 accepts desc signer block0 → IsLongEntry block 476 (key_of block 260) accepts
  signed_entry accepts accepted = block0_entry block desc parts.head 476 signer.key (key_of block 260) block0 accepts long (omega arith) signer_key parts.front parts.entry accepted

  pub form2_made : (type : ContentType) (row : List ℕ) (accepts : Acceptance) → is_certificate type ≡ false → MaySign signer.id signer.permissions type row
      → AcceptsKey accepts desc signer → AcceptsBlock0 accepts desc signer block0
      → IsForm2 block type (store.root_hash Two desc.curve desc.root) row accepts (Some signer.id)
  form2_made type row accepts no_certificate may on_key on_block0 = record {
    root_entry = root_entry block desc parts.head long;
    signer = record {
      no_certificate = no_certificate;
      key = subst (λ (p : ℕ). IsLongKey block p type row accepts signer.id) (sym (root_end block desc parts.head)) (key_entry type row accepts may on_key);
      entry = rw (root_end block desc parts.head, entry_end, signed_end) (signed_entry accepts on_block0);
    };
  }
