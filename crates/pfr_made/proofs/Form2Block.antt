-- Where the parts of a block of form 2 stand, and what is read there.
use Rattle.std.proofs.Common.{◌≡◌, ℕ, ◌+◌, List, ◌++◌, arith}
use Rattle.pfr_engine.specs.declared.engine.Ask.{Ask}
use Rattle.pfr_engine.specs.declared.engine.Curve.TheVariants.{C384}
use Rattle.pfr_flash.specs.Bytes.{bytes_at}
use Rattle.pfr_flash.specs.Numbers.{number_at}
use Rattle.pfr_chain.specs.Keys.{any}
use Rattle.pfr_made.specs.Fields.{number_bytes, zeros}
use Rattle.pfr_made.specs.Form2.{key_bytes, signature_bytes, signed_key, long_marks_of, marks_on_key, head_bytes, key_entry, block0_entry}
use Rattle.pfr_description.specs.Typed.{IsKeyValue, IsSignerValue}
use Rattle.pfr_made.proofs.BlockPartsMade.{length-number, length-zeros}
use Rattle.pfr_made.proofs.BlockLengthsMade.{marks_long, length-key2, length-head2, length-key_entry2, length-block0_entry2}
use Rattle.pfr_made.proofs.BlockSignedMade.{HasParts2}
use Rattle.pfr_made.proofs.PiecesStand.{Stands, stands, stands_front, stands_behind, read_bytes, read_number}
use Rattle.pfr_made.proofs.Form2Keys.{HasKey, HasMarks, has_key, has_marks}
use Rattle.pfr_description.specs.Described.{Description}
use Rattle.pfr_description.specs.declared.keys.KeyDescription.{KeyDescription}
use Rattle.pfr_description.specs.declared.keys.PublicKey.{PublicKey}

-- ---- what stands where
pub record HasHead (block : List ℕ) (desc : Description) : Type 0 where
  pub magic : number_at block 128 ≡ 0xF27F28D8
  pub root_magic : number_at block 144 ≡ 0xA757A047
  pub root : HasKey block 148 desc.curve any any desc.root

pub has_head : (block : List ℕ) (desc : Description) → IsKeyValue desc.root → Stands block 128 (head_bytes desc) → HasHead block desc
unfolding head_bytes number_bytes zeros
has_head block desc root h =
    let key : List ℕ = key_bytes desc.curve any any desc.root in
    let a = stands_behind block 128 132 (number_bytes 0xF27F28D8) (zeros 12 ++ (number_bytes 0xA757A047 ++ key)) (omega (arith, length-number 0xF27F28D8)) h in
    let b = stands_behind block 132 144 (zeros 12) (number_bytes 0xA757A047 ++ key) (omega (arith, length-zeros 12)) a in
    let c = stands_behind block 144 148 (number_bytes 0xA757A047) key (omega (arith, length-number 0xA757A047)) b in
    record {
      magic = read_number block 128 0xF27F28D8 (omega arith) (stands_front block 128 (number_bytes 0xF27F28D8) (zeros 12 ++ (number_bytes 0xA757A047 ++ key)) h);
      root_magic = read_number block 144 0xA757A047 (omega arith) (stands_front block 144 (number_bytes 0xA757A047) key b);
      root = has_key block 148 desc.curve any any desc.root (omega arith) (omega arith) root c;
    }

record HasEntry (block : List ℕ) (desc : Description) (signer : KeyDescription) : Type 0 where
  pub magic : number_at block 260 ≡ 0x14711C30
  pub key : HasKey block 264 desc.curve signer.permissions signer.id signer.key
  pub signed : bytes_at block 264 112 ≡ signed_key desc signer
  pub marks : HasMarks block 376 (marks_on_key desc signer)

has_entry : (block : List ℕ) (desc : Description) (signer : KeyDescription) → IsSignerValue signer → Stands block 260 (key_entry desc signer) → HasEntry block desc signer
unfolding key_entry number_bytes
has_entry block desc signer value h =
    let key : List ℕ = signed_key desc signer in
    let marks : List ℕ = signature_bytes (marks_on_key desc signer) in
    let long = length-key2 desc.curve signer.permissions signer.id signer.key value.key in
    let a = stands_behind block 260 264 (number_bytes 0x14711C30) (key ++ marks) (omega (arith, length-number 0x14711C30)) h in
    let b = stands_behind block 264 376 key marks (omega (arith, long)) a in
    let there = stands_front block 264 key marks a in
    record {
      magic = read_number block 260 0x14711C30 (omega arith) (stands_front block 260 (number_bytes 0x14711C30) (key ++ marks) h);
      key = has_key block 264 desc.curve signer.permissions signer.id signer.key value.permissions (omega (arith, value.id)) value.key there;
      signed = read_bytes block 264 112 key long there;
      marks = has_marks block 376 (marks_on_key desc signer) (marks_long C384 desc.root key) b;
    }

pub record HasBlock0Entry (block : List ℕ) (at : ℕ) (marks : Ask) : Type 0 where
  pub magic : number_at block at ≡ 0x15364368
  pub signature : HasMarks block (at + 4) marks

pub has_block0_entry : (block : List ℕ) (at : ℕ) (key : PublicKey) (message : List ℕ) → Stands block at (block0_entry (long_marks_of key message)) → HasBlock0Entry block at (long_marks_of key message)
unfolding block0_entry number_bytes
has_block0_entry block at key message h =
    let marks : List ℕ = signature_bytes (long_marks_of key message) in
    let a = stands_behind block at (at + 4) (number_bytes 0x15364368) marks (omega (arith, length-number 0x15364368)) h in
    record {
      magic = read_number block at 0x15364368 (omega arith) (stands_front block at (number_bytes 0x15364368) marks h);
      signature = has_marks block (at + 4) (long_marks_of key message) (marks_long C384 key message) a;
    }

-- what is read of a block, in the order of its bytes
pub record HasParts (block : List ℕ) (desc : Description) (signer : KeyDescription) (block0 : List ℕ) : Type 0 where
  pub front : bytes_at block 0 128 ≡ block0
  pub head : HasHead block desc
  pub key_magic : number_at block 260 ≡ 0x14711C30
  pub key : HasKey block 264 desc.curve signer.permissions signer.id signer.key
  pub signed : bytes_at block 264 112 ≡ signed_key desc signer
  pub marks_on_key : HasMarks block 376 (marks_on_key desc signer)
  pub entry : HasBlock0Entry block 476 (long_marks_of signer.key block0)

pub has_parts : (block : List ℕ) (desc : Description) (signer : KeyDescription) (block0 : List ℕ) → IsKeyValue desc.root → IsSignerValue signer → HasParts2 desc signer block0 block
    → HasParts block desc signer block0
has_parts block desc signer block0 root value parts =
    let marks : Ask = long_marks_of signer.key block0 in
    let first = has_head block desc root (stands block 128 132 (head_bytes desc) (length-head2 desc root) parts.head) in
    let middle = has_entry block desc signer value (stands block 260 216 (key_entry desc signer) (length-key_entry2 desc signer value.key) parts.entry) in
    let end = has_block0_entry block 476 signer.key block0 (stands block 476 104 (block0_entry marks) (length-block0_entry2 marks (marks_long C384 signer.key block0)) parts.last) in
    record {
      front = parts.first;
      head = first;
      key_magic = middle.magic;
      key = middle.key;
      signed = middle.signed;
      marks_on_key = middle.marks;
      entry = end;
    }
