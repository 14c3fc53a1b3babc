-- The block that is made of a content which a key signs, in both forms.
use Rattle.std.proofs.Common.{◌≡◌, ℕ, ◌+◌, ◌^◌, ◌<◌, ◌≤◌, false, List, [], ◌∷◌, ◌++◌, length, ◌∙◌, arith, length-append}
use Rattle.pfr_flash.specs.Bytes.{bytes_at}
use Rattle.pfr_flash.specs.declared.names.ContentType.{ContentType}
use Rattle.pfr_flash.specs.Numbers.{number_at}
use Rattle.pfr_chain.specs.Types.{is_certificate}
use Rattle.pfr_chain.specs.Keys.{any}
use Rattle.pfr_made.specs.Blocks.{block0_bytes, block_in, signed_bytes}
use Rattle.pfr_made.specs.Fields.{number_bytes, zeros}
use Rattle.pfr_made.specs.Form1 as form1
use Rattle.pfr_made.specs.Form2 as form2
use Rattle.pfr_made.specs.Marks.{marks_of}
use Rattle.pfr_description.specs.Typed.{IsKeyValue, IsSignerValue}
use Rattle.pfr_made.proofs.BlockPartsMade.{length-number, length-zeros, number_inside}
use Rattle.pfr_made.proofs.PiecesStand.{pieces_stand, read_at, read_number, read_number_at, whole_stands}
use Rattle.pfr_made.proofs.BlockHeadMade.{length-block0}
use Rattle.pfr_made.proofs.BlockMade.{IsMadeBlock, StandsAt, stands_at}
use Rattle.pfr_made.proofs.BlockFourMade.{length-four, first_of_four, second_of_four, third_of_four, fourth_of_four}
use Rattle.pfr_made.proofs.BlockLengthsMade.{marks_long, length-key1, length-head1, length-key_entry1, length-block0_entry1, length-key2, length-head2, length-key_entry2, length-block0_entry2}
use Rattle.pfr_description.specs.Described.{Description}
use Rattle.pfr_description.specs.declared.form.Form.{Form}
use Rattle.pfr_description.specs.declared.form.Form.TheVariants.{One, Two}
use Rattle.pfr_description.specs.declared.keys.KeyDescription.{KeyDescription}

-- ---- form 1
-- the parts of a block of form 1 over a Block 0
pub record HasParts1 (desc : Description) (key : KeyDescription) (block0 block : List ℕ) : Type 0 where
  pub long : length block ≡ 1024
  pub first : bytes_at block 0 128 ≡ block0
  pub head : bytes_at block 128 148 ≡ form1.head_bytes desc
  pub entry : bytes_at block 276 232 ≡ form1.key_entry desc key
  pub last : bytes_at block 508 104 ≡ form1.block0_entry (marks_of desc.curve key.key block0)

pub parts1 : (desc : Description) (key : KeyDescription) (block0 : List ℕ) → IsKeyValue desc.root → IsKeyValue key.key → length block0 ≡ 128 → HasParts1 desc key block0 (form1.block_of desc key block0)
unfolding form1.block_of
parts1 desc key block0 root signer long =
    let b : List ℕ = form1.head_bytes desc in
    let c : List ℕ = form1.key_entry desc key in
    let d : List ℕ = form1.block0_entry (marks_of desc.curve key.key block0) in
    let long_b : length b ≡ 148 = length-head1 desc root in
    let long_c : length c ≡ 232 = length-key_entry1 desc key signer in
    let long_d : length d ≡ 104 = length-block0_entry1 (marks_of desc.curve key.key block0) (marks_long desc.curve key.key block0) in
    record {
      long = length-four block0 b c d 148 232 104 long long_b long_c long_d (omega arith);
      first = first_of_four block0 b c d 148 232 104 long long_b long_c long_d (omega arith);
      head = second_of_four block0 b c d 148 232 104 long long_b long_c long_d (omega arith);
      entry = third_of_four block0 b c d 148 232 104 long long_b long_c long_d (omega arith);
      last = fourth_of_four block0 b c d 148 232 104 long long_b long_c long_d (omega arith);
    }

-- what Block 1 begins with: a magic, zeros, the root entry's magic and its key
pub record HasHead (block1_magic entry_magic count : ℕ) (key head : List ℕ) : Type 0 where
  pub magic : number_at head 0 ≡ block1_magic
  pub entry : number_at head 16 ≡ entry_magic
  pub root : bytes_at head 20 count ≡ key

head_read : (magic entry count : ℕ) (key : List ℕ) → magic < 2 ^ 32 → entry < 2 ^ 32 → length key ≡ count → HasHead magic entry count key (number_bytes magic ++ zeros 12 ++ number_bytes entry ++ key)
head_read magic entry count key fits_magic fits_entry long =
    let all : List ℕ = number_bytes magic ++ zeros 12 ++ number_bytes entry ++ key in
    let stand = pieces_stand all (number_bytes magic) (zeros 12 ∷ number_bytes entry ∷ key ∷ []) (whole_stands all) in
    let front : length (number_bytes magic) + length (zeros 12) ≡ 16 = omega (arith, length-number magic, length-zeros 12) in
    record {
      magic = read_number all 0 magic fits_magic stand.0;
      entry = read_number_at all (length (number_bytes magic) + length (zeros 12)) 16 entry stand.1.1.0 front fits_entry;
      root = read_at all (length (number_bytes magic) + length (zeros 12) + length (number_bytes entry)) 20 count key stand.1.1.1.0 (omega (arith, front, length-number entry)) long;
    }

pub head1 : (desc : Description) → IsKeyValue desc.root → HasHead 0xF27F28D7 0xA757A046 128 (form1.key_bytes desc.curve any any desc.root) (form1.head_bytes desc)
unfolding form1.head_bytes
head1 desc root = head_read 0xF27F28D7 0xA757A046 128 (form1.key_bytes desc.curve any any desc.root) (omega arith) (omega arith) (length-key1 desc.curve any any desc.root root)

-- ---- form 2
-- the parts of a block of form 2 over a Block 0
pub record HasParts2 (desc : Description) (key : KeyDescription) (block0 block : List ℕ) : Type 0 where
  pub long : length block ≡ 1024
  pub first : bytes_at block 0 128 ≡ block0
  pub head : bytes_at block 128 132 ≡ form2.head_bytes desc
  pub entry : bytes_at block 260 216 ≡ form2.key_entry desc key
  pub last : bytes_at block 476 104 ≡ form2.block0_entry (form2.long_marks_of key.key block0)

pub parts2 : (desc : Description) (key : KeyDescription) (block0 : List ℕ) → IsKeyValue desc.root → IsKeyValue key.key → length block0 ≡ 128 → HasParts2 desc key block0 (form2.block_of desc key block0)
unfolding form2.block_of
parts2 desc key block0 root signer long =
    let b : List ℕ = form2.head_bytes desc in
    let c : List ℕ = form2.key_entry desc key in
    let d : List ℕ = form2.block0_entry (form2.long_marks_of key.key block0) in
    let long_b : length b ≡ 132 = length-head2 desc root in
    let long_c : length c ≡ 216 = length-key_entry2 desc key signer in
    let long_d : length d ≡ 104 = length-block0_entry2 (form2.long_marks_of key.key block0) (marks_long _ key.key block0) in
    record {
      long = length-four block0 b c d 132 216 104 long long_b long_c long_d (omega arith);
      first = first_of_four block0 b c d 132 216 104 long long_b long_c long_d (omega arith);
      head = second_of_four block0 b c d 132 216 104 long long_b long_c long_d (omega arith);
      entry = third_of_four block0 b c d 132 216 104 long long_b long_c long_d (omega arith);
      last = fourth_of_four block0 b c d 132 216 104 long long_b long_c long_d (omega arith);
    }

pub head2 : (desc : Description) → IsKeyValue desc.root → HasHead 0xF27F28D8 0xA757A047 112 (form2.key_bytes desc.curve any any desc.root) (form2.head_bytes desc)
unfolding form2.head_bytes
head2 desc root = head_read 0xF27F28D8 0xA757A047 112 (form2.key_bytes desc.curve any any desc.root) (omega arith) (omega arith) (length-key2 desc.curve any any desc.root root)

-- ---- both
is_made : (form : Form) (desc : Description) (key : KeyDescription) (type : ContentType) (content : List ℕ) → IsKeyValue desc.root → IsKeyValue key.key
    → IsMadeBlock form type content (block_in form desc key (block0_bytes form type content))
is_made One desc key type content root signer =
    let p = parts1 desc key (block0_bytes One type content) root signer (length-block0 One type content) in
    record {
      long = p.long;
      block0 = p.first;
      block1_magic = number_inside (form1.block_of desc key (block0_bytes One type content)) (form1.head_bytes desc) 128 148 0 p.head (omega arith) ∙ (head1 desc root).magic;
    }
is_made Two desc key type content root signer =
    let p = parts2 desc key (block0_bytes Two type content) root signer (length-block0 Two type content) in
    record {
      long = p.long;
      block0 = p.first;
      block1_magic = number_inside (form2.block_of desc key (block0_bytes Two type content)) (form2.head_bytes desc) 128 132 0 p.head (omega arith) ∙ (head2 desc root).magic;
    }

-- The signed bytes are the block's 1,024, and the content's.
pub signed_len : (desc : Description) (key : KeyDescription) (type : ContentType) (content : List ℕ) → IsKeyValue desc.root → IsSignerValue key
    → length (signed_bytes desc key type content) ≡ 1024 + length content
unfolding signed_bytes
signed_len desc key type content root signer =
    let made = is_made desc.form desc key type content root signer.key in
    simp length-append (omega (arith, made.long))

-- Where the signed bytes stand, the block with its content stands.
pub block_made : (desc : Description) (key : KeyDescription) (type : ContentType) (content image : List ℕ) (place len : ℕ) → IsKeyValue desc.root → IsSignerValue key → is_certificate type ≡ false
    → 0 < length content → length content < 2 ^ 32 → bytes_at image place (1024 + length content) ≡ signed_bytes desc key type content → 1024 + length content ≤ len
    → StandsAt desc.form type content (block_in desc.form desc key (block0_bytes desc.form type content)) image place len
unfolding signed_bytes
block_made desc key type content image place len root signer other some small is fits =
    stands_at desc.form type content (block_in desc.form desc key (block0_bytes desc.form type content)) image place len
    (is_made desc.form desc key type content root signer.key)
    (record { not_empty = some; small = small; certificate = λ h. cc })
    is fits
