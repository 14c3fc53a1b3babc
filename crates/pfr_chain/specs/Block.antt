-- A signature block: Block 0 of 128 bytes, which both forms share, then Block 1. The content is behind the block.
use Rattle.std.specs.Prelude.{◌≡◌, ℕ, ◌+◌, ◌%◌, ◌≤◌, ◌<◌, true, List}
use Rattle.sha2.specs.Sha256.{sha256}
use Rattle.sha2.specs.Sha512.{sha384}
use Rattle.pfr_flash.specs.Bytes.{bytes_at}
use Rattle.pfr_flash.specs.declared.names.ContentType.{ContentType}
use Rattle.pfr_flash.specs.Numbers.{number_at}
use Rattle.pfr_chain.specs.Types.{number_of, is_certificate}
use Rattle.pfr_chain.specs.declared.form.Form.{Form}
use Rattle.pfr_chain.specs.declared.form.Form.TheVariants.{One, Two}

-- the magics of Block 0 and of Block 1
abbrev pub magic_of_block0 : Form → ℕ
magic_of_block0 One = 0xB6EAFD19
magic_of_block0 Two = 0xB6EAFD1A

abbrev pub magic_of_block1 : Form → ℕ
magic_of_block1 One = 0xF27F28D7
magic_of_block1 Two = 0xF27F28D8

-- A block of form 1 has 1,024 bytes. One of form 2 says how many it has.
abbrev pub block_length : Form → List ℕ → ℕ
block_length One head = 1024
block_length Two head = number_at head 12

-- a multiple of 128 from 1,024 to 8,320
pub record IsBlockLength (count : ℕ) : Type 0 where
  pub least : 1024 ≤ count
  pub most : count ≤ 8320
  pub multiple : count % 128 ≡ 0

-- Block 0 of a block at a place, and the length of its content
abbrev pub head_at : List ℕ → ℕ → List ℕ
head_at image place = bytes_at image place 128

abbrev pub content_length : List ℕ → ℕ
content_length head = number_at head 4

-- A signature block of blen bytes at a place, with a content of this type behind it, both within len bytes.
pub record BlockAt (image : List ℕ) (place len : ℕ) (type : ContentType) (blen : ℕ) : Type 0 where
  pub form : Form
  pub block0_magic : number_at (head_at image place) 0 ≡ magic_of_block0 form
  pub block1_magic : number_at (bytes_at image place blen) 128 ≡ magic_of_block1 form
  pub type_number : number_at (head_at image place) 8 ≡ number_of type
  pub block_length : blen ≡ block_length form (head_at image place)
  pub right_length : IsBlockLength blen
  pub not_empty : 0 < content_length (head_at image place)
  pub within : blen + content_length (head_at image place) ≤ len
  pub certificate : is_certificate type ≡ true → content_length (head_at image place) ≡ 128
  pub digest256 : sha256 (bytes_at image (place + blen) (content_length (head_at image place))) ≡ bytes_at (head_at image place) 16 32
  pub digest384 : sha384 (bytes_at image (place + blen) (content_length (head_at image place))) ≡ bytes_at (head_at image place) 48 48
