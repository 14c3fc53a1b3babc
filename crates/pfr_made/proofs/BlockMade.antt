-- A block that begins with a made Block 0, with its content behind it, is the block of that content.
use Rattle.std.proofs.Common.{◌≡◌, ℕ, ◌+◌, ◌^◌, ◌<◌, ◌≤◌, true, List, ◌++◌, length, take, drop, refl, sym, ap, ◌∙◌, arith}
use Rattle.std.proofs.lemmas.List.{take-take}
use Rattle.sha2.specs.Sha256.{sha256}
use Rattle.sha2.specs.Sha512.{sha384}
use Rattle.pfr_flash.specs.Bytes.{bytes_at}
use Rattle.pfr_flash.specs.declared.names.ContentType.{ContentType}
use Rattle.pfr_flash.specs.Numbers.{number_at}
use Rattle.pfr_chain.specs.Types.{is_certificate}
use Rattle.pfr_chain.specs.Block.{magic_of_block0, magic_of_block1, block_length, head_at, content_length, BlockAt}
use Rattle.pfr_made.specs.Blocks.{chain_form, stated_length, block0_bytes}
use Rattle.pfr_made.proofs.BlockPartsMade.{last_part, first_part, inside}
use Rattle.pfr_made.proofs.BlockHeadMade.{IsMadeBlock0, block0_made}
use Rattle.pfr_description.specs.declared.form.Form.{Form}
use Rattle.pfr_description.specs.declared.form.Form.TheVariants.{One, Two}

-- a block of 1,024 bytes that begins with the made Block 0 of a content
pub record IsMadeBlock (form : Form) (type : ContentType) (content block : List ℕ) : Type 0 where
  pub long : length block ≡ 1024
  pub block0 : bytes_at block 0 128 ≡ block0_bytes form type content
  pub block1_magic : number_at block 128 ≡ magic_of_block1 (chain_form form)

-- what may stand behind a block of a type
pub record IsContent (type : ContentType) (content : List ℕ) : Type 0 where
  pub not_empty : 0 < length content
  pub small : length content < 2 ^ 32
  pub certificate : is_certificate type ≡ true → length content ≡ 128

-- a block and its content at a place, and what they are there
pub record StandsAt (form : Form) (type : ContentType) (content block image : List ℕ) (place len : ℕ) : Type 0 where
  pub at : BlockAt image place len type 1024
  pub has_form : at.form ≡ chain_form form
  pub is_block : bytes_at image place 1024 ≡ block
  pub is_head : head_at image place ≡ block0_bytes form type content
  pub long : length content ≡ content_length (head_at image place)

says_length : (form : Form) (head : List ℕ) → number_at head 12 ≡ stated_length form → 1024 ≡ block_length (chain_form form) head
says_length One head h = refl
says_length Two head h = sym h

pub stands_at : (form : Form) (type : ContentType) (content block image : List ℕ) (place len : ℕ) → IsMadeBlock form type content block → IsContent type content
    → bytes_at image place (1024 + length content) ≡ block ++ content → 1024 + length content ≤ len → StandsAt form type content block image place len
stands_at form type content block image place len made given is fits =
    let count : ℕ = length content in
    let b : bytes_at image place 1024 ≡ block = sym (take-take 1024 (1024 + count) (drop place image) (omega arith)) ∙ ap (take 1024) is ∙ first_part block content 1024 made.long in
    let c : bytes_at image (place + 1024) count ≡ content = inside image (block ++ content) place (1024 + count) 1024 count is (omega arith) ∙ last_part block content 1024 count made.long refl in
    let head : head_at image place ≡ block0_bytes form type content =
    sym (take-take 128 1024 (drop place image) (omega arith)) ∙ ap (take 128) b ∙ made.block0 in
    let said : IsMadeBlock0 form type content (block0_bytes form type content) = block0_made form type content given.small in
    let number : (at x : ℕ) → number_at (block0_bytes form type content) at ≡ x → number_at (head_at image place) at ≡ x = λ at x h. ap (λ (bytes : List ℕ). number_at bytes at) head ∙ h in
    let long : content_length (head_at image place) ≡ count = number 4 count said.content_length in
    let content_there : bytes_at image (place + 1024) (content_length (head_at image place)) ≡ content = ap (bytes_at image (place + 1024)) long ∙ c in
    record {
      at = record {
        form = chain_form form;
        block0_magic = number 0 (magic_of_block0 (chain_form form)) said.magic;
        block1_magic = ap (λ (bytes : List ℕ). number_at bytes 128) b ∙ made.block1_magic;
        type_number = number 8 _ said.type_number;
        block_length = says_length form (head_at image place) (number 12 (stated_length form) said.stated);
        right_length = record { least = omega arith; most = omega arith; multiple = refl };
        not_empty = omega (arith, long, given.not_empty);
        within = omega (arith, long);
        certificate = λ is. long ∙ given.certificate is;
        digest256 = ap sha256 content_there ∙ sym said.digest256 ∙ ap (λ (bytes : List ℕ). bytes_at bytes 16 32) (sym head);
        digest384 = ap sha384 content_there ∙ sym said.digest384 ∙ ap (λ (bytes : List ℕ). bytes_at bytes 48 48) (sym head);
      };
      has_form = refl;
      is_block = b;
      is_head = head;
      long = sym long;
    }
