-- What the Block 0 that is made says.
use Rattle.std.proofs.Common.{◌≡◌, ℕ, ◌+◌, ◌^◌, ◌<◌, ◌≤◌, List, [], ◌∷◌, ◌++◌, length, arith, length-append}
use Rattle.sha2.specs.Sha256.{sha256}
use Rattle.sha2.specs.Sha512.{sha384}
use Rattle.sha2.proofs.Facts256.{length-sha256}
use Rattle.sha2.proofs.Facts512.{length-sha384}
use Rattle.pfr_flash.specs.Bytes.{bytes_at}
use Rattle.pfr_flash.specs.declared.names.ContentType.{ContentType}
use Rattle.pfr_flash.specs.declared.names.ContentType.TheVariants.{PchManifest, PchCapsule, BmcManifest, BmcCapsule, Controller, PchManifestCancel, PchCapsuleCancel, BmcManifestCancel, BmcCapsuleCancel}
use Rattle.pfr_flash.specs.Numbers.{number_at}
use Rattle.pfr_chain.specs.Block.{magic_of_block0}
use Rattle.pfr_chain.specs.Types.{number_of}
use Rattle.pfr_made.specs.Blocks.{chain_form, stated_length, block0_bytes}
use Rattle.pfr_made.specs.Fields.{number_bytes, padded}
use Rattle.pfr_made.proofs.BlockPartsMade.{length-number, length-padded}
use Rattle.pfr_made.proofs.PiecesStand.{padded_stands, pieces_stand, read_at, read_number, read_number_at}
use Rattle.pfr_description.specs.declared.form.Form.{Form}
use Rattle.pfr_description.specs.declared.form.Form.TheVariants.{One, Two}

-- numbers of four bytes
fits-magic : (form : Form) → magic_of_block0 (chain_form form) < 2 ^ 32
fits-magic One = omega arith
fits-magic Two = omega arith

fits-stated : (form : Form) → stated_length form < 2 ^ 32
fits-stated One = omega arith
fits-stated Two = omega arith

fits-type : (type : ContentType) → number_of type < 2 ^ 32
fits-type PchManifest = omega arith
fits-type PchCapsule = omega arith
fits-type BmcManifest = omega arith
fits-type BmcCapsule = omega arith
fits-type Controller = omega arith
fits-type PchManifestCancel = omega arith
fits-type PchCapsuleCancel = omega arith
fits-type BmcManifestCancel = omega arith
fits-type BmcCapsuleCancel = omega arith

-- what a Block 0 says
pub record IsMadeBlock0 (form : Form) (type : ContentType) (content head : List ℕ) : Type 0 where
  pub magic : number_at head 0 ≡ magic_of_block0 (chain_form form)
  pub content_length : number_at head 4 ≡ length content
  pub type_number : number_at head 8 ≡ number_of type
  pub stated : number_at head 12 ≡ stated_length form
  pub digest256 : bytes_at head 16 32 ≡ sha256 content
  pub digest384 : bytes_at head 48 48 ≡ sha384 content

-- a Block 0 has 128 bytes
pub length-block0 : (form : Form) (type : ContentType) (content : List ℕ) → length (block0_bytes form type content) ≡ 128
unfolding block0_bytes
length-block0 form type content =
    let a : List ℕ = number_bytes (magic_of_block0 (chain_form form)) in
    let b : List ℕ = number_bytes (length content) in
    let c : List ℕ = number_bytes (number_of type) in
    let d : List ℕ = number_bytes (stated_length form) in
    let four = length-number in
    let fits : length (a ++ b ++ c ++ d ++ sha256 content ++ sha384 content) ≤ 128 =
    simp length-append (omega (arith, four (magic_of_block0 (chain_form form)), four (length content), four (number_of type), four (stated_length form), length-sha256 content, length-sha384 content)) in
    length-padded 128 (a ++ b ++ c ++ d ++ sha256 content ++ sha384 content) fits

pub block0_made : (form : Form) (type : ContentType) (content : List ℕ) → length content < 2 ^ 32 → IsMadeBlock0 form type content (block0_bytes form type content)
unfolding block0_bytes
block0_made form type content fits =
    let a : List ℕ = number_bytes (magic_of_block0 (chain_form form)) in
    let b : List ℕ = number_bytes (length content) in
    let c : List ℕ = number_bytes (number_of type) in
    let d : List ℕ = number_bytes (stated_length form) in
    let e : List ℕ = sha256 content in
    let f : List ℕ = sha384 content in
    let all : List ℕ = padded 128 (a ++ b ++ c ++ d ++ e ++ f) in
    let stand = pieces_stand all a (b ∷ c ∷ d ∷ e ∷ f ∷ []) (padded_stands 128 (a ++ b ++ c ++ d ++ e ++ f)) in
    let long_a : length a ≡ 4 = length-number (magic_of_block0 (chain_form form)) in
    let long_b : length b ≡ 4 = length-number (length content) in
    let long_c : length c ≡ 4 = length-number (number_of type) in
    let long_d : length d ≡ 4 = length-number (stated_length form) in
    let long_e : length e ≡ 32 = length-sha256 content in
    record {
      magic = read_number all 0 (magic_of_block0 (chain_form form)) (fits-magic form) stand.0;
      content_length = read_number_at all (length a) 4 (length content) stand.1.0 long_a fits;
      type_number = read_number_at all (length a + length b) 8 (number_of type) stand.1.1.0 (omega (arith, long_a, long_b)) (fits-type type);
      stated = read_number_at all (length a + length b + length c) 12 (stated_length form) stand.1.1.1.0 (omega (arith, long_a, long_b, long_c)) (fits-stated form);
      digest256 = read_at all (length a + length b + length c + length d) 16 32 e stand.1.1.1.1.0 (omega (arith, long_a, long_b, long_c, long_d)) long_e;
      digest384 = read_at all (length a + length b + length c + length d + length e) 48 48 f stand.1.1.1.1.1.0 (omega (arith, long_a, long_b, long_c, long_d, long_e)) (length-sha384 content);
    }
