-- What is made of a content in form 2 is a chain.
use Rattle.std.proofs.Common.{◌≡◌, ℕ, ◌+◌, ◌<◌, ◌≤◌, ◌^◌, false, List, length, Some, refl, sym, subst}
use Rattle.pfr_engine.specs.Acceptance.{Acceptance}
use Rattle.pfr_flash.specs.Bytes.{bytes_at}
use Rattle.pfr_flash.specs.declared.names.ContentType.{ContentType}
use Rattle.pfr_chain.specs.Types.{is_certificate}
use Rattle.pfr_chain.specs.Keys.{MaySign}
use Rattle.pfr_chain.specs.Chain.{IsBlock1, IsChain}
use Rattle.pfr_chain.specs.declared.form.Form as chain_forms
use Rattle.pfr_made.specs.Blocks.{block0_bytes, block_in, signed_bytes}
use Rattle.pfr_made.proofs.Chained.{made_chain}
use Rattle.pfr_made.specs.Form2.{block_of}
use Rattle.pfr_made.specs.Store.{root_hash}
use Rattle.pfr_description.specs.Typed.{IsKeyValue, IsSignerValue}
use Rattle.pfr_made.proofs.BlockHeadMade.{length-block0}
use Rattle.pfr_made.proofs.BlockMade.{StandsAt}
use Rattle.pfr_made.proofs.BlockSignedMade.{parts2, block_made}
use Rattle.pfr_made.proofs.Form2Block.{has_parts}
use Rattle.pfr_made.proofs.Form2Made.{AcceptsKey, AcceptsBlock0, form2_made}
use Rattle.pfr_description.specs.Described.{Description}
use Rattle.pfr_description.specs.declared.form.Form.{Form}
use Rattle.pfr_description.specs.declared.form.Form.TheVariants.{Two}
use Rattle.pfr_description.specs.declared.keys.KeyDescription.{KeyDescription}

chain_where : (desc : Description) (key : KeyDescription) (type : ContentType) (content image : List ℕ) (place len : ℕ) (row : List ℕ) (accepts : Acceptance)
    → IsKeyValue desc.root → IsSignerValue key → is_certificate type ≡ false → MaySign key.id key.permissions type row
    → AcceptsKey accepts desc key → AcceptsBlock0 accepts desc key (block0_bytes Two type content)
    → StandsAt Two type content (block_of desc key (block0_bytes Two type content)) image place len
    → IsChain image place len type (root_hash Two desc.curve desc.root) row accepts (made_chain place key content)
chain_where desc key type content image place len row accepts root signer no_certificate may on_key on_block0 there =
    let block0 : List ℕ = block0_bytes Two type content in
    let block : List ℕ = block_of desc key block0 in
    let whole = parts2 desc key block0 root signer.key (length-block0 Two type content) in
    let parts = has_parts block desc key block0 root signer whole in
    let made = form2_made block desc key block0 whole.long parts type row accepts no_certificate may on_key on_block0 in
    let P : List ℕ → Type 0 = λ bytes. IsBlock1 chain_forms.TheVariants.Two bytes type (root_hash Two desc.curve desc.root) row accepts (Some key.id) in
    let Q : chain_forms.Form → Type 0 = λ form. IsBlock1 form (bytes_at image place 1024) type (root_hash Two desc.curve desc.root) row accepts (Some key.id) in
    record {
      blen = 1024;
      block = there.at;
      signed = subst Q (sym there.has_form) (subst P (sym there.is_block) made);
      content_at = refl;
      length = there.long;
    }

-- A content that a key signs in form 2 is a chain where it stands behind its block, from the root that the store is given.
pub chain_made_2 : (desc : Description) (key : KeyDescription) (type : ContentType) (content image : List ℕ) (place len : ℕ) (row : List ℕ) (accepts : Acceptance)
    → desc.form ≡ Two → IsKeyValue desc.root → IsSignerValue key → is_certificate type ≡ false → 0 < length content → length content < 2 ^ 32
    → MaySign key.id key.permissions type row
    → AcceptsKey accepts desc key → AcceptsBlock0 accepts desc key (block0_bytes desc.form type content)
    → bytes_at image place (1024 + length content) ≡ signed_bytes desc key type content → 1024 + length content ≤ len
    → IsChain image place len type (root_hash desc.form desc.curve desc.root) row accepts (made_chain place key content)
chain_made_2 desc key type content image place len row accepts two root signer no_certificate some small may on_key on_block0 is fits =
    let there = block_made desc key type content image place len root signer no_certificate some small is fits in
    let P : Form → Type 0 = λ form. StandsAt form type content (block_in form desc key (block0_bytes form type content)) image place len in
    let Q : Form → Type 0 = λ form. AcceptsBlock0 accepts desc key (block0_bytes form type content) in
    let R : Form → Type 0 = λ form. IsChain image place len type (root_hash form desc.curve desc.root) row accepts (made_chain place key content) in
    subst R (sym two) (chain_where desc key type content image place len row accepts root signer no_certificate may on_key (subst Q two on_block0) (subst P two there))
