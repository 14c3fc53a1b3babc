-- What is made of a content in either form is a chain, by a store that is made of the same description.
use Rattle.std.proofs.Common.{◌≡◌, ℕ, ◌+◌, ◌^◌, ◌<◌, ◌≤◌, false, List, ◌++◌, length, Ok, refl, ◌∙◌, ap, subst, arith, length-append}
use Rattle.std.specs.Int.{bit_at}
use Rattle.pfr_engine.specs.Acceptance.{Acceptance}
use Rattle.pfr_flash.specs.Bytes.{bytes_at}
use Rattle.pfr_flash.specs.Names.{capsule_type, manifest_type}
use Rattle.pfr_flash.specs.declared.names.Bank.{Bank}
use Rattle.pfr_flash.specs.declared.names.Bank.TheVariants.{Bmc, Pch}
use Rattle.pfr_flash.specs.declared.names.ContentType.{ContentType}
use Rattle.pfr_chain.specs.Chain.{IsChain}
use Rattle.pfr_chain.specs.Keys.{MaySign}
use Rattle.pfr_chain.specs.Types.{is_certificate, permission_of}
use Rattle.pfr_fuses.specs.FusesOf.{fuses_of}
use Rattle.pfr_fuses.specs.FusesState.{FusesState, floor_of, row_of}
use Rattle.pfr_fuses.specs.RootSlot.{layout_of}
use Rattle.pfr_description.specs.Banks.{bank_of}
use Rattle.pfr_description.specs.Sound.{IsSound, IsSoundBank}
use Rattle.pfr_description.specs.Described.{Description}
use Rattle.pfr_description.specs.declared.form.Form.{Form}
use Rattle.pfr_description.specs.declared.form.Form.TheVariants.{One, Two}
use Rattle.pfr_description.specs.declared.keys.KeyDescription.{KeyDescription}
use Rattle.pfr_made.specs.Blocks.{block0_bytes, block_in, signed_bytes}
use Rattle.pfr_made.proofs.Chained.{made_chain}
use Rattle.pfr_made.specs.Store.{store_for}
use Rattle.pfr_made.specs.Store.{root_hash}
use Rattle.pfr_description.specs.Typed.{IsKeyValue, IsSignerValue, IsValue}
use Rattle.pfr_made.proofs.BlockSignedMade.{signed_len}
use Rattle.pfr_made.proofs.Form1Made.{chain_made_1}
use Rattle.pfr_made.proofs.Form2ChainMade.{chain_made_2}
use Rattle.pfr_made.proofs.BlockPartsMade.{rest_stands}
use Rattle.pfr_made.proofs.RowsMadeAccepted.{AcceptsBlock}
use Rattle.pfr_made.proofs.StoreMade.{floor_zero, fuses_made, made_fuses, row_clear}

-- ---- a description's parts
pub bank_sound : (desc : Description) (bank : Bank) → IsSound desc → IsSoundBank bank (bank_of desc bank)
unfolding bank_of
bank_sound desc Bmc h = h.bmc
bank_sound desc Pch h = h.pch

-- ---- the store of a description

abbrev pub fuses_for : Description → FusesState
fuses_for desc = made_fuses desc.form desc.curve desc.root desc.bmc.layout desc.pch.layout

pub fuses_there : (desc : Description) → IsValue desc → fuses_of (store_for desc) ≡ Ok (fuses_for desc)
fuses_there desc h = fuses_made desc.form desc.curve desc.root desc.bmc.layout desc.pch.layout h.bmc.layout h.pch.layout

pub layout_there : (desc : Description) (bank : Bank) → layout_of (fuses_for desc).provision bank ≡ (bank_of desc bank).layout
unfolding bank_of
layout_there desc Bmc = refl
layout_there desc Pch = refl

pub floor_there : (desc : Description) (bank : Bank) → floor_of (fuses_for desc) bank ≡ 0
floor_there desc bank = floor_zero desc.form desc.curve desc.root desc.bmc.layout desc.pch.layout bank

-- ---- the keys of a bank may sign
may_sign : (desc : Description) (key : KeyDescription) (type : ContentType) → IsSignerValue key → bit_at key.permissions (permission_of type) ≡ 1 → MaySign key.id key.permissions type (row_of (fuses_for desc) type)
may_sign desc key type signer permission = record {
  id = omega (arith, signer.id);
  permission = permission;
  not_cancelled = row_clear desc.form desc.curve desc.root desc.bmc.layout desc.pch.layout type key.id signer.id;
}

pub manifest_may : (desc : Description) (bank : Bank) → IsValue desc → IsSound desc
    → MaySign (bank_of desc bank).manifest_key.id (bank_of desc bank).manifest_key.permissions (manifest_type bank) (row_of (fuses_for desc) (manifest_type bank))
unfolding bank_of
manifest_may desc Bmc h s = may_sign desc desc.bmc.manifest_key (manifest_type Bmc) h.bmc.manifest_key s.bmc.manifest_key
manifest_may desc Pch h s = may_sign desc desc.pch.manifest_key (manifest_type Pch) h.pch.manifest_key s.pch.manifest_key

pub capsule_may : (desc : Description) (bank : Bank) → IsValue desc → IsSound desc
    → MaySign (bank_of desc bank).capsule_key.id (bank_of desc bank).capsule_key.permissions (capsule_type bank) (row_of (fuses_for desc) (capsule_type bank))
unfolding bank_of
capsule_may desc Bmc h s = may_sign desc desc.bmc.capsule_key (capsule_type Bmc) h.bmc.capsule_key s.bmc.capsule_key
capsule_may desc Pch h s = may_sign desc desc.pch.capsule_key (capsule_type Pch) h.pch.capsule_key s.pch.capsule_key

pub manifest_no_certificate : (bank : Bank) → is_certificate (manifest_type bank) ≡ false
manifest_no_certificate Bmc = refl
manifest_no_certificate Pch = refl

pub capsule_no_certificate : (bank : Bank) → is_certificate (capsule_type bank) ≡ false
capsule_no_certificate Bmc = refl
capsule_no_certificate Pch = refl

-- ---- a signed content where it stands
module _ (desc : Description) (key : KeyDescription) (type : ContentType) (content image : List ℕ) (place : ℕ) (root : IsKeyValue desc.root) (signer : IsSignerValue key)
    (stands : bytes_at image place (1024 + length content) ≡ signed_bytes desc key type content) where
  pub content_stands : bytes_at image (place + 1024) (length content) ≡ content
  unfolding signed_bytes
  content_stands =
      let block : List ℕ = block_in desc.form desc key (block0_bytes desc.form type content) in
      let long : length (block ++ content) ≡ 1024 + length content = signed_len desc key type content root signer in
      let first : length block ≡ 1024 = omega (arith, long, length-append block content) in
      subst (λ (n : ℕ). bytes_at image (place + n) (length content) ≡ content) first (rest_stands image place block content (ap (bytes_at image place) long ∙ stands))

  -- it is a chain, where the engine accepts its two signatures
  pub chain_made : (len : ℕ) (row : List ℕ) (accepts : Acceptance) → is_certificate type ≡ false → 0 < length content → length content < 2 ^ 32 → MaySign key.id key.permissions type row
      → AcceptsBlock desc.form accepts desc key type content → 1024 + length content ≤ len
      → IsChain image place len type (root_hash desc.form desc.curve desc.root) row accepts (made_chain place key content)
  chain_made len row accepts other some small may accepted fits = by_form desc.form refl accepted
    where
      by_form : (form : Form) → desc.form ≡ form → AcceptsBlock form accepts desc key type content → IsChain image place len type (root_hash desc.form desc.curve desc.root) row accepts (made_chain place key content)
      by_form One is a = chain_made_1 desc key type content image place len row accepts is root signer other some small may a.on_key a.on_block0 stands fits
      by_form Two is a = chain_made_2 desc key type content image place len row accepts is root signer other some small may a.on_key a.on_block0 stands fits
