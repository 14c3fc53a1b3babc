-- The capsule in a bank's image that is made is good, by the store that is made of the same description, for any engine that accepts the rows.
use Rattle.std.proofs.Common.{◌≡◌, ℕ, ◌+◌, ◌≤◌, min, List, length, Ok, refl, sym, ◌∙◌, ap, subst, arith, length-append}
use Rattle.pfr_engine.specs.Acceptance.{Acceptance}
use Rattle.pfr_flash.specs.Bytes.{bytes_at}
use Rattle.pfr_flash.specs.Names.{capsule_type, manifest_type}
use Rattle.pfr_flash.specs.declared.names.Bank.{Bank}
use Rattle.pfr_chain.specs.Chain.{IsChain}
use Rattle.pfr_chain.specs.declared.judging.Chain.{Chain}
use Rattle.pfr_fuses.specs.FusesState.{row_of}
use Rattle.pfr_fuses.specs.RootSlot.{layout_of}
use Rattle.pfr_capsule.specs.CapsuleState.{capsule_of}
use Rattle.pfr_capsule.specs.Good.{IsGood, Serves}
use Rattle.pfr_capsule.specs.PageHeader.{HasHeader}
use Rattle.pfr_capsule.specs.Pages.{pages_at}
use Rattle.pfr_capsule.specs.Signed.{IsSigned, end_of}
use Rattle.pfr_capsule.specs.declared.page_header.PageHeader.{PageHeader}
use Rattle.pfr_capsule.specs.declared.signed.Signed.{Signed}
use Rattle.pfr_manifest.specs.declared.region.Region.{Region}
use Rattle.pfr_description.specs.Banks.{bank_of}
use Rattle.pfr_description.specs.Sound.{IsSound}
use Rattle.pfr_description.specs.Described.{BankDescription}
use Rattle.pfr_description.specs.Described.{Description}
use Rattle.pfr_made.specs.Accepting.{AcceptsText}
use Rattle.pfr_made.specs.Blocks.{signed_bytes}
use Rattle.pfr_made.specs.Capsules.{capsule_body, page_count, pages_bytes}
use Rattle.pfr_made.proofs.Chained.{made_chain}
use Rattle.pfr_made.specs.Images.{signed_manifest}
use Rattle.pfr_made.specs.Made.{active_image, flash_of, judge_bank, rows_of}
use Rattle.pfr_made.specs.Manifests.{manifest_of, text_of}
use Rattle.pfr_made.specs.Store.{root_hash}
use Rattle.pfr_description.specs.Typed.{IsBankValue, IsValue}
use Rattle.pfr_made.proofs.BlankMade.{active_blank}
use Rattle.pfr_made.specs.Store.{store_for}
use Rattle.pfr_made.proofs.ChainMade.{bank_sound, capsule_may, capsule_no_certificate, chain_made, content_stands, fuses_for, fuses_there, layout_there, manifest_may, manifest_no_certificate}
use Rattle.pfr_made.proofs.JudgeMade.{IsMakeable}
use Rattle.pfr_made.proofs.ManifestMade.{manifest_regions, text_small}
use Rattle.pfr_made.proofs.ManifestMadeLengths.{text_some}
use Rattle.pfr_made.proofs.BlockPartsMade.{front_stands, rest_stands}
use Rattle.pfr_made.proofs.PagesHeader.{header_with}
use Rattle.pfr_made.proofs.PagesPlace.{payload_length}
use Rattle.pfr_made.proofs.RowsMadeAccepted.{accepted_rows}
use Rattle.pfr_made.proofs.ServesMade.{header_made, serves_made}
use Rattle.pfr_made.proofs.TrustMade as trust

module _ (desc : Description) (bank : Bank) (image staged : List ℕ) (is : IsValue desc) (judged : judge_bank desc bank image staged ≡ Ok tt) where
  abbrev part : BankDescription
  part = bank_of desc bank

  abbrev active : List ℕ
  active = active_image desc bank image

  abbrev flash : List ℕ
  flash = flash_of desc bank image staged

  abbrev place : ℕ
  place = part.layout.recovery_at

  abbrev text : List ℕ
  text = text_of part active

  abbrev body : List ℕ
  body = capsule_body desc bank active

  abbrev capsule : Chain
  capsule = made_chain place part.capsule_key body

  abbrev inner : Chain
  inner = made_chain (place + 1024) part.manifest_key text

  abbrev parts : Signed
  parts = record { capsule = capsule; inner = inner; manifest = manifest_of part active }

  abbrev header : PageHeader
  header = header_with (page_count part) (payload_length part active)

  told : IsMakeable desc bank image staged
  told = trust.told desc bank image staged is judged

  value : IsBankValue part
  value = trust.value desc bank image staged is judged

  size : length flash ≡ part.size
  size = trust.flash_size desc bank image staged is judged

  active_size : length active ≡ part.size
  active_size = trust.active_size desc bank image staged is judged

  -- ---- the body
  capsule_stands : bytes_at flash place (1024 + length body) ≡ signed_bytes desc part.capsule_key (capsule_type bank) body
  capsule_stands = trust.flash_capsule desc bank image staged is judged

  body_stands : bytes_at flash (place + 1024) (length body) ≡ body
  body_stands = content_stands desc part.capsule_key (capsule_type bank) body flash place is.root value.capsule_key capsule_stands

  length-manifest : length (signed_manifest desc bank active) ≡ 1024 + length text
  length-manifest = trust.length-manifest desc bank image staged is judged

  length-body : length body ≡ 1024 + length text + length (pages_bytes part active)
  unfolding capsule_body
  length-body = omega (arith, length-append (signed_manifest desc bank active) (pages_bytes part active), length-manifest)

  inner_stands : bytes_at flash (place + 1024) (1024 + length text) ≡ signed_bytes desc part.manifest_key (manifest_type bank) text
  unfolding capsule_body signed_manifest
  inner_stands =
      ap (bytes_at flash (place + 1024)) (sym length-manifest) ∙ front_stands flash (place + 1024) (signed_manifest desc bank active) (pages_bytes part active) body_stands

  text_stands : bytes_at flash (place + 1024 + 1024) (length text) ≡ text
  text_stands = content_stands desc part.manifest_key (manifest_type bank) text flash (place + 1024) is.root value.manifest_key inner_stands

  pages_begin : place + 1024 + length (signed_manifest desc bank active) ≡ end_of inner
  pages_begin = omega (arith, length-manifest)

  pages_stand : bytes_at flash (end_of inner) (length (pages_bytes part active)) ≡ pages_bytes part active
  unfolding capsule_body
  pages_stand = subst (λ (at : ℕ). bytes_at flash at (length (pages_bytes part active)) ≡ pages_bytes part active) pages_begin
      (rest_stands flash (place + 1024) (signed_manifest desc bank active) (pages_bytes part active) body_stands)

  pages_end : end_of inner + length (pages_bytes part active) ≡ end_of capsule
  pages_end = omega (arith, length-body)

  -- ---- the pages
  framed : HasHeader flash (end_of inner) (end_of capsule) header
  framed = subst (λ (end : ℕ). HasHeader flash (end_of inner) end header) pages_end (header_made flash active (end_of inner) part size active_size told.placed pages_stand)

  paged : IsSound desc → Serves flash (pages_at flash (end_of inner + 128) (page_count part)) (payload_length part active) (manifest_of part active).regions
  paged sound =
      subst (λ (regions : List Region). Serves flash (pages_at flash (end_of inner + 128) (page_count part)) (payload_length part active) regions) (sym (manifest_regions part active))
      (serves_made flash active (end_of inner) part size active_size told.placed pages_stand told.entries (bank_sound desc bank sound).regions
      (active_blank part image told.entries told.size))

  -- ---- the signatures
  module _ (sound : IsSound desc) (accepts : Acceptance) (accepted : AcceptsText accepts (rows_of desc bank active)) where
    capsule_chain : IsChain flash place part.layout.area_len (capsule_type bank) (root_hash desc.form desc.curve desc.root) (row_of (fuses_for desc) (capsule_type bank)) accepts capsule
    capsule_chain = chain_made desc part.capsule_key (capsule_type bank) body flash place is.root value.capsule_key capsule_stands part.layout.area_len
        (row_of (fuses_for desc) (capsule_type bank)) accepts (capsule_no_certificate bank) (omega (arith, length-body)) (omega (arith, told.capsule, value.layout.area_len))
        (capsule_may desc bank is sound) (accepted_rows accepts desc bank active is accepted).capsule told.capsule

    inner_fits : 1024 + length text ≤ min (length body) part.layout.manifest_len
    inner_fits = omega (arith, length-body, trust.text_long desc bank image staged is judged)

    inner_chain : IsChain flash (place + 1024) (min (length body) part.layout.manifest_len) (manifest_type bank) (root_hash desc.form desc.curve desc.root) (row_of (fuses_for desc) (manifest_type bank)) accepts inner
    inner_chain = chain_made desc part.manifest_key (manifest_type bank) text flash (place + 1024) is.root value.manifest_key inner_stands (min (length body) part.layout.manifest_len)
        (row_of (fuses_for desc) (manifest_type bank)) accepts (manifest_no_certificate bank) (text_some part active value) (text_small part active value told.entries)
        (manifest_may desc bank is sound) (accepted_rows accepts desc bank active is accepted).manifest inner_fits

    signed : IsSigned flash place part.layout.area_len bank (layout_of (fuses_for desc).provision bank) (fuses_for desc) accepts parts
    signed = record {
      capsule = capsule_chain;
      inner = rw (layout_there desc bank) inner_chain;
      spelled = trust.spelled_in desc bank image staged is judged (bytes_at flash (place + 1024 + 1024) (length text)) text_stands;
      svn = trust.svn_made desc bank image staged is judged;
    }

    -- ---- the law
    pub good_made : IsGood flash part.layout.recovery_at part.layout.area_len (store_for desc) bank accepts
    good_made = record {
      fuses = fuses_for desc;
      parts = parts;
      header = header;
      capsule = capsule_of flash place parts (pages_at flash (end_of inner + 128) (page_count part));
      provisioned = fuses_there desc is;
      layout = trust.layout_valid desc bank image staged is judged;
      signed = signed;
      framed = framed;
      paged = paged sound;
      capsule_key = refl;
      manifest_key = refl;
      found = refl;
    }
