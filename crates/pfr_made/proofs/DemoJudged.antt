-- What is made for a demo breaks no rule.
use Rattle.std.proofs.Common.{◌≡◌, ◌∙◌, ap, sym, refl, ℕ, zero, suc, ◌+◌, ◌*◌, ◌/◌, ◌^◌, ◌<◌, ◌≤◌, List, [], length, length-append, Ok, subst, arith}
use Rattle.std.proofs.lemmas.Bool.{le-leb}
use Rattle.std.proofs.lemmas.Bool.Decides.{Decides-eqb}
use Rattle.std.proofs.lemmas.List.{length_push}
use Rattle.pfr_flash.specs.Names.{capsule_type, manifest_type}
use Rattle.pfr_flash.specs.declared.names.Bank.{Bank}
use Rattle.pfr_flash.specs.declared.names.Bank.TheVariants.{Bmc, Pch}
use Rattle.pfr_description.specs.Banks.{bank_of}
use Rattle.pfr_description.specs.Described.{BankDescription, Description}
use Rattle.pfr_description.specs.Typed.{IsBankValue, IsValue}
use Rattle.pfr_made.specs.Capsules.{capsule_body, page_count, pages_bytes, signed_capsule}
use Rattle.pfr_made.specs.Demo.{IsDemoSize, bmc_image, data_region, demo_bank, demo_description, demo_image, drawn, newer_active, newer_image, pch_image, state_after, static_length, static_region}
use Rattle.pfr_made.specs.Entries.{judge_entries}
use Rattle.pfr_made.specs.Images.{signed_manifest}
use Rattle.pfr_made.specs.Judge.{fit_capsule, fit_manifest, judge_image, judge_place, judge_places}
use Rattle.pfr_made.specs.Made.{active_image, judge_bank, judge_fits, judge_given}
use Rattle.pfr_made.specs.Manifests.{entry_bytes, manifest_length, text_of}
use Rattle.pfr_made.specs.Pages.{payload_of}
use Rattle.pfr_made.specs.declared.page_map.PageMap.TheVariants as maps
use Rattle.pfr_made.proofs.AreasMade.{length-blanks}
use Rattle.pfr_made.proofs.BlockSignedMade.{signed_len}
use Rattle.pfr_made.proofs.DemoPayload.{payload_short}
use Rattle.pfr_made.proofs.DemoPlaced.{entries_good, place_good}
use Rattle.pfr_made.proofs.DemoSound.{demo_sound}
use Rattle.pfr_made.proofs.ManifestMadeLengths.{manifest_len_made, region_short}
use Rattle.pfr_made.proofs.PagesBits.{length-map_bytes}
use Rattle.pfr_made.proofs.PagesHeader.{length-page_header}
use Rattle.pfr_made.proofs.RowsMadeAccepted.{bank_value}

-- ---- when a bank breaks no rule
bank_passes : (desc : Description) (bank : Bank) (image staged : List ℕ) → judge_place bank (bank_of desc bank) ≡ Ok tt → length image ≡ (bank_of desc bank).size
    → judge_entries (bank_of desc bank) ≡ Ok tt → 1024 + manifest_length (bank_of desc bank) (active_image desc bank image) ≤ (bank_of desc bank).layout.manifest_len
    → 1024 + length (capsule_body desc bank (active_image desc bank image)) ≤ (bank_of desc bank).layout.area_len
    → length staged ≤ (bank_of desc bank).layout.area_len → judge_bank desc bank image staged ≡ Ok tt
unfolding judge_given judge_fits judge_image fit_manifest fit_capsule
bank_passes desc bank image staged placed long entries manifest capsule fits =
    rw (placed, (Decides-eqb (length image) (bank_of desc bank).size).1 long, entries, le-leb _ _ manifest, le-leb _ _ capsule, le-leb _ _ fits) refl

-- ---- how long the things are that are made
demo_manifest : (svn sectors : ℕ) (active : List ℕ) → manifest_length (demo_bank svn sectors) active ≤ 287
unfolding entry_bytes demo_bank
demo_manifest svn sectors active =
    simp length-append (omega (arith, region_short active (static_region sectors), region_short active (data_region sectors)))

capsule_len : (desc : Description) (bank : Bank) (active : List ℕ) → IsValue desc → length (capsule_body desc bank active)
    ≡ 1152 + manifest_length (bank_of desc bank) active + 2 * (page_count (bank_of desc bank) / 8) + length (payload_of (bank_of desc bank) active (page_count (bank_of desc bank)))
unfolding capsule_body pages_bytes signed_manifest
capsule_len desc bank active is =
    let part : BankDescription = bank_of desc bank in
    let value : IsBankValue part = bank_value desc bank is in
    let payload = payload_of part active (page_count part) in
    let signed = signed_len desc part.manifest_key (manifest_type bank) (text_of part active) is.root value.manifest_key in
    let text = manifest_len_made part active value in
    let header = length-page_header (page_count part) (length payload) in
    let erase = length-map_bytes part maps.Erase (page_count part / 8) in
    let copy = length-map_bytes part maps.Copy (page_count part / 8) in
    simp length-append (omega (arith, signed, text, header, erase, copy))

drawn_len : (state count : ℕ) → length (drawn state count) ≡ count
unfolding drawn
drawn_len state zero = refl
drawn_len state (suc count) = length_push (drawn state count) (state_after state (suc count) / 2 ^ 24) ∙ omega (arith, drawn_len state count)

image_len : (state sectors : ℕ) → IsDemoSize sectors → length (demo_image state sectors) ≡ 4096 * sectors
unfolding demo_image
image_len state sectors size =
    simp length-append (omega (arith, length-blanks 65536, drawn_len state (static_length sectors), length-blanks (3072 * sectors), size.least))

-- ---- the laws
bank_is : (bank : Bank) (svn sectors : ℕ) → bank_of (demo_description svn sectors) bank ≡ demo_bank svn sectors
unfolding bank_of demo_description
bank_is Bmc svn sectors = refl
bank_is Pch svn sectors = refl

area_is : (svn sectors : ℕ) → (demo_bank svn sectors).layout.area_len ≡ 1024 * sectors
unfolding demo_bank
area_is svn sectors = refl

manifest_area_is : (svn sectors : ℕ) → (demo_bank svn sectors).layout.manifest_len ≡ 8192
unfolding demo_bank
manifest_area_is svn sectors = refl

size_is : (svn sectors : ℕ) → (demo_bank svn sectors).size ≡ 4096 * sectors
unfolding demo_bank
size_is svn sectors = refl

capsule_fits : (bank : Bank) (svn sectors : ℕ) (active : List ℕ) → svn < 256 → IsDemoSize sectors → 1024 + length (capsule_body (demo_description svn sectors) bank active) ≤ 1024 * sectors
unfolding demo_bank
capsule_fits bank svn sectors active small size =
    let is = (demo_sound svn sectors small size).values in
    let pages = page_count (demo_bank svn sectors) in
    let payload = payload_short svn sectors active pages size in
    let long : length (capsule_body (demo_description svn sectors) bank active) ≡ 1152 + manifest_length (demo_bank svn sectors) active + 2 * (pages / 8) + length (payload_of (demo_bank svn sectors) active pages) =
    capsule_len (demo_description svn sectors) bank active is
    ∙ ap (λ (part : BankDescription). 1152 + manifest_length part active + 2 * (page_count part / 8) + length (payload_of part active (page_count part))) (bank_is bank svn sectors) in
    omega (arith, long, demo_manifest svn sectors active, payload.1, size.least, size.most)

pub area_of : (bank : Bank) (svn sectors : ℕ) → (bank_of (demo_description svn sectors) bank).layout.area_len ≡ 1024 * sectors
area_of bank svn sectors = ap (λ (part : BankDescription). part.layout.area_len) (bank_is bank svn sectors) ∙ area_is svn sectors

-- a bank of a demo
pub bank_good : (bank : Bank) (svn sectors : ℕ) (image staged : List ℕ) → svn ≤ 127 → IsDemoSize sectors → length image ≡ 4096 * sectors
    → length staged ≤ 1024 * sectors → judge_bank (demo_description svn sectors) bank image staged ≡ Ok tt
bank_good bank svn sectors image staged low size long fits =
    let desc : Description = demo_description svn sectors in
    let is = bank_is bank svn sectors in
    let active : List ℕ = active_image desc bank image in
    let area = area_of bank svn sectors in
    let manifest_area : (bank_of desc bank).layout.manifest_len ≡ 8192 = ap (λ (part : BankDescription). part.layout.manifest_len) is ∙ manifest_area_is svn sectors in
    let manifest : manifest_length (bank_of desc bank) active ≤ 287 =
    subst (λ (part : BankDescription). manifest_length part active ≤ 287) (sym is) (demo_manifest svn sectors active) in
    let capsule = capsule_fits bank svn sectors active (omega arith) size in
    bank_passes desc bank image staged (ap (judge_place bank) is ∙ place_good bank svn sectors size)
    (long ∙ sym (ap (λ (part : BankDescription). part.size) is ∙ size_is svn sectors)) (ap judge_entries is ∙ entries_good svn sectors low size)
    (omega (arith, manifest, manifest_area)) (omega (arith, capsule, area)) (omega (arith, fits, area))

-- an update of a demo fits where it is staged
update_fits : (number sectors : ℕ) → IsDemoSize sectors → length (signed_capsule (demo_description 2 sectors) Bmc (newer_active number sectors)) ≤ 1024 * sectors
unfolding signed_capsule
update_fits number sectors size =
    let desc : Description = demo_description 2 sectors in
    let is = (demo_sound 2 sectors (omega arith) size).values in
    let body : List ℕ = capsule_body desc Bmc (newer_active number sectors) in
    let fits = capsule_fits Bmc 2 sectors (newer_active number sectors) (omega arith) size in
    omega (arith, fits, signed_len desc (bank_of desc Bmc).capsule_key (capsule_type Bmc) body is.root (bank_value desc Bmc is).capsule_key)

-- the three of a demo, and its store
pub demo_judged : (number sectors : ℕ) → IsDemoSize sectors → (judge_bank (demo_description 2 sectors) Bmc (newer_image number sectors) [] ≡ Ok tt)
    × (judge_bank (demo_description 1 sectors) Bmc (bmc_image number sectors) (signed_capsule (demo_description 2 sectors) Bmc (newer_active number sectors)) ≡ Ok tt)
    × (judge_bank (demo_description 1 sectors) Pch (pch_image number sectors) [] ≡ Ok tt)
demo_judged number sectors size = (
  bank_good Bmc 2 sectors (newer_image number sectors) [] (omega arith) size (image_len _ sectors size) (omega arith),
  bank_good Bmc 1 sectors (bmc_image number sectors) _ (omega arith) size (image_len number sectors size) (update_fits number sectors size),
  bank_good Pch 1 sectors (pch_image number sectors) [] (omega arith) size (image_len _ sectors size) (omega arith),
)

pub demo_placed : (svn sectors : ℕ) → IsDemoSize sectors → judge_places (demo_description svn sectors) ≡ Ok tt
unfolding judge_places demo_description
demo_placed svn sectors size = rw (place_good Bmc svn sectors size, place_good Pch svn sectors size) refl
