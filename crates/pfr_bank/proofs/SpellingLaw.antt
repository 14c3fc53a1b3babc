-- What an image holds: what it is judged to hold and is trusted by, for as long as its bytes stay.
use Rattle.std.proofs.Common.{◌≡◌, ◌∙◌, sym, ap, subst, refl, ℕ, ◌+◌, ◌-◌, ◌≤◌, List, length, get_or, Ok, arith}
use Rattle.pfr_flash.specs.Bytes.{AreBytes, bytes_at}
use Rattle.pfr_flash.specs.Layout.{IsValidLayout}
use Rattle.pfr_flash.specs.Names.{manifest_type}
use Rattle.pfr_flash.specs.declared.layout.Layout.{Layout}
use Rattle.pfr_flash.specs.declared.names.Bank.{Bank}
use Rattle.pfr_flash.specs.declared.names.ContentType.{ContentType}
use Rattle.pfr_engine.specs.Acceptance.{Acceptance}
use Rattle.pfr_chain.specs.Block.{BlockAt, block_length, content_length, head_at, magic_of_block0}
use Rattle.pfr_chain.specs.declared.form.Form.{Form}
use Rattle.pfr_chain.specs.declared.form.Form.TheVariants.{One, Two}
use Rattle.pfr_chain.proofs.MovedLaw.{BlockAt-moved}
use Rattle.pfr_fuses.specs.FusesState.{FusesState}
use Rattle.pfr_fuses.specs.RootSlot.{layout_of}
use Rattle.pfr_manifest.specs.Manifest.{IsManifestOf}
use Rattle.pfr_manifest.specs.Regions.{is_static}
use Rattle.pfr_manifest.specs.declared.manifest.Manifest.{Manifest}
use Rattle.pfr_manifest.specs.declared.region.Region.{Region}
use Rattle.pfr_manifest.proofs.FindingLaw.{manifest_is_one}
use Rattle.pfr_auth.specs.Judge.{judge_active}
use Rattle.pfr_auth.specs.Lasting.{KeepsTrustedBytes, SameAt}
use Rattle.pfr_auth.specs.Trusted.{IsSigned, IsTrusted}
use Rattle.pfr_auth.proofs.LastingLaw.{part_same, region_lasts}
use Rattle.pfr_auth.proofs.RegionLemmas.{of_filtered}
use Rattle.pfr_auth.proofs.TrustedLaw.{judged_parts, signed_holds}
use Rattle.pfr_bank.specs.Spelling.{StillSpells}

-- the content of a block at a place
abbrev content_behind : List ℕ → ℕ → ℕ → List ℕ
content_behind image place blen = bytes_at image (place + blen) (content_length (head_at image place))

pub judged_spells : (image : List ℕ) (bank : Bank) (fuses : FusesState) (accepts : Acceptance) (m : Manifest) → AreBytes image → IsValidLayout (layout_of fuses.provision bank) (length image)
    → judge_active image bank fuses accepts ≡ Ok m → StillSpells image m (layout_of fuses.provision bank)
judged_spells image bank fuses accepts m bytes valid judged =
    let layout : Layout = layout_of fuses.provision bank in
    let parts = judged_parts image bank accepts fuses m judged in
    let s : IsSigned image bank fuses accepts m = signed_holds image bank fuses accepts m bytes parts.0 in
    record {
      valid = valid;
      type = manifest_type bank;
      blen = s.signed.blen;
      block = s.signed.block;
      spelled = rw (s.signed.content_at, s.signed.length) at s.spelled;
      hashed = parts.2;
    }

-- ---- what an image holds is the manifest that it is trusted by
form_is_one : (a b : Form) → magic_of_block0 a ≡ magic_of_block0 b → a ≡ b
form_is_one One One same = refl
form_is_one One Two same = absurd (omega (arith, same))
form_is_one Two One same = absurd (omega (arith, same))
form_is_one Two Two same = refl

-- all blocks at a place are of the same length, whatever the type of their content
block_is_one : (image : List ℕ) (place len : ℕ) (type other : ContentType) (blen olen : ℕ) → BlockAt image place len type blen → BlockAt image place len other olen → blen ≡ olen
block_is_one image place len type other blen olen h g =
    let same : h.form ≡ g.form = form_is_one h.form g.form (sym h.block0_magic ∙ g.block0_magic) in
    h.block_length ∙ ap (λ (form : Form). block_length form (head_at image place)) same ∙ sym g.block_length

pub spells_trusted : (image nv : List ℕ) (bank : Bank) (accepts : Acceptance) (m : Manifest) (layout : Layout) → StillSpells image m layout
    → (t : IsTrusted image nv bank accepts) → layout_of t.fuses.provision bank ≡ layout → t.manifest ≡ m
spells_trusted image nv bank accepts m layout h t laid =
    let held : StillSpells image m (layout_of t.fuses.provision bank) = subst (λ (l : Layout). StillSpells image m l) (sym laid) h in
    let at : Layout = layout_of t.fuses.provision bank in
    let same : t.signed.blen ≡ held.blen = block_is_one image at.manifest_at at.manifest_len (manifest_type bank) held.type t.signed.blen held.blen t.signed.block held.block in
    let text : IsManifestOf (content_behind image at.manifest_at t.signed.blen) t.manifest at (length image) = rw (t.signed.content_at, t.signed.length) at t.spelled in
    manifest_is_one (content_behind image at.manifest_at held.blen) at (length image) t.manifest m
    (subst (λ (n : ℕ). IsManifestOf (content_behind image at.manifest_at n) t.manifest at (length image)) same text) held.spelled

-- ---- what an image holds stays while the bytes stay that its trust rests on
pub spells_kept : (old new : List ℕ) (m : Manifest) (layout : Layout) → KeepsTrustedBytes layout m old new → StillSpells old m layout → StillSpells new m layout
spells_kept old new m layout kept h =
    let at : ℕ = layout.manifest_at in
    let len : ℕ = layout.manifest_len in
    let count : ℕ = content_length (head_at old at) in
    let least : 1024 ≤ h.blen = h.block.right_length.least in
    let within : h.blen + count ≤ len = h.block.within in
    let head : head_at new at ≡ head_at old at = part_same at len old new at 128 kept.size kept.area (omega arith) (omega (arith, least, within)) in
    let block : bytes_at new at h.blen ≡ bytes_at old at h.blen = part_same at len old new at h.blen kept.size kept.area (omega arith) (omega (arith, within)) in
    let content : bytes_at new (at + h.blen) count ≡ bytes_at old (at + h.blen) count = part_same at len old new (at + h.blen) count kept.size kept.area (omega arith) (omega (arith, within)) in
    let text : content_behind new at h.blen ≡ content_behind old at h.blen = ap (λ (bytes : List ℕ). bytes_at new (at + h.blen) (content_length bytes)) head ∙ content in
    record {
      valid = subst (λ (n : ℕ). IsValidLayout layout n) (sym kept.size) h.valid;
      type = h.type;
      blen = h.blen;
      block = BlockAt-moved old new at at len len h.type h.blen h.block (sym head) (sym block) (sym content) within;
      spelled = subst (λ (n : ℕ). IsManifestOf (content_behind new at h.blen) m layout n) (sym kept.size)
          (subst (λ (bytes : List ℕ). IsManifestOf bytes m layout (length old)) (sym text) h.spelled);
      hashed = λ k d below. region_lasts (get_or m.regions k d) old new kept.size
          (of_filtered is_static (λ (r : Region). SameAt r.start (r.end - r.start) old new) m.regions kept.static k d below) (h.hashed k d below);
    }
