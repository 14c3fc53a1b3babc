-- What a capsule that was judged well says, whatever else the bytes are: its version is small, and its digest 32 bytes.
use Rattle.std.proofs.Common.{◌≡◌, subst, ℕ, zero, suc, ◌+◌, ◌-◌, ◌%◌, ◌≤◌, ◌==◌, ◌&&◌, nat_le, nat_lt, List, [], ◌∷◌, length, slice_index, take, drop, Result, Ok}
use Rattle.std.proofs.lemmas.Bool.{leb-true}
use Rattle.sha2.proofs.Facts256.{length-sha256}
use Rattle.pfr_flash.specs.Bytes.{bytes_at}
use Rattle.pfr_flash.specs.Numbers.{number_at}
use Rattle.pfr_flash.specs.declared.layout.Layout.{Layout}
use Rattle.pfr_flash.specs.declared.names.Bank.{Bank}
use Rattle.pfr_flash.specs.Judging.{told_as}
use Rattle.pfr_flash.proofs.JudgingLemmas.{passed_part, passed_test, passed_unit, passed_none, told_ok}
use Rattle.pfr_engine.specs.Acceptance.{Acceptance}
use Rattle.pfr_fuses.specs.FusesState.{FusesState, floor_of}
use Rattle.pfr_manifest.specs.Judge.{judge_header, judge_entry, judge_tail, judge_entries, judge_manifest, after_entry, turns_left, region_len, with_region, with_rule, header_at}
use Rattle.pfr_manifest.specs.Spelling.{magic}
use Rattle.pfr_manifest.specs.declared.entry.Entry.{Entry}
use Rattle.pfr_manifest.specs.declared.entry.Entry.TheVariants as entries
use Rattle.pfr_manifest.specs.declared.fail.ManifestFail.{ManifestFail}
use Rattle.pfr_manifest.specs.declared.fail.ManifestFail.TheVariants.{Magic, Svn, Length}
use Rattle.pfr_manifest.specs.declared.manifest.Manifest.{Manifest}
use Rattle.pfr_capsule.specs.CapsuleState.{CapsuleState, capsule_of}
use Rattle.pfr_capsule.specs.Judge.{judge_capsule, judge_header as judge_page_header, judge_pages}
use Rattle.pfr_capsule.specs.PageBytes.{incoherent_region}
use Rattle.pfr_capsule.specs.Signed.{end_of}
use Rattle.pfr_capsule.specs.SignedJudge.{judge_capsule_chain, judge_inner_chain, judge_signed}
use Rattle.pfr_capsule.specs.declared.fail.CapsuleFail.TheVariants as causes
use Rattle.pfr_capsule.specs.declared.signed.Signed.{Signed}

-- ---- the manifest
header_small : (header : List ℕ) (count : ℕ) (m : Manifest) → judge_header header count ≡ Ok m → m.svn ≤ 127
unfolding judge_header
header_small header count m h =
    let a = passed_test Magic (nat_le 32 count && number_at header 0 == magic) _ m h in
    let b = passed_test Svn (nat_le (slice_index header 4) 127) _ m a.1 in
    let d = passed_test Length (number_at header 28 == count && nat_lt 0 count && count % 128 == 0) (Ok (header_at header)) m b.1 in
    let last = d.1 in
    let is : header_at header ≡ m = cc in
    subst (λ (made : Manifest). made.svn ≤ 127) is (leb-true (slice_index header 4) 127 b.0)

module _ (layout : Layout) (size : ℕ) where
  -- the entries keep the version
  abbrev RestSmall : ℕ → Type 0
  RestSmall turns = (rest : List ℕ) (place : ℕ) (m last : Manifest) → m.svn ≤ 127 → judge_entries turns rest place m layout size ≡ Ok last → last.svn ≤ 127

  after_small : (turns : ℕ) → RestSmall turns → (rest : List ℕ) (place : ℕ) (m last : Manifest) → m.svn ≤ 127 → (found : Entry)
      → after_entry (λ left next read. judge_entries turns left next read layout size) rest place m found ≡ Ok last → last.svn ≤ 127
  after_small turns further rest place m last small entries.Tail h =
      let p = passed_unit (judge_tail rest) (Ok m) last h in
      let ended = p.1 in
      let is : m ≡ last = cc in
      subst (λ (made : Manifest). made.svn ≤ 127) is small
  after_small turns further rest place m last small (entries.Region region) h = further (drop (region_len region) rest) (place + region_len region) (with_region m region) last small h
  after_small turns further rest place m last small (entries.Rule rule) h = further (drop 40 rest) (place + 40) (with_rule m rule) last small h

  none_small : (m last : Manifest) → m.svn ≤ 127 → ◌≡◌ {A = Result Manifest ManifestFail} (Ok m) (Ok last) → last.svn ≤ 127
  none_small m last small h =
      let is : m ≡ last = cc in
      subst (λ (made : Manifest). made.svn ≤ 127) is small

  entries_small : (turns : ℕ) → RestSmall turns
  unfolding judge_entries
  entries_small zero [] place m last small h = none_small m last small h
  entries_small (suc turns) [] place m last small h = none_small m last small h
  entries_small zero (byte ∷ more) place m last small h = cc
  entries_small (suc turns) (byte ∷ more) place m last small h =
      let p = passed_part (judge_entry (take 64 (byte ∷ more)) place m layout size) _ last h in
      after_small turns (λ rest next read end few k. entries_small turns rest next read end few k) (byte ∷ more) place m last small p.0 p.2

manifest_small : (bytes : List ℕ) (layout : Layout) (size : ℕ) (m : Manifest) → judge_manifest bytes layout size ≡ Ok m → m.svn ≤ 127
unfolding judge_manifest
manifest_small bytes layout size m h =
    let p = passed_part (judge_header (take 32 bytes) (length bytes)) (λ header. judge_entries (turns_left header) (drop 32 bytes) 32 header layout size) m h in
    entries_small layout size (turns_left p.0) (drop 32 bytes) 32 p.0 m (header_small (take 32 bytes) (length bytes) p.0 p.1) p.2

-- ---- the capsule
signed_small : (image : List ℕ) (place len : ℕ) (bank : Bank) (layout : Layout) (fuses : FusesState) (accepts : Acceptance) (signed : Signed) → judge_signed image place len bank layout fuses accepts ≡ Ok signed
    → signed.manifest.svn ≤ 127
unfolding judge_signed
signed_small image place len bank layout fuses accepts signed h =
    let a = passed_part (judge_capsule_chain image place len bank fuses accepts) _ signed h in
    let b = passed_part (judge_inner_chain image bank layout fuses accepts a.0) _ signed a.2 in
    let judged : Result Manifest ManifestFail = judge_manifest (bytes_at image b.0.content_at b.0.length) layout (length image) in
    let d = passed_part (told_as causes.Manifest judged) _ signed b.2 in
    let made : Signed = record { capsule = a.0; inner = b.0; manifest = d.0 } in
    let e = passed_test causes.SvnFloor (nat_le (floor_of fuses bank) d.0.svn) (Ok made) signed d.2 in
    let last = e.1 in
    let is : made ≡ signed = cc in
    subst (λ (s : Signed). s.manifest.svn ≤ 127) is (manifest_small (bytes_at image b.0.content_at b.0.length) layout (length image) d.0 (told_ok causes.Manifest judged d.0 d.1))

pub record IsSmall (capsule : CapsuleState) : Type 0 where
  pub svn : capsule.manifest.svn ≤ 127
  pub digest : length capsule.digest ≡ 32

pub judged_small : (image : List ℕ) (place len : ℕ) (bank : Bank) (layout : Layout) (fuses : FusesState) (accepts : Acceptance) (capsule : CapsuleState) → judge_capsule image place len bank layout fuses accepts ≡ Ok capsule
    → IsSmall capsule
unfolding judge_capsule
judged_small image place len bank layout fuses accepts capsule h =
    let a = passed_part (judge_signed image place len bank layout fuses accepts) _ capsule h in
    let b = passed_part (judge_page_header image (end_of a.0.inner) (end_of a.0.capsule)) _ capsule a.2 in
    let d = passed_part (judge_pages image (end_of a.0.inner + 128) b.0 a.0.manifest.regions) _ capsule b.2 in
    let f = passed_none causes.Incoherent (incoherent_region image d.0 a.0.manifest.regions) (Ok (capsule_of image place a.0 d.0)) capsule d.2 in
    let last = f.1 in
    let is : capsule_of image place a.0 d.0 ≡ capsule = cc in
    subst IsSmall is (record {
      svn = signed_small image place len bank layout fuses accepts a.0 a.1;
      digest = length-sha256 (bytes_at image place (end_of a.0.capsule - place));
    })
