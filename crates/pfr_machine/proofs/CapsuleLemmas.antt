-- A capsule that was judged well can be applied to a desk's bank.
use Rattle.std.proofs.Common.{◌≡◌, ◌∙◌, ap, sym, subst, List, length, ℕ, ◌+◌, ◌≤◌, All, inl, inr, None, Ok}
use Rattle.pfr_flash.specs.Bytes.{AreBytes}
use Rattle.pfr_flash.specs.FlashState.{FlashState, now, size_of}
use Rattle.pfr_flash.specs.Layout.{IsBankSize, IsValidLayout}
use Rattle.pfr_flash.specs.declared.layout.Layout.{Layout}
use Rattle.pfr_flash.specs.declared.names.Bank.{Bank}
use Rattle.pfr_flash.specs.Reading.{EndsAt}
use Rattle.pfr_flash.proofs.EndsLemmas.{ends_content}
use Rattle.pfr_flash.proofs.JudgingLemmas.{passed_none, passed_part}
use Rattle.pfr_flash.proofs.RangeLemmas.{length-now}
use Rattle.pfr_engine.specs.Acceptance.{Acceptance}
use Rattle.pfr_fuses.specs.FusesState.{FusesState}
use Rattle.pfr_fuses.specs.RootSlot.{layout_of}
use Rattle.pfr_manifest.specs.Manifest.{IsManifestOf}
use Rattle.pfr_manifest.specs.Regions.{IsRegion}
use Rattle.pfr_manifest.specs.Spelling.{manifest_bytes}
use Rattle.pfr_capsule.specs.CapsuleState.{CapsuleState, capsule_of}
use Rattle.pfr_capsule.specs.Judge.{judge_capsule, judge_header, judge_pages}
use Rattle.pfr_capsule.specs.Lying.{LiesAt}
use Rattle.pfr_capsule.specs.PageBytes.{incoherent_region}
use Rattle.pfr_capsule.specs.Pages.{HasIndex}
use Rattle.pfr_capsule.specs.Signed.{end_of}
use Rattle.pfr_capsule.specs.SignedJudge.{judge_signed}
use Rattle.pfr_capsule.specs.declared.fail.CapsuleFail.TheVariants as causes
use Rattle.pfr_capsule.proofs.GoodLaw.{signed_holds}
use Rattle.pfr_auth.specs.Areas.{judge_area, place_of}
use Rattle.pfr_auth.specs.declared.areas.Area.{Area}
use Rattle.pfr_auth.specs.declared.areas.Area.TheVariants.{Recovery, Staging}
use Rattle.pfr_copy.specs.Applying.{CanApply, CanCopyOver, LiesInArea}
use Rattle.pfr_copy.proofs.JudgedLaw.{judged_applies}
use Rattle.pfr_story.specs.Story.{device_of}
use Rattle.pfr_story.specs.World.{state_at}
use Rattle.pfr_machine.specs.Inside.{IsDesk}
use Rattle.pfr_machine.specs.Worlds.{DeskState, Latches, Sitting, desk_world}
use Rattle.pfr_machine.specs.declared.board.Board.{Board}
use Rattle.pfr_machine.proofs.DeskLemmas.{state_mine}

-- it lies in one of the areas
lies_in : (area : Area) (image : List ℕ) (layout : Layout) (capsule : CapsuleState) → LiesAt image (place_of layout area) layout.area_len capsule → LiesInArea image layout capsule
lies_in Recovery image layout capsule h = inl h
lies_in Staging image layout capsule h = inr h

-- it can be applied to a desk's bank, which was read through a loan of its flash
pub capsule_left : {F : Type 0} (b whose : Bank) (seat : Sitting) (mine read later other nv : FlashState) (latches : Latches) (board : Board F) (layout : Layout) (fuses : FusesState) (accepts : Acceptance) (area : Area) (capsule : CapsuleState)
    → IsDesk b whose seat (desk_world b mine other nv latches board) → IsValidLayout (layout_of fuses.provision b) (size_of (state_at (device_of b) (desk_world b mine other nv latches board)))
    → read ≡ mine → layout ≡ layout_of fuses.provision b → EndsAt None read later → judge_area area b (now read) fuses accepts ≡ Ok capsule → HasIndex (now read) capsule.pages
    → All (IsRegion layout (size_of read)) capsule.manifest.regions → LiesAt (now read) (place_of layout area) layout.area_len capsule
    → CanApply (now (state_at (device_of b) (desk_world b later other nv latches board))) (layout_of fuses.provision b) capsule
capsule_left b whose seat mine read later other nv latches board layout fuses accepts area capsule desk valid same laid ends judged index regions lies =
    let here : Layout = layout_of fuses.provision b in
    let at : state_at (device_of b) (desk_world b mine other nv latches board) ≡ read = state_mine b mine other nv latches board ∙ sym same in
    let can : CanApply (now read) here capsule =
    judged_applies read (place_of here area) b here fuses accepts capsule (subst (λ (d : FlashState). IsBankSize (size_of d)) at desk.size) (subst (λ (d : FlashState). IsValidLayout here (size_of d)) at valid) judged index
    (subst (λ (l : Layout). All (IsRegion l (size_of read)) capsule.manifest.regions) laid regions) (lies_in area (now read) here capsule (subst (λ (l : Layout). LiesAt (now read) (place_of l area) l.area_len capsule) laid lies)) in
    let left : now read ≡ now (state_at (device_of b) (desk_world b later other nv latches board)) = sym (ends_content ends) ∙ ap now (sym (state_mine b later other nv latches board)) in
    subst (λ (image : List ℕ). CanApply image here capsule) left can

-- one that was judged in the staging area can be copied to the recovery area
pub capsule_staged : {F : Type 0} (b : Bank) (mine read later other nv : FlashState) (latches : Latches) (board : Board F) (layout : Layout) (fuses : FusesState) (area : Area) (capsule : CapsuleState)
    → IsValidLayout (layout_of fuses.provision b) (size_of (state_at (device_of b) (desk_world b mine other nv latches board)))
    → read ≡ mine → layout ≡ layout_of fuses.provision b → EndsAt None read later → LiesAt (now read) (place_of layout area) layout.area_len capsule → area ≡ Staging
    → CanCopyOver (now (state_at (device_of b) (desk_world b later other nv latches board))) (layout_of fuses.provision b) capsule
capsule_staged b mine read later other nv latches board layout fuses area capsule valid same laid ends lies staged =
    let here : Layout = layout_of fuses.provision b in
    let at : state_at (device_of b) (desk_world b mine other nv latches board) ≡ read = state_mine b mine other nv latches board ∙ sym same in
    let left : now read ≡ now (state_at (device_of b) (desk_world b later other nv latches board)) = sym (ends_content ends) ∙ ap now (sym (state_mine b later other nv latches board)) in
    let there : LiesAt (now read) here.staging_at here.area_len capsule =
    subst (λ (a : Area). LiesAt (now read) (place_of here a) here.area_len capsule) staged (subst (λ (l : Layout). LiesAt (now read) (place_of l area) l.area_len capsule) laid lies) in
    let known : IsValidLayout here (length (now read)) = subst (λ (n : ℕ). IsValidLayout here n) (sym (length-now read)) (subst (λ (d : FlashState). IsValidLayout here (size_of d)) at valid) in
    let can : CanCopyOver (now read) here capsule = record { valid = known; lies = there } in
    subst (λ (image : List ℕ). CanCopyOver image here capsule) left can

-- the manifest of one that was judged well is spelled by its bytes
pub judged_spelled : (area : Area) (b : Bank) (image : List ℕ) (fuses : FusesState) (accepts : Acceptance) (capsule : CapsuleState) → AreBytes image → judge_area area b image fuses accepts ≡ Ok capsule
    → IsManifestOf (manifest_bytes capsule.manifest) capsule.manifest (layout_of fuses.provision b) (length image)
unfolding judge_capsule
judged_spelled area b image fuses accepts capsule bytes h =
    let layout : Layout = layout_of fuses.provision b in
    let place : ℕ = place_of layout area in
    let a = passed_part (judge_signed image place layout.area_len b layout fuses accepts) _ capsule h in
    let d = passed_part (judge_header image (end_of a.0.inner) (end_of a.0.capsule)) _ capsule a.2 in
    let e = passed_part (judge_pages image (end_of a.0.inner + 128) d.0 a.0.manifest.regions) _ capsule d.2 in
    let f = passed_none causes.Incoherent (incoherent_region image e.0 a.0.manifest.regions) (Ok (capsule_of image place a.0 e.0)) capsule e.2 in
    let is : capsule_of image place a.0 e.0 ≡ capsule = let last = f.1 in cc in
    let signed = signed_holds image place layout.area_len b layout fuses accepts a.0 bytes a.1 in
    subst (λ (c : CapsuleState). IsManifestOf (manifest_bytes c.manifest) c.manifest layout (length image)) is
    (subst (λ (text : List ℕ). IsManifestOf text a.0.manifest layout (length image)) signed.spelled.spelled signed.spelled)

-- so its security version number is at most 127
pub judged_svn : (area : Area) (b : Bank) (image : List ℕ) (fuses : FusesState) (accepts : Acceptance) (capsule : CapsuleState) → AreBytes image → judge_area area b image fuses accepts ≡ Ok capsule → capsule.manifest.svn ≤ 127
judged_svn area b image fuses accepts capsule bytes h = (judged_spelled area b image fuses accepts capsule bytes h).svn

-- behind the judgement the layout is valid still
pub left_valid : (fuses : FusesState) (old new : DeskState) (capsule : CapsuleState) → new.bank ≡ old.bank → CanApply (now (state_at (device_of old.bank) new.world)) (layout_of fuses.provision old.bank) capsule
    → IsValidLayout (layout_of fuses.provision new.bank) (size_of (state_at (device_of new.bank) new.world))
left_valid fuses old new capsule same can =
    subst (λ (b : Bank). IsValidLayout (layout_of fuses.provision b) (size_of (state_at (device_of b) new.world))) (sym same)
    (subst (λ (n : ℕ). IsValidLayout (layout_of fuses.provision old.bank) n) (length-now (state_at (device_of old.bank) new.world)) can.valid)
