-- Frames on a bank's buses are judged by what the bank's image is trusted by.
use Rattle.std.proofs.Common.{◌≡◌, ◌∙◌, refl, sym, ap, subst, ℕ, List, length, All, Some, Result, Ok, Err}
use Rattle.pfr_flash.specs.Bytes.{AreBytes}
use Rattle.pfr_flash.specs.declared.layout.Layout.{Layout}
use Rattle.pfr_flash.specs.declared.names.Bank.{Bank}
use Rattle.pfr_engine.specs.Acceptance.{Acceptance}
use Rattle.pfr_fuses.specs.FusesState.{FusesState}
use Rattle.pfr_fuses.specs.RootSlot.{layout_of}
use Rattle.pfr_manifest.specs.declared.manifest.Manifest.{Manifest}
use Rattle.pfr_manifest.proofs.ApartLaw.{LeavesTrusted}
use Rattle.pfr_auth.specs.Trusted.{IsTrusted}
use Rattle.pfr_auth.specs.declared.fail.ActiveFail.{ActiveFail}
use Rattle.pfr_auth.proofs.TrustedLaw.{judged_trusted, stands_whole, trusted_judged}
use Rattle.pfr_filter.specs.Asking.{bus_ops}
use Rattle.pfr_filter.specs.declared.verdict.BusOp.{BusOp}
use Rattle.pfr_filter.specs.declared.verdict.Verdict.TheVariants.{Pass}
use Rattle.pfr_filter.proofs.SafeLaws.{pass_leaves}
use Rattle.pfr_report.specs.declared.note.LockWhy.{LockWhy}
use Rattle.pfr_story.specs.Guards.{guard_at}
use Rattle.pfr_story.specs.Story.{Story}
use Rattle.pfr_story.specs.Plans.{mine, store, judged_active, ready_of, Ruling, ruling_by, ruling_with, ruling}
use Rattle.pfr_story.proofs.BringRules.{IsReady, ready_found, ready_is}
use Rattle.pfr_story.proofs.BusRules.{ruled}

module _ (accepts : Acceptance) (b : Bank) (story : Story) where
  -- ---- a bank that is trusted has a ruling
  pub trusted_ruling : (t : IsTrusted (mine b story) (store story) b accepts) → ruling accepts b story ≡ Some (record { manifest = t.manifest; layout = layout_of t.fuses.provision b })
  trusted_ruling t =
      ap (λ (ready : Result FusesState LockWhy). ruling_with accepts b story ready) (ready_is b t.fuses story t.provisioned t.layout)
      ∙ ap (λ (judged : Result Manifest ActiveFail). ruling_by b t.fuses judged) (trusted_judged (mine b story) (store story) b accepts t)

  -- ---- and one that has a ruling is trusted by it
  -- the image is trusted by the manifest and the layout of a ruling
  pub record IsRuledBy (r : Ruling) : Type 0 where
    pub trusted : IsTrusted (mine b story) (store story) b accepts
    pub manifest : trusted.manifest ≡ r.manifest
    pub layout : layout_of trusted.fuses.provision b ≡ r.layout

  module _ (r : Ruling) (bytes : AreBytes (mine b story)) where
    by_judged : (fuses : FusesState) (judged : Result Manifest ActiveFail) → IsReady b fuses story → judged_active accepts b fuses story ≡ judged → ruling_by b fuses judged ≡ Some r → IsRuledBy r
    by_judged fuses (Ok m) ready j e =
        let t = judged_trusted (mine b story) (store story) b accepts fuses m (stands_whole (store story) fuses b ready.provisioned) ready.layout bytes j in
        let same : t.0.fuses ≡ fuses = (let here = t.0.provisioned in let was = ready.provisioned in cc) in
        let is : record { manifest = m; layout = layout_of fuses.provision b } ≡ r = cc in
        record {
          trusted = t.0;
          manifest = t.1 ∙ ap (λ (x : Ruling). x.manifest) is;
          layout = ap (λ (x : FusesState). layout_of x.provision b) same ∙ ap (λ (x : Ruling). x.layout) is;
        }
    by_judged fuses (Err why) ready j e = absurd cc

    by_ready : (found : Result FusesState LockWhy) → ready_of b story ≡ found → ruling_with accepts b story found ≡ Some r → IsRuledBy r
    by_ready (Ok fuses) q e = by_judged fuses (judged_active accepts b fuses story) (ready_found b fuses story q) refl e
    by_ready (Err why) q e = absurd cc

    pub ruling_trusted : ruling accepts b story ≡ Some r → IsRuledBy r
    ruling_trusted e = by_ready (ready_of b story) refl e

  -- ---- frames that pass
  -- what a frame that passes does to a bank that is trusted leaves what the trust stands on, and the recovery area
  pub ruled_leaves : (frame : List ℕ) (r : Ruling) (op : BusOp) → ruling accepts b story ≡ Some r → ruled b frame r story ≡ Pass op → (t : IsTrusted (mine b story) (store story) b accepts)
      → All (LeavesTrusted t.manifest (layout_of t.fuses.provision b)) (bus_ops op)
  ruled_leaves frame r op found passed t =
      let layout : Layout = layout_of t.fuses.provision b in
      let is : record { manifest = t.manifest; layout = layout } ≡ r = (let by = trusted_ruling t in cc) in
      pass_leaves frame t.manifest layout (length (mine b story)) (guard_at b story.guards).latch op t.spelled.each_region t.spelled.in_order t.layout.apart
      (subst (λ (x : Ruling). ruled b frame x story ≡ Pass op) (sym is) passed)
