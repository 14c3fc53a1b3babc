-- What a restore or an update makes of a bank's active image.
use Rattle.std.specs.Prelude.{◌≡◌, ℕ, List}
use Rattle.pfr_flash.specs.FlashState.{now}
use Rattle.pfr_flash.specs.declared.layout.Layout.{Layout}
use Rattle.pfr_flash.specs.declared.names.Bank.{Bank}
use Rattle.pfr_engine.specs.Acceptance.{Acceptance}
use Rattle.pfr_capsule.specs.CapsuleState.{CapsuleState}
use Rattle.pfr_auth.specs.Trusted.{IsTrusted}
use Rattle.pfr_jobs.specs.declared.job.JobKind.{JobKind}
use Rattle.pfr_rebuilt.specs.ActiveCopying.{active_rebuilt}
use Rattle.pfr_story.specs.Story.{device_of}
use Rattle.pfr_story.specs.World.{World, state_at}

-- The bank holds what it held before, rebuilt from this capsule by work of this kind, and is trusted by the capsule's manifest.
pub record IsMadeFrom (accepts : Acceptance) (which : Bank) (kind : JobKind) (before : List ℕ) (capsule : CapsuleState) (layout : Layout) (w : World) : Type 0 where
  pub image : now (state_at (device_of which) w) ≡ active_rebuilt kind before capsule layout
  pub trusted : (t : IsTrusted (now (state_at (device_of which) w)) (now w.nv) which accepts) × (t.manifest ≡ capsule.manifest)
