-- Each bank that is held in a power-on takes its open job up where it can be resumed, and gives it up where it can't: the whole promise.
use Rattle.std.proofs.Common.{◌≡◌, refl, ℕ, inl, inr}
use Rattle.pfr_flash.specs.FlashState.{size_of}
use Rattle.pfr_flash.specs.Layout.{IsBankSize}
use Rattle.pfr_flash.specs.declared.names.Bank.{Bank}
use Rattle.pfr_flash.specs.declared.names.Counts.{Counts}
use Rattle.pfr_engine.specs.Acceptance.{Acceptance}
use Rattle.pfr_script.specs.declared.event.Event.{Event}
use Rattle.pfr_script.specs.declared.event.Event.TheVariants as event
use Rattle.pfr_report.specs.Texts.{IsNoted}
use Rattle.pfr_report.specs.declared.note.What.TheVariants as what
use Rattle.pfr_story.specs.JobPromises.{TakesJobsUp, TakesUp}
use Rattle.pfr_story.specs.Promises.{AtCounts}
use Rattle.pfr_story.specs.Turn.{begun, Turn}
use Rattle.pfr_story.specs.World.{World, added}
use Rattle.pfr_story.proofs.Bytes.{HaveBytes}
use Rattle.pfr_story.proofs.Made.{never_noted}
use Rattle.pfr_story.proofs.RenewedLaws.{IsRenewedFrom, renewed_at}
use Rattle.pfr_story.proofs.TakesUpLaws.{IsReached, IsUnjobbed, reached, new_size, crossed, resumed_by, resumes_at, abandoned_by, abandons_at, told_at}

module _ (accepts : Acceptance) (old new : World) (size : size_of old.nv ≡ 32768) (t : Turn accepts event.Power old new) (have : HaveBytes new) (bmc : IsBankSize (size_of old.bmc)) (pch : IsBankSize (size_of old.pch)) (which : Bank) where
  abbrev start : World
  start = begun event.Power old

  renewed_by : (at : Counts) → IsNoted (added old new) (what.Held which at) → (svn : ℕ) → IsReached accepts (begun event.Power old) new which → IsNoted (added old new) (what.RecoveryUpdated which svn)
      → AtCounts (IsRenewedFrom accepts which new svn) which at new
  renewed_by at h svn (inl c) n = renewed_at accepts start new have which (new_size accepts old new size t have bmc pch which) c at h svn n
  renewed_by at h svn (inr w) n = absurd (never_noted (IsUnjobbed which) (begun event.Power old) new w (what.RecoveryUpdated which svn) n refl tt)

  takes_up : (at : Counts) → IsNoted (added old new) (what.Held which at) → TakesUp accepts which new (added old new) at
  takes_up at h = record {
    resumed = λ kind n. resumed_by accepts old new size t have bmc pch which at h kind (reached accepts old new size t have bmc pch which) n;
    resumes = λ kind calm r. resumes_at accepts start new have which (crossed accepts old new size t have bmc pch which calm) (new_size accepts old new size t have bmc pch which) at h kind r;
    abandoned = λ n. abandoned_by accepts old new size t have bmc pch which at h (reached accepts old new size t have bmc pch which) n;
    abandons = λ calm g. abandons_at accepts start new have which (crossed accepts old new size t have bmc pch which calm) (new_size accepts old new size t have bmc pch which) at h g;
    done = λ kind calm. told_at accepts start new have which (crossed accepts old new size t have bmc pch which calm) (new_size accepts old new size t have bmc pch which) at h kind;
    renewed = λ svn n. renewed_by at h svn (reached accepts old new size t have bmc pch which) n;
  }

-- Each bank that is held in a power-on takes its open job up, or gives it up.
pub Turn-takes_up : (accepts : Acceptance) (e : Event) (old new : World) → size_of old.nv ≡ 32768 → Turn accepts e old new → HaveBytes new → IsBankSize (size_of old.bmc) → IsBankSize (size_of old.pch)
    → TakesJobsUp e accepts old new
Turn-takes_up accepts event.Power old new size t have bmc pch = λ which at h. takes_up accepts old new size t have bmc pch which at h
Turn-takes_up accepts event.Off old new size t have bmc pch = tt
Turn-takes_up accepts (event.Provision root) old new size t have bmc pch = tt
Turn-takes_up accepts (event.Spi b frame) old new size t have bmc pch = tt
Turn-takes_up accepts (event.Smbus b frame) old new size t have bmc pch = tt
Turn-takes_up accepts (event.Tick n) old new size t have bmc pch = tt
Turn-takes_up accepts (event.Boot b pass) old new size t have bmc pch = tt
Turn-takes_up accepts (event.Update b intent) old new size t have bmc pch = tt
