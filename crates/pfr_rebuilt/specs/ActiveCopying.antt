-- What the active image is to hold once a capsule is applied.
use Rattle.std.specs.Prelude.{ℕ, ◌+◌, ◌-◌, ◌*◌, ◌/◌, ◌==◌, ◌&&◌, ◌||◌, Bool, true, false, not, if◌then◌else◌, List, length, filter}
use Rattle.std.specs.Int.{bit_at}
use Rattle.pfr_flash.specs.Bytes.{bytes_at}
use Rattle.pfr_flash.specs.declared.layout.Layout.{Layout}
use Rattle.pfr_manifest.specs.Regions.{is_static}
use Rattle.pfr_manifest.specs.declared.region.Region.{Region}
use Rattle.pfr_capsule.specs.CapsuleState.{CapsuleState}
use Rattle.pfr_capsule.specs.Maps.{in_some_region}
use Rattle.pfr_capsule.specs.PageBytes.{page_bytes}
use Rattle.pfr_capsule.specs.Pages.{page_of}
use Rattle.pfr_capsule.specs.declared.pages.Page.{Page}
use Rattle.pfr_capsule.specs.declared.pages.Page.TheVariants.{Keep, Blank, Copy}
use Rattle.pfr_jobs.specs.declared.job.JobKind.{JobKind}
use Rattle.pfr_jobs.specs.declared.job.JobKind.TheVariants.{ActiveFromRecovery, ActiveFromStaging, RecoveryFromStaging}
use Rattle.pfr_strokes.specs.Replaced.{replaced, pages_below}
use Rattle.pfr_rebuilt.specs.Copying.{text_page, holds_text}

-- a job writes the pages of a region: the static ones always, others by their mask at a level, or all
abbrev pub is_taken : JobKind → Region → Bool
is_taken (ActiveFromRecovery level) region = is_static region || bit_at region.mask (level + 1) == 1
is_taken (ActiveFromStaging dynamic) region = is_static region || dynamic
is_taken RecoveryFromStaging region = false

-- the capsule leaves the page
abbrev pub is_kept : Page → Bool
is_kept Keep = true
is_kept Blank = false
is_kept (Copy at) = false

-- page n is one of the job's: of the manifest area, or of a region that the job takes, and not left by the capsule
unfoldable pub is_active_page : JobKind → List ℕ → CapsuleState → Layout → ℕ → Bool
is_active_page kind image capsule layout n =
    holds_text layout.manifest_at layout.manifest_len n
    || (in_some_region (filter (λ region. is_taken kind region) capsule.manifest.regions) n && not (is_kept (page_of image capsule.pages n)))

-- the job's pages, in rising order
unfoldable pub active_pages : JobKind → List ℕ → CapsuleState → Layout → List ℕ
active_pages kind image capsule layout = pages_below (is_active_page kind image capsule layout) (length image / 4096)

-- what a page is to hold: of the manifest area the signed manifest, then 0xFF; else what the capsule gives for it
unfoldable pub active_page : List ℕ → CapsuleState → Layout → ℕ → List ℕ
active_page image capsule layout n =
    if holds_text layout.manifest_at layout.manifest_len n
    then text_page (bytes_at image capsule.signed_manifest.at capsule.signed_manifest.len) (4096 * n - layout.manifest_at)
    else page_bytes image (page_of image capsule.pages n)

-- The image as the job leaves it.
abbrev pub active_rebuilt : JobKind → List ℕ → CapsuleState → Layout → List ℕ
active_rebuilt kind image capsule layout = replaced image (active_page image capsule layout) (active_pages kind image capsule layout)
