-- A job's passes over its pages: one that heeds the marks of the bank's log and sets them, and one that ignores them.
use Rattle.std.specs.Prelude.{ℕ, ◌+◌, ◌/◌, max, Bool, not, List, length, filter}
use Rattle.pfr_flash.specs.declared.layout.Layout.{Layout}
use Rattle.pfr_flash.specs.declared.names.Bank.{Bank}
use Rattle.pfr_capsule.specs.CapsuleState.{CapsuleState}
use Rattle.pfr_jobs.specs.LogPlans.{mark_plan}
use Rattle.pfr_jobs.specs.LogState.{is_marked}
use Rattle.pfr_jobs.specs.declared.job.JobKind.{JobKind}
use Rattle.pfr_strokes.specs.Deeds.{Deed, pass, marked_by, unmarked}
use Rattle.pfr_rebuilt.specs.ActiveCopying.{active_page, active_pages}
use Rattle.pfr_rebuilt.specs.Copying.{recovery_page, recovery_pages}

-- how many pages a group has, in a bank of so many bytes: there are at most 128 groups
abbrev pub group_pages : ℕ → ℕ
group_pages size = max 1 ((size / 4096 + 127) / 128)

-- those of the pages whose groups aren't marked
abbrev pub left_pages : (ℕ → Bool) → ℕ → List ℕ → List ℕ
left_pages marked group pages = filter (λ page. not (marked (page / group))) pages

-- what is done to the bank and to the store where marks are heeded and set
abbrev pub heeding : Bank → List ℕ → (ℕ → List ℕ) → ℕ → List ℕ → List Deed
heeding bank nv content group pages = pass content group (marked_by (mark_plan nv bank)) (left_pages (is_marked nv bank) group pages)

-- and where they are ignored, and none is set
abbrev pub ignoring : (ℕ → List ℕ) → ℕ → List ℕ → List Deed
ignoring content group pages = pass content group unmarked pages

-- ---- the jobs
-- a job on the active image, from a capsule
unfoldable pub active_heeding : JobKind → Bank → List ℕ → List ℕ → CapsuleState → Layout → List Deed
active_heeding kind bank image nv capsule layout = heeding bank nv (active_page image capsule layout) (group_pages (length image)) (active_pages kind image capsule layout)

unfoldable pub active_ignoring : JobKind → List ℕ → CapsuleState → Layout → List Deed
active_ignoring kind image capsule layout = ignoring (active_page image capsule layout) (group_pages (length image)) (active_pages kind image capsule layout)

-- one that copies the capsule of so many bytes from the staging area to the recovery area
unfoldable pub recovery_heeding : Bank → List ℕ → List ℕ → ℕ → Layout → List Deed
recovery_heeding bank image nv len layout = heeding bank nv (recovery_page image layout.staging_at len layout) (group_pages (length image)) (recovery_pages layout len (length image))

unfoldable pub recovery_ignoring : List ℕ → ℕ → Layout → List Deed
recovery_ignoring image len layout = ignoring (recovery_page image layout.staging_at len layout) (group_pages (length image)) (recovery_pages layout len (length image))
