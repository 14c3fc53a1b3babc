-- At every cut of a recovery job its bank can be recovered.
use Rattle.std.proofs.Common.{◌≡◌, ◌∙◌, sym, subst, refl, arith, ℕ, ◌%◌, List, [], ◌∷◌, length, inr, Ok}
use Rattle.pfr_flash.specs.Operation.{Operation, applied, play}
use Rattle.pfr_flash.specs.Range.{place_of, len_of, IsWithin, Leaves}
use Rattle.pfr_flash.specs.declared.layout.Layout.{Layout}
use Rattle.pfr_flash.specs.declared.names.Bank.{Bank}
use Rattle.pfr_flash.proofs.PlayLemmas.{length-applied}
use Rattle.pfr_flash.proofs.RangeLemmas.{SameOutside-applied, SameOutside-wider}
use Rattle.pfr_engine.specs.Acceptance.{Acceptance}
use Rattle.pfr_fuses.specs.FusesState.{FusesState}
use Rattle.pfr_fuses.specs.FusesOf.{fuses_of}
use Rattle.pfr_fuses.specs.RootSlot.{layout_of}
use Rattle.pfr_fuses.proofs.StaysLemmas.{fuses_of-same}
use Rattle.pfr_capsule.specs.Good.{IsGood}
use Rattle.pfr_jobs.specs.Log.{open_job}
use Rattle.pfr_strokes.specs.Deeds.{Deed, Asks, Does, side_ops}
use Rattle.pfr_strokes.specs.declared.side.Side.TheVariants as side
use Rattle.pfr_recoverable.specs.Recoverable.{HasGoodRecovery, HasRecoveryJob, IsRecoverable}
use Rattle.pfr_recoverable.proofs.StaysLaw.{job_left}

-- ---- the store
-- within the three sectors of both banks' logs
abbrev pub IsInLogs : Operation → Type 0
IsInLogs op = IsWithin 0x1000 0x6000 op

pub logs_same : (nv : List ℕ) (op : Operation) → length nv ≡ 32768 → IsInLogs op → fuses_of (applied nv op) ≡ fuses_of nv
logs_same nv op size inside = fuses_of-same nv (applied nv op) (record {
  outside = SameOutside-wider (place_of op) (len_of op) 4096 24576 nv (applied nv op) (omega (arith, inside.low)) (omega (arith, inside.high)) (SameOutside-applied nv op);
  size = length-applied nv op;
  whole = size;
})

pub good_with : (image nv later : List ℕ) (place len : ℕ) (bank : Bank) (accepts : Acceptance) (g : IsGood image place len nv bank accepts) → fuses_of later ≡ fuses_of nv
    → (h : IsGood image place len later bank accepts) × (h.capsule ≡ g.capsule)
good_with image nv later place len bank accepts g same = (
  record {
    fuses = g.fuses;
    parts = g.parts;
    header = g.header;
    capsule = g.capsule;
    provisioned = same ∙ g.provisioned;
    layout = g.layout;
    signed = g.signed;
    framed = g.framed;
    paged = g.paged;
    capsule_key = g.capsule_key;
    manifest_key = g.manifest_key;
    found = g.found;
  },
  refl,
)

-- What is done in the logs leaves a good recovery area so, and a recovery job where it stays open.
pub recovery_logged : (bank : Bank) (image nv : List ℕ) (accepts : Acceptance) (r : HasGoodRecovery bank image nv accepts) (op : Operation) → length nv ≡ 32768 → IsInLogs op
    → HasGoodRecovery bank image (applied nv op) accepts
recovery_logged bank image nv accepts r op size inside =
    let same = logs_same nv op size inside in
    record { fuses = r.fuses; provisioned = same ∙ r.provisioned; good = (good_with image nv (applied nv op) _ _ bank accepts r.good same).0 }

pub job_logged : (bank : Bank) (image nv : List ℕ) (accepts : Acceptance) (r : HasRecoveryJob bank image nv accepts) (op : Operation) → length nv ≡ 32768 → IsInLogs op
    → open_job (applied nv op) bank ≡ open_job nv bank → HasRecoveryJob bank image (applied nv op) accepts
unfolding good_with
job_logged bank image nv accepts r op size inside stays =
    let same = logs_same nv op size inside in
    let g = good_with image nv (applied nv op) (layout_of r.fuses.provision bank).staging_at (layout_of r.fuses.provision bank).area_len bank accepts r.good same in
    record { fuses = r.fuses; provisioned = same ∙ r.provisioned; good = g.0; opened = stays ∙ r.opened }

-- ---- the work of a job
-- A deed that the work of a recovery job may do, whole or torn: on the bank it leaves the staging area, on the store it
-- leaves open what is open.
abbrev pub IsJobDeed : Layout → Bank → List ℕ → Deed → Type 0
IsJobDeed layout bank nv (Asks which) = Unit {0}
IsJobDeed layout bank nv (Does side.Bank op) = Leaves layout.staging_at layout.area_len op
IsJobDeed layout bank nv (Does side.Store op) = IsInLogs op × (open_job (applied nv op) bank ≡ open_job nv bank)

abbrev pub bank_after : Deed → List ℕ → List ℕ
bank_after deed image = play image (side_ops side.Bank (deed ∷ []))

abbrev pub store_after : Deed → List ℕ → List ℕ
store_after deed nv = play nv (side_ops side.Store (deed ∷ []))

abbrev pub AllJobDeeds : Layout → Bank → List ℕ → List Deed → Type 0
AllJobDeeds layout bank nv [] = Unit {0}
AllJobDeeds layout bank nv (deed ∷ deeds) = IsJobDeed layout bank nv deed × AllJobDeeds layout bank (store_after deed nv) deeds

-- the provision that the job goes by is the store's
pub record IsAtWork (layout : Layout) (bank : Bank) (image nv : List ℕ) (accepts : Acceptance) : Type 0 where
  pub job : HasRecoveryJob bank image nv accepts
  pub by_layout : (fuses : FusesState) → fuses_of nv ≡ Ok fuses → layout_of fuses.provision bank ≡ layout
  pub blocks : length image % 65536 ≡ 0
  pub store : length nv ≡ 32768

pub work_kept : (layout : Layout) (bank : Bank) (image nv : List ℕ) (accepts : Acceptance) (deed : Deed) → IsJobDeed layout bank nv deed → IsAtWork layout bank image nv accepts
    → IsAtWork layout bank (bank_after deed image) (store_after deed nv) accepts
work_kept layout bank image nv accepts (Asks which) deed w = w
work_kept layout bank image nv accepts (Does side.Bank op) leaves w = record {
  job = job_left bank image nv accepts w.job op w.blocks (subst (λ (l : Layout). Leaves l.staging_at l.area_len op) (sym (w.by_layout w.job.fuses w.job.provisioned)) leaves);
  by_layout = w.by_layout;
  blocks = omega (arith, w.blocks, length-applied image op);
  store = w.store;
}
work_kept layout bank image nv accepts (Does side.Store op) deed w = record {
  job = job_logged bank image nv accepts w.job op w.store deed.0 deed.1;
  by_layout = λ fuses is. w.by_layout fuses (sym (logs_same nv op w.store deed.0) ∙ is);
  blocks = w.blocks;
  store = length-applied nv op ∙ w.store;
}

-- At each cut of the work of a recovery job, wherever it comes and whatever it tore, the bank can be recovered: all
-- deeds of a front of it, the last torn or not, are such deeds.
pub work_recoverable : (layout : Layout) (bank : Bank) (image nv : List ℕ) (accepts : Acceptance) (deeds : List Deed) → AllJobDeeds layout bank nv deeds → IsAtWork layout bank image nv accepts
    → IsRecoverable bank (play image (side_ops side.Bank deeds)) (play nv (side_ops side.Store deeds)) accepts
work_recoverable layout bank image nv accepts [] all w = inr w.job
work_recoverable layout bank image nv accepts (Asks which ∷ deeds) all w = work_recoverable layout bank image nv accepts deeds all.1 w
work_recoverable layout bank image nv accepts (Does side.Bank op ∷ deeds) all w =
    work_recoverable layout bank (applied image op) nv accepts deeds all.1 (work_kept layout bank image nv accepts (Does side.Bank op) all.0 w)
work_recoverable layout bank image nv accepts (Does side.Store op ∷ deeds) all w =
    work_recoverable layout bank image (applied nv op) accepts deeds all.1 (work_kept layout bank image nv accepts (Does side.Store op) all.0 w)
