-- No group is marked in a job that was just begun.
use Rattle.std.proofs.Common.{◌≡◌, ◌∙◌, ℕ, zero, suc, ◌+◌, ◌*◌, ◌/◌, ◌%◌, ◌≤◌, ◌<◌, ◌==◌, ◌&&◌, Bool, true, false, not, if◌then◌else◌, List, [], ◌∷◌, length, get_or, Option, Some, None, refl, sym, ap, subst, arith, ◌⊎◌, inl, inr}
use Rattle.std.specs.List.{list_all}
use Rattle.std.specs.Int.{bit_at}
use Rattle.std.proofs.lemmas.Bool.{cases_lt, eqb-true, false≢true}
use Rattle.std.proofs.lemmas.List.{ext_get_or, get_or_past}
use Rattle.pfr_flash.specs.Bytes.{bytes_at, blank}
use Rattle.pfr_flash.specs.FuseRow.{is_cleared}
use Rattle.pfr_flash.specs.Operation.{Operation, Erase, Program, applied, play}
use Rattle.pfr_flash.specs.declared.names.Bank.{Bank}
use Rattle.pfr_flash.proofs.BytesLemmas.{length-blank, get_or-blank, length-bytes_at, get_or-bytes_at, get_or-written_inside}
use Rattle.pfr_flash.proofs.PlayLemmas.{length-applied}
use Rattle.pfr_flash.proofs.RangeLemmas.{SameOutside-applied}
use Rattle.pfr_jobs.specs.declared.job.JobKind.{JobKind}
use Rattle.pfr_jobs.specs.declared.job.OpenJob.TheVariants as job
use Rattle.pfr_jobs.specs.Log.{log_at, spent_in, selector, page_by, current_at, current_page, is_gated, last_gated, open_job, first_unspent, job_slot, used_in}
use Rattle.pfr_jobs.specs.LogPlans.{body_of, slot_plan, switch_plan, begin_by, begin_plan}
use Rattle.pfr_jobs.specs.LogState.{is_marked, marks_in, marks_of, is_none, is_spent}
use Rattle.pfr_jobs.proofs.LogLaws.{page_inside, log_inside, current_inside, last_new}
use Rattle.pfr_jobs.proofs.SlotLaw.{IsReady, IsDigest, zero_programmed}
use Rattle.pfr_jobs.proofs.SwitchLaw.{spent_more, page_sector, at_is}
use Rattle.pfr_jobs.proofs.BeginLaw.{used_is, TakesJob, in_slot, by_switch}

-- a log that isn't spent takes a job
pub takes_job : (nv : List ℕ) (b : Bank) → is_spent nv b ≡ false → TakesJob nv b
takes_job nv b free = by_used (used_in (current_page nv b) 64) refl (used_is (current_page nv b) 64).few free
  where
    by_unspent : (used : ℕ) → used ≡ 64 → (found : Option ℕ) → first_unspent (selector nv b) ≡ found → (used == 64 && is_none found) ≡ false → TakesJob nv b
    by_unspent used e None found spent = absurd (false≢true (sym spent ∙ ap (λ (n : ℕ). n == 64 && true) e))
    by_unspent used e (Some at) found spent = by_switch at found

    by_used : (used : ℕ) → used_in (current_page nv b) 64 ≡ used → used_in (current_page nv b) 64 ≤ 64 → (used_in (current_page nv b) 64 == 64 && is_none (first_unspent (selector nv b))) ≡ false → TakesJob nv b
    by_used used e few spent = elim (cases_lt (used_in (current_page nv b) 64) 64) [
      | inl below ↦ in_slot below
      | inr all ↦ by_unspent (used_in (current_page nv b) 64) (omega (arith, few, all)) (first_unspent (selector nv b)) refl spent
    ]

-- ---- marks that are 0xFF
-- a bit of 0xFF isn't cleared
ones_free : (k : ℕ) → k < 8 → (bit_at 255 k == 0) ≡ false
ones_free zero h = refl
ones_free (suc zero) h = refl
ones_free (suc (suc zero)) h = refl
ones_free (suc (suc (suc zero))) h = refl
ones_free (suc (suc (suc (suc zero)))) h = refl
ones_free (suc (suc (suc (suc (suc zero))))) h = refl
ones_free (suc (suc (suc (suc (suc (suc zero)))))) h = refl
ones_free (suc (suc (suc (suc (suc (suc (suc zero))))))) h = refl
ones_free (suc (suc (suc (suc (suc (suc (suc (suc k)))))))) h = absurd (omega (arith, h))

row_free : (row : List ℕ) (group : ℕ) → group < 128 → ((i : ℕ) → i < 16 → get_or row i 0 ≡ 255) → is_cleared row group ≡ false
row_free row group small ones =
    ap (λ (byte : ℕ). bit_at byte (group % 8) == 0) (ones (group / 8) (omega (arith, small))) ∙ ones_free (group % 8) (omega arith)

-- ---- a job is written to a blank slot behind all gated ones
module _ (nv : List ℕ) (b : Bank) (n : ℕ) (kind : JobKind) (digest : List ℕ) (r : IsReady nv b n) (d : IsDigest digest) where
  abbrev fill : Operation
  fill = Program (current_at nv b + 64 * n + 1) (body_of kind digest)

  abbrev gating : Operation
  gating = Program (current_at nv b + 64 * n) (0 ∷ [])

  abbrev begun : List ℕ
  begun = applied (applied nv fill) gating

  size : length begun ≡ 32768
  size = length-applied (applied nv fill) gating ∙ length-applied nv fill ∙ r.size

  -- outside of the slot's first 36 bytes all is as it was
  out : (p : ℕ) → (p < current_at nv b + 64 * n) ⊎ (current_at nv b + 64 * n + 36 ≤ p) → get_or begun p 0 ≡ get_or nv p 0
  out p h = (SameOutside-applied (applied nv fill) gating).stays p (apart_gate h) ∙ (SameOutside-applied nv fill).stays p (apart_body h)
    where
      apart_gate : (p < current_at nv b + 64 * n) ⊎ (current_at nv b + 64 * n + 36 ≤ p) → (p < current_at nv b + 64 * n) ⊎ (current_at nv b + 64 * n + 1 ≤ p)
      apart_gate (inl below) = inl below
      apart_gate (inr above) = inr (omega (arith, above))

      apart_body : (p < current_at nv b + 64 * n) ⊎ (current_at nv b + 64 * n + 36 ≤ p) → (p < current_at nv b + 64 * n + 1) ⊎ (current_at nv b + 64 * n + 1 + length (body_of kind digest) ≤ p)
      apart_body (inl below) = inl (omega (arith, below))
      apart_body (inr above) = inr (omega (arith, above, d.long))

  selector_stays : selector begun b ≡ selector nv b
  selector_stays =
      let old_len : length (bytes_at nv (log_at b + 0x2000) 4096) ≡ 4096 = length-bytes_at nv (log_at b + 0x2000) 4096 (omega (arith, r.size, log_inside b)) in
      let new_len : length (bytes_at begun (log_at b + 0x2000) 4096) ≡ 4096 = length-bytes_at begun (log_at b + 0x2000) 4096 (omega (arith, size, log_inside b)) in
      ext_get_or 0 (bytes_at begun (log_at b + 0x2000) 4096) (bytes_at nv (log_at b + 0x2000) 4096) (new_len ∙ sym old_len) (λ i below.
      let short : i < 4096 = omega (arith, below, new_len) in
      get_or-bytes_at begun (log_at b + 0x2000) 4096 i 0 short
      ∙ out (log_at b + 0x2000 + i) (inr (omega (arith, page_inside b (spent_in (selector nv b)), r.few)))
      ∙ sym (get_or-bytes_at nv (log_at b + 0x2000) 4096 i 0 short))

  current_stays : current_at begun b ≡ current_at nv b
  current_stays = ap (λ (s : List ℕ). page_by b (spent_in s)) selector_stays

  others : (k : ℕ) → k < 64 → (k < n) ⊎ (n < k) → is_gated (bytes_at begun (current_at nv b) 4096) k ≡ is_gated (current_page nv b) k
  others k below apart = ap (λ (x : ℕ). not (x == 255))
      (get_or-bytes_at begun (current_at nv b) 4096 (64 * k) 0 (omega (arith, below))
      ∙ out (current_at nv b + 64 * k) (by_place apart)
      ∙ sym (get_or-bytes_at nv (current_at nv b) 4096 (64 * k) 0 (omega (arith, below))))
    where
      by_place : (k < n) ⊎ (n < k) → (current_at nv b + 64 * k < current_at nv b + 64 * n) ⊎ (current_at nv b + 64 * n + 36 ≤ current_at nv b + 64 * k)
      by_place (inl less) = inl (omega (arith, less))
      by_place (inr more) = inr (omega (arith, more))

  gated : is_gated (bytes_at begun (current_at nv b) 4096) n ≡ true
  gated =
      let e : current_at nv b + 64 * n ≡ current_at nv b + (64 * n + 0) = omega arith in
      ap (λ (x : ℕ). not (x == 255)) (
      get_or-bytes_at begun (current_at nv b) 4096 (64 * n) 0 (omega (arith, r.few))
      ∙ zero_programmed (applied nv fill) (current_at nv b + 64 * n) (omega (arith, length-applied nv fill, r.size, current_inside nv b, r.few))
      ((SameOutside-applied nv fill).stays (current_at nv b + 64 * n) (inl (omega arith)) ∙ ap (λ (p : ℕ). get_or nv p 0) e ∙ r.blank 0 (omega arith)))

  last : last_gated (current_page begun b) 64 ≡ Some n
  last =
      ap (λ (at : ℕ). last_gated (bytes_at begun at 4096) 64) current_stays
      ∙ last_new (current_page nv b) (bytes_at begun (current_at nv b) 4096) n r.few r.last others gated

  marks : marks_of begun b ≡ bytes_at (bytes_at begun (current_at nv b) 4096) (64 * n + 36) 16
  unfolding marks_of
  marks = ap (λ (k : Option ℕ). marks_in (current_page begun b) k) last ∙ ap (λ (at : ℕ). bytes_at (bytes_at begun at 4096) (64 * n + 36) 16) current_stays

  -- none of its marks is set
  slot_fresh : (group : ℕ) → group < 128 → is_marked begun b group ≡ false
  slot_fresh group small = row_free (marks_of begun b) group small (λ i h.
      let e : current_at nv b + (64 * n + 36 + i) ≡ current_at nv b + (64 * n + (36 + i)) = omega arith in
      ap (λ (row : List ℕ). get_or row i 0) marks
      ∙ get_or-bytes_at (bytes_at begun (current_at nv b) 4096) (64 * n + 36) 16 i 0 h
      ∙ get_or-bytes_at begun (current_at nv b) 4096 (64 * n + 36 + i) 0 (omega (arith, r.few, h))
      ∙ out (current_at nv b + (64 * n + 36 + i)) (inr (omega arith))
      ∙ ap (λ (p : ℕ). get_or nv p 0) e ∙ r.blank (36 + i) (omega (arith, h)))

-- ---- a page with a slot that wasn't used
ones_at : (xs : List ℕ) (i : ℕ) → list_all (λ byte. byte == 255) xs ≡ true → i < length xs → get_or xs i 0 ≡ 255
ones_at [] i h below = absurd (omega arith)
ones_at (x ∷ xs) i h below = by_first (x == 255) refl (λ j all less. ones_at xs j all less) i h below
  where
    by_first : (t : Bool) → (x == 255) ≡ t → ((j : ℕ) → list_all (λ byte. byte == 255) xs ≡ true → j < length xs → get_or xs j 0 ≡ 255) → (i : ℕ) → (t && list_all (λ byte. byte == 255) xs) ≡ true → i < suc (length xs) → get_or (x ∷ xs) i 0 ≡ 255
    by_first false e rest i h below = absurd (false≢true h)
    by_first true e rest zero h below = eqb-true x 255 e
    by_first true e rest (suc i) h below = rest i h (omega arith)

ready : (nv : List ℕ) (b : Bank) → length nv ≡ 32768 → used_in (current_page nv b) 64 < 64 → IsReady nv b (used_in (current_page nv b) 64)
ready nv b size few = record {
  size = size;
  few = few;
  blank = λ i h. in_blank (used_in (current_page nv b) 64) few (omega arith) i h;
  last = λ k h gated. by_place k h gated (cases_lt k (used_in (current_page nv b) 64));
}
  where
    page_len : length (current_page nv b) ≡ 4096
    page_len = length-bytes_at nv (current_at nv b) 4096 (omega (arith, size, current_inside nv b))

    in_blank : (k : ℕ) → k < 64 → used_in (current_page nv b) 64 ≤ k → (i : ℕ) → i < 64 → get_or nv (current_at nv b + (64 * k + i)) 0 ≡ 255
    in_blank k below from i h =
        let slot_len : length (job_slot (current_page nv b) k) ≡ 64 = length-bytes_at (current_page nv b) (64 * k) 64 (omega (arith, page_len, below)) in
        sym (get_or-bytes_at nv (current_at nv b) 4096 (64 * k + i) 0 (omega (arith, below, h)))
        ∙ sym (get_or-bytes_at (current_page nv b) (64 * k) 64 i 0 h)
        ∙ ones_at (job_slot (current_page nv b) k) i ((used_is (current_page nv b) 64).blank k from below) (omega (arith, slot_len, h))

    by_place : (k : ℕ) → k < 64 → is_gated (current_page nv b) k ≡ true → (k < used_in (current_page nv b) 64) ⊎ (used_in (current_page nv b) 64 ≤ k) → k < used_in (current_page nv b) 64
    by_place k h gated (inl below) = below
    by_place k h gated (inr from) =
        let e : current_at nv b + 64 * k ≡ current_at nv b + (64 * k + 0) = omega arith in
        let byte : get_or (current_page nv b) (64 * k) 0 ≡ 255 =
        get_or-bytes_at nv (current_at nv b) 4096 (64 * k) 0 (omega (arith, h)) ∙ ap (λ (p : ℕ). get_or nv p 0) e ∙ in_blank k h from 0 (omega arith) in
        absurd (false≢true (sym (ap (λ (x : ℕ). not (x == 255)) byte) ∙ gated))

-- ---- the other page is erased and made the current one
module _ (nv : List ℕ) (b : Bank) (at : ℕ) (whole : length nv ≡ 32768) (none : open_job nv b ≡ job.None) (found : first_unspent (selector nv b) ≡ Some at) where
  abbrev spent : ℕ
  spent = spent_in (selector nv b)

  abbrev other : ℕ
  other = page_by b (spent_in (selector nv b) + 1)

  abbrev erased : List ℕ
  erased = applied nv (Erase (page_by b (spent_in (selector nv b) + 1) / 4096))

  abbrev select : Operation
  select = Program (log_at b + 0x2000 + at) (0 ∷ [])

  abbrev selected : List ℕ
  selected = applied erased select

  erased_size : length erased ≡ 32768
  erased_size = length-applied nv (Erase (page_by b (spent_in (selector nv b) + 1) / 4096)) ∙ whole

  selected_size : length selected ≡ 32768
  selected_size = length-applied erased select ∙ erased_size

  sector : 4096 * (other / 4096) ≡ other
  sector = page_sector b (spent_in (selector nv b) + 1)

  erased_blank : (i : ℕ) → i < 4096 → get_or erased (other + i) 0 ≡ 255
  erased_blank i h =
      ap (λ (p : ℕ). get_or erased (p + i) 0) (sym sector)
      ∙ get_or-written_inside nv (4096 * (other / 4096)) blank i 0 (omega (arith, h, sector, whole, page_inside b (spent + 1), log_inside b)) (omega (arith, h, length-blank)) ∙ get_or-blank i h

  erased_selector : (i : ℕ) → i < 4096 → get_or erased (log_at b + 0x2000 + i) 0 ≡ get_or nv (log_at b + 0x2000 + i) 0
  erased_selector i h = (SameOutside-applied nv (Erase (other / 4096))).stays (log_at b + 0x2000 + i) (inr (omega (arith, sector, page_inside b (spent + 1))))

  selector_len : (image : List ℕ) → length image ≡ 32768 → length (selector image b) ≡ 4096
  selector_len image h = length-bytes_at image (log_at b + 0x2000) 4096 (omega (arith, h, log_inside b))

  is_at : (at < 4096) × (get_or (selector nv b) at 0 ≡ 255)
  is_at = at_is nv b at whole none found

  selected_spent : (get_or (selector selected b) at 0 == 255) ≡ false
  selected_spent = ap (λ (x : ℕ). x == 255) (
      get_or-bytes_at selected (log_at b + 0x2000) 4096 at 0 is_at.0
      ∙ zero_programmed erased (log_at b + 0x2000 + at) (omega (arith, is_at.0, erased_size, log_inside b))
      (erased_selector at is_at.0 ∙ sym (get_or-bytes_at nv (log_at b + 0x2000) 4096 at 0 is_at.0) ∙ is_at.1))

  selector_but : (k : ℕ) → (k < at) ⊎ (at < k) → k < 4096 → get_or (selector selected b) k 0 ≡ get_or (selector nv b) k 0
  selector_but k h short =
      get_or-bytes_at selected (log_at b + 0x2000) 4096 k 0 short
      ∙ (SameOutside-applied erased select).stays (log_at b + 0x2000 + k) (by_place h)
      ∙ erased_selector k short ∙ sym (get_or-bytes_at nv (log_at b + 0x2000) 4096 k 0 short)
    where
      by_place : (k < at) ⊎ (at < k) → (log_at b + 0x2000 + k < log_at b + 0x2000 + at) ⊎ (log_at b + 0x2000 + at + 1 ≤ log_at b + 0x2000 + k)
      by_place (inl h) = inl (omega (arith, h))
      by_place (inr h) = inr (omega (arith, h))

  current_other : current_at selected b ≡ other
  current_other = ap (λ (n : ℕ). page_by b n)
      (spent_more (selector nv b) (selector selected b) at (selector_len selected selected_size ∙ sym (selector_len nv whole)) (omega (arith, is_at.0, selector_len nv whole))
      (λ k h. by_long k h (cases_lt k 4096)) is_at.1 selected_spent)
    where
      past : (image : List ℕ) (k : ℕ) → 4096 ≤ k → length image ≡ 32768 → get_or (selector image b) k 0 ≡ 0
      past image k h long = get_or_past (selector image b) k 0 (omega (arith, h, selector_len image long))

      by_long : (k : ℕ) → (k < at) ⊎ (at < k) → (k < 4096) ⊎ (4096 ≤ k) → get_or (selector selected b) k 0 ≡ get_or (selector nv b) k 0
      by_long k h (inl short) = selector_but k h short
      by_long k h (inr long) = past selected k long selected_size ∙ sym (past nv k long whole)

  selected_blank : (i : ℕ) → i < 4096 → get_or selected (current_at selected b + i) 0 ≡ 255
  selected_blank i h =
      ap (λ (p : ℕ). get_or selected (p + i) 0) current_other
      ∙ (SameOutside-applied erased select).stays (other + i) (inl (omega (arith, h, page_inside b (spent_in (selector nv b) + 1)))) ∙ erased_blank i h

  selected_ready : IsReady selected b 0
  selected_ready = record {
    size = selected_size;
    few = omega arith;
    blank = λ i h. selected_blank (64 * 0 + i) (omega (arith, h));
    last = λ k h gated. absurd (false≢true (sym (ungated k h) ∙ gated));
  }
    where
      ungated : (k : ℕ) → k < 64 → is_gated (current_page selected b) k ≡ false
      ungated k h = ap (λ (x : ℕ). not (x == 255)) (get_or-bytes_at selected (current_at selected b) 4096 (64 * k) 0 (omega (arith, h)) ∙ selected_blank (64 * k) (omega (arith, h)))

  switch_fresh : (kind : JobKind) (digest : List ℕ) → IsDigest digest → (group : ℕ) → group < 128 → is_marked (play nv (switch_plan b (spent_in (selector nv b)) at kind digest)) b group ≡ false
  switch_fresh kind digest d group small =
      ap (λ (p : ℕ). is_marked (play selected (slot_plan p 0 kind digest)) b group) (sym current_other)
      ∙ slot_fresh selected b 0 kind digest selected_ready d group small

-- ---- whichever slot it takes
module _ (nv : List ℕ) (b : Bank) (kind : JobKind) (digest : List ℕ) (size : length nv ≡ 32768) (none : open_job nv b ≡ job.None) (takes : TakesJob nv b) (d : IsDigest digest) (group : ℕ) (small : group < 128) where
  abbrev IsFresh : List Operation → Type 0
  IsFresh plan = is_marked (play nv plan) b group ≡ false

  by_slot : used_in (current_page nv b) 64 < 64 → IsFresh (slot_plan (current_at nv b) (used_in (current_page nv b) 64) kind digest)
  by_slot few = slot_fresh nv b (used_in (current_page nv b) 64) kind digest (ready nv b size few) d group small

  full : (used : ℕ) → used ≡ 64 → (at : ℕ) → first_unspent (selector nv b) ≡ Some at → IsFresh (begin_by nv b used (Some at) kind digest)
  full used e at found = subst (λ (u : ℕ). IsFresh (begin_by nv b u (Some at) kind digest)) (sym e) (switch_fresh nv b at size none found kind digest d group small)

  by_found : used_in (current_page nv b) 64 < 64 → (t : Bool) → (used_in (current_page nv b) 64 == 64) ≡ t → (found : Option ℕ) → IsFresh (begin_by nv b (used_in (current_page nv b) 64) found kind digest)
  by_found few t e None = by_slot few
  by_found few true e (Some at) = absurd (omega (arith, few, eqb-true (used_in (current_page nv b) 64) 64 e))
  by_found few false e (Some at) =
      subst (λ (t : Bool). IsFresh (if t then switch_plan b (spent_in (selector nv b)) at kind digest else slot_plan (current_at nv b) (used_in (current_page nv b) 64) kind digest)) (sym e) (by_slot few)

  by_takes : TakesJob nv b → IsFresh (begin_by nv b (used_in (current_page nv b) 64) (first_unspent (selector nv b)) kind digest)
  by_takes (in_slot few) = by_found few (used_in (current_page nv b) 64 == 64) refl (first_unspent (selector nv b))
  by_takes (by_switch at found) =
      subst (λ (f : Option ℕ). IsFresh (begin_by nv b (used_in (current_page nv b) 64) f kind digest)) (sym found) (by_used (cases_lt (used_in (current_page nv b) 64) 64))
    where
      by_used : (used_in (current_page nv b) 64 < 64) ⊎ (64 ≤ used_in (current_page nv b) 64) → IsFresh (begin_by nv b (used_in (current_page nv b) 64) (Some at) kind digest)
      by_used (inl few) = by_found few (used_in (current_page nv b) 64 == 64) refl (Some at)
      by_used (inr all) = full (used_in (current_page nv b) 64) (omega (arith, all, (used_is (current_page nv b) 64).few)) at found

  -- No group is marked in a job that was just begun.
  pub begin_fresh : is_marked (play nv (begin_plan nv b kind digest)) b group ≡ false
  unfolding begin_plan
  begin_fresh = by_takes takes
