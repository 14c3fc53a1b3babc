-- A bank's log of jobs as it is kept, and what of it the bytes of the store say.
use Rattle.std.specs.Prelude.{ℕ, ◌+◌, ◌*◌, ◌<◌, ◌==◌, ◌&&◌, Bool, true, false, List, Option, Some, None, replicate}
use Rattle.pfr_flash.specs.Bytes.{bytes_at}
use Rattle.pfr_flash.specs.FuseRow.{is_cleared}
use Rattle.pfr_flash.specs.declared.names.Bank.{Bank}
use Rattle.pfr_jobs.specs.Log.{selector, current_at, current_page, last_gated, used_in, first_unspent, open_job}
use Rattle.pfr_jobs.specs.declared.job.OpenJob.{OpenJob}

pub record LogState : Type 0 where
  pub bank : Bank
  -- where the current page begins
  pub page : ℕ
  -- its last gated slot, and one plus its last slot that isn't blank
  pub last : Option ℕ
  pub used : ℕ
  -- the first selector byte that is 0xFF
  pub unspent : Option ℕ
  pub job : OpenJob
  -- the marks of the last gated slot
  pub marks : List ℕ

-- sixteen bytes of marks, of which none is set
abbrev pub no_marks : List ℕ
no_marks = replicate 16 255

-- a slot of a page, if any
abbrev pub IsSlot : Option ℕ → Type 0
IsSlot None = Unit {0}
IsSlot (Some k) = k < 64

abbrev pub marks_in : List ℕ → Option ℕ → List ℕ
marks_in page None = no_marks
marks_in page (Some k) = bytes_at page (64 * k + 36) 16

-- the marks of the last gated slot of the current page
unfoldable pub marks_of : List ℕ → Bank → List ℕ
marks_of nv bank = marks_in (current_page nv bank) (last_gated (current_page nv bank) 64)

-- a group of pages was marked in the job that is open
abbrev pub is_marked : List ℕ → Bank → ℕ → Bool
is_marked nv bank group = is_cleared (marks_of nv bank) group

abbrev pub is_none : Option ℕ → Bool
is_none None = true
is_none (Some k) = false

-- what the bytes of the store say of a bank's log
abbrev pub log_of : List ℕ → Bank → LogState
log_of nv bank = record {
  bank = bank;
  page = current_at nv bank;
  last = last_gated (current_page nv bank) 64;
  used = used_in (current_page nv bank) 64;
  unspent = first_unspent (selector nv bank);
  job = open_job nv bank;
  marks = marks_of nv bank;
}

-- The log takes no more job: no slot is blank, and no selector byte is 0xFF.
abbrev pub is_spent_in : LogState → Bool
is_spent_in log = log.used == 64 && is_none log.unspent

abbrev pub is_spent : List ℕ → Bank → Bool
is_spent nv bank = is_spent_in (log_of nv bank)
