-- The six lines of a bank's verdict, written one after another.
use Rattle.std.proofs.Common.{ℕ, List, ◌++◌, Bool, Result, Ok, Err, codes, decimal}
use Rattle.pfr_flash.specs.declared.names.Bank.{Bank}
use Rattle.pfr_auth.specs.declared.areas.Area.TheVariants.{Recovery, Staging}
use Rattle.pfr_shelf.specs.Pieces.{Writes}
use Rattle.pfr_shelf.specs.declared.fault.SinkFail.{SinkFail}
use Rattle.pfr_shelf.proofs.WritesLemmas.{writes_on, writes_no_more}
use Rattle.pfr_report.specs.Verdicts.{area_text, area_word, image_text, job_word, judged_lines, line, yes_or_no}
use Rattle.pfr_report.specs.declared.verdict.BankVerdict.{BankVerdict}

-- each line, and what is written from it on
abbrev floor_line : Bank → BankVerdict → List ℕ
floor_line bank v = line bank (codes "floor ") (decimal v.floor)

abbrev job_line : Bank → BankVerdict → List ℕ
job_line bank v = line bank (codes "job ") (job_word v.job)

abbrev active_line : Bank → BankVerdict → List ℕ
active_line bank v = line bank (codes "active ") (image_text v.active)

abbrev recovery_line : Bank → BankVerdict → List ℕ
recovery_line bank v = line bank (area_word Recovery) (codes " " ++ area_text v.recovery)

abbrev staging_line : Bank → BankVerdict → List ℕ
staging_line bank v = line bank (area_word Staging) (codes " " ++ area_text v.staging)

abbrev same_line : Bank → BankVerdict → List ℕ
same_line bank v = line bank (codes "same-manifest ") (yes_or_no v.same_manifest)

abbrev from_staging : Bank → BankVerdict → List ℕ
from_staging bank v = staging_line bank v ++ same_line bank v

abbrev from_recovery : Bank → BankVerdict → List ℕ
from_recovery bank v = recovery_line bank v ++ from_staging bank v

abbrev from_active : Bank → BankVerdict → List ℕ
from_active bank v = active_line bank v ++ from_recovery bank v

abbrev from_job : Bank → BankVerdict → List ℕ
from_job bank v = job_line bank v ++ from_active bank v

module _ {K : Type 0} (tells : Bool) (written : K → List ℕ) (faults : K → ℕ) where
  -- a text was written, or a first part of it until a failure
  abbrev Wrote : K → K → List ℕ → Type 0
  Wrote old new text = Writes {T = Unit {0}} {E = SinkFail} tells written faults old new text (Ok tt)

  abbrev Stopped : SinkFail → K → K → List ℕ → Type 0
  Stopped fail old new text = Writes {T = Unit {0}} tells written faults old new text (Err fail)

  more : (old mid new : K) (text others : List ℕ) (result : Result (Unit {0}) SinkFail) → Wrote old mid text
      → Writes tells written faults mid new others result → Writes tells written faults old new (text ++ others) result
  more old mid new text others result first second = writes_on {U = Unit {0}} tells written faults old mid new text others tt result first second

  no_more : (old new : K) (text others : List ℕ) (fail cause : SinkFail) → Stopped fail old new text → Stopped cause old new (text ++ others)
  no_more old new text others fail cause first = writes_no_more {U = Unit {0}} tells written faults old new text others fail cause first

  module _ (bank : Bank) (v : BankVerdict) (a b : K) where
    pub stopped_at_floor : (fail cause : SinkFail) → Stopped fail a b (floor_line bank v)
        → Stopped cause a b (judged_lines bank v)
    stopped_at_floor fail cause h0 =
        no_more a b (floor_line bank v) (from_job bank v) fail cause h0

    pub stopped_at_job : (c : K) (fail cause : SinkFail) → Wrote a b (floor_line bank v) → Stopped fail b c (job_line bank v)
        → Stopped cause a c (judged_lines bank v)
    stopped_at_job c fail cause h0 h1 =
        more a b c (floor_line bank v) (from_job bank v) (Err cause) h0
        (no_more b c (job_line bank v) (from_active bank v) fail cause h1)

    pub stopped_at_active : (c d : K) (fail cause : SinkFail) → Wrote a b (floor_line bank v)
        → Wrote b c (job_line bank v) → Stopped fail c d (active_line bank v)
        → Stopped cause a d (judged_lines bank v)
    stopped_at_active c d fail cause h0 h1 h2 =
        more a b d (floor_line bank v) (from_job bank v) (Err cause) h0
        (more b c d (job_line bank v) (from_active bank v) (Err cause) h1
        (no_more c d (active_line bank v) (from_recovery bank v) fail cause h2))

    pub stopped_at_recovery : (c d e : K) (fail cause : SinkFail) → Wrote a b (floor_line bank v) → Wrote b c (job_line bank v)
        → Wrote c d (active_line bank v) → Stopped fail d e (recovery_line bank v)
        → Stopped cause a e (judged_lines bank v)
    stopped_at_recovery c d e fail cause h0 h1 h2 h3 =
        more a b e (floor_line bank v) (from_job bank v) (Err cause) h0
        (more b c e (job_line bank v) (from_active bank v) (Err cause) h1
        (more c d e (active_line bank v) (from_recovery bank v) (Err cause) h2
        (no_more d e (recovery_line bank v) (from_staging bank v) fail cause h3)))

    pub stopped_at_staging : (c d e f : K) (fail cause : SinkFail) → Wrote a b (floor_line bank v) → Wrote b c (job_line bank v)
        → Wrote c d (active_line bank v) → Wrote d e (recovery_line bank v) → Stopped fail e f (staging_line bank v)
        → Stopped cause a f (judged_lines bank v)
    stopped_at_staging c d e f fail cause h0 h1 h2 h3 h4 =
        more a b f (floor_line bank v) (from_job bank v) (Err cause) h0
        (more b c f (job_line bank v) (from_active bank v) (Err cause) h1
        (more c d f (active_line bank v) (from_recovery bank v) (Err cause) h2
        (more d e f (recovery_line bank v) (from_staging bank v) (Err cause) h3
        (no_more e f (staging_line bank v) (same_line bank v) fail cause h4))))

    pub all_lines : (c d e f g : K) (result : Result (Unit {0}) SinkFail) → Wrote a b (floor_line bank v) → Wrote b c (job_line bank v)
        → Wrote c d (active_line bank v) → Wrote d e (recovery_line bank v) → Wrote e f (staging_line bank v)
        → Writes tells written faults f g (same_line bank v) result → Writes tells written faults a g (judged_lines bank v) result
    all_lines c d e f g result h0 h1 h2 h3 h4 h5 =
        more a b g (floor_line bank v) (from_job bank v) result h0
        (more b c g (job_line bank v) (from_active bank v) result h1
        (more c d g (active_line bank v) (from_recovery bank v) result h2
        (more d e g (recovery_line bank v) (from_staging bank v) result h3
        (more e f g (staging_line bank v) (same_line bank v) result h4 h5))))
