-- Parts of plans of jobs, as functions of the bank.
use Rattle.std.specs.Prelude.{ℕ, List}
use Rattle.pfr_flash.specs.declared.names.Bank.{Bank}
use Rattle.pfr_capsule.specs.CapsuleState.{CapsuleState}
use Rattle.pfr_engine.specs.Acceptance.{Acceptance}
use Rattle.pfr_fuses.specs.FusesState.{FusesState}
use Rattle.pfr_jobs.specs.declared.job.JobKind.{JobKind}
use Rattle.pfr_report.specs.declared.note.What.{What}
use Rattle.pfr_story.specs.JobPlans.{JobNotes, by_first_pass, by_second_pass, by_source, judged_source}
use Rattle.pfr_story.specs.Plans.{asks, judged_recovery}
use Rattle.pfr_story.specs.Story.{Plan, then}

-- the recovery area is judged behind the second pass, and behind the first one
abbrev pub looked_again : What → (ℕ → What) → Acceptance → FusesState → Bank → Plan
looked_again given_up told accepts fuses bank = then (asks bank) (λ story. by_second_pass given_up told bank fuses (judged_recovery accepts bank fuses story) story)

abbrev pub looked_over : What → (ℕ → What) → Acceptance → FusesState → CapsuleState → Bank → Plan
looked_over given_up told accepts fuses capsule bank =
    then (asks bank) (λ story. by_first_pass given_up told accepts bank fuses capsule (judged_recovery accepts bank fuses story) story)

-- the source area of a job that is open is judged
abbrev pub source_judged : JobNotes → Acceptance → FusesState → JobKind → List ℕ → Bank → Plan
source_judged notes accepts fuses kind digest bank =
    then (asks bank) (λ story. by_source notes accepts bank fuses kind digest (judged_source accepts bank fuses kind story) story)
