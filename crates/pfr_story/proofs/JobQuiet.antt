-- Rules that ask only which devices are called, or only what is told, and what a job on a bank does of both.
use Rattle.std.proofs.Common.{refl, inl, inr}
use Rattle.pfr_flash.specs.declared.names.Bank.{Bank}
use Rattle.pfr_flash.specs.declared.names.Counts.{Counts}
use Rattle.pfr_report.specs.declared.note.What.{What}
use Rattle.pfr_story.specs.Story.{Story}
use Rattle.pfr_story.proofs.BringRules.{IsOwn, Making}
use Rattle.pfr_story.proofs.JobRules.{AllowsJobs}
use Rattle.pfr_story.proofs.Traces.{Saying}

-- ---- rules that ask only which devices are called, or only what is told
pub own_jobs : (b : Bank) (S : (Counts → What) → Type 0) → AllowsJobs (Making (IsOwn b) S) b
own_jobs b S = record { asks = λ which story own. own; works = λ op story. inl refl; logs = λ op story own. inr refl; raises = λ op story raise. inr refl }

pub told_jobs : (b : Bank) (F : What → Story → Type 0) → AllowsJobs (Saying F) b
told_jobs b F = record { asks = λ which story own. tt; works = λ op story. tt; logs = λ op story own. tt; raises = λ op story raise. tt }
