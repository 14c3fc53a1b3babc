use Rattle.std.proofs.Common.{◌≡◌, ◌∙◌, false, Err, sym, rules}
use Rattle.pfr_flash.proofs.RangeLemmas.{length-now}
use Rattle.pfr_jobs.specs.LogState.{is_spent_in}
use Rattle.pfr_jobs.specs.declared.log.JobFail.TheVariants.{Flash}
use Rattle.pfr_jobs.proofs.FreeLaws.{is_free, begins_unfreed, begins_unwritten, begins_unread, begins_done}
use Rattle.pfr_jobs.proofs.log.JobLog.begin_job.Goals as goal

pub returns-in_err-slot-clause-begins : goal.returns-in_err-slot-clause-begins
returns-in_err-slot-clause-begins g c =
    let room : is_spent_in c.args.self.now ≡ false = sym c.is_spent.ensures ∙ c.if-is_spent.false in
    let same : c.from_residual.result ≡ Err (Flash c.in_err-slot.field-0.0) = search rules in
    rw same (begins_unfreed c.args.self.now _ c.args.kind c.args.digest.now _ _ c.requires.stands room _ c.in_err-slot.ensures.follows)

pub write_job-requires-clause-inside : goal.write_job-requires-clause-inside
write_job-requires-clause-inside g c =
    let room : is_spent_in c.args.self.now ≡ false = sym c.is_spent.ensures ∙ c.if-is_spent.false in
    let free = is_free c.args.self.now _ _ c.requires.stands (length-now (g.F.Flash.device c.args.nv.now) ∙ c.requires.size) room in
    rw c.in_ok-slot.ensures.slot free.0

pub write_job-requires-clause-slot : goal.write_job-requires-clause-slot
write_job-requires-clause-slot g c =
    let room : is_spent_in c.args.self.now ≡ false = sym c.is_spent.ensures ∙ c.if-is_spent.false in
    let free = is_free c.args.self.now _ _ c.requires.stands (length-now (g.F.Flash.device c.args.nv.now) ∙ c.requires.size) room in
    rw c.in_ok-slot.ensures.slot free.1

pub returns-in_err-write_job-clause-begins : goal.returns-in_err-write_job-clause-begins
returns-in_err-write_job-clause-begins g c =
    let room : is_spent_in c.args.self.now ≡ false = sym c.is_spent.ensures ∙ c.if-is_spent.false in
    let same : c.from_residual-in_err-write_job.result ≡ Err (Flash c.in_err-write_job.field-0.0) = search rules in
    rw same (begins_unwritten c.args.self.now _ c.args.kind c.args.digest.now _ _ c.requires.stands room
    c.in_ok-slot.slot c.in_ok-slot.ensures.follows _ c.in_ok-slot.ensures.slot _ c.in_err-write_job.ensures)

pub returns-in_err-self-inside-clause-begins : goal.returns-in_err-self-inside-clause-begins
returns-in_err-self-inside-clause-begins g c =
    let room : is_spent_in c.args.self.now ≡ false = sym c.is_spent.ensures ∙ c.if-is_spent.false in
    let same : c.from_residual-in_err-self-inside.result ≡ Err (Flash c.in_err-self-inside.field-0.0) = search rules in
    rw same (begins_unread c.args.self.now _ c.args.kind c.args.digest.now _ _ c.requires.stands room
    c.in_ok-slot.slot c.in_ok-slot.ensures.follows _ c.in_ok-slot.ensures.slot _ c.in_ok-write_job.ensures _ _ c.in_err-self-inside.ensures.ends)

pub returns-clause-begins : goal.returns-clause-begins
returns-clause-begins g c =
    let room : is_spent_in c.args.self.now ≡ false = sym c.is_spent.ensures ∙ c.if-is_spent.false in
    begins_done c.args.self.now _ c.args.kind c.args.digest.now _ _ c.requires.stands room
    c.in_ok-slot.slot c.in_ok-slot.ensures.follows _ c.in_ok-slot.ensures.slot _ c.in_ok-write_job.ensures _ c.in_ok-self-inside.ensures.ends
