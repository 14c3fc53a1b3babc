-- What holds of each command.
use Rattle.std.proofs.Common.{◌≡◌, ◌∙◌, refl, sym, inl, inr, ℕ, ◌≤◌, [], append-nil, Bool, true, Option, Some, None, arith}
use Rattle.pfr_flash.specs.FlashState.{Rose}
use Rattle.pfr_report.specs.Texts.{report}
use Rattle.pfr.specs.Checks.{CheckOutput, ChecksFor}
use Rattle.pfr.specs.Judging.{Keeps, Breaks, check_rows, run_rows, verdict}
use Rattle.pfr.specs.Making.{cert_names, cert_rows, cert_stores, make_names, make_rows, make_stores, provision_names, provision_rows, provision_stores}
use Rattle.pfr.specs.Request.{RunRequest, CheckRequest}
use Rattle.pfr.specs.Runs.{Outside, RunAnswers, RunOutput}
use Rattle.pfr.specs.Top.{Got, IsOrNoMemory, rows_of}
use Rattle.pfr.specs.declared.finished.Bench.{Bench}
use Rattle.pfr.specs.declared.words.Command.{Command}
use Rattle.pfr.specs.declared.words.Command.TheVariants.{Run, Check, Make, Provision, Cert}
use Rattle.pfr.specs.declared.status.Status.{Status}
use Rattle.pfr.specs.declared.status.Status.TheVariants.{Done, Usage, BadInput, TooLong, ReadFault, WriteFault, StoreFault, NoMemory}
use Rattle.pfr.proofs.AnswerLemmas.{Answers, keeps_or_breaks, breaks_one}
use Rattle.pfr.proofs.MakingLemmas.{making_breach, making_complete}

-- ---- what the sink got
pub check_got : (tells told : Bool) (before after : Outside) (request : CheckRequest) (status : Status) → ChecksFor tells before after request status → CheckOutput tells told before after request status → Got tells told before after (Some (Check request)) None status
check_got tells told before after request Done c o = (o.0, o.1, o.2)
check_got tells told before after request WriteFault c o = (o.0, o.1, o.2)
check_got tells told before after request Usage c o = absurd c
check_got tells told before after request (BadInput file place why) c o = ([], refl, λ t. o t ∙ sym (append-nil before.output))
check_got tells told before after request (TooLong file) c o = ([], refl, λ t. o t ∙ sym (append-nil before.output))
check_got tells told before after request (ReadFault file) c o = ([], refl, λ t. o t ∙ sym (append-nil before.output))
check_got tells told before after request (StoreFault file) c o = absurd c
check_got tells told before after request NoMemory c o = ([], refl, λ t. o t ∙ sym (append-nil before.output))

pub run_got : (tells told : Bool) (before after : Outside) (request : RunRequest) (option : Option Bench) (status : Status) → RunOutput told before after option status → Got tells told before after (Some (Run request)) option status
run_got tells told before after request option Done o = (o.0, o.1, o.2)
run_got tells told before after request (Some bench) WriteFault o = (report bench.notes.list, refl, o)
run_got tells told before after request None WriteFault o = absurd o
run_got tells told before after request option Usage o = (o.0, o.1, o.2)
run_got tells told before after request option (BadInput file place why) o = (o.0, o.1, o.2)
run_got tells told before after request option (TooLong file) o = (o.0, o.1, o.2)
run_got tells told before after request option (ReadFault file) o = (o.0, o.1, o.2)
run_got tells told before after request option (StoreFault file) o = (o.0, o.1, o.2)
run_got tells told before after request option NoMemory o = (o.0, o.1, o.2)

-- ---- the first file that breaks a rule is told
run_breach : (told : Bool) (before after : Outside) (request : RunRequest) (wanted : Status) (option : Option Bench) (status : Status) → RunAnswers told before after request option status → told ≡ true
    → verdict (run_rows request before.files) ≡ Breaks wanted → ¬ Rose before.shelf_faults after.shelf_faults → IsOrNoMemory wanted status
run_breach told before after request wanted None Done a t v n = absurd a
run_breach told before after request wanted (Some bench) Done a t v n = absurd (keeps_or_breaks _ wanted (a.0.sound t) v)
run_breach told before after request wanted option Usage a t v n = absurd a
run_breach told before after request wanted option (BadInput file place why) a t v n = inl (breaks_one _ _ wanted (a.cause t) v)
run_breach told before after request wanted option (TooLong file) a t v n = inl (breaks_one _ _ wanted (a.cause t) v)
run_breach told before after request wanted option (ReadFault file) a t v n = absurd (n a.cause.0)
run_breach told before after request wanted None WriteFault a t v n = absurd a
run_breach told before after request wanted (Some bench) WriteFault a t v n = absurd (keeps_or_breaks _ wanted (a.0.sound t) v)
run_breach told before after request wanted None (StoreFault file) a t v n = absurd a
run_breach told before after request wanted (Some bench) (StoreFault file) a t v n = absurd (keeps_or_breaks _ wanted (a.0.sound t) v)
run_breach told before after request wanted option NoMemory a t v n = inr refl

check_breach : (told : Bool) (before after : Outside) (request : CheckRequest) (wanted status : Status) → ChecksFor told before after request status → told ≡ true
    → verdict (check_rows request before.files) ≡ Breaks wanted → ¬ Rose before.shelf_faults after.shelf_faults → IsOrNoMemory wanted status
check_breach told before after request wanted Done c t v n = absurd (keeps_or_breaks _ wanted (c t) v)
check_breach told before after request wanted Usage c t v n = absurd c
check_breach told before after request wanted (BadInput file place why) c t v n = inl (breaks_one _ _ wanted (c t) v)
check_breach told before after request wanted (TooLong file) c t v n = inl (breaks_one _ _ wanted (c t) v)
check_breach told before after request wanted (ReadFault file) c t v n = absurd (n c.0)
check_breach told before after request wanted WriteFault c t v n = absurd (keeps_or_breaks _ wanted (c.1 t) v)
check_breach told before after request wanted (StoreFault file) c t v n = absurd c
check_breach told before after request wanted NoMemory c t v n = inr refl

pub breach : (told : Bool) (before after : Outside) (asks : Option Command) (option : Option Bench) (status : Status)
    → Answers told before after asks option status → (command : Command) (wanted : Status) → asks ≡ Some command → told ≡ true → verdict (rows_of command before.files) ≡ Breaks wanted → ¬ Rose before.shelf_faults after.shelf_faults → IsOrNoMemory wanted status
breach told before after asks option status a (Run request) wanted e t v n = run_breach told before after request wanted option status (a.run request e) t v n
breach told before after asks option status a (Check request) wanted e t v n = check_breach told before after request wanted status (a.check request e).cause t v n
breach told before after asks option status a (Make request) wanted e t v n = making_breach told before after (make_rows request) (make_names request) (make_stores request) wanted status (a.make request e).cause t v n
breach told before after asks option status a (Provision request) wanted e t v n = making_breach told before after (provision_rows request) (provision_names request) (provision_stores request) wanted status (a.provision request e).cause t v n
breach told before after asks option status a (Cert request) wanted e t v n = making_breach told before after (cert_rows request) (cert_names request) (cert_stores request) wanted status (a.cert request e).cause t v n

-- ---- where all files keep their rules and nothing failed, the command is done
run_complete : (told : Bool) (before after : Outside) (request : RunRequest) (option : Option Bench) (status : Status) → RunAnswers told before after request option status → told ≡ true
    → verdict (run_rows request before.files) ≡ Keeps → ¬ Rose before.shelf_faults after.shelf_faults → ¬ Rose before.sink_faults after.sink_faults → IsOrNoMemory Done status
run_complete told before after request option Done a t v n m = inl refl
run_complete told before after request option Usage a t v n m = absurd a
run_complete told before after request option (BadInput file place why) a t v n m = absurd (keeps_or_breaks _ _ v (a.cause t))
run_complete told before after request option (TooLong file) a t v n m = absurd (keeps_or_breaks _ _ v (a.cause t))
run_complete told before after request option (ReadFault file) a t v n m = absurd (n a.cause.0)
run_complete told before after request None WriteFault a t v n m = absurd a
run_complete told before after request (Some bench) WriteFault a t v n m = absurd (m a.1)
run_complete told before after request None (StoreFault file) a t v n m = absurd a
run_complete told before after request (Some bench) (StoreFault file) a t v n m = absurd (n a.1)
run_complete told before after request option NoMemory a t v n m = inr refl

check_complete : (told : Bool) (before after : Outside) (request : CheckRequest) (status : Status) → ChecksFor told before after request status → told ≡ true
    → verdict (check_rows request before.files) ≡ Keeps → ¬ Rose before.shelf_faults after.shelf_faults → ¬ Rose before.sink_faults after.sink_faults → IsOrNoMemory Done status
check_complete told before after request Done c t v n m = inl refl
check_complete told before after request Usage c t v n m = absurd c
check_complete told before after request (BadInput file place why) c t v n m = absurd (keeps_or_breaks _ _ v (c t))
check_complete told before after request (TooLong file) c t v n m = absurd (keeps_or_breaks _ _ v (c t))
check_complete told before after request (ReadFault file) c t v n m = absurd (n c.0)
check_complete told before after request WriteFault c t v n m = absurd (m c.0)
check_complete told before after request (StoreFault file) c t v n m = absurd c
check_complete told before after request NoMemory c t v n m = inr refl

rose_later : (a b c : ℕ) → Rose a b → b ≤ c → Rose a c
rose_later a b c r h = omega arith

pub complete : (told : Bool) (before after : Outside) (last : ℕ) (asks : Option Command) (option : Option Bench) (status : Status) → after.sink_faults ≤ last
    → Answers told before after asks option status → (command : Command) → asks ≡ Some command → told ≡ true → verdict (rows_of command before.files) ≡ Keeps → ¬ Rose before.shelf_faults after.shelf_faults → ¬ Rose before.sink_faults last → IsOrNoMemory Done status
complete told before after last asks option status later a (Run request) e t v n m = run_complete told before after request option status (a.run request e) t v n (λ r. m (rose_later _ _ _ r later))
complete told before after last asks option status later a (Check request) e t v n m = check_complete told before after request status (a.check request e).cause t v n (λ r. m (rose_later _ _ _ r later))
complete told before after last asks option status later a (Make request) e t v n m = making_complete told before after (make_rows request) (make_names request) (make_stores request) status (a.make request e).cause t v n
complete told before after last asks option status later a (Provision request) e t v n m = making_complete told before after (provision_rows request) (provision_names request) (provision_stores request) status (a.provision request e).cause t v n
complete told before after last asks option status later a (Cert request) e t v n m = making_complete told before after (cert_rows request) (cert_names request) (cert_stores request) status (a.cert request e).cause t v n
