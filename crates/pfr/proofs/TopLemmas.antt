-- A command, and then the line of its status.
use Rattle.std.proofs.Common.{◌≡◌, ◌∙◌, ap, refl, sym, subst, inl, inr, ℕ, ◌≤◌, ◌⊎◌, List, [], ◌∷◌, ◌++◌, append_assoc, append-nil, Bool, true, Option, Some, None, Result, Ok, Err, arith}
use Rattle.pfr_flash.specs.FlashState.{Rose}
use Rattle.pfr_shelf.specs.Failures.{Failure}
use Rattle.pfr_shelf.specs.Files.{Files}
use Rattle.pfr_shelf.specs.Pieces.{AppendsPart, Writes}
use Rattle.pfr_shelf.proofs.PutLemmas.{put_other}
use Rattle.pfr.specs.Lines.{error_line}
use Rattle.pfr.specs.Making.{cert_names, cert_rows, cert_stores, make_names, make_rows, make_stores, provision_names, provision_rows, provision_stores}
use Rattle.pfr.specs.Makes.{KeepsAllBut}
use Rattle.pfr.specs.Request.{RunRequest}
use Rattle.pfr.specs.Runs.{Outside, RunAnswers, outside}
use Rattle.pfr.specs.Storing.{KeepsOthers, StopsStoring, with_bmc, with_pch, with_images}
use Rattle.pfr.specs.Top.{Got, IsIdle, Output, StoresNothing, stored_names}
use Rattle.pfr.specs.declared.finished.Bench.{Bench}
use Rattle.pfr.specs.declared.words.Command.{Command}
use Rattle.pfr.specs.declared.words.Command.TheVariants.{Run, Check, Make, Provision, Cert}
use Rattle.pfr.specs.declared.status.Role.{Role}
use Rattle.pfr.specs.declared.status.Role.TheVariants as role
use Rattle.pfr.specs.declared.status.Status.{Status}
use Rattle.pfr.specs.declared.status.Status.TheVariants.{Done, Usage, BadInput, TooLong, ReadFault, WriteFault, StoreFault, NoMemory}
use Rattle.pfr.proofs.AnswerLemmas.{Answers}
use Rattle.pfr.proofs.MakingLemmas.{making_stays}
use Rattle.pfr.proofs.SpareLemmas.{cert_covers, make_covers, making_spares, provision_covers, same_spares, three_spared}

-- ---- files
images_others : (files : Files) (request : RunRequest) (bench : Bench) → KeepsOthers request files (with_images files request bench)
images_others files request bench name bmc pch nv =
    put_other (with_pch files request bench) request.nv _ name nv ∙ (put_other (with_bmc files request bench) request.pch _ name pch ∙ put_other files request.bmc _ name bmc)

stops_others : (file : Role) (files : Files) (request : RunRequest) (bench : Bench) (new : Files) → StopsStoring file files request bench new → KeepsOthers request files new
stops_others role.Bmc files request bench new s name bmc pch nv = s name bmc
stops_others role.Pch files request bench new s name bmc pch nv = s name pch ∙ put_other files request.bmc _ name bmc
stops_others role.Nv files request bench new s name bmc pch nv =
    s name nv ∙ (put_other (with_bmc files request bench) request.pch _ name pch ∙ put_other files request.bmc _ name bmc)
stops_others _ files request bench new s name bmc pch nv = absurd s

same_others : (request : RunRequest) (old new : Files) → new ≡ old → KeepsOthers request old new
same_others request old new e name bmc pch nv = ap (λ (f : Files). f name) e

pub others_kept : (told : Bool) (before after : Outside) (request : RunRequest) (option : Option Bench) (status : Status) → RunAnswers told before after request option status → told ≡ true
    → KeepsOthers request before.files after.files
others_kept told before after request (Some bench) Done a t = subst (λ (f : Files). KeepsOthers request before.files f) (sym (a.1 t)) (images_others before.files request bench)
others_kept told before after request None Done a t = absurd a
others_kept told before after request option Usage a t = absurd a
others_kept told before after request option (BadInput file place why) a t = same_others request before.files after.files (a.files t)
others_kept told before after request option (TooLong file) a t = same_others request before.files after.files (a.files t)
others_kept told before after request option (ReadFault file) a t = same_others request before.files after.files (a.files t)
others_kept told before after request (Some bench) WriteFault a t = same_others request before.files after.files (a.2 t)
others_kept told before after request None WriteFault a t = absurd a
others_kept told before after request (Some bench) (StoreFault file) a t = stops_others file before.files request bench after.files (a.3 t)
others_kept told before after request None (StoreFault file) a t = absurd a
others_kept told before after request (Some bench) NoMemory a t = elim a [
  | inl early ↦ same_others request before.files after.files (early.files t)
  | inr late ↦ stops_others (late.files t).0 before.files request bench after.files (late.files t).1
]
others_kept told before after request None NoMemory a t = elim a [
  | inl early ↦ same_others request before.files after.files (early.files t)
  | inr late ↦ absurd late
]

run_stays : (told : Bool) (before after : Outside) (request : RunRequest) (option : Option Bench) (status : Status) → RunAnswers told before after request option status → IsIdle status → told ≡ true
    → after.files ≡ before.files
run_stays told before after request option Done a n t = absurd n
run_stays told before after request option Usage a n t = absurd a
run_stays told before after request option (BadInput file place why) a n t = a.files t
run_stays told before after request option (TooLong file) a n t = a.files t
run_stays told before after request option (ReadFault file) a n t = a.files t
run_stays told before after request (Some bench) WriteFault a n t = a.2 t
run_stays told before after request None WriteFault a n t = absurd a
run_stays told before after request option (StoreFault file) a n t = absurd n
run_stays told before after request option NoMemory a n t = absurd n

pub files_stay : (told : Bool) (before after : Outside) (asks : Option Command) (option : Option Bench) (status : Status)
    → (asks ≡ None → (option ≡ None) × (told ≡ true → after.files ≡ before.files)) → Answers told before after asks option status → StoresNothing asks status → told ≡ true → after.files ≡ before.files
files_stay told before after None option status unused a n t = (unused refl).1 t
files_stay told before after (Some (Run request)) option status unused a n t = run_stays told before after request option status (a.run request refl) n t
files_stay told before after (Some (Check request)) option status unused a n t = (a.check request refl).files t
files_stay told before after (Some (Make request)) option status unused a n t = making_stays told before after (make_rows request) (make_names request) (make_stores request) status (a.make request refl).cause n t
files_stay told before after (Some (Provision request)) option status unused a n t = making_stays told before after (provision_rows request) (provision_names request) (provision_stores request) status (a.provision request refl).cause n t
files_stay told before after (Some (Cert request)) option status unused a n t = making_stays told before after (cert_rows request) (cert_names request) (cert_stores request) status (a.cert request refl).cause n t

-- each file keeps its bytes but those that the command stores
pub files_spare : (told : Bool) (before after : Outside) (asks : Option Command) (option : Option Bench) (status : Status) → Answers told before after asks option status
    → (command : Command) → asks ≡ Some command → told ≡ true → KeepsAllBut (stored_names command) before.files after.files
files_spare told before after asks option status a (Run request) e t =
    λ name n. let others = three_spared (role.Bmc, request.bmc) (role.Pch, request.pch) (role.Nv, request.nv) name n in
    others_kept told before after request option status (a.run request e) t name others.0 others.1 others.2
files_spare told before after asks option status a (Check request) e t = same_spares [] before.files after.files ((a.check request e).files t)
files_spare told before after asks option status a (Make request) e t = making_spares told before after (make_rows request) (make_names request) (make_stores request) status (a.make request e).cause (make_covers request before.files) t
files_spare told before after asks option status a (Provision request) e t = making_spares told before after (provision_rows request) (provision_names request) (provision_stores request) status (a.provision request e).cause (provision_covers request before.files) t
files_spare told before after asks option status a (Cert request) e t = making_spares told before after (cert_rows request) (cert_names request) (cert_stores request) status (a.cert request e).cause (cert_covers request before.files) t

-- ---- output
-- no part of nothing is something
nothing_more : (old new : List ℕ) → AppendsPart old new [] → new ≡ old
nothing_more old new p = p.appended ∙ (ap (λ w. old ++ w) (empty_front p.part p.rest (sym p.whole)) ∙ append-nil old)
  where
    empty_front : (a b : List ℕ) → a ++ b ≡ [] → a ≡ []
    empty_front [] b e = refl
    empty_front (x ∷ a) b e = cc

-- the output stays where the line is empty
line_of_nothing : {K T E : Type 0} (tells : Bool) (written : K → List ℕ) (faults : K → ℕ) (old new : K) (r : Result T E) → Writes tells written faults old new [] r → tells ≡ true → written new ≡ written old
line_of_nothing tells written faults old new (Ok x) w t = w.ok t ∙ append-nil (written old)
line_of_nothing tells written faults old new (Err e) w t = nothing_more (written old) (written new) (w.part t)

-- the line comes after the text, whole or in part
line_after : {K T E : Type 0} (tells : Bool) (written : K → List ℕ) (faults : K → ℕ) (first old new : K) (text line : List ℕ) (r : Result T E) → (tells ≡ true → written old ≡ written first ++ text) → faults first ≤ faults old → Writes tells written faults old new line r → tells ≡ true → (written new ≡ written first ++ (text ++ line)) ⊎ (Rose (faults first) (faults new) × AppendsPart (written first ++ text) (written new) line)
line_after tells written faults first old new text line (Ok x) said later w t =
    inl (w.ok t ∙ (ap (λ o. o ++ line) (said t) ∙ append_assoc (written first) text line))
line_after tells written faults first old new text line (Err e) said later w t =
    inr (let r = w.failed in omega arith, subst (λ (o : List ℕ). AppendsPart o (written new) line) (said t) (w.part t))

-- what the sink got before the line, and the line
pub output_and_line : {S K T E : Type 0} (tells told : Bool) (files : S → Files) (shelf_faults : S → ℕ) (shelf_failed : S → Option Failure) (written : K → List ℕ) (faults : K → ℕ) (s0 s1 : S) (o0 o1 o2 : K) (asks : Option Command) (option : Option Bench) (status : Status) (r : Result T E)
    → faults o0 ≤ faults o1 → Writes told written faults o1 o2 (error_line status) r
    → Got tells told (outside files shelf_faults shelf_failed written faults s0 o0) (outside files shelf_faults shelf_failed written faults s1 o1) asks option status
    → Output tells told (outside files shelf_faults shelf_failed written faults s0 o0) (outside files shelf_faults shelf_failed written faults s1 o2) asks option status
output_and_line tells told files shelf_faults shelf_failed written faults s0 s1 o0 o1 o2 asks option Done r later w o = (o.0, o.1, λ t. line_of_nothing told written faults o1 o2 r w t ∙ o.2 t)
output_and_line tells told files shelf_faults shelf_failed written faults s0 s1 o0 o1 o2 asks option WriteFault r later w o =
    (o.0, o.1, λ t. subst (λ (n : List ℕ). AppendsPart (written o0) n o.0) (sym (line_of_nothing told written faults o1 o2 r w t)) (o.2 t))
output_and_line tells told files shelf_faults shelf_failed written faults s0 s1 o0 o1 o2 asks option Usage r later w o = (o.0, o.1, line_after told written faults o0 o1 o2 o.0 (error_line Usage) r o.2 later w)
output_and_line tells told files shelf_faults shelf_failed written faults s0 s1 o0 o1 o2 asks option (BadInput file place why) r later w o = (o.0, o.1, line_after told written faults o0 o1 o2 o.0 (error_line (BadInput file place why)) r o.2 later w)
output_and_line tells told files shelf_faults shelf_failed written faults s0 s1 o0 o1 o2 asks option (TooLong file) r later w o = (o.0, o.1, line_after told written faults o0 o1 o2 o.0 (error_line (TooLong file)) r o.2 later w)
output_and_line tells told files shelf_faults shelf_failed written faults s0 s1 o0 o1 o2 asks option (ReadFault file) r later w o = (o.0, o.1, line_after told written faults o0 o1 o2 o.0 (error_line (ReadFault file)) r o.2 later w)
output_and_line tells told files shelf_faults shelf_failed written faults s0 s1 o0 o1 o2 asks option (StoreFault file) r later w o = (o.0, o.1, line_after told written faults o0 o1 o2 o.0 (error_line (StoreFault file)) r o.2 later w)
output_and_line tells told files shelf_faults shelf_failed written faults s0 s1 o0 o1 o2 asks option NoMemory r later w o = (o.0, o.1, line_after told written faults o0 o1 o2 o.0 (error_line NoMemory) r o.2 later w)
