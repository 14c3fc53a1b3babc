-- What is loaded and made before anything is stored.
use Rattle.std.proofs.Common.{◌≡◌, ◌∙◌, ap, sym, refl, subst, ℕ, List, [], ◌∷◌, Bool, true, false, Option, Some, Result, Ok, Err, arith}
use Rattle.pfr_shelf.specs.Failures.{Failure}
use Rattle.pfr_shelf.specs.Files.{Files}
use Rattle.pfr_description.specs.Described.{Description}
use Rattle.pfr_description.specs.Whole.{judge_description}
use Rattle.pfr_description.specs.declared.fail.DescFail.{DescFail}
use Rattle.pfr_description.specs.declared.fail.DescFail.TheVariants as fails
use Rattle.pfr_description.specs.declared.fail.DescWhy.{DescWhy}
use Rattle.pfr_flash.specs.Judging.{◌>>◌}
use Rattle.pfr_made.specs.Judge.{Judged}
use Rattle.pfr.specs.Judging.{FileRow, Loads, RefusesFor, told_by, verdict}
use Rattle.pfr.specs.Makes.{RefusesSome}
use Rattle.pfr.specs.MakesInside.{IsReadFrom, Prepares, refusal_of}
use Rattle.pfr.specs.Making.{described_in, description_fault_in, description_row, making_row}
use Rattle.pfr.specs.declared.status.Role.TheVariants as role
use Rattle.pfr.specs.declared.status.Status.{Status}
use Rattle.pfr.proofs.LoadLemmas.{AreNamedAlike, row_more, loads_then, refuses_alike, refuses_among}

pub described_as : (held : Option (List ℕ)) (desc : Description) (text : List ℕ) → held ≡ Some text → judge_description text ≡ Ok desc → described_in held ≡ Some desc
described_as held desc text e j = rw (e, j) refl

-- ---- the description was refused
pub prepares_first : {S T U : Type 0} (tells : Bool) (files : S → Files) (faults : S → ℕ) (failed : S → Option Failure) (old new : S) (name : List ℕ) (rows rest : Files → List FileRow) (status : Status)
    → ((f : Files) → rows f ≡ description_row name f ∷ rest f) → Loads {T = T} tells files faults failed old new (λ f. description_row name f ∷ []) (Err status)
    → Prepares {T = U} tells files faults failed old new rows (Err status)
prepares_first tells files faults failed old new name rows rest status is first = record {
  stays = first.stays;
  ok = tt;
  err = record {
    held = files old;
    may = λ told. refl;
    cause = subst (λ (r : List FileRow). RefusesFor tells r (faults old) (faults new) (failed new) status) (sym (is (files old)))
        (refuses_among tells (description_row name (files old) ∷ []) (rest (files old)) (faults old) (faults new) (failed new) status first.err);
  };
  later = first.later;
}

-- ---- the description was read
-- rows of the files, or, where they are not told, of files with this description
refused_some : (tells : Bool) (files : Files) (name : List ℕ) (desc : Description) (rows tail : Files → List FileRow) (before after : ℕ) (failed : Option Failure) (status : Status)
    → ((f : Files) → described_in (f name) ≡ Some desc → rows f ≡ description_row name f ∷ tail f) → ((f g : Files) → AreNamedAlike (tail f) (tail g))
    → IsReadFrom tells (files name) desc → RefusesFor tells (description_row name files ∷ tail files) before after failed status → RefusesSome tells files rows before after failed status
refused_some true files name desc rows tail before after failed status is alike read r = record {
  held = files;
  may = λ told. refl;
  cause = subst (λ (x : List FileRow). RefusesFor true x before after failed status) (sym (is files (described_as (files name) desc read.text (read.there refl) read.judged))) r;
}
refused_some false files name desc rows tail before after failed status is alike read r =
    let held : Files = λ other. Some read.text in record {
      held = held;
      may = λ told. cc;
      cause = subst (λ (x : List FileRow). RefusesFor false x before after failed status) (sym (is held (described_as (Some read.text) desc read.text refl read.judged)))
          (refuses_alike false (description_row name files ∷ tail files) (description_row name held ∷ tail held) before after failed status
          (row_more role.Description name _ _ (tail files) (tail held) (alike files held)) (λ told. cc) r);
    }

pub prepares_on : {S U : Type 0} (tells : Bool) (files : S → Files) (faults : S → ℕ) (failed : S → Option Failure) (old mid new : S) (name : List ℕ) (desc : Description) (rows tail : Files → List FileRow) (result : Result U Status)
    → ((f : Files) → described_in (f name) ≡ Some desc → rows f ≡ description_row name f ∷ tail f) → ((f g : Files) → AreNamedAlike (tail f) (tail g))
    → IsReadFrom tells (files old name) desc → Loads {T = Description} tells files faults failed old mid (λ f. description_row name f ∷ []) (Ok desc)
    → Loads tells files faults failed mid new tail result → Prepares tells files faults failed old new rows result
prepares_on tells files faults failed old mid new name desc rows tail (Ok x) is alike read first second =
    let both = loads_then tells files faults failed old mid new (λ f. description_row name f ∷ []) tail desc (Ok x) alike first second in record {
      stays = both.stays;
      ok = λ told. ap verdict (is (files old) (described_as (files old name) desc read.text (read.there told) read.judged)) ∙ both.ok told;
      err = tt;
      later = both.later;
    }
prepares_on tells files faults failed old mid new name desc rows tail (Err status) is alike read first second =
    let both = loads_then tells files faults failed old mid new (λ f. description_row name f ∷ []) tail desc (Err status) alike first second in record {
      stays = both.stays;
      ok = tt;
      err = refused_some tells (files old) name desc rows tail (faults old) (faults new) (failed new) status is alike read both.err;
      later = both.later;
    }

-- ---- what is found when the files are made, by a shelf that is left alone
pub judged_rows : {S T : Type 0} (tells : Bool) (files : S → Files) (faults : S → ℕ) (failed : S → Option Failure) (shelf : S) (rows : Files → List FileRow) (judged : Result (Unit {0}) DescWhy) (x : T)
    → (tells ≡ true → verdict (rows (files shelf)) ≡ told_by role.Description (description_fault_in judged)) → Judged {Y = T} (Ok x) judged
    → Loads {T = T} tells files faults failed shelf shelf rows (Ok x)
judged_rows tells files faults failed shelf rows judged x says j = record {
  stays = λ told. refl;
  ok = λ told. says told ∙ ap (λ (r : Result (Unit {0}) DescWhy). told_by role.Description (description_fault_in r)) j;
  err = tt;
  later = omega arith;
}

pub refused_rows : {S U : Type 0} (T : Type 0) (tells : Bool) (files : S → Files) (faults : S → ℕ) (failed : S → Option Failure) (shelf : S) (rows : Files → List FileRow) (judged : Result (Unit {0}) DescWhy) (fail : DescFail)
    → (tells ≡ true → verdict (rows (files shelf)) ≡ told_by role.Description (description_fault_in judged)) → Judged {Y = T} (Err fail) judged
    → Loads {T = U} tells files faults failed shelf shelf rows (Err (refusal_of fail))
refused_rows T tells files faults failed shelf rows judged (fails.Why why) says j = record {
  stays = λ told. refl;
  ok = tt;
  err = λ told. says told ∙ ap (λ (r : Result (Unit {0}) DescWhy). told_by role.Description (description_fault_in r)) j;
  later = omega arith;
}
refused_rows T tells files faults failed shelf rows judged fails.NoMemory says j = record {
  stays = λ told. refl;
  ok = tt;
  err = tt;
  later = omega arith;
}

-- the verdict of one row, and of two
pub one_judged : (name : List ℕ) (judged : Result (Unit {0}) DescWhy) → verdict (making_row name judged ∷ []) ≡ told_by role.Description (description_fault_in judged)
one_judged name (Ok x) = refl
one_judged name (Err why) = refl

pub both_judged : (name : List ℕ) (one other : Result (Unit {0}) DescWhy) → verdict (making_row name one ∷ making_row name other ∷ []) ≡ told_by role.Description (description_fault_in (one >> other))
both_judged name (Ok x) other = one_judged name other
both_judged name (Err why) other = refl
