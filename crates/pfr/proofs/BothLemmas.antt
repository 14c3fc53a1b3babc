-- Both banks of a description: the rows of `make`, and what is stored.
use Rattle.std.proofs.Common.{◌≡◌, ◌∙◌, ap, refl, ℕ, List, [], ◌∷◌, ◌++◌, Bool, Option, Some, Result, Ok, Err}
use Rattle.pfr_flash.specs.declared.names.Bank.TheVariants.{Bmc, Pch}
use Rattle.pfr_shelf.specs.Failures.{Failure}
use Rattle.pfr_shelf.specs.Files.{Files}
use Rattle.pfr_description.specs.Banks.{bank_of}
use Rattle.pfr_description.specs.Described.{Description}
use Rattle.pfr.specs.Judging.{FileRow, Loads, told_by, verdict}
use Rattle.pfr.specs.MakesInside.{AreMade, AreSources, judged_both, stored_of_made}
use Rattle.pfr.specs.Making.{bank_rows, described_in, description_fault_in, description_row, made_bank_row, make_rows, make_stores, made_files, rows_described}
use Rattle.pfr.specs.Request.{MakeRequest}
use Rattle.pfr.specs.declared.making.MadeFiles.{MadeFiles}
use Rattle.pfr.specs.declared.sources.BothSources.{BothSources}
use Rattle.pfr.specs.declared.status.Role.TheVariants as role
use Rattle.pfr.specs.declared.status.Status.{Status}
use Rattle.pfr.proofs.LoadLemmas.{AreNamedAlike, alike_append, loads_stop, loads_then, no_rows, row_more}
use Rattle.pfr.proofs.PrepareLemmas.{both_judged}
use Rattle.pfr.proofs.SourceLemmas.{bank_alike}

-- ---- the rows
-- the files of both banks
abbrev pub file_rows : Description → Files → List FileRow
file_rows desc f = bank_rows Bmc (bank_of desc Bmc) f ++ bank_rows Pch (bank_of desc Pch) f

-- what is found when they are made
abbrev pub made_rows : List ℕ → Description → Files → List FileRow
made_rows name desc f = made_bank_row name desc Bmc f ∷ made_bank_row name desc Pch f ∷ []

abbrev pub both_rows : List ℕ → Description → Files → List FileRow
both_rows name desc f = file_rows desc f ++ made_rows name desc f

pub rows_first : (request : MakeRequest) (name : List ℕ) → name ≡ request.description → (f : Files) → make_rows request f ≡ description_row name f ∷ rows_described name (described_in (f name)) f
unfolding make_rows
rows_first request name e f = rw e refl

pub rows_read : (request : MakeRequest) (name : List ℕ) → name ≡ request.description → (desc : Description) (f : Files) → described_in (f name) ≡ Some desc → make_rows request f ≡ description_row name f ∷ both_rows name desc f
rows_read request name e desc f d =
    rows_first request name e f ∙ ap (λ (o : Option Description). description_row name f ∷ rows_described name o f) d

made_alike : (name : List ℕ) (desc : Description) (f g : Files) → AreNamedAlike (made_rows name desc f) (made_rows name desc g)
made_alike name desc f g = row_more role.Description name _ _ _ _ (row_more role.Description name _ _ _ _ no_rows)

pub both_alike : (name : List ℕ) (desc : Description) (f g : Files) → AreNamedAlike (both_rows name desc f) (both_rows name desc g)
both_alike name desc f g = alike_append (file_rows desc f) (file_rows desc g) (made_rows name desc f) (made_rows name desc g)
    (alike_append (bank_rows Bmc (bank_of desc Bmc) f) (bank_rows Bmc (bank_of desc Bmc) g) (bank_rows Pch (bank_of desc Pch) f) (bank_rows Pch (bank_of desc Pch) g)
    (bank_alike Bmc (bank_of desc Bmc) f g) (bank_alike Pch (bank_of desc Pch) f g))
    (made_alike name desc f g)

-- ---- the loads of the files, and then what is found
pub both_refused : {S : Type 0} (tells : Bool) (files : S → Files) (faults : S → ℕ) (failed : S → Option Failure) (old new : S) (name : List ℕ) (desc : Description) (status : Status) → Loads {T = BothSources} tells files faults failed old new (file_rows desc) (Err status)
    → Loads {T = MadeFiles} tells files faults failed old new (both_rows name desc) (Err status)
both_refused tells files faults failed old new name desc status l = loads_stop {T = BothSources} tells files faults failed old new (file_rows desc) (made_rows name desc) status l

pub both_found : {S : Type 0} (tells : Bool) (files : S → Files) (faults : S → ℕ) (failed : S → Option Failure) (old new : S) (name : List ℕ) (desc : Description) (sources : BothSources) (result : Result MadeFiles Status)
    → Loads tells files faults failed old new (file_rows desc) (Ok sources) → Loads tells files faults failed new new (made_rows name desc) result
    → Loads tells files faults failed old new (both_rows name desc) result
both_found tells files faults failed old new name desc sources result a b = loads_then tells files faults failed old new new (file_rows desc) (made_rows name desc) sources result (made_alike name desc) a b

pub made_says : (files : Files) (name : List ℕ) (desc : Description) (both : BothSources) → AreSources files desc both
    → verdict (made_rows name desc files) ≡ told_by role.Description (description_fault_in (judged_both desc both))
made_says files name desc both a = rw (a.bmc_image, a.bmc_staged, a.pch_image, a.pch_staged) (both_judged name _ _)

-- ---- what is stored
pub stored_both : (request : MakeRequest) (files : Files) (name : List ℕ) (desc : Description) (both : BothSources) (made : MadeFiles) → name ≡ request.description → described_in (files name) ≡ Some desc → AreSources files desc both → AreMade desc both made
    → stored_of_made request made ≡ make_stores request files
unfolding made_files
stored_both request files name desc both made e d a m =
    rw (← e, d, m.engine, m.bmc.flash, m.bmc.capsule, m.bmc.rows, m.pch.flash, m.pch.capsule, m.pch.rows, a.bmc_image, a.bmc_staged, a.pch_image, a.pch_staged) refl
