-- The parts of the commands that make files: what is loaded and made before anything is stored, and the stores.
use Rattle.std.specs.Prelude.{◌≡◌, ◌≤◌, ℕ, List, [], ◌∷◌, ◌++◌, map, Bool, true, Option, Some, Result, Ok, OnOk, IfErr}
use Rattle.pfr_flash.specs.declared.names.Bank.{Bank}
use Rattle.pfr_flash.specs.declared.names.Bank.TheVariants.{Bmc, Pch}
use Rattle.pfr_flash.specs.FlashState.{Rose}
use Rattle.pfr_flash.specs.Judging.{◌>>◌}
use Rattle.pfr_shelf.specs.Failures.{Failure}
use Rattle.pfr_shelf.specs.Files.{Files}
use Rattle.pfr_description.specs.Described.{Description}
use Rattle.pfr_description.specs.Whole.{judge_description}
use Rattle.pfr_description.specs.declared.fail.DescFail.{DescFail}
use Rattle.pfr_description.specs.declared.fail.DescFail.TheVariants as fails
use Rattle.pfr_description.specs.declared.fail.DescWhy.{DescWhy}
use Rattle.pfr_description.specs.Banks.{bank_of}
use Rattle.pfr_made.specs.Capsules.{signed_capsule}
use Rattle.pfr_made.specs.Made.{active_image, flash_of, judge_bank, rows_of}
use Rattle.pfr_tool.specs.declared.bank_image.Made.{Made}
use Rattle.pfr_tool.specs.declared.certificate.MadeCert.{MadeCert}
use Rattle.pfr.specs.Judging.{FileRow, Keeps, verdict}
use Rattle.pfr.specs.Makes.{RefusesSome, StopsAt, put_all}
use Rattle.pfr.specs.Storing.{IsBlamedStore}
use Rattle.pfr.specs.Making.{StoredFile, bmc_capsule_name, bmc_name, cert_engine_name, cert_name, engine_name, image_in, pch_capsule_name, pch_name, staged_in}
use Rattle.pfr.specs.Request.{MakeRequest, ProvisionRequest, CertRequest}
use Rattle.pfr.specs.declared.making.MadeFiles.{MadeFiles}
use Rattle.pfr.specs.declared.outputs.Output.{Output}
use Rattle.pfr.specs.declared.sources.BothSources.{BothSources}
use Rattle.pfr.specs.declared.status.Role.{Role}
use Rattle.pfr.specs.declared.status.Role.TheVariants as role
use Rattle.pfr.specs.declared.status.Status.{Status}
use Rattle.pfr.specs.declared.status.Status.TheVariants.{BadInput, StoreFault, NoMemory}
use Rattle.pfr.specs.declared.status.Why.TheVariants as why

-- the file is the text of this description
pub record IsReadFrom (tells : Bool) (held : Option (List ℕ)) (desc : Description) : Type 0 where
  pub text : List ℕ
  pub judged : judge_description text ≡ Ok desc
  pub there : tells ≡ true → held ≡ Some text

-- every cause against a description is told of place 0
abbrev pub refusal_of : DescFail → Status
refusal_of (fails.Why cause) = BadInput role.Description 0 (why.Description cause)
refusal_of fails.NoMemory = NoMemory

-- what was loaded of both banks is what their files hold
pub record AreSources (files : Files) (desc : Description) (both : BothSources) : Type 0 where
  pub bmc_image : both.bmc.image.items ≡ image_in files (bank_of desc Bmc)
  pub bmc_staged : both.bmc.staged.items ≡ staged_in files (bank_of desc Bmc)
  pub pch_image : both.pch.image.items ≡ image_in files (bank_of desc Pch)
  pub pch_staged : both.pch.staged.items ≡ staged_in files (bank_of desc Pch)

-- a bank's image, its capsule and the rows are those of the description and of what was loaded
pub record IsMade (desc : Description) (bank : Bank) (image staged : List ℕ) (made : Made) : Type 0 where
  pub flash : made.flash ≡ flash_of desc bank image staged
  pub capsule : made.capsule ≡ signed_capsule desc bank (active_image desc bank image)
  pub rows : made.rows ≡ rows_of desc bank (active_image desc bank image)

pub record AreMade (desc : Description) (both : BothSources) (made : MadeFiles) : Type 0 where
  pub bmc : IsMade desc Bmc both.bmc.image.items both.bmc.staged.items made.bmc
  pub pch : IsMade desc Pch both.pch.image.items both.pch.staged.items made.pch
  pub engine : made.engine.items ≡ made.bmc.rows ++ made.pch.rows

-- what making both banks finds against them, the BMC's first
abbrev pub judged_both : Description → BothSources → Result (Unit {0}) DescWhy
judged_both desc both = judge_bank desc Bmc both.bmc.image.items both.bmc.staged.items >> judge_bank desc Pch both.pch.image.items both.pch.staged.items

-- What is loaded and made before anything is stored: these rows, from the shelf as it was to the shelf as it is.
pub record Prepares {S T : Type 0} (tells : Bool) (files : S → Files) (faults : S → ℕ) (failed : S → Option Failure) (old new : S) (rows : Files → List FileRow) (result : Result T Status) : Type 0 where
  pub stays : tells ≡ true → files new ≡ files old
  pub ok : OnOk result (tells ≡ true → verdict (rows (files old)) ≡ Keeps)
  pub err : IfErr result (RefusesSome tells (files old) rows (faults old) (faults new) (failed new))
  pub later : faults old ≤ faults new

-- the roles and the names of files that are stored
abbrev pub names_of : List StoredFile → List (Role × List ℕ)
names_of stores = map (λ stored. (stored.role, stored.name)) stores

abbrev pub RefusesStores : Bool → Files → Files → ℕ → ℕ → Option Failure → List StoredFile → Status → Type 0
RefusesStores tells old new before after failed stores (StoreFault file) =
    Rose before after × IsBlamedStore file (names_of stores) failed × (tells ≡ true → StopsAt file stores old new)
RefusesStores tells old new before after failed stores NoMemory = tells ≡ true → (file : Role) × StopsAt file stores old new
RefusesStores tells old new before after failed stores status = ⊥

-- These stores one after another, from the shelf as it was to the shelf as it is.
pub record Stores {S T : Type 0} (tells : Bool) (files : S → Files) (faults : S → ℕ) (failed : S → Option Failure) (old new : S) (stores : List StoredFile) (result : Result T Status) : Type 0 where
  pub ok : OnOk result (tells ≡ true → files new ≡ put_all stores (files old))
  pub err : IfErr result (RefusesStores tells (files old) (files new) (faults old) (faults new) (failed new) stores)
  pub later : faults old ≤ faults new

-- what is stored of an output
abbrev pub stored_under : List ℕ → Output → StoredFile
stored_under prefix output = record { role = output.role; name = prefix ++ output.suffix.now; bytes = output.bytes.now }

-- what is stored of what was made
abbrev pub stored_of_made : MakeRequest → MadeFiles → List StoredFile
stored_of_made request made =
    record { role = role.Bmc; name = bmc_name request; bytes = made.bmc.flash }
    ∷ record { role = role.Pch; name = pch_name request; bytes = made.pch.flash }
    ∷ record { role = role.BmcCapsule; name = bmc_capsule_name request; bytes = made.bmc.capsule }
    ∷ record { role = role.PchCapsule; name = pch_capsule_name request; bytes = made.pch.capsule }
    ∷ record { role = role.Engine; name = engine_name request; bytes = made.engine.items } ∷ []

abbrev pub stored_of_store : ProvisionRequest → List ℕ → List StoredFile
stored_of_store request store = record { role = role.Nv; name = request.nv; bytes = store } ∷ []

abbrev pub stored_of_cert : CertRequest → MadeCert → List StoredFile
stored_of_cert request made =
    record { role = role.Cert; name = cert_name request; bytes = made.cert }
    ∷ record { role = role.Engine; name = cert_engine_name request; bytes = made.rows } ∷ []
