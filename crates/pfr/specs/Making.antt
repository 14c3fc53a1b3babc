-- What the commands that make files load, and what they store: functions of what the shelf's files hold.
use Rattle.std.specs.Prelude.{ℕ, List, [], ◌∷◌, ◌++◌, Option, Some, None, Result, Ok, Err, codes}
use Rattle.pfr_flash.specs.declared.names.Bank.{Bank}
use Rattle.pfr_flash.specs.declared.names.Bank.TheVariants.{Bmc, Pch}
use Rattle.pfr_shelf.specs.Files.{Files}
use Rattle.pfr_description.specs.Banks.{bank_of}
use Rattle.pfr_description.specs.Described.{BankDescription, Description}
use Rattle.pfr_description.specs.Whole.{judge_description}
use Rattle.pfr_description.specs.declared.fail.DescWhy.{DescWhy}
use Rattle.pfr_made.specs.Capsules.{signed_capsule}
use Rattle.pfr_made.specs.Certificates.{certificate_bytes, certificate_row}
use Rattle.pfr_made.specs.Judge.{judge_places}
use Rattle.pfr_made.specs.Made.{active_image, flash_of, judge_bank, rows_of}
use Rattle.pfr_made.specs.Store.{store_for}
use Rattle.pfr.specs.Judging.{FileRow, Judge, finding, told_by}
use Rattle.pfr.specs.Request.{MakeRequest, ProvisionRequest, CertRequest}
use Rattle.pfr.specs.declared.status.Role.{Role}
use Rattle.pfr.specs.declared.status.Role.TheVariants as role
use Rattle.pfr.specs.declared.status.Why.{Why}
use Rattle.pfr.specs.declared.status.Why.TheVariants as why

-- ---- the description

-- every cause against a description is told of place 0
abbrev pub description_fault_in : {T : Type 0} → Result T DescWhy → Option (ℕ × Why)
description_fault_in (Ok described) = None
description_fault_in (Err cause) = Some (0, why.Description cause)

abbrev pub description_fault : Judge
description_fault bytes = description_fault_in (judge_description bytes)

abbrev pub description_row : List ℕ → Files → FileRow
description_row name files = record { role = role.Description; name = name; finding = finding role.Description description_fault (files name) }

-- what a file describes, where it does
abbrev pub described_by : Result Description DescWhy → Option Description
described_by (Ok description) = Some description
described_by (Err cause) = None

abbrev pub described_in : Option (List ℕ) → Option Description
described_in None = None
described_in (Some bytes) = described_by (judge_description bytes)

-- ---- the files that it names: they have only their limits

abbrev pub plain_row : Role → List ℕ → Files → FileRow
plain_row file name files = record { role = file; name = name; finding = finding file (λ bytes. None) (files name) }

abbrev pub staged_rows : Role → Option (List ℕ) → Files → List FileRow
staged_rows file None files = []
staged_rows file (Some name) files = plain_row file name files ∷ []

-- a bank's image, and what is staged in it
abbrev pub image_role : Bank → Role
image_role Bmc = role.BmcImage
image_role Pch = role.PchImage

abbrev pub staged_role : Bank → Role
staged_role Bmc = role.BmcStaged
staged_role Pch = role.PchStaged

abbrev pub bank_rows : Bank → BankDescription → Files → List FileRow
bank_rows bank part files = plain_row (image_role bank) part.image files ∷ staged_rows (staged_role bank) part.staged files

abbrev pub bytes_of : Option (List ℕ) → List ℕ
bytes_of None = []
bytes_of (Some bytes) = bytes

abbrev pub image_in : Files → BankDescription → List ℕ
image_in files part = bytes_of (files part.image)

-- nothing is staged where no file is named
abbrev pub staged_bytes : Files → Option (List ℕ) → List ℕ
staged_bytes files None = []
staged_bytes files (Some name) = bytes_of (files name)

abbrev pub staged_in : Files → BankDescription → List ℕ
staged_in files part = staged_bytes files part.staged

-- what the description's rules say once the files are there
abbrev pub making_row : List ℕ → Result (Unit {0}) DescWhy → FileRow
making_row name judged = record { role = role.Description; name = name; finding = told_by role.Description (description_fault_in judged) }

abbrev pub made_bank_row : List ℕ → Description → Bank → Files → FileRow
made_bank_row name desc bank files =
    making_row name (judge_bank desc bank (image_in files (bank_of desc bank)) (staged_in files (bank_of desc bank)))

-- ---- make: the description, then the BMC's image and staged file and the PCH's, then what is found when the BMC's bank and the PCH's are made

abbrev pub rows_described : List ℕ → Option Description → Files → List FileRow
rows_described name None files = []
rows_described name (Some desc) files = bank_rows Bmc (bank_of desc Bmc) files ++ bank_rows Pch (bank_of desc Pch) files
    ++ made_bank_row name desc Bmc files ∷ made_bank_row name desc Pch files ∷ []

unfoldable pub make_rows : MakeRequest → Files → List FileRow
make_rows request files =
    description_row request.description files ∷ rows_described request.description (described_in (files request.description)) files

-- ---- provision: the description, then the places of both banks

abbrev pub places_described : List ℕ → Option Description → List FileRow
places_described name None = []
places_described name (Some desc) = making_row name (judge_places desc) ∷ []

unfoldable pub provision_rows : ProvisionRequest → Files → List FileRow
provision_rows request files =
    description_row request.description files ∷ places_described request.description (described_in (files request.description))

-- ---- cert: the description

unfoldable pub cert_rows : CertRequest → Files → List FileRow
cert_rows request files = description_row request.description files ∷ []

-- ---- what is stored, in order

-- the role of a file that is stored, its name and its bytes
pub record StoredFile : Type 0 where
  pub role : Role
  pub name : List ℕ
  pub bytes : List ℕ

-- the capsule and the rows of a bank, and its image
abbrev pub capsule_in : Files → Description → Bank → List ℕ
capsule_in files desc bank = signed_capsule desc bank (active_image desc bank (image_in files (bank_of desc bank)))

abbrev pub rows_in : Files → Description → Bank → List ℕ
rows_in files desc bank = rows_of desc bank (active_image desc bank (image_in files (bank_of desc bank)))

abbrev pub flash_in : Files → Description → Bank → List ℕ
flash_in files desc bank = flash_of desc bank (image_in files (bank_of desc bank)) (staged_in files (bank_of desc bank))

-- the names of the files that `make` stores
abbrev pub bmc_name : MakeRequest → List ℕ
bmc_name request = request.prefix ++ codes ".bmc"

abbrev pub pch_name : MakeRequest → List ℕ
pch_name request = request.prefix ++ codes ".pch"

abbrev pub bmc_capsule_name : MakeRequest → List ℕ
bmc_capsule_name request = request.prefix ++ codes ".bmc.capsule"

abbrev pub pch_capsule_name : MakeRequest → List ℕ
pch_capsule_name request = request.prefix ++ codes ".pch.capsule"

abbrev pub engine_name : MakeRequest → List ℕ
engine_name request = request.prefix ++ codes ".engine"

-- both images, both capsules, and the engine's rows of the BMC and then of the PCH
unfoldable pub made_files : MakeRequest → Description → Files → List StoredFile
made_files request desc files =
    record { role = role.Bmc; name = bmc_name request; bytes = flash_in files desc Bmc }
    ∷ record { role = role.Pch; name = pch_name request; bytes = flash_in files desc Pch }
    ∷ record { role = role.BmcCapsule; name = bmc_capsule_name request; bytes = capsule_in files desc Bmc }
    ∷ record { role = role.PchCapsule; name = pch_capsule_name request; bytes = capsule_in files desc Pch }
    ∷ record { role = role.Engine; name = engine_name request; bytes = rows_in files desc Bmc ++ rows_in files desc Pch } ∷ []

-- the store
unfoldable pub provisioned_files : ProvisionRequest → Description → List StoredFile
provisioned_files request desc =
    record { role = role.Nv; name = request.nv; bytes = store_for desc } ∷ []

-- the certificate, and the engine's row of it
abbrev pub cert_name : CertRequest → List ℕ
cert_name request = request.prefix ++ codes ".cert"

abbrev pub cert_engine_name : CertRequest → List ℕ
cert_engine_name request = request.prefix ++ codes ".cert.engine"

unfoldable pub certified_files : CertRequest → Description → List StoredFile
certified_files request desc =
    record { role = role.Cert; name = cert_name request; bytes = certificate_bytes desc request.type request.id }
    ∷ record { role = role.Engine; name = cert_engine_name request; bytes = certificate_row desc request.type request.id } ∷ []

-- the same of whatever the description's file holds: nothing where it describes nothing
abbrev pub stored_of : Option Description → (Description → List StoredFile) → List StoredFile
stored_of None made = []
stored_of (Some desc) made = made desc

abbrev pub make_stores : MakeRequest → Files → List StoredFile
make_stores request files = stored_of (described_in (files request.description)) (λ desc. made_files request desc files)

abbrev pub provision_stores : ProvisionRequest → Files → List StoredFile
provision_stores request files = stored_of (described_in (files request.description)) (λ desc. provisioned_files request desc)

abbrev pub cert_stores : CertRequest → Files → List StoredFile
cert_stores request files = stored_of (described_in (files request.description)) (λ desc. certified_files request desc)

-- the names that each stores, whatever the files hold
abbrev pub make_names : MakeRequest → List (Role × List ℕ)
make_names request = (role.Bmc, bmc_name request) ∷ (role.Pch, pch_name request) ∷ (role.BmcCapsule, bmc_capsule_name request)
    ∷ (role.PchCapsule, pch_capsule_name request) ∷ (role.Engine, engine_name request) ∷ []

abbrev pub provision_names : ProvisionRequest → List (Role × List ℕ)
provision_names request = (role.Nv, request.nv) ∷ []

abbrev pub cert_names : CertRequest → List (Role × List ℕ)
cert_names request = (role.Cert, cert_name request) ∷ (role.Engine, cert_engine_name request) ∷ []
