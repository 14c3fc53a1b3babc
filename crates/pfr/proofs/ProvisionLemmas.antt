-- The rows of `provision` and of `cert`, and what they store.
use Rattle.std.proofs.Common.{◌≡◌, ◌∙◌, ap, refl, ℕ, List, [], ◌∷◌, Bool, Option, Some, Err, arith}
use Rattle.pfr_flash.specs.declared.names.ContentType.{ContentType}
use Rattle.pfr_shelf.specs.Failures.{Failure}
use Rattle.pfr_shelf.specs.Files.{Files}
use Rattle.pfr_description.specs.Described.{Description}
use Rattle.pfr_made.specs.Certificates.{certificate_bytes, certificate_row}
use Rattle.pfr_made.specs.Judge.{judge_places}
use Rattle.pfr_made.specs.Store.{store_for}
use Rattle.pfr_tool.specs.declared.certificate.MadeCert.{MadeCert}
use Rattle.pfr.specs.Judging.{FileRow, Loads}
use Rattle.pfr.specs.MakesInside.{stored_of_cert, stored_of_store}
use Rattle.pfr.specs.Making.{cert_rows, cert_stores, certified_files, described_in, description_row, making_row, places_described, provision_rows, provision_stores, provisioned_files}
use Rattle.pfr.specs.Request.{ProvisionRequest, CertRequest}
use Rattle.pfr.specs.declared.status.Role.TheVariants as role
use Rattle.pfr.specs.declared.status.Status.TheVariants.{NoMemory}
use Rattle.pfr.proofs.LoadLemmas.{AreNamedAlike, no_rows, row_more}

-- ---- provision
abbrev pub place_rows : List ℕ → Description → Files → List FileRow
place_rows name desc f = making_row name (judge_places desc) ∷ []

pub provision_first : (request : ProvisionRequest) (name : List ℕ) → name ≡ request.description → (f : Files) → provision_rows request f ≡ description_row name f ∷ places_described name (described_in (f name))
unfolding provision_rows
provision_first request name e f = rw e refl

pub provision_read : (request : ProvisionRequest) (name : List ℕ) → name ≡ request.description → (desc : Description) (f : Files) → described_in (f name) ≡ Some desc → provision_rows request f ≡ description_row name f ∷ place_rows name desc f
provision_read request name e desc f d = provision_first request name e f ∙ ap (λ (o : Option Description). description_row name f ∷ places_described name o) d

pub place_alike : (name : List ℕ) (desc : Description) (f g : Files) → AreNamedAlike (place_rows name desc f) (place_rows name desc g)
place_alike name desc f g = row_more role.Description name _ _ _ _ no_rows

pub stored_store : (request : ProvisionRequest) (files : Files) (name : List ℕ) (desc : Description) (store : List ℕ) → name ≡ request.description → described_in (files name) ≡ Some desc
    → store ≡ store_for desc → stored_of_store request store ≡ provision_stores request files
unfolding provisioned_files
stored_store request files name desc store e d m = rw (← e, d, m) refl

-- ---- cert
abbrev pub no_more_rows : Files → List FileRow
no_more_rows f = []

pub cert_first : (request : CertRequest) (name : List ℕ) → name ≡ request.description → (f : Files) → cert_rows request f ≡ description_row name f ∷ no_more_rows f
unfolding cert_rows
cert_first request name e f = rw e refl

-- there was no memory, and nothing was loaded
pub no_memory_left : {S U : Type 0} (tells : Bool) (files : S → Files) (faults : S → ℕ) (failed : S → Option Failure) (shelf : S) → Loads {T = U} tells files faults failed shelf shelf no_more_rows (Err NoMemory)
no_memory_left tells files faults failed shelf = record { stays = λ told. refl; ok = tt; err = tt; later = omega arith }

pub stored_cert : (request : CertRequest) (files : Files) (name : List ℕ) (type : ContentType) (id : ℕ) (desc : Description) (made : MadeCert) → name ≡ request.description → type ≡ request.type → id ≡ request.id → described_in (files name) ≡ Some desc
    → made.cert ≡ certificate_bytes desc type id → made.rows ≡ certificate_row desc type id → stored_of_cert request made ≡ cert_stores request files
unfolding certified_files
stored_cert request files name type id desc made e t i d b r = rw (← e, d, b, r, t, i) refl
