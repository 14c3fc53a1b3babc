-- Each file keeps its bytes but those that a command stores.
use Rattle.std.proofs.Common.{◌≡◌, ◌≢◌, ◌∙◌, ap, refl, inl, inr, ℕ, List, [], ◌∷◌, Bool, true, Option, Some, None}
use Rattle.std.specs.Prelude.{All}
use Rattle.std.proofs.lemmas.List.Elements.{All-cons, All-head, All-nil, All-tail}
use Rattle.pfr_shelf.specs.Files.{Files, put_file}
use Rattle.pfr_shelf.proofs.PutLemmas.{put_other}
use Rattle.pfr_description.specs.Described.{Description}
use Rattle.pfr.specs.Judging.{FileRow}
use Rattle.pfr.specs.Makes.{KeepsAllBut, MakesFor, StopsAt, put_all}
use Rattle.pfr.specs.MakesInside.{names_of}
use Rattle.pfr.specs.Making.{StoredFile, cert_names, cert_stores, certified_files, described_in, made_files, make_names, make_stores, provision_names, provision_stores, provisioned_files, stored_of}
use Rattle.pfr.specs.Request.{MakeRequest, ProvisionRequest, CertRequest}
use Rattle.pfr.specs.Runs.{Outside}
use Rattle.pfr.specs.declared.status.Role.{Role}
use Rattle.pfr.specs.declared.status.Status.{Status}
use Rattle.pfr.specs.declared.status.Status.TheVariants.{Done, Usage, BadInput, TooLong, ReadFault, WriteFault, StoreFault, NoMemory}

-- ---- what is stored bears these names
-- a name that is none of these is none of those that are stored
abbrev pub Covers : List (Role × List ℕ) → List StoredFile → Type 0
Covers names stores = (name : List ℕ) → All (λ named. name ≢ named.1) names → All (λ stored. name ≢ stored.name) stores

named_all : (name : List ℕ) (stores : List StoredFile) → All (λ named. name ≢ named.1) (names_of stores) → All (λ stored. name ≢ stored.name) stores
named_all name [] a = All-nil (λ stored. name ≢ stored.name)
named_all name (x ∷ xs) a =
    All-cons (λ stored. name ≢ stored.name) x xs (All-head (λ named. name ≢ named.1) (x.role, x.name) (names_of xs) a)
    (named_all name xs (All-tail (λ named. name ≢ named.1) (x.role, x.name) (names_of xs) a))

make_all : (request : MakeRequest) (desc : Description) (files : Files) → Covers (make_names request) (made_files request desc files)
unfolding made_files
make_all request desc files name a = named_all name (made_files request desc files) a

make_some : (request : MakeRequest) (files : Files) (described : Option Description) → Covers (make_names request) (stored_of described (λ desc. made_files request desc files))
make_some request files None name a = All-nil (λ stored. name ≢ stored.name)
make_some request files (Some desc) name a = make_all request desc files name a

pub make_covers : (request : MakeRequest) (files : Files) → Covers (make_names request) (make_stores request files)
make_covers request files = make_some request files (described_in (files request.description))

provision_all : (request : ProvisionRequest) (desc : Description) → Covers (provision_names request) (provisioned_files request desc)
unfolding provisioned_files
provision_all request desc name a = named_all name (provisioned_files request desc) a

provision_some : (request : ProvisionRequest) (described : Option Description) → Covers (provision_names request) (stored_of described (λ desc. provisioned_files request desc))
provision_some request None name a = All-nil (λ stored. name ≢ stored.name)
provision_some request (Some desc) name a = provision_all request desc name a

pub provision_covers : (request : ProvisionRequest) (files : Files) → Covers (provision_names request) (provision_stores request files)
provision_covers request files = provision_some request (described_in (files request.description))

cert_all : (request : CertRequest) (desc : Description) → Covers (cert_names request) (certified_files request desc)
unfolding certified_files
cert_all request desc name a = named_all name (certified_files request desc) a

cert_some : (request : CertRequest) (described : Option Description) → Covers (cert_names request) (stored_of described (λ desc. certified_files request desc))
cert_some request None name a = All-nil (λ stored. name ≢ stored.name)
cert_some request (Some desc) name a = cert_all request desc name a

pub cert_covers : (request : CertRequest) (files : Files) → Covers (cert_names request) (cert_stores request files)
cert_covers request files = cert_some request (described_in (files request.description))

-- ---- files of other names
put_all_spares : (stores : List StoredFile) (files : Files) (name : List ℕ) → All (λ stored. name ≢ stored.name) stores → put_all stores files name ≡ files name
put_all_spares [] files name a = refl
put_all_spares (x ∷ xs) files name a = put_all_spares xs (put_file files x.name x.bytes) name (All-tail (λ stored. name ≢ stored.name) x xs a) ∙ put_other files x.name x.bytes name (All-head (λ stored. name ≢ stored.name) x xs a)

stop_spares : (file : Role) (stores : List StoredFile) (old new : Files) (name : List ℕ) → All (λ stored. name ≢ stored.name) stores → StopsAt file stores old new → new name ≡ old name
stop_spares file [] old new name a s = absurd s
stop_spares file (x ∷ xs) old new name a s = elim s [
  | inl here ↦ here.1 name (All-head (λ stored. name ≢ stored.name) x xs a)
  | inr later ↦ stop_spares file xs (put_file old x.name x.bytes) new name (All-tail (λ stored. name ≢ stored.name) x xs a) later ∙ put_other old x.name x.bytes name (All-head (λ stored. name ≢ stored.name) x xs a)
]

pub same_spares : (names : List (Role × List ℕ)) (old new : Files) → new ≡ old → KeepsAllBut names old new
same_spares names old new e name a = ap (λ (f : Files). f name) e

pub three_spared : (a b c : Role × List ℕ) (name : List ℕ) → All (λ named. name ≢ named.1) (a ∷ b ∷ c ∷ []) → (name ≢ a.1) × (name ≢ b.1) × (name ≢ c.1)
three_spared a b c name n =
    let rest = All-tail (λ named. name ≢ named.1) a (b ∷ c ∷ []) n in (
      All-head (λ named. name ≢ named.1) a (b ∷ c ∷ []) n,
      All-head (λ named. name ≢ named.1) b (c ∷ []) rest,
      All-head (λ named. name ≢ named.1) c [] (All-tail (λ named. name ≢ named.1) b (c ∷ []) rest),
    )

pub making_spares : (told : Bool) (before after : Outside) (rows : Files → List FileRow) (names : List (Role × List ℕ)) (stores : Files → List StoredFile) (status : Status) → MakesFor told before after rows names stores status → Covers names (stores before.files) → told ≡ true
    → KeepsAllBut names before.files after.files
making_spares told before after rows names stores Done m c t name a = ap (λ (f : Files). f name) (m t).1 ∙ put_all_spares (stores before.files) before.files name (c name a)
making_spares told before after rows names stores Usage m c t name a = ap (λ (f : Files). f name) (m.1 t)
making_spares told before after rows names stores (BadInput file place why) m c t name a = ap (λ (f : Files). f name) (m.1 t)
making_spares told before after rows names stores (TooLong file) m c t name a = ap (λ (f : Files). f name) (m.1 t)
making_spares told before after rows names stores (ReadFault file) m c t name a = ap (λ (f : Files). f name) (m.1 t)
making_spares told before after rows names stores WriteFault m c t name a = ap (λ (f : Files). f name) (m.1 t)
making_spares told before after rows names stores (StoreFault file) m c t name a = stop_spares file (stores before.files) before.files after.files name (c name a) (m.2 t).1
making_spares told before after rows names stores NoMemory m c t name a = elim (m t) [
  | inl same ↦ ap (λ (f : Files). f name) same
  | inr late ↦ stop_spares late.1.0 (stores before.files) before.files after.files name (c name a) late.1.1
]
