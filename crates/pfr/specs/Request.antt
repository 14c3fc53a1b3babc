-- What commands are asked for.
use Rattle.std.specs.Prelude.{ℕ, List}
use Rattle.pfr_flash.specs.declared.names.ContentType.{ContentType}

-- a run: the names of its files, and how often each page of a bank can be rewritten
pub record RunRequest : Type 0 where
  pub bmc : List ℕ
  pub pch : List ℕ
  pub nv : List ℕ
  pub engine : List ℕ
  pub script : List ℕ
  pub wear : ℕ

-- a check: the names of its files
pub record CheckRequest : Type 0 where
  pub bmc : List ℕ
  pub pch : List ℕ
  pub nv : List ℕ
  pub engine : List ℕ

-- the files of a run but for its script
abbrev pub images_of : RunRequest → CheckRequest
images_of request = record { bmc = request.bmc; pch = request.pch; nv = request.nv; engine = request.engine }

-- the images of a platform: the names of its description, and what the files begin with that are stored
pub record MakeRequest : Type 0 where
  pub description : List ℕ
  pub prefix : List ℕ

-- the store of a provisioned platform: the names of its description and of the store
pub record ProvisionRequest : Type 0 where
  pub description : List ℕ
  pub nv : List ℕ

-- a certificate that cancels the key of this id for a signing type, and what the files begin with that are stored
pub record CertRequest : Type 0 where
  pub description : List ℕ
  pub type : ContentType
  pub id : ℕ
  pub prefix : List ℕ
