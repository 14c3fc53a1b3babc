-- What was loaded.
use Rattle.std.specs.Prelude.{◌≡◌, ℕ, Some, length, true}
use Rattle.pfr_shelf.specs.Files.{Files}
use Rattle.pfr.specs.Judging.{HoldsRows, HoldsScript, image_fits}
use Rattle.pfr.specs.Request.{RunRequest, CheckRequest}
use Rattle.pfr.specs.declared.load.Images.{Images}
use Rattle.pfr.specs.declared.load.Loaded.{Loaded}
use Rattle.pfr.specs.declared.status.Role.TheVariants as role

-- the images are the files' bytes, and the engine's rows and the script are what their files say
pub record IsLoaded (files : Files) (request : RunRequest) (loaded : Loaded) : Type 0 where
  pub bmc : files request.bmc ≡ Some loaded.bmc.items
  pub pch : files request.pch ≡ Some loaded.pch.items
  pub nv : files request.nv ≡ Some loaded.nv.items
  pub engine : HoldsRows files request.engine loaded.engine
  pub script : HoldsScript files request.script loaded.script

-- images of these lengths are those of devices
pub record AreSizes (bmc_len pch_len nv_len : ℕ) : Type 0 where
  pub bmc : image_fits role.Bmc bmc_len ≡ true
  pub pch : image_fits role.Pch pch_len ≡ true
  pub nv : image_fits role.Nv nv_len ≡ true

abbrev pub HasSizes : Loaded → Type 0
HasSizes loaded = AreSizes (length loaded.bmc.items) (length loaded.pch.items) (length loaded.nv.items)

abbrev pub HaveSizes : Images → Type 0
HaveSizes images = AreSizes (length images.bmc.items) (length images.pch.items) (length images.nv.items)

-- the images are the files' bytes, and the engine's rows are what its file says
pub record AreLoaded (files : Files) (request : CheckRequest) (images : Images) : Type 0 where
  pub bmc : files request.bmc ≡ Some images.bmc.items
  pub pch : files request.pch ≡ Some images.pch.items
  pub nv : files request.nv ≡ Some images.nv.items
  pub engine : HoldsRows files request.engine images.engine
