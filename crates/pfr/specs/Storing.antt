-- The stores of the images.
use Rattle.std.specs.Prelude.{◌≡◌, ◌≢◌, ◌⊎◌, ℕ, List, [], ◌∷◌, Bool, true, Option, Some}
use Rattle.pfr_flash.specs.FlashState.{now, Rose}
use Rattle.pfr_shelf.specs.Failures.{Failure, failing}
use Rattle.pfr_shelf.specs.Files.{Files, put_file, SameBut}
use Rattle.pfr_shelf.specs.declared.failure.Access.TheVariants.{Store}
use Rattle.pfr.specs.Request.{RunRequest}
use Rattle.pfr.specs.declared.finished.Bench.{Bench}
use Rattle.pfr.specs.declared.status.Role.{Role}
use Rattle.pfr.specs.declared.status.Role.TheVariants as role
use Rattle.pfr.specs.declared.status.Status.{Status}
use Rattle.pfr.specs.declared.status.Status.TheVariants.{StoreFault, NoMemory}

-- The files once each device's bytes are stored, in this order: of devices under one name the last is kept.
abbrev pub with_bmc : Files → RunRequest → Bench → Files
with_bmc files request bench = put_file files request.bmc (now bench.bmc.device)

abbrev pub with_pch : Files → RunRequest → Bench → Files
with_pch files request bench = put_file (with_bmc files request bench) request.pch (now bench.pch.device)

abbrev pub with_images : Files → RunRequest → Bench → Files
with_images files request bench = put_file (with_pch files request bench) request.nv (now bench.nv.device)

-- the store of this device's bytes failed: its file may hold anything, and the stores before it were done
abbrev pub StopsStoring : Role → Files → RunRequest → Bench → Files → Type 0
StopsStoring role.Bmc files request bench new = SameBut request.bmc files new
StopsStoring role.Pch files request bench new = SameBut request.pch (with_bmc files request bench) new
StopsStoring role.Nv files request bench new = SameBut request.nv (with_pch files request bench) new
StopsStoring _ files request bench new = ⊥

-- each file but the three images is as before
abbrev pub KeepsOthers : RunRequest → Files → Files → Type 0
KeepsOthers request old new = (name : List ℕ) → name ≢ request.bmc → name ≢ request.pch → name ≢ request.nv → new name ≡ old name

-- the last call that failed was the store of this role's file, of files of these roles and names
abbrev pub IsBlamedStore : Role → List (Role × List ℕ) → Option Failure → Type 0
IsBlamedStore file [] failed = ⊥
IsBlamedStore file (named ∷ others) failed = ((named.0 ≡ file) × (failed ≡ Some (failing Store named.1))) ⊎ IsBlamedStore file others failed

-- the roles and the names of the images
abbrev pub image_names : RunRequest → List (Role × List ℕ)
image_names request = (role.Bmc, request.bmc) ∷ (role.Pch, request.pch) ∷ (role.Nv, request.nv) ∷ []

-- a store of a file of this role and name gives this status only with its cause
abbrev pub RefusesStore : Role → List ℕ → ℕ → ℕ → Option Failure → Status → Type 0
RefusesStore role name before after failed (StoreFault file) =
    (file ≡ role) × Rose before after × (failed ≡ Some (failing Store name))
RefusesStore role name before after failed NoMemory = Unit {0}
RefusesStore role name before after failed status = ⊥

-- the stores of the images give this status only so
abbrev pub RefusesImages : Bool → Files → Files → ℕ → ℕ → Option Failure → RunRequest → Bench → Status → Type 0
RefusesImages told old new before after failed request bench (StoreFault file) =
    Rose before after × IsBlamedStore file (image_names request) failed × (told ≡ true → StopsStoring file old request bench new)
RefusesImages told old new before after failed request bench NoMemory = told ≡ true → (file : Role) × StopsStoring file old request bench new
RefusesImages told old new before after failed request bench status = ⊥
