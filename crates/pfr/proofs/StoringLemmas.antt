-- A store of an image that failed, among the stores of a run's images.
use Rattle.std.proofs.Common.{◌≡◌, sym, subst, ℕ, ◌≤◌, List, Bool, true, Option, Some, arith}
use Rattle.pfr_shelf.specs.Failures.{Failure, failing}
use Rattle.pfr_shelf.specs.Files.{Files}
use Rattle.pfr_shelf.specs.declared.failure.Access.TheVariants.{Store}
use Rattle.pfr.specs.Request.{RunRequest}
use Rattle.pfr.specs.Storing.{IsBlamedStore, RefusesImages, RefusesStore, StopsStoring, image_names}
use Rattle.pfr.specs.declared.finished.Bench.{Bench}
use Rattle.pfr.specs.declared.status.Role.{Role}
use Rattle.pfr.specs.declared.status.Status.{Status}
use Rattle.pfr.specs.declared.status.Status.TheVariants.{Done, Usage, BadInput, TooLong, ReadFault, WriteFault, StoreFault, NoMemory}

-- the store of this image's file failed, and of those before it none
pub refuses_image : (role : Role) (name : List ℕ) (told : Bool) (old new : Files) (before mid after : ℕ) (failed : Option Failure) (request : RunRequest) (bench : Bench) (status : Status) → RefusesStore role name mid after failed status → before ≤ mid
    → (failed ≡ Some (failing Store name) → IsBlamedStore role (image_names request) failed) → (told ≡ true → StopsStoring role old request bench new) → RefusesImages told old new before after failed request bench status
refuses_image role name told old new before mid after failed request bench (StoreFault file) r h blamed stops = (
  let rose = r.1 in omega arith,
  subst (λ (role : Role). IsBlamedStore role (image_names request) failed) (sym r.0) (blamed r.2),
  λ t. subst (λ (role : Role). StopsStoring role old request bench new) (sym r.0) (stops t),
)
refuses_image role name told old new before mid after failed request bench NoMemory r h blamed stops = λ t. (role, stops t)
refuses_image role name told old new before mid after failed request bench Done r h blamed stops = absurd r
refuses_image role name told old new before mid after failed request bench Usage r h blamed stops = absurd r
refuses_image role name told old new before mid after failed request bench (BadInput file place why) r h blamed stops = absurd r
refuses_image role name told old new before mid after failed request bench (TooLong file) r h blamed stops = absurd r
refuses_image role name told old new before mid after failed request bench (ReadFault file) r h blamed stops = absurd r
refuses_image role name told old new before mid after failed request bench WriteFault r h blamed stops = absurd r
