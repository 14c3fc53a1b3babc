-- What a plan that clears one fuse leaves.
use Rattle.std.proofs.Common.{ℕ, ◌+◌, ◌*◌, ◌/◌, ◌≤◌, ◌<◌, List, [], ◌∷◌, length, arith}
use Rattle.pfr_flash.specs.FuseRow.{clearing, fuse_byte}
use Rattle.pfr_flash.specs.Operation.{Operation, Program, applied, play}
use Rattle.pfr_flash.specs.Plan.{IsPart}
use Rattle.pfr_flash.specs.Range.{AllWithin}
use Rattle.pfr_flash.proofs.CutLemmas.{AllPrograms, part_step, part_end}
use Rattle.pfr_flash.proofs.FuseLemmas.{MayClear, MayClear-program, MayClear-torn}

pub clearing-within : (at width bit : ℕ) → bit < 8 * width → AllWithin at width (clearing at bit)
clearing-within at width bit h = (record { low = omega arith; high = omega arith }, tt)

pub clearing-programs : (size at width bit : ℕ) → bit < 8 * width → at + width ≤ size → AllPrograms size (clearing at bit)
clearing-programs size at width bit h fits = (omega arith, tt)

pub MayClear-refl : (at width bit : ℕ) (image : List ℕ) → MayClear at width bit image image
MayClear-refl at width bit image = record { stays = λ k below other. (λ z. z, λ z. z); keeps = λ z. z }

-- however it ends, no other fuse of the row changes
pub clearing-part : (image : List ℕ) (at width bit : ℕ) (added : List Operation) → bit < 8 * width → at + width ≤ length image → IsPart image (clearing at bit) added
    → MayClear at width bit image (play image added)
clearing-part image at width bit added inside fits h =
    part_step (λ (after : List ℕ). MayClear at width bit image after) image (Program (at + bit / 8) (fuse_byte bit ∷ [])) [] added h (MayClear-refl at width bit image)
    (λ done t. MayClear-torn image at width bit done inside fits t)
    (λ ops q. part_end (λ (after : List ℕ). MayClear at width bit image after) (applied image (Program (at + bit / 8) (fuse_byte bit ∷ []))) ops q (MayClear-program image at width bit inside fits))
