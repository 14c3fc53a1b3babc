-- The eight provision slots at the head of the store.
use Rattle.std.specs.Prelude.{◌≡◌, ◌≢◌, ℕ, zero, suc, ◌+◌, ◌*◌, ◌<◌, Bool, not, ◌==◌, if◌then◌else◌, List, [], ◌∷◌, slice_index, All, Result}
use Rattle.std.specs.List.{find, list_all, list_any}
use Rattle.pfr_flash.specs.Bytes.{bytes_at}
use Rattle.pfr_flash.specs.Judging.{known}
use Rattle.pfr_fuses.specs.declared.fuse_fail.FuseFail.{FuseFail}
use Rattle.pfr_fuses.specs.declared.fuse_fail.FuseFail.TheVariants.{NotProvisioned, SlotsSpent}

abbrev pub slot_at : List ℕ → ℕ → List ℕ
slot_at nv number = bytes_at nv (256 * number) 256

-- its gate, the last byte, isn't 0xFF
abbrev pub IsSet : List ℕ → Type 0
IsSet slot = slice_index slot 255 ≢ 255

-- all its bytes are 0xFF
abbrev pub IsBlank : List ℕ → Type 0
IsBlank slot = All (λ byte. byte ≡ 255) slot

-- the platform is provisioned by this slot: it is the first whose gate is set
pub record IsProvisionedBy (nv : List ℕ) (number : ℕ) : Type 0 where
  pub within : number < 8
  pub gate : IsSet (slot_at nv number)
  pub first : (k : ℕ) → k < number → ¬ IsSet (slot_at nv k)

-- no slot's gate is set
pub record IsUnset (nv : List ℕ) : Type 0 where
  pub gates : (k : ℕ) → k < 8 → ¬ IsSet (slot_at nv k)

-- some slot is blank
pub record HasBlank (nv : List ℕ) : Type 0 where
  pub number : ℕ
  pub within : number < 8
  pub blank : IsBlank (slot_at nv number)

-- the same by tests
abbrev pub is_set : List ℕ → Bool
is_set slot = not (slice_index slot 255 == 255)

abbrev pub is_blank : List ℕ → Bool
is_blank slot = list_all (λ byte. byte == 255) slot

-- so many slots from a number on
abbrev pub slots_from : List ℕ → ℕ → ℕ → List (List ℕ)
slots_from nv number zero = []
slots_from nv number (suc count) = slot_at nv number ∷ slots_from nv (number + 1) count

abbrev pub choose_slot : List (List ℕ) → Result (List ℕ) FuseFail
choose_slot slots = known (if list_any is_blank slots then NotProvisioned else SlotsSpent) (find is_set slots)

-- The slot that provisions the platform. Without one, a slot may be blank yet, or all are spent.
unfoldable pub provisioned_slot : List ℕ → Result (List ℕ) FuseFail
provisioned_slot nv = choose_slot (slots_from nv 0 8)
