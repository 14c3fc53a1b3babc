-- Where the fuses lie in the store, and what they say.
use Rattle.std.specs.Prelude.{◌≡◌, ℕ, ◌+◌, ◌*◌, ◌<◌, ◌==◌, if◌then◌else◌, List, slice_index}
use Rattle.pfr_flash.specs.Bytes.{bytes_at}
use Rattle.pfr_flash.specs.FuseRow.{IsCleared}
use Rattle.pfr_flash.specs.declared.names.Bank.{Bank}
use Rattle.pfr_flash.specs.declared.names.Bank.TheVariants.{Bmc, Pch}
use Rattle.pfr_flash.specs.declared.names.ContentType.{ContentType}
use Rattle.pfr_flash.specs.declared.names.ContentType.TheVariants.{PchManifest, PchCapsule, BmcManifest, BmcCapsule}
use Rattle.pfr_fuses.specs.declared.profile.Profile.{Profile}
use Rattle.pfr_fuses.specs.declared.profile.Profile.TheVariants.{One, Two}

-- the profile of a store, by its profile gate
unfoldable pub profile_of : List ℕ → Profile
profile_of nv = if slice_index nv 0xA00 == 255 then One else Two

abbrev pub profile_number : Profile → ℕ
profile_number One = 1
profile_number Two = 2

-- the types of signed content that keys can be cancelled for
abbrev pub IsSigning : ContentType → Type 0
IsSigning PchManifest = Unit {0}
IsSigning PchCapsule = Unit {0}
IsSigning BmcManifest = Unit {0}
IsSigning BmcCapsule = Unit {0}
IsSigning type = ⊥

-- where a floor lies, and of how many bytes it is
abbrev pub floor_at : Profile → Bank → ℕ
floor_at One Bmc = 0x800
floor_at One Pch = 0x810
floor_at Two Bmc = 0x7000
floor_at Two Pch = 0x7010

abbrev pub floor_width : Profile → ℕ
floor_width One = 8
floor_width Two = 16

-- Where the row of cancellations of a signing type lies, and of how many bytes it is. Other types have none.
abbrev pub row_at : Profile → ContentType → ℕ
row_at One PchManifest = 0x900
row_at One PchCapsule = 0x910
row_at One BmcManifest = 0x920
row_at One BmcCapsule = 0x930
row_at Two PchManifest = 0x7020
row_at Two PchCapsule = 0x7040
row_at Two BmcManifest = 0x7060
row_at Two BmcCapsule = 0x7080
row_at profile type = 0

abbrev pub row_width : Profile → ℕ
row_width One = 16
row_width Two = 32

-- bit k of so many bytes at a place is one of theirs, and cleared
pub record IsBit (nv : List ℕ) (at width k : ℕ) : Type 0 where
  pub within : k < 8 * width
  pub cleared : IsCleared (bytes_at nv at width) k

-- k is the number of a cleared bit of a bank's floor
abbrev pub IsFloorBit : List ℕ → Bank → ℕ → Type 0
IsFloorBit nv bank k = IsBit nv (floor_at (profile_of nv) bank) (floor_width (profile_of nv)) k

-- k is the number of a cleared bit of a signing type's row
pub record IsCancelBit (nv : List ℕ) (type : ContentType) (k : ℕ) : Type 0 where
  pub signing : IsSigning type
  pub bit : IsBit nv (row_at (profile_of nv) type) (row_width (profile_of nv)) k

-- key id is cancelled for a type of signed content
abbrev pub IsCancelled : List ℕ → ContentType → ℕ → Type 0
IsCancelled nv type id = IsCancelBit nv type id

-- one plus the greatest number of a floor bit, or 0 where there is none
pub record IsFloor (nv : List ℕ) (bank : Bank) (floor : ℕ) : Type 0 where
  pub above : (k : ℕ) → IsFloorBit nv bank k → k < floor
  pub highest : (k : ℕ) → floor ≡ k + 1 → IsFloorBit nv bank k
