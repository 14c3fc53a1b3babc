-- What a type of content asks of its block.
use Rattle.std.specs.Prelude.{ℕ, ◌==◌, Bool, true, false, List, [], ◌∷◌, Option, find}
use Rattle.pfr_flash.specs.declared.names.ContentType.{ContentType}
use Rattle.pfr_flash.specs.declared.names.ContentType.TheVariants.{PchManifest, PchCapsule, BmcManifest, BmcCapsule, Controller, PchManifestCancel, PchCapsuleCancel, BmcManifestCancel, BmcCapsuleCancel}

abbrev pub number_of : ContentType → ℕ
number_of PchManifest = 1
number_of PchCapsule = 2
number_of BmcManifest = 3
number_of BmcCapsule = 4
number_of Controller = 5
number_of PchManifestCancel = 0x101
number_of PchCapsuleCancel = 0x102
number_of BmcManifestCancel = 0x103
number_of BmcCapsuleCancel = 0x104

abbrev pub all_types : List ContentType
all_types = PchManifest ∷ PchCapsule ∷ BmcManifest ∷ BmcCapsule ∷ Controller ∷ PchManifestCancel ∷ PchCapsuleCancel ∷ BmcManifestCancel ∷ BmcCapsuleCancel ∷ []

-- the type whose number it is, where there is one
unfoldable pub type_of : ℕ → Option ContentType
type_of number = find (λ type. number == number_of type) all_types

-- a certificate cancels a key, and has no key entry
abbrev pub is_certificate : ContentType → Bool
is_certificate PchManifest = false
is_certificate PchCapsule = false
is_certificate BmcManifest = false
is_certificate BmcCapsule = false
is_certificate Controller = false
is_certificate PchManifestCancel = true
is_certificate PchCapsuleCancel = true
is_certificate BmcManifestCancel = true
is_certificate BmcCapsuleCancel = true

-- the bit of a key's permissions that lets it sign the type
abbrev pub permission_of : ContentType → ℕ
permission_of PchManifest = 0
permission_of PchCapsule = 1
permission_of BmcManifest = 2
permission_of BmcCapsule = 3
permission_of Controller = 4
permission_of PchManifestCancel = 0
permission_of PchCapsuleCancel = 1
permission_of BmcManifestCancel = 2
permission_of BmcCapsuleCancel = 3
