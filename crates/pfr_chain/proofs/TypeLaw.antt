-- Types of content and their numbers.
use Rattle.std.proofs.Common.{◌≡◌, ℕ, ◌+◌, List, Some, refl, ap, ◌∙◌, sym, arith}
use Rattle.std.proofs.lemmas.Bool.Decides.{nat_tests}
use Rattle.pfr_flash.specs.declared.names.ContentType.{ContentType}
use Rattle.pfr_flash.specs.declared.names.ContentType.TheVariants.{PchManifest, PchCapsule, BmcManifest, BmcCapsule, Controller, PchManifestCancel, PchCapsuleCancel, BmcManifestCancel, BmcCapsuleCancel}
use Rattle.pfr_flash.specs.Numbers.{number_at}
use Rattle.pfr_chain.specs.Types.{number_of, type_of}
use Rattle.pfr_chain.specs.Block.{BlockAt}
use Rattle.pfr_flash.proofs.PartsLemmas.{number_in_part}

-- each type is that of its number, and of no other
pub type_of-number_of : (type : ContentType) → type_of (number_of type) ≡ Some type
unfolding type_of
type_of-number_of PchManifest = refl
type_of-number_of PchCapsule = refl
type_of-number_of BmcManifest = refl
type_of-number_of BmcCapsule = refl
type_of-number_of Controller = refl
type_of-number_of PchManifestCancel = refl
type_of-number_of PchCapsuleCancel = refl
type_of-number_of BmcManifestCancel = refl
type_of-number_of BmcCapsuleCancel = refl

pub number_of-type_of : (number : ℕ) (type : ContentType) → type_of number ≡ Some type → number ≡ number_of type
unfolding type_of
number_of-type_of number type h = grind (arith, nat_tests)

-- a block's type is the one that its number names
pub BlockAt-type : (image : List ℕ) (place len : ℕ) (type : ContentType) (blen : ℕ) → BlockAt image place len type blen → type_of (number_at image (place + 8)) ≡ Some type
BlockAt-type image place len type blen h =
    ap type_of (sym (number_in_part image place 128 8 (omega arith)) ∙ h.type_number) ∙ type_of-number_of type
