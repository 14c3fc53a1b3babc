-- A bank stays trusted throughout operations that leave the bytes its trust rests on.
use Rattle.std.specs.Prelude.{◌≡◌, ℕ, ◌≤◌, List, take, drop, All}
use Rattle.pfr_flash.specs.Operation.{Operation, play_first}
use Rattle.pfr_flash.specs.declared.names.Bank.{Bank}
use Rattle.pfr_engine.specs.Acceptance.{Acceptance}
use Rattle.pfr_fuses.specs.RootSlot.{layout_of}
use Rattle.pfr_manifest.specs.declared.manifest.Manifest.{Manifest}
use Rattle.pfr_auth.specs.Leaving.{LeavesImage, LeavesStore}
use Rattle.pfr_auth.specs.Trusted.{IsTrusted}

-- the bank's image is trusted by this manifest
abbrev pub IsTrustedBy : Manifest → List ℕ → List ℕ → Bank → Acceptance → Type 0
IsTrustedBy manifest image nv bank accepts = (t : IsTrusted image nv bank accepts) × (t.manifest ≡ manifest)

-- the operations from one count to another
abbrev pub between : ℕ → ℕ → List Operation → List Operation
between begin end ops = drop begin (take end ops)

-- Where a bank is trusted at a count of its own operations and one of the store's, and no operation from there to
-- later counts touches a byte that this rests on, the bank is trusted at every count between, by the same manifest.
abbrev pub StaysTrusted : Type 0
StaysTrusted = (accepts : Acceptance) (bank : Bank) (start nv : List ℕ) (ops store : List Operation) (begin end first last : ℕ)
    → (t : IsTrusted (play_first begin start ops) (play_first first nv store) bank accepts)
    → All (LeavesImage (layout_of t.fuses.provision bank) t.manifest) (between begin end ops)
    → All (LeavesStore t.fuses bank) (between first last store)
    → (b n : ℕ) → begin ≤ b → b ≤ end → first ≤ n → n ≤ last
    → IsTrustedBy t.manifest (play_first b start ops) (play_first n nv store) bank accepts
