-- The marks that stand in the place of signatures.
use Rattle.std.specs.Prelude.{ℕ, List, [], ◌∷◌, ◌++◌}
use Rattle.sha2.specs.Sha512.{sha384}
use Rattle.pfr_chain.specs.Keys.{digest_on}
use Rattle.pfr_engine.specs.declared.engine.Ask.{Ask}
use Rattle.pfr_engine.specs.declared.engine.Curve.{Curve}
use Rattle.pfr_engine.specs.declared.engine.Curve.TheVariants.{C256, C384}
use Rattle.pfr_engine.specs.declared.engine.Digest.{Digest}
use Rattle.pfr_engine.specs.declared.engine.Digest.TheVariants.{D256, D384}
use Rattle.pfr_description.specs.declared.keys.PublicKey.{PublicKey}

abbrev pub number_of_curve : Curve → ℕ
number_of_curve C256 = 0xC7B88C74
number_of_curve C384 = 0x08F07B47

abbrev pub digest_bytes : Digest → List ℕ
digest_bytes (D256 bytes) = bytes
digest_bytes (D384 bytes) = bytes

-- R is marked by the letter R, and S by the letter S
unfoldable pub mark_of : ℕ → PublicKey → Digest → List ℕ
mark_of letter key digest = sha384 ((letter ∷ []) ++ key.x ++ key.y ++ digest_bytes digest)

abbrev pub marks_of : Curve → PublicKey → List ℕ → Ask
marks_of curve key message = let digest = digest_on curve message in
    record { curve = curve; x = key.x; y = key.y; digest = digest; r = mark_of 0x52 key digest; s = mark_of 0x53 key digest }
