-- The store of a platform that is provisioned in its first slot. Its fuses are those of profile 2.
use Rattle.std.specs.Prelude.{ℕ, List, [], ◌∷◌, ◌++◌}
use Rattle.sha2.specs.Sha256.{sha256}
use Rattle.pfr_engine.specs.declared.engine.Curve.{Curve}
use Rattle.pfr_flash.specs.declared.layout.Layout.{Layout}
use Rattle.pfr_made.specs.Fields.{number_bytes, blanks}
use Rattle.pfr_made.specs.Marks.{number_of_curve}
use Rattle.pfr_description.specs.declared.form.Form.{Form}
use Rattle.pfr_description.specs.declared.form.Form.TheVariants.{One, Two}
use Rattle.pfr_description.specs.Described.{Description}
use Rattle.pfr_description.specs.declared.keys.PublicKey.{PublicKey}

abbrev pub layout_bytes : Layout → List ℕ
layout_bytes l = number_bytes l.manifest_at ++ number_bytes l.manifest_len ++ number_bytes l.recovery_at
    ++ number_bytes l.staging_at ++ number_bytes l.area_len

-- the hash of a root key, whose scheme is its curve's number
unfoldable pub root_hash : Form → Curve → PublicKey → List ℕ
root_hash One curve root = sha256 (root.x ++ root.y)
root_hash Two curve root = sha256 (2 ∷ (number_bytes (number_of_curve curve) ++ root.x ++ root.y))

-- the slot up to its gate at 255, then the profile's gate at 2,560
abbrev pub store_of : Form → Curve → PublicKey → Layout → Layout → List ℕ
store_of form curve root bmc pch = root_hash form curve root ++ layout_bytes bmc ++ layout_bytes pch ++ blanks 183 ++ (0 ∷ [])
    ++ blanks 2304 ++ (0 ∷ []) ++ blanks 30207

-- the store that is made of a description
abbrev pub store_for : Description → List ℕ
store_for desc = store_of desc.form desc.curve desc.root desc.bmc.layout desc.pch.layout
