-- What a description says, as plain data.
use Rattle.std.specs.Prelude.{ℕ, List, Option}
use Rattle.pfr_engine.specs.declared.engine.Curve.{Curve}
use Rattle.pfr_flash.specs.declared.layout.Layout.{Layout}
use Rattle.pfr_description.specs.declared.form.Form.{Form}
use Rattle.pfr_description.specs.declared.keys.KeyDescription.{KeyDescription}
use Rattle.pfr_description.specs.declared.keys.PublicKey.{PublicKey}
use Rattle.pfr_description.specs.declared.region.RegionDescription.{RegionDescription}
use Rattle.pfr_description.specs.declared.smbus.SmbusDescription.{SmbusDescription}

-- a bank, and the firmware that it holds
pub record BankDescription : Type 0 where
  -- the name of the file that holds the firmware's image
  pub image : List ℕ
  pub size : ℕ
  pub svn : ℕ
  pub bkc : ℕ
  pub revision : List ℕ
  pub oem : List ℕ
  pub layout : Layout
  pub manifest_key : KeyDescription
  pub capsule_key : KeyDescription
  -- the name of the file that is staged, if one is
  pub staged : Option (List ℕ)
  pub regions : List RegionDescription
  pub smbus : List SmbusDescription

-- a platform
pub record Description : Type 0 where
  pub curve : Curve
  pub form : Form
  pub root : PublicKey
  pub bmc : BankDescription
  pub pch : BankDescription
