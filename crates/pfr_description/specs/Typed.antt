-- What the values of a program are: lengths of arrays and ranges of numbers.
use Rattle.std.specs.Prelude.{◌≡◌, ◌^◌, ◌<◌, length, All}
use Rattle.pfr_flash.specs.Bytes.{AreBytes}
use Rattle.pfr_fuses.specs.RootSlot.{HasFields}
use Rattle.pfr_description.specs.Described.{BankDescription}
use Rattle.pfr_description.specs.Described.{Description}
use Rattle.pfr_description.specs.declared.keys.KeyDescription.{KeyDescription}
use Rattle.pfr_description.specs.declared.keys.PublicKey.{PublicKey}
use Rattle.pfr_description.specs.declared.region.RegionDescription.{RegionDescription}
use Rattle.pfr_description.specs.declared.smbus.SmbusDescription.{SmbusDescription}

pub record IsKeyValue (key : PublicKey) : Type 0 where
  pub x : length key.x ≡ 48
  pub y : length key.y ≡ 48
  pub x_bytes : AreBytes key.x
  pub y_bytes : AreBytes key.y

pub record IsSignerValue (signer : KeyDescription) : Type 0 where
  pub id : signer.id < 256
  pub permissions : signer.permissions < 2 ^ 32
  pub key : IsKeyValue signer.key

pub record IsRegionValue (region : RegionDescription) : Type 0 where
  pub start : region.start < 2 ^ 32
  pub end : region.end < 2 ^ 32
  pub mask : region.mask < 256

pub record IsRuleValue (smbus : SmbusDescription) : Type 0 where
  pub bus : smbus.bus < 256
  pub rule : smbus.rule < 256
  pub address : smbus.address < 256
  pub commands : length smbus.commands ≡ 32
  pub command_bytes : AreBytes smbus.commands

pub record IsBankValue (part : BankDescription) : Type 0 where
  pub size : part.size < 2 ^ 32
  pub svn : part.svn < 256
  pub bkc : part.bkc < 256
  pub revision : length part.revision ≡ 2
  pub revision_bytes : AreBytes part.revision
  pub oem : length part.oem ≡ 16
  pub oem_bytes : AreBytes part.oem
  pub layout : HasFields part.layout
  pub manifest_key : IsSignerValue part.manifest_key
  pub capsule_key : IsSignerValue part.capsule_key
  pub regions : All IsRegionValue part.regions
  pub rules : All IsRuleValue part.smbus

pub record IsValue (desc : Description) : Type 0 where
  pub root : IsKeyValue desc.root
  pub bmc : IsBankValue desc.bmc
  pub pch : IsBankValue desc.pch
