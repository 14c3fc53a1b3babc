-- What a provision slot says.
use Rattle.std.specs.Prelude.{◌≡◌, ℕ, ◌+◌, ◌^◌, ◌<◌, List, ◌++◌, length, take, slice_index}
use Rattle.byteorder.specs.Endian.{little_bytes}
use Rattle.pfr_flash.specs.Bytes.{bytes_at}
use Rattle.pfr_flash.specs.Numbers.{number_at}
use Rattle.pfr_flash.specs.declared.layout.Layout.{Layout}
use Rattle.pfr_flash.specs.declared.names.Bank.{Bank}
use Rattle.pfr_flash.specs.declared.names.Bank.TheVariants.{Bmc, Pch}
use Rattle.pfr_fuses.specs.declared.root_slot.RootSlot.{RootSlot}

-- five numbers
unfoldable pub layout_at : List ℕ → ℕ → Layout
layout_at bytes at = record {
  manifest_at = number_at bytes at;
  manifest_len = number_at bytes (at + 4);
  recovery_at = number_at bytes (at + 8);
  staging_at = number_at bytes (at + 12);
  area_len = number_at bytes (at + 16);
}

-- the root's hash, and the layouts of both banks
unfoldable pub slot_of : List ℕ → RootSlot
slot_of bytes = record {
  root = bytes_at bytes 0 32;
  bmc = layout_at bytes 32;
  pch = layout_at bytes 52;
}

-- what the bytes of a whole slot say
abbrev pub provision_in : List ℕ → RootSlot
provision_in slot = slot_of (take 72 slot)

abbrev pub layout_of : RootSlot → Bank → Layout
layout_of slot Bmc = slot.bmc
layout_of slot Pch = slot.pch

-- ---- the bytes that say it
unfoldable pub layout_bytes : Layout → List ℕ
layout_bytes l = little_bytes 4 l.manifest_at ++ (little_bytes 4 l.manifest_len ++ (little_bytes 4 l.recovery_at ++ (little_bytes 4 l.staging_at ++ little_bytes 4 l.area_len)))

unfoldable pub slot_bytes : RootSlot → List ℕ
slot_bytes what = what.root ++ (layout_bytes what.bmc ++ layout_bytes what.pch)

-- Each number fits in four bytes, and the hash has 32 bytes: so it is of every value of a program.
pub record HasFields (l : Layout) : Type 0 where
  pub manifest_at : l.manifest_at < 2 ^ 32
  pub manifest_len : l.manifest_len < 2 ^ 32
  pub recovery_at : l.recovery_at < 2 ^ 32
  pub staging_at : l.staging_at < 2 ^ 32
  pub area_len : l.area_len < 2 ^ 32

pub record IsSlot (what : RootSlot) : Type 0 where
  pub root : length what.root ≡ 32
  pub bmc : HasFields what.bmc
  pub pch : HasFields what.pch
  -- what is programmed are bytes
  pub bytes : (i : ℕ) → i < 72 → slice_index (slot_bytes what) i < 256
