-- The kept rows of a store.
use Rattle.std.specs.Prelude.{◌≡◌, ℕ, List, replicate}
use Rattle.pfr_flash.specs.declared.names.Bank.{Bank}
use Rattle.pfr_flash.specs.declared.names.Bank.TheVariants.{Bmc, Pch}
use Rattle.pfr_flash.specs.declared.names.ContentType.{ContentType}
use Rattle.pfr_flash.specs.declared.names.ContentType.TheVariants.{PchManifest, PchCapsule, BmcManifest, BmcCapsule}
use Rattle.pfr_fuses.specs.FusesOf.{floor_fuses, row_fuses}
use Rattle.pfr_fuses.specs.declared.fuse_rows.Floors.{Floors}
use Rattle.pfr_fuses.specs.declared.fuse_rows.CancelRows.{CancelRows}

pub record FloorsOf (nv : List ℕ) (floors : Floors) : Type 0 where
  pub bmc : floors.bmc ≡ floor_fuses nv Bmc
  pub pch : floors.pch ≡ floor_fuses nv Pch

pub record RowsOf (nv : List ℕ) (rows : CancelRows) : Type 0 where
  pub pch_manifest : rows.pch_manifest ≡ row_fuses nv PchManifest
  pub pch_capsule : rows.pch_capsule ≡ row_fuses nv PchCapsule
  pub bmc_manifest : rows.bmc_manifest ≡ row_fuses nv BmcManifest
  pub bmc_capsule : rows.bmc_capsule ≡ row_fuses nv BmcCapsule

abbrev pub fuses_of_floor : Floors → Bank → List ℕ
fuses_of_floor floors Bmc = floors.bmc
fuses_of_floor floors Pch = floors.pch

abbrev pub with_floor_fuses : Floors → Bank → List ℕ → Floors
with_floor_fuses floors Bmc row = record floors { bmc = row }
with_floor_fuses floors Pch row = record floors { pch = row }

-- the row of a signing type
abbrev pub keys_of_rows : CancelRows → ContentType → List ℕ
keys_of_rows rows PchManifest = rows.pch_manifest
keys_of_rows rows PchCapsule = rows.pch_capsule
keys_of_rows rows BmcManifest = rows.bmc_manifest
keys_of_rows rows BmcCapsule = rows.bmc_capsule
keys_of_rows rows type = replicate 32 255

abbrev pub with_keys : CancelRows → ContentType → List ℕ → CancelRows
with_keys rows PchManifest row = record rows { pch_manifest = row }
with_keys rows PchCapsule row = record rows { pch_capsule = row }
with_keys rows BmcManifest row = record rows { bmc_manifest = row }
with_keys rows BmcCapsule row = record rows { bmc_capsule = row }
with_keys rows type row = rows
