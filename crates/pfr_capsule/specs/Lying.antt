-- Where the parts of a capsule lie in its bank.
use Rattle.std.specs.Prelude.{ℕ, ◌+◌, ◌*◌, ◌/◌, ◌≤◌, List}
use Rattle.pfr_capsule.specs.CapsuleState.{CapsuleState}
use Rattle.pfr_capsule.specs.Maps.{count_before}
use Rattle.pfr_capsule.specs.Pages.{copy_map}

-- so many bytes from a place on lie within so many from another
pub record LiesIn (from len at count : ℕ) : Type 0 where
  pub low : from ≤ at
  pub high : at + count ≤ from + len

-- A capsule at a place lies within a length, and its signed manifest, its maps and its payload lie in it.
pub record LiesAt (image : List ℕ) (place len : ℕ) (capsule : CapsuleState) : Type 0 where
  pub within : capsule.length ≤ len
  pub signed_manifest : LiesIn place capsule.length capsule.signed_manifest.at capsule.signed_manifest.len
  pub erase : LiesIn place capsule.length capsule.pages.erase_at (capsule.pages.bits / 8)
  pub copy : LiesIn place capsule.length capsule.pages.copy_at (capsule.pages.bits / 8)
  pub payload : LiesIn place capsule.length capsule.pages.payload_at (4096 * count_before (copy_map image capsule.pages) capsule.pages.bits)
