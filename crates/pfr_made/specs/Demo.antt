-- A platform to try, made of a number and of how many sectors its banks have.
use Rattle.std.specs.Prelude.{◌≡◌, ℕ, zero, suc, ◌+◌, ◌-◌, ◌*◌, ◌/◌, ◌%◌, ◌^◌, ◌≤◌, Some, None, List, [], ◌∷◌, ◌++◌, codes, replicate}
use Rattle.pfr_engine.specs.declared.engine.Curve.TheVariants.{C256}
use Rattle.pfr_flash.specs.declared.names.Bank.TheVariants.{Bmc, Pch}
use Rattle.pfr_description.specs.Described.{BankDescription, Description}
use Rattle.pfr_description.specs.declared.form.Form.TheVariants.{One}
use Rattle.pfr_description.specs.declared.keys.PublicKey.{PublicKey}
use Rattle.pfr_description.specs.declared.region.HashKind.TheVariants.{Sha256}
use Rattle.pfr_description.specs.declared.region.PageUse.TheVariants.{Copy, Erase}
use Rattle.pfr_description.specs.declared.region.RegionDescription.{RegionDescription}
use Rattle.pfr_made.specs.Capsules.{signed_capsule}
use Rattle.pfr_made.specs.Fields.{blanks, zeros}
use Rattle.pfr_made.specs.Made.{active_image, flash_of, rows_of}
use Rattle.pfr_made.specs.Store.{store_for}

-- how many sectors a bank of a demo may have
pub record IsDemoSize (sectors : ℕ) : Type 0 where
  pub sixteens : sectors % 16 ≡ 0
  pub least : 128 ≤ sectors
  pub most : sectors ≤ 16384

-- ---- the generator: its state behind one more byte, and behind so many
unfoldable pub next_state : ℕ → ℕ
next_state state = (state * 1664525 + 1013904223) % 2 ^ 32

unfoldable pub state_after : ℕ → ℕ → ℕ
state_after state zero = state
state_after state (suc count) = next_state (state_after state count)

-- the first so many bytes from a state on: each is the highest of the state behind it
unfoldable pub drawn : ℕ → ℕ → List ℕ
drawn state zero = []
drawn state (suc count) = drawn state count ++ state_after state (suc count) / 2 ^ 24 ∷ []

-- ---- the description, where all keys are of one kind
unfoldable pub repeated : ℕ → ℕ → PublicKey
repeated x y = record { x = replicate 48 x; y = replicate 48 y }

-- page 16 on, up to a quarter of the bank, which is hashed
abbrev pub static_region : ℕ → RegionDescription
static_region sectors = record { start = 65536; end = 1024 * sectors; mask = 1; hash = Some Sha256; pages = Copy }

-- the eight pages behind it, which are written
abbrev pub data_region : ℕ → RegionDescription
data_region sectors = record { start = 1024 * sectors; end = 1024 * sectors + 32768; mask = 0x13; hash = None; pages = Erase }

-- a bank of this version
unfoldable pub demo_bank : ℕ → ℕ → BankDescription
demo_bank svn sectors = record {
  image = [];
  size = 4096 * sectors;
  svn = svn;
  bkc = 1;
  revision = 1 ∷ 0 ∷ [];
  oem = zeros 16;
  layout = record { manifest_at = 0; manifest_len = 8192; recovery_at = 2048 * sectors; staging_at = 3072 * sectors; area_len = 1024 * sectors };
  manifest_key = record { id = 5; permissions = 15; key = repeated 0x33 0x44 };
  capsule_key = record { id = 6; permissions = 15; key = repeated 0x55 0x66 };
  staged = None;
  regions = static_region sectors ∷ data_region sectors ∷ [];
  smbus = [];
}

-- both banks alike
unfoldable pub demo_description : ℕ → ℕ → Description
demo_description svn sectors =
    record { curve = C256; form = One; root = repeated 0x11 0x22; bmc = demo_bank svn sectors; pch = demo_bank svn sectors }

-- ---- the images: 0xFF but for the static region, whose bytes are drawn
abbrev pub static_length : ℕ → ℕ
static_length sectors = 1024 * sectors - 65536

unfoldable pub demo_image : ℕ → ℕ → List ℕ
demo_image state sectors = blanks 65536 ++ drawn state (static_length sectors) ++ blanks (3072 * sectors)

-- the state behind an image
abbrev pub state_behind : ℕ → ℕ → ℕ
state_behind state sectors = state_after state (static_length sectors)

-- in the order in which they are drawn: the BMC's, the PCH's, and the BMC's of version 2
abbrev pub bmc_image : ℕ → ℕ → List ℕ
bmc_image number sectors = demo_image number sectors

abbrev pub pch_image : ℕ → ℕ → List ℕ
pch_image number sectors = demo_image (state_behind number sectors) sectors

abbrev pub newer_image : ℕ → ℕ → List ℕ
newer_image number sectors = demo_image (state_behind (state_behind number sectors) sectors) sectors

-- the images that are hashed
abbrev pub bmc_active : ℕ → ℕ → List ℕ
bmc_active number sectors = active_image (demo_description 1 sectors) Bmc (bmc_image number sectors)

abbrev pub pch_active : ℕ → ℕ → List ℕ
pch_active number sectors = active_image (demo_description 1 sectors) Pch (pch_image number sectors)

abbrev pub newer_active : ℕ → ℕ → List ℕ
newer_active number sectors = active_image (demo_description 2 sectors) Bmc (newer_image number sectors)

-- ---- the files
-- what is done with the platform: both updates, and a recovery that is cut off
unfoldable pub demo_script : List ℕ
demo_script = codes "power\nupdate bmc active\nupdate bmc recovery\ncut bmc 20 -\nboot bmc fail\npower\ntick 1500\n"

pub record DemoLists : Type 0 where
  pub bmc : List ℕ
  pub pch : List ℕ
  pub nv : List ℕ
  pub engine : List ℕ
  pub script : List ℕ

-- Version 2 is staged in the BMC, and nothing in the PCH.
abbrev pub demo_of : ℕ → ℕ → DemoLists
demo_of number sectors = record {
  bmc = flash_of (demo_description 1 sectors) Bmc (bmc_image number sectors) (signed_capsule (demo_description 2 sectors) Bmc (newer_active number sectors));
  pch = flash_of (demo_description 1 sectors) Pch (pch_image number sectors) [];
  nv = store_for (demo_description 1 sectors);
  engine = rows_of (demo_description 1 sectors) Bmc (bmc_active number sectors) ++ rows_of (demo_description 1 sectors) Pch (pch_active number sectors)
      ++ rows_of (demo_description 2 sectors) Bmc (newer_active number sectors);
  script = demo_script;
}
