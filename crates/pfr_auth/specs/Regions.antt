-- When a region of an image has its hash.
use Rattle.std.specs.Prelude.{ℕ, List}
use Rattle.pfr_manifest.specs.Hashes.{HasHash, bytes_between}
use Rattle.pfr_manifest.specs.declared.region.Region.{Region}

-- a region of an image has its hash
abbrev pub IsHashed : List ℕ → Region → Type 0
IsHashed image region = HasHash (bytes_between image region.start region.end) region.hash
