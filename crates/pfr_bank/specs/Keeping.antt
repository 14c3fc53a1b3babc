-- What a bank that was judged keeps.
use Rattle.std.specs.Prelude.{◌≡◌, [], Option, Some, None}
use Rattle.pfr_manifest.specs.Stretches.{stretches_of}
use Rattle.pfr_manifest.specs.declared.manifest.Manifest.{Manifest}
use Rattle.pfr_bank.specs.declared.room.Kept.{Kept}

-- a manifest with its table
abbrev pub kept_with : Manifest → Kept
kept_with m = record { manifest = m; table = stretches_of m }

-- a manifest that is none
abbrev pub no_manifest : Manifest
no_manifest = record { svn = 0; bkc = 0; revision = []; reserved = []; oem = []; length = 0; regions = []; rules = [] }

abbrev pub manifest_in : Option Kept → Manifest
manifest_in (Some kept) = kept.manifest
manifest_in None = no_manifest

-- a manifest is kept, and its table
abbrev pub IsKept : Option Kept → Type 0
IsKept (Some kept) = kept.table ≡ stretches_of kept.manifest
IsKept None = ⊥
