-- What a demo's platform is worth at its start.
use Rattle.std.specs.Prelude.{◌≡◌, ℕ, List, Ok}
use Rattle.pfr_engine.specs.Accepting.{acceptance}
use Rattle.pfr_engine.specs.Rows.{judge_text}
use Rattle.pfr_engine.specs.declared.row.Row.{Row}
use Rattle.pfr_made.specs.Demo.{demo_description, demo_of}
use Rattle.pfr_made.specs.Trust.{IsPlatform}

-- Both banks are trusted and their recovery areas good, with the demo's store and the engine of the demo's rows.
abbrev pub IsDemoWorthy : ℕ → ℕ → Type 0
IsDemoWorthy number sectors = (rows : List Row) → judge_text (demo_of number sectors).engine ≡ Ok rows
    → IsPlatform (demo_description 1 sectors) (demo_of number sectors).bmc (demo_of number sectors).pch (acceptance rows)
