-- The two curves.
use Rattle.std.specs.Prelude.{ℕ, ◌==◌, Option, Some, None, if◌then◌else◌}
use Rattle.pfr_engine.specs.declared.engine.Curve.{Curve}
use Rattle.pfr_engine.specs.declared.engine.Curve.TheVariants.{C256, C384}

-- the curve of a number
abbrev pub curve_of : ℕ → Option Curve
curve_of number = if number == 0xC7B88C74 then Some C256 else if number == 0x08F07B47 then Some C384 else None

-- the magic of a signature on a curve
abbrev pub signature_magic : Curve → ℕ
signature_magic C256 = 0xDE64437D
signature_magic C384 = 0xEA2A50E9
