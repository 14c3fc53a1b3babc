-- A platform before its first step and behind it.
use Rattle.pfr_engine.specs.Acceptance.{Acceptance}
use Rattle.pfr_story.specs.World.{World}
use Rattle.pfr_machine.specs.Inside.{IsSound, no_world}
use Rattle.pfr_machine.specs.declared.stage.Stage.{Stage}
use Rattle.pfr_machine.specs.declared.stage.Stage.TheVariants as stage

abbrev pub world_in : {F : Type 0} → Stage F → World
world_in (stage.Fresh w) = w
world_in (stage.Ready w) = w
world_in stage.Away = no_world

-- it isn't away
abbrev pub IsHere : {F : Type 0} → Stage F → Type 0
IsHere (stage.Fresh w) = Unit {0}
IsHere (stage.Ready w) = Unit {0}
IsHere stage.Away = ⊥

-- its banks have their memory
abbrev pub IsReady : {F : Type 0} → Stage F → Type 0
IsReady (stage.Fresh w) = ⊥
IsReady (stage.Ready w) = Unit {0}
IsReady stage.Away = ⊥

-- the platform is there, between two events
abbrev pub IsThere : {F : Type 0} → Acceptance → Stage F → Type 0
IsThere accepts (stage.Fresh w) = IsSound accepts w
IsThere accepts (stage.Ready w) = IsSound accepts w
IsThere accepts stage.Away = ⊥
