use Rattle.std.proofs.Common.{ap, List}
use Rattle.pfr_engine.specs.declared.row.Row.{Row}
use Rattle.pfr_machine.specs.Worlds.{PlatformState}
use Rattle.pfr.proofs.PlayedLemmas.{can_fresh, PlayedOf-from}
use Rattle.pfr.proofs.playing.attempt.Goals as goal

pub perform-requires-clause-can : goal.perform-requires-clause-can
perform-requires-clause-can c =
    rw (← c.script.view_is) (can_fresh _ c.in_ok-platform.platform.world c.args.wear c.args.loaded.bmc.items c.args.loaded.pch.items c.args.loaded.nv.items
    (ap (λ (s : PlatformState (List Row)). s.world) c.in_ok-platform.ensures) c.script.invariant.few c.script.invariant.known c.script.invariant.arms)

pub returns : goal.returns
returns c =
    PlayedOf-from c.args.wear c.args.loaded c.in_ok-platform.platform c.perform.result c.requires.sizes
    (rw (← c.script.view_is) (record { few = c.script.invariant.few; arms = c.script.invariant.arms; slots = c.script.invariant.slots })) c.in_ok-platform.ensures c.perform.ensures
