use Rattle.std.proofs.Common.{◌≡◌, length, take, drop}
use Rattle.pfr_engine.specs.Accepting.{acceptance}
use Rattle.pfr_report.specs.Texts.{AllText}
use Rattle.pfr_story.specs.Run.{Did, Reached, CanRun}
use Rattle.pfr.proofs.playing.play.Given as goal

abbrev pub invariant-loop-k : goal.invariant-loop-k
invariant-loop-k l = record {
  reached : Reached (Did (acceptance l.initial.platform.engine) l.script.tears) (take l.k l.script.items) l.initial.platform.world l.platform.world;
  can : CanRun (length l.script.tears) (drop l.k l.script.items) l.platform.world;
  engine : l.platform.engine ≡ l.initial.platform.engine;
  texts : AllText l.platform.world.notes.list;
}
