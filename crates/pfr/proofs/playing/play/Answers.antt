use Rattle.std.proofs.Common.{◌≡◌, ◌<◌, length, List, ap, ◌∙◌, arith, slice_index_or}
use Rattle.pfr_engine.specs.Accepting.{acceptance}
use Rattle.pfr_script.specs.declared.item.Item.{Item}
use Rattle.pfr_story.specs.Run.{Did}
use Rattle.pfr_story.proofs.RunLaws.{Reached-more, CanRun-more}
use Rattle.pfr.proofs.playing.play.Goals as goal

pub loop-k-preserved : goal.loop-k-preserved
loop-k-preserved c =
    let items = c.args.script.now.items in
    let tears = c.args.script.now.tears in
    let old = c.loop-k.platform.world in
    let new = c.do_item.new.platform.world in
    let i = c.get.result.now in
    let k = c.loop-k.k in
    let accepts = acceptance c.args.platform.now.engine in
    let inside : c.loop-k.k < length items = omega (arith, c.loop-k-test.true, c.len-k-end.ensures, ap (λ (xs : List Item). length xs) c.items-items.ensures.items) in
    let is : slice_index_or items k i ≡ i = grind (arith, c.get.ensures, c.items-items.ensures.items) in
    let did : Did accepts tears i old new = rw (← c.loop-k.invariant.engine) c.in_ok-do_item.ensures.ok in
    record {
      reached = Reached-more (Did accepts tears) items k i i c.args.platform.now.world old new inside is did c.loop-k.invariant.reached;
      can = CanRun-more accepts tears (length tears) items k i i old new inside is did c.loop-k.invariant.can;
      engine = c.do_item.ensures.engine ∙ c.loop-k.invariant.engine;
      texts = c.do_item.ensures.texts c.loop-k.invariant.texts;
    }
