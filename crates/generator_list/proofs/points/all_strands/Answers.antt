use Rattle.std.proofs.Common.{◌∙◌, ap}
use Rattle.generator_list.specs.Search.{arc_strands}
use Rattle.generator_list.proofs.StrandPoints.{map_next}
use Rattle.generator_list.proofs.points.all_strands.Goals as goal

pub loop-arc-preserved : goal.loop-arc-preserved
loop-arc-preserved c = map_next (arc_strands c.args.drawing.now.drawing) c.loop-arc.arc _ _ _ c.loop-arc.invariant (c.in_ok-arc_strands.ensures ∙ ap (arc_strands c.args.drawing.now.drawing) c.new.ensures) c.in_ok-push.ensures.ok
