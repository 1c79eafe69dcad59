use Rattle.std.proofs.Common.{◌≡◌, map}
use Rattle.obd_base.specs.Lists.{below}
use Rattle.generator_list.specs.Search.{arc_strands}
use Rattle.generator_list.proofs.points.all_strands.Given as goal

-- the strands of the arcs so far
abbrev pub invariant-loop-arc : goal.invariant-loop-arc
invariant-loop-arc l = l.strands ≡ map (arc_strands l.drawing.drawing) (below l.arc)
