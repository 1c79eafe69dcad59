use Rattle.std.proofs.Common.{◌≡◌, map}
use Rattle.obd_base.specs.Lists.{below}
use Rattle.drawing.specs.Points.{strand_of}
use Rattle.generator_list.proofs.points.arc_strands.Given as goal

-- the strands of the points so far
abbrev pub invariant-loop-place : goal.invariant-loop-place
invariant-loop-place l = l.strands ≡ map (strand_of l.drawing.drawing l.arc) (below l.place)
