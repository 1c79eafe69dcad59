use Rattle.std.proofs.Common.{◌≡◌, map}
use Rattle.obd_base.specs.Lists.{below}
use Rattle.page_surface.specs.Drawing.{points_on}
use Rattle.dehn_twist.proofs.counts.point_counts.Given as goal

-- the sides so far
abbrev pub invariant-loop-side : goal.invariant-loop-side
invariant-loop-side l = l.points.items ≡ map (points_on l.drawing.drawing) (below l.side)
