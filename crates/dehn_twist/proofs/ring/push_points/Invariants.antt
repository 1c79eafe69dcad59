use Rattle.std.proofs.Common.{◌≡◌, ◌++◌, map}
use Rattle.obd_base.specs.Lists.{below}
use Rattle.page_surface.specs.Drawing.{exit}
use Rattle.dehn_twist.specs.Tables.{curve_point}
use Rattle.dehn_twist.proofs.ring.push_points.Given as goal

-- the points so far
abbrev pub invariant-loop-place : goal.invariant-loop-place
invariant-loop-place l = l.ring.items ≡ l.fn.ring.items ++ map (curve_point l.merged.drawing l.merged.curve) (map (exit l.side) (below l.place))
