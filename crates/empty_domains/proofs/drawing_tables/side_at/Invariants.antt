use Rattle.std.proofs.Common.{◌<◌, ◌≤◌, ◌-◌, get_or}
use Rattle.page_surface.specs.Polygon.{sides}
use Rattle.empty_domains.proofs.drawing_tables.side_at.Given as goal

-- the number isn't before the side
abbrev pub invariant-loop-side : goal.invariant-loop-side
invariant-loop-side l = record {
  inside : l.side < sides l.diagram.polygon;
  from : get_or l.starts l.side 0 ≤ l.fn.at;
}

-- the sides that are left
abbrev pub decreases-loop-side : goal.decreases-loop-side
decreases-loop-side l = sides l.diagram.polygon - l.side
