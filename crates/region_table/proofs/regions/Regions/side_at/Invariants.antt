use Rattle.std.proofs.Common.{◌<◌, ◌≤◌, ◌-◌, get_or}
use Rattle.page_surface.specs.Polygon.{sides}
use Rattle.region_table.proofs.regions.Regions.side_at.Given as goal

-- the span isn't before the side
abbrev pub invariant-loop-self : goal.invariant-loop-self
invariant-loop-self l = record {
  inside : l.side < sides l.self.polygon;
  from : get_or l.self.starts l.side 0 ≤ l.span;
}

-- the sides that are left
abbrev pub decreases-loop-self : goal.decreases-loop-self
decreases-loop-self l = sides l.self.polygon - l.side
