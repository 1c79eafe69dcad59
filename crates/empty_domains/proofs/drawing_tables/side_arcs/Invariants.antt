use Rattle.std.proofs.Common.{◌≡◌, map}
use Rattle.obd_base.specs.Lists.{below}
use Rattle.page_surface.specs.Polygon.{arc}
use Rattle.empty_domains.proofs.drawing_tables.side_arcs.Given as goal

-- those of the sides so far
abbrev pub invariant-loop-side : goal.invariant-loop-side
invariant-loop-side l = l.arcs.items ≡ map (arc l.polygon) (below l.side)
