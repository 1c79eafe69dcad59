use Rattle.std.proofs.Common.{◌≡◌, map}
use Rattle.page_surface.specs.Polygon.{arc}
use Rattle.obd_base.specs.Lists.{below}
use Rattle.obd_cli.proofs.surface.side_arcs.Given as goal

-- the arcs of the sides so far
abbrev pub invariant-loop-side : goal.invariant-loop-side
invariant-loop-side l = l.arcs ≡ map (arc l.polygon) (below l.side)
