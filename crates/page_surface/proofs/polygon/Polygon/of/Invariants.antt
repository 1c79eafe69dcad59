use Rattle.page_surface.proofs.Filled.{Filled}
use Rattle.page_surface.proofs.polygon.Polygon.of.Given as goal

abbrev pub invariant-loop-side : goal.invariant-loop-side
invariant-loop-side l = Filled l.pairs.items l.arcs.items l.first_sides.items l.side
