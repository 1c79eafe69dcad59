use Rattle.std.proofs.Common.{◌≡◌, [], ◌∷◌, map}
use Rattle.obd_base.specs.Lists.{below}
use Rattle.page_surface.specs.Drawing.{exit}
use Rattle.page_surface.specs.Polygon.{second_side}
use Rattle.drawing.specs.Room.{rows}
use Rattle.drawing.proofs.drawing.Drawing.identity.Given as goal

-- the strands of the arcs so far
abbrev pub invariant-loop-arc : goal.invariant-loop-arc
invariant-loop-arc l = rows l.strands.items ≡ map (λ i. exit (second_side l.polygon i) 0 ∷ []) (below l.arc)
