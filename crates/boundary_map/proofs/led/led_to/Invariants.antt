use Rattle.std.proofs.Common.{◌≡◌, get_or, map}
use Rattle.boundary_map.specs.Sets.{firsts, led_point}
use Rattle.drawing.specs.Pieces.{piece_table}
use Rattle.obd_base.specs.Lists.{below}
use Rattle.boundary_map.proofs.led.led_to.Given as goal

-- the points of the arcs so far
abbrev pub invariant-loop-arc : goal.invariant-loop-arc
invariant-loop-arc l = l.x ≡ map (λ a. led_point l.diagram (piece_table l.diagram) (firsts l.regions l.set) (get_or l.y a 0) a) (below l.arc)
