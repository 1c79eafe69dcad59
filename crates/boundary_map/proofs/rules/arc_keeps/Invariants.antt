use Rattle.std.proofs.Common.{◌≡◌, true}
use Rattle.std.specs.List.{list_all}
use Rattle.boundary_map.specs.Sets.{firsts, point_keeps}
use Rattle.drawing.specs.Pieces.{piece_table}
use Rattle.obd_base.specs.Lists.{below}
use Rattle.boundary_map.proofs.rules.arc_keeps.Given as goal

-- the points so far keep it
abbrev pub invariant-loop-number : goal.invariant-loop-number
invariant-loop-number l = list_all (point_keeps l.diagram (piece_table l.diagram) (firsts l.regions l.set) l.fn.from l.fn.to l.fn.arc) (below l.number) ≡ true
