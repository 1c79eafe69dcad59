use Rattle.std.proofs.Common.{◌≡◌, true, get_or}
use Rattle.std.specs.List.{list_all}
use Rattle.boundary_map.specs.Sets.{arc_keeps, firsts}
use Rattle.drawing.specs.Pieces.{piece_table}
use Rattle.obd_base.specs.Lists.{below}
use Rattle.boundary_map.proofs.rules.all_keep.Given as goal

-- the points of the arcs so far keep it
abbrev pub invariant-loop-arc : goal.invariant-loop-arc
invariant-loop-arc l = list_all (λ a. arc_keeps l.diagram (piece_table l.diagram) (firsts l.regions l.set) (get_or l.y a 0) (get_or l.x a 0) a) (below l.arc) ≡ true
