use Rattle.std.proofs.Common.{◌≡◌, false, get_or, map, take}
use Rattle.std.specs.List.{list_any}
use Rattle.page_surface.proofs.reached.polygons_with_mark.Given as goal

-- the polygons so far are marked
abbrev pub invariant-loop-polygon : goal.invariant-loop-polygon
invariant-loop-polygon l = l.marked.items ≡ map (list_any (λ s. get_or l.labels s.label false)) (take l.polygon-index l.polygons)
