use Rattle.std.proofs.Common.{◌≡◌, [], take}
use Rattle.page_surface.specs.Labels.{side_labels_of}
use Rattle.arc_basis.proofs.joining.page_polygons.Given as goal

-- the polygons so far
abbrev pub invariant-loop-polygon : goal.invariant-loop-polygon
invariant-loop-polygon l = l.polygons.items ≡ take l.polygon (side_labels_of [] l.page)
