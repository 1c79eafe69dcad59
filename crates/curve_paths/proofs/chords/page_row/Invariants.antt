use Rattle.std.proofs.Common.{◌≡◌, [], take, flat_map}
use Rattle.page_surface.specs.Labels.{side_labels_of}
use Rattle.curve_paths.proofs.chords.page_row.Given as goal

-- the sides of the polygons so far
abbrev pub invariant-loop-polygon : goal.invariant-loop-polygon
invariant-loop-polygon l = l.sides.items ≡ flat_map (λ polygon. polygon) (take l.polygon (side_labels_of [] l.page))
