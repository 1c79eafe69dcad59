use Rattle.std.proofs.Common.{◌≡◌, [], take, get_or}
use Rattle.page_surface.specs.Labels.{side_labels_of}
use Rattle.arc_basis.proofs.sides.polygon_sides.Given as goal

-- the sides so far
abbrev pub invariant-loop-side : goal.invariant-loop-side
invariant-loop-side l = l.sides ≡ take l.side (get_or (side_labels_of [] l.page) l.polygon [])
