use Rattle.std.proofs.Common.{◌≡◌, [], ◌++◌, take, get_or}
use Rattle.page_surface.specs.Labels.{side_labels_of}
use Rattle.curve_paths.proofs.chords.push_sides.Given as goal

-- the sides so far, after those before
abbrev pub invariant-loop-side : goal.invariant-loop-side
invariant-loop-side l = l.sides.items ≡ l.initial.sides.items ++ take l.side (get_or (side_labels_of [] l.page) l.polygon [])
