use Rattle.std.proofs.Common.{◌≡◌, take}
use Rattle.curve_paths.proofs.copies.page_names.Given as goal

-- the polygons so far
abbrev pub invariant-loop-polygon : goal.invariant-loop-polygon
invariant-loop-polygon l = l.names ≡ take l.polygon l.page
