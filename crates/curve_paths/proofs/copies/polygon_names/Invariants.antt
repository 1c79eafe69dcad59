use Rattle.std.proofs.Common.{◌≡◌, [], take, get_or}
use Rattle.curve_paths.proofs.copies.polygon_names.Given as goal

-- the labels so far
abbrev pub invariant-loop-side : goal.invariant-loop-side
invariant-loop-side l = l.names ≡ take l.side (get_or l.page l.polygon [])
