use Rattle.std.proofs.Common.{◌≡◌, map}
use Rattle.obd_base.specs.Lists.{below}
use Rattle.curve_paths.specs.Curves.{curve_points}
use Rattle.dehn_twist.proofs.counts.curve_counts.Given as goal

-- the sides so far
abbrev pub invariant-loop-side : goal.invariant-loop-side
invariant-loop-side l = l.counts.items ≡ map (curve_points l.polygon l.exits) (below l.side)
