use Rattle.std.proofs.Common.{◌≡◌, ◌≤◌, ◌*◌, take}
use Rattle.curve_paths.specs.Curves.{curve_points}
use Rattle.tight_curves.proofs.turns.points_on.Given as goal

-- the points of the exits so far are counted, at most two an exit
abbrev pub invariant-loop-exit : goal.invariant-loop-exit
invariant-loop-exit l = (l.count ≡ curve_points l.polygon (take l.exit-index l.exits) l.side) × (l.count ≤ 2 * l.exit-index)
