use Rattle.curve_paths.proofs.Numbers.{AreCounts}
use Rattle.std.proofs.Common.{take}
use Rattle.curve_paths.proofs.places.point_counts.Given as goal

-- the points of each label so far
abbrev pub invariant-loop-crossing : goal.invariant-loop-crossing
invariant-loop-crossing l = AreCounts (take l.crossing-index l.crossings) l.label_count l.counts.items
