use Rattle.std.proofs.Common.{take}
use Rattle.handle_slide.proofs.PointTables.{AreCounted}
use Rattle.handle_slide.proofs.points.points_on_sides.Given as goal

-- the points of the exits so far
abbrev pub invariant-loop-exit : goal.invariant-loop-exit
invariant-loop-exit l = AreCounted l.polygon (take l.exit-index l.exits) l.counts.items
