use Rattle.std.proofs.Common.{take}
use Rattle.page_surface.specs.Polygon.{sides}
use Rattle.drawing.specs.Counted.{IsFilled}
use Rattle.drawing.specs.Layout.{count_on}
use Rattle.drawing.proofs.counts.side_counts.Given as goal

-- the counts of the exits so far
abbrev pub invariant-loop-exit : goal.invariant-loop-exit
invariant-loop-exit l = IsFilled (count_on l.polygon (take l.exit-index l.exits)) (sides l.polygon) l.counts.items
