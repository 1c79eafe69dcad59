use Rattle.std.proofs.Common.{◌≡◌, map}
use Rattle.drawing.specs.Round.{side_of}
use Rattle.obd_base.specs.Lists.{below}
use Rattle.empty_domains.proofs.drawing_tables.sides_of.Given as goal

-- the sides of the numbers so far
abbrev pub invariant-loop-at : goal.invariant-loop-at
invariant-loop-at l = l.side.items ≡ map (side_of l.diagram) (below l.at)
