use Rattle.std.proofs.Common.{◌≡◌, map}
use Rattle.drawing.specs.Round.{opposite}
use Rattle.obd_base.specs.Lists.{below}
use Rattle.empty_domains.proofs.drawing_tables.opposites.Given as goal

-- the names of the numbers so far
abbrev pub invariant-loop-at : goal.invariant-loop-at
invariant-loop-at l = l.found.items ≡ map (opposite l.diagram) (below l.at)
