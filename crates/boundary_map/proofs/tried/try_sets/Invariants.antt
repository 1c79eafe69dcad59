use Rattle.std.proofs.Common.{map}
use Rattle.boundary_map.specs.Sets.{chosen, firsts}
use Rattle.boundary_map.specs.Tried.{AreOdd}
use Rattle.obd_base.specs.Lists.{below}
use Rattle.boundary_map.proofs.tried.try_sets.Given as goal

-- the parities of the sets so far
abbrev pub invariant-loop-number : goal.invariant-loop-number
invariant-loop-number l = AreOdd l.diagram l.y l.generators (map (chosen (firsts l.regions l.regions.inner)) (below l.number)) l.odd.items
