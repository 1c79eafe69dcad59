use Rattle.std.proofs.Common.{take}
use Rattle.boundary_map.specs.Odds.{IsOdds}
use Rattle.boundary_map.proofs.walked.odd_ones.Given as goal

-- what stands an odd number of times among the numbers so far
abbrev pub invariant-loop-number : goal.invariant-loop-number
invariant-loop-number l = IsOdds (take l.number-index l.sorted) l.odds.items
