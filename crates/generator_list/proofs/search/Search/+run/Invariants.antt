use Rattle.std.proofs.Common.{◌+◌, ◌-◌, drop, length}
use Rattle.generator_list.proofs.Searched.{IsSearched}
use Rattle.generator_list.proofs.search.Search.+run.Given as goal

abbrev pub decreases-run : goal.decreases-run
decreases-run l = length l.self.now.arcs - length l.begun.now

-- the points that are left
abbrev pub decreases-loop-point : goal.decreases-loop-point
decreases-loop-point l = length l.strands - l.point

-- the points before this one are searched
abbrev pub invariant-loop-point : goal.invariant-loop-point
invariant-loop-point l = IsSearched (drop (length l.begun + 1) l.self.arcs) l.used l.begun l.strands l.self.limit l.fn.found l.found l.point l.cursors
