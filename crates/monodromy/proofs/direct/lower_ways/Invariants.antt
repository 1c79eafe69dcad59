use Rattle.std.proofs.Common.{◌≤◌}
use Rattle.monodromy.proofs.direct.lower_ways.Given as goal

-- there are no more than the ways so far
abbrev pub invariant-loop-way : goal.invariant-loop-way
invariant-loop-way l = l.count ≤ l.way-index
