use Rattle.std.proofs.Common.{◌≡◌, ◌+◌, length}
use Rattle.monodromy.proofs.ways.put_ways.Given as goal

-- there is a way more for each letter so far
abbrev pub invariant-loop-at : goal.invariant-loop-at
invariant-loop-at l = length l.ways.items ≡ length l.initial.ways.items + l.at
