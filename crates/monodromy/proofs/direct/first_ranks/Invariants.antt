use Rattle.std.proofs.Common.{◌≡◌, length}
use Rattle.monodromy.proofs.direct.first_ranks.Given as goal

-- there is a rank for each side so far
abbrev pub invariant-loop-side : goal.invariant-loop-side
invariant-loop-side l = length l.ranks.items ≡ l.side
