use Rattle.std.proofs.Common.{◌≡◌, map, take}
use Rattle.monodromy.proofs.direct.exits_of.Given as goal

-- the sides so far are those of the word
abbrev pub invariant-loop-at : goal.invariant-loop-at
invariant-loop-at l = map (λ e. e.side) l.exits.items ≡ take l.at l.word
