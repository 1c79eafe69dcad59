use Rattle.std.proofs.Common.{◌≡◌, take}
use Rattle.monodromy.proofs.compare.are_same.Given as goal

-- the letters so far are the same
abbrev pub invariant-loop-at : goal.invariant-loop-at
invariant-loop-at l = take l.at l.word ≡ take l.at l.wanted
