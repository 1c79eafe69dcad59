use Rattle.std.proofs.Common.{◌≡◌, length}
use Rattle.drawing.proofs.turn_links.room.Given as goal

-- room for the strands so far
abbrev pub invariant-loop-exits : goal.invariant-loop-exits
invariant-loop-exits l = length l.ways.items ≡ l.exits-index
