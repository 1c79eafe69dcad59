use Rattle.boundary_map.proofs.PartSets.{IsLeft}
use Rattle.boundary_map.proofs.sets.set_of.Given as goal

-- what is to be chosen of the pieces that are left
abbrev pub invariant-loop-piece : goal.invariant-loop-piece
invariant-loop-piece l = IsLeft l.pieces l.set l.fn.number l.piece-index l.rest l.half
