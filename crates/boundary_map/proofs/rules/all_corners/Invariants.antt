use Rattle.boundary_map.proofs.Corners.{AreAdded}
use Rattle.boundary_map.proofs.rules.all_corners.Given as goal

-- those of the pieces so far
abbrev pub invariant-loop-piece : goal.invariant-loop-piece
invariant-loop-piece l = AreAdded l.regions l.set l.piece-index l.sum
