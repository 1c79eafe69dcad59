use Rattle.boundary_map.proofs.Loops.{IsMoved}
use Rattle.boundary_map.proofs.rules.moved.Given as goal

-- those on the arcs so far
abbrev pub invariant-loop-arc : goal.invariant-loop-arc
invariant-loop-arc l = IsMoved l.y l.x l.arc l.moved
