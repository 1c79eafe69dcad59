use Rattle.arc_basis.specs.SeamTables.{IsJoining}
use Rattle.arc_basis.proofs.joining.join_polygons.Given as goal

-- the polygons and the seams after the labels so far
abbrev pub invariant-loop-number : goal.invariant-loop-number
invariant-loop-number l = IsJoining l.page l.number l.polygons.items l.seams
