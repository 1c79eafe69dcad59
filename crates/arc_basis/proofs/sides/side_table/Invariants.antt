use Rattle.arc_basis.proofs.Tables.{IsTableSoFar}
use Rattle.arc_basis.proofs.sides.side_table.Given as goal

-- the table of the sides so far
abbrev pub invariant-loop-number : goal.invariant-loop-number
invariant-loop-number l = IsTableSoFar l.sides l.number l.occurrence l.label_count l.table.items
