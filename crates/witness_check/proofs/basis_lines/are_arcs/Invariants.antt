use Rattle.std.proofs.Common.{eqb}
use Rattle.witness_check.specs.OpenBook.{arcs}
use Rattle.witness_check.proofs.SameLists.{Alike}
use Rattle.witness_check.proofs.basis_lines.are_arcs.Given as goal

-- the arcs before this one are those of the sides
abbrev pub invariant-loop-side : goal.invariant-loop-side
invariant-loop-side l = Alike eqb l.basis (arcs l.polygon) l.side
