use Rattle.drawing.proofs.StrandTables.{IsSetBelow}
use Rattle.drawing.proofs.strands.set_strands.Given as goal

-- the strands so far are set
abbrev pub invariant-loop-strand : goal.invariant-loop-strand
invariant-loop-strand l = IsSetBelow l.layout.drawing l.strand l.table
