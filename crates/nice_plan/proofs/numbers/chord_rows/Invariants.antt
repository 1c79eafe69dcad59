use Rattle.std.proofs.Common.{length}
use Rattle.page_surface.specs.Drawing.{strand_exits}
use Rattle.nice_plan.specs.Counted.{IsEmpty}
use Rattle.nice_plan.proofs.numbers.chord_rows.Given as goal

-- the strands so far
abbrev pub invariant-loop-strand : goal.invariant-loop-strand
invariant-loop-strand l = IsEmpty l.strand (λ i. length (strand_exits l.drawing.drawing i)) l.rows.items
