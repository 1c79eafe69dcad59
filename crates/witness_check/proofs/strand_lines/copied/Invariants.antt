use Rattle.std.proofs.Common.{◌≡◌, take}
use Rattle.drawing.specs.Room.{rows}
use Rattle.witness_check.proofs.strand_lines.copied.Given as goal

-- the strands so far
abbrev pub invariant-loop-strand : goal.invariant-loop-strand
invariant-loop-strand l = rows l.copy.items ≡ take l.strand-index l.strands
