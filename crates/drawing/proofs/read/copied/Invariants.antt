use Rattle.std.proofs.Common.{◌≡◌, map, take}
use Rattle.drawing.specs.Room.{rows}
use Rattle.drawing.proofs.read.copied.Given as goal

-- the strands so far
abbrev pub invariant-loop-strand : goal.invariant-loop-strand
invariant-loop-strand l = rows l.copy.items ≡ map (λ strand. strand.items) (take l.strand-index l.strands)
