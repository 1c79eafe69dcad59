use Rattle.std.proofs.Common.{◌≡◌, ◌++◌, drop, map, take}
use Rattle.drawing.specs.Room.{rows}
use Rattle.drawing.specs.ThinTables.{thinned_by}
use Rattle.drawing.proofs.thinning.thin_strands.Given as goal

-- the strands so far, and the others as they were
abbrev pub invariant-loop-strand : goal.invariant-loop-strand
invariant-loop-strand l = rows l.strands ≡ map (thinned_by l.offsets l.gone l.places) (take l.strand (rows l.fn.strands)) ++ drop l.strand (rows l.fn.strands)
