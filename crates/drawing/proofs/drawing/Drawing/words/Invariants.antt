use Rattle.std.proofs.Common.{◌≡◌, map, take}
use Rattle.obd_base.specs.declared.points.Exit.{Exit}
use Rattle.drawing.proofs.drawing.Drawing.words.Given as goal

-- the words of the strands so far
abbrev pub invariant-loop-strand : goal.invariant-loop-strand
invariant-loop-strand l = l.words ≡ map (map (λ (e : Exit). e.side)) (take l.strand l.self.drawing.strands)
