use Rattle.std.proofs.Common.{take}
use Rattle.drawing.specs.Counted.{IsFilled}
use Rattle.drawing.specs.Pieces.{span_count}
use Rattle.drawing.proofs.Hits.{hits_of}
use Rattle.drawing.proofs.places.hits.Given as goal

-- the points that the exits so far meet
abbrev pub invariant-loop-exit : goal.invariant-loop-exit
invariant-loop-exit l = IsFilled (hits_of l.layout.drawing (take l.exit-index l.exit-items)) (span_count l.layout.drawing) l.hits.items
