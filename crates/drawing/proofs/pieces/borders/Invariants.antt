use Rattle.std.proofs.Common.{◌≡◌, false}
use Rattle.std.specs.List.{flat_map, list_any}
use Rattle.obd_base.specs.Lists.{below}
use Rattle.page_surface.specs.Drawing.{strand_chords}
use Rattle.drawing.specs.Pieces.{parts_from}
use Rattle.drawing.proofs.pieces.borders.Given as goal

-- no chord of the strands so far parts the two
abbrev pub invariant-loop-strand : goal.invariant-loop-strand
invariant-loop-strand l = list_any (parts_from l.start l.segment) (flat_map (strand_chords l.layout.drawing) (below l.strand)) ≡ false
