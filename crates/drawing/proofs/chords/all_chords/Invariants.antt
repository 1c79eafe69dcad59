use Rattle.std.proofs.Common.{◌≡◌}
use Rattle.std.specs.List.{flat_map}
use Rattle.obd_base.specs.Lists.{below}
use Rattle.page_surface.specs.Drawing.{strand_chords}
use Rattle.drawing.proofs.chords.all_chords.Given as goal

-- the chords of the strands so far
abbrev pub invariant-loop-strand : goal.invariant-loop-strand
invariant-loop-strand l = l.all.items ≡ flat_map (strand_chords l.layout.drawing) (below l.strand)
