use Rattle.std.proofs.Common.{◌≡◌, map}
use Rattle.std.specs.List.{flat_map}
use Rattle.obd_base.specs.Lists.{below}
use Rattle.page_surface.specs.Drawing.{strand_chords}
use Rattle.region_table.proofs.chords.read_chords.Given as goal

-- the chords of the strands so far
abbrev pub invariant-loop-strand : goal.invariant-loop-strand
invariant-loop-strand l = record {
  chords : l.all.items ≡ flat_map (strand_chords l.drawing.drawing) (below l.strand);
  room : l.begins.room ≡ 0;
  begins : l.begins.lists ≡ map (λ i. map (λ c. c.from) (strand_chords l.drawing.drawing i)) (below l.strand);
}
