use Rattle.std.proofs.Common.{◌≡◌, false, take}
use Rattle.std.specs.List.{list_any}
use Rattle.page_surface.specs.Drawing.{strand_chords}
use Rattle.drawing.specs.Fingers.{chord_at}
use Rattle.drawing.specs.Pieces.{between, parts_from}
use Rattle.drawing.proofs.pieces.strand_parts.Given as goal

-- no chord so far parts the spans, and on which side the next one begins
abbrev pub invariant-loop-chord : goal.invariant-loop-chord
invariant-loop-chord l = record {
  begins : l.inside ≡ between l.window.start l.window.segment (chord_at l.layout.drawing l.fn.strand l.chord).from;
  none : list_any (parts_from l.window.start l.window.segment) (take l.chord (strand_chords l.layout.drawing l.fn.strand)) ≡ false;
}
