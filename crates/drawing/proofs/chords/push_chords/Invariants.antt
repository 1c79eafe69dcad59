use Rattle.std.proofs.Common.{◌≡◌, ◌<◌, ◌≤◌, ◌++◌, drop}
use Rattle.page_surface.specs.Drawing.{cut_strand, end_of, points_on, strand_chords}
use Rattle.page_surface.specs.Polygon.{sides}
use Rattle.drawing.proofs.chords.push_chords.Given as goal

-- the chords so far, with those from here on, are all
abbrev pub invariant-loop-exit : goal.invariant-loop-exit
invariant-loop-exit l = record {
  from_side : l.from.side < sides l.layout.drawing.polygon;
  from_place : l.from.place ≤ points_on l.layout.drawing l.from.side;
  so_far : l.chords.items ++ cut_strand l.layout.drawing l.from (drop l.exit-index l.exit-items) (end_of l.layout.drawing l.first_side) ≡ l.fn.chords.items ++ strand_chords l.layout.drawing l.fn.strand;
}
