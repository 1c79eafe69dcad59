use Rattle.std.proofs.Common.{◌≡◌, ◌<◌, ◌≤◌, ◌++◌, drop}
use Rattle.page_surface.specs.Drawing.{cut_strand, end_of, points_on, strand_chords}
use Rattle.page_surface.specs.Polygon.{sides}
use Rattle.region_table.proofs.chords.strand_chords.Given as goal

-- the chords so far, with those from here on, are all
abbrev pub invariant-loop-exit : goal.invariant-loop-exit
invariant-loop-exit l = record {
  from_side : l.from.side < sides l.drawing.drawing.polygon;
  from_place : l.from.place ≤ points_on l.drawing.drawing l.from.side;
  so_far : l.chords.items ++ cut_strand l.drawing.drawing l.from (drop l.exit-index l.exit-items) (end_of l.drawing.drawing l.first_side) ≡ strand_chords l.drawing.drawing l.fn.strand;
}
