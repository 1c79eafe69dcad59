use Rattle.std.proofs.Common.{◌≡◌, ◌<◌, ◌≤◌, ◌++◌, drop}
use Rattle.page_surface.specs.Drawing.{end_of, points_on}
use Rattle.page_surface.specs.Polygon.{sides}
use Rattle.dehn_twist.specs.Surgery.{merged_cut}
use Rattle.dehn_twist.specs.Tables.{merged_strand}
use Rattle.dehn_twist.proofs.chords.push_chords.Given as goal

-- the chords so far, with those from here on, are all
abbrev pub invariant-loop-exit : goal.invariant-loop-exit
invariant-loop-exit l = record {
  from_side : l.from.side < sides l.merged.drawing.polygon;
  from_place : l.from.place ≤ points_on l.merged.drawing l.from.side;
  so_far : l.chords.items ++ merged_cut l.merged.drawing l.merged.curve l.from (drop l.exit-index l.exit-items) (end_of l.merged.drawing l.first_side) ≡ l.fn.chords.items ++ merged_strand l.merged.drawing l.merged.curve l.fn.strand;
}
