use Rattle.std.proofs.Common.{◌≡◌, ◌<◌, ◌≤◌, ◌++◌, drop}
use Rattle.obd_base.specs.Lists.{Mem}
use Rattle.page_surface.specs.Drawing.{Chord, end_of, points_on}
use Rattle.page_surface.specs.Polygon.{first_side, sides}
use Rattle.dehn_twist.specs.Surgery.{meeting_count, merged_chords, merged_cut, surgery_strand}
use Rattle.dehn_twist.specs.Tables.{surgery_row}
use Rattle.dehn_twist.proofs.surgery.put_strand.Given as goal

-- the strand so far, with what comes from here on, is all; the chords from here on are chords of the drawing
abbrev pub invariant-loop-exit : goal.invariant-loop-exit
invariant-loop-exit l = record {
  from_side : l.from.side < sides l.meetings.drawing.polygon;
  from_place : l.from.place ≤ points_on l.meetings.drawing l.from.side;
  listed : (k : Chord) → Mem k (merged_cut l.meetings.drawing l.meetings.curve l.from (drop l.exit-index l.exit-items) (end_of l.meetings.drawing (first_side l.meetings.drawing.polygon l.fn.strand))) → Mem k (merged_chords l.meetings.drawing l.meetings.curve);
  so_far : l.row.items ++ surgery_strand l.meetings.drawing l.meetings.curve l.sign (meeting_count l.meetings.drawing l.meetings.curve) l.from (drop l.exit-index l.exit-items) (end_of l.meetings.drawing (first_side l.meetings.drawing.polygon l.fn.strand)) ≡ l.fn.row.items ++ surgery_row l.meetings.drawing l.meetings.curve l.sign l.fn.strand;
}
