-- A drawing with its table, of which the distances are fresh.
use Rattle.std.specs.Prelude.{◌≡◌, ℕ, ◌<◌, ◌≤◌, ◌^◌, Bool, false, Option, Some, None, cond, nat_eq, nat_le, nat_lt, not, ◌&&◌, ◌||◌, length, slice_index}
use Rattle.obd_base.specs.declared.points.Exit.{Exit}
use Rattle.page_surface.specs.Drawing.{Drawing, IsEmbedded, all_exits, points_on, strand_exits}
use Rattle.page_surface.specs.Polygon.{arc_count, sides}
use Rattle.drawing.specs.Pieces.{segments_in}
use Rattle.nice_plan.specs.declared.chord_name.ChordName.{ChordName}
use Rattle.nice_plan.specs.Path.{before_door}
use Rattle.region_table.specs.Table.{HasDistances, IsTableOf, Table, region}

-- a drawing and a table
pub record Measured : Type 0 where
  pub drawing : Drawing
  pub table : Table

-- the table is that of a small drawing
pub record IsMeasured (d : Drawing) (t : Table) : Type 0 where
  pub embedded : IsEmbedded d
  pub few_sides : sides d.polygon ≤ 16
  pub few : length (all_exits d) < 2 ^ 28
  pub table : IsTableOf d t
  pub distances : HasDistances d t

-- a piece that isn't base, by its name
pub record IsInner (m : Measured) (p : ℕ) : Type 0 where
  pub listed : p < length m.table.regions
  pub inner : (region m.table p).base ≡ false

-- its first segment
abbrev pub home : Measured → ℕ → ℕ
home m p = (region m.table p).first

-- a segment of it, by its number counterclockwise from the first
abbrev pub segment_at : Measured → ℕ → ℕ → ℕ
segment_at m p i = slice_index (segments_in m.drawing (home m p)) i

-- the side and the segment of it are there
pub record IsOn (d : Drawing) (e : Exit) : Type 0 where
  pub side : e.side < sides d.polygon
  pub place : e.place ≤ points_on d e.side

-- the strand and the chord of it are there
pub record IsChordOn (d : Drawing) (c : ChordName) : Type 0 where
  pub strand : c.strand < arc_count d.polygon
  pub chord : c.chord ≤ length (strand_exits d c.strand)

-- a path of a burst from a piece at distance `far` stops in a piece
abbrev pub stops_at : Measured → ℕ → ℕ → Bool
stops_at m far p = (region m.table p).base || (nat_eq (region m.table p).size 1 || nat_lt (region m.table p).distance far)

-- a path that enters a piece by a segment goes on by the next one
abbrev pub goes_on : Measured → ℕ → ℕ → Bool
goes_on m p i = nat_eq (region m.table p).size 2 || not (nat_eq (before_door m.drawing (home m p)) (segment_at m p i))

-- a segment comes before another by its side, and on one side by its number
abbrev pub comes_first : Exit → Exit → Bool
comes_first e f = nat_lt e.side f.side || (nat_eq e.side f.side && nat_lt e.place f.place)

-- a bad piece goes before another where it is farther, or as far and its first segment comes first
abbrev pub goes_before : Measured → ℕ → ℕ → Bool
goes_before m p q =
    let far = (region m.table p).distance in
    let other = (region m.table q).distance in
    nat_lt other far || (nat_eq other far && nat_lt (home m p) (home m q))

-- what is chosen of one piece more: the piece, where it is bad and goes before the one that was chosen so far
abbrev pub better : Measured → Option ℕ → ℕ → Option ℕ
better m None p = cond (nat_le (region m.table p).size 2) None (Some p)
better m (Some best) p = cond (nat_le (region m.table p).size 2 || not (goes_before m p best)) (Some best) (Some p)
