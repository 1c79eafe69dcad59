-- A curve that is carried over a slide: the tables by which its points are found, and the points of the two sides in a row.
use Rattle.std.specs.Prelude.{◌≡◌, ℕ, ◌+◌, ◌<◌, ◌≤◌, ◌⊎◌, Bool, true, cond, nat_eq, not, List, ◌++◌, map, length, take, count_by, slice_set, if◌then◌else◌}
use Rattle.std.specs.List.{list_any}
use Rattle.obd_base.specs.Lists.{below}
use Rattle.obd_base.specs.declared.points.Exit.{Exit}
use Rattle.page_surface.specs.Drawing.{exit, is_at}
use Rattle.page_surface.specs.Polygon.{IsPolygon, Polygon, sides}
use Rattle.curve_paths.specs.Curves.{IsCurve, curve_entry, curve_points, exit_at, previous}
use Rattle.handle_slide.specs.Refused.{IsSelfSlide}
use Rattle.handle_slide.specs.Slide.{inside_ends, is_inside, new_number, side_after}

-- a polygon, the side that is slid, and the exits of a curve
pub record Carried : Type 0 where
  pub polygon : Polygon
  pub side : ℕ
  pub exits : List Exit

-- the side can be slid, and the exits are a curve on the polygon
pub record IsSliding (c : Carried) : Type 0 where
  pub valid : IsPolygon c.polygon
  pub side : c.side < sides c.polygon
  pub slides : IsSelfSlide c.polygon c.side → ⊥
  pub curve : IsCurve c.polygon c.exits
  pub few : length c.exits ≤ 32

-- so it is, and the tables hold the new numbers of the sides and the curve's points on each side
pub record IsCarried (c : Carried) (numbers counts : List ℕ) : Type 0 where
  pub sliding : IsSliding c
  pub numbers_are : numbers ≡ map (new_number c.polygon c.side) (below (sides c.polygon))
  pub counts_are : counts ≡ map (curve_points c.polygon c.exits) (below (sides c.polygon))

-- the points of the side that is slid, and then those of the next side, in order
abbrev pub two_rows : Carried → List Exit
two_rows c =
    map (exit c.side) (below (curve_points c.polygon c.exits c.side))
    ++ map (exit (side_after c.polygon c.side)) (below (curve_points c.polygon c.exits (side_after c.polygon c.side)))

-- a point of the two sides
pub record IsOnTwo (c : Carried) (q : Exit) : Type 0 where
  pub on_two : (q.side ≡ c.side) ⊎ (q.side ≡ side_after c.polygon c.side)
  pub in_range : q.place < curve_points c.polygon c.exits q.side

-- the number of such a point in the row
abbrev pub row_number : Carried → Exit → ℕ
row_number c q = cond (nat_eq q.side c.side) q.place (curve_points c.polygon c.exits c.side + q.place)

-- a point is one of some ends
abbrev pub is_among : List Exit → Exit → Bool
is_among ends q = list_any (λ e. is_at e q.side q.place) ends

-- which of the points in the row are ends of chords that run between the two sides
abbrev pub inside_marks : Carried → List Bool
inside_marks c = map (is_among (inside_ends c.polygon c.side c.exits)) (two_rows c)

-- for each number up to the number of points, how many of the first points in the row stay
abbrev pub staying_of : List Bool → List ℕ
staying_of marks = map (λ n. count_by not (take n marks)) (below (length marks + 1))

-- marks in the row, with those at the ends of a chord that runs between the two sides
abbrev pub marked : Carried → ℕ → List Bool → List Bool
marked c at marks =
    let ends = λ (i : ℕ). curve_entry c.polygon c.exits (exit_at c.exits (previous (length c.exits) i)) in
    if is_inside c.polygon c.side c.exits at
    then slice_set (slice_set marks (row_number c (ends at)) true) (row_number c (exit_at c.exits at)) true
    else marks
