-- How the points of each side lie to two spans, so that one comparison tells it of a point.
use Rattle.std.specs.Prelude.{◌≡◌, ℕ, ◌+◌, ◌-◌, ◌<◌, ◌^◌, ◌%◌, List, length, nat_lt, slice_index}
use Rattle.page_surface.specs.Drawing.{Drawing, entry, exit, points_on, spot}
use Rattle.page_surface.specs.Polygon.{sides}
use Rattle.drawing.specs.Pieces.{between}

-- a number for the exits of each side, and one for their entries: with the place of an exit added to the one, and taken from
-- the other, in 32 bits, it is below the count exactly where the exit, or the entry, is between the two spans
pub record IsWindow (d : Drawing) (s t : ℕ) (exits entries : List ℕ) (count : ℕ) : Type 0 where
  pub exits_size : length exits ≡ 16
  pub entries_size : length entries ≡ 16
  pub leaves : (k j : ℕ) → k < sides d.polygon → j < points_on d k → nat_lt ((slice_index exits k + j) % 2 ^ 32) count ≡ between s t (spot d (exit k j))
  pub enters : (k j : ℕ) → k < sides d.polygon → j < points_on d k → nat_lt ((slice_index entries k + (2 ^ 32 - j)) % 2 ^ 32) count ≡ between s t (spot d (entry d (exit k j)))
