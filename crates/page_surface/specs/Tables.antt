-- What the tables of a polygon hold.
use Rattle.std.specs.Prelude.{◌≡◌, ℕ, ◌≤◌, List, length, filter}
use Rattle.page_surface.specs.Polygon.{Pairs, is_first, paired}
use Rattle.obd_base.specs.Lists.{below}

-- the tables are those of 2 to 16 paired sides: their arcs, and the first side of each arc
pub record IsTableOf (partners arcs first_sides : List ℕ) : Type 0 where
  pub least : 2 ≤ length partners
  pub most : length partners ≤ 16
  pub pairs : Pairs (paired partners)
  pub arcs_of : arcs ≡ (paired partners).arcs
  pub first_sides_of : first_sides ≡ filter (is_first partners) (below (length partners))
