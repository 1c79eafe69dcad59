-- A written drawing, and where its sides begin in the place order.
use Rattle.std.specs.Prelude.{◌≡◌, ℕ, suc, ◌+◌, ◌<◌, ◌≤◌, ◌^◌, true, nat_eq, nat_lt, List, map, length, count_by}
use Rattle.std.specs.List.{list_all}
use Rattle.obd_base.specs.declared.points.Exit.{Exit}
use Rattle.obd_base.specs.Lists.{below}
use Rattle.page_surface.specs.Drawing.{Drawing, all_exits, offset}
use Rattle.page_surface.specs.Polygon.{IsPolygon, Polygon, arc_count, partner, sides}

-- a polygon and the exits of each strand
abbrev pub drawn : Polygon → List (List Exit) → Drawing
drawn p strands = record { polygon = p; strands = strands }

-- a polygon of at most 16 sides, a strand for each arc, and exits on its sides, fewer than 2^28
pub record IsWritten (d : Drawing) : Type 0 where
  pub polygon : IsPolygon d.polygon
  pub few_sides : sides d.polygon ≤ 16
  pub strand_count : length d.strands ≡ arc_count d.polygon
  pub on_sides : list_all (λ e. nat_lt e.side (sides d.polygon)) (all_exits d) ≡ true
  pub few : length (all_exits d) < 2 ^ 28

-- how many of some exits are on a side, and how many of their entries
abbrev pub count_on : Polygon → List Exit → ℕ → ℕ
count_on p exits k = count_by (λ e. nat_eq e.side k) exits + count_by (λ e. nat_eq (partner p e.side) k) exits

-- where each side begins, and where the last one ends
abbrev pub offsets_of : Drawing → List ℕ
offsets_of d = map (offset d) (below (suc (sides d.polygon)))

-- a written drawing with the table of these numbers
pub record IsLaidOut (d : Drawing) (offsets : List ℕ) : Type 0 where
  pub written : IsWritten d
  pub offsets_are : offsets ≡ offsets_of d
