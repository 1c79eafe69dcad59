-- The polygon that joining leaves, and its labels.
use Rattle.std.specs.Prelude.{ℕ, ◌+◌, nat_eq, List, length, count_by}
use Rattle.std.specs.List.{flat_map}
use Rattle.page_surface.specs.declared.page.SideLabel.{SideLabel}
use Rattle.page_surface.specs.Joining.{Joined, polygon_of}
use Rattle.page_surface.specs.Polygon.{Polygon}

-- the sides of all polygons that are left, one after another
abbrev pub joined_sides : Joined → List SideLabel
joined_sides j = flat_map (λ polygon. polygon) j.polygons

-- the polygon of these sides
abbrev pub joined_polygon : Joined → Polygon
joined_polygon j = polygon_of (joined_sides j)

-- how many labels there are: one for each side that is a first occurrence, and the seams
abbrev pub label_count : Joined → ℕ
label_count j = count_by (λ s. nat_eq s.occurrence 0) (joined_sides j) + length j.seams
