-- Labels and polygons, marked and counted by the sides that have them.
use Rattle.std.specs.Prelude.{ℕ, zero, suc, Bool, true, false, nat_eq, ◌&&◌, ◌||◌, List, [], ◌∷◌, length, map, replicate, slice_set, count_by}
use Rattle.std.specs.List.{list_any, flat_map}
use Rattle.obd_base.specs.Lists.{below}
use Rattle.page_surface.specs.declared.page.SideLabel.{SideLabel}

-- the side has the label
abbrev pub is_of : ℕ → SideLabel → Bool
is_of label s = nat_eq label s.label

-- for each of so many labels, how many of the sides have it
abbrev pub side_counts : ℕ → List (List SideLabel) → List ℕ
side_counts label_count polygons = map (λ label. count_by (is_of label) (flat_map (λ polygon. polygon) polygons)) (below label_count)

-- one of the marked polygons has a side of the label
abbrev pub is_marked : List (List SideLabel) → List Bool → ℕ → Bool
is_marked [] marks label = false
is_marked (polygon ∷ polygons) [] label = false
is_marked (polygon ∷ polygons) (mark ∷ marks) label = (mark && list_any (is_of label) polygon) || is_marked polygons marks label

-- the polygons with a side whose label one of the marked polygons has
abbrev pub marked_next : List (List SideLabel) → List Bool → List Bool
marked_next polygons marks = map (list_any (λ s. is_marked polygons marks s.label)) polygons

-- the polygons that are reached from polygon 0 through at most so many labels, one after another
abbrev pub marked_within : List (List SideLabel) → ℕ → List Bool
marked_within polygons zero = slice_set (replicate (length polygons) false) 0 true
marked_within polygons (suc steps) = marked_next polygons (marked_within polygons steps)
