-- Joining several polygons into one, and the polygon with paired sides that is left.
use Rattle.std.specs.Prelude.{ℕ, ◌-◌, Bool, true, false, nat_eq, ◌&&◌, not, List, [], ◌∷◌, ◌++◌, map, length, filter, if◌then◌else◌}
use Rattle.std.specs.List.{list_any, flat_map, position_or_len, before_first, after_first}
use Rattle.page_surface.specs.declared.page.SideLabel.{SideLabel}
use Rattle.page_surface.specs.Labels.{Label, labels_of, side_labels_of}
use Rattle.page_surface.specs.Polygon.{Polygon, paired}
use Rattle.obd_base.specs.Lists.{below}

-- a side by its label and its occurrence
abbrev pub side : ℕ → ℕ → SideLabel
side label occurrence = record { label = label; occurrence = occurrence }

abbrev pub is_side : SideLabel → SideLabel → Bool
is_side s t = nat_eq s.label t.label && nat_eq s.occurrence t.occurrence

-- the polygon has the side
abbrev pub has_side : SideLabel → List SideLabel → Bool
has_side s polygon = list_any (is_side s) polygon

-- the other side of the label
abbrev pub other_side : SideLabel → SideLabel
other_side s = side s.label (1 - s.occurrence)

-- the sides of a polygon, read from the one after a side round to the one before it
abbrev pub round_after : SideLabel → List SideLabel → List SideLabel
round_after s polygon = after_first (is_side s) polygon ++ before_first (is_side s) polygon

-- a side replaced, in its polygon, by some sides
abbrev pub put_in_place : SideLabel → List SideLabel → List SideLabel → List SideLabel
put_in_place s sides polygon = before_first (is_side s) polygon ++ sides ++ after_first (is_side s) polygon

-- the two sides of a label lie on two polygons
abbrev pub is_split : ℕ → List (List SideLabel) → Bool
is_split label polygons = list_any (λ polygon. has_side (side label 0) polygon && not (has_side (side label 1) polygon)) polygons

-- the polygon of the label's second side set in place of its first side
abbrev pub joined_along : ℕ → List (List SideLabel) → List (List SideLabel)
joined_along label polygons =
    let second = filter (has_side (side label 1)) polygons in
    let inserted = flat_map (round_after (side label 1)) second in
    map (λ polygon. if has_side (side label 0) polygon then put_in_place (side label 0) inserted polygon else polygon)
    (filter (λ polygon. not (has_side (side label 1) polygon)) polygons)

-- what joining leaves: the polygons, and the labels that became seams, in the order of joining
pub record Joined : Type 0 where
  pub polygons : List (List SideLabel)
  pub seams : List ℕ

-- the labels taken in turn: one whose sides lie on two polygons joins them and becomes a seam
abbrev pub join_all : List ℕ → List (List SideLabel) → Joined
join_all [] polygons = record { polygons = polygons; seams = [] }
join_all (label ∷ labels) polygons = elim (is_split label polygons) [
  | true ↦ (let rest = join_all labels (joined_along label polygons) in record rest { seams = label ∷ rest.seams })
  | false ↦ join_all labels polygons
]

-- the page joined along its labels by first appearance
abbrev pub joined : List (List Label) → Joined
joined polygons = join_all (below (length (labels_of polygons))) (side_labels_of [] polygons)

-- the polygon of a list of sides, each paired with the other side of its label
abbrev pub polygon_of : List SideLabel → Polygon
polygon_of sides = paired (map (λ s. position_or_len (is_side (other_side s)) sides) sides)

-- the polygon that a page is joined to
abbrev pub page_polygon : List (List Label) → Polygon
page_polygon polygons = polygon_of (flat_map (λ polygon. polygon) (joined polygons).polygons)
