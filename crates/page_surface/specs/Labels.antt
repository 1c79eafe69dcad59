-- The labels of a page, numbered by first appearance, and the two occurrences of each.
use Rattle.std.specs.Prelude.{ℕ, List, [], ◌∷◌, ◌++◌, fold, if◌then◌else◌, count_by}
use Rattle.std.specs.List.{list_any, flat_map, position_or_len}
use Rattle.std.specs.Str.{bytes_eq}
use Rattle.page_surface.specs.declared.page.SideLabel.{SideLabel}

-- a label, as the bytes of its name
abbrev pub Label : Type 0
Label = List ℕ

-- all sides of a page, polygon by polygon
abbrev pub all_sides : List (List Label) → List Label
all_sides polygons = flat_map (λ polygon. polygon) polygons

-- the labels with one more, which goes last unless it is among them
abbrev pub with_label : List Label → Label → List Label
with_label labels label = if list_any (bytes_eq label) labels then labels else labels ++ label ∷ []

-- the labels after those of some more sides
abbrev pub with_labels : List Label → List Label → List Label
with_labels labels sides = fold with_label labels sides

-- the different labels of a page, by first appearance
abbrev pub labels_of : List (List Label) → List Label
labels_of polygons = with_labels [] (all_sides polygons)

-- the place of a label among those that appeared; a new one comes after them
abbrev pub label_number : List Label → Label → ℕ
label_number appeared label = position_or_len (bytes_eq label) appeared

-- how often a label occurs on a page
abbrev pub occurrences_of : List (List Label) → Label → ℕ
occurrences_of polygons label = count_by (bytes_eq label) (all_sides polygons)

-- the sides of a polygon by label and occurrence, after the labels that appeared before
abbrev pub side_labels : List Label → List Label → List SideLabel
side_labels appeared [] = []
side_labels appeared (label ∷ sides) =
    record { label = label_number appeared label; occurrence = if list_any (bytes_eq label) appeared then 1 else 0 }
    ∷ side_labels (with_label appeared label) sides

-- the sides of all polygons by label and occurrence
abbrev pub side_labels_of : List Label → List (List Label) → List (List SideLabel)
side_labels_of appeared [] = []
side_labels_of appeared (polygon ∷ polygons) = side_labels appeared polygon ∷ side_labels_of (with_labels appeared polygon) polygons
