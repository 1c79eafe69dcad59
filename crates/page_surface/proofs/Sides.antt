-- The sides of a page by label and occurrence: as many as there are labels given, polygon by polygon.
use Rattle.std.proofs.Common.{◌≡◌, ℕ, zero, suc, ◌<◌, ◌≤◌, List, [], ◌∷◌, length, length-append, get_or, refl, ap, ◌∙◌, arith}
use Rattle.std.proofs.lemmas.List.{get_or_read}
use Rattle.page_surface.specs.declared.page.SideLabel.{SideLabel}
use Rattle.page_surface.specs.Labels.{Label, all_sides, with_label, with_labels, side_labels, side_labels_of}

-- a polygon has a side for each label given
pub length-side_labels : (appeared names : List Label) → length (side_labels appeared names) ≡ length names
length-side_labels appeared [] = refl
length-side_labels appeared (name ∷ names) = ap suc (length-side_labels (with_label appeared name) names)

-- there are as many polygons
pub length-side_labels_of : (appeared : List Label) (polygons : List (List Label)) → length (side_labels_of appeared polygons) ≡ length polygons
length-side_labels_of appeared [] = refl
length-side_labels_of appeared (p ∷ polygons) = ap suc (length-side_labels_of (with_labels appeared p) polygons)

-- each polygon has a side for each label given
pub length-of_polygon : (appeared : List Label) (polygons : List (List Label)) (i : ℕ)
    → length (get_or (side_labels_of appeared polygons) i []) ≡ length (get_or polygons i [])
length-of_polygon appeared [] i = refl
length-of_polygon appeared (p ∷ polygons) zero = length-side_labels appeared p
length-of_polygon appeared (p ∷ polygons) (suc i) = length-of_polygon (with_labels appeared p) polygons i

-- a polygon has no more sides than all polygons together
pub few_of_polygon : (polygons : List (List Label)) (i : ℕ) → length (get_or polygons i []) ≤ length (all_sides polygons)
few_of_polygon [] i = omega arith
few_of_polygon (p ∷ polygons) zero = omega (arith, length-append p (all_sides polygons))
few_of_polygon (p ∷ polygons) (suc i) = omega (arith, length-append p (all_sides polygons), few_of_polygon polygons i)

-- the sides that are read of a polygon in the tables
pub sides_read : (polygons : List (List Label)) (tables : List (List SideLabel)) (polygon : ℕ) (found sides : List SideLabel) → polygon < length polygons
    → tables ≡ side_labels_of [] polygons → found ≡ get_or tables polygon found → sides ≡ found → sides ≡ get_or (side_labels_of [] polygons) polygon []
sides_read polygons tables polygon found sides l tables_are found_is sides_are =
    sides_are
    ∙ (get_or_read tables polygon found (omega (arith, ap length tables_are, length-side_labels_of [] polygons)) found_is [] ∙ ap (λ xs. get_or xs polygon []) tables_are)
