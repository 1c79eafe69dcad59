-- What the tables of a page hold.
use Rattle.std.specs.Prelude.{◌≡◌, ℕ, ◌<◌, ◌^◌, List, [], length, map}
use Rattle.std.specs.List.{position_or_len}
use Rattle.obd_base.specs.Lists.{below}
use Rattle.page_surface.specs.declared.page.SideLabel.{SideLabel}
use Rattle.page_surface.specs.Labels.{Label, all_sides, labels_of, side_labels_of}
use Rattle.page_surface.specs.Page.{IsPage}
use Rattle.page_surface.specs.Joining.{side, has_side}

-- the tables are those of some polygons: their labels, and their sides by label and occurrence
pub record AreLabelTables (polygons : List (List Label)) (labels : List Label) (sides : List (List SideLabel)) : Type 0 where
  pub few_polygons : length polygons < 2 ^ 32
  pub few : length (all_sides polygons) < 2 ^ 32
  pub labels_are : labels ≡ labels_of polygons
  pub sides_are : sides ≡ side_labels_of [] polygons

-- for each of so many labels, the first polygon on which its side of this occurrence lies
abbrev pub lies_on : List (List SideLabel) → ℕ → ℕ → List ℕ
lies_on sides label_count occurrence = map (λ label. position_or_len (has_side (side label occurrence)) sides) (below label_count)

-- the tables are those of a page: for each label the polygons of its two sides
pub record ArePageTables (polygons : List (List Label)) (first_polygons second_polygons : List ℕ) : Type 0 where
  pub valid : IsPage polygons
  pub first_are : first_polygons ≡ lies_on (side_labels_of [] polygons) (length (labels_of polygons)) 0
  pub second_are : second_polygons ≡ lies_on (side_labels_of [] polygons) (length (labels_of polygons)) 1
