-- What the tables of a basis hold where some labels are seams.
use Rattle.std.specs.Prelude.{◌≡◌, ℕ, ◌+◌, ◌-◌, ◌<◌, ◌≤◌, true, false, List, [], ◌++◌, length, take, drop, slice_index_or, slice_set, count_by, Option}
use Rattle.std.specs.List.{flat_map, position_or_len, range_with_len, remove}
use Rattle.obd_base.specs.Lists.{Mem}
use Rattle.page_surface.specs.declared.page.SideLabel.{SideLabel}
use Rattle.page_surface.specs.Joining.{has_side, is_side, join_all, joined, other_side, polygon_of, side}
use Rattle.page_surface.specs.Labels.{Label, labels_of}
use Rattle.page_surface.specs.Polygon.{Polygon}
use Rattle.arc_basis.specs.Basis.{label_count}
use Rattle.arc_basis.specs.BasisTables.{AreNamed, of_sides, side_table}

-- the sides that are left are named by so many labels; a seam has no side among them, and each other label has both
pub record AreLeft (sides : List SideLabel) (count : ℕ) (seams : List ℕ) : Type 0 where
  pub named : AreNamed sides count
  pub gone : (label occurrence : ℕ) → Mem label seams → occurrence ≤ 1 → has_side (side label occurrence) sides ≡ false
  pub there : (label occurrence : ℕ) → label < count → occurrence ≤ 1 → (Mem label seams → ⊥) → has_side (side label occurrence) sides ≡ true
  pub others : (s : SideLabel) → Mem s sides → has_side (other_side s) sides ≡ true

-- the tables are those of the sides that are left
pub record AreSeamTables (sides : List SideLabel) (polygon : Polygon) (first_sides second_sides : List (Option ℕ)) (seams : List ℕ) : Type 0 where
  pub polygon_is : polygon ≡ polygon_of sides
  pub left : AreLeft sides (label_count (of_sides sides seams)) seams
  pub firsts_are : first_sides ≡ side_table sides (label_count (of_sides sides seams)) 0
  pub seconds_are : second_sides ≡ side_table sides (label_count (of_sides sides seams)) 1

-- where a side stands: on which of some polygons, and at which place there
abbrev pub polygon_with : SideLabel → List (List SideLabel) → ℕ
polygon_with s polygons = position_or_len (has_side s) polygons

abbrev pub place_in : SideLabel → List (List SideLabel) → ℕ
place_in s polygons = position_or_len (is_side s) (slice_index_or polygons (polygon_with s polygons) [])

-- Two polygons joined along a label by positions: the first is cut at the label's first side, and the second, read from
-- the one after the label's second side round to the one before it, is spliced in; the second goes away.
abbrev pub spliced : ℕ → List (List SideLabel) → List (List SideLabel)
spliced label polygons =
    let a = polygon_with (side label 0) polygons in
    let b = polygon_with (side label 1) polygons in
    let i = place_in (side label 0) polygons in
    let j = place_in (side label 1) polygons in
    let first = slice_index_or polygons a [] in
    let second = slice_index_or polygons b [] in
    remove (slice_set polygons a (take i first ++ (drop (j + 1) second ++ (take j second ++ drop (i + 1) first)))) b

-- Labels below a number have been taken: what is left to do leads to what joining leaves, and each side of the other
-- labels stands once on the polygons.
pub record IsJoining (page : List (List Label)) (label : ℕ) (polygons : List (List SideLabel)) (seams : List ℕ) : Type 0 where
  pub polygons_are : (joined page).polygons ≡ (join_all (range_with_len label (length (labels_of page) - label)) polygons).polygons
  pub seams_are : (joined page).seams ≡ seams ++ (join_all (range_with_len label (length (labels_of page) - label)) polygons).seams
  pub once : (number occurrence : ℕ) → label ≤ number → number < length (labels_of page) → occurrence ≤ 1
      → count_by (is_side (side number occurrence)) (flat_map (λ polygon. polygon) polygons) ≡ 1
  pub few : length (flat_map (λ polygon. polygon) polygons) ≤ 48
