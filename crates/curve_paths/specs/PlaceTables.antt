-- The tables by which a path is tried.
use Rattle.std.specs.Prelude.{◌≡◌, ℕ, ◌+◌, ◌*◌, ◌<◌, ◌≤◌, Bool, false, List, map, length, slice_index, slice_index_or}
use Rattle.std.specs.List.{before_first, list_any, position_or_len, sum_by}
use Rattle.obd_base.specs.Lists.{Mem, below}
use Rattle.page_surface.specs.declared.page.SideLabel.{SideLabel}
use Rattle.page_surface.specs.Joining.{Joined, side, is_side}
use Rattle.page_surface.specs.Labels.{Label, labels_of}
use Rattle.arc_basis.specs.Basis.{label_count}
use Rattle.curve_paths.specs.declared.crossing.Crossing.{Crossing}
use Rattle.curve_paths.specs.Paths.{is_met_at, label_points, side_start}

-- each crossing has one of so many labels
abbrev pub AreNumbered : List Crossing → ℕ → Type 0
AreNumbered cs count = (c : Crossing) → Mem c cs → c.side.label < count

-- the table has, in blocks of 32, which of the places below 32 of each label are met
pub record AreMet (cs : List Crossing) (count : ℕ) (met : List Bool) : Type 0 where
  pub size : length met ≡ count * 32
  pub met_are : (label place : ℕ) → label < count → place < 32 → slice_index_or met (label * 32 + place) false ≡ list_any (is_met_at label place) cs

-- at most 48 sides, each once, of labels that have at most 32 points
pub record AreSides (sides : List SideLabel) (counts : List ℕ) : Type 0 where
  pub few : length sides ≤ 48
  pub few_points : (label : ℕ) → label < length counts → slice_index counts label ≤ 32
  pub named : (s : SideLabel) → Mem s sides → (s.label < length counts) × (s.occurrence ≤ 1)
  pub once : (k : ℕ) → k < length sides → position_or_len (is_side (slice_index_or sides k (side 0 0))) sides ≡ k

-- how many numbers the sides before a side take
abbrev pub start_of : List SideLabel → List ℕ → SideLabel → ℕ
start_of sides counts s = sum_by (λ t. slice_index counts t.label + 2) (before_first (is_side s) sides)

-- for each label and occurrence that a side has, how many numbers the sides before it take
pub record AreStarts (sides : List SideLabel) (counts starts : List ℕ) : Type 0 where
  pub size : length starts ≡ length counts * 2
  pub starts_are : (s : SideLabel) → Mem s sides → slice_index starts (s.label * 2 + s.occurrence) ≡ start_of sides counts s

-- the tables are those of a path's place order
pub record IsPlaceOrder (page : List (List Label)) (cs : List Crossing) (counts starts : List ℕ) : Type 0 where
  pub counts_are : counts ≡ map (label_points cs) (below (length (labels_of page)))
  pub size : length starts ≡ length counts * 2
  pub starts_are : (label occurrence : ℕ) → label < length (labels_of page) → occurrence ≤ 1
      → slice_index starts (label * 2 + occurrence) ≡ side_start page cs (side label occurrence)
  pub fits : (label occurrence : ℕ) → label < length (labels_of page) → occurrence ≤ 1 → side_start page cs (side label occurrence) ≤ 48 * 34
  pub few : length cs ≤ 32

-- each crossing has a label and an occurrence, and a place among the label's points
pub record ArePlaced (page : List (List Label)) (cs : List Crossing) : Type 0 where
  pub few : length cs ≤ 32
  pub named : (c : Crossing) → Mem c cs → (c.side.label < length (labels_of page)) × (c.side.occurrence ≤ 1)
  pub placed : (c : Crossing) → Mem c cs → c.place < label_points cs c.side.label

-- each crossing has a label of a basis and an occurrence, and a place among the points that the label has
pub record AreOn (j : Joined) (cs : List Crossing) (counts : List ℕ) : Type 0 where
  pub counts_are : counts ≡ map (label_points cs) (below (label_count j))
  pub named : (c : Crossing) → Mem c cs → (c.side.label < label_count j) × (c.side.occurrence ≤ 1)
  pub placed : (c : Crossing) → Mem c cs → c.place < label_points cs c.side.label
