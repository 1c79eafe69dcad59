-- A curve on a page as contracts see it, and what its type keeps.
use Rattle.std.specs.Prelude.{◌≡◌, ℕ, ◌<◌, ◌≤◌, true, List, All, map, length}
use Rattle.std.specs.List.{list_all}
use Rattle.obd_base.specs.Lists.{Mem, below}
use Rattle.page_surface.specs.Labels.{Label, labels_of}
use Rattle.page_surface.specs.Page.{IsPage}
use Rattle.curve_paths.specs.declared.path.Cross.{Cross}
use Rattle.curve_paths.specs.declared.crossing.Crossing.{Crossing}
use Rattle.curve_paths.specs.PathRules.{IsPath}
use Rattle.curve_paths.specs.Paths.{crossings, is_known, label_points}

-- a page, and a path of crossings on it
pub record PagePath : Type 0 where
  pub page : List (List Label)
  pub path : List Cross

-- each crossing leaves by occurrence 0 or 1 of its label
abbrev pub HaveOccurrences : List Cross → Type 0
HaveOccurrences path = All (λ c. c.occurrence ≤ 1) path

-- 1 to 32 crossings, each with a label of the page, occurrence 0 or 1, and a place below the number of the label's points
pub record HasCrossings (page : List (List Label)) (path : List Cross) : Type 0 where
  pub least : 1 ≤ length path
  pub most : length path ≤ 32
  pub known : list_all (is_known page) path ≡ true
  pub occurrences : HaveOccurrences path
  pub places : (c : Crossing) → Mem c (crossings page path) → c.place < label_points (crossings page path) c.side.label

-- a curve on a page, its crossings by number, and the number of points of each label
pub record IsPathKept (page : List (List Label)) (path : List Cross) (numbered : List Crossing) (counts : List ℕ) : Type 0 where
  pub is_page : IsPage page
  pub is_path : IsPath page path
  pub occurrences : HaveOccurrences path
  pub numbered_are : numbered ≡ crossings page path
  pub counts_are : counts ≡ map (label_points (crossings page path)) (below (length (labels_of page)))
