-- What the tables of a basis hold.
use Rattle.std.specs.Prelude.{◌≡◌, ℕ, ◌<◌, ◌≤◌, true, List, [], ◌∷◌, map, position, Option}
use Rattle.page_surface.specs.declared.page.SideLabel.{SideLabel}
use Rattle.page_surface.specs.Joining.{Joined, side, is_side, has_side, other_side}
use Rattle.obd_base.specs.Lists.{Mem, below}

-- a basis of one polygon, as it is seen
abbrev pub of_sides : List SideLabel → List ℕ → Joined
of_sides sides seams = record { polygons = sides ∷ []; seams = seams }

-- for each label, which of the sides is its first one with an occurrence
abbrev pub side_table : List SideLabel → ℕ → ℕ → List (Option ℕ)
side_table sides count occurrence = map (λ label. position (is_side (side label occurrence)) sides) (below count)

-- each side is one of the two occurrences of one of so many labels
abbrev pub AreNamed : List SideLabel → ℕ → Type 0
AreNamed sides count = (s : SideLabel) → Mem s sides → (s.label < count) × (s.occurrence ≤ 1)

-- the tables of both occurrences are those of the sides, on which the other side of each side's label stands
pub record AreAllFound (sides : List SideLabel) (first_sides second_sides : List (Option ℕ)) (count : ℕ) : Type 0 where
  pub named : AreNamed sides count
  pub others : (s : SideLabel) → Mem s sides → has_side (other_side s) sides ≡ true
  pub firsts_are : first_sides ≡ side_table sides count 0
  pub seconds_are : second_sides ≡ side_table sides count 1
