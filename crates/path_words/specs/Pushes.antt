-- The pushes of a twist as a table, reduced, and what setting the words of a table makes of words.
use Rattle.std.specs.Prelude.{◌≡◌, ℕ, ◌<◌, ◌≤◌, List, [], map, length, slice_index_or, All}
use Rattle.std.specs.List.{enumerate_from}
use Rattle.obd_base.specs.Lists.{below}
use Rattle.obd_base.specs.declared.points.Exit.{Exit}
use Rattle.obd_base.specs.declared.points.Sign.{Sign}
use Rattle.page_surface.specs.Polygon.{IsPolygon, Polygon, first_side, second_side, sides}
use Rattle.page_surface.specs.Words.{reduced}
use Rattle.curve_paths.specs.Curves.{push_at, with_words}

-- for each side the reduced form of what a twist sets along it
abbrev pub reduced_pushes : Polygon → List Exit → Sign → List (List ℕ)
reduced_pushes p c sign = map (λ k. reduced p (push_at p c sign k)) (below (sides p))

-- the word of a table for a side
abbrev pub push_of : List (List ℕ) → ℕ → List ℕ
push_of pushes k = slice_index_or pushes k []

-- a table with a reduced word of at most 2,048 sides for each of at most 16 sides
pub record IsPushTable (p : Polygon) (pushes : List (List ℕ)) : Type 0 where
  pub valid : IsPolygon p
  pub few_sides : sides p ≤ 16
  pub each : length pushes ≡ sides p
  pub in_range : All (λ push. All (λ s. s < sides p) push) pushes
  pub are_reduced : All (λ push. reduced p push ≡ push) pushes
  pub short : All (λ push. length push ≤ 2048) pushes

-- the word of an arc's strand with the words of a table set along the sides that it passes, reduced
abbrev pub strand_with : Polygon → List (List ℕ) → ℕ → List ℕ → List ℕ
strand_with p pushes arc w = reduced p (with_words p (push_of pushes) w (second_side p arc) (first_side p arc))

-- the words of all strands with them
abbrev pub strands_with : Polygon → List (List ℕ) → List (List ℕ) → List (List ℕ)
strands_with p pushes ws = map (λ e. strand_with p pushes e.0 e.1) (enumerate_from 0 ws)
