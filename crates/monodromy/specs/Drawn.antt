-- A drawing of words.
use Rattle.std.specs.Prelude.{◌≡◌, ℕ, ◌≤◌, List, length}
use Rattle.page_surface.specs.Drawing.{Drawing, IsEmbedded, all_exits, words}
use Rattle.page_surface.specs.Polygon.{Polygon}
use Rattle.drawing.specs.Tight.{IsTight, tight_drawing}

-- the tight drawing of these words on a polygon, with at most 4,000 points
pub record IsDrawn (p : Polygon) (ws : List (List ℕ)) (d : Drawing) : Type 0 where
  pub drawn : d ≡ tight_drawing p ws
  pub words_are : words d ≡ ws
  pub embedded : IsEmbedded d
  pub tight : IsTight d
  pub few : length (all_exits d) ≤ 4000
