-- Glued segments, and drawings that are cut.
use Rattle.std.specs.Prelude.{◌≡◌, ℕ, ◌-◌, ◌<◌, ◌≤◌, true}
use Rattle.page_surface.specs.Drawing.{Drawing, chords, exit, points_on, spot}
use Rattle.page_surface.specs.Polygon.{partner, sides}
use Rattle.drawing.specs.Pieces.{gap, same_piece, span_count}

-- reached from a span through its piece and through glued segments: segment j of a side with m points is glued to segment m - j of the partner
pub data Reached (d : Drawing) (from : ℕ) : ℕ → Type 0 where
  start : Reached d from from
  within : {s t : ℕ} → s < span_count d → t < span_count d → same_piece (chords d) s t ≡ true → Reached d from s → Reached d from t
  across : {k j : ℕ} → k < sides d.polygon → j ≤ points_on d k
      → Reached d from (spot d (exit k j)) → Reached d from (spot d (exit (partner d.polygon k) (points_on d k - j)))

-- every span is reached from gap 0
abbrev pub IsCut : Drawing → Type 0
IsCut d = (s : ℕ) → s < span_count d → Reached d (gap d 0) s
