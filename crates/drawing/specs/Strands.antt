-- The strand through a point of a side.
use Rattle.std.specs.Prelude.{◌≡◌, ℕ, ◌+◌, ◌<◌, Bool, ◌||◌, List, length, nat_eq, slice_index}
use Rattle.std.specs.List.{list_any, position_or_len}
use Rattle.obd_base.specs.declared.points.Exit.{Exit}
use Rattle.obd_base.specs.Lists.{below}
use Rattle.page_surface.specs.Drawing.{Drawing, entry, is_at, offset, points_on, spot, strand_exits}
use Rattle.page_surface.specs.Polygon.{arc_count, sides}
use Rattle.drawing.specs.Pieces.{span_count}

-- the strand has its exit or its entry at this place of this side
abbrev pub passes : Drawing → ℕ → ℕ → ℕ → Bool
passes d side place i = list_any (λ e. is_at e side place || is_at (entry d e) side place) (strand_exits d i)

-- the strand that does; where places are right there is one
abbrev pub strand_at : Drawing → ℕ → ℕ → ℕ
strand_at d side place = position_or_len (passes d side place) (below (arc_count d.polygon))

-- one of some exits, or its entry, has this number of the place order
abbrev pub meets : Drawing → List Exit → ℕ → Bool
meets d exits x = list_any (λ e. nat_eq (spot d e) x || nat_eq (spot d (entry d e)) x) exits

-- the strand at each number of the place order that is a point's
pub record IsStrandTable (d : Drawing) (table : List ℕ) : Type 0 where
  pub size : length table ≡ span_count d
  pub each : (k j : ℕ) → k < sides d.polygon → j < points_on d k → slice_index table (offset d k + j) ≡ strand_at d k j
