-- What is said of strands that are no drawing.
use Rattle.std.specs.Prelude.{◌≡◌, ℕ, ◌+◌, ◌<◌, false, true, List, length, slice_index}
use Rattle.std.specs.List.{sum_by}
use Rattle.obd_base.specs.Lists.{Mem, Once}
use Rattle.page_surface.specs.Drawing.{Drawing, IsEmbedded, IsPlaced, all_exits, chords, no_two_cross, offset, points_on, right_on, stands_at}
use Rattle.page_surface.specs.Polygon.{sides}
use Rattle.drawing.specs.Cut.{IsCut, Reached}
use Rattle.drawing.specs.Pieces.{gap, pieces, span_count}
use Rattle.drawing.specs.declared.refusal.DrawRefusal.{DrawRefusal}
use Rattle.drawing.specs.declared.refusal.DrawRefusal.TheVariants.{PlaceWrong, Crosses, NotCut, NoMemory}

-- the first side whose exits and entries aren't numbered from 0, each once
pub record IsFirstWrong (d : Drawing) (k : ℕ) : Type 0 where
  pub side : k < sides d.polygon
  pub wrong : right_on d k ≡ false
  pub right_before : (l : ℕ) → l < k → right_on d l ≡ true

-- so many pieces are reached from the piece of gap 0 through glued segments
pub record AreReached (d : Drawing) (count : ℕ) : Type 0 where
  pub found : List ℕ
  pub once : Once found
  pub reached : (s : ℕ) → Mem s found → Mem s (pieces d) × Reached d (gap d 0) s
  pub all : (s : ℕ) → Mem s (pieces d) → Reached d (gap d 0) s → Mem s found
  pub counted : length found ≡ count

-- what a refusal says of the written drawing
abbrev pub Says : Drawing → DrawRefusal → Type 0
Says d (PlaceWrong side) = IsFirstWrong d side
Says d Crosses = IsPlaced d × (no_two_cross (chords d) ≡ false)
Says d (NotCut reached all) = IsEmbedded d × (IsCut d → ⊥) × AreReached d reached × (all ≡ length (pieces d))
Says d NoMemory = Unit {0}

-- how often an exit or an entry stands at each point, by the numbers of the place order
pub record IsHitTable (d : Drawing) (hits : List ℕ) : Type 0 where
  pub size : length hits ≡ span_count d
  pub each : (k j : ℕ) → k < sides d.polygon → j < points_on d k → slice_index hits (offset d k + j) ≡ sum_by (λ e. stands_at d e k j) (all_exits d)
