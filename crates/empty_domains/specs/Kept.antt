-- The tables of strips as they are kept: what keeps every look-up inside them.
use Rattle.std.specs.Prelude.{◌≡◌, ℕ, ◌+◌, ◌<◌, ◌≤◌, ◌^◌, List, length, slice_index}
use Rattle.page_surface.specs.Drawing.{Drawing}
use Rattle.drawing.specs.Pieces.{span_count}
use Rattle.empty_domains.specs.Ground.{Ground}
use Rattle.empty_domains.specs.Strip.{run as run_of}

-- tables by their six lists
abbrev pub tables : List ℕ → List ℕ → List ℕ → List ℕ → List ℕ → List ℕ → Ground
tables other opposite side run ends arcs = record { other = other; opposite = opposite; side = side; run = run; ends = ends; arcs = arcs }

-- the tables are of one size, and what they tell can be looked up in them again
pub record IsClosed (g : Ground) : Type 0 where
  pub few : length g.other < 2 ^ 30
  pub opposite_size : length g.opposite ≡ length g.other
  pub side_size : length g.side ≡ length g.other
  pub run_size : length g.run ≡ length g.other
  pub arcs_size : length g.arcs ≡ length g.ends
  pub other_in : (x : ℕ) → x < length g.other → slice_index g.other x < length g.other
  pub opposite_in : (x : ℕ) → x < length g.other → slice_index g.opposite x < length g.other
  pub side_in : (x : ℕ) → x < length g.other → slice_index g.side x < length g.ends

-- from a number on, the table tells how far rows run on, and no entry leads out of it
pub record IsRuns (d : Drawing) (at : ℕ) (run : List ℕ) : Type 0 where
  pub size : length run ≡ span_count d
  pub within : (x : ℕ) → at ≤ x → x < span_count d → slice_index run x + x ≤ span_count d
  pub told : (x : ℕ) → at ≤ x → x < span_count d → slice_index run x ≡ run_of d x
