-- Pieces that are collected and marked, and the rules near rows by tables.
use Rattle.std.specs.Prelude.{◌≡◌, ℕ, suc, ◌+◌, ◌<◌, ◌^◌, Bool, false, ◌&&◌, List, length, slice_index, slice_index_or}
use Rattle.std.specs.List.{list_all}
use Rattle.obd_base.specs.Lists.{below, has}
use Rattle.page_surface.specs.Drawing.{Drawing}
use Rattle.page_surface.specs.Polygon.{arc_count, first_side}
use Rattle.empty_domains.specs.Ground.{Ground, IsGround, IsSpot, spot_rule_by}
use Rattle.empty_domains.specs.NearTest.{IsCollected}

-- the pieces of some spans, each once, and just these are marked
pub record AreMarked (table spans pieces : List ℕ) (marks : List Bool) : Type 0 where
  pub collected : IsCollected table spans pieces
  pub marked : (p : ℕ) → slice_index_or marks p false ≡ has pieces p

-- the piece of a span is marked
abbrev pub marked_by : List ℕ → List Bool → ℕ → Bool
marked_by pieces marks s = slice_index_or marks (slice_index pieces s) false

-- what the rules are tested by: the tables of a drawing, the piece of each span, marks of pieces, and where two generators stand
pub record AreNear (d : Drawing) (g : Ground) (pieces : List ℕ) (marks : List Bool) (from to : List ℕ) : Type 0 where
  pub tables : IsGround d g
  pub few : length g.other < 2 ^ 30
  pub pieces_size : length pieces ≡ length g.other
  pub marks_in : (s : ℕ) → slice_index pieces s < length marks
  pub from_size : length from ≡ length g.ends
  pub to_size : length to ≡ length g.ends
  pub from_spots : (k : ℕ) → k < length g.ends → IsSpot d (slice_index from k)
  pub to_spots : (k : ℕ) → k < length g.ends → IsSpot d (slice_index to k)

-- the rule at the points of both generators on an arc
abbrev pub arc_rule_by : Drawing → Ground → List ℕ → List ℕ → (ℕ → Bool) → ℕ → Bool
arc_rule_by d g from to marked a =
    let side = first_side d.polygon a in
    spot_rule_by g from to marked (slice_index from side) && spot_rule_by g from to marked (slice_index to side)

-- on all arcs
abbrev pub arcs_rule_by : Drawing → Ground → List ℕ → List ℕ → (ℕ → Bool) → Bool
arcs_rule_by d g from to marked = list_all (arc_rule_by d g from to marked) (below (arc_count d.polygon))

-- the rule at a point of a row, and at the other end of the chord there
abbrev pub column_rule_by : Ground → List ℕ → List ℕ → (ℕ → Bool) → ℕ → Bool
column_rule_by g from to marked x = spot_rule_by g from to marked x && spot_rule_by g from to marked (slice_index g.other x)

-- at all points of a row
abbrev pub row_rule_by : Ground → List ℕ → List ℕ → (ℕ → Bool) → ℕ → ℕ → Bool
row_rule_by g from to marked width start = list_all (λ i. column_rule_by g from to marked (start + i)) (below (suc width))

-- of all rows
abbrev pub rows_rule_by : Ground → List ℕ → List ℕ → (ℕ → Bool) → ℕ → List ℕ → Bool
rows_rule_by g from to marked width rows = list_all (λ start. row_rule_by g from to marked width start) rows

-- at so many points from one on, and the one behind them
abbrev pub edge_rule_by : Ground → List ℕ → List ℕ → (ℕ → Bool) → ℕ → ℕ → Bool
edge_rule_by g from to marked width start = list_all (λ i. spot_rule_by g from to marked (start + i)) (below (suc width))

-- along the far edges of rows
abbrev pub far_edges_rule_by : Ground → List ℕ → List ℕ → (ℕ → Bool) → ℕ → List ℕ → Bool
far_edges_rule_by g from to marked width rows = list_all (λ start. edge_rule_by g from to marked width (slice_index g.other (start + width))) rows

-- along the first row and all far edges
abbrev pub edges_rule_by : Ground → List ℕ → List ℕ → (ℕ → Bool) → ℕ → ℕ → List ℕ → Bool
edges_rule_by g from to marked width start rows = edge_rule_by g from to marked width start && far_edges_rule_by g from to marked width rows
