-- Domains as sets of pieces, and the columns that they give.
use Rattle.std.specs.Prelude.{◌≡◌, ℕ, suc, ◌+◌, ◌*◌, ◌<◌, Bool, true, false, nat_eq, ◌&&◌, not, List, [], filter, map, length, slice_index, slice_index_or, count_by}
use Rattle.std.specs.List.{list_all, sum_by}
use Rattle.obd_base.specs.Lists.{Mem, below, has, is_odd, parts}
use Rattle.page_surface.specs.Drawing.{Drawing}
use Rattle.page_surface.specs.Polygon.{arc_count}
use Rattle.drawing.specs.Pieces.{corners, inner_pieces, piece_table}
use Rattle.drawing.specs.Points.{crossings_of, from_spans, generators, to_spans}

-- how many of the spans lie in pieces of the set, by the table of pieces
abbrev pub met : List ℕ → List ℕ → List ℕ → ℕ
met table set quadrants = count_by (λ q. has set (slice_index table q)) quadrants

-- the rule at a point, as a test of whether it stands in y and in x, and how many 'from' and 'to' quadrants are in the set
abbrev pub rule_at : Bool → Bool → ℕ → ℕ → Bool
rule_at true false out into = nat_eq out 1 && nat_eq into 0
rule_at false true out into = nat_eq out 0 && nat_eq into 1
rule_at true true out into = nat_eq out 0 && nat_eq into 0
rule_at false false out into = nat_eq out into

-- point j of arc a is one of the generator's
abbrev pub stands_in : List ℕ → ℕ → ℕ → Bool
stands_in y a j = nat_eq (slice_index y a) j

-- the rule at point j of arc a
abbrev pub keeps_rule : Drawing → List ℕ → List ℕ → List ℕ → List ℕ → ℕ → ℕ → Bool
keeps_rule d table y x set a j = rule_at (stands_in y a j) (stands_in x a j) (met table set (from_spans d a j)) (met table set (to_spans d a j))

-- the points that stand in exactly one of the generators: two for each arc where they differ
abbrev pub moved : Drawing → List ℕ → List ℕ → ℕ
moved d y x = 2 * count_by (λ a. not (nat_eq (slice_index y a) (slice_index x a))) (below (arc_count d.polygon))

-- the rule at a point, as a fact
abbrev pub PointRule : Bool → Bool → ℕ → ℕ → Type 0
PointRule true false out into = (out ≡ 1) × (into ≡ 0)
PointRule false true out into = (out ≡ 0) × (into ≡ 1)
PointRule true true out into = (out ≡ 0) × (into ≡ 0)
PointRule false false out into = out ≡ into

-- a set of pieces, by their first spans, that leads from y to x: none of them base, the corners add up, and each point keeps its rule
pub record IsDomain (d : Drawing) (y x set : List ℕ) : Type 0 where
  pub inner : Mem set (parts (inner_pieces d))
  pub corners_add_up : 4 * length set + moved d y x ≡ 4 + sum_by (corners d) set
  pub rules : (a : ℕ) → a < arc_count d.polygon → (j : ℕ) → j < suc (crossings_of d a)
      → PointRule (stands_in y a j) (stands_in x a j) (met (piece_table d) set (from_spans d a j)) (met (piece_table d) set (to_spans d a j))

-- the same as a test of a part of the inner pieces, by the table of pieces
abbrev pub is_domain : Drawing → List ℕ → List ℕ → List ℕ → List ℕ → Bool
is_domain d table y x set =
    nat_eq (4 * length set + moved d y x) (4 + sum_by (corners d) set)
    && list_all (λ a. list_all (keeps_rule d table y x set a) (below (suc (crossings_of d a)))) (below (arc_count d.polygon))

-- all domains from y to x
abbrev pub domains : Drawing → List ℕ → List ℕ → List (List ℕ)
domains d y x = let t = piece_table d in filter (is_domain d t y x) (parts (inner_pieces d))

-- the column of y: the numbers of the generators with an odd number of domains from y
abbrev pub column : Drawing → List ℕ → List ℕ
column d y =
    let gs = generators d in
    filter (λ i. is_odd (length (domains d y (slice_index_or gs i [])))) (below (length gs))

-- the columns of all generators, in order
abbrev pub columns : Drawing → List (List ℕ)
columns d = map (column d) (generators d)
