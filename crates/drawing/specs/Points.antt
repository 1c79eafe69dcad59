-- The points of the diagram, the strands on which they lie, and the generators.
use Rattle.std.specs.Prelude.{◌≡◌, ℕ, suc, ◌-◌, ◌<◌, ◌≤◌, Bool, true, cond, nat_eq, nat_lt, ◌&&◌, ◌||◌, not, List, [], ◌∷◌, map, filter, length, slice_index, if◌then◌else◌}
use Rattle.std.specs.List.{list_any, flat_map, position_or_len, enumerate_from}
use Rattle.obd_base.specs.Lists.{Once, below, has}
use Rattle.page_surface.specs.Polygon.{arc_count, first_side, second_side}
use Rattle.page_surface.specs.Drawing.{Drawing, entry, exit, points_on, spot, strand_exits, is_at}

-- how many crossing points an arc has; its contact point comes after them, so it has this number
abbrev pub crossings_of : Drawing → ℕ → ℕ
crossings_of d a = points_on d (first_side d.polygon a)

-- the 'to' spans of a point, one on each of its two sides: those just before it, and at the contact point the last segments
abbrev pub to_spans : Drawing → ℕ → ℕ → List ℕ
to_spans d a j =
    let f = first_side d.polygon a in
    let s = second_side d.polygon a in
    let m = crossings_of d a in
    cond (nat_lt j m)
    (spot d (exit f j) ∷ spot d (exit s (m - 1 - j)) ∷ [])
    (spot d (exit f m) ∷ spot d (exit s m) ∷ [])

-- the 'from' spans: those just after it; at the contact point they are gaps, so it has none
abbrev pub from_spans : Drawing → ℕ → ℕ → List ℕ
from_spans d a j =
    let f = first_side d.polygon a in
    let s = second_side d.polygon a in
    let m = crossings_of d a in
    cond (nat_lt j m)
    (spot d (exit f (suc j)) ∷ spot d (exit s (m - j)) ∷ [])
    []

-- the strand leaves or enters by the crossing point, or the contact point is that of the strand's own arc
abbrev pub is_on : Drawing → ℕ → ℕ → ℕ → Bool
is_on d i a j =
    let side = first_side d.polygon a in
    if nat_lt j (crossings_of d a) then list_any (λ e. is_at e side j || is_at (entry d e) side j) (strand_exits d i) else nat_eq i a

-- the strand on which point j of arc a lies
abbrev pub strand_of : Drawing → ℕ → ℕ → ℕ
strand_of d a j = position_or_len (λ i. is_on d i a j) (below (arc_count d.polygon))

-- all lists with one number up to each of the bounds, in lexicographic order
abbrev pub all_lists : List ℕ → List (List ℕ)
all_lists [] = [] ∷ []
all_lists (bound ∷ bounds) = let rest = all_lists bounds in flat_map (λ j. map (λ list. j ∷ list) rest) (below (suc bound))

-- no number stands twice, as a test
abbrev pub all_different : List ℕ → Bool
all_different [] = true
all_different (x ∷ xs) = not (has xs x) && all_different xs

-- the strands on which some points lie, one point on each arc
abbrev pub strands_of : Drawing → List ℕ → List ℕ
strands_of d points = map (λ e. strand_of d e.0 e.1) (enumerate_from 0 points)

-- one point on each arc, on different strands
pub record IsGenerator (d : Drawing) (points : List ℕ) : Type 0 where
  pub one_each : length points ≡ arc_count d.polygon
  pub in_range : (a : ℕ) → a < arc_count d.polygon → slice_index points a ≤ crossings_of d a
  pub different : Once (strands_of d points)

-- the points lie on different strands, as a test
abbrev pub is_generator : Drawing → List ℕ → Bool
is_generator d points = all_different (strands_of d points)

-- the generators in lexicographic order, each by the numbers of its points
abbrev pub generators : Drawing → List (List ℕ)
generators d = filter (is_generator d) (all_lists (map (crossings_of d) (below (arc_count d.polygon))))

-- the generator of all contact points
abbrev pub contact_generator : Drawing → List ℕ
contact_generator d = map (crossings_of d) (below (arc_count d.polygon))
