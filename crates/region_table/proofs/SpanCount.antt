-- How many spans a drawing has.
use Rattle.std.proofs.Common.{◌≡◌, ℕ, ◌+◌, ◌*◌, ◌<◌, ◌≤◌, ◌^◌, eqb, ltb, List, [], ◌∷◌, length, sym, arith}
use Rattle.std.specs.List.{sum_by}
use Rattle.std.proofs.lemmas.List.Sums.{sum_by-cons}
use Rattle.obd_base.specs.Lists.{below}
use Rattle.obd_base.proofs.lists.Below.{bit}
use Rattle.obd_base.proofs.lists.Sums.{bit-le, sum_same, sum_add, sum_ones, sum_swap, count_below}
use Rattle.page_surface.specs.Drawing.{Drawing, all_exits, points_on}
use Rattle.page_surface.specs.Polygon.{partner, sides}
use Rattle.drawing.specs.Pieces.{span_count}

-- a sum of numbers that are at most 2
sum_within : {X : Type 0} (f : X → ℕ) (xs : List X) → ((x : X) → f x ≤ 2) → sum_by f xs ≤ 2 * length xs
sum_within f [] h = omega arith
sum_within f (x ∷ xs) h = omega (arith, sum_by-cons f x xs, h x, sum_within f xs h)

-- the first sides have at most two points for each exit
points_sum : (d : Drawing) (t : ℕ) → sum_by (points_on d) (below t) ≤ 2 * length (all_exits d)
points_sum d t =
    let p = d.polygon in
    let es = all_exits d in
    let one = sum_same (points_on d) (λ k. sum_by (λ e. bit (eqb e.side k) + bit (eqb (partner p e.side) k)) es) (below t)
    (λ k m. sym (sum_add (λ e. bit (eqb e.side k)) (λ e. bit (eqb (partner p e.side) k)) es)) in
    let two = sum_swap (λ k e. bit (eqb e.side k) + bit (eqb (partner p e.side) k)) (below t) es in
    let three = sum_within (λ e. sum_by (λ k. bit (eqb e.side k) + bit (eqb (partner p e.side) k)) (below t)) es (λ e.
    omega (
      arith,
      sum_add (λ k. bit (eqb e.side k)) (λ k. bit (eqb (partner p e.side) k)) (below t),
      count_below e.side t,
      count_below (partner p e.side) t,
      bit-le (ltb e.side t),
      bit-le (ltb (partner p e.side) t),
    )) in
    omega (arith, one, two, three)

-- so many twos
twos : (t : ℕ) → sum_by (λ (i : ℕ). 2) (below t) ≡ 2 * t
twos t = omega (arith, sum_add (λ (i : ℕ). 1) (λ (i : ℕ). 1) (below t), sum_ones t)

-- a drawing with few points on few sides has few spans
pub spans_few : (d : Drawing) → sides d.polygon ≤ 16 → length (all_exits d) < 2 ^ 28 → span_count d < 2 ^ 30
spans_few d few_sides few =
    let n = sides d.polygon in
    omega (arith, sum_add (points_on d) (λ (i : ℕ). 2) (below n), points_sum d n, twos n, few, few_sides)
