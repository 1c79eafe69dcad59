-- Where sides begin in a written drawing.
use Rattle.std.proofs.Common.{◌≡◌, ℕ, suc, ◌+◌, ◌*◌, ◌<◌, ◌≤◌, ◌^◌, true, eqb, ltb, List, [], ◌∷◌, map, length, get_or, take, sym, ◌∙◌, ap, subst, arith, zero-add}
use Rattle.std.specs.List.{list_all, sum_by}
use Rattle.std.proofs.lemmas.List.Sums.{sum_by-cons}
use Rattle.std.proofs.lemmas.List.FromFn.{get_or-map-range_with_len, length-map-range_with_len, take-map-range_with_len}
use Rattle.obd_base.specs.Lists.{below}
use Rattle.obd_base.specs.declared.points.Exit.{Exit}
use Rattle.obd_base.proofs.lists.Below.{bit, mem_below}
use Rattle.obd_base.proofs.lists.Sums.{bit-le, sum_same, sum_add, sum_map, sum_ones, sum_swap, count_below}
use Rattle.page_surface.specs.Drawing.{Drawing, all_exits, offset, points_on}
use Rattle.page_surface.specs.Polygon.{IsPolygon, Polygon, arc_count, partner, sides}
use Rattle.drawing.specs.Layout.{IsLaidOut, IsWritten, count_on, drawn, offsets_of}
use Rattle.drawing.specs.Pieces.{span_count}
use Rattle.drawing.proofs.Spots.{offset_rises, offset_suc}
use Rattle.obd_base.proofs.lists.Maps.{map_same}

-- a sum of numbers that are at most 2
sum_within : {X : Type 0} (f : X → ℕ) (xs : List X) → ((x : X) → f x ≤ 2) → sum_by f xs ≤ 2 * length xs
sum_within f [] h = omega arith
sum_within f (x ∷ xs) h = omega (arith, sum_by-cons f x xs, h x, sum_within f xs h)

-- the first sides have at most two points for each exit
points_sum : (d : Drawing) (t : ℕ) → sum_by (points_on d) (below t) ≤ 2 * length (all_exits d)
points_sum d t =
    let p = d.polygon in
    let es = all_exits d in
    let one = sum_same (points_on d) (λ k. sum_by (λ e. bit (eqb e.side k) + bit (eqb (partner p e.side) k)) es) (below t)
    (λ k m. sym (sum_add (λ e. bit (eqb e.side k)) (λ e. bit (eqb (partner p e.side) k)) es)) in
    let two = sum_swap (λ k e. bit (eqb e.side k) + bit (eqb (partner p e.side) k)) (below t) es in
    let three = sum_within (λ e. sum_by (λ k. bit (eqb e.side k) + bit (eqb (partner p e.side) k)) (below t)) es (λ e.
    omega (
      arith,
      sum_add (λ k. bit (eqb e.side k)) (λ k. bit (eqb (partner p e.side) k)) (below t),
      count_below e.side t,
      count_below (partner p e.side) t,
      bit-le (ltb e.side t),
      bit-le (ltb (partner p e.side) t),
    )) in
    omega (arith, one, two, three)

-- so many twos
twos : (t : ℕ) → sum_by (λ (i : ℕ). 2) (below t) ≡ 2 * t
twos t = omega (arith, sum_add (λ (i : ℕ). 1) (λ (i : ℕ). 1) (below t), sum_ones t)

-- where a side begins can be told in 30 bits
pub offset_within : (d : Drawing) (t : ℕ) → IsWritten d → t ≤ sides d.polygon → offset d t < 2 ^ 30
offset_within d t ok l = omega (arith, sum_add (points_on d) (λ (i : ℕ). 2) (below t), points_sum d t, twos t, ok.few, ok.few_sides)

-- from the counts of points: where a side begins
pub offset_of_counts : (d : Drawing) (counts : List ℕ) (k : ℕ) → counts ≡ map (points_on d) (below (sides d.polygon)) → k ≤ sides d.polygon
    → sum_by (λ count. count + 2) (take k counts) ≡ offset d k
offset_of_counts d counts k is l =
    ap (λ (cs : List ℕ). sum_by (λ count. count + 2) (take k cs)) is
    ∙ (ap (sum_by (λ count. count + 2)) (take-map-range_with_len (points_on d) 0 (sides d.polygon) k l)
    ∙ sum_map (λ count. count + 2) (points_on d) (below k))

-- and all together
pub offset_total : (d : Drawing) (counts : List ℕ) → IsWritten d → counts ≡ map (points_on d) (below (sides d.polygon)) → sum_by (λ count. count + 2) counts < 2 ^ 30
offset_total d counts ok is =
    let n = sides d.polygon in
    let a : sum_by (λ count. count + 2) counts ≡ offset d n
    = ap (sum_by (λ count. count + 2)) is ∙ sum_map (λ count. count + 2) (points_on d) (below n) in
    omega (arith, a, offset_within d n ok (omega arith))

-- the table of where sides begin, from the counts
pub offsets_from_counts : (d : Drawing) (counts offsets : List ℕ) → counts ≡ map (points_on d) (below (sides d.polygon))
    → offsets ≡ map (λ k. sum_by (λ count. count + 2) (take k counts)) (below (suc (length counts))) → offsets ≡ offsets_of d
offsets_from_counts d counts offsets is table =
    let size : length counts ≡ sides d.polygon = ap length is ∙ length-map-range_with_len (points_on d) 0 (sides d.polygon) in
    table ∙ (ap (λ (n : ℕ). map (λ k. sum_by (λ count. count + 2) (take k counts)) (below (suc n))) size
    ∙ map_same (λ k. sum_by (λ count. count + 2) (take k counts)) (offset d) (below (suc (sides d.polygon)))
    (λ k m. offset_of_counts d counts k is (let l = mem_below (suc (sides d.polygon)) k m in omega arith)))

module _ (made d : Drawing) (seen : made ≡ d) (offsets : List ℕ) (laid : IsLaidOut made offsets) where
  -- it is laid out as the drawing that contracts see
  pub seen_laid : IsLaidOut d offsets
  seen_laid = subst (λ (x : Drawing). IsLaidOut x offsets) seen laid

  -- one entry more than sides
  pub offset_count : length offsets ≡ suc (sides d.polygon)
  offset_count = ap length seen_laid.offsets_are ∙ length-map-range_with_len (offset d) 0 (suc (sides d.polygon))

  -- the entry of a side
  pub offset_read : (k : ℕ) → k ≤ sides d.polygon → get_or offsets k 0 ≡ offset d k
  offset_read k l = ap (λ (xs : List ℕ). get_or xs k 0) seen_laid.offsets_are ∙ get_or-map-range_with_len (offset d) 0 (suc (sides d.polygon)) k k 0 (omega arith) (zero-add k)

  -- it fits
  pub offset_fits : (k : ℕ) → k ≤ sides d.polygon → offset d k < 2 ^ 30
  offset_fits k l = offset_within d k seen_laid.written l

  -- the entry where a point stands leaves room for its place
  pub spot_read : (n k : ℕ) → n ≡ k → k < sides d.polygon → (get_or offsets n 0 ≡ offset d k) × (offset d k + points_on d k + 2 < 2 ^ 30)
  spot_read n k e l =
      (ap (λ (j : ℕ). get_or offsets j 0) e ∙ offset_read k (omega arith), omega (arith, offset_suc d k, ap (offset d) (let next : k + 1 ≡ suc k = omega arith in next), offset_fits (k + 1) (omega arith)))

  -- two entries that follow one another
  pub points_read : (n k : ℕ) → n ≡ k → k < sides d.polygon → get_or offsets (n + 1) 0 ≡ get_or offsets n 0 + (points_on d k + 2)
  points_read n k e l =
      let next : k + 1 ≡ suc k = omega arith in
      let a : get_or offsets (n + 1) 0 ≡ offset d (suc k) = ap (λ (j : ℕ). get_or offsets (j + 1) 0) e ∙ (offset_read (k + 1) (omega arith) ∙ ap (offset d) next) in
      let b : get_or offsets n 0 ≡ offset d k = ap (λ (j : ℕ). get_or offsets j 0) e ∙ offset_read k (omega arith) in
      omega (arith, a, b, offset_suc d k)

-- a drawing as it is laid out from its counts
pub laid_out : (p : Polygon) (strands : List (List Exit)) (counts shown offsets : List ℕ) → IsWritten (drawn p strands)
    → counts ≡ map (count_on p (all_exits (drawn p strands))) (below (sides p)) → shown ≡ counts
    → offsets ≡ map (λ k. sum_by (λ count. count + 2) (take k shown)) (below (suc (length shown))) → IsLaidOut (drawn p strands) offsets
laid_out p strands counts shown offsets ok counted same table = record { written = ok; offsets_are = offsets_from_counts (drawn p strands) shown offsets (same ∙ counted) table }

-- what makes a written drawing
pub as_written : (p : Polygon) (strands : List (List Exit)) → IsPolygon p → sides p ≤ 16 → length strands ≡ arc_count p
    → list_all (λ e. ltb e.side (sides p)) (all_exits (drawn p strands)) ≡ true → length (all_exits (drawn p strands)) < 2 ^ 28 → IsWritten (drawn p strands)
as_written p strands ok few count on most = record { polygon = ok; few_sides = few; strand_count = count; on_sides = on; few = most }

-- a point of a side, and its end, have numbers of the place order that are not the last
pub spot_inside : (d : Drawing) (k j x : ℕ) → k < sides d.polygon → j ≤ points_on d k → x ≡ offset d k → x + j + 1 < span_count d
spot_inside d k j x lk lj e = omega (arith, e, offset_rises d k (sides d.polygon) lk)

-- the last entry is the number of all
pub total_read : (p : Polygon) (strands : List (List Exit)) (d : Drawing) (seen : drawn p strands ≡ d) (offsets : List ℕ) (laid : IsLaidOut (drawn p strands) offsets)
    → (n : ℕ) → n ≡ sides p → (n ≡ sides d.polygon) × (get_or offsets n 0 ≡ span_count d) × (span_count d < 2 ^ 30)
total_read p strands d seen offsets laid n e =
    let same : sides p ≡ sides d.polygon = ap (λ (x : Drawing). sides x.polygon) seen in
    let last : n ≡ sides d.polygon = e ∙ same in
    (last, ap (λ (j : ℕ). get_or offsets j 0) last ∙ offset_read _ d seen offsets laid (sides d.polygon) (omega arith), offset_fits _ d seen offsets laid (sides d.polygon) (omega arith))
