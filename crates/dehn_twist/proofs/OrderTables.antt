-- The tables of the merged order: how many points the sides have, and where they begin.
use Rattle.std.proofs.Common.{◌≡◌, ℕ, zero, suc, ◌+◌, ◌*◌, ◌<◌, ◌≤◌, ◌^◌, List, [], ◌∷◌, ◌++◌, map, length, get_or, sym, ◌∙◌, ap, ap₂, subst, arith, zero-add}
use Rattle.std.specs.List.{All, sum_by}
use Rattle.std.proofs.lemmas.List.FromFn.{get_or-map-range_with_len, length-map-range_with_len, map-range_with_len_more}
use Rattle.std.proofs.Math.Nat.{mul-le-mul}
use Rattle.obd_base.specs.Lists.{below}
use Rattle.obd_base.specs.declared.points.Exit.{Exit}
use Rattle.obd_base.proofs.lists.Below.{mem_below}
use Rattle.obd_base.proofs.lists.Sums.{by_entries, sum_below_push, sum_same}
use Rattle.page_surface.specs.Drawing.{Drawing, IsEmbedded, all_exits, points_on, strand_exits}
use Rattle.page_surface.specs.Polygon.{Polygon, arc_count, sides}
use Rattle.curve_paths.specs.Curves.{IsCurve, curve_points}
use Rattle.path_words.proofs.Readings.{exits_on_sides}
use Rattle.drawing.proofs.Filled.{counted_within}
use Rattle.obd_base.proofs.lists.Maps.{map_same}
use Rattle.dehn_twist.specs.Surgery.{merged_start}
use Rattle.dehn_twist.specs.Tables.{AreTaken, IsMerged, Pair}

-- a list of what a function gives grows by one
pub map_push : {X : Type 0} (f : ℕ → X) (n : ℕ) (old after : List X) (x : X) → old ≡ map f (below n) → x ≡ f n → after ≡ old ++ x ∷ [] → after ≡ map f (below (n + 1))
map_push f n old after x so_far is grown = grown ∙ (ap₂ (λ ys y. ys ++ y ∷ []) so_far is ∙ sym (map-range_with_len_more f 0 n n (omega arith)))

-- the strands one by one are all
pub rows_all : (d : Drawing) (n : ℕ) (rows : List (List Exit)) → IsEmbedded d → n ≡ arc_count d.polygon → rows ≡ map (strand_exits d) (below n) → rows ≡ d.strands
rows_all d n rows ok e is = is ∙ sym (by_entries [] d.strands n (ok.strand_count ∙ sym e))

-- one side more
pub starts_more : (f : ℕ → ℕ) (n start next : ℕ) (starts after : List ℕ) → start ≡ sum_by f (below n) → starts ≡ map (λ k. sum_by f (below k)) (below (suc n))
    → next ≡ start + f n → after ≡ starts ++ next ∷ [] → (next ≡ sum_by f (below (n + 1))) × (after ≡ map (λ k. sum_by f (below k)) (below (suc (n + 1))))
starts_more f n start next starts after here so_far is grown =
    let one : suc n ≡ n + 1 = omega arith in
    let now : next ≡ sum_by f (below (n + 1)) = (let e : sum_by f (below (suc n)) ≡ sum_by f (below (n + 1)) = ap (λ k. sum_by f (below k)) one in omega (arith, here, is, sum_below_push f n, e)) in
    let g = λ (k : ℕ). sum_by f (below k) in
    (now, map_push g (suc n) starts after next so_far (now ∙ ap g (sym one)) grown ∙ ap (λ k. map g (below k)) (let z : suc n + 1 ≡ suc (n + 1) = omega arith in z))

module _ (d : Drawing) (c : List Exit) (ok : AreTaken d c) where
  -- a side has few points of strands
  pub points_few : (k : ℕ) → points_on d k ≤ 8000
  points_few k = omega (arith, counted_within d.polygon (all_exits d) k, ok.few_points)

  -- and few of the curve
  pub counts_few : (k : ℕ) → curve_points d.polygon c k ≤ 64
  counts_few k = omega (arith, counted_within d.polygon c k, ok.few_exits)

  -- a side begins at a small number
  pub start_few : (k : ℕ) → merged_start d c k ≤ 8066 * k
  start_few zero = omega arith
  start_few (suc k) = omega (arith, sum_below_push (λ i. curve_points d.polygon c i + points_on d i + 2) k, start_few k, points_few k, counts_few k)

  -- the same of a side that there is
  pub start_room : (k : ℕ) → k < sides d.polygon → merged_start d c k + curve_points d.polygon c k + points_on d k + 2 ≤ 2 ^ 18
  start_room k l = omega (arith, start_few k, points_few k, counts_few k, l, ok.few_sides)

  -- and of the end of the last one
  pub size_few : merged_start d c (sides d.polygon) < 2 ^ 18
  size_few = omega (arith, start_few (sides d.polygon), ok.few_sides)

module _ (made seen : Pair) (same : made ≡ seen) (points counts starts : List ℕ) (kept : IsMerged made.drawing made.curve points counts starts) where
  -- the tables are those of the drawing and the curve that contracts see
  pub seen_merged : IsMerged seen.drawing seen.curve points counts starts
  seen_merged = subst (λ (x : Pair). IsMerged x.drawing x.curve points counts starts) same kept

  -- the points of strands on a side
  pub points_read : (n k : ℕ) → n ≡ k → k < sides seen.drawing.polygon → (n < length points) × (get_or points n 0 ≡ points_on seen.drawing k) × (get_or points n 0 ≤ 8000)
  points_read n k e l =
      let m = seen_merged in
      let size = ap length m.points_are ∙ length-map-range_with_len (points_on seen.drawing) 0 (sides seen.drawing.polygon) in
      let is : get_or points n 0 ≡ points_on seen.drawing k
      = ap (λ xs. get_or xs n 0) m.points_are ∙ get_or-map-range_with_len (points_on seen.drawing) 0 (sides seen.drawing.polygon) n k 0 (omega (arith, e, l)) (zero-add n ∙ e) in
      (omega (arith, size, e, l), is, omega (arith, is, points_few seen.drawing seen.curve m.taken k))

  -- those of the curve
  pub counts_read : (n k : ℕ) → n ≡ k → k < sides seen.drawing.polygon
      → (n < length counts) × (get_or counts n 0 ≡ curve_points seen.drawing.polygon seen.curve k) × (get_or counts n 0 ≤ 64)
  counts_read n k e l =
      let m = seen_merged in
      let f = curve_points seen.drawing.polygon seen.curve in
      let size = ap length m.counts_are ∙ length-map-range_with_len f 0 (sides seen.drawing.polygon) in
      let is : get_or counts n 0 ≡ curve_points seen.drawing.polygon seen.curve k
      = ap (λ xs. get_or xs n 0) m.counts_are ∙ get_or-map-range_with_len f 0 (sides seen.drawing.polygon) n k 0 (omega (arith, e, l)) (zero-add n ∙ e) in
      (omega (arith, size, e, l), is, omega (arith, is, counts_few seen.drawing seen.curve m.taken k))

  -- where a side begins
  pub starts_read : (n k : ℕ) → n ≡ k → k ≤ sides seen.drawing.polygon → (n < length starts) × (get_or starts n 0 ≡ merged_start seen.drawing seen.curve k)
  starts_read n k e l =
      let m = seen_merged in
      let f = merged_start seen.drawing seen.curve in
      let size = ap length m.starts_are ∙ length-map-range_with_len f 0 (suc (sides seen.drawing.polygon)) in
      let is : get_or starts n 0 ≡ merged_start seen.drawing seen.curve k
      = ap (λ xs. get_or xs n 0) m.starts_are ∙ get_or-map-range_with_len f 0 (suc (sides seen.drawing.polygon)) n k 0 (omega (arith, e, l)) (zero-add n ∙ e) in
      (omega (arith, size, e, l), is)

  -- where the last side ends
  pub size_read : (n : ℕ) → n ≡ sides made.drawing.polygon → (n < length starts) × (get_or starts n 0 ≡ merged_start seen.drawing seen.curve (sides seen.drawing.polygon)) × (get_or starts n 0 < 2 ^ 30)
  size_read n e =
      let k : n ≡ sides seen.drawing.polygon = e ∙ ap (λ (x : Pair). sides x.drawing.polygon) same in
      let r = starts_read n (sides seen.drawing.polygon) k (omega arith) in
      let f = size_few seen.drawing seen.curve seen_merged.taken in
      (r.0, r.1, omega (arith, r.1, f))

module _ (d : Drawing) (c : List Exit) (ok : AreTaken d c) (points counts : List ℕ) (points_are : points ≡ map (points_on d) (below (sides d.polygon)))
    (counts_are : counts ≡ map (curve_points d.polygon c) (below (sides d.polygon))) where
  -- one entry a side
  pub points_size : length points ≡ sides d.polygon
  points_size = ap length points_are ∙ length-map-range_with_len (points_on d) 0 (sides d.polygon)

  -- for the curve
  pub counts_size : length counts ≡ sides d.polygon
  counts_size = ap length counts_are ∙ length-map-range_with_len (curve_points d.polygon c) 0 (sides d.polygon)

  -- the points of a side
  pub both_read : (k : ℕ) → k < sides d.polygon → (get_or points k 0 ≡ points_on d k) × (get_or counts k 0 ≡ curve_points d.polygon c k)
  both_read k l = (
    ap (λ xs. get_or xs k 0) points_are ∙ get_or-map-range_with_len (points_on d) 0 (sides d.polygon) k k 0 l (zero-add k),
    ap (λ xs. get_or xs k 0) counts_are ∙ get_or-map-range_with_len (curve_points d.polygon c) 0 (sides d.polygon) k k 0 l (zero-add k),
  )

  -- are few
  pub both_few : (k : ℕ) → k < length points → get_or counts k 0 + get_or points k 0 ≤ 8064
  both_few k l = let r = both_read k (omega (arith, points_size, l)) in omega (arith, r, points_few d c ok k, counts_few d c ok k)

  -- the starts made from them
  pub starts_are : (starts : List ℕ) → starts ≡ map (λ k. sum_by (λ i. get_or counts i 0 + get_or points i 0 + 2) (below k)) (below (suc (length points)))
      → starts ≡ map (merged_start d c) (below (suc (sides d.polygon)))
  starts_are starts is =
      let f = λ (k : ℕ). sum_by (λ i. get_or counts i 0 + get_or points i 0 + 2) (below k) in
      is ∙ (ap (λ n. map f (below (suc n))) points_size
      ∙ map_same f (merged_start d c) (below (suc (sides d.polygon))) (λ k m.
      let l = mem_below (suc (sides d.polygon)) k m in
      sum_same _ (λ i. curve_points d.polygon c i + points_on d i + 2) (below k) (λ i j.
      let r = both_read i (let h = mem_below k i j in omega (arith, h, l)) in omega (arith, r))))

-- a curve's exits are on sides, under other names
pub exits_there : (p q : Polygon) (c es : List Exit) → IsCurve p c → q ≡ p → es ≡ c → All (λ e. e.side < sides q) es
exits_there p q c es curve e f = rw (e, f) (exits_on_sides p c curve)

-- and counted
pub counts_there : (p q : Polygon) (c es : List Exit) (counts : List ℕ) → q ≡ p → es ≡ c → counts ≡ map (curve_points q es) (below (sides q)) → counts ≡ map (curve_points p c) (below (sides p))
counts_there p q c es counts e f h = rw (e, f) at h

-- a drawing and a curve that are taken, from what is asked
pub taken_from : (d : Drawing) (c : List Exit) (p : Polygon) (n : ℕ) → IsEmbedded d → IsCurve d.polygon c → p ≡ d.polygon → n ≡ sides p → n ≤ 16 → length (all_exits d) ≤ 4000
    → 1 ≤ length c → length c ≤ 32 → AreTaken d c
taken_from d c p n ok curve same is few points some most = record {
  embedded = ok;
  curve = curve;
  few_sides = omega (arith, ap sides same, is, few);
  few_points = points;
  some_exits = some;
  few_exits = most;
}

module _ (d : Drawing) (c : List Exit) (ok : AreTaken d c) (points counts seen_points seen_counts : List ℕ) (see_points : seen_points ≡ points) (see_counts : seen_counts ≡ counts)
    (points_is : points ≡ map (points_on d) (below (sides d.polygon))) (counts_is : counts ≡ map (curve_points d.polygon c) (below (sides d.polygon))) where
  -- the tables have few entries
  pub starts_short : length seen_points ≤ 16
  starts_short = omega (arith, points_size d c ok seen_points seen_counts (see_points ∙ points_is) (see_counts ∙ counts_is), ok.few_sides)

  -- which are small
  pub starts_small : (k : ℕ) → k < length seen_points → get_or seen_counts k 0 + get_or seen_points k 0 ≤ 8064
  starts_small = both_few d c ok seen_points seen_counts (see_points ∙ points_is) (see_counts ∙ counts_is)

  -- what is made of the parts
  pub made_merged : (p : Polygon) (strands : List (List Exit)) (exits : List Exit) (starts : List ℕ) → p ≡ d.polygon → strands ≡ d.strands → exits ≡ c
      → starts ≡ map (λ k. sum_by (λ i. get_or seen_counts i 0 + get_or seen_points i 0 + 2) (below k)) (below (suc (length seen_points)))
      → IsMerged (record { polygon = p; strands = strands }) exits points counts starts
  made_merged p strands exits starts e f g starts_is =
      let s = starts_are d c ok seen_points seen_counts (see_points ∙ points_is) (see_counts ∙ counts_is) starts starts_is in
      rw (e, f, g) (record { taken = ok; points_are = points_is; counts_are = counts_is; starts_are = s })

-- new places fit their type
pub place_fits : (count lines : ℕ) → count ≤ 64 → lines ≤ 2 ^ 20 → count * lines ≤ 2 ^ 26
place_fits count lines a b = let m : count * lines ≤ 64 * 2 ^ 20 = mul-le-mul a b in omega (arith, m)

-- of a point of the curve
pub copy_fits : (d : Drawing) (c : List Exit) → AreTaken d c → (k place lines : ℕ) → place < curve_points d.polygon c k → lines ≤ 2 ^ 20 → place * lines ≤ 2 ^ 26
copy_fits d c ok k place lines l few = place_fits place lines (omega (arith, counts_few d c ok k, l)) few
