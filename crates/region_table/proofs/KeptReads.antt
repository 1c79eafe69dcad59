-- What can be read in a table that code keeps.
use Rattle.std.proofs.Common.{◌≡◌, ℕ, suc, ◌+◌, ◌*◌, ◌<◌, ◌≤◌, ◌^◌, Bool, true, false, cond, eqb, not, ◌&&◌, ◌||◌, List, [], filter, take, map, length, get_or, refl, sym, ◌∙◌, ap, subst, arith, inl, inr}
use Rattle.std.proofs.lemmas.List.{get_or_default, take_all}
use Rattle.std.proofs.lemmas.List.FromFn.{length-map-range_with_len, length-range_with_len}
use Rattle.std.specs.List.{list_all, sum_by}
use Rattle.std.proofs.lemmas.Bool.{cases_lt, eq-eqb, ne_eqb, not-false, not-true}
use Rattle.std.proofs.lemmas.List.Folds.{list_all_at, list_all_more}
use Rattle.std.proofs.lemmas.List.Sums.{count_by-le-length, length-filter, sum_by_more, sum_by_more_le}
use Rattle.std.proofs.Math.Nat.{mul-le-mul_right}
use Rattle.page_surface.specs.Drawing.{Drawing, chords, offset, strand_chords, strand_exits}
use Rattle.page_surface.specs.Polygon.{Polygon, arc_count, first_side, partner, sides}
use Rattle.drawing.specs.Pieces.{same_piece, segments_in, span_count, spans}
use Rattle.drawing.proofs.Spots.{offset_rises, offset_zero}
use Rattle.region_table.specs.Ends.{ChordNo, IsKept}
use Rattle.region_table.specs.Reads.{told_chords, told_crossings, told_points, told_spot}
use Rattle.region_table.specs.Table.{IsFresh, Region, Table, badness_of, is_good, name_at, region, region_in, share, tells_nice, told_weight}
use Rattle.region_table.proofs.SpanCount.{spans_few}
use Rattle.region_table.proofs.TableLaws.{name_count, weight_told}
use Rattle.region_table.proofs.TablePlaces.{begin_told, beside_in, chords_told, points_told, start_told}
use Rattle.region_table.proofs.TableReads.{arcs_are, points_are, sides_are}
use Rattle.region_table.proofs.WeightBound.{weight_small}
use Rattle.drawing.proofs.Diagram.{chord_count}
use Rattle.drawing.proofs.Ends.{same_count}

-- what is picked from a list is no longer
pub filter_short : {X : Type 0} (p : X → Bool) (xs : List X) → length (filter p xs) ≤ length xs
filter_short p xs = omega (arith, length-filter p xs, count_by-le-length p xs)

module _ (t : Table) (ends : List ChordNo) (kept : IsKept t ends) where
  abbrev d : Drawing
  d = kept.drawing

  -- a number for each side, and one more
  starts_long : length t.starts ≡ suc (sides t.polygon)
  starts_long = ap length kept.table.starts ∙ (length-map-range_with_len (offset d) 0 (suc (sides d.polygon)) ∙ sym (ap suc (sides_are d t kept.table)))

  few_spans : span_count d < 2 ^ 30
  few_spans = spans_few d kept.few_sides kept.few

  pub few_names : length t.names < 2 ^ 30
  few_names = omega (arith, kept.table.every_span, few_spans)

  -- where a side begins can be read,
  pub start_known : (starts : List ℕ) → starts ≡ t.starts → (side n : ℕ) → n ≡ side → side < suc (sides t.polygon) → n < length starts
  start_known starts same side n e l = omega (arith, ap length same, starts_long, e, l)

  pub start_seen : (starts : List ℕ) → starts ≡ t.starts → (side n x : ℕ) → n ≡ side → side < suc (sides t.polygon) → x ≡ get_or starts n x → x ≡ get_or t.starts side 0
  start_seen starts same side n x e l is =
      is ∙ (get_or_default starts n x 0 (start_known starts same side n e l) ∙ (ap (λ k. get_or starts k 0) e ∙ ap (λ xs. get_or xs side 0) same))

  module _ (side : ℕ) (l : side < sides t.polygon) where
    in_drawing : side < sides d.polygon
    in_drawing = omega (arith, l, sides_are d t kept.table)

    -- two numbers for the end and the gap
    pub room_there : get_or t.starts side 0 + 2 ≤ get_or t.starts (suc side) 0
    room_there = omega (arith, points_told d t kept.table side in_drawing)

    pub starts_small : get_or t.starts (suc side) 0 < 2 ^ 31
    starts_small =
        let p = points_told d t kept.table side in_drawing in
        let s = start_told d t kept.table side (omega (arith, in_drawing)) in
        omega (arith, p, s, offset_rises d side (sides d.polygon) in_drawing, few_spans)

    -- a segment has a number, and the one after it too
    pub segment_known : (segment : ℕ) → segment ≤ told_points t side → told_spot t side segment + 1 < length t.names
    segment_known segment h =
        let s = start_told d t kept.table side (omega (arith, in_drawing)) in
        omega (arith, s, points_are d t kept.table side l, h, offset_rises d side (sides d.polygon) in_drawing, kept.table.every_span)

  -- the two sides of an arc have as many points
  pub points_beyond : (a : ℕ) → a < arc_count t.polygon → told_points t (partner t.polygon (first_side t.polygon a)) ≡ told_crossings t a
  points_beyond a la =
      let ok = kept.embedded in
      let la_d : a < arc_count d.polygon = omega (arith, la, arcs_are d t kept.table) in
      let f : first_side d.polygon a < sides d.polygon = ok.polygon.first_in_range a la_d in
      let g : partner d.polygon (first_side d.polygon a) < sides d.polygon = ok.polygon.pairs.in_range (first_side d.polygon a) f in
      let same : (q : Polygon) → q ≡ d.polygon → told_points t (partner q (first_side q a)) ≡ told_points t (first_side q a)
      = λ q e. subst (λ r. told_points t (partner r (first_side r a)) ≡ told_points t (first_side r a)) (sym e)
      (points_are d t kept.table (partner d.polygon (first_side d.polygon a)) (omega (arith, g, sides_are d t kept.table))
      ∙ (same_count d ok (first_side d.polygon a) ∙ sym (points_are d t kept.table (first_side d.polygon a) (omega (arith, f, sides_are d t kept.table)))))
      in
      same t.polygon kept.table.polygon

  -- sides of an arc
  pub first_known : (a : ℕ) → a < arc_count t.polygon → first_side t.polygon a < sides t.polygon
  first_known a la = subst (λ q. (a < arc_count q) → first_side q a < sides q) (sym kept.table.polygon) (λ l. kept.embedded.polygon.first_in_range a l) la

  pub second_known : (a : ℕ) → a < arc_count t.polygon → partner t.polygon (first_side t.polygon a) < sides t.polygon
  second_known a la =
      subst (λ q. (a < arc_count q) → partner q (first_side q a) < sides q) (sym kept.table.polygon) (λ l. kept.embedded.polygon.pairs.in_range (first_side d.polygon a) (kept.embedded.polygon.first_in_range a l)) la

  -- a chord begins before a span
  pub begin_known : (strand chord : ℕ) → strand < arc_count t.polygon → chord < told_chords t strand → get_or (get_or t.begins strand []) chord 0 + 1 < length t.names
  begin_known strand chord ls lc =
      let ls_d : strand < arc_count d.polygon = omega (arith, ls, arcs_are d t kept.table) in
      let lc_d : chord ≤ length (strand_exits d strand) = omega (arith, lc, chords_told d t kept.table strand ls_d) in
      omega (arith, begin_told d t kept.table strand chord ls_d lc_d, (beside_in d kept.embedded strand chord ls_d lc_d).1, kept.table.every_span)

  -- a piece that isn't base has no more segments than there are spans
  pub size_small : (p : ℕ) → p < length t.regions → (region t p).base ≡ false → (region t p).size < 2 ^ 30
  size_small p l inner =
      let (s, ls, e) = kept.table.used p l in
      let here : (region t (name_at t s)).base ≡ false = ap (λ q. (region t q).base) e ∙ inner in
      let size : (region t p).size ≡ length (segments_in d s) = ap (λ q. (region t q).size) (sym e) ∙ kept.table.size s ls (sym (kept.table.base s ls) ∙ here) in
      let few = filter_short (same_piece (chords d) s) (spans d) in
      omega (arith, size, few, length-range_with_len 0 (span_count d), few_spans)

-- a piece as it is read
pub region_seen : (t : Table) (regions : List Region) (p n : ℕ) (x : Region) → regions ≡ t.regions → n ≡ p → p < length t.regions → x ≡ get_or regions n x → x ≡ region t p
region_seen t regions p n x same e l is =
    is ∙ (ap (λ k. get_or regions k x) e ∙ (ap (λ rs. get_or rs p x) same ∙ get_or_default t.regions p x (record { base = false; first = 0; size = 0; distance = 0 }) l))

-- the row of a strand as it is read
pub row_seen : (t : Table) (begins : List (List ℕ)) (i n : ℕ) (row : List ℕ) → begins ≡ t.begins → n ≡ i → row ≡ get_or begins n [] → row ≡ get_or t.begins i []
row_seen t begins i n row same e is = is ∙ (ap (λ k. get_or begins k []) e ∙ ap (λ rs. get_or rs i []) same)

-- a row for each strand
pub rows_known : (t : Table) (ends : List ChordNo) → IsKept t ends → length t.begins ≡ arc_count t.polygon
rows_known t ends kept =
    ap length kept.table.begins ∙ (length-map-range_with_len (λ i. map (λ c. c.from) (strand_chords kept.drawing i)) 0 (arc_count kept.drawing.polygon) ∙ sym (arcs_are kept.drawing t kept.table))

-- the weight told by a fresh table is small
pub few_weight : (t : Table) (ends : List ChordNo) → IsKept t ends → IsFresh t → told_weight t < 2 ^ 60
few_weight t ends kept fresh =
    let d = fresh.drawing in
    let ok = fresh.embedded in
    let spans : span_count d < 2 ^ 30 = omega (arith, few_names t ends kept, fresh.table.every_span) in
    let chords_few : length (chords d) < 2 ^ 29 = omega (
      arith,
      chord_count d ok.strand_count,
      name_count d t fresh.table ok,
      name_count kept.drawing t kept.table kept.embedded,
      kept.few,
      kept.few_sides,
    ) in
    let a = mul-le-mul_right (length (chords d)) (let l : span_count d ≤ 2 ^ 30 = omega (arith, spans) in l) in
    omega (arith, weight_told d t fresh.table fresh.distances, weight_small d ok, a, chords_few)

-- what the next piece adds to the weight so far is within the whole
pub next_share : (regions : List Region) (i : ℕ) (seen : Region) (bad : ℕ) → seen ≡ region_in regions i → i < length regions → not seen.base ≡ true → bad ≡ badness_of seen
    → sum_by share (take i regions) + bad * seen.distance ≤ sum_by share regions
next_share regions i seen bad same l inner e =
    let here : share (region_in regions i) ≡ bad * seen.distance = ap share (sym same) ∙ (ap (λ b. cond b 0 (badness_of seen * seen.distance)) (not-true _ inner) ∙ ap (λ n. n * seen.distance) (sym e)) in
    omega (arith, sum_by_more_le share regions i (record { base = false; first = 0; size = 0; distance = 0 }) l, here)

-- and is added,
pub share_more : (regions : List Region) (i n : ℕ) (seen : Region) (bad : ℕ) → seen ≡ region_in regions i → i < length regions → not seen.base ≡ true → bad ≡ badness_of seen
    → n ≡ sum_by share (take i regions) → n + bad * seen.distance ≡ sum_by share (take (i + 1) regions)
share_more regions i n seen bad same l inner e is =
    let here : share (region_in regions i) ≡ bad * seen.distance = ap share (sym same) ∙ (ap (λ b. cond b 0 (badness_of seen * seen.distance)) (not-true _ inner) ∙ ap (λ n. n * seen.distance) (sym e)) in
    omega (arith, sum_by_more share regions i (record { base = false; first = 0; size = 0; distance = 0 }) l, here, is)

-- but a base piece adds none
pub share_none : (regions : List Region) (i n : ℕ) (seen : Region) → seen ≡ region_in regions i → i < length regions → not seen.base ≡ false
    → n ≡ sum_by share (take i regions) → n ≡ sum_by share (take (i + 1) regions)
share_none regions i n seen same l base is =
    let here : share (region_in regions i) ≡ 0 = ap share (sym same) ∙ ap (λ b. cond b 0 (badness_of seen * seen.distance)) (not-false _ base) in
    omega (arith, sum_by_more share regions i (record { base = false; first = 0; size = 0; distance = 0 }) l, here, is)

-- all pieces are read
pub nice_done : (t : Table) (i : ℕ) → length t.regions ≤ i → list_all is_good (take i t.regions) ≡ true → true ≡ tells_nice t
nice_done t i done good = sym (ap (list_all is_good) (sym (take_all i t.regions done)) ∙ good)

-- one of them is bad
pub nice_not : (t : Table) (i : ℕ) (seen : Region) → seen ≡ region_in t.regions i → i < length t.regions → not seen.base ≡ true → 2 < seen.size → false ≡ tells_nice t
nice_not t i seen same l inner many =
    let bad : is_good (region_in t.regions i) ≡ false = ap is_good (sym same) ∙ (ap (λ b. b || eqb (badness_of seen) 0) (not-true _ inner) ∙ ne_eqb (badness_of seen) 0 (λ e. absurd (omega (arith, e, many)))) in
    sym (list_all_at is_good t.regions i (record { base = false; first = 0; size = 0; distance = 0 }) l bad)

-- the next one is good
pub nice_more : (regions : List Region) (i : ℕ) (seen : Region) → seen ≡ region_in regions i → i < length regions → is_good seen ≡ true → list_all is_good (take i regions) ≡ true
    → list_all is_good (take (i + 1) regions) ≡ true
nice_more regions i seen same l good all =
    list_all_more is_good regions i (record { base = false; first = 0; size = 0; distance = 0 }) l ∙ (ap (λ b. b && is_good (region_in regions i)) all ∙ (ap is_good (sym same) ∙ good))

-- a base piece is good, and so is one with few segments
pub base_good : (seen : Region) → not seen.base ≡ false → is_good seen ≡ true
base_good seen base = ap (λ b. b || eqb (badness_of seen) 0) (not-false _ base)

pub few_good : (seen : Region) → seen.size ≤ 2 → is_good seen ≡ true
few_good seen few = ap (λ b. seen.base || b) (eq-eqb (badness_of seen) 0 (omega (arith, few))) ∙ or-true seen.base
  where
    or-true : (b : Bool) → (b || true) ≡ true
    or-true true = refl
    or-true false = refl

-- the whole weight is added
pub weight_done : (t : Table) (i n : ℕ) → length t.regions ≤ i → n ≡ sum_by share (take i t.regions) → n ≡ told_weight t
weight_done t i n done is = is ∙ ap (sum_by share) (take_all i t.regions done)

module _ (t : Table) (ends : List ChordNo) (kept : IsKept t ends) where
  -- the first side begins at 0,
  pub first_start : get_or t.starts 0 0 ≡ 0
  first_start = start_told kept.drawing t kept.table 0 (omega arith) ∙ offset_zero kept.drawing

  pub some_side : 0 < sides t.polygon
  some_side = omega (arith, sides_are kept.drawing t kept.table, kept.embedded.polygon.not_empty)

  -- and the last one ends behind all spans
  pub last_start : get_or t.starts (sides t.polygon) 0 ≡ length t.names
  last_start =
      ap (λ n. get_or t.starts n 0) (sides_are kept.drawing t kept.table)
      ∙ (start_told kept.drawing t kept.table (sides kept.drawing.polygon) (omega arith) ∙ sym kept.table.every_span)

  -- so a side that ends before a span isn't the last one
  pub not_last : (side span n : ℕ) → n ≡ side + 1 → side < sides t.polygon → get_or t.starts n 0 ≤ span → span < length t.names → n < sides t.polygon
  not_last side span n e l from to = elim (cases_lt n (sides t.polygon)) [
    | inl q ↦ q
    | inr q ↦ (let same : n ≡ sides t.polygon = omega (arith, q, l, e) in absurd (omega (arith, ap (λ k. get_or t.starts k 0) same, last_start, from, to)))
  ]
