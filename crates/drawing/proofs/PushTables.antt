-- The strands and the starts of sides with the two new points of a finger, as they are written in place.
use Rattle.std.proofs.Common.{◌≡◌, ℕ, suc, ◌+◌, ◌*◌, ◌<◌, ◌≤◌, ◌^◌, cond, ltb, true, List, [], get_or, length, map, set, refl, sym, ◌∙◌, ap, ap₂, subst, arith, inl, inr, Bool}
use Rattle.std.specs.Prelude.{Vec, vec_items}
use Rattle.std.proofs.lemmas.Bool.{cases_Bool, cases_eq, lt-ltb}
use Rattle.std.proofs.lemmas.List.{get_or-map, get_or-set_other, get_or-set_same, length-map, length-set, map-set}
use Rattle.obd_base.specs.Lists.{Mem, below}
use Rattle.obd_base.specs.declared.points.Exit.{Exit}
use Rattle.obd_base.proofs.lists.Below.{bit, mem_below}
use Rattle.obd_base.proofs.lists.Maps.{map_same}
use Rattle.obd_base.proofs.lists.Sums.{by_entries}
use Rattle.page_surface.specs.Drawing.{Drawing, IsEmbedded, all_exits, exit, offset, strand_exits}
use Rattle.page_surface.specs.Polygon.{arc_count, partner, sides}
use Rattle.drawing.specs.declared.finger.Finger.{Finger}
use Rattle.drawing.specs.Fingers.{InRange, carried, glued_to, with_letters}
use Rattle.drawing.specs.Layout.{IsLaidOut}
use Rattle.drawing.specs.Pieces.{span_count}
use Rattle.drawing.specs.PushTables.{pushed_rows, raised, raised_side, with_two}
use Rattle.drawing.specs.Room.{rows}
use Rattle.drawing.proofs.Ends.{place_in, side_in}
use Rattle.drawing.proofs.LayoutTables.{offset_count, offset_fits, offset_read, spot_read}
use Rattle.drawing.proofs.Lists.{length_sum, mem_flat}
use Rattle.drawing.proofs.RoomTables.{row_read}
use Rattle.drawing.proofs.fingers.NewPlaces.{count_new, far_in, far_side, far_segment, points_new, strand_other, strand_own, sum_new, way_back, way_out}
use Rattle.drawing.proofs.tight.TwoMore.{offset_old}

-- two where a test passes
twice : (b : Bool) → 2 * bit b ≡ cond b 2 0
twice b = elim (cases_Bool b) [ inl e ↦ rw e refl | inr e ↦ rw e refl ]

module _ (g : ℕ → ℕ → ℕ) (old now : List ℕ) (side : ℕ) (so_far : (k : ℕ) → k < side → get_or now k 0 ≡ g k (get_or old k 0)) (left : (k : ℕ) → side ≤ k → get_or now k 0 ≡ get_or old k 0) where
  -- one number more is moved
  pub moved_more : (x : ℕ) → side < length now → x ≡ g side (get_or now side 0) → (k : ℕ) → k < side + 1 → get_or (set now side x) k 0 ≡ g k (get_or old k 0)
  moved_more x there is k l = elim (cases_eq k side) [
    | inl e ↦ subst (λ n. get_or (set now side x) n 0 ≡ g n (get_or old n 0)) (sym e) (get_or-set_same now side x 0 there ∙ (is ∙ ap (g side) (left side (omega arith))))
    | inr ne ↦ get_or-set_other now side k x 0 ne ∙ so_far k (omega (arith, l, ne))
  ]

  -- the others stay
  pub moved_left : (x k : ℕ) → side + 1 ≤ k → get_or (set now side x) k 0 ≡ get_or old k 0
  moved_left x k l = get_or-set_other now side k x 0 (λ e. absurd (omega (arith, l, e))) ∙ left k (omega (arith, l))

module _ {A : Type 0} (near far : Exit) (f : Finger) (o : ℕ) (vs ws : List (Vec Exit A)) (moves : rows ws ≡ map (map (raised near far)) (rows vs)) (l : f.strand < length vs)
    (i : ℕ) (here : i ≡ f.strand) (v : Vec Exit A) (is : v ≡ get_or ws i v) where
  within : i < length (rows vs)
  within = omega (arith, l, here, length-map vs vec_items)

  -- the finger's strand is there
  pub vector_there : i < length ws
  vector_there = omega (arith, within, ap length moves, length-map (rows vs) (map (raised near far)), length-map ws vec_items)

  -- with its exits moved
  row_moved : v.items ≡ map (raised near far) (get_or (rows vs) f.strand [])
  row_moved =
      row_read ws i v vector_there is
      ∙ (ap (λ rs. get_or rs i v.items) moves
      ∙ (get_or-map (map (raised near far)) (rows vs) i [] v.items within ∙ ap (λ j. map (raised near far) (get_or (rows vs) j [])) here))

  pub chord_moved : f.chord ≤ length (get_or (rows vs) f.strand []) → f.chord ≤ length v.items
  chord_moved h = omega (arith, h, ap length row_moved, length-map (get_or (rows vs) f.strand []) (raised near far))

  -- and is written with the two new points
  pub rows_two : (w : Vec Exit A) → w.items ≡ with_two f.chord (exit near.side (near.place + o)) (exit far.side (far.place + o)) v.items → rows (set ws i w) ≡ pushed_rows near far f o (rows vs)
  rows_two w made =
      let all = map (map (raised near far)) (rows vs) in
      let fits : f.strand < length (rows vs) = omega (arith, within, here) in
      let same : v.items ≡ get_or all f.strand [] = row_moved ∙ sym (get_or-map (map (raised near far)) (rows vs) f.strand [] [] fits) in
      map-set vec_items ws i w
      ∙ (ap₂ (λ rs j. set rs j w.items) moves here
      ∙ ap (set all f.strand) (made ∙ ap (with_two f.chord (exit near.side (near.place + o)) (exit far.side (far.place + o))) same))

module _ (d : Drawing) (ok : IsEmbedded d) (f : Finger) (o : ℕ) (small : o ≤ 1) (r : InRange d f) where
  -- the finger's segment
  abbrev near : Exit
  near = exit f.side f.segment

  -- all strands with their points moved
  abbrev moved : List (List Exit)
  moved = map (map (carried d f)) d.strands

  -- the finger's strand with the new points
  abbrev own : List Exit
  own = with_two f.chord (way_out d ok f o small r) (way_back d ok f o small r) (get_or moved f.strand [])

  moved_count : length moved ≡ arc_count d.polygon
  moved_count = length-map d.strands (map (carried d f)) ∙ ok.strand_count

  moved_at : (i : ℕ) → i < arc_count d.polygon → get_or moved i [] ≡ map (carried d f) (strand_exits d i)
  moved_at i l = get_or-map (map (carried d f)) d.strands i [] [] (omega (arith, l, ok.strand_count))

  row_pushed : (i : ℕ) → i < arc_count d.polygon → get_or (set moved f.strand own) i [] ≡ strand_exits (with_letters d f o) i
  row_pushed i l = elim (cases_eq i f.strand) [
    | inl e ↦
        let here : get_or (set moved f.strand own) f.strand [] ≡ own = get_or-set_same moved f.strand own [] (omega (arith, r.strand, moved_count)) in
        let made : own ≡ strand_exits (with_letters d f o) f.strand
        = ap (with_two f.chord (way_out d ok f o small r) (way_back d ok f o small r)) (moved_at f.strand r.strand) ∙ sym (strand_own d ok f o small r) in
        subst (λ j. get_or (set moved f.strand own) j [] ≡ strand_exits (with_letters d f o) j) (sym e) (here ∙ made)
    | inr ne ↦ get_or-set_other moved f.strand i own [] ne ∙ (moved_at i l ∙ sym (strand_other d ok f o small r i l ne))
  ]

  -- the strands that are written are those of the drawing with the two letters
  pub rows_pushed : pushed_rows near (glued_to d f) f o d.strands ≡ (with_letters d f o).strands
  rows_pushed =
      let n = arc_count d.polygon in
      by_entries [] (set moved f.strand own) n (length-set moved f.strand own ∙ moved_count)
      ∙ (map_same (λ i. get_or (set moved f.strand own) i []) (λ i. get_or (with_letters d f o).strands i []) (below n) (λ i m. row_pushed i (mem_below n i m))
      ∙ sym (by_entries [] (with_letters d f o).strands n (count_new d ok f o small r)))

  -- where a side begins
  pub offset_pushed : (k : ℕ) → offset (with_letters d f o) k ≡ raised_side f.side (partner d.polygon f.side) k (offset d k)
  offset_pushed k =
      let e = offset_old (with_letters d f o) d f.side (far_side d ok f o small r) f.segment (far_segment d ok f o small r) (points_new d ok f o small r) r.segment (far_in d ok f o small r) k in
      omega (arith, e, twice (ltb f.side k), twice (ltb (partner d.polygon f.side) k))

  -- four numbers more
  pub spans_pushed : span_count (with_letters d f o) ≡ span_count d + 4
  spans_pushed =
      let n = sides d.polygon in
      let a : ltb f.side n ≡ true = rw (lt-ltb f.side n r.side) refl in
      let b : ltb (partner d.polygon f.side) n ≡ true = rw (lt-ltb _ n (ok.polygon.pairs.in_range f.side r.side)) refl in
      let c : raised_side f.side (partner d.polygon f.side) n (offset d n) ≡ offset d n + 4 = rw (a, b) refl in
      offset_pushed n ∙ c

  -- two exits more
  pub exits_pushed : length (all_exits (with_letters d f o)) ≡ length (all_exits d) + 2
  exits_pushed =
      let a = sum_new d ok f o small r (λ x. 1) in
      omega (arith, a, length_sum (all_exits d), length_sum (all_exits (with_letters d f o)))

  module _ (offsets : List ℕ) (laid : IsLaidOut d offsets) where
    -- an exit of a strand has a place that can be told in 30 bits
    pub place_small : (strand : List Exit) → Mem strand d.strands → (e : Exit) → Mem e strand → e.place < 2 ^ 30
    place_small strand ms e me =
        let m = mem_flat (λ s. s) d.strands strand e ms me in
        omega (arith, place_in d ok e m, (spot_read d d refl offsets laid e.side e.side refl (side_in d ok e m)).1)

    -- and a side that can be told in 4
    pub side_small : (strand : List Exit) → Mem strand d.strands → (e : Exit) → Mem e strand → e.side < 16
    side_small strand ms e me = omega (arith, side_in d ok e (mem_flat (λ s. s) d.strands strand e ms me), laid.written.few_sides)

    -- so have the two segments
    pub near_small : f.segment < 2 ^ 30
    near_small = omega (arith, r.segment, (spot_read d d refl offsets laid f.side f.side refl r.side).1)

    pub far_small : far_segment d ok f o small r < 2 ^ 30
    far_small = let k = near_small in omega (arith, (spot_read d d refl offsets laid f.side f.side refl r.side).1)

    -- where a side begins fits
    pub start_small : (k : ℕ) → k < length offsets → get_or offsets k 0 < 2 ^ 30
    start_small k l =
        let lk : k ≤ sides d.polygon = omega (arith, l, offset_count d d refl offsets laid) in
        omega (arith, offset_read d d refl offsets laid k lk, offset_fits d d refl offsets laid k lk)

    module _ (after : IsEmbedded (with_letters d f o)) (few : length (all_exits d) + 2 < 2 ^ 28) (now : List ℕ) (size : length now ≡ length offsets)
        (moves : (k : ℕ) → k < length offsets → get_or now k 0 ≡ raised_side f.side (partner d.polygon f.side) k (get_or offsets k 0)) where
      -- the drawing with the two letters is laid out
      pub laid_pushed : IsLaidOut (with_letters d f o) now
      laid_pushed =
          let n = suc (sides d.polygon) in
          let count = offset_count d d refl offsets laid in
          let each : (k : ℕ) → Mem k (below n) → get_or now k 0 ≡ offset (with_letters d f o) k
          = λ k m.
          let l = mem_below n k m in
          moves k (omega (arith, l, count))
          ∙ (ap (raised_side f.side (partner d.polygon f.side) k) (offset_read d d refl offsets laid k (omega (arith, l))) ∙ sym (offset_pushed k)) in
          record {
            written = record {
              polygon = after.polygon;
              few_sides = laid.written.few_sides;
              strand_count = after.strand_count;
              on_sides = after.on_sides;
              few = omega (arith, few, exits_pushed);
            };
            offsets_are = by_entries 0 now n (size ∙ count) ∙ map_same (λ k. get_or now k 0) (offset (with_letters d f o)) (below n) each;
          }
