-- All points of the surgery in order, with their labels; round the circle the labels read a word that reduces to nothing.
use Rattle.std.proofs.Common.{◌≡◌, ◌≢◌, ℕ, zero, suc, ◌+◌, ◌*◌, ◌<◌, ◌≤◌, Bool, true, false, cond, eqb, ◌||◌, List, [], ◌∷◌, ◌++◌, map, refl, sym, ◌∙◌, ap, ap₂, subst, inl, arith}
use Rattle.std.specs.List.{flat_map, range_with_len}
use Rattle.std.proofs.lemmas.Bool.{eq-eqb, ne_eqb}
use Rattle.std.proofs.lemmas.List.{append-nil, map-append}
use Rattle.std.proofs.lemmas.List.Concat.{flat_map-append, flat_map_single}
use Rattle.obd_base.specs.Lists.{Mem, below}
use Rattle.obd_base.specs.declared.points.Exit.{Exit}
use Rattle.obd_base.specs.declared.points.Sign.{Sign}
use Rattle.obd_base.proofs.lists.Below.{below_mem, below_push, mem_below}
use Rattle.obd_base.proofs.lists.Members.{mem_left, mem_right}
use Rattle.page_surface.specs.Drawing.{Drawing, IsEmbedded, chords, end_of, exit, points_on, spot}
use Rattle.page_surface.specs.Polygon.{sides}
use Rattle.curve_paths.specs.Curves.{IsCurve, curve_points}
use Rattle.curve_paths.specs.Alphabet.{Null, cancelled}
use Rattle.drawing.proofs.Lists.{flat_mem, mem_flat, mem_to_map}
use Rattle.dehn_twist.specs.Surgery.{copy_of, curve_number, is_lower, kept_point, meeting_count, merged_start, strand_number, surgery}
use Rattle.dehn_twist.proofs.Circle.{Part}
use Rattle.dehn_twist.proofs.LineOrder.{map_moved, map_on}
use Rattle.dehn_twist.proofs.MergedCircle.{beads, beads_curve, is_curve, mate, two}
use Rattle.dehn_twist.proofs.NewCircle.{copies, copies_read, copy_label, ends_rise, flat_moved, gap_reads, map-map, map_flat, map_rises, post_label, post_reads, rises_map, rows_joined, setting}
use Rattle.dehn_twist.proofs.NewPlaced.{new_placed}
use Rattle.dehn_twist.proofs.NewPlaces.{points_new}
use Rattle.dehn_twist.proofs.PartNames.{part_letters, parts_null}
use Rattle.dehn_twist.proofs.LineLabels.{lines}
use Rattle.curve_paths.proofs.CurvePoints.{In}
use Rattle.curve_paths.proofs.Members.{Rises}
use Rattle.drawing.proofs.Placed.{ends_at, one_end-placed}
use Rattle.curve_paths.proofs.PointPlaces.{from_points_from, points_from, range_join, start_suc}
use Rattle.dehn_twist.proofs.Merged.{size}

module _ (d : Drawing) (dok : IsEmbedded d) (c : List Exit) (curve : IsCurve d.polygon c) (g : Sign) where
  abbrev n : ℕ
  n = sides d.polygon

  abbrev total : ℕ
  total = meeting_count d c

  abbrev new : Drawing
  new = surgery d c g

  abbrev mc : ℕ → ℕ
  mc k = curve_points d.polygon c k

  abbrev ms : ℕ → ℕ
  ms k = points_on d k

  abbrev low : ℕ → Bool
  low k = is_lower d.polygon k

  abbrev set : ℕ → List Part
  set = setting d dok c curve g

  abbrev post : Exit → Part
  post = post_label d dok c curve g

  -- the points of a side
  abbrev slot_points : ℕ → List (Exit × Part)
  slot_points k = flat_map (λ j. copies d dok c curve g (exit k j)) (below (curve_points d.polygon c k))

  abbrev old_points : ℕ → List (Exit × Part)
  old_points k = map (λ j. (kept_point d c (meeting_count d c) (exit k j), post_label d dok c curve g (exit k j))) (below (points_on d k))

  abbrev last_point : ℕ → List (Exit × Part)
  last_point k = (end_of (surgery d c g) k, post_label d dok c curve g (end_of d k)) ∷ []

  abbrev both_points : ℕ → List (Exit × Part)
  both_points k = cond (is_lower d.polygon k) (slot_points k ++ old_points k) (old_points k ++ slot_points k)

  abbrev side_points : ℕ → List (Exit × Part)
  side_points k = both_points k ++ last_point k

  -- all points
  abbrev pub new_circle : List (Exit × Part)
  new_circle = flat_map side_points (below (sides d.polygon))

  -- the points of the curve and of the strands are there
  pub copy_there : (q : Exit) (i : ℕ) → In d.polygon dok.polygon.pairs c curve q → i < meeting_count d c → Mem (copy_of d c (meeting_count d c) q i, copy_label d dok c curve g q i) new_circle
  copy_there q i h l =
      let one : Mem (copy_of d c total q i, copy_label d dok c curve g q i) (copies d dok c curve g q) = mem_to_map (λ i. (copy_of d c total q i, copy_label d dok c curve g q i)) i (below total) (below_mem total i l) in
      let two : Mem (copy_of d c total q i, copy_label d dok c curve g q i) (slot_points q.side) = mem_flat (λ j. copies d dok c curve g (exit q.side j)) (below (mc q.side)) q.place (copy_of d c total q i, copy_label d dok c curve g q i) (below_mem (mc q.side) q.place h.1) one in
      mem_flat side_points (below n) q.side (copy_of d c total q i, copy_label d dok c curve g q i) (below_mem n q.side h.0)
      (mem_left (copy_of d c total q i, copy_label d dok c curve g q i) (both_points q.side) (last_point q.side) (go (low q.side) (old_points q.side) (slot_points q.side) two))
    where
      go : (b : Bool) (os ss : List (Exit × Part)) → Mem (copy_of d c total q i, copy_label d dok c curve g q i) ss → Mem (copy_of d c total q i, copy_label d dok c curve g q i) (cond b (ss ++ os) (os ++ ss))
      go true os ss m = mem_left (copy_of d c total q i, copy_label d dok c curve g q i) ss os m
      go false os ss m = mem_right (copy_of d c total q i, copy_label d dok c curve g q i) os ss m

  -- and the strands' points
  pub kept_there : (e : Exit) → e.side < sides d.polygon → e.place < points_on d e.side → Mem (kept_point d c (meeting_count d c) e, post_label d dok c curve g e) new_circle
  kept_there e l h =
      let two : Mem (kept_point d c total e, post e) (old_points e.side) = mem_to_map (λ j. (kept_point d c total (exit e.side j), post (exit e.side j))) e.place (below (ms e.side)) (below_mem (ms e.side) e.place h) in
      mem_flat side_points (below n) e.side (kept_point d c total e, post e) (below_mem n e.side l)
      (mem_left (kept_point d c total e, post e) (both_points e.side) (last_point e.side) (go (low e.side) (slot_points e.side) (old_points e.side) two))
    where
      go : (b : Bool) (os ss : List (Exit × Part)) → Mem (kept_point d c total e, post e) ss → Mem (kept_point d c total e, post e) (cond b (os ++ ss) (ss ++ os))
      go true os ss m = mem_right (kept_point d c total e, post e) os ss m
      go false os ss m = mem_left (kept_point d c total e, post e) ss os m

  -- and the ends of sides
  pub end_there : (k : ℕ) → k < sides d.polygon → Mem (end_of (surgery d c g) k, post_label d dok c curve g (end_of d k)) new_circle
  end_there k l = mem_flat side_points (below n) k (end_of new k, post (end_of d k)) (below_mem n k l) (mem_right (end_of new k, post (end_of d k)) (both_points k) (last_point k) (inl refl))

  -- what a range of merged numbers sets
  abbrev over : ℕ → ℕ → List Part
  over a m = flat_map set (range_with_len a m)

  over_join : (a m r : ℕ) → over a (m + r) ≡ over a m ++ over (a + m) r
  over_join a m r = ap (flat_map set) (range_join a m r) ∙ flat_map-append set (range_with_len a m) (range_with_len (a + m) r)

  -- the labels of the curve's points on a side
  slots_read : (k base : ℕ) → k < n → ((j : ℕ) → j < mc k → curve_number d c (exit k j) ≡ base + j) → map (λ z. z.1) (slot_points k) ≡ over base (mc k)
  slots_read k base l h =
      map_flat (λ z. z.1) (λ j. copies d dok c curve g (exit k j)) (below (mc k))
      ∙ sym (flat_moved set (λ j. map (λ z. z.1) (copies d dok c curve g (exit k j))) base 0 (mc k) (λ i li.
      let z : i ≡ 0 + i = omega arith in
      ap set (sym (h i li))
      ∙ (sym (copies_read d dok c curve g (exit k i) (l, li))
      ∙ (sym (map-map (λ (z : Exit × Part). z.1) (λ x. (copy_of d c total (exit k i) x, copy_label d dok c curve g (exit k i) x)) (below total))
      ∙ ap (λ j. map (λ z. z.1) (copies d dok c curve g (exit k j))) z))))

  -- and of the strands' points
  olds_read : (k base : ℕ) → k < n → ((j : ℕ) → j < ms k → strand_number d c (exit k j) ≡ base + j) → map (λ z. z.1) (old_points k) ≡ over base (ms k)
  olds_read k base l h =
      map-map (λ (z : Exit × Part). z.1) (λ j. (kept_point d c total (exit k j), post (exit k j))) (below (ms k))
      ∙ (sym (flat_map_single (λ j. post (exit k j)) (below (ms k)))
      ∙ sym (flat_moved set (λ j. post (exit k j) ∷ []) base 0 (ms k) (λ i li.
      let z : i ≡ 0 + i = omega arith in
      ap set (sym (h i li)) ∙ (post_reads d dok c curve g (exit k i) (l, omega (arith, li)) ∙ ap (λ j. post (exit k j) ∷ []) z))))

  -- the labels of a side
  side_reads : (k : ℕ) → k < n → map (λ z. z.1) (side_points k) ≡ over (merged_start d c k) (mc k + ms k + 2)
  side_reads k l =
      let s = merged_start d c k in
      let e : mc k + ms k + 2 ≡ (mc k + ms k) + (1 + 1) = omega arith in
      let f : strand_number d c (end_of d k) ≡ s + (mc k + ms k) = at_end (low k) in
      let u : s + (mc k + ms k) + 1 ≡ s + (mc k + ms k + 1) = omega arith in
      map-append (λ z. z.1) (both_points k) (last_point k)
      ∙ (ap₂ (λ x y. x ++ y) (both_read (low k) refl)
      (sym (over_join (s + (mc k + ms k)) 1 1
      ∙ (ap₂ (λ x y. x ++ y) (append-nil (set (s + (mc k + ms k))) ∙ (ap set (sym f) ∙ post_reads d dok c curve g (end_of d k) (l, omega arith))) (append-nil (set (s + (mc k + ms k) + 1)) ∙ (ap set u ∙ gap_reads d dok c curve g k l))
      ∙ append-nil (post (end_of d k) ∷ []))))
      ∙ (sym (over_join s (mc k + ms k) (1 + 1)) ∙ ap (over s) (sym e)))
    where
      at_end : (b : Bool) → merged_start d c k + cond (b || eqb (ms k) (ms k)) (mc k + ms k) (ms k) ≡ merged_start d c k + (mc k + ms k)
      at_end true = refl
      at_end false = rw (eq-eqb (ms k) (ms k) refl) refl

      both_read : (b : Bool) → low k ≡ b → map (λ z. z.1) (cond (low k) (slot_points k ++ old_points k) (old_points k ++ slot_points k)) ≡ over (merged_start d c k) (mc k + ms k)
      both_read true q =
          ap (λ t. map (λ z. z.1) (cond t (slot_points k ++ old_points k) (old_points k ++ slot_points k))) q
          ∙ (map-append (λ z. z.1) (slot_points k) (old_points k)
          ∙ (ap₂ (λ x y. x ++ y) (slots_read k (merged_start d c k) l (λ j h. ap (λ t. merged_start d c k + cond t j (ms k + j)) q))
          (olds_read k (merged_start d c k + mc k) l (λ j h. ap (λ t. merged_start d c k + cond (t || eqb j (ms k)) (mc k + j) j) q ∙ (let z : merged_start d c k + (mc k + j) ≡ merged_start d c k + mc k + j = omega arith in z)))
          ∙ sym (over_join (merged_start d c k) (mc k) (ms k))))
      both_read false q =
          let e : mc k + ms k ≡ ms k + mc k = omega arith in
          ap (λ t. map (λ z. z.1) (cond t (slot_points k ++ old_points k) (old_points k ++ slot_points k))) q
          ∙ (map-append (λ z. z.1) (old_points k) (slot_points k)
          ∙ (ap₂ (λ x y. x ++ y) (olds_read k (merged_start d c k) l (λ j h. ap (λ t. merged_start d c k + cond (t || eqb j (ms k)) (mc k + j) j) q ∙ ap (λ t. merged_start d c k + cond t (mc k + j) j) (ne_eqb j (ms k) (λ s. omega (arith, s, h)))))
          (slots_read k (merged_start d c k + ms k) l (λ j h. ap (λ t. merged_start d c k + cond t j (ms k + j)) q ∙ (let z : merged_start d c k + (ms k + j) ≡ merged_start d c k + ms k + j = omega arith in z)))
          ∙ (sym (over_join (merged_start d c k) (ms k) (mc k)) ∙ ap (over (merged_start d c k)) (sym e))))

  -- the labels of all sides
  sides_read : (m : ℕ) → m ≤ n → map (λ z. z.1) (flat_map side_points (below m)) ≡ over 0 (merged_start d c m)
  sides_read zero l = refl
  sides_read (suc m) l =
      let e : merged_start d c (suc m) ≡ merged_start d c m + (mc m + ms m + 2) = start_suc (λ i. mc i + ms i) m in
      let z : 0 + merged_start d c m ≡ merged_start d c m = omega arith in
      ap (λ xs. map (λ z. z.1) (flat_map side_points xs)) (below_push m)
      ∙ (ap (map (λ z. z.1)) (flat_map-append side_points (below m) (m ∷ []) ∙ ap (λ ys. flat_map side_points (below m) ++ ys) (append-nil (side_points m)))
      ∙ (map-append (λ z. z.1) (flat_map side_points (below m)) (side_points m)
      ∙ (ap₂ (λ x y. x ++ y) (sides_read m (omega (arith, l))) (side_reads m l ∙ ap (λ a. over a (mc m + ms m + 2)) (sym z))
      ∙ (sym (over_join 0 (merged_start d c m) (mc m + ms m + 2)) ∙ ap (over 0) (sym e)))))

  -- the word round the circle reduces to nothing
  pub circle_null : Null part_letters (map (λ z. z.1) new_circle)
  circle_null =
      ap (cancelled part_letters) (sides_read n (omega arith))
      ∙ parts_null (size d dok c curve) (is_curve d dok c curve) (mate d dok c curve) (two d dok c curve) (beads d dok c curve) (beads_curve d dok c curve) (lines d dok c curve g) g

  -- the places of the points of a side
  side_exits : (k : ℕ) → map (λ z. z.0) (side_points k) ≡ points_from (points_on new) k 0 (suc (points_on new k))
  side_exits k =
      let e = points_new d dok c curve g k in
      let z : 0 + points_on new k ≡ points_on new k = omega arith in
      map-append (λ z. z.0) (both_points k) (last_point k)
      ∙ (ap (λ x. x ++ (exit k (points_on new k) ∷ [])) (both_exits ∙ ap (λ m. map (exit k) (below m)) (sym e))
      ∙ sym (ap (map (exit k)) (below_push (points_on new k)) ∙ map-append (exit k) (below (points_on new k)) (points_on new k ∷ [])))
    where
      slots_at : map (λ z. z.0) (slot_points k) ≡ flat_map (λ j. map (λ i. copy_of d c total (exit k j) i) (below total)) (below (mc k))
      slots_at =
          map_flat (λ z. z.0) (λ j. copies d dok c curve g (exit k j)) (below (mc k))
          ∙ flat_moved (λ j. map (λ z. z.0) (copies d dok c curve g (exit k j))) (λ j. map (λ i. copy_of d c total (exit k j) i) (below total)) 0 0 (mc k)
          (λ j l. map-map (λ (z : Exit × Part). z.0) (λ i. (copy_of d c total (exit k (0 + j)) i, copy_label d dok c curve g (exit k (0 + j)) i)) (below total))

      olds_at : map (λ z. z.0) (old_points k) ≡ map (λ j. kept_point d c total (exit k j)) (below (ms k))
      olds_at = map-map (λ (z : Exit × Part). z.0) (λ j. (kept_point d c total (exit k j), post (exit k j))) (below (ms k))

      slots_of : Bool → List Exit
      slots_of b = flat_map (λ j. map (λ i. exit k (cond b (j * total + i) (ms k + j * total + i))) (below total)) (below (mc k))

      olds_of : Bool → List Exit
      olds_of b = map (λ j. exit k (cond b (mc k * total + j) j)) (below (ms k))

      shifted : (a m : ℕ) → map (λ j. exit k (a + j)) (below m) ≡ map (exit k) (range_with_len a m)
      shifted a m = map_moved (λ j. exit k (a + j)) (exit k) 0 a m (λ i l. ap (exit k) (let z : a + (0 + i) ≡ a + i = omega arith in z))

      joined : (b : Bool) → cond b (slots_of b ++ olds_of b) (olds_of b ++ slots_of b) ≡ map (exit k) (below (mc k * total + ms k))
      joined true =
          let z : 0 + mc k * total ≡ mc k * total = omega arith in
          ap₂ (λ x y. x ++ y) (rows_joined (exit k) total (mc k)) (shifted (mc k * total) (ms k))
          ∙ (sym (map-append (exit k) (below (mc k * total)) (range_with_len (mc k * total) (ms k)))
          ∙ ap (map (exit k)) (ap (λ a. below (mc k * total) ++ range_with_len a (ms k)) (sym z) ∙ sym (range_join 0 (mc k * total) (ms k))))
      joined false =
          let z : 0 + ms k ≡ ms k = omega arith in
          let e : ms k + mc k * total ≡ mc k * total + ms k = omega arith in
          ap (λ y. map (exit k) (below (ms k)) ++ y)
          (flat_moved (λ j. map (λ i. exit k (ms k + j * total + i)) (below total)) (λ j. map (λ i. exit k (ms k + (j * total + i))) (below total)) 0 0 (mc k)
          (λ j l. map_on _ _ (below total) (λ i m. ap (exit k) (let z : ms k + (0 + j) * total + i ≡ ms k + ((0 + j) * total + i) = omega arith in z)))
          ∙ (rows_joined (λ x. exit k (ms k + x)) total (mc k) ∙ shifted (ms k) (mc k * total)))
          ∙ (sym (map-append (exit k) (below (ms k)) (range_with_len (ms k) (mc k * total)))
          ∙ ap (map (exit k)) (ap (λ a. below (ms k) ++ range_with_len a (mc k * total)) (sym z) ∙ (sym (range_join 0 (ms k) (mc k * total)) ∙ ap below e)))

      turn : (b : Bool) (xs ys : List (Exit × Part)) → map (λ z. z.0) (cond b (xs ++ ys) (ys ++ xs)) ≡ cond b (map (λ z. z.0) xs ++ map (λ z. z.0) ys) (map (λ z. z.0) ys ++ map (λ z. z.0) xs)
      turn true xs ys = map-append (λ z. z.0) xs ys
      turn false xs ys = map-append (λ z. z.0) ys xs

      both_exits : map (λ z. z.0) (both_points k) ≡ map (exit k) (below (mc k * total + ms k))
      both_exits = turn (low k) (slot_points k) (old_points k) ∙ (ap₂ (λ x y. cond (low k) (x ++ y) (y ++ x)) slots_at olds_at ∙ joined (low k))

  all_exits_are : map (λ z. z.0) new_circle ≡ flat_map (λ k. points_from (points_on new) k 0 (suc (points_on new k))) (below n)
  all_exits_are = map_flat (λ z. z.0) side_points (below n) ∙ flat_moved (λ k. map (λ z. z.0) (side_points k)) (λ k. points_from (points_on new) k 0 (suc (points_on new k))) 0 0 n (λ i l. side_exits (0 + i))

  -- the numbers of the points rise
  pub circle_rises : Rises (λ (z : ℕ × Part). z.0) (map (λ (z : Exit × Part). (spot (surgery d c g) z.0, z.1)) new_circle)
  circle_rises =
      map_rises (λ (z : ℕ × Part). z.0) (λ (z : Exit × Part). (spot new z.0, z.1)) new_circle
      (rises_map (spot new) (λ (z : Exit × Part). z.0) new_circle (subst (Rises (spot new)) (sym all_exits_are) (ends_rise (points_on new) 0 n)))

  -- each of them is the end of a chord
  pub circle_covered : (z : Exit × Part) → Mem z new_circle → ends_at (chords (surgery d c g)) (spot (surgery d c g) z.0) ≢ 0
  circle_covered z m e =
      let k = subst (Mem z.0) all_exits_are (mem_to_map (λ z. z.0) z new_circle m) in
      let (s, i, w) = flat_mem (λ k. points_from (points_on new) k 0 (suc (points_on new k))) (below n) z.0 k in
      let r = from_points_from (points_on new) s 0 (suc (points_on new s)) z.0 w in
      let l = mem_below n s i in
      let q : points_on new z.0.side ≡ points_on new s = ap (points_on new) r.0 in
      let o = one_end-placed new (new_placed d dok c curve g) z.0.side z.0.place (omega (arith, r.0, l)) (omega (arith, r.2, q)) in
      omega (arith, o, e)
