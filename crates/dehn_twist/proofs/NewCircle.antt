-- The circle of the surgery: its points in order with their labels, which read what the surgery sets round the merged circle.
use Rattle.std.proofs.Common.{◌≡◌, ◌≢◌, ℕ, zero, suc, ◌+◌, ◌-◌, ◌*◌, ◌<◌, ◌≤◌, Bool, true, false, cond, ltb, not, List, [], ◌∷◌, ◌++◌, map, length, refl, sym, ◌∙◌, ap, ap₂, subst, inl, inr, arith}
use Rattle.std.specs.List.{flat_map, range_with_len}
use Rattle.std.proofs.lemmas.Bool.{cases_eq, cases_lt, cases_order}
use Rattle.std.proofs.lemmas.List.{append-nil, map-append}
use Rattle.std.proofs.lemmas.List.Concat.{flat_map-append}
use Rattle.std.proofs.Math.Nat.{suc-mul}
use Rattle.obd_base.specs.Lists.{below}
use Rattle.obd_base.specs.declared.points.Exit.{Exit}
use Rattle.obd_base.specs.declared.points.Sign.{Sign}
use Rattle.obd_base.proofs.lists.Below.{below_push, mem_range}
use Rattle.obd_base.proofs.lists.Members.{mem_map, mem_right}
use Rattle.page_surface.specs.Drawing.{Chord, Drawing, IsEmbedded, chords, exit, points_on, spot}
use Rattle.page_surface.specs.Polygon.{Pairs, sides}
use Rattle.curve_paths.specs.Curves.{IsCurve, curve_points, previous}
use Rattle.drawing.proofs.Lists.{flat_mem, mem_to_map}
use Rattle.drawing.specs.Round.{other_end}
use Rattle.obd_base.proofs.lists.Sums.{member_adds}
use Rattle.std.proofs.lemmas.List.Sums.{sum_by-append}
use Rattle.dehn_twist.specs.Surgery.{chord_at, chord_end, chord_start, copy_of, curve_number, goes_up, is_chord_end, is_lower, meeting_count, meetings_upto, merged_chords, merged_curve, merged_start, strand_number, surgery}
use Rattle.dehn_twist.proofs.Blocks.{outside_above, outside_below, outside_not}
use Rattle.dehn_twist.proofs.Circle.{Part, outside, part_name, set_at}
use Rattle.dehn_twist.proofs.CopyPlaces.{line_with}
use Rattle.dehn_twist.proofs.CurveRing.{EndOf, at_end, at_start, chord_at_end, chord_at_start, is_first, is_last, which_end}
use Rattle.dehn_twist.proofs.LineOrder.{map_moved, map_on}
use Rattle.dehn_twist.proofs.Merged.{Stands, chords_moved, curve_end_of, is_placed', one_end_each, strand_end_of, strand_moved, strand_number_is, strand_rises}
use Rattle.dehn_twist.proofs.MovedChords.{moved_ends}
use Rattle.dehn_twist.proofs.MergedCircle.{at_strand, beads, is_curve, mate}
use Rattle.dehn_twist.proofs.PartNames.{part_letters}
use Rattle.dehn_twist.proofs.LineLabels.{is_inside, label, lines, part}
use Rattle.dehn_twist.proofs.PointWords.{word_end, word_start}
use Rattle.dehn_twist.proofs.TwoLists.{ends_twice, no_end_is}
use Rattle.dehn_twist.proofs.TwoSorts.{old_place, old_within, slot_place, slot_within}
use Rattle.curve_paths.proofs.CurvePoints.{In}
use Rattle.drawing.proofs.Mates.{Joins, chord_here, other_joins, other_stays}
use Rattle.curve_paths.proofs.Members.{Rises, rises_join}
use Rattle.drawing.proofs.Placed.{ends_at, ends_of, one_end-placed}
use Rattle.curve_paths.proofs.PointPlaces.{from_points_from, less_number, number, points_from, points_from_rise, range_join, start_of, starts_rise}

-- two maps are one
pub map-map : {X Y Z : Type 0} (f : Y → Z) (g : X → Y) (xs : List X) → map f (map g xs) ≡ map (λ x. f (g x)) xs
map-map f g [] = refl
map-map f g (x ∷ xs) = ap (λ z. f (g x) ∷ z) (map-map f g xs)

-- a map over joined lists
pub map_flat : {X Y Z : Type 0} (f : Y → Z) (g : X → List Y) (xs : List X) → map f (flat_map g xs) ≡ flat_map (λ x. map f (g x)) xs
map_flat f g [] = refl
map_flat f g (x ∷ xs) = map-append f (g x) (flat_map g xs) ∙ ap (λ z. map f (g x) ++ z) (map_flat f g xs)

-- joined lists over a range moved
pub flat_moved : {Y : Type 0} (f g : ℕ → List Y) (a b n : ℕ) → ((i : ℕ) → i < n → f (a + i) ≡ g (b + i)) → flat_map f (range_with_len a n) ≡ flat_map g (range_with_len b n)
flat_moved f g a b zero h = refl
flat_moved f g a b (suc n) h =
    let e : a ≡ a + 0 = omega arith in
    let k : b + 0 ≡ b = omega arith in
    ap₂ (λ y ys. y ++ ys) (ap f e ∙ (h 0 (omega arith) ∙ ap g k))
    (flat_moved f g (a + 1) (b + 1) n (λ i l.
    let u : a + 1 + i ≡ a + suc i = omega arith in
    let v : b + suc i ≡ b + 1 + i = omega arith in
    ap f u ∙ (h (suc i) (omega (arith, l)) ∙ ap g v)))

-- rows of places one after another
pub rows_joined : {Y : Type 0} (f : ℕ → Y) (t m : ℕ) → flat_map (λ j. map (λ i. f (j * t + i)) (below t)) (below m) ≡ map f (below (m * t))
rows_joined f t zero = let z : 0 ≡ 0 * t = omega arith in ap (λ n. map f (below n)) z
rows_joined f t (suc m) =
    let g = λ (j : ℕ). map (λ i. f (j * t + i)) (below t) in
    let z : 0 + m * t ≡ m * t = omega arith in
    ap (flat_map g) (below_push m)
    ∙ (flat_map-append g (below m) (m ∷ [])
    ∙ (ap₂ (λ x y. x ++ y) (rows_joined f t m) (append-nil (g m) ∙ map_moved (λ i. f (m * t + i)) f 0 (m * t) t (λ i l. ap f (let z : m * t + (0 + i) ≡ m * t + i = omega arith in z)))
    ∙ (sym (map-append f (below (m * t)) (range_with_len (m * t) t))
    ∙ ap (map f) (ap (λ k. below (m * t) ++ range_with_len k t) (sym z) ∙ (sym (range_join 0 (m * t) t) ∙ ap below (sym (suc-mul m t)))))))

-- rising numbers of what a map gives
pub rises_map : {X Y : Type 0} (f : Y → ℕ) (g : X → Y) (xs : List X) → Rises f (map g xs) → Rises (λ x. f (g x)) xs
rises_map f g [] h = tt
rises_map f g (x ∷ xs) h = ((λ y m. h.0 (g y) (mem_to_map g y xs m)), rises_map f g xs h.1)

-- and the other way
pub map_rises : {X Y : Type 0} (f : Y → ℕ) (g : X → Y) (xs : List X) → Rises (λ x. f (g x)) xs → Rises f (map g xs)
map_rises f g [] h = tt
map_rises f g (x ∷ xs) h = ((λ y m. let r = mem_map g y xs m in subst (λ z. f (g x) < f z) (sym r.2) (h.0 r.0 r.1)), map_rises f g xs h.1)

-- all points and ends of sides rise
pub ends_rise : (count : ℕ → ℕ) (a n : ℕ) → Rises (number count) (flat_map (λ k. points_from count k 0 (suc (count k))) (range_with_len a n))
ends_rise count a zero = tt
ends_rise count a (suc n) =
    rises_join (number count) (points_from count a 0 (suc (count a))) (flat_map (λ k. points_from count k 0 (suc (count k))) (range_with_len (a + 1) n))
    (points_from_rise count a 0 (suc (count a))) (ends_rise count (a + 1) n)
    (λ x y m k.
    let r = from_points_from count a 0 (suc (count a)) x m in
    let (s, i, w) = flat_mem (λ k. points_from count k 0 (suc (count k))) (range_with_len (a + 1) n) y k in
    let b = mem_range (a + 1) n s i in
    let v = from_points_from count s 0 (suc (count s)) y w in
    let q : count x.side ≡ count a = ap count r.0 in
    less_number count x y (omega (arith, r.2, q)) (inl (omega (arith, r.0, v.0, b.0))))

module _ (d : Drawing) (dok : IsEmbedded d) (c : List Exit) (curve : IsCurve d.polygon c) (g : Sign) where
  abbrev ok : Pairs d.polygon
  ok = dok.polygon.pairs

  abbrev n : ℕ
  n = sides d.polygon

  abbrev total : ℕ
  total = meeting_count d c

  abbrev new : Drawing
  new = surgery d c g

  abbrev mc : ℕ → ℕ
  mc k = curve_points d.polygon c k

  abbrev ms : ℕ → ℕ
  ms k = points_on d k

  abbrev low : ℕ → Bool
  low k = is_lower d.polygon k

  -- what the surgery sets at a number
  abbrev pub setting : ℕ → List Part
  setting x = set_at part_letters (is_curve d dok c curve) (mate d dok c curve) (part_name (mate d dok c curve) (beads d dok c curve)) (lines d dok c curve g) g x

  -- the label of a copied point
  abbrev pub copy_label : Exit → ℕ → Part
  copy_label q i = cond (is_chord_end c q)
      (label d dok c curve (chord_at d.polygon c q) (is_inside d dok c curve g (goes_up (merged_curve d c (chord_at d.polygon c q)))) (line_with g (meeting_count d c) (meetings_upto d c (suc (chord_at d.polygon c q))) i))
      (label d dok c curve (chord_at d.polygon c q) (is_inside d dok c curve g (not (goes_up (merged_curve d c (chord_at d.polygon c q)))))
      (line_with g (meeting_count d c) (meetings_upto d c (suc (previous (length c) (chord_at d.polygon c q)))) (meeting_count d c - 1 - i)))

  -- and of a strand's point
  abbrev pub post_label : Exit → Part
  post_label e = part d dok c curve (strand_number d c e) (cond (ltb (mate d dok c curve (strand_number d c e)) (strand_number d c e)) (strand_number d c e) (suc (strand_number d c e)))

  -- the label at the end of a chord
  pub label_at_end : (a i : ℕ) → a < length c → copy_label (chord_end c a) i
      ≡ label d dok c curve a (is_inside d dok c curve g (goes_up (merged_curve d c a))) (line_with g (meeting_count d c) (meetings_upto d c (suc a)) i)
  label_at_end a i l =
      rw (at_end d.polygon ok c curve a l)
      (ap (λ z. label d dok c curve z (is_inside d dok c curve g (goes_up (merged_curve d c z))) (line_with g total (meetings_upto d c (suc z)) i)) (rw (at_end d.polygon ok c curve a l) at (chord_at_end d.polygon ok c curve a l)))

  -- and at its start
  pub label_at_start : (a i : ℕ) → a < length c → copy_label (chord_start d.polygon c a) i
      ≡ label d dok c curve a (is_inside d dok c curve g (not (goes_up (merged_curve d c a)))) (line_with g (meeting_count d c) (meetings_upto d c (suc (previous (length c) a))) (meeting_count d c - 1 - i))
  label_at_start a i l =
      rw (at_start d.polygon ok c curve a l)
      (ap (λ z. label d dok c curve z (is_inside d dok c curve g (not (goes_up (merged_curve d c z)))) (line_with g total (meetings_upto d c (suc (previous (length c) z))) (total - 1 - i)))
      (rw (at_start d.polygon ok c curve a l) at (chord_at_start d.polygon ok c curve a l)))

  -- the copies of a point with their labels
  abbrev pub copies : Exit → List (Exit × Part)
  copies q = map (λ i. (copy_of d c (meeting_count d c) q i, copy_label q i)) (below (meeting_count d c))

  -- what the copies of a point read
  pub copies_read : (q : Exit) → In d.polygon ok c curve q → map (λ i. copy_label q i) (below total) ≡ setting (curve_number d c q)
  copies_read q h = go (which_end d.polygon ok c curve q h)
    where
      go : EndOf d.polygon ok c curve q → map (λ i. copy_label q i) (below total) ≡ setting (curve_number d c q)
      go (is_last a l e) =
          ap (λ z. map (λ i. copy_label z i) (below total)) e
          ∙ (map_on _ _ (below total) (λ i m. label_at_end a i l)
          ∙ (sym (map-map (label d dok c curve a (is_inside d dok c curve g (goes_up (merged_curve d c a)))) (λ i. line_with g total (meetings_upto d c (suc a)) i) (below total))
          ∙ (word_end d dok c curve a l g ∙ ap (λ z. setting (curve_number d c z)) (sym e))))
      go (is_first a l e) =
          ap (λ z. map (λ i. copy_label z i) (below total)) e
          ∙ (map_on _ _ (below total) (λ i m. label_at_start a i l)
          ∙ (sym (map-map (label d dok c curve a (is_inside d dok c curve g (not (goes_up (merged_curve d c a))))) (λ i. line_with g total (meetings_upto d c (suc (previous (length c) a))) (total - 1 - i)) (below total))
          ∙ (word_start d dok c curve a l g ∙ ap (λ z. setting (curve_number d c z)) (sym e))))

  -- a strand's point has a mate
  pub post_end : (e : Exit) → Stands d dok c curve e → ends_at (merged_chords d c) (strand_number d c e) ≡ 1
  post_end e h =
      ap₂ (λ cs x. ends_at cs x) (chords_moved d dok c curve) (strand_number_is d dok c curve e h)
      ∙ (moved_ends (strand_moved d dok c curve) (strand_rises d dok c curve) (chords d) (spot d e) ∙ one_end-placed d (is_placed' d dok c curve) e.side e.place h.0 h.1)

  alone : (z : ℕ) → is_curve d dok c curve z ≡ false → mate d dok c curve z ≢ z → setting z ≡ part d dok c curve z (cond (ltb (mate d dok c curve z) z) z (suc z)) ∷ []
  alone z e ne =
      let k : suc z - z ≡ 1 = omega arith in
      rw (e, k) (rw (e, out) refl)
    where
      out : outside z (suc z) (mate d dok c curve z) ≡ true
      out = elim (cases_lt (mate d dok c curve z) z) [ inl l ↦ outside_below z (suc z) (mate d dok c curve z) l | inr l ↦ outside_above z (suc z) (mate d dok c curve z) (omega (arith, l, ne)) ]

  idle : (z : ℕ) → is_curve d dok c curve z ≡ false → mate d dok c curve z ≡ z → setting z ≡ []
  idle z e q =
      let k : suc z - z ≡ 1 = omega arith in
      let o : outside z (suc z) (mate d dok c curve z) ≡ false = ap (outside z (suc z)) q ∙ outside_not z (suc z) z (omega arith) (omega arith) in
      rw (e, k) (rw (e, o) refl)

  -- what a strand's point reads
  pub post_reads : (e : Exit) → Stands d dok c curve e → setting (strand_number d c e) ≡ post_label e ∷ []
  post_reads e h = alone (strand_number d c e) (at_strand d dok c curve e h) (mate_apart (strand_number d c e) (post_end e h))
    where
      mate_apart : (z : ℕ) → ends_at (merged_chords d c) z ≡ 1 → mate d dok c curve z ≢ z
      mate_apart z e q =
          let (t, m, j) = chord_here (merged_chords d c) z (λ k. omega (arith, e, k)) in
          let s = other_joins (map (merged_curve d c) (below (length c)) ++ merged_chords d c) (one_end_each d dok c curve) t z (other_end (merged_chords d c) z)
          (mem_right t (map (merged_curve d c) (below (length c))) (merged_chords d c) m) j in
          let l = member_adds (λ k. ends_of k z) t (merged_chords d c) m in
          let b = ends_twice t z (subst (λ y. Joins t z y) (sym s ∙ q) j) in
          omega (arith, l, b, e)

  -- the gap after a side reads nothing
  pub gap_reads : (k : ℕ) → k < n → setting (merged_start d c k + (mc k + ms k + 1)) ≡ []
  gap_reads k l = idle z (no_end_is ks z none_curve) (other_stays (ks ++ merged_chords d c) z (let b : ends_at (ks ++ merged_chords d c) z ≡ ends_at ks z + ends_at (merged_chords d c) z = sum_by-append (λ e. ends_of e z) ks (merged_chords d c) in omega (arith, b, none_curve, none_strand)))
    where
      z : ℕ
      z = merged_start d c k + (mc k + ms k + 1)

      ks : List Chord
      ks = map (merged_curve d c) (below (length c))

      count : ℕ → ℕ
      count i = mc i + ms i

      -- the number of no point
      no_point : (e : Exit) → e.place ≤ count e.side → z ≢ number count e
      no_point e h q = elim (cases_order k e.side) [
        | inl s ↦ (let a : start_of count k ≡ start_of count e.side = ap (start_of count) s in let b : count k ≡ count e.side = ap count s in omega (arith, a, b, q, h))
        | inr o ↦ elim o [
          | inl u ↦ (let r = starts_rise count k e.side u in omega (arith, r, q))
          | inr u ↦ (let r = starts_rise count e.side k u in omega (arith, r, q, h))
        ]
      ]

      none_curve : ends_at ks z ≡ 0
      none_curve = elim (cases_eq (ends_at ks z) 0) [
        | inl e ↦ e
        | inr ne ↦ (let (q, h, s) = curve_end_of d dok c curve z ne in let w = slot_within mc ms low q.side q.place h.1 in absurd (no_point (exit q.side (slot_place mc ms low q.side q.place)) (omega (arith, w)) s))
      ]

      none_strand : ends_at (merged_chords d c) z ≡ 0
      none_strand = elim (cases_eq (ends_at (merged_chords d c) z) 0) [
        | inl e ↦ e
        | inr ne ↦ (let (q, h, s) = strand_end_of d dok c curve z ne in let w = old_within mc ms low q.side q.place h.1 in absurd (no_point (exit q.side (old_place mc ms low q.side q.place)) w s))
      ]
