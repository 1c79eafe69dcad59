-- The merged order of a drawing and a curve: all points of both, paired off by their chords.
use Rattle.std.proofs.Common.{◌≡◌, ◌≢◌, ℕ, ◌+◌, ◌<◌, ◌≤◌, Bool, true, false, cond, eqb, not, ◌||◌, List, [], ◌∷◌, ◌++◌, map, length, refl, sym, ◌∙◌, ap, ap₂, subst, inl, inr, arith}
use Rattle.std.specs.List.{flat_map, sum_by}
use Rattle.std.proofs.lemmas.Bool.{cases_eq, cases_lt, ne_eqb}
use Rattle.std.proofs.lemmas.List.{map-append}
use Rattle.obd_base.specs.Lists.{Mem, below}
use Rattle.obd_base.specs.declared.points.Exit.{Exit}
use Rattle.obd_base.proofs.lists.Below.{bit, mem_below}
use Rattle.obd_base.proofs.lists.Members.{mem_append, mem_map}
use Rattle.obd_base.proofs.lists.Sums.{bit-le, sum_map, sum_none, sum_same}
use Rattle.page_surface.specs.Drawing.{Chord, Drawing, IsEmbedded, IsPlaced, all_exits, chords, cut_strand, end_of, entry, exit, no_two_cross, offset, points_on, spot, strand_chords, strand_exits}
use Rattle.page_surface.specs.Polygon.{Polygon, arc_count, first_side, second_side, sides}
use Rattle.curve_paths.specs.Curves.{IsCurve, curve_chord, curve_points, curve_spot}
use Rattle.drawing.proofs.Lists.{mem_row}
use Rattle.drawing.specs.Pieces.{span_count}
use Rattle.dehn_twist.specs.Surgery.{chord_end, chord_start, curve_number, curve_ring, is_lower, merged_chords, merged_curve, merged_cut, merged_start, strand_number}
use Rattle.dehn_twist.proofs.CurveRing.{end_in, ring_sum, start_in}
use Rattle.dehn_twist.proofs.TwoLists.{from_counts, to_counts}
use Rattle.dehn_twist.proofs.TwoSorts.{moved_is, moved_number, moved_rises, numbers_apart, old_within, slot_within}
use Rattle.curve_paths.proofs.CurvePoints.{In}
use Rattle.curve_paths.proofs.CurvePlanar.{all_points}
use Rattle.drawing.proofs.Mates.{chord_here}
use Rattle.curve_paths.proofs.Members.{Rises}
use Rattle.drawing.proofs.Moved.{moved, moved_uncrossed}
use Rattle.drawing.proofs.Placed.{at_most_one_end-placed, ends_at, ends_of, ends_past-placed, no_end_at_gap-placed, place_in-placed, same_count-placed, side_in-placed, which_place-placed}
use Rattle.curve_paths.proofs.PointPlaces.{start_of, starts_rise}
use Rattle.std.proofs.lemmas.List.Sums.{sum_by-append, sum_by-cons}
use Rattle.dehn_twist.proofs.MovedChords.{pairs_uncrossed, moved_end_of, moved_once}

module _ (d : Drawing) (dok : IsEmbedded d) (c : List Exit) (curve : IsCurve d.polygon c) where
  abbrev p : Polygon
  p = d.polygon

  abbrev n : ℕ
  n = sides p

  abbrev R : ℕ
  R = length c

  abbrev slots : ℕ → ℕ
  slots k = curve_points d.polygon c k

  abbrev olds : ℕ → ℕ
  olds k = points_on d k

  abbrev low : ℕ → Bool
  low k = is_lower d.polygon k

  abbrev high : ℕ → Bool
  high k = not (is_lower d.polygon k)

  abbrev ok' : IsPlaced d
  ok' = record { polygon = dok.polygon; strand_count = dok.strand_count; on_sides = dok.on_sides; places = dok.places }

  -- an embedded drawing is placed
  pub is_placed' : IsPlaced d
  is_placed' = ok'

  -- a point of a strand, or the end of a side
  abbrev pub Stands : Exit → Type 0
  Stands e = (e.side < sides d.polygon) × (e.place ≤ points_on d e.side)

  -- how the numbers of strands' points are moved, and those of the curve's points
  abbrev pub strand_moved : ℕ → ℕ
  strand_moved x = moved_number slots olds low n x

  -- and those of the curve's points
  abbrev pub curve_moved : ℕ → ℕ
  curve_moved x = moved_number olds slots high n x

  -- both keep their order
  pub strand_rises : (x y : ℕ) → x < y → strand_moved x < strand_moved y
  strand_rises x y l = moved_rises slots olds low n x y l

  -- for the curve's points
  pub curve_rises : (x y : ℕ) → x < y → curve_moved x < curve_moved y
  curve_rises x y l = moved_rises olds slots high n x y l

  -- the merged number of a strand's point
  pub strand_number_is : (e : Exit) → Stands e → strand_number d c e ≡ strand_moved (spot d e)
  strand_number_is e h = sym (moved_is slots olds low n e.side e.place h.0 h.1)

  starts_same : (k : ℕ) → start_of (λ i. olds i + slots i) k ≡ start_of (λ i. slots i + olds i) k
  starts_same k = sum_same (λ i. olds i + slots i + 2) (λ i. slots i + olds i + 2) (below k) (λ i m. omega arith)

  -- and of a curve's point
  pub curve_number_is : (q : Exit) → In d.polygon dok.polygon.pairs c curve q → curve_number d c q ≡ curve_moved (curve_spot d.polygon c q)
  curve_number_is q h =
      let m = moved_is olds slots high n q.side q.place h.0 (omega (arith, h.1)) in
      let e = ne_eqb q.place (slots q.side) (λ s. omega (arith, s, h.1)) in
      omega (arith, m, starts_same q.side, go (low q.side) (eqb q.place (slots q.side)) e)
    where
      go : (b t : Bool) → t ≡ false → cond (not b || t) (olds q.side + q.place) q.place ≡ cond b q.place (olds q.side + q.place)
      go true t e = rw e refl
      go false t e = refl

  -- the chords of the strands, moved
  pub cut_moved : (a z : Exit) (es : List Exit) → Stands a → Stands z → ((e : Exit) → Mem e es → Mem e (all_exits d)) → merged_cut d c a es z ≡ map (moved strand_moved) (cut_strand d a es z)
  cut_moved a z [] ha hz h = rw (strand_number_is a ha, strand_number_is z hz) refl
  cut_moved a z (e ∷ es) ha hz h =
      let m = h e (inl refl) in
      let l = side_in-placed d ok' e m in
      let r = place_in-placed d ok' e m in
      let he : Stands e = (l, omega (arith, r)) in
      let hx : Stands (entry d e) = (dok.polygon.pairs.in_range e.side l, omega (arith, r, same_count-placed d ok' e.side)) in
      ap (λ t. record { from = strand_number d c a; to = strand_number d c e } ∷ t) (cut_moved (entry d e) z es hx hz (λ y k. h y (inr k)))
      ∙ (rw (strand_number_is a ha, strand_number_is e he) refl)

  -- a strand's exits are among all exits
  pub exits_in : (i : ℕ) (e : Exit) → Mem e (strand_exits d i) → Mem e (all_exits d)
  exits_in i e m = mem_row d.strands i e m

  -- the ends of a strand stand at the ends of its sides
  pub ends_stand : (i : ℕ) → i < arc_count d.polygon → Stands (end_of d (second_side d.polygon i)) × Stands (end_of d (first_side d.polygon i))
  ends_stand i l =
      let f = dok.polygon.first_in_range i l in
      ((dok.polygon.pairs.in_range (first_side p i) f, omega arith), (f, omega arith))

  -- the chords of all strands, moved
  pub chords_moved : merged_chords d c ≡ map (moved strand_moved) (chords d)
  chords_moved = go (below (arc_count p)) (λ i m. mem_below (arc_count p) i m)
    where
      go : (is : List ℕ) → ((i : ℕ) → Mem i is → i < arc_count p)
          → flat_map (λ i. merged_cut d c (end_of d (second_side d.polygon i)) (strand_exits d i) (end_of d (first_side d.polygon i))) is ≡ map (moved strand_moved) (flat_map (strand_chords d) is)
      go [] h = refl
      go (i ∷ is) h =
          let s = ends_stand i (h i (inl refl)) in
          ap₂ (λ x y. x ++ y) (cut_moved (end_of d (second_side p i)) (end_of d (first_side p i)) (strand_exits d i) s.0 s.1 (exits_in i)) (go is (λ k m. h k (inr m)))
          ∙ sym (map-append (moved strand_moved) (strand_chords d i) (flat_map (strand_chords d) is))

  -- no two strands' chords cross
  pub strands_uncrossed : no_two_cross (merged_chords d c) ≡ true
  strands_uncrossed = ap no_two_cross chords_moved ∙ (moved_uncrossed strand_moved strand_rises (chords d) ∙ dok.uncrossed)

  -- the chords of the curve
  abbrev pub curve_chords : List Chord
  curve_chords = map (merged_curve d c) (below (length c))

  abbrev plain_chords : List Chord
  plain_chords = map (curve_chord p c) (below R)

  curve_chords_moved : curve_chords ≡ map (moved curve_moved) plain_chords
  curve_chords_moved = go (below R) (λ i m. mem_below R i m)
    where
      go : (is : List ℕ) → ((i : ℕ) → Mem i is → i < R) → map (merged_curve d c) is ≡ map (moved curve_moved) (map (curve_chord p c) is)
      go [] h = refl
      go (i ∷ is) h =
          let l = h i (inl refl) in
          let a = curve_number_is (chord_start p c i) (start_in p dok.polygon.pairs c curve i l) in
          let b = curve_number_is (chord_end c i) (end_in p dok.polygon.pairs c curve i l) in
          ap₂ (λ x y. x ∷ y) (rw (a, b) refl) (go is (λ k m. h k (inr m)))

  -- no two chords of the curve cross
  pub curve_uncrossed : no_two_cross curve_chords ≡ true
  curve_uncrossed = ap no_two_cross curve_chords_moved ∙ (moved_uncrossed curve_moved curve_rises plain_chords ∙ pairs_uncrossed (curve_chord p c) 0 R (λ i k a l h. curve.uncrossed i k l (omega (arith, h))))

  -- a number that is an end of a curve's chord is that of a point of the curve
  plain_ends : (y : ℕ) → ends_at plain_chords y ≡ sum_by (λ q. bit (eqb (curve_spot p c q) y)) (curve_ring p c)
  plain_ends y =
      sum_map (λ e. ends_of e y) (curve_chord p c) (below R)
      ∙ (sum_same _ _ (below R) (λ a m. omega arith) ∙ sym (ring_sum p dok.polygon.pairs c curve (λ q. bit (eqb (curve_spot p c q) y))))

  plain_once : (y : ℕ) → ends_at plain_chords y ≤ 1
  plain_once y = let e = plain_ends y in let l = rising_once (curve_ring p c) (all_points p dok.polygon.pairs c curve).rises in omega (arith, e, l)
    where
      rising_once : (qs : List Exit) → Rises (curve_spot p c) qs → sum_by (λ q. bit (eqb (curve_spot p c q) y)) qs ≤ 1
      rising_once [] h = omega arith
      rising_once (q ∷ qs) h =
          let a = sum_by-cons (λ q. bit (eqb (curve_spot p c q) y)) q qs in
          elim (cases_eq (curve_spot p c q) y) [
            | inl e ↦
                let none = sum_none (λ q. bit (eqb (curve_spot p c q) y)) qs (λ z m. let l = h.0 z m in rw (ne_eqb (curve_spot p c z) y (λ s. omega (arith, s, e, l))) refl) in
                let b = bit-le (eqb (curve_spot p c q) y) in
                omega (arith, a, none, b)
            | inr ne ↦
                let b : bit (eqb (curve_spot p c q) y) ≡ 0 = rw (ne_eqb (curve_spot p c q) y ne) refl in
                omega (arith, a, b, rising_once qs h.1)
          ]

  -- an end of a curve's chord is a point of the curve
  pub curve_end_of : (x : ℕ) → ends_at curve_chords x ≢ 0 → (q : Exit) × In p dok.polygon.pairs c curve q × (x ≡ curve_number d c q)
  curve_end_of x n =
      let (e, m, j) = chord_here curve_chords x n in
      let (a, k, q) = mem_map (merged_curve d c) e (below R) m in
      let l = mem_below R a k in
      elim j [
        | inl (s, t) ↦ (chord_start p c a, start_in p dok.polygon.pairs c curve a l, sym s ∙ ap (λ z. z.from) q)
        | inr (s, t) ↦ (chord_end c a, end_in p dok.polygon.pairs c curve a l, sym s ∙ ap (λ z. z.to) q)
      ]

  -- an end of a strand's chord is a strand's point or the end of a side
  pub strand_end_of : (x : ℕ) → ends_at (merged_chords d c) x ≢ 0 → (e : Exit) × Stands e × (x ≡ strand_number d c e)
  strand_end_of x ne =
      let (y, q, k) = moved_end_of strand_moved strand_rises (chords d) x (λ z. ne (ap (λ cs. ends_at cs x) chords_moved ∙ z)) in
      elim (cases_lt y (span_count d)) [
        | inr h ↦ absurd (k (ends_past-placed d ok' y h))
        | inl l ↦ elim (which_place-placed d ok' y l) [
          | inl (s, j, ls, lj, e) ↦ (exit s j, (ls, lj), q ∙ (ap strand_moved e ∙ sym (strand_number_is (exit s j) (ls, lj))))
          | inr (s, ls, e) ↦ absurd (k (let g : y ≡ offset d s + (points_on d s + 1) = omega (arith, e) in ap (ends_at (chords d)) g ∙ no_end_at_gap-placed d ok' s))
        ]
      ]

  -- a curve's point isn't a strand's point
  pub kinds_apart : (q e : Exit) → In d.polygon dok.polygon.pairs c curve q → Stands e → curve_number d c q ≢ strand_number d c e
  kinds_apart q e h s = numbers_apart slots olds low q.side q.place e h.1 s.1

  -- each number is the end of at most one chord
  pub one_end_each : (x : ℕ) → ends_at (curve_chords ++ merged_chords d c) x ≤ 1
  one_end_each x =
      let both : ends_at (curve_chords ++ merged_chords d c) x ≡ ends_at curve_chords x + ends_at (merged_chords d c) x = sum_by-append (λ e. ends_of e x) curve_chords (merged_chords d c) in
      let a : ends_at curve_chords x ≤ 1 = subst (λ cs. ends_at cs x ≤ 1) (sym curve_chords_moved) (moved_once curve_moved curve_rises plain_chords plain_once x) in
      let b : ends_at (merged_chords d c) x ≤ 1 = subst (λ cs. ends_at cs x ≤ 1) (sym chords_moved) (moved_once strand_moved strand_rises (chords d) (at_most_one_end-placed d ok') x) in
      elim (cases_eq (ends_at curve_chords x) 0) [
        | inl e ↦ omega (arith, both, e, b)
        | inr ne ↦ elim (cases_eq (ends_at (merged_chords d c) x) 0) [
          | inl e ↦ omega (arith, both, e, a)
          | inr me ↦
              let (q, h, s) = curve_end_of x ne in
              let (e, g, t) = strand_end_of x me in
              absurd (kinds_apart q e h g (sym s ∙ t))
        ]
      ]

  -- the size of the circle
  abbrev pub size : ℕ
  size = merged_start d c (sides d.polygon)

  -- the numbers lie on the circle
  pub curve_within : (q : Exit) → In d.polygon dok.polygon.pairs c curve q → curve_number d c q < size
  curve_within q h =
      let r = starts_rise (λ i. slots i + olds i) q.side n h.0 in
      let s = slot_within slots olds low q.side q.place h.1 in
      omega (arith, r, s)

  -- for strands' points too
  pub strand_within : (e : Exit) → Stands e → strand_number d c e < size
  strand_within e h =
      let r = starts_rise (λ i. slots i + olds i) e.side n h.0 in
      let s = old_within slots olds low e.side e.place h.1 in
      omega (arith, r, s)

  -- so do the ends of all chords
  pub ends_within : (e : Chord) → Mem e (curve_chords ++ merged_chords d c) → (e.from < size) × (e.to < size)
  ends_within e m = elim (mem_append e curve_chords (merged_chords d c) m) [
    | inl k ↦
        let a = curve_end_of e.from (from_counts e curve_chords k) in
        let b = curve_end_of e.to (to_counts e curve_chords k) in
        (subst (λ z. z < size) (sym a.2) (curve_within a.0 a.1), subst (λ z. z < size) (sym b.2) (curve_within b.0 b.1))
    | inr k ↦
        let a = strand_end_of e.from (from_counts e (merged_chords d c) k) in
        let b = strand_end_of e.to (to_counts e (merged_chords d c) k) in
        (subst (λ z. z < size) (sym a.2) (strand_within a.0 a.1), subst (λ z. z < size) (sym b.2) (strand_within b.0 b.1))
  ]
