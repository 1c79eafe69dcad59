-- The label of each line at an end of a curve's chord: a part of the strand's chord that the line's meeting has there, or the line.
use Rattle.std.proofs.Common.{◌≡◌, ℕ, suc, ◌+◌, ◌-◌, ◌<◌, ◌≤◌, Bool, true, false, cond, eqb, leb, ltb, not, ◌&&◌, List, ◌++◌, map, reverse, length, get_or, refl, sym, ◌∙◌, ap, ◌⊎◌, inl, inr, arith}
use Rattle.std.specs.List.{position_or_len, range_with_len}
use Rattle.std.proofs.lemmas.Bool.{eq-eqb, le-leb, le-ltb, lt-leb, lt-ltb, ne_eqb}
use Rattle.obd_base.specs.Lists.{below}
use Rattle.obd_base.specs.declared.points.Exit.{Exit}
use Rattle.obd_base.specs.declared.points.Sign.{Sign}
use Rattle.obd_base.proofs.lists.Below.{mem_range}
use Rattle.obd_base.proofs.lists.Members.{mem_append}
use Rattle.page_surface.specs.Drawing.{Chord, Drawing, IsEmbedded, differ}
use Rattle.page_surface.specs.Polygon.{Pairs}
use Rattle.curve_paths.specs.Curves.{IsCurve, curve_spot}
use Rattle.drawing.proofs.Lists.{first_is}
use Rattle.dehn_twist.specs.Surgery.{chord_at, chord_end, chord_start, curve_number, goes_up, is_plus, meeting_count, meetings_upto, merged_curve}
use Rattle.dehn_twist.proofs.Circle.{Part, part_name}
use Rattle.dehn_twist.proofs.CurveRing.{chord_at_end, chord_at_start, end_in, spot_same, start_in}
use Rattle.dehn_twist.proofs.LineOrder.{map_down, map_moved, map_on}
use Rattle.dehn_twist.proofs.MeetingSums.{crossings, upto_suc}
use Rattle.dehn_twist.proofs.Merged.{curve_moved, curve_number_is, curve_rises}
use Rattle.dehn_twist.proofs.MovedChords.{injective}
use Rattle.dehn_twist.proofs.MergedCircle.{beads, mate}
use Rattle.dehn_twist.proofs.PartLabels.{hi, lo, opened, opened_length}
use Rattle.dehn_twist.proofs.BetweenEnds.{map_entries}
use Rattle.curve_paths.proofs.CurvePoints.{In}

module _ (d : Drawing) (dok : IsEmbedded d) (c : List Exit) (curve : IsCurve d.polygon c) where
  abbrev ok : Pairs d.polygon
  ok = dok.polygon.pairs

  abbrev A : ℕ → Chord
  A a = merged_curve d c a

  abbrev upto : ℕ → ℕ
  upto a = meetings_upto d c a

  abbrev total : ℕ
  total = meeting_count d c

  abbrev r : ℕ → ℕ
  r a = crossings d dok c curve a

  abbrev lo' : ℕ → ℕ
  lo' a = lo d dok c curve a

  abbrev hi' : ℕ → ℕ
  hi' a = hi d dok c curve a

  -- the part of a strand's chord at a place
  abbrev pub part : ℕ → ℕ → Part
  part x y = part_name (mate d dok c curve) (beads d dok c curve) x y

  -- where the chord of a strand's point leaves a chord of the curve, seen from inside it or from outside
  abbrev pub place_at : ℕ → Bool → ℕ → ℕ
  place_at a inside x = cond inside
      (cond (ltb (mate d dok c curve x) (suc (lo d dok c curve a))) (suc (lo d dok c curve a)) (hi d dok c curve a))
      (cond (ltb (mate d dok c curve x) (lo d dok c curve a)) (lo d dok c curve a) (suc (hi d dok c curve a)))

  -- the strand's point of a meeting of chord a
  abbrev pub crossing : ℕ → ℕ → ℕ
  crossing a i = get_or (opened d dok c curve a) (cond (goes_up (merged_curve d c a)) i (crossings d dok c curve a - 1 - i)) 0

  -- a line that doesn't meet chord a
  abbrev pub line_label : ℕ → ℕ → Part
  line_label a n = record { line = 1; chord = a; number = n }

  -- the label of a line at an end of chord a
  abbrev pub label : ℕ → Bool → ℕ → Part
  label a inside n = cond (leb (meetings_upto d c a) n && ltb n (meetings_upto d c (suc a)))
      (part (crossing a (n - meetings_upto d c a)) (place_at a inside (crossing a (n - meetings_upto d c a)))) (line_label a n)

  -- the parts that leave chord a
  abbrev pub parts_at : ℕ → Bool → List Part
  parts_at a inside = map (λ x. part x (place_at a inside x)) (opened d dok c curve a)

  -- the label of a line that meets the chord
  pub label_met : (a : ℕ) (b : Bool) (i : ℕ) → i < crossings d dok c curve a → label a b (meetings_upto d c a + i) ≡ part (crossing a i) (place_at a b (crossing a i))
  label_met a b i l =
      let s = upto_suc d dok c curve a in
      let e : leb (upto a) (upto a + i) ≡ true = le-leb (upto a) (upto a + i) (omega arith) in
      let f : ltb (upto a + i) (upto (suc a)) ≡ true = lt-ltb (upto a + i) (upto (suc a)) (omega (arith, s, l)) in
      let z : upto a + i - upto a ≡ i = omega arith in
      rw (e, f) (ap (λ k. part (crossing a k) (place_at a b (crossing a k))) z)

  -- the label of another line
  pub label_other : (a : ℕ) (b : Bool) (n : ℕ) → (n < meetings_upto d c a) ⊎ (meetings_upto d c (suc a) ≤ n) → label a b n ≡ line_label a n
  label_other a b n (inl l) = let e : leb (upto a) n ≡ false = lt-leb (upto a) n l in rw e refl
  label_other a b n (inr l) = let e : ltb n (upto (suc a)) ≡ false = le-ltb n (upto (suc a)) l in go (leb (upto a) n) e
    where
      go : (t : Bool) → ltb n (upto (suc a)) ≡ false → cond (t && ltb n (upto (suc a))) (part (crossing a (n - upto a)) (place_at a b (crossing a (n - upto a)))) (line_label a n) ≡ line_label a n
      go true e = rw e refl
      go false e = refl

  -- the lines that meet chord a
  pub labels_up : (a : ℕ) (b : Bool) → goes_up (A a) ≡ true → map (label a b) (range_with_len (upto a) (r a)) ≡ parts_at a b
  labels_up a b e =
      map_entries (λ x. part x (place_at a b x)) (opened d dok c curve a) (upto a) (r a) (label a b) (opened_length d dok c curve a)
      (λ i l. label_met a b i l ∙ ap (λ t. part (get_or (opened d dok c curve a) (cond t i (r a - 1 - i)) 0) (place_at a b (get_or (opened d dok c curve a) (cond t i (r a - 1 - i)) 0))) e)

  -- where the chord goes down they come in the other order
  pub labels_down : (a : ℕ) (b : Bool) → goes_up (A a) ≡ false → map (label a b) (range_with_len (upto a) (r a)) ≡ reverse (parts_at a b)
  labels_down a b e =
      let f = λ (x : ℕ). part x (place_at a b x) in
      let h = λ (i : ℕ). f (get_or (opened d dok c curve a) i 0) in
      map_moved (label a b) (λ i. h (r a - 1 - i)) (upto a) 0 (r a)
      (λ i l. label_met a b i l ∙ (ap (λ t. f (get_or (opened d dok c curve a) (cond t i (r a - 1 - i)) 0)) e ∙ ap (λ k. h (r a - 1 - k)) (let z : i ≡ 0 + i = omega arith in z)))
      ∙ (map_down h (r a)
      ∙ ap reverse (map_entries f (opened d dok c curve a) 0 (r a) h (opened_length d dok c curve a) (λ i l. ap h (let z : 0 + i ≡ i = omega arith in z))))

  -- and the others
  abbrev pub others : ℕ → List Part
  others a = map (line_label a) (range_with_len (upto (suc a)) (total - upto (suc a)) ++ range_with_len 0 (upto a))

  -- the labels of the other lines
  pub labels_others : (a : ℕ) (b : Bool) → map (label a b) (range_with_len (upto (suc a)) (total - upto (suc a)) ++ range_with_len 0 (upto a)) ≡ others a
  labels_others a b = map_on (label a b) (line_label a) (range_with_len (upto (suc a)) (total - upto (suc a)) ++ range_with_len 0 (upto a)) (λ n m.
      elim (mem_append n (range_with_len (upto (suc a)) (total - upto (suc a))) (range_with_len 0 (upto a)) m) [
        | inl k ↦ label_other a b n (inr (mem_range (upto (suc a)) (total - upto (suc a)) n k).0)
        | inr k ↦ label_other a b n (inl (let l = mem_range 0 (upto a) n k in omega (arith, l)))
      ])

  -- the lines at the lesser end of chord a
  abbrev pub lines_of : Sign → ℕ → List Part
  lines_of g a = cond (differ (is_plus g) (goes_up (merged_curve d c a))) (reverse (others a)) (others a)

  -- the same by the number of that end
  abbrev pub lines : Sign → ℕ → List Part
  lines g o = lines_of g (position_or_len (λ a. eqb (lo d dok c curve a) o) (below (length c)))

  -- a chord is told by its lesser end
  lesser_tells : (t a : ℕ) → t < length c → a < length c → lo' t ≡ lo' a → t ≡ a
  lesser_tells t a lt la e =
      let x = low_point t lt in
      let y = low_point a la in
      let i = x.2 in
      let j = y.2 in
      let n : curve_moved d dok c curve (curve_spot' x.0) ≡ curve_moved d dok c curve (curve_spot' y.0)
      = sym (curve_number_is d dok c curve x.0 i) ∙ (x.1 ∙ (e ∙ (sym y.1 ∙ curve_number_is d dok c curve y.0 j))) in
      let q : x.0 ≡ y.0 = spot_same d.polygon ok c curve x.0 y.0 i j (injective (curve_moved d dok c curve) (curve_rises d dok c curve) (curve_spot' x.0) (curve_spot' y.0) n) in
      sym x.3 ∙ (ap (chord_at d.polygon c) q ∙ y.3)
    where
      curve_spot' : Exit → ℕ
      curve_spot' q = curve_spot d.polygon c q

      low_point : (a : ℕ) → a < length c → (q : Exit) × (curve_number d c q ≡ lo d dok c curve a) × In d.polygon dok.polygon.pairs c curve q × (chord_at d.polygon c q ≡ a)
      low_point a l = go (goes_up (A a)) refl
        where
          go : (b : Bool) → goes_up (A a) ≡ b → (q : Exit) × (curve_number d c q ≡ lo d dok c curve a) × In d.polygon dok.polygon.pairs c curve q × (chord_at d.polygon c q ≡ a)
          go true e = (chord_start d.polygon c a, rw e refl, start_in d.polygon ok c curve a l, chord_at_start d.polygon ok c curve a l)
          go false e = (chord_end c a, rw e refl, end_in d.polygon ok c curve a l, chord_at_end d.polygon ok c curve a l)

  -- they are those of the chord
  pub lines_lesser : (g : Sign) (a : ℕ) → a < length c → lines g (lo d dok c curve a) ≡ lines_of g a
  lines_lesser g a l =
      ap (lines_of g) (first_is (λ t. eqb (lo' t) (lo' a)) (length c) a l (eq-eqb (lo' a) (lo' a) refl)
      (λ t k. ne_eqb (lo' t) (lo' a) (λ e. (let q = lesser_tells t a (omega (arith, k, l)) l e in omega (arith, q, k)))))

  -- the end of a chord has parts inside it or outside it by the sign, and by which end it is
  abbrev pub is_inside : Sign → Bool → Bool
  is_inside g greater = not (differ (is_plus g) greater)
