-- A sum over all exits of the surgery: the kept exits, and for each exit of the curve its copies.
use Rattle.std.proofs.Common.{◌≡◌, ℕ, suc, ◌+◌, ◌-◌, ◌<◌, ◌≤◌, Bool, true, false, cond, eqb, not, ◌&&◌, List, [], ◌∷◌, ◌++◌, map, reverse, length, take, drop, refl, sym, ◌∙◌, ap, subst, inl, inr, arith}
use Rattle.std.specs.List.{count_by, filter, flat_map, sum_by}
use Rattle.std.proofs.lemmas.Bool.{cases_eq, eq-eqb, lt-ltb, ne_eqb, false≢true}
use Rattle.std.proofs.lemmas.List.{reverse-append, take-append-drop}
use Rattle.std.proofs.lemmas.List.Sums.{sum_by-append, sum_by-cons}
use Rattle.obd_base.specs.Lists.{Mem, below}
use Rattle.obd_base.specs.declared.points.Exit.{Exit}
use Rattle.obd_base.specs.declared.points.Sign.{Sign}
use Rattle.obd_base.proofs.lists.Below.{below_mem, bit, mem_below}
use Rattle.obd_base.proofs.lists.Members.{mem_append, mem_filter, mem_map}
use Rattle.obd_base.proofs.lists.Sums.{count_below, sum_add, sum_flat, sum_map, sum_rows, sum_same, sum_swap}
use Rattle.page_surface.specs.Drawing.{Chord, Drawing, IsEmbedded, all_exits, beyond, crosses, differ, end_of, entry, strand_exits}
use Rattle.page_surface.specs.Polygon.{arc_count, first_side, second_side}
use Rattle.curve_paths.specs.Curves.{IsCurve, curve_entry, exit_at, turned}
use Rattle.dehn_twist.specs.Surgery.{chord_at, chord_end, chord_start, copy_of, curve_number, curve_ring, is_chord_end, is_forward, kept_point, line_index, loop_along, loop_at, meeting_count, meeting_number, meetings, meetings_upto, meets_at, merged_chords, merged_curve, merged_cut, strand_number, surgery, surgery_strand, goes_up, inner_end}
use Rattle.dehn_twist.proofs.Arranged.{sum_arranged}
use Rattle.dehn_twist.proofs.Blocks.{range_rises}
use Rattle.dehn_twist.proofs.CopyPlaces.{line_index-less, line_index-with, line_with, line_with-index, line_with-less}
use Rattle.dehn_twist.proofs.CurveRing.{EndOf, chord_at_end, chord_at_start, is_first, is_last, mate_end, mate_start, ring_in, which_end}
use Rattle.dehn_twist.proofs.MeetingSums.{crosses_either, crossings, crossings_are, parted, place_met, place_met_is, strands_mates, strands_once, strands_within, sum_all_meetings, sum_reverse, upto_more, upto_suc}
use Rattle.dehn_twist.proofs.Merged.{size}
use Rattle.dehn_twist.proofs.MergedCircle.{mate}
use Rattle.dehn_twist.proofs.Opens.{inner_open}
use Rattle.curve_paths.proofs.CurvePoints.{In, exit_in}
use Rattle.obd_base.proofs.lists.Below.{count_less}

-- a sum over a list read round
pub sum_turned : {X : Type 0} (f : X → ℕ) (i : ℕ) (xs : List X) → sum_by f (turned i xs) ≡ sum_by f xs
sum_turned f i xs =
    let e : sum_by f (take i xs ++ drop i xs) ≡ sum_by f xs = ap (sum_by f) (take-append-drop i xs) in
    omega (arith, e, sum_by-append f (take i xs) (drop i xs), sum_by-append f (drop i xs) (take i xs))

-- what a reversed list has
mem_reverse : {X : Type 0} (z : X) (xs : List X) → Mem z (reverse xs) → Mem z xs
mem_reverse z [] m = m
mem_reverse z (x ∷ xs) m = elim (mem_append z (reverse xs) (x ∷ []) (subst (Mem z) (reverse-append (x ∷ []) xs) m)) [
  | inl k ↦ inr (mem_reverse z xs k)
  | inr k ↦ elim k [ inl e ↦ inl e | inr a ↦ absurd a ]
]

-- a meeting is found at a point of the curve
pub mem_meetings : (d : Drawing) (c : List Exit) (t : Chord) (q : Exit) → Mem q (meetings d c t) → Mem q (curve_ring d.polygon c) × (meets_at d c t q ≡ true)
mem_meetings d c t q m = mem_filter (meets_at d c t) q (curve_ring d.polygon c) (turn (goes_up t) (filter (meets_at d c t) (curve_ring d.polygon c)) m)
  where
    turn : (b : Bool) (xs : List Exit) → Mem q (cond b xs (reverse xs)) → Mem q xs
    turn true xs k = k
    turn false xs k = mem_reverse q xs k

-- each line has one index
pub lines_arranged : (sign : Sign) (total upto : ℕ) (f : ℕ → ℕ) → upto ≤ total → sum_by (λ i. f (line_index sign total upto i)) (below total) ≡ sum_by f (below total)
lines_arranged sign total upto f l =
    sym (sum_map f (line_index sign total upto) (below total))
    ∙ sum_arranged (λ z. z) f (map (line_index sign total upto) (below total)) (below total) (range_rises 0 total)
    (λ z m. let r = mem_map (line_index sign total upto) z (below total) m in subst (λ y. Mem y (below total)) (sym r.2) (below_mem total (line_index sign total upto r.0) (line_index-less sign total upto r.0 (mem_below total r.0 r.1) l)))
    (λ y m.
    let ly = mem_below total y m in
    sum_map (λ z. bit (eqb z y)) (line_index sign total upto) (below total)
    ∙ (sum_same _ (λ i. bit (eqb (line_with sign total upto y) i)) (below total) (λ i k. ap bit (test i y (mem_below total i k) ly))
    ∙ (count_below (line_with sign total upto y) total ∙ ap bit (lt-ltb (line_with sign total upto y) total (less y ly)))))
  where
    test : (i y : ℕ) → i < total → y < total → eqb (line_index sign total upto i) y ≡ eqb (line_with sign total upto y) i
    test i y li ly = elim (cases_eq (line_index sign total upto i) y) [
      | inl e ↦ rw (eq-eqb _ _ e) (sym (eq-eqb (line_with sign total upto y) i (ap (line_with sign total upto) (sym e) ∙ line_with-index sign total upto i li l)))
      | inr n ↦ rw (ne_eqb _ _ n) (sym (ne_eqb (line_with sign total upto y) i (λ e. n (ap (line_index sign total upto) (sym e) ∙ line_index-with sign total upto y ly l))))
    ]

    less : (y : ℕ) → y < total → line_with sign total upto y < total
    less y ly = line_with-less sign total upto y ly l

module _ (d : Drawing) (dok : IsEmbedded d) (c : List Exit) (curve : IsCurve d.polygon c) where
  -- at a meeting the chord of the curve crosses the strand's chord, and the meeting's number is below how many there are
  pub record Meets (t : Chord) (q : Exit) : Type 0 where
    pub in_range : chord_at d.polygon c q < length c
    pub crossed : crosses (merged_curve d c (chord_at d.polygon c q)) t ≡ true
    pub placed : place_met d dok c curve (chord_at d.polygon c q) t < crossings d dok c curve (chord_at d.polygon c q)
    pub few : meeting_number d c (chord_at d.polygon c q) t < meeting_count d c

  crossing_number : (t : Chord) → Mem t (merged_chords d c) → (a : ℕ) → a < length c → crosses (merged_curve d c a) t ≡ true
      → (place_met d dok c curve a t < crossings d dok c curve a) × (meeting_number d c a t < meeting_count d c)
  crossing_number t m a l h =
      let s = size d dok c curve in
      let x = inner_end (merged_curve d c a) t in
      let k = inner_open s (merged_chords d c) (mate d dok c curve) (strands_once d dok c curve) (strands_within d dok c curve) (strands_mates d dok c curve) (merged_curve d c a) t m h in
      let n = crossings_are d dok c curve a in
      let f = count_less (parted d dok c curve a) x s k.0 k.1 in
      let e = place_met_is d dok c curve a t m h in
      let small : place_met d dok c curve a t < crossings d dok c curve a = (let g = go (goes_up (merged_curve d c a)) (count_by (parted d dok c curve a) (below x)) (omega (arith, n, f)) in omega (arith, e, g)) in
      (small, omega (arith, small, upto_suc d dok c curve a, upto_more d dok c curve (suc a) (length c) l))
    where
      go : (b : Bool) (i : ℕ) → i < crossings d dok c curve a → cond b i (crossings d dok c curve a - 1 - i) < crossings d dok c curve a
      go true i l = l
      go false i l = omega (arith, l)

  -- so it is at each meeting
  pub at_meeting : (t : Chord) → Mem t (merged_chords d c) → (q : Exit) → Mem q (meetings d c t) → Meets t q
  at_meeting t m q k = go (which_end d.polygon dok.polygon.pairs c curve q (ring_in d.polygon dok.polygon.pairs c curve q r.0))
    where
      r : Mem q (curve_ring d.polygon c) × (meets_at d c t q ≡ true)
      r = mem_meetings d c t q k

      both : (u v : Bool) → (u && not v) ≡ true → (differ u v ≡ true) × (differ v u ≡ true)
      both true true h = absurd (false≢true h)
      both true false h = (refl, refl)
      both false v h = absurd (false≢true h)

      meets_from : (a : ℕ) → chord_at d.polygon c q ≡ a → a < length c → crosses t (merged_curve d c a) ≡ true → Meets t q
      meets_from a e l h =
          let g = sym (crosses_either d dok c curve t m a l) ∙ h in
          let n = crossing_number t m a l g in
          record {
            in_range = subst (λ z. z < length c) (sym e) l;
            crossed = ap (λ z. crosses (merged_curve d c z) t) e ∙ g;
            placed = subst (λ z. place_met d dok c curve z t < crossings d dok c curve z) (sym e) n.0;
            few = subst (λ z. meeting_number d c z t < meeting_count d c) (sym e) n.1;
          }

      go : EndOf d.polygon dok.polygon.pairs c curve q → Meets t q
      go (is_last a l e) =
          let f : (beyond t (curve_number d c (chord_end c a)) && not (beyond t (curve_number d c (chord_start d.polygon c a)))) ≡ true
          = sym (ap (λ z. meets_at d c t z) e ∙ ap (λ z. beyond t (curve_number d c (chord_end c a)) && not (beyond t (curve_number d c z))) (mate_end d.polygon dok.polygon.pairs c curve a l)) ∙ r.1 in
          meets_from a (ap (chord_at d.polygon c) e ∙ chord_at_end d.polygon dok.polygon.pairs c curve a l) l
          (both (beyond t (curve_number d c (chord_end c a))) (beyond t (curve_number d c (chord_start d.polygon c a))) f).1
      go (is_first a l e) =
          let f : (beyond t (curve_number d c (chord_start d.polygon c a)) && not (beyond t (curve_number d c (chord_end c a)))) ≡ true
          = sym (ap (λ z. meets_at d c t z) e ∙ ap (λ z. beyond t (curve_number d c (chord_start d.polygon c a)) && not (beyond t (curve_number d c z))) (mate_start d.polygon dok.polygon.pairs c curve a l)) ∙ r.1 in
          meets_from a (ap (chord_at d.polygon c) e ∙ chord_at_start d.polygon dok.polygon.pairs c curve a l) l
          (both (beyond t (curve_number d c (chord_start d.polygon c a))) (beyond t (curve_number d c (chord_end c a))) f).0

  module _ (sign : Sign) (s : Exit → ℕ)
      (even : (q : Exit) (x : ℕ) → In d.polygon dok.polygon.pairs c curve q → x < meeting_count d c → s (copy_of d c (meeting_count d c) (curve_entry d.polygon c q) (meeting_count d c - 1 - x)) ≡ s (copy_of d c (meeting_count d c) q x)) where
    abbrev total : ℕ
    total = meeting_count d c

    -- a full loop on a line, in either direction
    abbrev around : ℕ → ℕ
    around line = sum_by (λ b. s (copy_of d c (meeting_count d c) (exit_at c b) (line_index sign (meeting_count d c) (meetings_upto d c (suc b)) line))) (below (length c))

    bounded : (b : ℕ) → b < length c → meetings_upto d c (suc b) ≤ meeting_count d c
    bounded b l = upto_more d dok c curve (suc b) (length c) l

    loop_sum : (forward : Bool) (a line : ℕ) → line < meeting_count d c → sum_by s (loop_along d c sign forward (meeting_count d c) a line) ≡ around line
    loop_sum true a line l =
        sum_map s (λ b. copy_of d c total (exit_at c b) (line_index sign total (meetings_upto d c (suc b)) line)) (turned a (below (length c)))
        ∙ sum_turned (λ b. s (copy_of d c total (exit_at c b) (line_index sign total (meetings_upto d c (suc b)) line))) a (below (length c))
    loop_sum false a line l =
        let f = λ (b : ℕ). copy_of d c total (curve_entry d.polygon c (exit_at c b)) (total - 1 - line_index sign total (meetings_upto d c (suc b)) line) in
        sum_reverse s (map f (turned a (below (length c))))
        ∙ (sum_map s f (turned a (below (length c)))
        ∙ (sum_turned (λ b. s (f b)) a (below (length c))
        ∙ sum_same (λ b. s (f b)) (λ b. s (copy_of d c total (exit_at c b) (line_index sign total (meetings_upto d c (suc b)) line))) (below (length c)) (λ b m.
        let lb = mem_below (length c) b m in
        even (exit_at c b) (line_index sign total (meetings_upto d c (suc b)) line) (exit_in d.polygon dok.polygon.pairs c curve b lb)
        (line_index-less sign total (meetings_upto d c (suc b)) line l (bounded b lb)))))

    -- the loops of one chord
    abbrev chord_sum : Chord → ℕ
    chord_sum t = sum_by s (flat_map (loop_at d c sign (meeting_count d c) t) (meetings d c t))

    chord_sum_is : (t : Chord) → Mem t (merged_chords d c) → chord_sum t ≡ sum_by (λ q. around (meeting_number d c (chord_at d.polygon c q) t)) (meetings d c t)
    chord_sum_is t m =
        sum_flat s (loop_at d c sign total t) (meetings d c t)
        ∙ sum_same _ _ (meetings d c t) (λ q k. let h = at_meeting t m q k in
        loop_sum (is_forward sign t (is_chord_end c q)) (chord_at d.polygon c q) (meeting_number d c (chord_at d.polygon c q) t) h.few)

    -- a strand with its loops
    strand_sum : (a z : Exit) (es : List Exit) → sum_by s (surgery_strand d c sign (meeting_count d c) a es z)
        ≡ sum_by chord_sum (merged_cut d c a es z) + sum_by (λ e. s (kept_point d c (meeting_count d c) e)) es
    strand_sum a z [] = let t : Chord = record { from = strand_number d c a; to = strand_number d c z } in omega (arith, sum_by-cons chord_sum t [])
    strand_sum a z (e ∷ es) =
        let t : Chord = record { from = strand_number d c a; to = strand_number d c e } in
        let k = kept_point d c total e in
        let rest = surgery_strand d c sign total (entry d e) es z in
        omega (
          arith,
          sum_by-append s (flat_map (loop_at d c sign total t) (meetings d c t)) (k ∷ rest),
          sum_by-cons s k rest,
          strand_sum (entry d e) z es,
          sum_by-cons chord_sum t (merged_cut d c (entry d e) es z),
          sum_by-cons (λ e. s (kept_point d c total e)) e es,
        )

    -- all strands
    pub all_sum : sum_by s (all_exits (surgery d c sign))
        ≡ sum_by (λ e. s (kept_point d c (meeting_count d c) e)) (all_exits d)
        + sum_by (λ b. sum_by (λ x. s (copy_of d c (meeting_count d c) (exit_at c b) x)) (below (meeting_count d c))) (below (length c))
    all_sum =
        let n = arc_count d.polygon in
        let strand = λ (i : ℕ). surgery_strand d c sign total (end_of d (second_side d.polygon i)) (strand_exits d i) (end_of d (first_side d.polygon i)) in
        let cut = λ (i : ℕ). merged_cut d c (end_of d (second_side d.polygon i)) (strand_exits d i) (end_of d (first_side d.polygon i)) in
        let k = λ (e : Exit). s (kept_point d c total e) in
        let one : sum_by s (all_exits (surgery d c sign)) ≡ sum_by (λ i. sum_by s (strand i)) (below n)
        = sum_flat s (λ z. z) (map strand (below n)) ∙ sum_map (λ z. sum_by s z) strand (below n) in
        let two : sum_by (λ i. sum_by s (strand i)) (below n) ≡ sum_by (λ i. sum_by chord_sum (cut i) + sum_by k (strand_exits d i)) (below n)
        = sum_same _ _ (below n) (λ i m. strand_sum (end_of d (second_side d.polygon i)) (end_of d (first_side d.polygon i)) (strand_exits d i)) in
        let three = sum_add (λ i. sum_by chord_sum (cut i)) (λ i. sum_by k (strand_exits d i)) (below n) in
        let four : sum_by chord_sum (merged_chords d c) ≡ sum_by (λ i. sum_by chord_sum (cut i)) (below n) = sum_flat chord_sum cut (below n) in
        let five = sum_rows k d.strands n dok.strand_count in
        let six : sum_by chord_sum (merged_chords d c) ≡ sum_by around (below total) = sum_same _ _ (merged_chords d c) (λ t m. chord_sum_is t m) ∙ sum_all_meetings d dok c curve around in
        let seven : sum_by around (below total) ≡ sum_by (λ b. sum_by (λ x. s (copy_of d c total (exit_at c b) x)) (below total)) (below (length c))
        = sum_swap (λ line b. s (copy_of d c total (exit_at c b) (line_index sign total (meetings_upto d c (suc b)) line))) (below total) (below (length c))
        ∙ sum_same _ _ (below (length c)) (λ b m. lines_arranged sign total (meetings_upto d c (suc b)) (λ x. s (copy_of d c total (exit_at c b) x)) (bounded b (mem_below (length c) b m))) in
        omega (arith, one, two, three, four, five, six, seven)
