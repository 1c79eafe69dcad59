-- All loops of one strand's chord: they lead from the part at its start, part by part, to the part at its end.
use Rattle.std.proofs.Common.{◌≡◌, ◌≢◌, ℕ, suc, ◌+◌, ◌<◌, ◌≤◌, Bool, true, false, cond, ltb, not, ◌&&◌, List, [], ◌∷◌, ◌++◌, reverse, length, refl, sym, ◌∙◌, ap, ap₂, subst, inl, inr, arith}
use Rattle.std.specs.List.{filter, flat_map, sum_by}
use Rattle.std.proofs.lemmas.Bool.{le-ltb, lt-ltb, true≢false, false≢true}
use Rattle.std.proofs.lemmas.List.{reverse-append}
use Rattle.std.proofs.lemmas.List.Sums.{sum_by-cons}
use Rattle.obd_base.specs.Lists.{Mem}
use Rattle.obd_base.specs.declared.points.Exit.{Exit}
use Rattle.obd_base.specs.declared.points.Sign.{Sign}
use Rattle.obd_base.proofs.lists.Below.{bit}
use Rattle.obd_base.proofs.lists.Counts.{count_by-map}
use Rattle.obd_base.proofs.lists.Members.{mem_filter, mem_left, mem_right}
use Rattle.obd_base.proofs.lists.Sums.{sum_none, sum_same}
use Rattle.page_surface.specs.Drawing.{Chord, Drawing, IsEmbedded, beyond, differ}
use Rattle.page_surface.specs.Polygon.{Pairs}
use Rattle.curve_paths.specs.Curves.{IsCurve, curve_spot}
use Rattle.dehn_twist.specs.Surgery.{chord_at, curve_number, curve_ring, goes_up, is_chord_end, is_forward, loop_at, meeting_count, meeting_number, meetings, meets_at, merged_chords}
use Rattle.dehn_twist.proofs.Arranged.{sum_filter}
use Rattle.dehn_twist.proofs.Circle.{Part, meets, met_between}
use Rattle.dehn_twist.proofs.CopySums.{at_meeting}
use Rattle.dehn_twist.proofs.CurveRing.{ring_in}
use Rattle.dehn_twist.proofs.MeetingParts.{ends_order, part_least, part_most, part_of}
use Rattle.dehn_twist.proofs.MeetingLabels.{loop_labels}
use Rattle.dehn_twist.proofs.MeetingSums.{upto_suc}
use Rattle.dehn_twist.proofs.Merged.{curve_number_is, curve_rises}
use Rattle.dehn_twist.proofs.MergedCircle.{at_curve, beads, from_strand, is_curve, mate, mate_from, mate_to, meets_is, to_strand}
use Rattle.dehn_twist.proofs.NewPoints.{new_circle}
use Rattle.dehn_twist.proofs.BetweenEnds.{beyond_true, least, most}
use Rattle.dehn_twist.proofs.LineLabels.{part}
use Rattle.dehn_twist.proofs.Runs.{NewRuns, at_first, at_last, loop_rights, loop_runs, runs_join}
use Rattle.curve_paths.proofs.CurvePlanar.{all_points}
use Rattle.curve_paths.proofs.Members.{Rises}
use Rattle.dehn_twist.specs.Surgery.{curve_mate, surgery}
use Rattle.drawing.proofs.Lists.{length_sum}
use Rattle.dehn_twist.proofs.RisingLists.{rises_change, rises_filter, flat_reverse}

module _ (d : Drawing) (dok : IsEmbedded d) (c : List Exit) (curve : IsCurve d.polygon c) (g : Sign) where
  abbrev ok : Pairs d.polygon
  ok = dok.polygon.pairs

  abbrev total : ℕ
  total = meeting_count d c

  abbrev number_of : Exit → ℕ
  number_of q = curve_number d c q

  -- the label of a strand's point, by its number
  abbrev pub post_of : ℕ → Part
  post_of z = part d dok c curve z (cond (ltb (mate d dok c curve z) z) z (suc z))

  -- the labels behind the exits of the loop at a meeting
  abbrev pub rights : Chord → Exit → List Part
  rights t q = loop_rights d dok c curve g (chord_at d.polygon c q) (meeting_number d c (chord_at d.polygon c q) t) (is_forward g t (is_chord_end c q))

  -- the curve's points rise in the merged order
  pub ring_rises : Rises (curve_number d c) (curve_ring d.polygon c)
  ring_rises = rises_change (curve_spot d.polygon c) (curve_number d c) (curve_ring d.polygon c)
      (λ x y m k l.
      let a = curve_number_is d dok c curve x (ring_in d.polygon ok c curve x m) in
      let b = curve_number_is d dok c curve y (ring_in d.polygon ok c curve y k) in
      let r = curve_rises d dok c curve (curve_spot d.polygon c x) (curve_spot d.polygon c y) l in
      omega (arith, a, b, r)) (all_points d.polygon ok c curve).rises

  module _ (t : Chord) (m : Mem t (merged_chords d c)) where
    -- the meetings of a chord in the place order
    abbrev pub found : List Exit
    found = filter (meets_at d c t) (curve_ring d.polygon c)

    found_rises : Rises (curve_number d c) found
    found_rises = rises_filter (curve_number d c) (meets_at d c t) (curve_ring d.polygon c) ring_rises

    -- how many meetings come before a place
    abbrev pub before_place : ℕ → ℕ
    before_place y = met_between (mate d dok c curve) (beads d dok c curve) (least t) (most t) y

    meets_least : (z : ℕ) → meets (mate d dok c curve) (least t) (most t) z ≡ meets (mate d dok c curve) t.from t.to z
    meets_least z = go (goes_up t)
      where
        turn : (a b : Bool) → differ a b ≡ differ b a
        turn true true = refl
        turn true false = refl
        turn false true = refl
        turn false false = refl

        go : (b : Bool) → meets (mate d dok c curve) (cond b t.from t.to) (cond b t.to t.from) z ≡ meets (mate d dok c curve) t.from t.to z
        go true = refl
        go false = ap₂ (λ u v. u && not v) (turn (ltb t.to z) (ltb t.from z)) (turn (ltb t.to (mate d dok c curve z)) (ltb t.from (mate d dok c curve z)))

    before_is : (y : ℕ) → before_place y ≡ sum_by (λ q. bit (ltb (curve_number d c q) y)) found
    before_is y =
        count_by-map (λ z. ltb z y && meets (mate d dok c curve) (least t) (most t) z) (curve_number d c) (curve_ring d.polygon c)
        ∙ (sum_same _ (λ q. cond (meets_at d c t q) (bit (ltb (curve_number d c q) y)) 0) (curve_ring d.polygon c) (λ q k.
        ap (λ b. bit (ltb (curve_number d c q) y && b)) (meets_least (curve_number d c q) ∙ sym (meets_is d dok c curve t q (ring_in d.polygon ok c curve q k)))
        ∙ turn (ltb (curve_number d c q) y) (meets_at d c t q))
        ∙ sym (sum_filter (meets_at d c t) (λ q. bit (ltb (curve_number d c q) y)) (curve_ring d.polygon c)))
      where
        turn : (a b : Bool) → bit (a && b) ≡ cond b (bit a) 0
        turn true true = refl
        turn true false = refl
        turn false true = refl
        turn false false = refl

    -- meetings numbered from a number on
    abbrev pub Indexed : ℕ → List Exit → Type 0
    Indexed i [] = Unit {0}
    Indexed i (q ∷ qs) = (before_place (curve_number d c q) ≡ i) × (before_place (suc (curve_number d c q)) ≡ suc i) × Indexed (suc i) qs

    indexed : (qs : List Exit) (i bound : ℕ) → Rises (curve_number d c) qs → ((q : Exit) → Mem q qs → bound ≤ curve_number d c q)
        → ((y : ℕ) → bound ≤ y → before_place y ≡ i + sum_by (λ q. bit (ltb (curve_number d c q) y)) qs) → Indexed i qs
    indexed [] i bound r low h = tt
    indexed (q ∷ qs) i bound r low h =
        let f = λ (y : ℕ) (q : Exit). bit (ltb (curve_number d c q) y) in
        let z = number_of q in
        let l = low q (inl refl) in
        let a = h z l in
        let b = h (suc z) (omega (arith, l)) in
        let a0 : bit (ltb z z) ≡ 0 = (let w : z ≤ z = omega arith in rw (le-ltb z z w) refl) in
        let b0 : bit (ltb z (suc z)) ≡ 1 = rw (lt-ltb z (suc z) (omega arith)) refl in
        let none : (y : ℕ) → y ≤ suc z → sum_by (f y) qs ≡ 0 = λ y ly. sum_none (f y) qs (λ x k. let g = r.0 x k in let w : y ≤ number_of x = omega (arith, g, ly) in rw (le-ltb (number_of x) y w) refl) in (
          omega (arith, a, sum_by-cons (f z) q qs, a0, none z (omega arith)),
          omega (arith, b, sum_by-cons (f (suc z)) q qs, b0, none (suc z) (omega arith)),
          indexed qs (suc i) (suc z) r.1 (λ x k. let g = r.0 x k in omega (arith, g)) (λ y ly.
              let w : bit (ltb z y) ≡ 1 = rw (lt-ltb z y (omega (arith, ly))) refl in
              omega (arith, h y (omega (arith, ly, l)), sum_by-cons (f y) q qs, w)),
        )

    -- the meetings are numbered from 0
    pub all_indexed : Indexed 0 found
    all_indexed = indexed found 0 0 found_rises (λ q k. omega arith) (λ y l. let e = before_is y in omega (arith, e))

    -- the parts of the chord by their numbers
    abbrev pub part_number : ℕ → Part
    part_number n = record { line = 0; chord = least t; number = n }

    in_meetings : (q : Exit) → Mem q found → Mem q (meetings d c t)
    in_meetings q k = go (goes_up t) found k
      where
        to_reverse : (xs : List Exit) → Mem q xs → Mem q (reverse xs)
        to_reverse [] j = j
        to_reverse (x ∷ xs) (inl e) = subst (Mem q) (sym (reverse-append (x ∷ []) xs)) (mem_right q (reverse xs) (x ∷ []) (inl e))
        to_reverse (x ∷ xs) (inr j) = subst (Mem q) (sym (reverse-append (x ∷ []) xs)) (mem_left q (reverse xs) (x ∷ []) (to_reverse xs j))

        go : (b : Bool) (xs : List Exit) → Mem q xs → Mem q (cond b xs (reverse xs))
        go true xs j = j
        go false xs j = to_reverse xs j

    -- the loop at one meeting
    one_loop : (q : Exit) → Mem q found → NewRuns d dok c curve g (part_of d dok c curve t (cond (goes_up t) (curve_number d c q) (suc (curve_number d c q)))) (loop_at d c g total t q) (rights t q)
        (part_of d dok c curve t (cond (goes_up t) (suc (curve_number d c q)) (curve_number d c q)))
    one_loop q k =
        let mq = in_meetings q k in
        let h = at_meeting d dok c curve t m q mq in
        let s = loop_labels d dok c curve t m q mq g in
        let a = chord_at d.polygon c q in
        let n = meeting_number d c a t in
        let p = h.placed in
        let u = upto_suc d dok c curve a in
        subst (λ x. NewRuns d dok c curve g x (loop_at d c g total t q) (rights t q) (part_of d dok c curve t (cond (goes_up t) (suc (curve_number d c q)) (curve_number d c q)))) s.begins
        (subst (NewRuns d dok c curve g (cond (is_forward g t (is_chord_end c q)) (at_last d dok c curve g a n) (at_first d dok c curve g a n)) (loop_at d c g total t q) (rights t q)) s.closes
        (loop_runs d dok c curve g a n h.in_range (omega arith) (omega (arith, p, u)) (is_forward g t (is_chord_end c q))))

    abbrev loops_of : List Exit → List Exit
    loops_of qs = flat_map (loop_at d c g (meeting_count d c) t) qs

    abbrev rights_of : List Exit → List Part
    rights_of qs = flat_map (rights t) qs

    runs_up : (qs : List Exit) (i : ℕ) → goes_up t ≡ true → Indexed i qs → ((q : Exit) → Mem q qs → Mem q found) → NewRuns d dok c curve g (part_number i) (loops_of qs) (rights_of qs) (part_number (i + length qs))
    runs_up [] i e h k = ap part_number (let z : i ≡ i + 0 = omega arith in z)
    runs_up (q ∷ qs) i e h k =
        let z = number_of q in
        let one = one_loop q (k q (inl refl)) in
        let begin : part_of d dok c curve t (cond (goes_up t) z (suc z)) ≡ part_number i = ap (λ b. part_of d dok c curve t (cond b z (suc z))) e ∙ ap part_number h.0 in
        let close : part_of d dok c curve t (cond (goes_up t) (suc z) z) ≡ part_number (suc i) = ap (λ b. part_of d dok c curve t (cond b (suc z) z)) e ∙ ap part_number h.1 in
        let w : suc i + length qs ≡ i + suc (length qs) = omega arith in
        runs_join (surgery d c g) (new_circle d dok c curve g) (loop_at d c g total t q) (loops_of qs) (rights t q) (rights_of qs) (part_number i) (part_number (suc i)) (part_number (i + suc (length qs)))
        (subst (λ x. NewRuns d dok c curve g x (loop_at d c g total t q) (rights t q) (part_number (suc i))) begin
        (subst (NewRuns d dok c curve g (part_of d dok c curve t (cond (goes_up t) z (suc z))) (loop_at d c g total t q) (rights t q)) close one))
        (subst (λ x. NewRuns d dok c curve g (part_number (suc i)) (loops_of qs) (rights_of qs) (part_number x)) w (runs_up qs (suc i) e h.2 (λ x j. k x (inr j))))

    runs_down : (qs : List Exit) (i : ℕ) → goes_up t ≡ false → Indexed i qs → ((q : Exit) → Mem q qs → Mem q found)
        → NewRuns d dok c curve g (part_number (i + length qs)) (loops_of (reverse qs)) (rights_of (reverse qs)) (part_number i)
    runs_down [] i e h k = ap part_number (let z : i + 0 ≡ i = omega arith in z)
    runs_down (q ∷ qs) i e h k =
        let z = number_of q in
        let one = one_loop q (k q (inl refl)) in
        let begin : part_of d dok c curve t (cond (goes_up t) z (suc z)) ≡ part_number (suc i) = ap (λ b. part_of d dok c curve t (cond b z (suc z))) e ∙ ap part_number h.1 in
        let close : part_of d dok c curve t (cond (goes_up t) (suc z) z) ≡ part_number i = ap (λ b. part_of d dok c curve t (cond b (suc z) z)) e ∙ ap part_number h.0 in
        let w : suc i + length qs ≡ i + suc (length qs) = omega arith in
        let le = flat_reverse (loop_at d c g total t) q qs in
        let re = flat_reverse (rights t) q qs in
        subst (λ es. NewRuns d dok c curve g (part_number (i + suc (length qs))) es (rights_of (reverse (q ∷ qs))) (part_number i)) (sym le)
        (subst (λ rs. NewRuns d dok c curve g (part_number (i + suc (length qs))) (loops_of (reverse qs) ++ loop_at d c g total t q) rs (part_number i)) (sym re)
        (runs_join (surgery d c g) (new_circle d dok c curve g) (loops_of (reverse qs)) (loop_at d c g total t q) (rights_of (reverse qs)) (rights t q) (part_number (i + suc (length qs))) (part_number (suc i)) (part_number i)
        (subst (λ x. NewRuns d dok c curve g (part_number x) (loops_of (reverse qs)) (rights_of (reverse qs)) (part_number (suc i))) w (runs_down qs (suc i) e h.2 (λ x j. k x (inr j))))
        (subst (λ x. NewRuns d dok c curve g x (loop_at d c g total t q) (rights t q) (part_number i)) begin
        (subst (NewRuns d dok c curve g (part_of d dok c curve t (cond (goes_up t) z (suc z))) (loop_at d c g total t q) (rights t q)) close one))))

    -- where a meeting lies
    within : (q : Exit) → Mem q found → (least t < curve_number d c q) × (curve_number d c q < most t)
    within q k =
        let r = mem_filter (meets_at d c t) q (curve_ring d.polygon c) k in
        let o = ends_order d dok c curve t m in
        let b = first (beyond t (number_of q)) (not (beyond t (curve_number d c (curve_mate d.polygon c q)))) r.1 in
        let w = beyond_true t (number_of q) (omega (arith, o)) b in
        let n : number_of q ≢ most t = λ e. true≢false (sym (at_curve d dok c curve q (ring_in d.polygon ok c curve q r.0)) ∙ (ap (is_curve d dok c curve) e ∙ most_strand (goes_up t))) in
        (w.0, omega (arith, w.1, n))
      where
        first : (a b : Bool) → (a && b) ≡ true → a ≡ true
        first true b h = refl
        first false b h = absurd (false≢true h)

        most_strand : (b : Bool) → is_curve d dok c curve (cond b t.to t.from) ≡ false
        most_strand true = to_strand d dok c curve t m
        most_strand false = from_strand d dok c curve t m

    -- the part at the lesser end comes before all meetings, that at the greater end after them
    pub post_least : post_of (least t) ≡ part_number 0
    post_least =
        let o = ends_order d dok c curve t m in
        let e : mate d dok c curve (least t) ≡ most t = mate_low (goes_up t) in
        let l : least t ≤ mate d dok c curve (least t) = omega (arith, o, e) in
        let none : before_place (suc (least t)) ≡ 0 = before_is (suc (least t)) ∙ sum_none _ found (λ q k. let w = within q k in let h : suc (least t) ≤ number_of q = omega (arith, w.0) in rw (le-ltb (number_of q) (suc (least t)) h) refl) in
        ap (λ b. part d dok c curve (least t) (cond b (least t) (suc (least t)))) (le-ltb (mate d dok c curve (least t)) (least t) l)
        ∙ (part_least d dok c curve t m (suc (least t)) ∙ ap part_number none)
      where
        mate_low : (b : Bool) → mate d dok c curve (cond b t.from t.to) ≡ cond b t.to t.from
        mate_low true = mate_from d dok c curve t m
        mate_low false = mate_to d dok c curve t m

    -- and that at the greater end after all
    pub post_most : post_of (most t) ≡ part_number (length found)
    post_most =
        let o = ends_order d dok c curve t m in
        let e : mate d dok c curve (most t) ≡ least t = mate_high (goes_up t) in
        let l : mate d dok c curve (most t) < most t = omega (arith, o, e) in
        let all : before_place (most t) ≡ length found = before_is (most t) ∙ (sum_same _ (λ q. 1) found (λ q k. let w = within q k in rw (lt-ltb (number_of q) (most t) w.1) refl) ∙ sym (length_sum found)) in
        ap (λ b. part d dok c curve (most t) (cond b (most t) (suc (most t)))) (lt-ltb (mate d dok c curve (most t)) (most t) l)
        ∙ (part_most d dok c curve t m (most t) ∙ ap part_number all)
      where
        mate_high : (b : Bool) → mate d dok c curve (cond b t.to t.from) ≡ cond b t.from t.to
        mate_high true = mate_to d dok c curve t m
        mate_high false = mate_from d dok c curve t m

    -- from the start of the chord to its end
    pub chord_runs : NewRuns d dok c curve g (post_of t.from) (flat_map (loop_at d c g (meeting_count d c) t) (meetings d c t)) (flat_map (rights t) (meetings d c t)) (post_of t.to)
    chord_runs = go (goes_up t) refl
      where
        go : (b : Bool) → goes_up t ≡ b → NewRuns d dok c curve g (post_of t.from) (loops_of (meetings d c t)) (rights_of (meetings d c t)) (post_of t.to)
        go true e =
            let pl : post_of t.from ≡ part_number 0 = ap (λ b. post_of (cond b t.from t.to)) (sym e) ∙ post_least in
            let pm : post_of t.to ≡ part_number (length found) = ap (λ b. post_of (cond b t.to t.from)) (sym e) ∙ post_most in
            let r = runs_up found 0 e all_indexed (λ q k. k) in
            let z : 0 + length found ≡ length found = omega arith in
            subst (λ qs. NewRuns d dok c curve g (post_of t.from) (loops_of qs) (rights_of qs) (post_of t.to)) (ap (λ b. cond b found (reverse found)) (sym e))
            (subst (λ x. NewRuns d dok c curve g x (loops_of found) (rights_of found) (post_of t.to)) (sym pl)
            (subst (NewRuns d dok c curve g (part_number 0) (loops_of found) (rights_of found)) (ap part_number z ∙ sym pm) r))
        go false e =
            let pl : post_of t.to ≡ part_number 0 = ap (λ b. post_of (cond b t.from t.to)) (sym e) ∙ post_least in
            let pm : post_of t.from ≡ part_number (length found) = ap (λ b. post_of (cond b t.to t.from)) (sym e) ∙ post_most in
            let r = runs_down found 0 e all_indexed (λ q k. k) in
            let z : 0 + length found ≡ length found = omega arith in
            subst (λ qs. NewRuns d dok c curve g (post_of t.from) (loops_of qs) (rights_of qs) (post_of t.to)) (ap (λ b. cond b found (reverse found)) (sym e))
            (subst (λ x. NewRuns d dok c curve g x (loops_of (reverse found)) (rights_of (reverse found)) (post_of t.to)) (ap part_number z ∙ sym pm)
            (subst (NewRuns d dok c curve g (part_number (0 + length found)) (loops_of (reverse found)) (rights_of (reverse found))) (sym pl) r))
