-- No label stands at two chords of the surgery.
use Rattle.std.proofs.Common.{◌≡◌, ◌≢◌, ℕ, suc, ◌+◌, ◌<◌, ◌≤◌, Bool, true, false, cond, eqb, ltb, ◌&&◌, List, [], ◌∷◌, map, reverse, length, refl, sym, ◌∙◌, ap, ap₂, inl, inr, arith}
use Rattle.std.specs.List.{flat_map, range_with_len, sum_by}
use Rattle.std.proofs.lemmas.Bool.{cases_eq, eq-eqb, eqb-true, ne_eqb}
use Rattle.std.proofs.lemmas.List.Sums.{sum_by-cons}
use Rattle.obd_base.specs.Lists.{Mem, below}
use Rattle.obd_base.specs.declared.points.Exit.{Exit}
use Rattle.obd_base.specs.declared.points.Sign.{Sign}
use Rattle.obd_base.proofs.lists.Below.{bit}
use Rattle.obd_base.proofs.lists.Sums.{sum_add, sum_flat, sum_least, sum_map, sum_none}
use Rattle.page_surface.specs.Drawing.{Chord, Drawing, IsEmbedded}
use Rattle.curve_paths.specs.Curves.{IsCurve, turned}
use Rattle.dehn_twist.specs.Surgery.{chord_at, curve_number, goes_up, is_chord_end, is_forward, meeting_count, meeting_number, meetings, meetings_upto, merged_chords, next_exit}
use Rattle.dehn_twist.proofs.ChordRuns.{Indexed, all_indexed, found, part_number, post_least, post_most, post_of, rights}
use Rattle.dehn_twist.proofs.Circle.{Part}
use Rattle.dehn_twist.proofs.CopySums.{at_meeting, sum_turned}
use Rattle.dehn_twist.proofs.MeetingParts.{part_of}
use Rattle.dehn_twist.proofs.MeetingLabels.{loop_labels}
use Rattle.dehn_twist.proofs.MeetingSums.{strands_once, sum_all_meetings, sum_reverse, upto_suc}
use Rattle.dehn_twist.proofs.BetweenEnds.{least}
use Rattle.dehn_twist.proofs.LineLabels.{line_label}
use Rattle.dehn_twist.proofs.Runs.{at_first, at_last, first_is, last_is, loop_rights}
use Rattle.drawing.proofs.Placed.{ends_at, ends_of}
use Rattle.drawing.proofs.Spots.{out_below}
use Rattle.dehn_twist.proofs.RoundNumbers.{sum_next, range_once}

-- two labels are the same
abbrev pub label_test : Part → Part → Bool
label_test x y = eqb x.line y.line && (eqb x.chord y.chord && eqb x.number y.number)

module _ (d : Drawing) (dok : IsEmbedded d) (c : List Exit) (curve : IsCurve d.polygon c) (g : Sign) (x : Part) where
  abbrev R : ℕ
  R = length c

  abbrev hits : List Part → ℕ
  hits rs = sum_by (λ r. bit (label_test x r)) rs

  abbrev is_line : ℕ → Bool
  is_line n = eqb x.line 1 && eqb x.number n

  -- the labels of a line along a loop
  module _ (a n : ℕ) (la : a < length c) (from : meetings_upto d c a ≤ n) (to : n < meetings_upto d c (suc a)) (f : ℕ → Part)
      (away : (b : ℕ) → b ≢ a → f b ≡ line_label d dok c curve b n) where
    loop_hits : sum_by (λ b. bit (label_test x (f b))) (below R) ≤ bit (label_test x (f a)) + bit (is_line n)
    loop_hits =
        let one = sum_least (λ b. bit (label_test x (f b))) (λ b. bit (label_test x (f a) && eqb a b) + bit (is_line n && eqb x.chord b)) (below R) (λ b m. each b) in
        let two = sum_add (λ b. bit (label_test x (f a) && eqb a b)) (λ b. bit (is_line n && eqb x.chord b)) (below R) in
        let u = out_below (label_test x (f a)) a R in
        let v = out_below (is_line n) x.chord R in
        omega (arith, one, two, u, v, least_and (label_test x (f a)) (ltb a R), least_and (is_line n) (ltb x.chord R))
      where
        least_and : (p q : Bool) → bit (p && q) ≤ bit p
        least_and true true = omega arith
        least_and true false = omega arith
        least_and false q = omega arith

        each : (b : ℕ) → bit (label_test x (f b)) ≤ bit (label_test x (f a) && eqb a b) + bit (is_line n && eqb x.chord b)
        each b = elim (cases_eq a b) [
          | inl e ↦
              let k : bit (label_test x (f a) && eqb a b) ≡ bit (label_test x (f a)) = rw (eq-eqb a b e) (ap bit (and_true (label_test x (f a)))) in
              let z : bit (label_test x (f b)) ≡ bit (label_test x (f a)) = ap (λ i. bit (label_test x (f i))) (sym e) in
              omega (arith, k, z)
          | inr ne ↦
              let z : bit (label_test x (f b)) ≡ bit (is_line n && eqb x.chord b) = ap (λ r. bit (label_test x r)) (away b (λ q. ne (sym q))) ∙ ap bit (turn (eqb x.line 1) (eqb x.chord b) (eqb x.number n)) in
              omega (arith, z)
        ]
          where
            and_true : (b : Bool) → (b && true) ≡ b
            and_true true = refl
            and_true false = refl

            turn : (p q r : Bool) → (p && (q && r)) ≡ ((p && r) && q)
            turn true true true = refl
            turn true true false = refl
            turn true false true = refl
            turn true false false = refl
            turn false q r = refl

  rights_hits : (a n : ℕ) → a < length c → meetings_upto d c a ≤ n → n < meetings_upto d c (suc a) → (b : Bool)
      → hits (loop_rights d dok c curve g a n b) ≤ bit (label_test x (cond b (at_first d dok c curve g a n) (at_last d dok c curve g a n))) + bit (is_line n)
  rights_hits a n la from to true =
      let f = λ (b : ℕ). at_first d dok c curve g b n in
      let s = sum_map (λ r. bit (label_test x r)) (λ b. f (next_exit R b)) (turned a (below R)) in
      let t = sum_turned (λ b. bit (label_test x (f (next_exit R b)))) a (below R) in
      let u = sum_next (λ b. bit (label_test x (f b))) R in
      omega (arith, s, t, u, loop_hits a n la from to f (λ b ne. first_is d dok c curve g a n la from to b ne))
  rights_hits a n la from to false =
      let f = λ (b : ℕ). at_last d dok c curve g b n in
      let w = sum_reverse (λ r. bit (label_test x r)) (map f (turned a (below R))) in
      let s = sum_map (λ r. bit (label_test x r)) f (turned a (below R)) in
      let t = sum_turned (λ b. bit (label_test x (f b))) a (below R) in
      omega (arith, w, s, t, loop_hits a n la from to f (λ b ne. last_is d dok c curve g a n la from to b ne))

  module _ (t : Chord) (m : Mem t (merged_chords d c)) where
    abbrev is_part : Bool
    is_part = eqb x.line 0 && eqb x.chord (least t)

    -- the loop at a meeting
    meeting_hits : (q : Exit) → Mem q (meetings d c t) → hits (rights d dok c curve g t q)
        ≤ bit (label_test x (part_of d dok c curve t (cond (goes_up t) (suc (curve_number d c q)) (curve_number d c q)))) + bit (is_line (meeting_number d c (chord_at d.polygon c q) t))
    meeting_hits q k =
        let h = at_meeting d dok c curve t m q k in
        let s = loop_labels d dok c curve t m q k g in
        let a = chord_at d.polygon c q in
        let n = meeting_number d c a t in
        let p = h.placed in
        let u = upto_suc d dok c curve a in
        let e : bit (label_test x (cond (is_forward g t (is_chord_end c q)) (at_first d dok c curve g a n) (at_last d dok c curve g a n)))
        ≡ bit (label_test x (part_of d dok c curve t (cond (goes_up t) (suc (curve_number d c q)) (curve_number d c q)))) = ap (λ r. bit (label_test x r)) s.closes in
        let b = rights_hits a n h.in_range (omega arith) (omega (arith, p, u)) (is_forward g t (is_chord_end c q)) in
        omega (arith, b, e)

    -- the parts of the chord by their numbers
    part_hit : (n : ℕ) → bit (label_test x (part_number d dok c curve g t m n)) ≡ cond is_part (bit (eqb x.number n)) 0
    part_hit n = go (eqb x.line 0) (eqb x.chord (least t)) (eqb x.number n)
      where
        go : (p q r : Bool) → bit (p && (q && r)) ≡ cond (p && q) (bit r) 0
        go true true r = refl
        go true false r = refl
        go false q r = refl

    after_up : (qs : List Exit) (i : ℕ) → Indexed d dok c curve g t m i qs
        → bit (label_test x (part_number d dok c curve g t m i)) + sum_by (λ q. bit (label_test x (part_of d dok c curve t (suc (curve_number d c q))))) qs
        ≡ cond is_part (sum_by (λ j. bit (eqb x.number j)) (range_with_len i (suc (length qs)))) 0
    after_up [] i h = let s = sum_by-cons (λ j. bit (eqb x.number j)) i [] in let e : bit (eqb x.number i) ≡ sum_by (λ j. bit (eqb x.number j)) (i ∷ []) = omega (arith, s) in omega (arith, part_hit i, ap (λ z. cond is_part z 0) e)
    after_up (q ∷ qs) i h =
        let f = λ (q : Exit). bit (label_test x (part_of d dok c curve t (suc (curve_number d c q)))) in
        let ih = after_up qs (suc i) h.2 in
        let s = sum_by-cons f q qs in
        let e : f q ≡ bit (label_test x (part_number d dok c curve g t m (suc i))) = ap (λ n. bit (label_test x (part_number d dok c curve g t m n))) h.1 in
        let o : i + 1 ≡ suc i = omega arith in
        let w : sum_by (λ j. bit (eqb x.number j)) (range_with_len i (suc (suc (length qs)))) ≡ bit (eqb x.number i) + sum_by (λ j. bit (eqb x.number j)) (range_with_len (suc i) (suc (length qs)))
        = sum_by-cons (λ j. bit (eqb x.number j)) i (range_with_len (i + 1) (suc (length qs))) ∙ ap (λ z. bit (eqb x.number i) + sum_by (λ j. bit (eqb x.number j)) (range_with_len z (suc (length qs)))) o in
        let v = ap (λ z. cond is_part z 0) w ∙ add is_part (bit (eqb x.number i)) (sum_by (λ j. bit (eqb x.number j)) (range_with_len (suc i) (suc (length qs)))) in
        omega (arith, ih, s, e, v, part_hit i)
      where
        add : (b : Bool) (u v : ℕ) → cond b (u + v) 0 ≡ cond b u 0 + cond b v 0
        add true u v = refl
        add false u v = refl

    after_down : (qs : List Exit) (i : ℕ) → Indexed d dok c curve g t m i qs
        → bit (label_test x (part_number d dok c curve g t m (i + length qs))) + sum_by (λ q. bit (label_test x (part_of d dok c curve t (curve_number d c q)))) qs
        ≡ cond is_part (sum_by (λ j. bit (eqb x.number j)) (range_with_len i (suc (length qs)))) 0
    after_down [] i h =
        let s = sum_by-cons (λ j. bit (eqb x.number j)) i [] in
        let z : i + 0 ≡ i = omega arith in
        let e : bit (eqb x.number i) ≡ sum_by (λ j. bit (eqb x.number j)) (i ∷ []) = omega (arith, s) in
        let k : bit (label_test x (part_number d dok c curve g t m (i + 0))) ≡ bit (label_test x (part_number d dok c curve g t m i)) = ap (λ n. bit (label_test x (part_number d dok c curve g t m n))) z in
        omega (arith, part_hit i, ap (λ z. cond is_part z 0) e, k)
    after_down (q ∷ qs) i h =
        let f = λ (q : Exit). bit (label_test x (part_of d dok c curve t (curve_number d c q))) in
        let ih = after_down qs (suc i) h.2 in
        let s = sum_by-cons f q qs in
        let e : f q ≡ bit (label_test x (part_number d dok c curve g t m i)) = ap (λ n. bit (label_test x (part_number d dok c curve g t m n))) h.0 in
        let z : suc i + length qs ≡ i + suc (length qs) = omega arith in
        let k : bit (label_test x (part_number d dok c curve g t m (suc i + length qs))) ≡ bit (label_test x (part_number d dok c curve g t m (i + suc (length qs)))) = ap (λ n. bit (label_test x (part_number d dok c curve g t m n))) z in
        let o : i + 1 ≡ suc i = omega arith in
        let w : sum_by (λ j. bit (eqb x.number j)) (range_with_len i (suc (suc (length qs)))) ≡ bit (eqb x.number i) + sum_by (λ j. bit (eqb x.number j)) (range_with_len (suc i) (suc (length qs)))
        = sum_by-cons (λ j. bit (eqb x.number j)) i (range_with_len (i + 1) (suc (length qs))) ∙ ap (λ z. bit (eqb x.number i) + sum_by (λ j. bit (eqb x.number j)) (range_with_len z (suc (length qs)))) o in
        let v = ap (λ z. cond is_part z 0) w ∙ add is_part (bit (eqb x.number i)) (sum_by (λ j. bit (eqb x.number j)) (range_with_len (suc i) (suc (length qs)))) in
        omega (arith, ih, s, e, v, k, part_hit i)
      where
        add : (b : Bool) (u v : ℕ) → cond b (u + v) 0 ≡ cond b u 0 + cond b v 0
        add true u v = refl
        add false u v = refl

    -- each part of the chord once
    parts_once : bit (label_test x (post_of d dok c curve g t.from)) + sum_by (λ q. bit (label_test x (part_of d dok c curve t (cond (goes_up t) (suc (curve_number d c q)) (curve_number d c q))))) (meetings d c t) ≤ bit is_part
    parts_once = go (goes_up t) refl
      where
        fs : List Exit
        fs = found d dok c curve g t m

        few : (b : Bool) (n : ℕ) → n ≤ 1 → cond b n 0 ≤ bit b
        few true n l = l
        few false n l = omega arith

        go : (b : Bool) → goes_up t ≡ b → bit (label_test x (post_of d dok c curve g t.from)) + sum_by (λ q. bit (label_test x (part_of d dok c curve t (cond (goes_up t) (suc (curve_number d c q)) (curve_number d c q))))) (meetings d c t) ≤ bit is_part
        go true e =
            let p : bit (label_test x (post_of d dok c curve g t.from)) ≡ bit (label_test x (part_number d dok c curve g t m 0))
            = ap (λ z. bit (label_test x z)) (ap (λ b. post_of d dok c curve g (cond b t.from t.to)) (sym e) ∙ post_least d dok c curve g t m) in
            let s : sum_by (λ q. bit (label_test x (part_of d dok c curve t (cond (goes_up t) (suc (curve_number d c q)) (curve_number d c q))))) (meetings d c t) ≡ sum_by (λ q. bit (label_test x (part_of d dok c curve t (suc (curve_number d c q))))) fs
            = ap₂ (λ b qs. sum_by (λ q. bit (label_test x (part_of d dok c curve t (cond b (suc (curve_number d c q)) (curve_number d c q))))) qs) e (ap (λ b. cond b fs (reverse fs)) e) in
            let k = after_up fs 0 (all_indexed d dok c curve g t m) in
            let l = few is_part (sum_by (λ j. bit (eqb x.number j)) (range_with_len 0 (suc (length fs)))) (range_once x.number 0 (suc (length fs))) in
            omega (arith, p, s, k, l)
        go false e =
            let f = λ (q : Exit). bit (label_test x (part_of d dok c curve t (curve_number d c q))) in
            let z : 0 + length fs ≡ length fs = omega arith in
            let p : bit (label_test x (post_of d dok c curve g t.from)) ≡ bit (label_test x (part_number d dok c curve g t m (0 + length fs)))
            = ap (λ z. bit (label_test x z)) (ap (λ b. post_of d dok c curve g (cond b t.to t.from)) (sym e) ∙ (post_most d dok c curve g t m ∙ ap (part_number d dok c curve g t m) (sym z))) in
            let s : sum_by (λ q. bit (label_test x (part_of d dok c curve t (cond (goes_up t) (suc (curve_number d c q)) (curve_number d c q))))) (meetings d c t) ≡ sum_by f fs
            = ap₂ (λ b qs. sum_by (λ q. bit (label_test x (part_of d dok c curve t (cond b (suc (curve_number d c q)) (curve_number d c q))))) qs) e (ap (λ b. cond b fs (reverse fs)) e) ∙ sum_reverse f fs in
            let k = after_down fs 0 (all_indexed d dok c curve g t m) in
            let l = few is_part (sum_by (λ j. bit (eqb x.number j)) (range_with_len 0 (suc (length fs)))) (range_once x.number 0 (suc (length fs))) in
            omega (arith, p, s, k, l)

    -- the labels of the chord
    abbrev pub chord_hits : ℕ
    chord_hits = bit (label_test x (post_of d dok c curve g t.from)) + sum_by (λ r. bit (label_test x r)) (flat_map (rights d dok c curve g t) (meetings d c t))

    chord_few : chord_hits ≤ bit is_part + sum_by (λ q. bit (is_line (meeting_number d c (chord_at d.polygon c q) t))) (meetings d c t)
    chord_few =
        let h = λ (q : Exit). bit (label_test x (part_of d dok c curve t (cond (goes_up t) (suc (curve_number d c q)) (curve_number d c q)))) in
        let l = λ (q : Exit). bit (is_line (meeting_number d c (chord_at d.polygon c q) t)) in
        let a = sum_flat (λ r. bit (label_test x r)) (rights d dok c curve g t) (meetings d c t) in
        let b = sum_least (λ q. hits (rights d dok c curve g t q)) (λ q. h q + l q) (meetings d c t) (λ q k. meeting_hits q k) in
        omega (arith, a, b, sum_add h l (meetings d c t), parts_once)

  -- the labels of all chords
  abbrev pub hits_of : Chord → ℕ
  hits_of t = bit (label_test x (post_of d dok c curve g t.from)) + sum_by (λ r. bit (label_test x r)) (flat_map (rights d dok c curve g t) (meetings d c t))

  -- each label stands at one chord at most
  pub all_few : sum_by hits_of (merged_chords d c) ≤ 1
  all_few =
      let ss = merged_chords d c in
      let p = λ (t : Chord). bit (eqb x.line 0 && eqb x.chord (least t)) in
      let l = λ (t : Chord). sum_by (λ q. bit (is_line (meeting_number d c (chord_at d.polygon c q) t))) (meetings d c t) in
      let one = sum_least hits_of (λ t. p t + l t) ss (λ t m. chord_few t m) in
      let two = sum_add p l ss in
      let three = sum_all_meetings d dok c curve (λ n. bit (is_line n)) in
      let four = out_below (eqb x.line 1) x.number (meeting_count d c) in
      let five = sum_least p (λ t. cond (eqb x.line 0) (ends_of t x.chord) 0) ss (λ t m. within (eqb x.line 0) t (goes_up t)) in
      let six = scaled (eqb x.line 0) ss in
      let seven = never (eqb x.line 0) (eqb x.line 1) (ltb x.number (meeting_count d c)) (λ e f. (let u = eqb-true x.line 0 e in let v = eqb-true x.line 1 f in omega (arith, u, v))) in
      omega (arith, one, two, three, four, five, six, seven, few (eqb x.line 0) (strands_once d dok c curve x.chord))
    where
      within : (e : Bool) (t : Chord) (b : Bool) → bit (e && eqb x.chord (cond b t.from t.to)) ≤ cond e (ends_of t x.chord) 0
      within false t b = omega arith
      within true t true = let z = turn x.chord t.from in omega (arith, z)
        where
          turn : (u v : ℕ) → bit (eqb u v) ≡ bit (eqb v u)
          turn u v = elim (cases_eq u v) [ inl e ↦ rw (eq-eqb u v e, eq-eqb v u (sym e)) refl | inr n ↦ rw (ne_eqb u v n, ne_eqb v u (λ q. n (sym q))) refl ]
      within true t false = let z = turn x.chord t.to in omega (arith, z)
        where
          turn : (u v : ℕ) → bit (eqb u v) ≡ bit (eqb v u)
          turn u v = elim (cases_eq u v) [ inl e ↦ rw (eq-eqb u v e, eq-eqb v u (sym e)) refl | inr n ↦ rw (ne_eqb u v n, ne_eqb v u (λ q. n (sym q))) refl ]

      scaled : (e : Bool) (ss : List Chord) → sum_by (λ t. cond e (ends_of t x.chord) 0) ss ≡ cond e (ends_at ss x.chord) 0
      scaled true ss = refl
      scaled false ss = sum_none (λ t. 0) ss (λ t m. refl)

      few : (e : Bool) → ends_at (merged_chords d c) x.chord ≤ 1 → cond e (ends_at (merged_chords d c) x.chord) 0 ≤ bit e
      few true l = l
      few false l = omega arith

      never : (e f b : Bool) → (e ≡ true → f ≡ true → ⊥) → bit e + bit (f && b) ≤ 1
      never true true b h = absurd (h refl refl)
      never true false b h = omega arith
      never false true true h = omega arith
      never false true false h = omega arith
      never false false b h = omega arith
