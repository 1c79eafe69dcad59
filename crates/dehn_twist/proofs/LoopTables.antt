-- The loops at the meetings of a strand's chord, found point by point along the curve.
use Rattle.std.proofs.Common.{◌≡◌, ℕ, suc, ◌+◌, ◌-◌, ◌<◌, Bool, true, false, cond, not, ◌&&◌, List, [], ◌∷◌, ◌++◌, map, reverse, length, get_or, refl, sym, ◌∙◌, ap, ap₂, append_assoc, arith}
use Rattle.std.specs.List.{filter, flat_map}
use Rattle.std.proofs.lemmas.Bool.{false≢true}
use Rattle.std.proofs.lemmas.List.{append-nil, length-map, get_or-map, reverse-append}
use Rattle.std.proofs.lemmas.List.Elements.{filter-append}
use Rattle.std.proofs.lemmas.List.Folds.{flat_map-map}
use Rattle.obd_base.specs.Lists.{Mem, below}
use Rattle.obd_base.specs.declared.points.Exit.{Exit}
use Rattle.obd_base.specs.declared.points.Sign.{Sign}
use Rattle.obd_base.proofs.lists.Below.{below_push}
use Rattle.obd_base.proofs.lists.Sums.{by_entries}
use Rattle.page_surface.specs.Drawing.{Chord, Drawing, beyond, crosses, differ, exit}
use Rattle.page_surface.specs.Polygon.{sides}
use Rattle.curve_paths.specs.Curves.{curve_points}
use Rattle.drawing.proofs.SweepTables.{flat_push}
use Rattle.curve_paths.proofs.Members.{mem_get_or}
use Rattle.dehn_twist.specs.Surgery.{chord_at, chord_end, chord_start, curve_number, curve_ring, goes_up, is_forward, loop_along, loop_at, meeting_count, meeting_number, meetings, meetings_upto, meets_at, merged_chords, merged_curve}
use Rattle.dehn_twist.specs.Tables.{AreTaken, Pair, curve_point, loop_met, point_met, ring_at}
use Rattle.dehn_twist.specs.declared.ring.CurvePoint.{CurvePoint}
use Rattle.dehn_twist.proofs.CurveRing.{EndOf, chord_at_end, chord_at_start, is_first, is_last, mate_end, mate_start, ring_in, which_end}
use Rattle.dehn_twist.proofs.LineOrder.{map_down}
use Rattle.dehn_twist.proofs.MeetingSums.{crosses_either}
use Rattle.dehn_twist.proofs.RingTables.{chord_less}

-- a test on a list turned round
filter_reverse : {X : Type 0} (p : X → Bool) (xs : List X) → filter p (reverse xs) ≡ reverse (filter p xs)
filter_reverse p [] = refl
filter_reverse p (x ∷ xs) =
    ap (filter p) (reverse-append (x ∷ []) xs)
    ∙ (filter-append p (reverse xs) (x ∷ []) ∙ (ap (λ ys. ys ++ filter p (x ∷ [])) (filter_reverse p xs) ∙ go (p x) refl))
  where
    go : (b : Bool) → p x ≡ b → reverse (filter p xs) ++ filter p (x ∷ []) ≡ reverse (filter p (x ∷ xs))
    go true e = rw e (sym (reverse-append (x ∷ []) (filter p xs)))
    go false e = rw e (append-nil (reverse (filter p xs)))

-- what the members that pass give, one after the other
flat_filter : {X Y : Type 0} (p : X → Bool) (f : X → List Y) (xs : List X) → flat_map (λ x. cond (p x) (f x) []) xs ≡ flat_map f (filter p xs)
flat_filter p f [] = refl
flat_filter p f (x ∷ xs) = go (p x) refl (flat_filter p f xs)
  where
    go : (b : Bool) → p x ≡ b → flat_map (λ x. cond (p x) (f x) []) xs ≡ flat_map f (filter p xs) → flat_map (λ x. cond (p x) (f x) []) (x ∷ xs) ≡ flat_map f (filter p (x ∷ xs))
    go true e ih = rw e (ap (λ ys. f x ++ ys) ih)
    go false e ih = rw e ih

-- one thing more after others
flat_more : {X : Type 0} (f : ℕ → List X) (n : ℕ) (before old after : List X) → old ≡ before ++ flat_map f (below n) → after ≡ old ++ f n → after ≡ before ++ flat_map f (below (n + 1))
flat_more f n before old after so_far grown =
    let e : suc n ≡ n + 1 = omega arith in
    grown ∙ (ap (λ ys. ys ++ f n) so_far ∙ (append_assoc before (flat_map f (below n)) (f n)
    ∙ ap (λ ys. before ++ ys) (sym (flat_push f (below n) n) ∙ (ap (flat_map f) (sym (below_push n)) ∙ ap (λ k. flat_map f (below k)) e))))

module _ (d : Drawing) (c : List Exit) (sign : Sign) (t : Chord) where
  abbrev ring : List Exit
  ring = curve_ring d.polygon c

  abbrev point : ℕ → Exit
  point i = get_or ring i (exit 0 0)

  abbrev met : Exit → List Exit
  met q = loop_met d c sign t q

  abbrev loop : Exit → List Exit
  loop q = loop_at d c sign (meeting_count d c) t q

  abbrev found : List Exit
  found = filter (meets_at d c t) ring

  abbrev put : Bool → List Exit
  put v = flat_map (λ i. met (point (cond v i (length ring - 1 - i)))) (below (length ring))

  abbrev all_of : Bool → List Exit
  all_of v = flat_map loop (cond v found (reverse found))

  -- the points by their numbers are all points
  all_points : map point (below (length ring)) ≡ ring
  all_points = sym (by_entries (exit 0 0) ring (length ring) refl)

  -- upwards or downwards
  both_ways : (b : Bool) → put b ≡ all_of b
  both_ways true = sym (flat_map-map met point (below (length ring))) ∙ (ap (flat_map met) all_points ∙ flat_filter (meets_at d c t) loop ring)
  both_ways false =
      sym (flat_map-map met (λ i. point (length ring - 1 - i)) (below (length ring)))
      ∙ (ap (flat_map met) (map_down point (length ring) ∙ ap reverse all_points) ∙ (flat_filter (meets_at d c t) loop (reverse ring) ∙ ap (flat_map loop) (filter_reverse (meets_at d c t) ring)))

  -- all loops of a chord
  pub loops_done : (n : ℕ) (before row : List Exit) → n ≡ length (curve_ring d.polygon c) → row ≡ before ++ flat_map (λ i. loop_met d c sign t (ring_at d.polygon c (point_met d.polygon c t i))) (below n)
      → row ≡ before ++ flat_map (loop_at d c sign (meeting_count d c) t) (meetings d c t)
  loops_done n before row end is =
      is ∙ ap (λ ys. before ++ ys) (ap (λ k. flat_map (λ i. loop_met d c sign t (ring_at d.polygon c (point_met d.polygon c t i))) (below k)) end ∙ both_ways (goes_up t))

  -- as many points as the table has
  pub ring_count : (xs : List CurvePoint) → xs ≡ map (curve_point d c) (curve_ring d.polygon c) → length xs ≡ length (curve_ring d.polygon c)
  ring_count xs is = ap length is ∙ length-map (curve_ring d.polygon c) (curve_point d c)

  -- the loop at one point more
  pub loops_more : (n r : ℕ) (xs : List CurvePoint) (before old after : List Exit) → xs ≡ map (curve_point d c) (curve_ring d.polygon c) → r ≡ cond (goes_up t) n (length xs - 1 - n)
      → old ≡ before ++ flat_map (λ i. loop_met d c sign t (ring_at d.polygon c (point_met d.polygon c t i))) (below n) → after ≡ old ++ loop_met d c sign t (ring_at d.polygon c r)
      → after ≡ before ++ flat_map (λ i. loop_met d c sign t (ring_at d.polygon c (point_met d.polygon c t i))) (below (n + 1))
  loops_more n r xs before old after are here so_far grown =
      let e : r ≡ point_met d.polygon c t n = here ∙ ap (λ k. cond (goes_up t) n (k - 1 - n)) (ring_count xs are) in
      flat_more (λ i. loop_met d c sign t (ring_at d.polygon c (point_met d.polygon c t i))) n before old after so_far (grown ∙ ap (λ i. old ++ loop_met d c sign t (ring_at d.polygon c i)) e)

-- a loop as the copies of a curve give it
pub loop_same : (made seen : Pair) → made ≡ seen → (sign : Sign) (t : Chord) (a line : ℕ) (ends way b : Bool) → line ≡ meeting_number seen.drawing seen.curve a t → b ≡ is_forward sign t ends → b ≡ way
    → loop_along made.drawing made.curve sign way (meeting_count made.drawing made.curve) a line
    ≡ loop_along seen.drawing seen.curve sign (is_forward sign t ends) (meeting_count seen.drawing seen.curve) a (meeting_number seen.drawing seen.curve a t)
loop_same made seen same sign t a line ends way b line_is is test =
    ap (λ (p : Pair). loop_along p.drawing p.curve sign way (meeting_count p.drawing p.curve) a line) same
    ∙ ap₂ (λ (v : Bool) (n : ℕ). loop_along seen.drawing seen.curve sign v (meeting_count seen.drawing seen.curve) a n) (sym test ∙ is) line_is

-- the table of the meetings before each chord, as another call sees it
pub uptos_seen : (made seen : Pair) → made ≡ seen → (us : List ℕ) → us ≡ map (meetings_upto seen.drawing seen.curve) (below (suc (length seen.curve)))
    → us ≡ map (meetings_upto made.drawing made.curve) (below (suc (length made.curve)))
uptos_seen made seen same us is = is ∙ ap (λ (p : Pair). map (meetings_upto p.drawing p.curve) (below (suc (length p.curve)))) (sym same)

module _ (d : Drawing) (c : List Exit) (ok : AreTaken d c) (t : Chord) (m : Mem t (merged_chords d c)) (n : ℕ) (l : n < length (curve_ring d.polygon c)) (xs : List CurvePoint) (z : CurvePoint)
    (xs_are : xs ≡ map (curve_point d c) (curve_ring d.polygon c)) where
  abbrev q : Exit
  q = ring_at d.polygon c n

  -- the point that is read
  read : get_or xs n z ≡ curve_point d c q
  read = ap (λ ys. get_or ys n z) xs_are ∙ get_or-map (curve_point d c) (curve_ring d.polygon c) n (exit 0 0) z l

  -- is one of the curve's
  inside : (q.side < sides d.polygon) × (q.place < curve_points d.polygon c q.side)
  inside = ring_in d.polygon ok.embedded.polygon.pairs c ok.curve q (mem_get_or (curve_ring d.polygon c) n (exit 0 0) l)

  -- where a strand's chord meets the curve, it crosses the curve's chord
  met_crosses : meets_at d c t q ≡ true → crosses (merged_curve d c (chord_at d.polygon c q)) t ≡ true
  met_crosses h = go (which_end d.polygon ok.embedded.polygon.pairs c ok.curve q inside)
    where
      one : (u v : Bool) → (v && not u) ≡ true → differ u v ≡ true
      one true true e = absurd (false≢true e)
      one true false e = absurd (false≢true e)
      one false v e = two v e
        where
          two : (v : Bool) → (v && true) ≡ true → v ≡ true
          two true e = refl
          two false e = e

      other : (u v : Bool) → (u && not v) ≡ true → differ u v ≡ true
      other true v e = e
      other false v e = absurd (false≢true e)

      go : EndOf d.polygon ok.embedded.polygon.pairs c ok.curve q → crosses (merged_curve d c (chord_at d.polygon c q)) t ≡ true
      go (is_last a s e) =
          let k : chord_at d.polygon c q ≡ a = ap (chord_at d.polygon c) e ∙ chord_at_end d.polygon ok.embedded.polygon.pairs c ok.curve a s in
          let w : meets_at d c t (chord_end c a) ≡ true = ap (meets_at d c t) (sym e) ∙ h in
          let u : (beyond t (curve_number d c (chord_end c a)) && not (beyond t (curve_number d c (chord_start d.polygon c a)))) ≡ true
          = ap (λ y. beyond t (curve_number d c (chord_end c a)) && not (beyond t (curve_number d c y))) (sym (mate_end d.polygon ok.embedded.polygon.pairs c ok.curve a s)) ∙ w in
          ap (λ b. crosses (merged_curve d c b) t) k
          ∙ (sym (crosses_either d ok.embedded c ok.curve t m a s) ∙ one (beyond t (curve_number d c (chord_start d.polygon c a))) (beyond t (curve_number d c (chord_end c a))) u)
      go (is_first a s e) =
          let k : chord_at d.polygon c q ≡ a = ap (chord_at d.polygon c) e ∙ chord_at_start d.polygon ok.embedded.polygon.pairs c ok.curve a s in
          let w : meets_at d c t (chord_start d.polygon c a) ≡ true = ap (meets_at d c t) (sym e) ∙ h in
          let u : (beyond t (curve_number d c (chord_start d.polygon c a)) && not (beyond t (curve_number d c (chord_end c a)))) ≡ true
          = ap (λ y. beyond t (curve_number d c (chord_start d.polygon c a)) && not (beyond t (curve_number d c y))) (sym (mate_start d.polygon ok.embedded.polygon.pairs c ok.curve a s)) ∙ w in
          ap (λ b. crosses (merged_curve d c b) t) k
          ∙ (sym (crosses_either d ok.embedded c ok.curve t m a s) ∙ other (beyond t (curve_number d c (chord_start d.polygon c a))) (beyond t (curve_number d c (chord_end c a))) u)

  module _ (b : Bool) (test : b ≡ (beyond t (get_or xs n z).number && not (beyond t (get_or xs n z).mate))) where
    -- the test is the one for a meeting
    tested : b ≡ meets_at d c t q
    tested = test ∙ ap (λ (y : CurvePoint). beyond t y.number && not (beyond t y.mate)) read

    -- the chord of a point of the curve
    pub met_chord : (get_or xs n z).chord < length c
    met_chord = let k = ap (λ (y : CurvePoint). y.chord) read in omega (arith, k, chord_less d c ok q inside)

    -- crosses the strand's where they meet
    pub met_there : b ≡ true → crosses (merged_curve d c (get_or xs n z).chord) t ≡ true
    met_there holds = ap (λ (y : CurvePoint). crosses (merged_curve d c y.chord) t) read ∙ met_crosses (sym tested ∙ holds)

    -- and the loop is the one there
    pub loop_there : (sign : Sign) → b ≡ true → loop_along d c sign (is_forward sign t (get_or xs n z).ends) (meeting_count d c) (get_or xs n z).chord (meeting_number d c (get_or xs n z).chord t) ≡ loop_met d c sign t q
    loop_there sign holds =
        ap (λ (y : CurvePoint). loop_along d c sign (is_forward sign t y.ends) (meeting_count d c) y.chord (meeting_number d c y.chord t)) read
        ∙ sym (ap (λ (v : Bool). cond v (loop_at d c sign (meeting_count d c) t q) []) (sym tested ∙ holds))

    -- elsewhere there is none
    pub no_loop : (sign : Sign) (row : List Exit) → b ≡ false → row ≡ row ++ loop_met d c sign t q
    no_loop sign row fails =
        sym (append-nil row) ∙ ap (λ ys. row ++ ys) (sym (ap (λ (v : Bool). cond v (loop_at d c sign (meeting_count d c) t q) []) (sym tested ∙ fails)))
