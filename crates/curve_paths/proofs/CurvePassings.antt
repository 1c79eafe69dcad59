-- The passings of a curve, and that the word of its chords round the circle reduces to nothing.
use Rattle.std.proofs.Common.{◌≡◌, ℕ, suc, ◌-◌, ◌<◌, ◌≤◌, cond, ltb, List, [], ◌∷◌, map, length, get_or, refl, sym, subst, ap, ap₂, ◌∙◌, arith}
use Rattle.std.proofs.lemmas.Bool.{false≢true, lt-ltb, le-ltb}
use Rattle.std.proofs.lemmas.List.FromFn.{get_or-map-range_with_len, length-map-range_with_len}
use Rattle.obd_base.specs.Lists.{Mem, below}
use Rattle.obd_base.specs.declared.points.Exit.{Exit}
use Rattle.page_surface.specs.Drawing.{exit}
use Rattle.page_surface.specs.Polygon.{Pairs, Polygon, partner, sides}
use Rattle.curve_paths.specs.Alphabet.{Null}
use Rattle.curve_paths.specs.Curves.{IsCurve, curve_entry, curve_points, curve_spot, exit_at, previous}
use Rattle.curve_paths.proofs.CurvePlanar.{all_points, curve_planar, mate_in}
use Rattle.curve_paths.proofs.CurvePoints.{In, Made, made, leaving, entering, leaves, enters, leaves_exit, leaves_entry, enters_entry, exit_in, points_partner, mate, mate_exit, mate_entry, following, following-less, following-previous, previous-less}
use Rattle.curve_paths.proofs.Matching.{null_closed}
use Rattle.curve_paths.proofs.PointPlaces.{mem_points, points_of}
use Rattle.curve_paths.proofs.NameWords.{names}
use Rattle.curve_paths.proofs.Circle.{chord_of, circle, map_twice, points_read}
use Rattle.curve_paths.proofs.Passings.{IsPassed, Passing, across, all_across, at, at-all_across, into, length-all_across, out}

-- two lists with the same items are one
pub same_items : {X : Type 0} (d : X) (xs ys : List X) → length xs ≡ length ys → ((i : ℕ) → i < length xs → get_or xs i d ≡ get_or ys i d) → xs ≡ ys
same_items d [] [] e h = refl
same_items d [] (y ∷ ys) e h = absurd (omega (arith, e))
same_items d (x ∷ xs) [] e h = absurd (omega (arith, e))
same_items d (x ∷ xs) (y ∷ ys) e h = ap₂ (λ z zs. z ∷ zs) (h 0 (omega arith)) (same_items d xs ys (omega (arith, e)) (λ i l. h (suc i) (omega arith)))

module _ (p : Polygon) (ok : Pairs p) (c : List Exit) (curve : IsCurve p c) where
  abbrev n : ℕ
  n = length c

  abbrev IsPoint : Exit → Type 0
  IsPoint q = In p ok c curve q

  -- what stands at a point
  abbrev pub passing : Exit → Passing
  passing q = cond (ltb (leaves p ok c curve q) (length c)) (out (leaves p ok c curve q)) (into (enters p ok c curve q))

  abbrev pub passings : ℕ → List Passing
  passings k = map (λ j. passing (exit k j)) (below (curve_points p c k))

  pub passing_exit : (i : ℕ) → i < n → passing (exit_at c i) ≡ out i
  passing_exit i l = rw (leaves_exit p ok c curve i l, lt-ltb i n l) refl

  pub passing_entry : (i : ℕ) → i < n → passing (curve_entry p c (exit_at c i)) ≡ into i
  passing_entry i l = let h : n ≤ n = omega arith in rw (leaves_entry p ok c curve i l, le-ltb n n h, enters_entry p ok c curve i l) refl

  size : (k : ℕ) → length (passings k) ≡ curve_points p c k
  size k = length-map-range_with_len (λ j. passing (exit k j)) 0 (curve_points p c k)

  read : (k j : ℕ) → j < curve_points p c k → at (passings k) j ≡ passing (exit k j)
  read k j l = get_or-map-range_with_len (λ j. passing (exit k j)) 0 (curve_points p c k) j j (out 0) l (omega arith)

  -- a passing is seen from the other side at the other name of its point
  seen : (q : Exit) → IsPoint q → passing (curve_entry p c q) ≡ across (passing q)
  seen q h = go (made p ok c curve q h)
    where
      go : Made p ok c curve q → passing (curve_entry p c q) ≡ across (passing q)
      go (leaving i l e) = ap (λ x. passing (curve_entry p c x)) e ∙ (passing_entry i l ∙ sym (ap across (ap passing e ∙ passing_exit i l)))
      go (entering i l e) =
          let back : curve_entry p c q ≡ exit_at c i = ap (curve_entry p c) e ∙ entry_twice i l in
          ap passing back ∙ (passing_exit i l ∙ sym (ap across (ap passing e ∙ passing_entry i l)))
        where
          entry_twice : (i : ℕ) → i < n → curve_entry p c (curve_entry p c (exit_at c i)) ≡ exit_at c i
          entry_twice i l =
              let x = exit_at c i in
              let h = exit_in p ok c curve i l in
              ap₂ exit (ok.twice x.side) (let w = points_partner p ok c curve x.side in omega (arith, w, h.1))

  -- these are the curve's passings
  pub curve_passed : IsPassed p c passings
  curve_passed = record {
    listed = λ i l.
        let h = exit_in p ok c curve i l in
        (h.0, omega (arith, h.1, size (exit_at c i).side), read (exit_at c i).side (exit_at c i).place h.1 ∙ passing_exit i l);
    made = λ k j i lk lj e.
        let h : j < curve_points p c k = omega (arith, lj, size k) in
        found k j i (made p ok c curve (exit k j) (lk, h)) (sym (read k j h) ∙ e);
    turned = λ k lk.
        let w = points_partner p ok c curve k in
        same_items (out 0) (passings (partner p k)) (all_across (passings k)) (omega (arith, size k, size (partner p k), w, length-all_across (passings k)))
        (λ j l.
        let lj : j < curve_points p c k = omega (arith, l, size (partner p k), w) in
        let m : curve_points p c k - 1 - j < curve_points p c k = omega arith in
        let e : length (passings k) - 1 - j ≡ curve_points p c k - 1 - j = omega (arith, size k) in
        let name : curve_entry p c (exit k (curve_points p c k - 1 - j)) ≡ exit (partner p k) j = ap (exit (partner p k)) (omega arith) in
        read (partner p k) j (omega (arith, w, lj))
        ∙ (ap passing (sym name) ∙ (seen (exit k (curve_points p c k - 1 - j)) (lk, m)
        ∙ (ap across (sym (read k (curve_points p c k - 1 - j) m) ∙ ap (at (passings k)) (sym e)) ∙ sym (at-all_across (passings k) j (omega (arith, size k, lj)))))));
  }
    where
      found : (k j i : ℕ) → Made p ok c curve (exit k j) → passing (exit k j) ≡ out i → (i < length c) × (exit_at c i ≡ exit k j)
      found k j i (leaving r l q) e =
          let s : r ≡ i = ap (λ (a : Passing). a.number) (sym (passing_exit r l) ∙ (ap passing (sym q) ∙ e)) in
          (omega (arith, s, l), ap (exit_at c) (sym s) ∙ sym q)
      found k j i (entering r l q) e = absurd (false≢true (ap (λ (a : Passing). a.leaves) (sym (passing_entry r l) ∙ (ap passing (sym q) ∙ e))))

  -- the two ends of a chord have its number
  turns : (q : Exit) → IsPoint q → chord_of n (passing (mate p ok c curve q)) ≡ chord_of n (passing q)
  turns q h = go (made p ok c curve q h)
    where
      go : Made p ok c curve q → chord_of n (passing (mate p ok c curve q)) ≡ chord_of n (passing q)
      go (leaving i l e) =
          ap (λ x. chord_of n (passing x)) (ap (mate p ok c curve) e ∙ mate_exit p ok c curve i l)
          ∙ (ap (chord_of n) (passing_entry (previous n i) (previous-less n i l)) ∙ (following-previous n i l ∙ sym (ap (chord_of n) (ap passing e ∙ passing_exit i l))))
      go (entering i l e) =
          ap (λ x. chord_of n (passing x)) (ap (mate p ok c curve) e ∙ mate_entry p ok c curve i l)
          ∙ (ap (chord_of n) (passing_exit (following n i) (following-less n i l)) ∙ sym (ap (chord_of n) (ap passing e ∙ passing_entry i l)))

  -- so the chords round the circle reduce to nothing
  pub curve_null : Null names (circle (length c) (sides p) passings)
  curve_null =
      let all = all_points p ok c curve in
      let word = points_read (curve_points p c) (λ q. chord_of n (passing q)) (λ k. map (chord_of n) (passings k)) 0 (sides p)
      (λ k a l. map_twice (λ q. chord_of n (passing q)) (exit k) (below (curve_points p c k)) ∙ sym (map_twice (chord_of n) (λ j. passing (exit k j)) (below (curve_points p c k)))) in
      subst (λ w. Null names w) word
      (null_closed (In p ok c curve) (curve_spot p c) (mate p ok c curve) (curve_planar p ok c curve) names (λ q. chord_of n (passing q)) turns (points_of (curve_points p c) 0 (sides p)) all
      (λ q m. let h = mate_in p ok c curve q (all.inside q m) in inside (mate p ok c curve q) h))
    where
      inside : (q : Exit) → IsPoint q → Mem q (points_of (curve_points p c) 0 (sides p))
      inside q h = mem_points (curve_points p c) 0 (sides p) q (omega arith) (omega (arith, h.0)) h.1
