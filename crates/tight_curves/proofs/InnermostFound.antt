-- Where two exits of a part that follow one another come back through a side, some two do with nothing between their points.
use Rattle.std.proofs.Common.{◌≡◌, ℕ, zero, suc, ◌+◌, ◌-◌, ◌<◌, ◌≤◌, min, max, Bool, true, false, ltb, ◌&&◌, List, length, refl, sym, ◌∙◌, ap, subst, ◌⊎◌, inl, inr, ◌≢◌, arith}
use Rattle.std.proofs.lemmas.Bool.{cases_Bool, cases_eq, cases_lt, cases_order, and_parts, and_from, lt-ltb, ltb-true, false≢true}
use Rattle.obd_base.specs.declared.points.Exit.{Exit}
use Rattle.page_surface.specs.Drawing.{Chord, exit}
use Rattle.page_surface.specs.Polygon.{Pairs, Polygon, partner}
use Rattle.curve_paths.specs.Curves.{IsCurve, curve_points, exit_at, previous}
use Rattle.tight_curves.specs.Parts.{IsPart, has_point, part_chord}
use Rattle.tight_curves.proofs.PartPoints.{In, Made, N, entering, entries_differ, exit_in, exit_no_entry, exits_differ, has_across, leaving, made, other, other_in, same_number}
use Rattle.curve_paths.proofs.CurvePoints.{exit_same, following, following-less, following-previous, points_partner, previous-following, previous-less}
use Rattle.curve_paths.proofs.ChordEnds.{apart, chord}
use Rattle.curve_paths.proofs.PointPlaces.{less_number}

-- a test passes at some number below a bound, or at none
pub search_below : (test : ℕ → Bool) (m : ℕ) → ((j : ℕ) × (j < m) × (test j ≡ true)) ⊎ ((j : ℕ) → j < m → test j ≡ false)
search_below test zero = inr (λ j l. absurd (omega arith))
search_below test (suc m) = elim (search_below test m) [
  | inl w ↦ inl (w.0, omega (arith, w.1), w.2)
  | inr none ↦ elim (cases_Bool (test m)) [
    | inl t ↦ inl (m, omega arith, t)
    | inr f ↦ inr (λ j l. elim (cases_eq j m) [ inl e ↦ ap test e ∙ f | inr ne ↦ none j (omega (arith, l, ne)) ])
  ]
]

module _ (p : Polygon) (ok : Pairs p) (c : List Exit) (curve : IsCurve p c) (s : List Exit) (part : IsPart p c s) where
  abbrev n : ℕ
  n = length s

  abbrev Num : Exit → ℕ
  Num = N p ok c curve

  abbrev other' : Exit → Exit
  other' = other p ok c curve

  -- exit i and the exit after it
  abbrev out : ℕ → Exit
  out i = exit_at s i

  abbrev back : ℕ → Exit
  back i = exit_at s (following (length s) i)

  -- the exit after exit i comes back through the side
  abbrev pub Returns : ℕ → Type 0
  Returns i = (exit_at s (following (length s) i)).side ≡ partner p (exit_at s i).side

  -- how far apart the two points are
  abbrev gap : ℕ → ℕ
  gap i = ((other' (out i)).place - (back i).place) + ((back i).place - (other' (out i)).place)

  -- with nothing between
  pub record Innermost (i : ℕ) : Type 0 where
    pub index : i < length s
    pub returns : (exit_at s (following (length s) i)).side ≡ partner p (exit_at s i).side
    pub nothing : (j : ℕ) → (((exit_at s i).place < j) × (j < curve_points p c (exit_at s (following (length s) i)).side - 1 - (exit_at s (following (length s) i)).place))
        ⊎ ((curve_points p c (exit_at s (following (length s) i)).side - 1 - (exit_at s (following (length s) i)).place < j) × (j < (exit_at s i).place)) → has_point p c s (exit_at s i).side j ≡ false

  -- a number between two numbers of one side is of that side
  between_side : (k a b : ℕ) (z : Exit) → In p ok c curve (exit k a) → In p ok c curve (exit k b) → In p ok c curve z → Num (exit k a) < Num z → Num z < Num (exit k b) → (z.side ≡ k) × (a < z.place) × (z.place < b)
  between_side k a b z ha hb hz l m = elim (cases_order z.side k) [
    | inl e ↦ (let start = ap (λ x. Num (exit x 0)) e in (e, omega (arith, start, l), omega (arith, start, m)))
    | inr o ↦ elim o [
      | inl u ↦ absurd (let q = less_number (curve_points p c) z (exit k a) (omega (arith, hz.1)) (inl u) in omega (arith, q, l))
      | inr u ↦ absurd (let q = less_number (curve_points p c) (exit k b) z (omega (arith, hb.1)) (inl u) in omega (arith, q, m))
    ]
  ]

  module _ (i : ℕ) (li : i < length s) (returns : Returns i) where
    abbrev k : ℕ
    k = (back i).side

    lf : following (length s) i < length s
    lf = following-less n i li

    back_in : In p ok c curve (back i)
    back_in = exit_in p ok c curve s part (following n i) lf

    entry_in : In p ok c curve (other' (out i))
    entry_in = other_in p ok c curve s part i li

    -- the entry of the way out on the side of the way back
    entry_is : other' (out i) ≡ exit k (other' (out i)).place
    entry_is = exit_same (other' (out i)) k (other' (out i)).place (sym returns) refl

    many : curve_points p c k ≡ curve_points p c (out i).side
    many = ap (curve_points p c) returns ∙ points_partner p ok c curve (out i).side

    -- the chord of the two
    the_chord : part_chord p c s (following n i) ≡ chord (Num (other' (out i))) (Num (back i))
    the_chord = ap (λ a. chord (Num (other' (exit_at s a))) (Num (back i))) (previous-following n i li)

    -- what both chords' ends are: a point between leads to a point between
    inside : (a : ℕ) (y y' : Exit) → a < length s → a ≢ following n i → In p ok c curve y → In p ok c curve y'
        → ((Num y ≡ (part_chord p c s a).from) × (Num y' ≡ (part_chord p c s a).to)) ⊎ ((Num y ≡ (part_chord p c s a).to) × (Num y' ≡ (part_chord p c s a).from))
        → y' ≢ other' (out i) → y' ≢ back i → y.side ≡ k
        → (((other' (out i)).place < y.place) × (y.place < (back i).place)) ⊎ (((back i).place < y.place) × (y.place < (other' (out i)).place))
        → (y'.side ≡ k) × ((((other' (out i)).place < y'.place) × (y'.place < (back i).place)) ⊎ (((back i).place < y'.place) × (y'.place < (other' (out i)).place)))
    inside a y y' la ne hy hy' ends n1 n2 side (inl (l, m)) =
        let x : Num (other' (out i)) < Num y = less_number (curve_points p c) (other' (out i)) y (omega (arith, entry_in.1)) (inr (sym returns ∙ sym side, l)) in
        let x' : Num y < Num (back i) = less_number (curve_points p c) y (back i) (omega (arith, hy.1)) (inr (side, m)) in
        let r = apart (part_chord p c s (following n i)) (part_chord p c s a) (Num (other' (out i))) (Num (back i)) (Num y) (Num y')
        (inl (sym (ap (λ (e : Chord). e.from) the_chord), sym (ap (λ (e : Chord). e.to) the_chord))) ends (part.uncrossed (following n i) a (λ q. ne (sym q)) lf la) x x'
        (λ q. n2 (same_number p ok c curve y' (back i) hy' back_in q)) in
        let f : Num (exit k (other' (out i)).place) < Num y' = subst (λ (e : Exit). Num e < Num y') entry_is r.0 in
        let b = between_side k (other' (out i)).place (back i).place y' (subst (λ (e : Exit). In p ok c curve e) entry_is entry_in) back_in hy' f r.1 in
        (b.0, inl (b.1, b.2))
    inside a y y' la ne hy hy' ends n1 n2 side (inr (l, m)) =
        let x : Num (back i) < Num y = less_number (curve_points p c) (back i) y (omega (arith, back_in.1)) (inr (sym side, l)) in
        let x' : Num y < Num (other' (out i)) = less_number (curve_points p c) y (other' (out i)) (omega (arith, hy.1)) (inr (side ∙ returns, m)) in
        let r = apart (part_chord p c s (following n i)) (part_chord p c s a) (Num (back i)) (Num (other' (out i))) (Num y) (Num y')
        (inr (sym (ap (λ (e : Chord). e.to) the_chord), sym (ap (λ (e : Chord). e.from) the_chord))) ends (part.uncrossed (following n i) a (λ q. ne (sym q)) lf la) x x'
        (λ q. n1 (same_number p ok c curve y' (other' (out i)) hy' entry_in q)) in
        let f : Num y' < Num (exit k (other' (out i)).place) = subst (λ (e : Exit). Num y' < Num e) entry_is r.1 in
        let b = between_side k (back i).place (other' (out i)).place y' back_in (subst (λ (e : Exit). In p ok c curve e) entry_is entry_in) hy' r.0 f in
        (b.0, inr (b.1, b.2))

    -- a point between the two leads to two that are nearer
    nearer : (j : ℕ) → j < curve_points p c k → (((other' (out i)).place < j) × (j < (back i).place)) ⊎ (((back i).place < j) × (j < (other' (out i)).place)) → has_point p c s k j ≡ true
        → (a : ℕ) × (a < length s) × Returns a × (gap a < gap i)
    nearer j lj where_ has = go (made p ok c curve s part k j has)
      where
        not_back : (e : Exit) → e.place ≡ j → e ≢ back i
        not_back e h q = elim where_ [ inl w ↦ (let z : j ≡ (back i).place = sym h ∙ ap (λ (x : Exit). x.place) q in omega (arith, w.1, z)) | inr w ↦ (let z : j ≡ (back i).place = sym h ∙ ap (λ (x : Exit). x.place) q in omega (arith, w.0, z)) ]

        not_entry : (e : Exit) → e.place ≡ j → e ≢ other' (out i)
        not_entry e h q = elim where_ [ inl w ↦ (let z : j ≡ (other' (out i)).place = sym h ∙ ap (λ (x : Exit). x.place) q in omega (arith, w.0, z)) | inr w ↦ (let z : j ≡ (other' (out i)).place = sym h ∙ ap (λ (x : Exit). x.place) q in omega (arith, w.1, z)) ]

        smaller : (x y f b : ℕ) → ((f < x) × (x < b)) ⊎ ((b < x) × (x < f)) → ((f < y) × (y < b)) ⊎ ((b < y) × (y < f)) → (x - y) + (y - x) < (f - b) + (b - f)
        smaller x y f b (inl g) (inl h) = omega (arith, g, h)
        smaller x y f b (inl g) (inr h) = omega (arith, g, h)
        smaller x y f b (inr g) (inl h) = omega (arith, g, h)
        smaller x y f b (inr g) (inr h) = omega (arith, g, h)

        go : Made p ok c curve s part (exit k j) → (a : ℕ) × (a < length s) × Returns a × (gap a < gap i)
        go (leaving a la e) =
            let b = previous n a in
            let lb = previous-less n a la in
            let place : (exit_at s a).place ≡ j = sym (ap (λ (x : Exit). x.place) e) in
            let side : (exit_at s a).side ≡ k = sym (ap (λ (x : Exit). x.side) e) in
            let ne : a ≢ following n i = λ q. not_back (exit_at s a) place (ap (exit_at s) q) in
            let r = inside a (exit_at s a) (other' (exit_at s b)) la ne (exit_in p ok c curve s part a la) (other_in p ok c curve s part b lb) (inr (refl, refl))
            (λ q. ne (sym (following-previous n a la) ∙ ap (following n) (entries_differ p ok c curve s part b i lb li q)))
            (λ q. exit_no_entry p ok c curve s part (following n i) b lf lb (sym q))
            side (subst (λ x. (((other' (out i)).place < x) × (x < (back i).place)) ⊎ (((back i).place < x) × (x < (other' (out i)).place))) (sym place) where_) in
            let again : exit_at s (following n b) ≡ exit_at s a = ap (exit_at s) (following-previous n a la) in (
              b,
              lb,
              ap (λ (x : Exit). x.side) again ∙ (side ∙ sym r.0),
              subst (λ (x : Exit). ((other' (out b)).place - x.place) + (x.place - (other' (out b)).place) < gap i) (sym again)
                  (smaller (other' (out b)).place (exit_at s a).place (other' (out i)).place (back i).place r.1
                  (subst (λ x. (((other' (out i)).place < x) × (x < (back i).place)) ⊎ (((back i).place < x) × (x < (other' (out i)).place))) (sym place) where_)),
            )
        go (entering a la e) =
            let b = following n a in
            let lb = following-less n a la in
            let place : (other' (exit_at s a)).place ≡ j = sym (ap (λ (x : Exit). x.place) e) in
            let side : (other' (exit_at s a)).side ≡ k = sym (ap (λ (x : Exit). x.side) e) in
            let ne : a ≢ i = λ q. not_entry (other' (exit_at s a)) place (ap (λ x. other' (exit_at s x)) q) in
            let nf : b ≢ following n i = λ q. ne (sym (previous-following n a la) ∙ (ap (previous n) q ∙ previous-following n i li)) in
            let r = inside b (other' (exit_at s a)) (exit_at s b) lb nf (other_in p ok c curve s part a la) (exit_in p ok c curve s part b lb)
            (inl (ap (λ x. Num (other' (exit_at s x))) (sym (previous-following n a la)), refl))
            (exit_no_entry p ok c curve s part b i lb li)
            (λ q. nf (exits_differ p ok c curve s part b (following n i) lb lf q))
            side (subst (λ x. (((other' (out i)).place < x) × (x < (back i).place)) ⊎ (((back i).place < x) × (x < (other' (out i)).place))) (sym place) where_) in (
              a,
              la,
              r.0 ∙ sym side,
              smaller (other' (exit_at s a)).place (exit_at s b).place (other' (out i)).place (back i).place
                  (subst (λ x. (((other' (out i)).place < x) × (x < (back i).place)) ⊎ (((back i).place < x) × (x < (other' (out i)).place))) (sym place) where_) r.1,
            )

    -- either nothing stands between the two, or something does
    abbrev far : ℕ
    far = curve_points p c k - 1 - (back i).place

    abbrev test : ℕ → Bool
    test j = (ltb (min (out i).place far) j && ltb j (max (out i).place far)) && has_point p c s (out i).side j

    look : ((a : ℕ) × (a < length s) × Returns a × (gap a < gap i)) ⊎ Innermost i
    look = elim (search_below test (curve_points p c (out i).side)) [
      | inl w ↦ inl (found w.0 w.1 w.2)
      | inr none ↦ inr (record {
        index = li;
        returns = returns;
        nothing = λ j l. elim (cases_Bool (has_point p c s (out i).side j)) [
          | inl t ↦ absurd (false≢true (sym (none j (elim l [ inl q ↦ omega (arith, q, many, back_in.1) | inr q ↦ omega (arith, q, (exit_in p ok c curve s part i li).1) ]))
              ∙ and_from _ _ (and_from _ _ (lt-ltb (min (out i).place far) j (elim l [ inl q ↦ omega (arith, q) | inr q ↦ omega (arith, q) ]))
              (lt-ltb j (max (out i).place far) (elim l [ inl q ↦ omega (arith, q) | inr q ↦ omega (arith, q) ]))) t))
          | inr f ↦ f
        ];
      })
    ]
      where
        found : (j : ℕ) → j < curve_points p c (out i).side → test j ≡ true → (a : ℕ) × (a < length s) × Returns a × (gap a < gap i)
        found j lj t =
            let x = and_parts (ltb (min (out i).place far) j && ltb j (max (out i).place far)) (has_point p c s (out i).side j) t in
            let y = and_parts (ltb (min (out i).place far) j) (ltb j (max (out i).place far)) x.0 in
            let lo = ltb-true (min (out i).place far) j y.0 in
            let hi = ltb-true j (max (out i).place far) y.1 in
            let o = exit_in p ok c curve s part i li in
            let j' : ℕ = curve_points p c (out i).side - 1 - j in
            let has : has_point p c s k j' ≡ true = ap (λ z. has_point p c s z j') returns ∙ (sym (has_across p ok c curve s part (out i).side j o.0 lj) ∙ x.1) in
            nearer j' (omega (arith, lj, many)) (elim (cases_lt (out i).place far) [
              | inl l ↦ inr (omega (arith, lo, hi, l, lj, many, back_in.1, o.1), omega (arith, lo, hi, l, lj, many, back_in.1, o.1))
              | inr l ↦ inl (omega (arith, lo, hi, l, lj, many, back_in.1, o.1), omega (arith, lo, hi, l, lj, many, back_in.1, o.1))
            ]) has

  -- so some two have nothing between them
  find : (m i : ℕ) → i < length s → Returns i → gap i ≤ m → (a : ℕ) × Innermost a
  find zero i l r g = elim (look i l r) [ inl w ↦ absurd (omega (arith, w.3, g)) | inr h ↦ (i, h) ]
  find (suc m) i l r g = elim (look i l r) [ inl w ↦ find m w.0 w.1 w.2 (omega (arith, w.3, g)) | inr h ↦ (i, h) ]

  -- from any two exits that follow one another and come back through a side
  pub innermost : (i : ℕ) → i < length s → Returns i → (a : ℕ) × Innermost a
  innermost i l r = find (gap i) i l r (omega arith)
