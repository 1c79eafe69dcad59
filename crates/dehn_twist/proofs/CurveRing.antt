-- The points of a curve in order are the ends of its chords, each once.
use Rattle.std.proofs.Common.{◌≡◌, ◌≢◌, ℕ, suc, ◌+◌, ◌-◌, ◌<◌, ◌≤◌, Bool, true, false, eqb, ◌&&◌, List, ◌++◌, map, length, refl, sym, ◌∙◌, ap, subst, inl, inr, arith}
use Rattle.std.specs.List.{sum_by}
use Rattle.std.proofs.lemmas.Bool.{cases_eq, eq-eqb, ne_eqb, eqb-true, lt-ltb, le-ltb}
use Rattle.std.proofs.lemmas.List.Sums.{sum_by-append}
use Rattle.obd_base.specs.Lists.{Mem, below}
use Rattle.obd_base.specs.declared.points.Exit.{Exit}
use Rattle.obd_base.proofs.lists.Below.{bit, mem_below}
use Rattle.obd_base.proofs.lists.Members.{mem_append, mem_map}
use Rattle.obd_base.proofs.lists.Sums.{by_entries, sum_add, sum_map, sum_same}
use Rattle.page_surface.specs.Drawing.{exit, is_at}
use Rattle.page_surface.specs.Polygon.{Pairs, Polygon, partner, sides}
use Rattle.curve_paths.specs.Curves.{IsCurve, curve_entry, curve_points, curve_spot, curve_stands, exit_at, previous}
use Rattle.dehn_twist.specs.Surgery.{chord_at, chord_end, chord_start, curve_mate, curve_ring, is_chord_end, next_exit}
use Rattle.dehn_twist.proofs.Arranged.{sum_arranged, sum_previous}
use Rattle.curve_paths.proofs.CurvePlanar.{all_points}
use Rattle.curve_paths.proofs.CurvePoints.{In, Made, at_itself, at_parts, entering, enters_entry, entry_in, exit_in, leaves_entry, leaves_exit, leaving, made, mate, mate_entry, mate_exit, points_partner, previous-less}
use Rattle.curve_paths.proofs.PointPlaces.{mem_points, number_same}

module _ (p : Polygon) (ok : Pairs p) (c : List Exit) (curve : IsCurve p c) where
  abbrev R : ℕ
  R = length c

  -- the points of the curve, and no others
  pub ring_in : (q : Exit) → Mem q (curve_ring p c) → In p ok c curve q
  ring_in q m = (all_points p ok c curve).inside q m

  -- each point is there
  pub in_ring : (q : Exit) → In p ok c curve q → Mem q (curve_ring p c)
  in_ring q i = mem_points (curve_points p c) 0 (sides p) q (omega arith) (omega (arith, i.0)) i.1

  -- the ends of chords are points
  pub end_in : (a : ℕ) → a < length c → In p ok c curve (chord_end c a)
  end_in a l = exit_in p ok c curve a l

  -- so are their starts
  pub start_in : (a : ℕ) → a < length c → In p ok c curve (chord_start p c a)
  start_in a l = let k = previous-less R a l in entry_in p ok c curve (exit_at c (previous R a)) (exit_in p ok c curve (previous R a) k)

  -- a point is told by its number
  pub spot_same : (x y : Exit) → In p ok c curve x → In p ok c curve y → curve_spot p c x ≡ curve_spot p c y → x ≡ y
  spot_same x y g h e = number_same (curve_points p c) x y (omega (arith, g.1)) (omega (arith, h.1)) e

  same_test : (x y : Exit) → In p ok c curve x → In p ok c curve y → eqb (curve_spot p c x) (curve_spot p c y) ≡ is_at x y.side y.place
  same_test x y g h = elim (cases_eq (curve_spot p c x) (curve_spot p c y)) [
    | inl e ↦ rw (eq-eqb _ _ e) (sym (ap (λ z. is_at x z.side z.place) (sym (spot_same x y g h e)) ∙ at_itself x))
    | inr n ↦ rw (ne_eqb _ _ n) (sym (no (is_at x y.side y.place) refl n))
  ]
    where
      no : (b : Bool) → is_at x y.side y.place ≡ b → (curve_spot p c x ≡ curve_spot p c y → ⊥) → is_at x y.side y.place ≡ false
      no false e n = e
      no true e n = absurd (n (ap (curve_spot p c) (at_parts x y.side y.place e)))

  -- the point that an exit makes as entry
  pub entry_test : (e y : Exit) → In p ok c curve e → is_at (curve_entry p c e) y.side y.place ≡ (eqb (partner p e.side) y.side && eqb (suc (e.place + y.place)) (curve_points p c y.side))
  entry_test e y h = go (eqb (partner p e.side) y.side) refl
    where
      m : ℕ
      m = curve_points p c e.side

      go : (b : Bool) → eqb (partner p e.side) y.side ≡ b
          → (eqb (partner p e.side) y.side && eqb (curve_points p c e.side - 1 - e.place) y.place) ≡ (eqb (partner p e.side) y.side && eqb (suc (e.place + y.place)) (curve_points p c y.side))
      go false q = rw q refl
      go true q =
          let w : curve_points p c y.side ≡ curve_points p c e.side = ap (curve_points p c) (sym (eqb-true _ _ q)) ∙ points_partner p ok c curve e.side in
          rw q (elim (cases_eq (suc (e.place + y.place)) (curve_points p c y.side)) [
            | inl r ↦ rw (eq-eqb _ _ r) (eq-eqb (curve_points p c e.side - 1 - e.place) y.place (omega (arith, w, r)))
            | inr r ↦ rw (ne_eqb _ _ r) (ne_eqb (curve_points p c e.side - 1 - e.place) y.place (λ z. r (omega (arith, w, z, h.1))))
          ])

  -- the ends of all chords, and their starts
  abbrev pub all_ends : List Exit
  all_ends = map (chord_end c) (below (length c)) ++ map (chord_start p c) (below (length c))

  -- each point is the end of one chord
  once : (y : Exit) → Mem y (curve_ring p c) → sum_by (λ z. bit (eqb (curve_spot p c z) (curve_spot p c y))) all_ends ≡ 1
  once y m =
      let h = ring_in y m in
      let f = λ (z : Exit). bit (eqb (curve_spot p c z) (curve_spot p c y)) in
      let a : sum_by f (map (chord_end c) (below R)) ≡ sum_by (λ i. bit (is_at (exit_at c i) y.side y.place)) (below R)
      = sum_map f (chord_end c) (below R) ∙ sum_same _ _ (below R) (λ i k. ap bit (same_test (chord_end c i) y (end_in i (mem_below R i k)) h)) in
      let b : sum_by f (map (chord_start p c) (below R)) ≡ sum_by (λ i. bit (is_at (curve_entry p c (exit_at c i)) y.side y.place)) (below R)
      = sum_map f (chord_start p c) (below R)
      ∙ (sum_same _ _ (below R) (λ i k. ap bit (same_test (chord_start p c i) y (start_in i (mem_below R i k)) h))
      ∙ sum_previous (λ i. bit (is_at (curve_entry p c (exit_at c i)) y.side y.place)) R) in
      let s : sum_by (λ i. bit (is_at (exit_at c i) y.side y.place) + bit (is_at (curve_entry p c (exit_at c i)) y.side y.place)) (below R) ≡ sum_by (λ i. curve_stands p c (exit_at c i) y.side y.place) (below R)
      = sum_same _ _ (below R) (λ i k. ap (λ z. bit (is_at (exit_at c i) y.side y.place) + bit z) (entry_test (exit_at c i) y (end_in i (mem_below R i k)))) in
      let t : sum_by (λ i. curve_stands p c (exit_at c i) y.side y.place) (below R) ≡ sum_by (λ e. curve_stands p c e y.side y.place) c
      = sym (ap (sum_by (λ e. curve_stands p c e y.side y.place)) (by_entries (exit 0 0) c R refl) ∙ sum_map (λ e. curve_stands p c e y.side y.place) (exit_at c) (below R)) in
      let r = curve.right y.side y.place h.0 h.1 in
      let j = sum_add (λ i. bit (is_at (exit_at c i) y.side y.place)) (λ i. bit (is_at (curve_entry p c (exit_at c i)) y.side y.place)) (below R) in
      omega (arith, sum_by-append f (map (chord_end c) (below R)) (map (chord_start p c) (below R)), a, b, s, t, r, j)

  -- so a sum over the points is one over the ends of the chords
  pub ring_sum : (g : Exit → ℕ) → sum_by g (curve_ring p c) ≡ sum_by (λ a. g (chord_end c a) + g (chord_start p c a)) (below (length c))
  ring_sum g =
      sym (sum_arranged (curve_spot p c) g all_ends (curve_ring p c) (all_points p ok c curve).rises
      (λ z m. elim (mem_append z (map (chord_end c) (below R)) (map (chord_start p c) (below R)) m) [
        | inl k ↦ (let r = mem_map (chord_end c) z (below R) k in subst (λ y. Mem y (curve_ring p c)) (sym r.2) (in_ring (chord_end c r.0) (end_in r.0 (mem_below R r.0 r.1))))
        | inr k ↦ (let r = mem_map (chord_start p c) z (below R) k in subst (λ y. Mem y (curve_ring p c)) (sym r.2) (in_ring (chord_start p c r.0) (start_in r.0 (mem_below R r.0 r.1))))
      ]) once)
      ∙ (sum_by-append g (map (chord_end c) (below R)) (map (chord_start p c) (below R))
      ∙ (ap (λ z. z + sum_by g (map (chord_start p c) (below R))) (sum_map g (chord_end c) (below R))
      ∙ (ap (λ z. sum_by (λ a. g (chord_end c a)) (below R) + z) (sum_map g (chord_start p c) (below R))
      ∙ sym (sum_add (λ a. g (chord_end c a)) (λ a. g (chord_start p c a)) (below R)))))

  -- the chord at the end of a chord, and at its start
  pub at_end : (a : ℕ) → a < length c → is_chord_end c (chord_end c a) ≡ true
  at_end a l = rw (leaves_exit p ok c curve a l) (lt-ltb a R l)

  -- which is the chord that ends there
  pub chord_at_end : (a : ℕ) → a < length c → chord_at p c (chord_end c a) ≡ a
  chord_at_end a l = rw (at_end a l) (leaves_exit p ok c curve a l)

  -- it leads to its start
  pub mate_end : (a : ℕ) → a < length c → curve_mate p c (chord_end c a) ≡ chord_start p c a
  mate_end a l = rw (at_end a l) (ap (chord_start p c) (leaves_exit p ok c curve a l))

  -- no chord ends where a chord starts
  pub at_start : (a : ℕ) → a < length c → is_chord_end c (chord_start p c a) ≡ false
  at_start a l = let h : R ≤ R = omega arith in rw (leaves_entry p ok c curve (previous R a) (previous-less R a l)) (le-ltb R R h)

  -- which is the chord at its start
  pub chord_at_start : (a : ℕ) → a < length c → chord_at p c (chord_start p c a) ≡ a
  chord_at_start a l =
      rw (at_start a l) (ap (next_exit R) (enters_entry p ok c curve (previous R a) (previous-less R a l)) ∙ next_previous R a l)
    where
      next_previous : (n i : ℕ) → i < n → next_exit n (previous n i) ≡ i
      next_previous n i l = elim (cases_eq i 0) [
        | inl e ↦ rw (eq-eqb i 0 e) (let q : suc (n - 1) ≡ n = omega (arith, l) in rw (eq-eqb (suc (n - 1)) n q) (sym e))
        | inr h ↦ rw (ne_eqb i 0 h) (let q : suc (i - 1) ≢ n = λ t. omega (arith, t, l, h) in let s : suc (i - 1) ≡ i = omega (arith, h) in rw (ne_eqb (suc (i - 1)) n q) s)
      ]

  -- it leads to its end
  pub mate_start : (a : ℕ) → a < length c → curve_mate p c (chord_start p c a) ≡ chord_end c a
  mate_start a l = rw (at_start a l) (ap (chord_end c) (rw (at_start a l) at (chord_at_start a l)))

  -- a point is the end or the start of a chord
  pub data EndOf (q : Exit) : Type 0 where
    is_last : (a : ℕ) → a < length c → q ≡ chord_end c a → EndOf q
    is_first : (a : ℕ) → a < length c → q ≡ chord_start p c a → EndOf q

  -- each point is one of the two
  pub which_end : (q : Exit) → In p ok c curve q → EndOf q
  which_end q h = go (made p ok c curve q h)
    where
      go : Made p ok c curve q → EndOf q
      go (leaving i l e) = is_last i l e
      go (entering i l e) =
          let k = following_less R i l in
          is_first (next_exit R i) k (e ∙ ap (λ z. curve_entry p c (exit_at c z)) (sym (previous_next R i l)))
        where
          following_less : (n i : ℕ) → i < n → next_exit n i < n
          following_less n i l = elim (cases_eq (suc i) n) [
            | inl e ↦ rw (eq-eqb (suc i) n e) (omega (arith, l))
            | inr h ↦ rw (ne_eqb (suc i) n h) (omega (arith, l, h))
          ]

          previous_next : (n i : ℕ) → i < n → previous n (next_exit n i) ≡ i
          previous_next n i l = elim (cases_eq (suc i) n) [
            | inl e ↦ rw (eq-eqb (suc i) n e) (omega (arith, e))
            | inr h ↦ rw (ne_eqb (suc i) n h) (let q : suc i ≢ 0 = λ t. omega (arith, t) in rw (ne_eqb (suc i) 0 q) (omega arith))
          ]

  -- the other end, as the other files have it
  pub mate_is : (q : Exit) → In p ok c curve q → curve_mate p c q ≡ mate p ok c curve q
  mate_is q h = go (which_end q h)
    where
      go : EndOf q → curve_mate p c q ≡ mate p ok c curve q
      go (is_last a l e) = ap (curve_mate p c) e ∙ (mate_end a l ∙ (sym (mate_exit p ok c curve a l) ∙ ap (mate p ok c curve) (sym e)))
      go (is_first a l e) =
          let k = previous-less R a l in
          ap (curve_mate p c) e ∙ (mate_start a l ∙ (ap (exit_at c) (sym (following_previous R a l)) ∙ (sym (mate_entry p ok c curve (previous R a) k) ∙ ap (mate p ok c curve) (sym e))))
        where
          following_previous : (n i : ℕ) → i < n → next_exit n (previous n i) ≡ i
          following_previous n i l = elim (cases_eq i 0) [
            | inl e ↦ rw (eq-eqb i 0 e) (let q : suc (n - 1) ≡ n = omega (arith, l) in rw (eq-eqb (suc (n - 1)) n q) (sym e))
            | inr h ↦ rw (ne_eqb i 0 h) (let q : suc (i - 1) ≢ n = λ t. omega (arith, t, l, h) in let s : suc (i - 1) ≡ i = omega (arith, h) in rw (ne_eqb (suc (i - 1)) n q) s)
          ]
