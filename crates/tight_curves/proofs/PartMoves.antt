-- A part read from its next exit on, and a part without an innermost turn, are parts.
use Rattle.std.proofs.Common.{◌≡◌, ℕ, zero, suc, ◌-◌, ◌<◌, true, false, List, [], ◌∷◌, ◌++◌, length, refl, sym, ◌∙◌, ap, ap₂, subst, inl, inr, ◌≢◌, arith}
use Rattle.std.proofs.lemmas.Bool.{eq-eqb, ne_eqb, cases_eq, cases_order, cases_lt, false≢true}
use Rattle.std.proofs.lemmas.List.{length-append, get_or_append_left, get_or_at}
use Rattle.std.proofs.lemmas.List.Sums.{sum_by-cons, sum_by-append}
use Rattle.obd_base.specs.declared.points.Exit.{Exit}
use Rattle.obd_base.proofs.lists.Members.{mem_append}
use Rattle.page_surface.specs.Drawing.{Chord, crosses, exit}
use Rattle.page_surface.specs.Polygon.{Pairs, Polygon, partner}
use Rattle.curve_paths.specs.Curves.{IsCurve, curve_points, curve_stands, exit_at, previous}
use Rattle.tight_curves.specs.Parts.{IsInnermost, IsPart, has_point, part_chord}
use Rattle.tight_curves.proofs.Numbers.{Outside, crosses_joined, joined_crosses}
use Rattle.tight_curves.proofs.PartPoints.{In, N, other, exit_in, other_in, exits_differ, entries_differ, exit_no_entry, has_exit, has_entry}
use Rattle.curve_paths.proofs.CurvePoints.{exit_same, following, following-less, following-previous, previous-following, previous-less}
use Rattle.curve_paths.proofs.ChordEnds.{chord}
use Rattle.curve_paths.proofs.PointPlaces.{less_number}

-- the exits of a list read from its second one on
pub round_at : (e : Exit) (t : List Exit) (i : ℕ) → i < length (e ∷ t) → exit_at (t ++ (e ∷ [])) i ≡ exit_at (e ∷ t) (following (length (e ∷ t)) i)
round_at e t i l = elim (cases_eq (suc i) (length (e ∷ t))) [
  | inl q ↦ rw (eq-eqb (suc i) (length (e ∷ t)) q) (get_or_at t e [] (exit 0 0) i (omega (arith, q)))
  | inr n ↦ rw (ne_eqb (suc i) (length (e ∷ t)) n) (get_or_append_left t (e ∷ []) (exit 0 0) i (omega (arith, n)))
]

module _ (p : Polygon) (ok : Pairs p) (c : List Exit) (curve : IsCurve p c) where
  module _ (e : Exit) (t : List Exit) (part : IsPart p c (e ∷ t)) where
    abbrev n : ℕ
    n = length (e ∷ t)

    abbrev on : List Exit
    on = t ++ (e ∷ [])

    long : length on ≡ n
    long = omega (arith, length-append t (e ∷ []))

    chord_on : (i : ℕ) → i < n → part_chord p c on i ≡ part_chord p c (e ∷ t) (following n i)
    chord_on i l =
        let before : exit_at on (previous (length on) i) ≡ exit_at (e ∷ t) (previous n (following n i))
        = ap (λ m. exit_at on (previous m i)) long ∙ (round_at e t (previous n i) (previous-less n i l)
        ∙ ap (exit_at (e ∷ t)) (following-previous n i l ∙ sym (previous-following n i l))) in
        ap₂ (λ x y. chord (N p ok c curve (other p ok c curve x)) (N p ok c curve y)) before (round_at e t i l)

    -- read from the second exit on it is a part
    pub part_on : IsPart p c (t ++ (e ∷ []))
    part_on = record {
      inside = λ x m. part.inside x (elim (mem_append x t (e ∷ []) m) [ inl k ↦ inr k | inr k ↦ elim k [ inl q ↦ inl q | inr z ↦ absurd z ] ]);
      once = λ k j lk lj. (let f = λ (x : Exit). curve_stands p c x k j in omega (arith, sum_by-append f t (e ∷ []), sum_by-cons f e [], sum_by-cons f e t, part.once k j lk lj));
      uncrossed = λ a b ne la lb. (let la' : a < n = omega (arith, la, long) in
          let lb' : b < n = omega (arith, lb, long) in
          ap₂ crosses (chord_on a la') (chord_on b lb')
          ∙ part.uncrossed (following n a) (following n b) (λ q. ne (sym (previous-following n a la') ∙ (ap (previous n) q ∙ previous-following n b lb'))) (following-less n a la') (following-less n b lb'));
    }

  module _ (u v : Exit) (r : List Exit) (part : IsPart p c (u ∷ v ∷ r)) (turn : IsInnermost p c (u ∷ v ∷ r) u v) where
    abbrev s : List Exit
    s = u ∷ v ∷ r

    abbrev Num : Exit → ℕ
    Num = N p ok c curve

    abbrev other' : Exit → Exit
    other' = other p ok c curve

    -- the other name of the way back is on the side of the way out
    pub far_side : partner p v.side ≡ u.side
    far_side = ap (partner p) turn.returns ∙ ok.twice u.side

    u_in : In p ok c curve u
    u_in = exit_in p ok c curve s part 0 (omega arith)

    far_in : In p ok c curve (other' v)
    far_in = other_in p ok c curve s part 1 (omega arith)

    -- each other point of the part is before both or after both
    outside : (z : Exit) → In p ok c curve z → has_point p c s z.side z.place ≡ true → z ≢ u → z ≢ other' v → Outside (Num u) (Num (other' v)) (Num z)
    outside z h has a b = elim (cases_order z.side u.side) [
      | inl q ↦ same q
      | inr o ↦ elim o [
        | inl l ↦ inl (less_number (curve_points p c) z u (omega (arith, h.1)) (inl l), less_number (curve_points p c) z (other' v) (omega (arith, h.1)) (inl (omega (arith, l, far_side))))
        | inr l ↦ inr (less_number (curve_points p c) u z (omega (arith, u_in.1)) (inl l), less_number (curve_points p c) (other' v) z (omega (arith, far_in.1)) (inl (omega (arith, l, far_side))))
      ]
    ]
      where
        same : z.side ≡ u.side → Outside (Num u) (Num (other' v)) (Num z)
        same q =
            let far : ℕ = (other' v).place in
            let there : has_point p c s u.side z.place ≡ true = subst (λ k. has_point p c s k z.place ≡ true) q has in
            let nu : z.place ≢ u.place = λ w. a (exit_same z u.side u.place q w) in
            let nv : z.place ≢ far = λ w. b (exit_same z (partner p v.side) far (q ∙ sym far_side) w) in
            elim (cases_lt z.place u.place) [
              | inl l ↦ elim (cases_lt z.place far) [
                | inl m ↦ inl (less_number (curve_points p c) z u (omega (arith, h.1)) (inr (q, l)), less_number (curve_points p c) z (other' v) (omega (arith, h.1)) (inr (q ∙ sym far_side, m)))
                | inr m ↦ absurd (false≢true (sym (turn.nothing_between z.place (inr (omega (arith, nv), l))) ∙ there))
              ]
              | inr l ↦ elim (cases_lt z.place far) [
                | inl m ↦ absurd (false≢true (sym (turn.nothing_between z.place (inl (omega (arith, nu), m))) ∙ there))
                | inr m ↦ inr (less_number (curve_points p c) u z (omega (arith, u_in.1)) (inr (sym q, omega (arith, nu))), less_number (curve_points p c) (other' v) z (omega (arith, far_in.1)) (inr (far_side ∙ sym q, omega (arith, nv))))
              ]
            ]

    -- so are the ends of the chords that stay
    outside_exit : (i : ℕ) → suc (suc i) < length s → Outside (Num u) (Num (other' v)) (Num (exit_at s (suc (suc i))))
    outside_exit i l = outside (exit_at s (suc (suc i))) (exit_in p ok c curve s part (suc (suc i)) l) (has_exit p ok c curve s part (suc (suc i)) l)
        (λ q. (let w : suc (suc i) ≡ 0 = exits_differ p ok c curve s part (suc (suc i)) 0 l (omega arith) q in omega (arith, w)))
        (exit_no_entry p ok c curve s part (suc (suc i)) 1 l (omega arith))

    outside_entry : (i : ℕ) → suc (suc i) < length s → Outside (Num u) (Num (other' v)) (Num (other' (exit_at s (suc (suc i)))))
    outside_entry i l = outside (other' (exit_at s (suc (suc i)))) (other_in p ok c curve s part (suc (suc i)) l) (has_entry p ok c curve s part (suc (suc i)) l)
        (λ q. exit_no_entry p ok c curve s part 0 (suc (suc i)) (omega arith) l (sym q))
        (λ q. (let w : suc (suc i) ≡ 1 = entries_differ p ok c curve s part (suc (suc i)) 1 l (omega arith) q in omega (arith, w)))

    chord_later : (i : ℕ) → part_chord p c r (suc i) ≡ chord (Num (other' (exit_at s (suc (suc i))))) (Num (exit_at s (suc (suc (suc i)))))
    chord_later i =
        let e : previous (length r) (suc i) ≡ i = rw (ne_eqb (suc i) 0 (λ q. omega arith)) (omega arith) in
        ap (λ k. chord (Num (other' (exit_at r k))) (Num (exit_at r (suc i)))) e

    chord_old : (i : ℕ) → part_chord p c s (suc (suc (suc i))) ≡ chord (Num (other' (exit_at s (suc (suc i))))) (Num (exit_at s (suc (suc (suc i)))))
    chord_old i =
        let e : previous (length s) (suc (suc (suc i))) ≡ suc (suc i) = rw (ne_eqb (suc (suc (suc i))) 0 (λ q. omega arith)) (omega arith) in
        ap (λ k. chord (Num (other' (exit_at s k))) (Num (exit_at s (suc (suc (suc i)))))) e

    -- the start of the joined chord
    abbrev x : ℕ
    x = Num (other' (exit_at s (suc (suc (length r - 1)))))

    -- and its end
    abbrev y : ℕ
    y = Num (exit_at s 2)

    chord_joined : part_chord p c r 0 ≡ chord x y
    chord_joined = refl

    chord_in : 0 < length r → part_chord p c s 0 ≡ chord x (Num u)
    chord_in l = let e : length s - 1 ≡ suc (suc (length r - 1)) = omega arith in ap (λ k. chord (Num (other' (exit_at s k))) (Num u)) e

    chord_out : part_chord p c s 2 ≡ chord (Num (other' v)) y
    chord_out = refl

    -- without the turn it is a part
    pub part_less : IsPart p c r
    part_less = record {
      inside = λ z m. part.inside z (inr (inr m));
      once = λ k j lk lj. (let f = λ (z : Exit). curve_stands p c z k j in omega (arith, sum_by-cons f u (v ∷ r), sum_by-cons f v r, part.once k j lk lj));
      uncrossed = uncrossed;
    }
      where
        old : (i : ℕ) → part_chord p c r (suc i) ≡ part_chord p c s (suc (suc (suc i)))
        old i = chord_later i ∙ sym (chord_old i)

        uncrossed : (a b : ℕ) → (a ≡ b → ⊥) → a < length r → b < length r → crosses (part_chord p c r a) (part_chord p c r b) ≡ false
        uncrossed zero zero ne la lb = absurd (ne refl)
        uncrossed (suc a) (suc b) ne la lb =
            ap₂ crosses (old a) (old b) ∙ part.uncrossed (suc (suc (suc a))) (suc (suc (suc b))) (λ q. ne (omega (arith, q))) (omega arith) (omega arith)
        uncrossed zero (suc b) ne la lb =
            let e : Chord = chord (Num (other' (exit_at s (suc (suc b))))) (Num (exit_at s (suc (suc (suc b))))) in
            ap₂ crosses chord_joined (chord_later b)
            ∙ joined_crosses e x (Num u) (Num (other' v)) y (outside_entry b (omega arith)) (outside_exit (suc b) (omega arith))
            (ap₂ crosses (sym (chord_in (omega arith))) (sym (chord_old b)) ∙ part.uncrossed 0 (suc (suc (suc b))) (λ q. omega arith) (omega arith) (omega arith))
            (ap₂ crosses (sym chord_out) (sym (chord_old b)) ∙ part.uncrossed 2 (suc (suc (suc b))) (λ q. omega arith) (omega arith) (omega arith))
        uncrossed (suc a) zero ne la lb =
            let e : Chord = chord (Num (other' (exit_at s (suc (suc a))))) (Num (exit_at s (suc (suc (suc a))))) in
            ap₂ crosses (chord_later a) chord_joined
            ∙ crosses_joined e x (Num u) (Num (other' v)) y (outside_entry a (omega arith)) (outside_exit (suc a) (omega arith))
            (ap₂ crosses (sym (chord_old a)) (sym (chord_in (omega arith))) ∙ part.uncrossed (suc (suc (suc a))) 0 (λ q. omega arith) (omega arith) (omega arith))
            (ap₂ crosses (sym (chord_old a)) (sym chord_out) ∙ part.uncrossed (suc (suc (suc a))) 2 (λ q. omega arith) (omega arith) (omega arith))
