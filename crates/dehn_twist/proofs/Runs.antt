-- A loop of the surgery, with the labels of its points: from the part before the meeting to the part after it.
use Rattle.std.proofs.Common.{◌≡◌, ◌≢◌, ℕ, suc, ◌-◌, ◌<◌, ◌≤◌, Bool, true, false, cond, not, List, [], ◌∷◌, ◌++◌, map, reverse, length, refl, sym, ◌∙◌, ap, ap₂, subst, ◌⊎◌, inl, inr, arith}
use Rattle.std.proofs.lemmas.Bool.{cases_eq, cases_order, eq-eqb, ne_eqb}
use Rattle.std.proofs.lemmas.List.{reverse-append}
use Rattle.obd_base.specs.Lists.{Mem, below}
use Rattle.obd_base.specs.declared.points.Exit.{Exit}
use Rattle.obd_base.specs.declared.points.Sign.{Sign}
use Rattle.page_surface.specs.Drawing.{Drawing, IsEmbedded, entry}
use Rattle.page_surface.specs.Polygon.{Pairs}
use Rattle.curve_paths.specs.Curves.{IsCurve, curve_entry, exit_at, previous, turned}
use Rattle.dehn_twist.specs.Surgery.{chord_end, chord_start, copy_of, goes_up, line_index, loop_along, meeting_count, meetings_upto, merged_curve, next_exit, surgery}
use Rattle.dehn_twist.proofs.Circle.{Part}
use Rattle.dehn_twist.proofs.CopyPlaces.{line_index-less, line_with, line_with-index}
use Rattle.dehn_twist.proofs.CurveRing.{end_in, start_in}
use Rattle.dehn_twist.proofs.MeetingSums.{upto_more}
use Rattle.dehn_twist.proofs.NewCircle.{copy_label, label_at_end, label_at_start}
use Rattle.dehn_twist.proofs.NewPlaces.{copy_across}
use Rattle.dehn_twist.proofs.NewPoints.{copy_there, new_circle}
use Rattle.dehn_twist.proofs.LineLabels.{is_inside, label, label_other, line_label}
use Rattle.curve_paths.proofs.CurvePoints.{entry-entry, entry_in, exit_in}
use Rattle.dehn_twist.proofs.RoundNumbers.{Goes, round_from}

module _ (new : Drawing) (points : List (Exit × Part)) where
  -- exits that lead from a label to a label: each stands at the label so far, and its entry at the next one
  abbrev pub Runs : Part → List Exit → List Part → Part → Type 0
  Runs x [] [] y = x ≡ y
  Runs x [] (r ∷ rs) y = ⊥
  Runs x (e ∷ es) [] y = ⊥
  Runs x (e ∷ es) (r ∷ rs) y = Mem (e, x) points × Mem (entry new e, r) points × Runs r es rs y

  -- one after another
  pub runs_join : (es fs : List Exit) (rs ss : List Part) (x y z : Part) → Runs x es rs y → Runs y fs ss z → Runs x (es ++ fs) (rs ++ ss) z
  runs_join [] fs [] ss x y z h k = subst (λ w. Runs w fs ss z) (sym h) k
  runs_join [] fs (r ∷ rs) ss x y z h k = absurd h
  runs_join (e ∷ es) fs [] ss x y z h k = absurd h
  runs_join (e ∷ es) fs (r ∷ rs) ss x y z h k = (h.0, h.1, runs_join es fs rs ss r y z h.2 k)

module _ (d : Drawing) (dok : IsEmbedded d) (c : List Exit) (curve : IsCurve d.polygon c) (g : Sign) where
  abbrev ok : Pairs d.polygon
  ok = dok.polygon.pairs

  abbrev R : ℕ
  R = length c

  abbrev total : ℕ
  total = meeting_count d c

  abbrev upto : ℕ → ℕ
  upto a = meetings_upto d c a

  abbrev new : Drawing
  new = surgery d c g

  abbrev circle : List (Exit × Part)
  circle = new_circle d dok c curve g

  -- in the surgery
  abbrev pub NewRuns : Part → List Exit → List Part → Part → Type 0
  NewRuns x es rs y = Runs (surgery d c g) (new_circle d dok c curve g) x es rs y

  -- the labels of a line at the end of a chord, and at its start
  abbrev pub at_last : ℕ → ℕ → Part
  at_last a n = label d dok c curve a (is_inside d dok c curve g (goes_up (merged_curve d c a))) n

  -- and at the start
  abbrev pub at_first : ℕ → ℕ → Part
  at_first a n = label d dok c curve a (is_inside d dok c curve g (not (goes_up (merged_curve d c a)))) n

  abbrev index : ℕ → ℕ → ℕ
  index b n = line_index g (meeting_count d c) (meetings_upto d c (suc b)) n

  bounded : (b : ℕ) → b < R → upto (suc b) ≤ total
  bounded b l = upto_more d dok c curve (suc b) R l

  -- the copy of an exit
  last_there : (b n : ℕ) → b < R → n < total → Mem (copy_of d c total (exit_at c b) (index b n), at_last b n) circle
  last_there b n l h =
      let i = line_index-less g total (upto (suc b)) n h (bounded b l) in
      subst (λ r. Mem (copy_of d c total (exit_at c b) (index b n), r) circle)
      (label_at_end d dok c curve g b (index b n) l ∙ ap (at_last b) (line_with-index g total (upto (suc b)) n h (bounded b l)))
      (copy_there d dok c curve g (chord_end c b) (index b n) (end_in d.polygon ok c curve b l) i)

  -- the copy of its entry
  previous_next : (b : ℕ) → b < R → previous R (next_exit R b) ≡ b
  previous_next b l = elim (cases_eq (suc b) R) [
    | inl e ↦ rw (eq-eqb (suc b) R e) (omega (arith, e))
    | inr h ↦ rw (ne_eqb (suc b) R h) (let q : suc b ≢ 0 = λ t. omega (arith, t) in rw (ne_eqb (suc b) 0 q) (omega arith))
  ]

  next_less : (b : ℕ) → b < R → next_exit R b < R
  next_less b l = elim (cases_eq (suc b) R) [
    | inl e ↦ rw (eq-eqb (suc b) R e) (omega (arith, l))
    | inr h ↦ rw (ne_eqb (suc b) R h) (omega (arith, l, h))
  ]

  first_there : (b n : ℕ) → b < R → n < total → Mem (copy_of d c total (curve_entry d.polygon c (exit_at c b)) (total - 1 - index b n), at_first (next_exit R b) n) circle
  first_there b n l h =
      let i = line_index-less g total (upto (suc b)) n h (bounded b l) in
      let a = next_exit R b in
      let la = next_less b l in
      let e = previous_next b l in
      let m : total - 1 - (total - 1 - index b n) ≡ index b n = omega (arith, i) in
      let named : copy_label d dok c curve g (chord_start d.polygon c a) (total - 1 - index b n) ≡ at_first a n
      = label_at_start d dok c curve g a (total - 1 - index b n) la
      ∙ (ap₂ (λ u v. at_first a (line_with g total (upto (suc u)) v)) e m ∙ ap (at_first a) (line_with-index g total (upto (suc b)) n h (bounded b l))) in
      let q : chord_start d.polygon c a ≡ curve_entry d.polygon c (exit_at c b) = ap (λ z. curve_entry d.polygon c (exit_at c z)) e in
      let there : Mem (copy_of d c total (chord_start d.polygon c a) (total - 1 - index b n), copy_label d dok c curve g (chord_start d.polygon c a) (total - 1 - index b n)) circle
      = copy_there d dok c curve g (chord_start d.polygon c a) (total - 1 - index b n) (start_in d.polygon ok c curve a la) (omega (arith, i)) in
      subst (λ z. Mem (copy_of d c total z (total - 1 - index b n), at_first a n) circle) q
      (subst (λ r. Mem (copy_of d c total (chord_start d.polygon c a) (total - 1 - index b n), r) circle) named there)

  -- their other names
  last_across : (b n : ℕ) → b < R → n < total → entry new (copy_of d c total (exit_at c b) (index b n)) ≡ copy_of d c total (curve_entry d.polygon c (exit_at c b)) (total - 1 - index b n)
  last_across b n l h = copy_across d dok c curve g (exit_at c b) (index b n) (exit_in d.polygon ok c curve b l) (line_index-less g total (upto (suc b)) n h (bounded b l))

  first_across : (b n : ℕ) → b < R → n < total → entry new (copy_of d c total (curve_entry d.polygon c (exit_at c b)) (total - 1 - index b n)) ≡ copy_of d c total (exit_at c b) (index b n)
  first_across b n l h =
      let i = line_index-less g total (upto (suc b)) n h (bounded b l) in
      let x = exit_in d.polygon ok c curve b l in
      copy_across d dok c curve g (curve_entry d.polygon c (exit_at c b)) (total - 1 - index b n) (entry_in d.polygon ok c curve (exit_at c b) x) (omega (arith, i))
      ∙ ap₂ (λ z y. copy_of d c total z y) (entry-entry d.polygon ok c curve (exit_at c b) x) (let z : total - 1 - (total - 1 - index b n) ≡ index b n = omega (arith, i) in z)

  -- the labels behind the exits of a loop
  abbrev pub loop_rights : ℕ → ℕ → Bool → List Part
  loop_rights a n true = map (λ b. at_first (next_exit (length c) b) n) (turned a (below (length c)))
  loop_rights a n false = reverse (map (λ b. at_last b n) (turned a (below (length c))))

  module _ (a n : ℕ) (la : a < R) (from : upto a ≤ n) (to : n < upto (suc a)) where
    few : n < total
    few = let b = bounded a la in omega (arith, b, to)

    -- away from its chord a meeting's line is a line
    elsewhere : (b : ℕ) → b ≢ a → (n < upto b) ⊎ (upto (suc b) ≤ n)
    elsewhere b ne = elim (cases_order b a) [
      | inl e ↦ absurd (ne e)
      | inr o ↦ elim o [
        | inl l ↦ inr (let h = upto_more d dok c curve (suc b) a l in omega (arith, h, from))
        | inr l ↦ inl (let h = upto_more d dok c curve (suc a) b l in omega (arith, h, to))
      ]
    ]

    -- at the end of another chord
    pub last_is : (b : ℕ) → b ≢ a → at_last b n ≡ line_label d dok c curve b n
    last_is b ne = label_other d dok c curve b (is_inside d dok c curve g (goes_up (merged_curve d c b))) n (elsewhere b ne)

    -- and at its start
    pub first_is : (b : ℕ) → b ≢ a → at_first b n ≡ line_label d dok c curve b n
    first_is b ne = label_other d dok c curve b (is_inside d dok c curve g (not (goes_up (merged_curve d c b)))) n (elsewhere b ne)

    abbrev forward : ℕ → Exit
    forward b = copy_of d c (meeting_count d c) (exit_at c b) (index b n)

    abbrev backward : ℕ → Exit
    backward b = copy_of d c (meeting_count d c) (curve_entry d.polygon c (exit_at c b)) (meeting_count d c - 1 - index b n)

    forward_rest : (bs : List ℕ) (x y : ℕ) → Goes R x bs y → ((b : ℕ) → Mem b bs → (b < R) × (b ≢ a))
        → NewRuns (at_first x n) (map forward bs) (map (λ b. at_first (next_exit R b) n) bs) (at_first y n)
    forward_rest [] x y h k = ap (λ z. at_first z n) h
    forward_rest (b ∷ bs) x y h k =
        let m = k b (inl refl) in (
          subst (λ r. Mem (forward b, r) circle) (last_is b m.1 ∙ (sym (first_is b m.1) ∙ ap (λ z. at_first z n) (sym h.0))) (last_there b n m.0 few),
          subst (λ e. Mem (e, at_first (next_exit R b) n) circle) (sym (last_across b n m.0 few)) (first_there b n m.0 few),
          forward_rest bs (next_exit R b) y h.1 (λ z i. k z (inr i)),
        )

    backward_rest : (bs : List ℕ) (x y : ℕ) → Goes R x bs y → ((b : ℕ) → Mem b bs → (b < R) × (b ≢ a))
        → NewRuns (at_first y n) (reverse (map backward bs)) (reverse (map (λ b. at_last b n) bs)) (at_first x n)
    backward_rest [] x y h k = ap (λ z. at_first z n) (sym h)
    backward_rest (b ∷ bs) x y h k =
        let m = k b (inl refl) in
        let one : NewRuns (at_first (next_exit R b) n) (backward b ∷ []) (at_last b n ∷ []) (at_first x n) = (
          first_there b n m.0 few,
          subst (λ e. Mem (e, at_last b n) circle) (sym (first_across b n m.0 few)) (last_there b n m.0 few),
          last_is b m.1 ∙ (sym (first_is b m.1) ∙ ap (λ z. at_first z n) (sym h.0)),
        ) in
        let e = reverse-append (backward b ∷ []) (map backward bs) in
        let f = reverse-append (at_last b n ∷ []) (map (λ b. at_last b n) bs) in
        subst (λ es. NewRuns (at_first y n) es (reverse (map (λ b. at_last b n) (b ∷ bs))) (at_first x n)) (sym e)
        (subst (λ rs. NewRuns (at_first y n) (reverse (map backward bs) ++ (backward b ∷ [])) rs (at_first x n)) (sym f)
        (runs_join new circle (reverse (map backward bs)) (backward b ∷ []) (reverse (map (λ b. at_last b n) bs)) (at_last b n ∷ []) (at_first y n) (at_first (next_exit R b) n) (at_first x n)
        (backward_rest bs (next_exit R b) y h.1 (λ z i. k z (inr i))) one))

    -- a loop forward leads from the end of its chord to its start, a loop backward the other way
    pub loop_runs : (b : Bool) → NewRuns (cond b (at_last a n) (at_first a n)) (loop_along d c g b total a n) (loop_rights a n b) (cond b (at_first a n) (at_last a n))
    loop_runs true =
        let r = round_from R a la in
        let e = r.is in
        subst (λ bs. NewRuns (at_last a n) (map forward bs) (map (λ b. at_first (next_exit R b) n) bs) (at_first a n)) (sym e)
        (last_there a n la few, subst (λ e. Mem (e, at_first (next_exit R a) n) circle) (sym (last_across a n la few)) (first_there a n la few), forward_rest r.rest (next_exit R a) a r.goes r.other)
    loop_runs false =
        let r = round_from R a la in
        let e = r.is in
        let one : NewRuns (at_first (next_exit R a) n) (backward a ∷ []) (at_last a n ∷ []) (at_last a n) = (
          first_there a n la few,
          subst (λ e. Mem (e, at_last a n) circle) (sym (first_across a n la few)) (last_there a n la few),
          refl,
        ) in
        let u = reverse-append (backward a ∷ []) (map backward r.rest) in
        let v = reverse-append (at_last a n ∷ []) (map (λ b. at_last b n) r.rest) in
        subst (λ bs. NewRuns (at_first a n) (reverse (map backward bs)) (reverse (map (λ b. at_last b n) bs)) (at_last a n)) (sym e)
        (subst (λ es. NewRuns (at_first a n) es (reverse (map (λ b. at_last b n) (a ∷ r.rest))) (at_last a n)) (sym u)
        (subst (λ rs. NewRuns (at_first a n) (reverse (map backward r.rest) ++ (backward a ∷ [])) rs (at_last a n)) (sym v)
        (runs_join new circle (reverse (map backward r.rest)) (backward a ∷ []) (reverse (map (λ b. at_last b n) r.rest)) (at_last a n ∷ []) (at_first a n) (at_first (next_exit R a) n) (at_last a n)
        (backward_rest r.rest (next_exit R a) a r.goes r.other) one)))
