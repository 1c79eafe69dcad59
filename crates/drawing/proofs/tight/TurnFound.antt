-- Where some word has a cancelling pair, some cancelling pair is a turn whose two points are neighbours.
use Rattle.std.proofs.Common.{◌≡◌, ℕ, zero, suc, ◌+◌, ◌-◌, ◌<◌, ◌≤◌, Bool, true, false, List, [], ◌∷◌, ◌++◌, length, get_or, refl, sym, ◌∙◌, ap, subst, arith, ◌⊎◌, inl, inr, ◌≢◌}
use Rattle.std.proofs.lemmas.Bool.{cases_lt, cases_eq, cases_order, lt-ltb, le-ltb, false≢true, true≢false}
use Rattle.obd_base.proofs.lists.Below.{below_mem, mem_below}
use Rattle.obd_base.proofs.lists.Members.{mem_right}
use Rattle.obd_base.specs.Lists.{below, Mem}
use Rattle.obd_base.specs.declared.points.Exit.{Exit}
use Rattle.page_surface.specs.Drawing.{Drawing, entry, end_of, spot, offset, points_on, Chord, chords, strand_chords, strand_exits, cut_strand, all_exits, beyond, differ, IsEmbedded}
use Rattle.page_surface.specs.Polygon.{partner, sides, arc_count, first_side, second_side}
use Rattle.page_surface.specs.Words.{Step}
use Rattle.drawing.specs.Turns.{IsTurn}
use Rattle.drawing.proofs.Diagram.{simple, mate, mate_twice, chord_at_spot, at_most_one_end}
use Rattle.drawing.proofs.Ends.{place_in, side_in, same_count}
use Rattle.drawing.proofs.Lists.{mem_flat, flat_mem, mem_row}
use Rattle.drawing.proofs.Mates.{Joins, proper, other_from}
use Rattle.drawing.proofs.Spots.{spot_apart}
use Rattle.drawing.proofs.tight.StrandWays.{letters}
use Rattle.drawing.proofs.SweepTest.{mates_uncrossed}

-- a chord of a strand is its first or last, or joins the entry of an exit to the next exit
pub cut_cases : (d : Drawing) (a z : Exit) (es : List Exit) (c : Chord) → Mem c (cut_strand d a es z)
    → ((c.from ≡ spot d a) × (v : Exit) × (vs : List Exit) × (es ≡ v ∷ vs) × (c.to ≡ spot d v))
    ⊎ ((c.to ≡ spot d z)
    ⊎ ((us : List Exit) × (u : Exit) × (v : Exit) × (vs : List Exit) × (es ≡ us ++ (u ∷ v ∷ vs)) × (c.from ≡ spot d (entry d u)) × (c.to ≡ spot d v)))
cut_cases d a z [] c (inl q) = inr (inl (ap (λ (k : Chord). k.to) q))
cut_cases d a z [] c (inr m) = absurd m
cut_cases d a z (e ∷ es) c (inl q) = inl (ap (λ (k : Chord). k.from) q, e, es, refl, ap (λ (k : Chord). k.to) q)
cut_cases d a z (e ∷ es) c (inr m) = elim (cut_cases d (entry d e) z es c m) [
  | inl w ↦ (let (p, v, vs, q, r) = w in inr (inr ([], e, v, vs, ap (λ x. e ∷ x) q, p, r)))
  | inr w ↦ elim w [
    | inl q ↦ inr (inl q)
    | inr r ↦ (let (us, u, v, vs, q, p, s) = r in inr (inr (e ∷ us, u, v, vs, ap (λ x. e ∷ x) q, p, s)))
  ]
]

-- two exits that follow one another in a strand are joined by a chord
pub turn_chord : (d : Drawing) (a z : Exit) (us : List Exit) (u v : Exit) (vs : List Exit)
    → Mem (record { from = spot d (entry d u); to = spot d v }) (cut_strand d a (us ++ (u ∷ v ∷ vs)) z)
turn_chord d a z [] u v vs = inr (inl refl)
turn_chord d a z (x ∷ us) u v vs = inr (turn_chord d (entry d x) z us u v vs)

-- two exits that follow one another, with these sides
abbrev pub SplitAt : List Exit → ℕ → ℕ → Type 0
SplitAt es k l = (us : List Exit) × (u : Exit) × (v : Exit) × (vs : List Exit) × (es ≡ us ++ (u ∷ v ∷ vs)) × (u.side ≡ k) × (v.side ≡ l)

-- after one exit more
split_after : (e : Exit) (es : List Exit) (k l : ℕ) → SplitAt es k l → SplitAt (e ∷ es) k l
split_after e es k l (us, u, v, vs, s, p, t) = (e ∷ us, u, v, vs, ap (λ w. e ∷ w) s, p, t)

-- letters that split split their exits
letters_unsplit : (es : List Exit) (a b : List ℕ) (k l : ℕ) → letters es ≡ a ++ (k ∷ l ∷ b) → SplitAt es k l
letters_unsplit [] [] b k l q = absurd (let z : 0 ≡ suc (suc (length b)) = ap length q in omega arith)
letters_unsplit [] (x ∷ a) b k l q = absurd (let z : 0 ≡ suc (length (a ++ (k ∷ l ∷ b))) = ap length q in omega arith)
letters_unsplit (e ∷ []) [] b k l q = absurd (let z : 1 ≡ suc (suc (length b)) = ap length q in omega arith)
letters_unsplit (e ∷ f ∷ es) [] b k l q = ([], e, f, es, refl, ap (λ w. get_or w 0 0) q, ap (λ w. get_or w 1 0) q)
letters_unsplit (e ∷ es) (x ∷ a) b k l q =
    let r : letters es ≡ a ++ (k ∷ l ∷ b) = cc in
    split_after e es k l (letters_unsplit es a b k l r)

-- a number on the way from the start of a chord to its greater end lies between them
beyond_yes : (c : Chord) (x : ℕ) → beyond c x ≡ true → c.from ≤ c.to → (c.from < x) × (x ≤ c.to)
beyond_yes c x h l = elim (cases_lt c.from x) [
  | inl p ↦ elim (cases_lt c.to x) [
    | inl q ↦ absurd (false≢true (rw (lt-ltb c.from x p, lt-ltb c.to x q) at h))
    | inr q ↦ (p, q)
  ]
  | inr p ↦ absurd (false≢true (rw (le-ltb c.from x p, le-ltb c.to x (omega arith)) at h))
]

-- two tests of which none alone holds
differ_true : (b c : Bool) → differ b c ≡ false → b ≡ true → c ≡ true
differ_true true true h e = refl
differ_true true false h e = absurd (true≢false h)
differ_true false c h e = absurd (false≢true e)

module _ (d : Drawing) (ok : IsEmbedded d) where
  -- no chord joins a point to itself
  pub mate_moves : (k j : ℕ) → k < sides d.polygon → j ≤ points_on d k → mate d ok (offset d k + j) ≢ offset d k + j
  mate_moves k j lk lj q =
      let (c, m, join) = chord_at_spot d ok k j lk lj in
      proper (chords d) (simple d ok) c m (elim join [ inl w ↦ w.0 ∙ (sym q ∙ sym w.1) | inr w ↦ w.1 ∙ (q ∙ sym w.0) ])

  -- two points of a side that a chord joins have between them two neighbours that a chord joins
  pub neighbours_inside : (n k x y : ℕ) → k < sides d.polygon → x < y → y < points_on d k → y - x ≤ n → mate d ok (offset d k + x) ≡ offset d k + y
      → (t : ℕ) × (suc t < points_on d k) × (mate d ok (offset d k + t) ≡ offset d k + suc t)
  neighbours_inside zero k x y lk l ly f q = absurd (omega arith)
  neighbours_inside (suc n) k x y lk l ly f q = elim (cases_eq y (suc x)) [
    | inl e ↦ (x, omega arith, q ∙ ap (λ j. offset d k + j) e)
    | inr ne ↦
        let o = offset d k in
        let u = mate d ok (o + suc x) in
        let c : Chord = record { from = o + x; to = mate d ok (o + x) } in
        let crossing = mates_uncrossed d ok k x k (suc x) lk (omega arith) lk (omega arith) (λ z. omega arith) (λ z. ne (omega (arith, q, z))) in
        let between : beyond c (o + suc x) ≡ true = rw (lt-ltb (o + x) (o + suc x) (omega arith), le-ltb (mate d ok (o + x)) (o + suc x) (omega (arith, q))) refl in
        let u_between = beyond_yes c u (differ_true (beyond c (o + suc x)) (beyond c u) crossing between) (omega (arith, q)) in
        let back : mate d ok u ≡ o + suc x = mate_twice d ok (o + suc x) in
        let not_y : u ≢ o + y = λ z. absurd (omega (arith, sym back ∙ (ap (mate d ok) (z ∙ sym q) ∙ mate_twice d ok (o + x)))) in
        let not_x = mate_moves k (suc x) lk (omega arith) in
        neighbours_inside n k (suc x) (u - o) lk (omega (arith, u_between, not_x)) (omega (arith, u_between, not_y, q)) (omega (arith, u_between, not_y, q)) (omega (arith, u_between))
  ]

  -- neighbours of a side that a chord joins are a turn of a strand
  pub turn_at : (k t : ℕ) → k < sides d.polygon → suc t < points_on d k → mate d ok (offset d k + t) ≡ offset d k + suc t
      → (i : ℕ) × (us : List Exit) × (u : Exit) × (v : Exit) × (vs : List Exit) × IsTurn d i us u v vs
  turn_at k t lk lt q =
      let (c, m, join) = chord_at_spot d ok k t lk (omega arith) in
      let (i, im, n) = flat_mem (strand_chords d) (below (arc_count d.polygon)) c m in
      let join' : Joins c (offset d k + t) (offset d k + suc t) = subst (λ y. Joins c (offset d k + t) y) q join in
      elim (cut_cases d (end_of d (second_side d.polygon i)) (end_of d (first_side d.polygon i)) (strand_exits d i) c n) [
        | inl w ↦ absurd (no_end (second_side d.polygon i) (elim join' [ inl r ↦ inl (sym r.0 ∙ w.0) | inr r ↦ inr (sym r.1 ∙ w.0) ]))
        | inr w ↦ elim w [
          | inl w ↦ absurd (no_end (first_side d.polygon i) (elim join' [ inl r ↦ inr (sym r.1 ∙ w) | inr r ↦ inl (sym r.0 ∙ w) ]))
          | inr w ↦ (let (us, u, v, vs, s, p, r) = w in (i, us, u, v, vs, turn i us u v vs c (mem_below _ i im) s p r join'))
        ]
      ]
    where
      no_end : (s : ℕ) → (offset d k + t ≡ offset d s + points_on d s) ⊎ (offset d k + suc t ≡ offset d s + points_on d s) → ⊥
      no_end s (inl e) =
          let r = spot_apart d k t s (points_on d s) (omega arith) (omega arith) e in
          absurd (let v : points_on d k ≡ points_on d s = ap (points_on d) r.0 in omega (arith, r.1, v))
      no_end s (inr e) =
          let r = spot_apart d k (suc t) s (points_on d s) (omega arith) (omega arith) e in
          absurd (let v : points_on d k ≡ points_on d s = ap (points_on d) r.0 in omega (arith, r.1, v))

      turn : (i : ℕ) (us : List Exit) (u v : Exit) (vs : List Exit) (c : Chord) → i < arc_count d.polygon → strand_exits d i ≡ us ++ (u ∷ v ∷ vs)
          → c.from ≡ spot d (entry d u) → c.to ≡ spot d v → Joins c (offset d k + t) (offset d k + suc t) → IsTurn d i us u v vs
      turn i us u v vs c li s p r join =
          let iu : Mem u (all_exits d) = mem_row d.strands i u (subst (λ es. Mem u es) (sym s) (mem_right u us (u ∷ v ∷ vs) (inl refl))) in
          let iv : Mem v (all_exits d) = mem_row d.strands i v (subst (λ es. Mem v es) (sym s) (mem_right v us (u ∷ v ∷ vs) (inr (inl refl)))) in
          let pu = place_in d ok u iu in
          let pv = place_in d ok v iv in
          let same = same_count d ok u.side in
          elim join [
            | inl w ↦
                (let a = spot_apart d (partner d.polygon u.side) (points_on d u.side - 1 - u.place) k t (omega (arith, same)) (omega arith) (sym p ∙ w.0) in
                let b = spot_apart d v.side v.place k (suc t) (omega (arith, pv)) (omega arith) (sym r ∙ w.1) in
                record { arc = li; splits = s; turns = record { returns = b.0 ∙ sym a.0; neighbours = inl (omega (arith, a.1, b.1, pu)) } })
            | inr w ↦
                (let a = spot_apart d (partner d.polygon u.side) (points_on d u.side - 1 - u.place) k (suc t) (omega (arith, same)) (omega arith) (sym p ∙ w.1) in
                let b = spot_apart d v.side v.place k t (omega (arith, pv)) (omega arith) (sym r ∙ w.0) in
                record { arc = li; splits = s; turns = record { returns = b.0 ∙ sym a.0; neighbours = inr (omega (arith, a.1, b.1, pu)) } })
          ]

  -- where a step is possible in some word, there is a turn with neighbouring points
  pub turn_found : (i : ℕ) (w : List ℕ) → i < arc_count d.polygon → Step d.polygon (letters (strand_exits d i)) w
      → (j : ℕ) × (us : List Exit) × (u : Exit) × (v : Exit) × (vs : List Exit) × IsTurn d j us u v vs
  turn_found i w li (a, b, k, e, f) =
      let (us, u, v, vs, s, p, q) = letters_unsplit (strand_exits d i) a b k (partner d.polygon k) e in
      let iu : Mem u (all_exits d) = mem_row d.strands i u (subst (λ es. Mem u es) (sym s) (mem_right u us (u ∷ v ∷ vs) (inl refl))) in
      let iv : Mem v (all_exits d) = mem_row d.strands i v (subst (λ es. Mem v es) (sym s) (mem_right v us (u ∷ v ∷ vs) (inr (inl refl)))) in
      let c : Chord = record { from = spot d (entry d u); to = spot d v } in
      let m : Mem c (chords d) = mem_flat (strand_chords d) (below (arc_count d.polygon)) i c (below_mem _ i li)
      (subst (λ es. Mem c (cut_strand d (end_of d (second_side d.polygon i)) es (end_of d (first_side d.polygon i)))) (sym s) (turn_chord d _ _ us u v vs)) in
      let joined : mate d ok (spot d (entry d u)) ≡ spot d v = other_from (chords d) c (at_most_one_end d ok) m in
      found v.side (points_on d u.side - 1 - u.place) v.place (side_in d ok v iv)
      (let w : points_on d v.side ≡ points_on d u.side = ap (points_on d) (q ∙ ap (partner d.polygon) (sym p)) ∙ same_count d ok u.side in omega (arith, w, place_in d ok u iu))
      (place_in d ok v iv)
      (ap (λ s. mate d ok (offset d s + (points_on d u.side - 1 - u.place))) (q ∙ ap (partner d.polygon) (sym p)) ∙ joined)
    where
      found : (k x y : ℕ) → k < sides d.polygon → x < points_on d k → y < points_on d k → mate d ok (offset d k + x) ≡ offset d k + y
          → (j : ℕ) × (us : List Exit) × (u : Exit) × (v : Exit) × (vs : List Exit) × IsTurn d j us u v vs
      found k x y lk lx ly e = elim (cases_order x y) [
        | inl q ↦ absurd (mate_moves k x lk (omega arith) (e ∙ ap (λ j. offset d k + j) (sym q)))
        | inr o ↦ elim o [
          | inl l ↦ (let (t, lt, r) = neighbours_inside y k x y lk l ly (omega arith) e in turn_at k t lk lt r)
          | inr l ↦ (let (t, lt, r) = neighbours_inside x k y x lk l lx (omega arith) (ap (mate d ok) (sym e) ∙ mate_twice d ok (offset d k + x)) in turn_at k t lk lt r)
        ]
      ]
