-- Each piece that the path passes through has two spans, or keeps its door on one of the two parts that it will have; and how the path ends.
use Rattle.std.proofs.Common.{◌≡◌, ℕ, suc, ◌+◌, ◌-◌, ◌<◌, ◌≤◌, Bool, true, false, eqb, ltb, not, ◌||◌, List, [], ◌∷◌, ◌++◌, length, refl, sym, ◌∙◌, ap, subst, arith, ◌⊎◌, inl, inr, ◌≢◌}
use Rattle.std.proofs.lemmas.Bool.{cases_Bool, cases_eq, eqb-true, eq-eqb, ne_eqb, ltb-true, or_cases}
use Rattle.std.proofs.lemmas.List.{length-append}
use Rattle.obd_base.specs.Lists.{Mem}
use Rattle.obd_base.proofs.lists.Members.{filter_mem, mem_right}
use Rattle.page_surface.specs.Drawing.{Chord, Drawing, IsEmbedded, chords}
use Rattle.drawing.specs.Pieces.{badness, distance, gaps, inner_pieces, is_base, piece_of, pieces, same_piece, segments_in, span_count}
use Rattle.drawing.specs.Round.{next_segment, previous_segment}
use Rattle.drawing.proofs.Laws.{name_in_piece, name_listed}
use Rattle.finger_move.specs.Glued.{glued_to}
use Rattle.drawing.proofs.fingers.Arranged.{Arranged, arranged_proper}
use Rattle.finger_move.proofs.Cycles.{IsCycle, cycle_before, cycle_length, cycle_whole, leads_right}
use Rattle.drawing.proofs.fingers.NewEmbedded.{arranged}
use Rattle.finger_move.proofs.PushedNext.{far, near, next, other_twice}
use Rattle.finger_move.proofs.Segments.{IsSegment, glued_segment_of, segment_in}
use Rattle.nice_plan.specs.Path.{before_door, leaves_by, stops_in}
use Rattle.nice_plan.proofs.DoorSearch.{DoorAt, door_at}
use Rattle.nice_plan.proofs.PathEnds.{last_or}
use Rattle.nice_plan.proofs.PathStops.{AsFar, Glued, Leaves, segs}
use Rattle.nice_plan.proofs.PieceRounds.{Round, base_same, distance_same, base_zero, round_of, segments_same}
use Rattle.nice_plan.proofs.Pushing.{SameChords, same_other}
use Rattle.nice_plan.proofs.RowLegal.{Stop, Way, spans_from}
use Rattle.nice_plan.proofs.falling.Reordered.{cycle_order, dist_order, same_order}
use Rattle.nice_plan.proofs.falling.Start.{base_at}
use Rattle.nice_plan.proofs.falling.Stops.{DoorStop, last_of}
use Rattle.nice_plan.proofs.falling.WeightFalls.{Passes}

-- the end of the last segment, by the stops
pub last_glued : (d : Drawing) (s : ℕ) (stops : List Stop) → Glued d stops → glued_to d (last_or s (segs stops)) ≡ last_of (glued_to d s) stops
last_glued d s [] g = refl
last_glued d s (st ∷ ss) g = last_glued d st.seg ss g.2 ∙ ap (λ x. last_of x ss) (sym g.1)

-- where the second of a circle is known, nothing stands before it
none_before : (f : ℕ → ℕ) (u v : ℕ) (a b : List ℕ) → IsCycle f (u ∷ (a ++ (v ∷ b))) → v ≡ f u → length a ≡ 0
none_before f u v [] b c q = refl
none_before f u v (x ∷ a) b c q = absurd (c.once.1.0 (subst (λ w. Mem w (a ++ (v ∷ b))) (q ∙ c.leads.0) (mem_right v a (v ∷ b) (inl refl))))

-- where the last is, nothing stands after it
none_after : (f : ℕ → ℕ) (u v : ℕ) (a b : List ℕ) → IsCycle f (u ∷ (a ++ (v ∷ b))) → f v ≡ u → length b ≡ 0
none_after f u v a [] c q = refl
none_after f u v a (x ∷ b) c q =
    let l = leads_right f (u ∷ a) (v ∷ x ∷ b) u c.leads in
    absurd (c.once.0 (subst (λ w. Mem w (a ++ (v ∷ x ∷ b))) (sym l.0 ∙ q) (mem_right x a (v ∷ x ∷ b) (inr (inl refl)))))

module _ (d : Drawing) (ok : IsEmbedded d) (e : ℕ) (most : (z : ℕ) → Mem z (inner_pieces d) → badness d z ≢ 0 → distance d z ≤ suc e) where
  abbrev cs : List Chord
  cs = chords d

  arr : Arranged cs
  arr = arranged d ok

  -- a piece of more than two spans is at distance e + 1 at most
  at_most : (u : ℕ) → u < span_count d → is_base d u ≡ false → length (segments_in d u) ≢ 2 → 2 ≤ length (segments_in d u) → distance d u ≤ suc e
  at_most u l inner ne two =
      let p = piece_of d u in
      let s = name_in_piece d u l in
      let listed = filter_mem (λ s. not (is_base d s)) p (pieces d) (name_listed d u l) (ap not (sym (base_same d u p s) ∙ inner)) in
      let size = ap length (segments_same d u p s) in
      let far = distance_same d u p s in
      let m = most p listed (λ z. omega (arith, z, size, ne, two)) in
      omega (arith, far, m)

  -- what the rule leaves of a piece with entry u
  pub stop_kept : (u : ℕ) (s : Stop) → u < span_count d → is_base d u ≡ false → IsCycle (next (chords d)) (spans_from u s) → suc e ≤ distance d u → s.seg ≡ leaves_by d u
      → ((length s.before ≡ 0) × (length s.after ≡ 0)) ⊎ DoorStop (suc e) (chords d) (gaps d) u s
  stop_kept u s l inner c low q = go (cases_eq (length (segments_in d u)) 2)
    where
      r : Round d ok u
      r = round_of d ok u l inner

      size : length (segments_in d u) ≡ 2 + (length s.before + length s.after)
      size =
          let a = cycle_length cs arr (spans_from u s) (u ∷ r.rest) c r.cycle u (inl refl) (inl refl) in
          let b = length-append s.before (s.seg ∷ s.after) in
          omega (arith, a, b, r.size)

      onward : s.seg ≡ next cs u → length s.before ≡ 0
      onward k = none_before (next cs) u s.seg s.before s.after c k

      backward : s.seg ≡ previous_segment d u → length s.after ≡ 0
      backward k =
          let (y, m, p) = cycle_before (next cs) (u ∷ r.rest) r.cycle u (inl refl) in
          let z : suc (u - 1) ≡ u = omega (arith, p) in
          none_after (next cs) u s.seg s.before s.after c (ap (next cs) k ∙ (ap suc (other_twice cs arr (u - 1)) ∙ z))

      level : length (segments_in d u) ≢ 2 → distance d u ≡ suc e
      level ne = let m = at_most u l inner ne (omega (arith, size)) in omega (arith, low, m)

      apart : (o : Bool) (x : Chord) → x.from ≢ x.to → near o x ≢ far o x
      apart true x n k = n (sym k)
      apart false x n k = n k

      door_stop : (b : ℕ) → DoorAt d u e b → length (segments_in d u) ≢ 2
          → ((length s.before ≡ 0) × Mem b (s.seg ∷ s.after)) ⊎ ((length s.after ≡ 0) × Mem b (u ∷ s.before)) → DoorStop (suc e) cs (gaps d) u s
      door_stop b g ne place = record {
        post = b;
        ends_here = λ k. apart g.out g.chord (arranged_proper cs arr g.chord g.of_drawing) (g.there ∙ (k ∙ sym g.here));
        level = sym (distance_same d u b g.same) ∙ level ne;
        behind = ap suc g.nearer;
        place = place;
      }

      first_empty : (xs : List ℕ) → length xs ≡ 0 → xs ≡ []
      first_empty [] k = refl
      first_empty (x ∷ xs) k = absurd (let w : ⊥ = omega (arith, k) in w)

      go : (length (segments_in d u) ≡ 2) ⊎ (length (segments_in d u) ≢ 2) → ((length s.before ≡ 0) × (length s.after ≡ 0)) ⊎ DoorStop (suc e) cs (gaps d) u s
      go (inl two) = inl (omega (arith, size, two), omega (arith, size, two))
      go (inr ne) =
          let g = door_at d ok u e l (level ne) in
          let b = before_door d u in
          elim (cases_eq b u) [
            | inl same ↦
                (let t : (eqb (length (segments_in d u)) 2 || not (eqb b u)) ≡ false = rw (ne_eqb (length (segments_in d u)) 2 ne, eq-eqb b u same) refl in
                let k : leaves_by d u ≡ previous_segment d u = rw (leaves_by, t) refl in
                inr (door_stop b g ne (inr (backward (q ∙ k), inl same))))
            | inr other ↦
                (let t : (eqb (length (segments_in d u)) 2 || not (eqb b u)) ≡ true = rw (ne_eqb (length (segments_in d u)) 2 ne, ne_eqb b u other) refl in
                let k : leaves_by d u ≡ next_segment d u = rw (leaves_by, t) refl in
                let none = onward (q ∙ k) in
                let m : Mem b (spans_from u s) = cycle_whole cs arr (spans_from u s) c u b (inl refl) g.same in
                let m' : Mem b (u ∷ (s.seg ∷ s.after)) = subst (λ w. Mem b (u ∷ (w ++ (s.seg ∷ s.after)))) (first_empty s.before none) m in
                inr (door_stop b g ne (inl (none, elim m' [ inl p ↦ absurd (other p) | inr i ↦ i ]))))
          ]

  -- how the path ends
  pub path_end : (u : ℕ) → IsSegment d u → stops_in d (suc e) u ≡ true
      → ((g : ℕ) × Mem g (gaps d) × (same_piece (chords d) u g ≡ true)) ⊎ ((distance d u < suc e) ⊎ IsCycle (next (chords d)) (u ∷ []))
  path_end u h q = elim (cases_Bool (is_base d u)) [
    | inl base ↦ inl (base_at d u base)
    | inr inner ↦
        (let t : (eqb (length (segments_in d u)) 1 || ltb (distance d u) (suc e)) ≡ true = (let z : (false || (eqb (length (segments_in d u)) 1 || ltb (distance d u) (suc e))) ≡ true = rw inner at q in z) in
        elim (or_cases (eqb (length (segments_in d u)) 1) (ltb (distance d u) (suc e)) t) [
          | inl one ↦
              (let r = round_of d ok u (segment_in d u h) inner in
              inr (inr (alone u r.rest (let z = r.size in let w = eqb-true (length (segments_in d u)) 1 one in omega (arith, z, w)) r.cycle)))
          | inr near ↦ inr (inl (ltb-true (distance d u) (suc e) near))
        ])
  ]
    where
      alone : (u : ℕ) (rest : List ℕ) → length rest ≡ 0 → IsCycle (next cs) (u ∷ rest) → IsCycle (next cs) (u ∷ [])
      alone u [] k c = c
      alone u (x ∷ rest) k c = absurd (let w : ⊥ = omega (arith, k) in w)

  -- the whole path
  pub passes : (u : ℕ) (stops : List Stop) → IsSegment d u → Way (next (chords d)) u stops → Glued d stops → AsFar d (suc e) u stops → Leaves d u stops
      → stops_in d (suc e) (last_of u stops) ≡ true → Passes (suc e) (chords d) (gaps d) u stops
  passes u [] h w g f k q = path_end u h q
  passes u (s ∷ ss) h w g f k q =
      let low = f.0 u (inl refl) in
      let inner : is_base d u ≡ false = elim (cases_Bool (is_base d u)) [ inl b ↦ absurd (let z = base_zero d ok u b in let v : ⊥ = omega (arith, z, low) in v) | inr b ↦ b ] in (
        low,
        stop_kept u s (segment_in d u h) inner w.0 low k.0,
        passes s.beyond ss (subst (λ x. IsSegment d x) (sym g.1) (glued_segment_of d ok s.seg g.0)) w.2 g.2 f.1 k.1 q,
      )

-- the same with the chords in another order
module _ (cs ds : List Chord) (ok : Arranged cs) (also : Arranged ds) (same : SameChords cs ds) (gs : List ℕ) where
  door_order : (D u : ℕ) (s : Stop) → DoorStop D cs gs u s → DoorStop D ds gs u s
  door_order D u s k = record {
    post = k.post;
    ends_here = λ q. k.ends_here (same_other cs ds ok also same k.post ∙ q);
    level = sym (dist_order cs ds ok also same gs k.post) ∙ k.level;
    behind = ap suc (sym (dist_order cs ds ok also same gs (suc k.post))) ∙ k.behind;
    place = k.place;
  }

  -- the path
  pub passes_order : (D u : ℕ) (ss : List Stop) → Passes D cs gs u ss → Passes D ds gs u ss
  passes_order D u [] (inl (g, i, q)) = inl (g, i, same_order cs ds ok also same u g q)
  passes_order D u [] (inr (inl l)) = inr (inl (let e = dist_order cs ds ok also same gs u in omega (arith, l, e)))
  passes_order D u [] (inr (inr c)) = inr (inr (cycle_order cs ds ok also same (u ∷ []) c))
  passes_order D u (s ∷ ss) h = (
    let e = dist_order cs ds ok also same gs u in let l = h.0 in omega (arith, l, e),
    elim h.1 [ inl z ↦ inl z | inr k ↦ inr (door_order D u s k) ],
    passes_order D s.beyond ss h.2,
  )
