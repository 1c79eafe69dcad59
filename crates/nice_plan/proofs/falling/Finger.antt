-- One finger: what becomes of the list of all pieces but the base ones.
use Rattle.std.proofs.Common.{◌≡◌, ℕ, zero, suc, ◌<◌, ◌≤◌, Bool, true, false, List, [], ◌∷◌, ◌++◌, map, refl, sym, ◌∙◌, ap, subst, arith, ◌⊎◌, inl, inr, ◌≢◌}
use Rattle.std.proofs.lemmas.Bool.{true≢false}
use Rattle.obd_base.specs.Lists.{Mem}
use Rattle.obd_base.proofs.lists.Members.{mem_append, mem_left, mem_map, mem_right, mem_to_map}
use Rattle.page_surface.specs.Drawing.{Chord}
use Rattle.drawing.specs.Pieces.{same_piece}
use Rattle.drawing.proofs.SamePiece.{same_piece_sym}
use Rattle.drawing.proofs.fingers.Shift.{shift, early, shift_new, shift_swap}
use Rattle.drawing.proofs.fingers.Arranged.{Arranged}
use Rattle.drawing.proofs.fingers.Finger.{pushed, turn, new_apart}
use Rattle.drawing.proofs.fingers.OneEffect.{IsOpen}
use Rattle.finger_move.proofs.PushedNext.{next, near}
use Rattle.finger_move.proofs.Cycles.{IsCycle, cycle_same, cycle_whole, same_trans}
use Rattle.finger_move.proofs.Spread.{spread_all, spread_all_home, Home}
use Rattle.finger_move.proofs.Homes.{old_same, old_early, new_same}
use Rattle.finger_move.proofs.Kept.{middle_behind, third_beyond, tip_alone, parts_apart}
use Rattle.finger_move.proofs.Touched.{new_cases, not_same}
use Rattle.nice_plan.proofs.Pushing.{Push, others, apart, legal, arranged_after, near_outside, front_after, back_after, other_after, tip_after, swap_same, turned_arranged}
use Rattle.nice_plan.proofs.Distance.{dist, dist_same, dist_le, separated_none}
use Rattle.nice_plan.proofs.Nearer.{dist_base}
use Rattle.nice_plan.proofs.Farther.{mem_shift}
use Rattle.nice_plan.proofs.NoNearer.{no_nearer}
use Rattle.nice_plan.proofs.Ledger.{Piece, spread_piece}
use Rattle.nice_plan.proofs.falling.Tally.{Tally, AtBase, Disjoint, Rest, rest_of, tally_order}
use Rattle.nice_plan.proofs.falling.Spans.{spread_has, spread_early, spread_late}

-- the spans of the first part
abbrev pub front_of : ℕ → ℕ → List ℕ → List ℕ
front_of t u xs = map (shift t u) xs ++ (early t u ∷ [])

-- and of the second
abbrev pub back_of : ℕ → ℕ → List ℕ → List ℕ
back_of t u ys = map (shift t u) (t ∷ ys)

-- a piece with a label
abbrev pub piece : List ℕ → ℕ → Piece
piece zs l = record { spans = zs; label = l }

-- the two parts of the split piece with labels, the tip, and the other pieces
abbrev pub listed : ℕ → ℕ → ℕ → List ℕ → List ℕ → ℕ → ℕ → List Piece → List Piece
listed t u x xs ys l m rest = piece (front_of t u xs) l ∷ piece (back_of t u ys) m ∷ piece (suc (early u t) ∷ []) 0 ∷ map (spread_piece t u x) rest

module _ (D t u : ℕ) (out : Bool) (c : Chord) (es : List Chord) (xs ys : List ℕ) (push : Push t u out c es xs ys)
    (gs : List ℕ) (h : ℕ) (some : Mem h gs) (ps : List Piece) (tally : Tally D (c ∷ es) gs ps) (p : Piece) (pin : Mem p ps) (tin : Mem t p.spans) where
  abbrev old : List Chord
  old = c ∷ es

  abbrev new : List Chord
  new = pushed t u out c es

  abbrev x : ℕ
  x = near out c

  abbrev before : ℕ → ℕ
  before s = dist old gs s

  abbrev after : ℕ → ℕ
  after s = dist new (map (shift t u) gs) s

  abbrev whole : List ℕ
  whole = xs ++ (t ∷ ys)

  ok : Arranged old
  ok = push.arranged

  -- the entered segment is not glued to itself
  pub ne : t ≢ u
  ne = apart t u out c es xs ys push

  -- the finger has no crossing
  pub opens : IsOpen t out c es
  opens = legal t u out c es xs ys push

  t_in : Mem t whole
  t_in = mem_right t xs (t ∷ ys) (inl refl)

  -- the segment is not glued to one of its own piece
  pub loop : same_piece old t u ≡ false
  loop = not_same old t u (λ q. push.outside (cycle_whole old ok whole push.cycle t u t_in q))

  -- the pieces but the split one
  pub r : Rest ps p
  r = rest_of ps p pin tally.apart

  -- the spans of the split piece as they are listed
  pub in_whole : (z : ℕ) → Mem z p.spans → Mem z whole
  in_whole z m = cycle_whole old ok whole push.cycle t z t_in (cycle_same old ok p.spans (tally.cycles p pin) t z tin m)

  -- and the other way
  pub in_piece : (z : ℕ) → Mem z whole → Mem z p.spans
  in_piece z m = cycle_whole old ok p.spans (tally.cycles p pin) t z tin (cycle_same old ok whole push.cycle t z t_in m)

  -- the other pieces are not split
  pub not_split : (q : Piece) → Mem q r.rest → (z : ℕ) → Mem z q.spans → same_piece old z t ≡ false
  not_split q m z i = not_same old z t (λ k. r.apart q m z (cycle_whole old ok p.spans (tally.cycles p pin) t z tin (same_piece_sym old z t k)) i)

  -- no piece that is not split comes nearer
  pub lower : (z s : ℕ)
      → (z ≡ shift t u s) ⊎ (((z ≡ early t u) × (s ≡ t)) ⊎ (((z ≡ suc (early t u)) × (s ≡ x)) ⊎ (((z ≡ early u t) × (s ≡ u)) ⊎ ((z ≡ suc (early u t)) × (s ≡ u)))))
      → before s ≤ after z
  lower z s f = no_nearer t u out c es ne ok opens loop gs h some (after z) z s f refl

  t_far : 0 < before t
  t_far = tally.inner p pin t tin

  base_away : (z : ℕ) → AtBase old gs z → same_piece old z t ≡ false
  base_away z (g, i, q) = not_same old z t (λ k.
      absurd {A = ⊥} (omega (arith, t_far, dist_same old gs z t k, dist_le old gs z g i, separated_none old z g q)))

  base_after : (z : ℕ) → AtBase old gs z → AtBase new (map (shift t u) gs) (shift t u z)
  base_after z (g, i, q) = (shift t u g, mem_shift t u g gs i, new_same t u out c es ne ok opens z g q (base_away z (g, i, q)))

  base_moved : (w z : ℕ) → same_piece new w z ≡ true → AtBase new (map (shift t u) gs) z → AtBase new (map (shift t u) gs) w
  base_moved w z k (g, i, q) = (g, i, same_trans new w z g k q)

  tip_far : 0 < after (suc (early u t))
  tip_far = go (after (suc (early u t))) refl
    where
      go : (n : ℕ) → after (suc (early u t)) ≡ n → 0 < after (suc (early u t))
      go (suc n) e = omega (arith, e)
      go zero e =
          let (g, i, q) = dist_base new (arranged_after t u out c es xs ys push) (map (shift t u) gs) (shift t u h) (mem_shift t u h gs some) (suc (early u t)) e in
          let (k, j, w) = mem_map (shift t u) g gs i in
          let a = tip_alone t u out c es ne ok opens loop g q in
          absurd ((shift_new u t k).1 (sym (shift_swap t u k) ∙ sym w ∙ a))

  front_from : (z : ℕ) → Mem z (front_of t u xs) → (z ≡ early t u) ⊎ ((s : ℕ) × Mem s whole × (z ≡ shift t u s))
  front_from z m = elim (mem_append z (map (shift t u) xs) (early t u ∷ []) m) [
    | inl i ↦ (let (s, j, q) = mem_map (shift t u) z xs i in inr (s, mem_left s xs (t ∷ ys) j, q))
    | inr i ↦ elim i [ inl q ↦ inl q | inr i ↦ absurd i ]
  ]

  back_from : (z : ℕ) → Mem z (back_of t u ys) → (s : ℕ) × Mem s whole × (z ≡ shift t u s)
  back_from z m = let (s, j, q) = mem_map (shift t u) z (t ∷ ys) m in (s, mem_right s xs (t ∷ ys) j, q)

  -- the other pieces afterwards
  pub rest_from : (q : Piece) → Mem q (map (spread_piece t u x) r.rest) → (o : Piece) × Mem o r.rest × (q ≡ spread_piece t u x o)
  rest_from q m = mem_map (spread_piece t u x) q r.rest m

  home_from : (z s : ℕ) → Home t u x z s → before s ≤ after z
  home_from z s (inl q) = lower z s (inl q)
  home_from z s (inr (inl q)) = lower z s (inr (inr (inr (inl (q.1, q.0)))))
  home_from z s (inr (inr q)) = lower z s (inr (inr (inl (q.1, q.0))))

  -- they are circles
  pub spread_cycle : (o : Piece) → Mem o r.rest → IsCycle (next new) (spread_all t u x o.spans)
  spread_cycle o m = other_after t u out c es xs ys push o.spans (tally.cycles o (r.into o m)) (λ i. r.apart o m t tin i)

  arranged : Arranged new
  arranged = arranged_after t u out c es xs ys push

  front_cycle : IsCycle (next new) (front_of t u xs)
  front_cycle = front_after t u out c es xs ys push

  back_cycle : IsCycle (next new) (back_of t u ys)
  back_cycle = back_after t u out c es xs ys push

  -- the first part lies in one piece
  pub front_same : (z : ℕ) → Mem z (front_of t u xs) → same_piece new z (early t u) ≡ true
  front_same z m = cycle_same new arranged (front_of t u xs) front_cycle z (early t u) m (mem_right (early t u) (map (shift t u) xs) (early t u ∷ []) (inl refl))

  -- the second part too
  pub back_same : (z : ℕ) → Mem z (back_of t u ys) → same_piece new z (shift t u t) ≡ true
  back_same z m = cycle_same new arranged (back_of t u ys) back_cycle z (shift t u t) m (inl refl)

  -- and so does each other piece
  pub rest_same : (o : Piece) → Mem o r.rest → (z s : ℕ) → Mem z (spread_all t u x o.spans) → Mem s o.spans → same_piece new z (shift t u s) ≡ true
  rest_same o m z s i j = cycle_same new arranged (spread_all t u x o.spans) (spread_cycle o m) z (shift t u s) i (spread_has t u x s o.spans j)

  not_tip : (s : ℕ) → shift t u s ≡ suc (early u t) → ⊥
  not_tip s q = (shift_new u t s).1 (sym (shift_swap t u s) ∙ q)

  -- a span of a piece that isn't split lies in neither part, nor is it the tip
  pub not_front : (z s : ℕ) → same_piece old s t ≡ false → same_piece new z (shift t u s) ≡ true → Mem z (front_of t u xs) → ⊥
  not_front z s n k m = two (same_piece_sym old t s (old_early t u out c es s (same_trans new _ _ _ (same_piece_sym new _ _ (front_same z m)) k))) n
    where
      two : same_piece old s t ≡ true → same_piece old s t ≡ false → ⊥
      two a b = true≢false (sym a ∙ b)

  -- nor in the second part
  pub not_back : (z s : ℕ) → same_piece old s t ≡ false → same_piece new z (shift t u s) ≡ true → Mem z (back_of t u ys) → ⊥
  not_back z s n k m = two (old_same t u out c es s t (same_trans new _ _ _ (same_piece_sym new _ _ k) (back_same z m))) n
    where
      two : same_piece old s t ≡ true → same_piece old s t ≡ false → ⊥
      two a b = true≢false (sym a ∙ b)

  -- nor at the tip
  pub not_tips : (z s : ℕ) → same_piece new z (shift t u s) ≡ true → z ≢ suc (early u t)
  not_tips z s k q = not_tip s (tip_alone t u out c es ne ok opens loop (shift t u s) (subst (λ w. same_piece new w (shift t u s) ≡ true) q k))

  home_of : (o : Piece) (z : ℕ) → Mem z (spread_all t u x o.spans) → (s : ℕ) × Mem s o.spans × Home t u x z s
  home_of o z i = spread_all_home t u x z o.spans i

  -- their old spans are where they were
  pub unspread : (o : Piece) → Mem o r.rest → (z : ℕ) → Mem (shift t u z) (spread_all t u x o.spans) → Mem z o.spans
  unspread o j z i =
      let (s, sm, sh) = home_of o (shift t u z) i in
      cycle_whole old ok o.spans (tally.cycles o (r.into o j)) s z sm (old_same t u out c es s z (same_piece_sym new _ _ (rest_same o j (shift t u z) s i sm)))

  module _ (l m : ℕ) where
    abbrev list : List Piece
    list = listed t u x xs ys l m r.rest

    rests_apart : (qs : List Piece) → Disjoint qs → ((q : Piece) → Mem q qs → Mem q r.rest) → Disjoint (map (spread_piece t u x) qs)
    rests_apart [] d into = tt
    rests_apart (q ∷ qs) d into = (
      λ w i z a b.
          let (o, j, e) = mem_map (spread_piece t u x) w qs i in
          let b' : Mem z (spread_all t u x o.spans) = subst (λ (v : Piece). Mem z v.spans) e b in
          let (s, sm, sh) = home_of q z a in
          let (v, vm, vh) = home_of o z b' in
          let k = old_same t u out c es s v (same_trans new _ _ _ (same_piece_sym new _ _ (rest_same q (into q (inl refl)) z s a sm)) (rest_same o (into o (inr j)) z v b' vm)) in
          d.0 o j v (cycle_whole old ok q.spans (tally.cycles q (r.into q (into q (inl refl)))) s v sm k) vm,
      rests_apart qs d.1 (λ w i. into w (inr i)),
    )

    -- no span lies in two of the pieces
    pub list_apart : Disjoint list
    list_apart = (
      λ q i z a b. elim i [
        | inl e ↦ parts_apart t u out c es ne ok opens loop (same_trans new _ _ _ (same_piece_sym new _ _ (front_same z a)) (back_same z (subst (λ (w : Piece). Mem z w.spans) e b)))
        | inr i ↦ elim i [
          | inl e ↦ elim (let b' : Mem z (suc (early u t) ∷ []) = subst (λ (w : Piece). Mem z w.spans) e b in b') [
            | inl w ↦ (new_apart t u ne).1 (tip_alone t u out c es ne ok opens loop (early t u) (subst (λ v. same_piece new v (early t u) ≡ true) w (front_same z a)))
            | inr w ↦ w
          ]
          | inr i ↦ (let (o, j, e) = rest_from q i in
              let b' : Mem z (spread_all t u x o.spans) = subst (λ (v : Piece). Mem z v.spans) e b in
              let (s, sm, sh) = home_of o z b' in
              not_front z s (not_split o j s sm) (rest_same o j z s b' sm) a)
        ]
      ],
      (
        λ q i z a b. elim i [
          | inl e ↦ elim (let b' : Mem z (suc (early u t) ∷ []) = subst (λ (w : Piece). Mem z w.spans) e b in b') [
            | inl w ↦ not_tips z t (back_same z a) w
            | inr w ↦ w
          ]
          | inr i ↦ (let (o, j, e) = rest_from q i in
              let b' : Mem z (spread_all t u x o.spans) = subst (λ (v : Piece). Mem z v.spans) e b in
              let (s, sm, sh) = home_of o z b' in
              not_back z s (not_split o j s sm) (rest_same o j z s b' sm) a)
        ],
        (
          λ q i z a b. elim a [
            | inl w ↦ (let (o, j, e) = rest_from q i in
                let b' : Mem z (spread_all t u x o.spans) = subst (λ (v : Piece). Mem z v.spans) e b in
                let (s, sm, sh) = home_of o z b' in
                not_tips z s (rest_same o j z s b' sm) w)
            | inr w ↦ w
          ],
          rests_apart r.rest r.disjoint (λ q i. i),
        ),
      ),
    )

    -- all are circles
    pub list_cycles : (q : Piece) → Mem q list → IsCycle (next new) q.spans
    list_cycles q (inl e) = subst (λ (w : Piece). IsCycle (next new) w.spans) (sym e) front_cycle
    list_cycles q (inr (inl e)) = subst (λ (w : Piece). IsCycle (next new) w.spans) (sym e) back_cycle
    list_cycles q (inr (inr (inl e))) = subst (λ (w : Piece). IsCycle (next new) w.spans) (sym e) (tip_after t u out c es xs ys push)
    list_cycles q (inr (inr (inr i))) = let (o, j, e) = rest_from q i in subst (λ (w : Piece). IsCycle (next new) w.spans) (sym e) (spread_cycle o j)

    -- the other pieces are listed
    pub in_rest : (o : Piece) → Mem o r.rest → Mem (spread_piece t u x o) list
    in_rest o j = inr (inr (inr (mem_to_map (spread_piece t u x) o r.rest j)))

    list_covers : (z : ℕ) → AtBase new (map (shift t u) gs) z ⊎ ((q : Piece) × Mem q list × Mem z q.spans)
    list_covers z = elim (new_cases t u ne z) [
      | inl w ↦ (let (s, e) = w in subst (λ v. AtBase new (map (shift t u) gs) v ⊎ ((q : Piece) × Mem q list × Mem v q.spans)) (sym e) (carried s))
      | inr w ↦ elim w [
        | inl e ↦ inr (piece (front_of t u xs) l, inl refl, subst (λ v. Mem v (front_of t u xs)) (sym e) (mem_right (early t u) (map (shift t u) xs) (early t u ∷ []) (inl refl)))
        | inr w ↦ elim w [
          | inl e ↦ subst (λ v. AtBase new (map (shift t u) gs) v ⊎ ((q : Piece) × Mem q list × Mem v q.spans)) (sym e) (elim (tally.covers x) [
            | inl b ↦ inl (base_moved (suc (early t u)) (shift t u x) (same_piece_sym new _ _ (middle_behind t u out c es ne ok opens loop)) (base_after x b))
            | inr b ↦ (let (q, i, n) = b in elim (r.from q i) [
              | inl k ↦ absurd (near_outside t u out c es xs ys push (in_whole x (subst (λ (v : Piece). Mem x v.spans) k n)))
              | inr j ↦ inr (spread_piece t u x q, in_rest q j, spread_late t u x q.spans n)
            ])
          ])
          | inr w ↦ elim w [
            | inl e ↦ subst (λ v. AtBase new (map (shift t u) gs) v ⊎ ((q : Piece) × Mem q list × Mem v q.spans)) (sym e) (elim (tally.covers u) [
              | inl b ↦ inl (base_moved (early u t) (shift t u u) (third_beyond t u out c es ne ok opens loop) (base_after u b))
              | inr b ↦ (let (q, i, n) = b in elim (r.from q i) [
                | inl k ↦ absurd (push.outside (in_whole u (subst (λ (v : Piece). Mem u v.spans) k n)))
                | inr j ↦ inr (spread_piece t u x q, in_rest q j, spread_early t u x q.spans n)
              ])
            ])
            | inr e ↦ inr (piece (suc (early u t) ∷ []) 0, inr (inr (inl refl)), inl e)
          ]
        ]
      ]
    ]
      where
        carried : (s : ℕ) → AtBase new (map (shift t u) gs) (shift t u s) ⊎ ((q : Piece) × Mem q list × Mem (shift t u s) q.spans)
        carried s = elim (tally.covers s) [
          | inl b ↦ inl (base_after s b)
          | inr b ↦ (let (q, i, n) = b in elim (r.from q i) [
            | inl k ↦ elim (mem_append s xs (t ∷ ys) (in_whole s (subst (λ (v : Piece). Mem s v.spans) k n))) [
              | inl j ↦ inr (piece (front_of t u xs) l, inl refl, mem_left (shift t u s) (map (shift t u) xs) (early t u ∷ []) (mem_to_map (shift t u) s xs j))
              | inr j ↦ inr (piece (back_of t u ys) m, inr (inl refl), mem_to_map (shift t u) s (t ∷ ys) j)
            ]
            | inr j ↦ inr (spread_piece t u x q, in_rest q j, spread_has t u x s q.spans n)
          ])
        ]

    list_inner : (q : Piece) → Mem q list → (z : ℕ) → Mem z q.spans → 0 < after z
    list_inner q (inl e) z i = elim (front_from z (subst (λ (w : Piece). Mem z w.spans) e i)) [
      | inl k ↦ (let a = lower z t (inr (inl (k, refl))) in omega (arith, a, t_far))
      | inr w ↦ (let (s, j, k) = w in let a = lower z s (inl k) in let b = tally.inner p pin s (in_piece s j) in omega (arith, a, b))
    ]
    list_inner q (inr (inl e)) z i = let (s, j, k) = back_from z (subst (λ (w : Piece). Mem z w.spans) e i) in
        let a = lower z s (inl k) in let b = tally.inner p pin s (in_piece s j) in omega (arith, a, b)
    list_inner q (inr (inr (inl e))) z i = elim (let i' : Mem z (suc (early u t) ∷ []) = subst (λ (w : Piece). Mem z w.spans) e i in i') [
      | inl k ↦ subst (λ v. 0 < after v) (sym k) tip_far
      | inr k ↦ absurd k
    ]
    list_inner q (inr (inr (inr i))) z n =
        let (o, j, e) = rest_from q i in
        let (s, sm, sh) = home_of o z (subst (λ (w : Piece). Mem z w.spans) e n) in
        let a = home_from z s sh in let b = tally.inner o (r.into o j) s sm in omega (arith, a, b)

    module _ (keep : (z : ℕ) → before z ≤ D → same_piece old z t ≡ false → after (shift t u z) ≡ before z)
        (front_label : (l ≡ 0) ⊎ ((l ≡ after (early t u)) × (l ≤ D))) (back_label : (m ≡ 0) ⊎ ((m ≡ after (shift t u t)) × (m ≤ D))) where
      list_labelled : (q : Piece) → Mem q list → (z : ℕ) → Mem z q.spans → (q.label ≡ 0) ⊎ ((q.label ≡ after z) × (q.label ≤ D))
      list_labelled q (inl e) z i = subst (λ (w : Piece). (w.label ≡ 0) ⊎ ((w.label ≡ after z) × (w.label ≤ D))) (sym e) (elim front_label [
        | inl k ↦ inl k
        | inr k ↦ inr (k.0 ∙ sym (dist_same new (map (shift t u) gs) _ _ (front_same z (subst (λ (w : Piece). Mem z w.spans) e i))), k.1)
      ])
      list_labelled q (inr (inl e)) z i = subst (λ (w : Piece). (w.label ≡ 0) ⊎ ((w.label ≡ after z) × (w.label ≤ D))) (sym e) (elim back_label [
        | inl k ↦ inl k
        | inr k ↦ inr (k.0 ∙ sym (dist_same new (map (shift t u) gs) _ _ (back_same z (subst (λ (w : Piece). Mem z w.spans) e i))), k.1)
      ])
      list_labelled q (inr (inr (inl e))) z i = inl (ap (λ (w : Piece). w.label) e)
      list_labelled q (inr (inr (inr i))) z n =
          let (o, j, e) = rest_from q i in
          let n' : Mem z (spread_all t u x o.spans) = subst (λ (w : Piece). Mem z w.spans) e n in
          let (s, sm, sh) = home_of o z n' in
          subst (λ (w : Piece). (w.label ≡ 0) ⊎ ((w.label ≡ after z) × (w.label ≤ D))) (sym e) (elim (tally.labelled o (r.into o j) s sm) [
            | inl k ↦ inl k
            | inr k ↦ inr (k.0 ∙ sym (dist_same new (map (shift t u) gs) _ _ (rest_same o j z s n' sm) ∙ keep s (subst (λ w. w ≤ D) k.0 k.1) (not_split o j s sm)), k.1)
          ])

      -- the list is one of all pieces
      pub tally_after : Tally D (turn t u out ∷ others t u out c es) (map (shift t u) gs) list
      tally_after = tally_order D new (turn t u out ∷ others t u out c es) (map (shift t u) gs) list arranged (turned_arranged t u out c es xs ys push) (swap_same _ _ _)
          (record { cycles = list_cycles; apart = list_apart; covers = list_covers; inner = list_inner; labelled = list_labelled })
