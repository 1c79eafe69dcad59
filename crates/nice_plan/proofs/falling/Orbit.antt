-- Every piece but that of a number past all ends is a cycle: going on from a span, one comes back to it.
use Rattle.std.proofs.Common.{◌≡◌, ℕ, zero, suc, ◌+◌, ◌<◌, ◌≤◌, true, false, ltb, List, [], ◌∷◌, ◌++◌, length, refl, sym, ◌∙◌, ap, subst, arith, ◌⊎◌, inl, inr, ◌≢◌}
use Rattle.std.specs.List.{range_with_len}
use Rattle.std.proofs.lemmas.Bool.{cases_eq, cases_lt, lt-ltb, true≢false}
use Rattle.std.proofs.lemmas.List.{length-append}
use Rattle.std.proofs.lemmas.List.FromFn.{length-range_with_len}
use Rattle.obd_base.specs.Lists.{Mem, Once}
use Rattle.obd_base.proofs.lists.Members.{mem_append, mem_right, no_longer}
use Rattle.page_surface.specs.Drawing.{Chord, differ}
use Rattle.drawing.specs.Pieces.{same_piece}
use Rattle.drawing.specs.Round.{other_end}
use Rattle.drawing.proofs.ChordTree.{same_from_each}
use Rattle.drawing.proofs.SamePiece.{same_piece_refl}
use Rattle.drawing.proofs.fingers.Arranged.{Arranged}
use Rattle.finger_move.proofs.PushedNext.{next, other_twice}
use Rattle.finger_move.proofs.Walk.{next_same}
use Rattle.obd_base.proofs.lists.Below.{range_mem}
use Rattle.finger_move.proofs.Cycles.{IsCycle, Leads, head_or, leads_append, head_or_append, cycle_same, same_trans}
use Rattle.obd_base.proofs.lists.Parts.{once_append}

-- a gap `top` past all ends, below N
pub record Framed (cs : List Chord) (gs : List ℕ) (N : ℕ) : Type 0 where
  pub top : ℕ
  pub is_gap : Mem top gs
  pub ends : (c : Chord) → Mem c cs → (c.from < top) × (c.to < top)
  pub within : top < N

-- the last of some spans, or what leads into them, is followed by x
leads_from : (f : ℕ → ℕ) (ws : List ℕ) (l x : ℕ) → Leads f ws l → Mem x (ws ++ (l ∷ [])) → (head_or ws l ≡ x) ⊎ ((y : ℕ) × Mem y ws × (f y ≡ x))
leads_from f [] l x h (inl q) = inl (sym q)
leads_from f [] l x h (inr m) = absurd m
leads_from f (w ∷ ws) l x h (inl q) = inl (sym q)
leads_from f (w ∷ ws) l x h (inr m) = elim (leads_from f ws l x h.1 m) [
  | inl q ↦ inr (w, inl refl, h.0 ∙ q)
  | inr v ↦ (let (y, i, q) = v in inr (y, inr i, q))
]

once_last : (ws : List ℕ) (l : ℕ) → Once (ws ++ (l ∷ [])) → Mem l ws → ⊥
once_last [] l o m = m
once_last (w ∷ ws) l o (inl q) = o.0 (subst (λ v. Mem v (ws ++ (l ∷ []))) q (mem_right l ws (l ∷ []) (inl refl)))
once_last (w ∷ ws) l o (inr m) = once_last ws l o.1 m

module _ (cs : List Chord) (ok : Arranged cs) (top : ℕ) (ends : (c : Chord) → Mem c cs → (c.from < top) × (c.to < top)) where
  -- what comes after the last gap lies with it
  pub past_top : (z : ℕ) → top ≤ z → same_piece cs z top ≡ true
  past_top z l = same_from_each cs z top (λ c i. let e = ends c i in
      let a : ltb c.from z ≡ ltb c.from top = lt-ltb c.from z (omega (arith, e, l)) ∙ sym (lt-ltb c.from top e.0) in
      let b : ltb c.to z ≡ ltb c.to top = lt-ltb c.to z (omega (arith, e, l)) ∙ sym (lt-ltb c.to top e.1) in
      ap (λ p. differ p (ltb c.to z)) a ∙ ap (λ q. differ (ltb c.from top) q) b)

  next_apart : (x y : ℕ) → next cs x ≡ next cs y → x ≡ y
  next_apart x y q = sym (other_twice cs ok x) ∙ ap (other_end cs) (let e : other_end cs x ≡ other_end cs y = omega (arith, q) in e) ∙ other_twice cs ok y

  module _ (s : ℕ) (inner : same_piece cs s top ≡ false) where
    below_top : (z : ℕ) → same_piece cs s z ≡ true → z < top
    below_top z h = elim (cases_lt z top) [
      | inl l ↦ l
      | inr l ↦ absurd (true≢false (sym (same_trans cs s z top h (past_top z l)) ∙ inner))
    ]

    -- the span after the last one is the first, or a new one
    fresh : (ws : List ℕ) (l : ℕ) → Leads (next cs) ws l → Once (ws ++ (l ∷ [])) → head_or ws l ≡ s → next cs l ≢ s → Mem (next cs l) (ws ++ (l ∷ [])) → ⊥
    fresh ws l leads once starts q m = elim (leads_from (next cs) ws l (next cs l) leads m) [
      | inl e ↦ q (sym e ∙ starts)
      | inr v ↦ (let (y, i, e) = v in once_last ws l once (subst (λ w. Mem w ws) (next_apart y l e) i))
    ]

    head_in : (ws : List ℕ) (l : ℕ) → head_or ws l ≡ s → Mem s (ws ++ (l ∷ []))
    head_in [] l q = inl (sym q)
    head_in (w ∷ ws) l q = inl (sym q)

    orbit : (n : ℕ) (ws : List ℕ) (l : ℕ) → length ws + n ≡ top → Leads (next cs) ws l → Once (ws ++ (l ∷ [])) → head_or ws l ≡ s
        → ((z : ℕ) → Mem z (ws ++ (l ∷ [])) → same_piece cs s z ≡ true) → (xs : List ℕ) × IsCycle (next cs) xs × Mem s xs
    orbit zero ws l size leads once starts inside = absurd (
        let small = no_longer (ws ++ (l ∷ [])) (range_with_len 0 top) once (λ z m. range_mem 0 top z (omega arith) (let b = below_top z (inside z m) in omega (arith, b))) in
        let v : ⊥ = omega (arith, small, length-append ws (l ∷ []), length-range_with_len 0 top, size) in v)
    orbit (suc n) ws l size leads once starts inside = elim (cases_eq (next cs l) s) [
      | inl q ↦ (
        ws ++ (l ∷ []),
        record { leads = subst (λ v. Leads (next cs) (ws ++ (l ∷ [])) v) (sym (head_or_append ws (l ∷ []) 0 ∙ starts)) (leads_append (next cs) ws (l ∷ []) s leads (q, tt)); once = once },
        head_in ws l starts,
      )
      | inr q ↦ orbit n (ws ++ (l ∷ [])) (next cs l) (omega (arith, size, length-append ws (l ∷ [])))
          (leads_append (next cs) ws (l ∷ []) (next cs l) leads (refl, tt))
          (once_append (ws ++ (l ∷ [])) (next cs l ∷ []) once (λ m. m, tt) (λ z m i. elim i [ inl e ↦ fresh ws l leads once starts q (subst (λ w. Mem w (ws ++ (l ∷ []))) e m) | inr i ↦ i ]))
          (head_or_append ws (l ∷ []) (next cs l) ∙ starts)
          (λ z m. elim (mem_append z (ws ++ (l ∷ [])) (next cs l ∷ []) m) [
            | inl i ↦ inside z i
            | inr i ↦ elim i [ inl e ↦ subst (λ w. same_piece cs s w ≡ true) (sym e) (same_trans cs s l (next cs l) (inside l (mem_right l ws (l ∷ []) (inl refl))) (next_same cs ok l)) | inr i ↦ absurd i ]
          ])
    ]

    -- each other span lies in a circle
    pub cycle_of : (xs : List ℕ) × IsCycle (next cs) xs × Mem s xs
    cycle_of = orbit top [] s (omega arith) tt (λ m. m, tt) refl (λ z m. elim m [ inl q ↦ subst (λ w. same_piece cs s w ≡ true) (sym q) (same_piece_refl cs s) | inr m ↦ absurd m ])

    -- all its spans lie below the gap
    pub cycle_below : (xs : List ℕ) → IsCycle (next cs) xs → Mem s xs → (z : ℕ) → Mem z xs → z < top
    cycle_below xs k m z i = below_top z (cycle_same cs ok xs k s z m i)
