-- In a nice drawing a piece of a set has at most two segments, and one that is next to itself has one.
use Rattle.std.proofs.Common.{◌≡◌, ℕ, suc, ◌-◌, ◌≤◌, ◌<◌, ◌⊎◌, inl, inr, ◌≢◌, true, eqb, not, List, [], ◌∷◌, get_or, length, refl, sym, ap, subst, arith, ◌∙◌}
use Rattle.std.proofs.lemmas.Bool.{cases_eq, cases_Bool, eqb-true}
use Rattle.drawing.proofs.ChordTree.{high, ends}
use Rattle.drawing.proofs.SamePiece.{same_piece_same, same_piece_sym, same_piece_refl, first_same}
use Rattle.drawing.specs.Pieces.{piece_table, same_piece, spans, span_count, inner_pieces, pieces, segments_in, corners, is_base}
use Rattle.empty_domains.proofs.Diagram.{other_from, other_to, IsPoint, other_of, cross_next}
use Rattle.empty_domains.proofs.PieceMark.{set_mark, next_same, point_under}
use Rattle.empty_domains.proofs.Row.{IsNiceMark}
use Rattle.empty_domains.proofs.Strands.{ended_at, other_twice}
use Rattle.drawing.proofs.Boundary.{next_round}
use Rattle.hkm_diagram.proofs.ContactColumn.{mark}
use Rattle.drawing.proofs.Diagram.{is_diagram}
use Rattle.obd_base.proofs.lists.Members.{no_longer, once_filter, filter_mem, mem_filter}
use Rattle.obd_base.specs.Lists.{has, Mem, Once}
use Rattle.page_surface.specs.Drawing.{Drawing, Chord, chords, IsEmbedded}
use Rattle.region_table.specs.Nice.{IsNice}
use Rattle.drawing.proofs.Lists.{has_mem, mem_has}
use Rattle.obd_base.proofs.lists.Below.{mem_range, once_range, range_mem}

-- the inner pieces are first spans, each once
pub once_inner : (d : Drawing) → Once (inner_pieces d)
once_inner d = once_filter (λ s. not (is_base d s)) (pieces d) (once_filter (λ s. eqb (get_or (piece_table d) s 0) s) (spans d) (once_range 0 (span_count d)))

-- an inner piece is named by its first span
pub inner_first : (d : Drawing) (s : ℕ) → Mem s (inner_pieces d) → (get_or (piece_table d) s 0 ≡ s) × (s < span_count d) × (not (is_base d s) ≡ true)
inner_first d s m =
    let (k, b) = mem_filter (λ s. not (is_base d s)) s (pieces d) m in
    let (r, e) = mem_filter (λ s. eqb (get_or (piece_table d) s 0) s) s (spans d) k in
    (eqb-true _ _ e, omega (arith, mem_range 0 (span_count d) s r), b)

module _ (d : Drawing) (ok : IsEmbedded d) (set : List ℕ) (inner : (s : ℕ) → has set s ≡ true → has (inner_pieces d) s ≡ true) where
  -- a marked span lies in a piece of the set
  pub marked_piece : (s : ℕ) → mark d set s ≡ 1 → has set (get_or (piece_table d) s 0) ≡ true
  marked_piece s e = elim (cases_Bool (has set (get_or (piece_table d) s 0))) [
    | inl q ↦ q
    | inr q ↦ absurd (let z : mark d set s ≡ 0 = rw q refl in omega arith)
  ]

  -- a marked span ends at a point
  pub marked_is_point : (s : ℕ) → mark d set s ≡ 1 → IsPoint d s
  marked_is_point s e = let (x, q, c) = (set_mark d ok set inner).inner s e in subst (λ n. IsPoint d n) (sym q) (cross_next d ok x c)

  -- and is one of the place order
  pub marked_under : (s : ℕ) → mark d set s ≡ 1 → s < span_count d
  marked_under s e = let l = point_under d ok s (marked_is_point s e) in omega arith

  -- a span of one piece with a marked one is a segment of its piece
  pub segment : (s z : ℕ) → mark d set s ≡ 1 → same_piece (chords d) s z ≡ true → z < span_count d → Mem z (segments_in d (get_or (piece_table d) s 0))
  segment s z e h l =
      let t = get_or (piece_table d) s 0 in
      let first = first_same d s (marked_under s e) in
      let q : same_piece (chords d) t z ≡ true = sym (same_piece_same (chords d) s t z first) ∙ h in
      filter_mem (same_piece (chords d) t) z (spans d) (range_mem 0 (span_count d) z (omega arith) (omega arith)) q

  -- the next span of its piece is marked
  pub next_marked : (s : ℕ) → mark d set s ≡ 1 → mark d set (suc (other_of d s)) ≡ 1
  next_marked s e = (set_mark d ok set inner).follows s (marked_is_point s e) ∙ e

  -- the next span lies in the same piece
  pub next_in : (s : ℕ) → mark d set s ≡ 1 → same_piece (chords d) s (suc (other_of d s)) ≡ true
  next_in s e = same_piece_sym (chords d) (suc (other_of d s)) s (next_same d ok s (marked_is_point s e))

  -- a span that is next to itself is its whole piece
  pub bigon_alone : (s : ℕ) → mark d set s ≡ 1 → suc (other_of d s) ≡ s → (z : ℕ) → same_piece (chords d) s z ≡ true → z ≡ s
  bigon_alone s e q z h = let (c, i, w) = ended_at d ok s (marked_is_point s e) in within c i w z h
    where
      within : (c : Chord) → Mem c (chords d) → (c.from ≡ s) ⊎ (c.to ≡ s) → (z : ℕ) → same_piece (chords d) s z ≡ true → z ≡ s
      within c i w z h =
          let r = next_round (chords d) (is_diagram d ok) c i in
          elim w [
            | inl a ↦ (
                let o : other_of d s ≡ c.to = ap (other_of d) (sym a) ∙ other_from d ok c i in
                elim (ends c) [
                  | inl k ↦ absurd (omega (arith, k, o, q, a))
                  | inr k ↦ (let hs : high c ≡ s = k.1 ∙ a in let b = r.1 z (subst (λ n. same_piece (chords d) n z ≡ true) (sym hs) h) in omega (arith, b, hs, k, o, q))
                ])
            | inr a ↦ (
                let o : other_of d s ≡ c.from = ap (other_of d) (sym a) ∙ other_to d ok c i in
                elim (ends c) [
                  | inr k ↦ absurd (omega (arith, k, o, q, a))
                  | inl k ↦ (let hs : high c ≡ s = k.1 ∙ a in let b = r.1 z (subst (λ n. same_piece (chords d) n z ≡ true) (sym hs) h) in omega (arith, b, hs, k, o, q))
                ])
          ]

  module _ (nice : IsNice d) where
    -- the piece of a marked span has at most two segments
    pub few : (s : ℕ) → mark d set s ≡ 1 → length (segments_in d (get_or (piece_table d) s 0)) ≤ 2
    few s e =
        let t = get_or (piece_table d) s 0 in
        let z : length (segments_in d t) - 2 ≡ 0 = nice t (mem_has (inner_pieces d) t (inner t (marked_piece s e))) in
        omega arith

    -- the piece of a marked span closes up after two segments
    pub set_nice : IsNiceMark (other_of d) (mark d set)
    set_nice s e = elim (cases_eq third s) [
      | inl q ↦ q
      | inr n ↦ absurd (
          let l = no_longer (s ∷ next ∷ third ∷ []) (segments_in d (get_or (piece_table d) s 0)) (once n) in_it in
          let w : length (s ∷ next ∷ third ∷ []) ≡ 3 = refl in
          omega (arith, l, w, few s e))
    ]
      where
        next : ℕ
        next = suc (other_of d s)

        third : ℕ
        third = suc (other_of d next)

        e1 : mark d set next ≡ 1
        e1 = next_marked s e

        e2 : mark d set third ≡ 1
        e2 = next_marked next e1

        h1 : same_piece (chords d) s next ≡ true
        h1 = next_in s e

        h2 : same_piece (chords d) s third ≡ true
        h2 = same_piece_same (chords d) s next third h1 ∙ next_in next e1

        same : third ≢ s → s ≡ next → ⊥
        same n q = n (ap (λ k. suc (other_of d k)) (sym q) ∙ sym q)

        moved : third ≢ s → next ≡ third → ⊥
        moved n q =
            let o : other_of d s ≡ other_of d next = omega arith in
            same n (sym (other_twice d ok s (marked_is_point s e)) ∙ (ap (other_of d) o ∙ other_twice d ok next (marked_is_point next e1)))

        once : third ≢ s → Once (s ∷ next ∷ third ∷ [])
        once n = (
          λ m. elim m [ inl q ↦ same n q | inr k ↦ elim k [ inl q ↦ n (sym q) | inr z ↦ z ] ],
          (λ m. elim m [ inl q ↦ moved n q | inr z ↦ z ], ((λ m. m), tt)),
        )

        in_it : (z : ℕ) → Mem z (s ∷ next ∷ third ∷ []) → Mem z (segments_in d (get_or (piece_table d) s 0))
        in_it z (inl q) = subst (λ k. Mem k (segments_in d (get_or (piece_table d) s 0))) (sym q) (segment s s e (same_piece_refl (chords d) s) (marked_under s e))
        in_it z (inr (inl q)) = subst (λ k. Mem k (segments_in d (get_or (piece_table d) s 0))) (sym q) (segment s next e h1 (marked_under next e1))
        in_it z (inr (inr (inl q))) = subst (λ k. Mem k (segments_in d (get_or (piece_table d) s 0))) (sym q) (segment s third e h2 (marked_under third e2))
        in_it z (inr (inr (inr q))) = absurd q

    -- a piece has at most four corners
    pub few_corners : (t : ℕ) → Mem t set → corners d t ≤ 4
    few_corners t m =
        let z : length (segments_in d t) - 2 ≡ 0 = nice t (mem_has (inner_pieces d) t (inner t (has_mem set t m))) in
        omega arith

    -- a piece that is next to itself has two corners
    pub bigon_corners : (s : ℕ) → mark d set s ≡ 1 → suc (other_of d s) ≡ s → corners d (get_or (piece_table d) s 0) ≤ 2
    bigon_corners s e q =
        let t = get_or (piece_table d) s 0 in
        let l = no_longer (segments_in d t) (s ∷ []) (once_filter (same_piece (chords d) t) (spans d) (once_range 0 (span_count d))) alone in
        let w : length (s ∷ []) ≡ 1 = refl in
        omega (arith, l, w)
      where
        alone : (z : ℕ) → Mem z (segments_in d (get_or (piece_table d) s 0)) → Mem z (s ∷ [])
        alone z m =
            let t = get_or (piece_table d) s 0 in
            let h = (mem_filter (same_piece (chords d) t) z (spans d) m).1 in
            inl (bigon_alone s e q z (same_piece_same (chords d) s t z (first_same d s (marked_under s e)) ∙ h))
