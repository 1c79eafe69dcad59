-- The pieces of the identity drawing: a bigon at the end of each side, and one base piece.
use Rattle.std.proofs.Common.{◌≡◌, ℕ, zero, suc, ◌+◌, ◌*◌, ◌/◌, ◌%◌, ◌<◌, ◌≤◌, Bool, true, false, not, eqb, List, [], ◌∷◌, get_or, map, subst, refl, sym, ◌∙◌, ap, arith, zero-add, add-zero, le_refl, ◌⊎◌, inl, inr, ◌≢◌}
use Rattle.std.specs.List.{count_by, list_any, sum_by, range_with_len}
use Rattle.std.proofs.lemmas.Bool.{cases_eq, cases_lt, eq-eqb, false≢true, false_from_ne_true, lt-ltb, le-ltb, not_from_true}
use Rattle.std.proofs.lemmas.List.Folds.{list_any_at}
use Rattle.std.proofs.lemmas.List.Sums.{sum_by-cons, length-filter}
use Rattle.std.proofs.lemmas.List.FromFn.{get_or-map-range_with_len, length-map-range_with_len}
use Rattle.obd_base.specs.Lists.{Mem, below}
use Rattle.obd_base.proofs.lists.Below.{below_mem, mem_below}
use Rattle.obd_base.proofs.lists.Counts.{count_one}
use Rattle.obd_base.proofs.lists.Members.{filter_mem, mem_filter}
use Rattle.page_surface.specs.Polygon.{Polygon, IsPolygon, arc, arc_count, first_side, second_side, sides}
use Rattle.page_surface.specs.Drawing.{Chord, Drawing, beyond, chords, exit, identity, offset, points_on, spot, strand_chords}
use Rattle.drawing.specs.Pieces.{badness, corners, gap, gaps, inner_pieces, is_base, piece_table, pieces, same_piece, separates, span_count, spans}
use Rattle.drawing.proofs.ChordTree.{any_in, same_from_each}
use Rattle.drawing.proofs.Lists.{flat_mem, mem_flat}
use Rattle.drawing.proofs.SamePiece.{first_same, same_piece_refl}
use Rattle.hkm_diagram.proofs.Identity.{back, one_crossing, second_point, strand_is}

-- where no number of a range leads to one that passes, none passes
none_mapped : (test : ℕ → Bool) (g : ℕ → ℕ) (a n : ℕ) → ((i : ℕ) → i < a + n → test (g i) ≡ false) → list_any test (map g (range_with_len a n)) ≡ false
none_mapped test g a zero h = refl
none_mapped test g a (suc n) h = rw (h a (omega arith)) (none_mapped test g (a + 1) n (λ i l. h i (omega arith)))

module _ (p : Polygon) (ok : IsPolygon p) where
  abbrev pub drawing : Drawing
  drawing = identity p

  -- the number of the segment at the end of a side
  abbrev pub bigon : ℕ → ℕ
  bigon k = 3 * k + 1

  -- each side has one point
  pub one_point : (k : ℕ) → k < sides p → points_on drawing k ≡ 1
  one_point k l =
      let a = (ok.ends k l).arc_in_range in
      elim (ok.ends k l).is_end [
        | inl e ↦ ap (points_on drawing) e ∙ one_crossing p ok (arc p k) a
        | inr e ↦ ap (points_on drawing) e ∙ second_point p ok (arc p k) a
      ]

  pub second_in_range : (a : ℕ) → a < arc_count p → second_side p a < sides p
  second_in_range a l = ok.pairs.in_range _ (ok.first_in_range a l)

  -- so a side takes three numbers
  offset_is : (k : ℕ) → k ≤ sides p → offset drawing k ≡ 3 * k
  offset_is k l = go 0 k (omega arith)
    where
      go : (a n : ℕ) → a + n ≤ sides p → sum_by (λ i. points_on drawing i + 2) (range_with_len a n) ≡ 3 * n
      go a zero h = refl
      go a (suc n) h =
          let c = sum_by-cons (λ i. points_on drawing i + 2) a (range_with_len (a + 1) n) in
          let o = one_point a (omega arith) in
          let r = go (a + 1) n (omega arith) in
          c ∙ omega (arith, o, r)

  pub spot_is : (k j : ℕ) → k < sides p → spot drawing (exit k j) ≡ 3 * k + j
  spot_is k j l = ap (λ n. n + j) (offset_is k (omega arith))

  pub spans_are : span_count drawing ≡ 3 * sides p
  spans_are = offset_is (sides p) (le_refl _)

  gap_is : (k : ℕ) → k < sides p → gap drawing k ≡ 3 * k + 2
  gap_is k l = omega (arith, spot_is k (points_on drawing k) l, one_point k l)

  -- a chord that joins the point of a side to the side's end
  record IsAt (c : Chord) (k : ℕ) : Type 0 where
    in_range : k < sides p
    ends : ((c.from ≡ 3 * k) × (c.to ≡ 3 * k + 1)) ⊎ ((c.from ≡ 3 * k + 1) × (c.to ≡ 3 * k))

  -- only the segment at the end of the side lies beyond it
  beyond_at : (c : Chord) (k q : ℕ) → IsAt c k → q ≢ bigon k → beyond c q ≡ false
  beyond_at c k q h ne = elim h.ends [
    | inl e ↦ elim (cases_lt (3 * k) q) [
      | inl l ↦ rw (lt-ltb c.from q (omega arith), lt-ltb c.to q (omega arith))
      | inr l ↦ rw (le-ltb c.from q (omega arith), le-ltb c.to q (omega arith))
    ]
    | inr e ↦ elim (cases_lt (3 * k) q) [
      | inl l ↦ rw (lt-ltb c.from q (omega arith), lt-ltb c.to q (omega arith))
      | inr l ↦ rw (le-ltb c.from q (omega arith), le-ltb c.to q (omega arith))
    ]
  ]

  beyond_own : (c : Chord) (k : ℕ) → IsAt c k → beyond c (bigon k) ≡ true
  beyond_own c k h = elim h.ends [
    | inl e ↦ rw (lt-ltb c.from (3 * k + 1) (omega arith), le-ltb c.to (3 * k + 1) (omega arith))
    | inr e ↦ rw (le-ltb c.from (3 * k + 1) (omega arith), lt-ltb c.to (3 * k + 1) (omega arith))
  ]

  -- the two chords of a strand, one at the end of each side of its arc
  abbrev chord_on : ℕ → Chord
  chord_on k = record { from = spot drawing (exit k 0); to = spot drawing (exit k 1) }

  abbrev chord_back_on : ℕ → Chord
  chord_back_on k = record { from = spot drawing (exit k 1); to = spot drawing (exit k 0) }

  abbrev two_chords : ℕ → List Chord
  two_chords i = chord_back_on (second_side p i) ∷ chord_on (first_side p i) ∷ []

  chords_are : (i : ℕ) → i < arc_count p → strand_chords drawing i ≡ two_chords i
  chords_are i l =
      let one = one_point (second_side p i) (second_in_range i l) in
      let two = one_point (first_side p i) (ok.first_in_range i l) in
      rw (strand_is p ok i l, one, two, back p ok i)

  on_at : (k : ℕ) → k < sides p → IsAt (chord_on k) k
  on_at k l = record { in_range = l; ends = inl (spot_is k 0 l ∙ add-zero _, spot_is k 1 l) }

  back_at : (k : ℕ) → k < sides p → IsAt (chord_back_on k) k
  back_at k l = record { in_range = l; ends = inr (spot_is k 1 l, spot_is k 0 l ∙ add-zero _) }

  -- each chord is at the end of a side
  chord_at : (c : Chord) → Mem c (chords drawing) → (k : ℕ) × IsAt c k
  chord_at c m =
      let (i, n, h) = flat_mem (strand_chords drawing) (below (arc_count p)) c m in
      let l = mem_below _ i n in
      of_two i l (subst (λ cs. Mem c cs) (chords_are i l) h)
    where
      of_two : (i : ℕ) → i < arc_count p → Mem c (two_chords i) → (k : ℕ) × IsAt c k
      of_two i l (inl e) = (second_side p i, subst (λ x. IsAt x (second_side p i)) (sym e) (back_at _ (second_in_range i l)))
      of_two i l (inr (inl e)) = (first_side p i, subst (λ x. IsAt x (first_side p i)) (sym e) (on_at _ (ok.first_in_range i l)))
      of_two i l (inr (inr never)) = absurd never

  -- and each side has one
  side_has : (k : ℕ) → k < sides p → (c : Chord) × Mem c (chords drawing) × IsAt c k
  side_has k l = of_arc (arc p k) (ok.ends k l).arc_in_range (ok.ends k l).is_end
    where
      put : (a : ℕ) → a < arc_count p → (c : Chord) → Mem c (two_chords a) → Mem c (chords drawing)
      put a la c m = mem_flat (strand_chords drawing) (below (arc_count p)) a c (below_mem _ a la) (subst (λ cs. Mem c cs) (sym (chords_are a la)) m)

      of_arc : (a : ℕ) → a < arc_count p → (k ≡ first_side p a) ⊎ (k ≡ second_side p a) → (c : Chord) × Mem c (chords drawing) × IsAt c k
      of_arc a la (inl e) = (_, put a la (chord_on (first_side p a)) (inr (inl refl)), subst (IsAt (chord_on (first_side p a))) (sym e) (on_at _ (ok.first_in_range a la)))
      of_arc a la (inr e) = (_, put a la (chord_back_on (second_side p a)) (inl refl), subst (IsAt (chord_back_on (second_side p a))) (sym e) (back_at _ (second_in_range a la)))

  -- a bigon's segment is alone in its piece
  pub bigon_alone : (k t : ℕ) → k < sides p → same_piece (chords drawing) (bigon k) t ≡ true → t ≡ bigon k
  bigon_alone k t l h = elim (cases_eq t (bigon k)) [
    | inl e ↦ e
    | inr ne ↦
        let (c, m, at) = side_has k l in
        let apart : separates c (bigon k) t ≡ true = rw (beyond_own c k at, beyond_at c k t at ne) in
        absurd (false≢true (sym (ap not (any_in (λ c. separates c (bigon k) t) c _ m apart)) ∙ h))
  ]

  -- spans that are no bigon's lie in one piece
  others_same : (q t : ℕ) → ((k : ℕ) → q ≢ bigon k) → ((k : ℕ) → t ≢ bigon k) → same_piece (chords drawing) q t ≡ true
  others_same q t hq ht = same_from_each (chords drawing) q t (λ c m. let (k, at) = chord_at c m in beyond_at c k q at (hq k) ∙ sym (beyond_at c k t at (ht k)))

  -- the gaps' piece is base
  base_from_gap : (q k : ℕ) → k < sides p → same_piece (chords drawing) q (gap drawing k) ≡ true → is_base drawing q ≡ true
  base_from_gap q k l h =
      let e : get_or (gaps drawing) k 0 ≡ gap drawing k = get_or-map-range_with_len (gap drawing) 0 (sides p) k k 0 l (zero-add k) in
      list_any_at (same_piece (chords drawing) q) (gaps drawing) k 0 (rw length-map-range_with_len l) (rw e h)

  pub base_start : (k : ℕ) → k < sides p → is_base drawing (3 * k) ≡ true
  base_start k l = base_from_gap (3 * k) k l (others_same _ _ (λ i e. absurd (omega arith)) (λ i e. absurd (omega (arith, gap_is k l))))

  pub base_gap : (k : ℕ) → k < sides p → is_base drawing (3 * k + 2) ≡ true
  base_gap k l = base_from_gap (3 * k + 2) k l (others_same _ _ (λ i e. absurd (omega arith)) (λ i e. absurd (omega (arith, gap_is k l))))

  -- a bigon isn't
  pub bigon_inner : (k : ℕ) → k < sides p → is_base drawing (bigon k) ≡ false
  bigon_inner k l =
      none_mapped (same_piece (chords drawing) (bigon k)) (gap drawing) 0 (sides p)
      (λ i h. false_from_ne_true _ (λ t. absurd (omega (arith, bigon_alone k (gap drawing i) l t, gap_is i (omega arith)))))

  -- the table names it by its segment
  pub table_bigon : (k : ℕ) → k < sides p → get_or (piece_table drawing) (bigon k) 0 ≡ bigon k
  table_bigon k l = bigon_alone k _ l (first_same drawing (bigon k) (omega (arith, spans_are)))

  -- it has one segment, so two corners
  pub bigon_corners : (k : ℕ) → k < sides p → corners drawing (bigon k) ≡ 2
  bigon_corners k l =
      let c = length-filter (same_piece (chords drawing) (bigon k)) (spans drawing) in
      let one : count_by (same_piece (chords drawing) (bigon k)) (spans drawing) ≡ 1
      = count_one (same_piece (chords drawing) (bigon k)) 0 (span_count drawing) (bigon k) (omega arith) (omega (arith, spans_are))
      (same_piece_refl (chords drawing) (bigon k)) (λ t lo hi same. bigon_alone k t l same) in
      omega (arith, c, one)

  -- and it isn't bad
  pub bigon_badness : (k : ℕ) → k < sides p → badness drawing (bigon k) ≡ 0
  bigon_badness k l = let c = bigon_corners k l in omega (arith, c)

  -- and it is one of the pieces that aren't base
  pub bigon_listed : (k : ℕ) → k < sides p → Mem (bigon k) (inner_pieces drawing)
  bigon_listed k l =
      filter_mem (λ s. not (is_base drawing s)) (bigon k) (pieces drawing)
      (filter_mem (λ s. eqb (get_or (piece_table drawing) s 0) s) (bigon k) (spans drawing) (below_mem (span_count drawing) (bigon k) (omega (arith, spans_are))) (eq-eqb _ _ (table_bigon k l)))
      (ap not (bigon_inner k l))

  -- which are the bigons
  pub listed_bigon : (q : ℕ) → Mem q (inner_pieces drawing) → (k : ℕ) × (k < sides p) × (q ≡ bigon k)
  listed_bigon q m =
      let (piece, test) = mem_filter (λ s. not (is_base drawing s)) q (pieces drawing) m in
      let l : q < 3 * sides p = omega (arith, mem_below _ q (mem_filter (λ s. eqb (get_or (piece_table drawing) s 0) s) q (spans drawing) piece).0, spans_are) in
      let free : is_base drawing q ≡ true → ⊥ = λ b. false≢true (sym (not_from_true _ b) ∙ test) in
      elim (cases_eq (q % 3) 0) [
        | inl e ↦ absurd (free (let w : q ≡ 3 * (q / 3) = omega arith in rw w (base_start (q / 3) (omega arith))))
        | inr e ↦ elim (cases_eq (q % 3) 1) [
          | inl one ↦ (q / 3, omega arith, omega arith)
          | inr two ↦ absurd (free (let w : q ≡ 3 * (q / 3) + 2 = omega arith in rw w (base_gap (q / 3) (omega arith))))
        ]
      ]
