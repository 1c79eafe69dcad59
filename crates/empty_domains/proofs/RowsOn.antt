-- The rows of a try over inner pieces are marked by the set that it finds, and its last row ends at the stop.
use Rattle.std.proofs.Common.{◌≡◌, ℕ, zero, suc, ◌+◌, ◌-◌, ◌≤◌, ◌<◌, inl, inr, Bool, true, false, cond, eqb, not, [], ◌∷◌, get_or, refl, sym, ap, subst, arith, ◌∙◌, zero-add}
use Rattle.std.specs.List.{list_any, list_all, position_or_len}
use Rattle.std.proofs.lemmas.Bool.{cases_eq, cases_lt, cases_Bool, false≢true, eq-eqb, lt-ltb, not_from_true, not_from_false}
use Rattle.std.proofs.lemmas.List.FromFn.{get_or-range_with_len}
use Rattle.std.proofs.lemmas.List.Sums.{fails_before_first}
use mathlib.Core.Path.{fun_ext}
use Rattle.drawing.proofs.ChordTree.{same_from_each}
use Rattle.drawing.proofs.SamePiece.{table_at, same_piece_same, same_piece_refl, first_same}
use Rattle.drawing.specs.Pieces.{inner_pieces, pieces, spans, span_count, piece_table, same_piece, is_base, gap, gaps}
use Rattle.empty_domains.proofs.Diagram.{IsPoint, of_point}
use Rattle.empty_domains.proofs.ListFacts.{mem_any}
use Rattle.empty_domains.proofs.PieceMark.{base_by_gap, side_under}
use Rattle.empty_domains.proofs.Places.{offset_up}
use Rattle.empty_domains.proofs.Strands.{chord_points}
use Rattle.hkm_diagram.proofs.ContactColumn.{mark}
use Rattle.empty_domains.specs.Sweep.{sweep, sweep_ends}
use Rattle.empty_domains.specs.Walk.{Try, rows, on_rows, rows_inner, found}
use Rattle.obd_base.specs.Lists.{below, has, Mem}
use Rattle.page_surface.specs.Drawing.{Drawing, Chord, chords, beyond, offset, points_on, IsEmbedded}
use Rattle.page_surface.specs.Polygon.{sides}
use Rattle.drawing.proofs.Lists.{has_mem}
use Rattle.obd_base.proofs.lists.Below.{range_mem}
use Rattle.page_surface.proofs.EmbeddedTest.{all_in}
use Rattle.obd_base.proofs.lists.Members.{filter_mem}

-- the first row of a sweep, and its last one
pub sweep_first : (other opp : ℕ → ℕ) (last : ℕ → ℕ → Bool) (r n a : ℕ) → 0 < n → Mem a (sweep other opp last r n a)
sweep_first other opp last r zero a l = absurd (omega arith)
sweep_first other opp last r (suc n) a l = inl refl

-- a sweep that comes to an end has a last row
pub sweep_last : (other opp : ℕ → ℕ) (last : ℕ → ℕ → Bool) (r n a : ℕ) → sweep_ends other opp last r n a ≡ true
    → (z : ℕ) × Mem z (sweep other opp last r n a) × (last z (other (z + r)) ≡ true)
sweep_last other opp last r zero a h = absurd (false≢true h)
sweep_last other opp last r (suc n) a h = go (last a (other (a + r))) refl (sweep_last other opp last r n (opp (other a)))
  where
    go : (b : Bool) → last a (other (a + r)) ≡ b
        → (sweep_ends other opp last r n (opp (other a)) ≡ true → (z : ℕ) × Mem z (sweep other opp last r n (opp (other a))) × (last z (other (z + r)) ≡ true))
        → (z : ℕ) × Mem z (a ∷ cond (last a (other (a + r))) [] (sweep other opp last r n (opp (other a)))) × (last z (other (z + r)) ≡ true)
    go true e ih = (a, inl refl, e)
    go false e ih =
        let h' : sweep_ends other opp last r n (opp (other a)) ≡ true = rw e at h in
        let (z, m, k) = ih h' in
        let c : sweep other opp last r n (opp (other a)) ≡ cond (last a (other (a + r))) [] (sweep other opp last r n (opp (other a))) = rw e refl in
        (z, inr (subst (λ zs. Mem z zs) c m), k)

module _ (d : Drawing) (ok : IsEmbedded d) where
  -- a number past all spans counts as base
  past_base : (s : ℕ) → 0 < sides d.polygon → span_count d ≤ s → is_base d s ≡ true
  past_base s p l = base_by_gap d ok s n (omega arith) (same_from_each (chords d) s (gap d n) each)
    where
      n : ℕ
      n = sides d.polygon - 1

      early : (x : ℕ) → IsPoint d x → x < gap d n
      early x q =
          let (k, j, lk, lj, e) = of_point d x q in
          elim (cases_eq k n) [
            | inl h ↦ (let u : points_on d k ≡ points_on d n = ap (points_on d) h in let v : offset d k ≡ offset d n = ap (offset d) h in omega arith)
            | inr h ↦ (let w = offset_up d k n (omega arith) in omega arith)
          ]

      last : gap d n < span_count d
      last = let h = side_under d ok n (omega arith) in omega arith

      each : (c : Chord) → Mem c (chords d) → beyond c s ≡ beyond c (gap d n)
      each c i =
          let q = chord_points d ok c i in
          let one = early c.from q.0 in
          let two = early c.to q.1 in
          rw (lt-ltb c.from s (omega (arith, last)), lt-ltb c.to s (omega (arith, last)), lt-ltb c.from (gap d n) one, lt-ltb c.to (gap d n) two) refl

  -- the first span of an inner piece stands among the inner pieces
  pub first_inner : (s : ℕ) → s < span_count d → is_base d s ≡ false → Mem (get_or (piece_table d) s 0) (inner_pieces d)
  first_inner s l b =
      filter_mem (λ s. not (is_base d s)) t (pieces d)
      (filter_mem (λ s. eqb (get_or (piece_table d) s 0) s) t (spans d) (range_mem 0 (span_count d) t (omega arith) (omega (arith, under))) (eq-eqb _ _ again))
      (not_from_false _ (sym base ∙ b))
    where
      t : ℕ
      t = get_or (piece_table d) s 0

      h : same_piece (chords d) s t ≡ true
      h = first_same d s l

      same : same_piece (chords d) s ≡ same_piece (chords d) t
      same = fun_ext (λ u. same_piece_same (chords d) s t u h)

      early : t ≤ s
      early = elim (cases_lt s t) [
        | inr k ↦ k
        | inl k ↦ absurd (
            let k' : s < position_or_len (same_piece (chords d) s) (spans d) = subst (λ n. s < n) (table_at d s l) k in
            let f = fails_before_first (same_piece (chords d) s) (spans d) s 0 k' in
            let e : get_or (spans d) s 0 ≡ s = get_or-range_with_len 0 (span_count d) s 0 l ∙ zero-add s in
            let f' : same_piece (chords d) s s ≡ false = rw e at f in
            false≢true (sym f' ∙ same_piece_refl (chords d) s))
      ]

      under : t < span_count d
      under = omega (arith, early)

      again : get_or (piece_table d) t 0 ≡ t
      again = table_at d t under ∙ (ap (λ q. position_or_len q (spans d)) (sym same) ∙ sym (table_at d s l))

      base : is_base d s ≡ is_base d t
      base = ap (λ q. list_any q (gaps d)) same

  -- the rows of a try over inner pieces are marked
  pub row_on : (t : Try) → 0 < sides d.polygon → rows_inner d t ≡ true → (a i : ℕ) → Mem a (rows d t) → i < t.width → mark d (found d t) (suc (a + i)) ≡ 1
  row_on t p h a i m l =
      let all = all_in (λ a. list_all (λ i. not (is_base d (suc (a + i)))) (below t.width)) a (rows d t) h m in
      let here = all_in (λ i. not (is_base d (suc (a + i)))) i (below t.width) all (range_mem 0 t.width i (omega arith) (omega arith)) in
      let inner : is_base d (suc (a + i)) ≡ false = elim (cases_Bool (is_base d (suc (a + i)))) [
        | inl b ↦ absurd (false≢true (sym (not_from_true _ b) ∙ here))
        | inr b ↦ b
      ] in
      let under : suc (a + i) < span_count d = elim (cases_lt (suc (a + i)) (span_count d)) [
        | inl k ↦ k
        | inr k ↦ absurd (false≢true (sym inner ∙ past_base (suc (a + i)) p k))
      ] in
      let first = get_or (piece_table d) (suc (a + i)) 0 in
      let on : on_rows d t first ≡ true = mem_any (λ a. list_any (λ i. same_piece (chords d) (suc (a + i)) first) (below t.width)) a (rows d t) m
      (mem_any (λ i. same_piece (chords d) (suc (a + i)) first) i (below t.width) (range_mem 0 t.width i (omega arith) (omega arith)) (first_same d (suc (a + i)) under)) in
      let has_it : has (found d t) first ≡ true = has_mem (found d t) first (filter_mem (on_rows d t) first (inner_pieces d) (first_inner (suc (a + i)) under inner) on) in
      rw has_it refl
