-- Edges of a piece, as code reads them in a table.
use Rattle.std.proofs.Common.{◌≡◌, ℕ, suc, ◌+◌, ◌-◌, ◌<◌, ◌≤◌, ◌/◌, ◌%◌, false, List, length, get_or, sym, ◌∙◌, ◌⊎◌, ap, subst, arith, inl, inr}
use Rattle.std.proofs.lemmas.Bool.{cases_lt}
use Rattle.page_surface.specs.Drawing.{Drawing, IsEmbedded, offset, spot, exit, strand_exits}
use Rattle.page_surface.specs.Polygon.{arc_count, sides}
use Rattle.drawing.specs.Boundary.{Leads}
use Rattle.drawing.specs.Fingers.{chord_at}
use Rattle.drawing.specs.Pieces.{corners, is_base, segments_in, span_count}
use Rattle.drawing.specs.Round.{next_segment}
use Rattle.drawing.proofs.Spots.{offset_rises}
use Rattle.region_table.specs.Edges.{IsChordEdge, IsSegmentEdge}
use Rattle.region_table.specs.Ends.{ChordNo, IsEnd, KnowsEnds, begin_in, end_at}
use Rattle.region_table.specs.Table.{IsTableOf, Table}
use Rattle.region_table.proofs.EdgeWalk.{edge_told}
use Rattle.region_table.proofs.FrameTables.{as_many_rows}
use Rattle.region_table.proofs.TableReads.{sides_are}
use Rattle.region_table.proofs.TablePlaces.{begin_told, beside_in, chords_told, far_end_told, leads_there, mate_told, start_told}

-- halves of even and odd numbers
even_half : (at i : ℕ) → at ≡ i + i → i ≡ at / 2
even_half at i e = omega (arith, e)

odd_half : (at i : ℕ) → at ≡ suc (i + i) → i ≡ at / 2
odd_half at i e = omega (arith, e)

module _ (d : Drawing) (ok : IsEmbedded d) (t : Table) (told : IsTableOf d t) (s : ℕ) (l : s < span_count d) (inner : is_base d s ≡ false) (at : ℕ) (la : at < corners d s) (x : ℕ)
    (is : x ≡ get_or (segments_in d s) (at / 2) 0) where
  -- an even edge is a segment
  pub segment_read : at % 2 ≡ 0 → (side : ℕ) → side < sides t.polygon → get_or t.starts side 0 ≤ x → x < get_or t.starts (suc side) 0 → IsSegmentEdge d s at side (x - get_or t.starts side 0)
  segment_read even side ls from to = elim (edge_told d ok s l inner at la) [
    | inl (k, j, e) ↦
        let here : x ≡ spot d (exit k j) = is ∙ (ap (λ i. get_or (segments_in d s) i 0) (sym (even_half at e.index e.even)) ∙ e.is_it) in
        let ld : side < sides d.polygon = omega (arith, ls, sides_are d t told) in
        let a = start_told d t told side (omega (arith, ld)) in
        let b = start_told d t told (suc side) (omega (arith, ld)) in
        let low : side < k → ⊥ = λ less. elim (cases_lt (suc side) k) [
          | inl q ↦ absurd (omega (arith, offset_rises d (suc side) k q, b, to, here))
          | inr q ↦ (let same : suc side ≡ k = omega (arith, q, less) in absurd (omega (arith, ap (offset d) same, b, to, here)))
        ] in
        let high : k < side → ⊥ = λ less. absurd (omega (arith, offset_rises d k side less, a, from, here, e.segment_in)) in
        let same : side ≡ k = elim (cases_lt side k) [ inl q ↦ absurd (low q) | inr q ↦ elim (cases_lt k side) [ inl r ↦ absurd (high r) | inr r ↦ omega (arith, q, r) ] ] in
        let place : x - get_or t.starts side 0 ≡ j = omega (arith, here, a, ap (offset d) same) in
        subst (λ n. IsSegmentEdge d s at n (x - get_or t.starts side 0)) (sym same) (subst (λ n. IsSegmentEdge d s at k n) (sym place) e)
    | inr (i, c, e) ↦ absurd (omega (arith, e.odd, even))
  ]

  -- an odd one is a chord
  pub chord_edge_read : at % 2 ≡ 1 → (ends : List ChordNo) → KnowsEnds t.begins t.mates ends → (seen : ChordNo) → seen ≡ end_at ends x → IsChordEdge d s at seen.strand seen.chord
  chord_edge_read odd ends known seen read = elim (edge_told d ok s l inner at la) [
    | inl (k, j, e) ↦ absurd (omega (arith, e.even, odd))
    | inr (i, c, e) ↦
        let half : x ≡ get_or (segments_in d s) e.index 0 = is ∙ ap (λ n. get_or (segments_in d s) n 0) (sym (odd_half at e.index e.odd)) in
        let right = subst (IsEnd t.begins t.mates x) (sym read) (at_end ends known i c e.strand_in e.chord_in (ends_of e half)) in
        let strand_in : seen.strand < arc_count d.polygon = omega (arith, right.strand_in, as_many_rows d t.begins told.begins) in
        let chord_in : seen.chord ≤ length (strand_exits d seen.strand) = omega (arith, right.chord_in, chords_told d t told seen.strand strand_in) in
        record {
          index = e.index;
          odd = e.odd;
          index_in = e.index_in;
          strand_in = strand_in;
          chord_in = chord_in;
          leads = subst (λ n. Leads (chord_at d seen.strand seen.chord) n (next_segment d n)) half
              (leads_there d ok seen.strand seen.chord x strand_in chord_in (its_ends seen.strand seen.chord strand_in chord_in right.ends_there));
        }
  ]
    where
      -- the two ends of a chord, by the table
      begin_is : (i c : ℕ) → i < arc_count d.polygon → c ≤ length (strand_exits d i) → begin_in t.begins i c ≡ (chord_at d i c).from
      begin_is i c li lc = begin_told d t told i c li lc

      mate_is : (i c : ℕ) → i < arc_count d.polygon → c ≤ length (strand_exits d i) → get_or t.mates (begin_in t.begins i c) 0 ≡ (chord_at d i c).to
      mate_is i c li lc =
          ap (λ y. get_or t.mates y 0) (begin_is i c li lc) ∙ (mate_told d t told (chord_at d i c).from (beside_in d ok i c li lc).0 ∙ far_end_told d ok i c li lc)

      ends_of : {i c : ℕ} (e : IsChordEdge d s at i c) → x ≡ get_or (segments_in d s) e.index 0 → ((chord_at d i c).from ≡ x) ⊎ ((chord_at d i c).to ≡ x)
      ends_of e half = elim e.leads [ inl w ↦ inl (w.0 ∙ sym half) | inr w ↦ inr (w.0 ∙ sym half) ]

      at_end : (ends : List ChordNo) → KnowsEnds t.begins t.mates ends → (i c : ℕ) → i < arc_count d.polygon → c ≤ length (strand_exits d i) → ((chord_at d i c).from ≡ x) ⊎ ((chord_at d i c).to ≡ x)
          → IsEnd t.begins t.mates x (end_at ends x)
      at_end ends known i c li lc w =
          let noted = known i c (omega (arith, li, as_many_rows d t.begins told.begins)) (omega (arith, lc, chords_told d t told i li)) in
          elim w [
            | inl q ↦ subst (λ y. IsEnd t.begins t.mates y (end_at ends y)) (begin_is i c li lc ∙ q) noted.0
            | inr q ↦ subst (λ y. IsEnd t.begins t.mates y (end_at ends y)) (mate_is i c li lc ∙ q) noted.1
          ]

      its_ends : (i c : ℕ) → i < arc_count d.polygon → c ≤ length (strand_exits d i) → (begin_in t.begins i c ≡ x) ⊎ (get_or t.mates (begin_in t.begins i c) 0 ≡ x)
          → ((chord_at d i c).from ≡ x) ⊎ ((chord_at d i c).to ≡ x)
      its_ends i c li lc (inl q) = inl (sym (begin_is i c li lc) ∙ q)
      its_ends i c li lc (inr q) = inr (sym (mate_is i c li lc) ∙ q)
