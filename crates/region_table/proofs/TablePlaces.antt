-- What a table tells of places and chords: where sides begin, the other ends of chords, where chords begin, and quadrants.
use Rattle.std.proofs.Common.{◌≡◌, ℕ, suc, ◌+◌, ◌-◌, ◌<◌, ◌≤◌, [], ◌∷◌, map, length, get_or, refl, sym, ◌∙◌, ◌⊎◌, ap, arith, zero-add, inl, inr, ◌≢◌}
use Rattle.std.proofs.lemmas.Bool.{cases_lt, le-ltb, lt-ltb}
use Rattle.std.proofs.lemmas.List.{get_or-map, length-map}
use Rattle.std.proofs.lemmas.List.FromFn.{get_or-map-range_with_len}
use Rattle.obd_base.specs.Lists.{Mem, below}
use Rattle.page_surface.specs.Polygon.{arc_count, first_side, second_side, sides}
use Rattle.page_surface.specs.Drawing.{Drawing, IsEmbedded, chords, end_of, offset, points_on, strand_chords, strand_exits}
use Rattle.drawing.specs.Fingers.{chord_at}
use Rattle.drawing.specs.Pieces.{span_count}
use Rattle.drawing.specs.Points.{crossings_of, from_spans, to_spans}
use Rattle.drawing.specs.Boundary.{Leads}
use Rattle.drawing.specs.Round.{next_segment, other_end}
use Rattle.drawing.proofs.Lists.{mem_flat}
use Rattle.drawing.proofs.TreeLaws.{two_sides}
use Rattle.obd_base.proofs.lists.Below.{below_mem}
use Rattle.region_table.specs.Table.{IsTableOf, Table, name_at}
use Rattle.region_table.proofs.EdgeWalk.{cut_length, mem_of_place}
use Rattle.drawing.proofs.CutAlways.{chord_spans}
use Rattle.drawing.proofs.Diagram.{at_most_one_end, spot_in}
use Rattle.drawing.proofs.Mates.{other_joins}
use Rattle.drawing.proofs.Ends.{same_count}
use Rattle.drawing.proofs.PieceCount.{same_name}
use Rattle.drawing.proofs.Spots.{offset_suc}

module _ (d : Drawing) (t : Table) (told : IsTableOf d t) where
  -- where a side begins, and where the last one ends
  pub start_told : (k : ℕ) → k < suc (sides d.polygon) → get_or t.starts k 0 ≡ offset d k
  start_told k l = ap (λ xs. get_or xs k 0) told.starts ∙ get_or-map-range_with_len (offset d) 0 (suc (sides d.polygon)) k k 0 l (zero-add k)

  -- so a side's points are told too
  pub points_told : (k : ℕ) → k < sides d.polygon → get_or t.starts (suc k) 0 ≡ get_or t.starts k 0 + points_on d k + 2
  points_told k l = omega (arith, start_told k (omega arith), start_told (suc k) (omega arith), offset_suc d k)

  -- the last number is how many spans there are
  pub spans_told : get_or t.starts (sides d.polygon) 0 ≡ span_count d
  spans_told = start_told (sides d.polygon) (omega arith)

  -- the other end of the chord at a number
  pub mate_told : (x : ℕ) → x < span_count d → get_or t.mates x 0 ≡ other_end (chords d) x
  mate_told x l = ap (λ xs. get_or xs x 0) told.mates ∙ get_or-map-range_with_len (other_end (chords d)) 0 (span_count d) x x 0 l (zero-add x)

  -- as many beginnings of chords as chords
  pub strand_told : (i : ℕ) → i < arc_count d.polygon → get_or t.begins i [] ≡ map (λ c. c.from) (strand_chords d i)
  strand_told i l = ap (λ xs. get_or xs i []) told.begins ∙ get_or-map-range_with_len (λ i. map (λ c. c.from) (strand_chords d i)) 0 (arc_count d.polygon) i i [] l (zero-add i)

  -- one for each chord of the strand
  pub chords_told : (i : ℕ) → i < arc_count d.polygon → length (get_or t.begins i []) ≡ suc (length (strand_exits d i))
  chords_told i l =
      ap length (strand_told i l) ∙ (length-map (strand_chords d i) (λ c. c.from)
      ∙ cut_length d (end_of d (second_side d.polygon i)) (end_of d (first_side d.polygon i)) (strand_exits d i))

  -- where each begins
  pub begin_told : (i n : ℕ) → i < arc_count d.polygon → n ≤ length (strand_exits d i) → get_or (get_or t.begins i []) n 0 ≡ (chord_at d i n).from
  begin_told i n l k =
      ap (λ xs. get_or xs n 0) (strand_told i l)
      ∙ get_or-map (λ c. c.from) (strand_chords d i) n (record { from = 0; to = 0 }) 0
      (omega (arith, k, cut_length d (end_of d (second_side d.polygon i)) (end_of d (first_side d.polygon i)) (strand_exits d i)))

module _ (d : Drawing) (ok : IsEmbedded d) where
  -- chord n of strand i is a chord
  pub chord_listed : (i n : ℕ) → i < arc_count d.polygon → n ≤ length (strand_exits d i) → Mem (chord_at d i n) (chords d)
  chord_listed i n l k =
      mem_flat (strand_chords d) (below (arc_count d.polygon)) i (chord_at d i n) (below_mem (arc_count d.polygon) i l)
      (mem_of_place (strand_chords d i) n (record { from = 0; to = 0 })
      (omega (arith, k, cut_length d (end_of d (second_side d.polygon i)) (end_of d (first_side d.polygon i)) (strand_exits d i))))

  -- the spans on its two sides are spans,
  pub beside_in : (i n : ℕ) → i < arc_count d.polygon → n ≤ length (strand_exits d i) → ((chord_at d i n).from < span_count d) × (suc (chord_at d i n).from < span_count d)
  beside_in i n l k = let s = chord_spans d ok (chord_at d i n) (chord_listed i n l k) in (s.0, s.1)

  -- and of two pieces
  pub beside_differ : (t : Table) → IsTableOf d t → (i n : ℕ) → i < arc_count d.polygon → n ≤ length (strand_exits d i)
      → name_at t (chord_at d i n).from ≢ name_at t (suc (chord_at d i n).from)
  beside_differ t told i n l k e =
      let c = chord_at d i n in
      let s = beside_in i n l k in
      two_sides d ok c (chord_listed i n l k) (same_name d c.from (suc c.from) (told.naming.apart c.from (suc c.from) s.0 s.1 e))

  -- the spans at a point are spans: those before it,
  pub to_spans_in : (a j : ℕ) → a < arc_count d.polygon → (s : ℕ) → Mem s (to_spans d a j) → s < span_count d
  to_spans_in a j la s m = elim (cases_lt j m0) [
    | inl l ↦ go_to (let h : Mem s ((offset d f + j) ∷ (offset d g + (m0 - 1 - j)) ∷ []) = rw (lt-ltb j m0 l) at m in h) (omega (arith, spot_in d ok f j lf (omega arith))) (spot_in d ok g (m0 - 1 - j) lg (omega (arith, same_count d ok f)))
    | inr h ↦ go_to (let h : Mem s ((offset d f + m0) ∷ (offset d g + m0) ∷ []) = rw (le-ltb j m0 h) at m in h) (spot_in d ok f m0 lf (omega arith)) (spot_in d ok g m0 lg (omega (arith, same_count d ok f)))
  ]
    where
      f : ℕ
      f = first_side d.polygon a

      g : ℕ
      g = second_side d.polygon a

      m0 : ℕ
      m0 = crossings_of d a

      lf : f < sides d.polygon
      lf = ok.polygon.first_in_range a la

      lg : g < sides d.polygon
      lg = ok.polygon.pairs.in_range f lf

      go_to : {y z : ℕ} → Mem s (y ∷ z ∷ []) → y < span_count d → z < span_count d → s < span_count d
      go_to (inl e) p q = omega (arith, e, p)
      go_to (inr (inl e)) p q = omega (arith, e, q)
      go_to (inr (inr n)) p q = absurd n

  -- and those after it
  pub from_spans_in : (a j : ℕ) → a < arc_count d.polygon → (s : ℕ) → Mem s (from_spans d a j) → s < span_count d
  from_spans_in a j la s m = elim (cases_lt j m0) [
    | inl l ↦ go_from (let h : Mem s ((offset d f + suc j) ∷ (offset d g + (m0 - j)) ∷ []) = rw (lt-ltb j m0 l) at m in h) (spot_in d ok f (suc j) lf (omega arith)) (spot_in d ok g (m0 - j) lg (omega (arith, same_count d ok f)))
    | inr h ↦ absurd (let h : Mem s [] = rw (le-ltb j m0 h) at m in h)
  ]
    where
      f : ℕ
      f = first_side d.polygon a

      g : ℕ
      g = second_side d.polygon a

      m0 : ℕ
      m0 = crossings_of d a

      lf : f < sides d.polygon
      lf = ok.polygon.first_in_range a la

      lg : g < sides d.polygon
      lg = ok.polygon.pairs.in_range f lf

      go_from : {y z : ℕ} → Mem s (y ∷ z ∷ []) → y < span_count d → z < span_count d → s < span_count d
      go_from (inl e) p q = omega (arith, e, p)
      go_from (inr (inl e)) p q = omega (arith, e, q)
      go_from (inr (inr n)) p q = absurd n

  -- a chord's other end is the mate of its first end
  pub far_end_told : (i n : ℕ) → i < arc_count d.polygon → n ≤ length (strand_exits d i) → other_end (chords d) (chord_at d i n).from ≡ (chord_at d i n).to
  far_end_told i n l k =
      let c = chord_at d i n in
      other_joins (chords d) (at_most_one_end d ok) c c.from c.to (chord_listed i n l k) (inl (refl, refl))

  -- a chord with an end at the end of a segment leads on from it
  pub leads_there : (i n s : ℕ) → i < arc_count d.polygon → n ≤ length (strand_exits d i) → ((chord_at d i n).from ≡ s) ⊎ ((chord_at d i n).to ≡ s) → Leads (chord_at d i n) s (next_segment d s)
  leads_there i n s l k (inl e) =
      let c = chord_at d i n in
      inl (e, ap suc (sym (other_joins (chords d) (at_most_one_end d ok) c s c.to (chord_listed i n l k) (inl (e, refl)))))
  leads_there i n s l k (inr e) =
      let c = chord_at d i n in
      inr (e, ap suc (sym (other_joins (chords d) (at_most_one_end d ok) c s c.from (chord_listed i n l k) (inr (e, refl)))))
