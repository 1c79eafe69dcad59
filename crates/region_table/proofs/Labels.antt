-- Labels that are distances: 0 on base pieces, changed by at most one across a chord, and each label above 0 with a lesser one behind a chord.
use Rattle.std.proofs.Common.{◌≡◌, ℕ, zero, suc, ◌+◌, ◌<◌, ◌≤◌, true, length, subst, arith, inl, inr}
use Rattle.std.proofs.lemmas.List.Sums.{count_by-le-length}
use Rattle.obd_base.specs.Lists.{Mem}
use Rattle.page_surface.specs.Drawing.{Chord, Drawing, IsEmbedded, chords}
use Rattle.drawing.specs.Pieces.{distance, gap, is_base, same_piece, separates, span_count}
use Rattle.drawing.proofs.CutAlways.{chord_spans}
use Rattle.drawing.proofs.Mates.{Joins}
use Rattle.region_table.proofs.Distances.{label_bounds, nearest_gap}
use Rattle.region_table.proofs.Doors.{base_from_zero, door}

module _ (d : Drawing) (ok : IsEmbedded d) where
  -- no distance is above the number of chords
  pub distance_small : (s : ℕ) → distance d s ≤ length (chords d)
  distance_small s =
      let (k, lk, e) = nearest_gap d ok ok.polygon.not_empty s in
      omega (arith, e, count_by-le-length (λ c. separates c s (gap d k)) (chords d))

  -- the spans on both sides of an end of a chord
  pub spans_at : (c : Chord) (x y : ℕ) → Mem c (chords d) → Joins c x y → (x < span_count d) × (suc x < span_count d)
  spans_at c x y m (inl (p, q)) = let s = chord_spans d ok c m in (subst (λ z. z < span_count d) p s.0, subst (λ z. suc z < span_count d) p s.1)
  spans_at c x y m (inr (p, q)) = let s = chord_spans d ok c m in (subst (λ z. z < span_count d) p s.2, subst (λ z. suc z < span_count d) p s.3)

  -- one label for each piece, 0 for base pieces, and changed by at most one across a chord
  pub record IsLevel (label : ℕ → ℕ) : Type 0 where
    pub together : (s t : ℕ) → s < span_count d → t < span_count d → same_piece (chords d) s t ≡ true → label s ≡ label t
    pub base_zero : (s : ℕ) → s < span_count d → is_base d s ≡ true → label s ≡ 0
    pub near : (c : Chord) (x y : ℕ) → Mem c (chords d) → Joins c x y → label x ≤ label (suc x) + 1

  -- such labels are no greater than the distances
  pub label_most : (label : ℕ → ℕ) → IsLevel label → (e s : ℕ) → s < span_count d → distance d s ≡ e → label s ≤ e
  label_most label level zero s l q = omega (arith, level.base_zero s l (base_from_zero d ok ok.polygon.not_empty s q))
  label_most label level (suc e) s l q =
      let way = door d ok ok.polygon.not_empty s e l q in
      let inside = spans_at way.chord way.span way.far_end way.chord_of way.ends in
      let less = label_most label level e (suc way.span) inside.1 way.nearer in
      omega (arith, less, level.near way.chord way.span way.far_end way.chord_of way.ends, level.together s way.span l inside.0 way.same)

  -- a chord of the piece of a span behind which the label is lower by one
  pub record StepsDown (label : ℕ → ℕ) (s e : ℕ) : Type 0 where
    pub span : ℕ
    pub chord : Chord
    pub far_end : ℕ
    pub chord_of : Mem chord (chords d)
    pub ends : Joins chord span far_end
    pub same : same_piece (chords d) s span ≡ true
    pub lower : label (suc span) ≡ e

  -- where each label below a bound steps down to 0, and 0 is base, they are the distances; the bound stands for 'none yet'
  pub label_is_distance : (label : ℕ → ℕ) → IsLevel label → (top : ℕ) → length (chords d) < top
      → ((s : ℕ) → s < span_count d → label s ≡ 0 → is_base d s ≡ true)
      → ((s e : ℕ) → s < span_count d → suc e < top → label s ≡ suc e → StepsDown label s e)
      → (s : ℕ) → s < span_count d → label s ≡ distance d s
  label_is_distance label level top high zeros steps s l = omega (arith, below_it, above_it)
    where
      below_it : label s ≤ distance d s
      below_it = label_most label level (distance d s) s l (let e : distance d s ≡ distance d s = omega arith in e)

      Marked : ℕ → ℕ → Type 0
      Marked t e = (t < span_count d) × (label t ≡ e) × (e < top)

      above_it : distance d s ≤ label s
      above_it = label_bounds d ok ok.polygon.not_empty Marked (λ t m. zeros t m.0 m.1)
          (λ t e m.
          let way = steps t e m.0 m.2 m.1 in
          (way.span, way.chord, way.far_end, way.chord_of, way.ends, way.same, ((spans_at way.chord way.span way.far_end way.chord_of way.ends).1, way.lower, omega (arith, m.2))))
          (label s) s (l, (let e : label s ≡ label s = omega arith in e), omega (arith, below_it, distance_small s))
