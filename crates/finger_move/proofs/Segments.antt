-- Spans that aren't gaps as segments of sides: the span they are glued to, and that all spans of a piece that isn't base are such.
use Rattle.std.proofs.Common.{◌≡◌, ℕ, suc, ◌+◌, ◌-◌, ◌<◌, ◌≤◌, Bool, true, false, ltb, List, [], ◌∷◌, sym, ◌∙◌, ap, arith, inl, inr}
use Rattle.std.specs.List.{list_any}
use Rattle.std.proofs.lemmas.Bool.{cases_eq, false≢true, lt-ltb, le-ltb, or_left, or_right}
use Rattle.obd_base.specs.Lists.{Mem, below}
use Rattle.obd_base.proofs.lists.Below.{below_mem}
use Rattle.page_surface.specs.Drawing.{Drawing, IsEmbedded, chords, offset, points_on}
use Rattle.page_surface.specs.Polygon.{partner, sides}
use Rattle.page_surface.proofs.Partners.{points_partner}
use Rattle.drawing.specs.Pieces.{gap, gaps, is_base, same_piece, span_count}
use Rattle.drawing.specs.Round.{place_of, side_of}
use Rattle.drawing.proofs.Lists.{first_is, mem_to_map}
use Rattle.drawing.proofs.SamePiece.{same_piece_refl}
use Rattle.drawing.proofs.Spots.{find_place, offset_rises, offset_suc}
use Rattle.finger_move.specs.Glued.{glued_to}

-- a test that a member passes, some member passes
pub some_passes : (p : ℕ → Bool) (x : ℕ) (xs : List ℕ) → Mem x xs → p x ≡ true → list_any p xs ≡ true
some_passes p x xs m h = go xs m
  where
    go : (xs : List ℕ) → Mem x xs → list_any p xs ≡ true
    go [] m = absurd m
    go (y ∷ xs) (inl q) = or_left (p y) (list_any p xs) (sym (ap p q) ∙ h)
    go (y ∷ xs) (inr m) = or_right (p y) (list_any p xs) (go xs m)

-- a number that is a segment of a side
pub record IsSegment (d : Drawing) (s : ℕ) : Type 0 where
  pub side : ℕ
  pub place : ℕ
  pub side_in : side < sides d.polygon
  pub place_in : place ≤ points_on d side
  pub is : s ≡ offset d side + place

-- the side and the place of a number
pub side_is : (d : Drawing) (k j : ℕ) → k < sides d.polygon → j ≤ points_on d k + 1 → side_of d (offset d k + j) ≡ k
side_is d k j lk lj = first_is (λ l. ltb (offset d k + j) (offset d (suc l))) (sides d.polygon) k lk
    (lt-ltb (offset d k + j) (offset d (suc k)) (omega (arith, offset_suc d k, lj)))
    (λ l h. le-ltb (offset d k + j) (offset d (suc l)) (before l h))
  where
    before : (l : ℕ) → l < k → offset d (suc l) ≤ offset d k + j
    before l h = omega (arith, offset_suc d l, offset_rises d l k h)

-- its place
pub place_is : (d : Drawing) (k j : ℕ) → k < sides d.polygon → j ≤ points_on d k + 1 → place_of d (offset d k + j) ≡ j
place_is d k j lk lj = ap (λ l. offset d k + j - offset d l) (side_is d k j lk lj) ∙ omega arith

-- what a segment is glued to
pub glued_is : (d : Drawing) (k j : ℕ) → k < sides d.polygon → j ≤ points_on d k → glued_to d (offset d k + j) ≡ offset d (partner d.polygon k) + (points_on d k - j)
glued_is d k j lk lj =
    let a = side_is d k j lk (omega (arith, lj)) in
    let b = place_is d k j lk (omega (arith, lj)) in
    ap (λ l. offset d (partner d.polygon l) + (points_on d l - place_of d (offset d k + j))) a ∙ ap (λ p. offset d (partner d.polygon k) + (points_on d k - p)) b

-- it is a segment too
pub glued_segment_of : (d : Drawing) → IsEmbedded d → (s : ℕ) → IsSegment d s → IsSegment d (glued_to d s)
glued_segment_of d ok s h = record {
  side = partner d.polygon h.side;
  place = points_on d h.side - h.place;
  side_in = ok.polygon.pairs.in_range h.side h.side_in;
  place_in = omega (arith, points_partner d ok.polygon h.side);
  is = ap (glued_to d) h.is ∙ glued_is d h.side h.place h.side_in h.place_in;
}

-- a gap is base
pub gap_base : (d : Drawing) (k : ℕ) → k < sides d.polygon → is_base d (gap d k) ≡ true
gap_base d k l = some_passes (same_piece (chords d) (gap d k)) (gap d k) (gaps d) (mem_to_map (gap d) k (below (sides d.polygon)) (below_mem (sides d.polygon) k l)) (same_piece_refl (chords d) (gap d k))

-- each span of a piece that isn't base is a segment
pub inner_segment : (d : Drawing) (s : ℕ) → s < span_count d → is_base d s ≡ false → IsSegment d s
inner_segment d s l h =
    let (k, j, lk, lj, e) = find_place d (sides d.polygon) s l in
    elim (cases_eq j (points_on d k + 1)) [
      | inl q ↦
          (let g : s ≡ gap d k = omega (arith, e, q) in
          absurd (false≢true (sym h ∙ (ap (is_base d) g ∙ gap_base d k lk))))
      | inr n ↦ record { side = k; place = j; side_in = lk; place_in = omega (arith, lj, n); is = e }
    ]

-- a segment has a number of the place order
pub segment_in : (d : Drawing) (s : ℕ) → IsSegment d s → s < span_count d
segment_in d s h = omega (arith, h.is, h.place_in, offset_rises d h.side (sides d.polygon) h.side_in)
