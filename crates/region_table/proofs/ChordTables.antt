-- Where sides begin and the chords of a drawing, as code reads them.
use Rattle.std.proofs.Common.{◌≡◌, ℕ, suc, ◌+◌, ◌<◌, ◌≤◌, ◌^◌, List, [], ◌∷◌, ◌++◌, drop, map, length, get_or, sym, ◌∙◌, ap, ap₂, subst, arith, zero-add}
use Rattle.std.proofs.lemmas.List.{drop_all, map_push}
use Rattle.std.proofs.lemmas.List.FromFn.{get_or-map-range_with_len, length-map-range_with_len}
use Rattle.obd_base.specs.Lists.{below}
use Rattle.obd_base.specs.declared.points.Exit.{Exit}
use Rattle.obd_base.proofs.lists.Below.{below_push}
use Rattle.page_surface.specs.Drawing.{Chord, Drawing, IsEmbedded, cut_strand, end_of, offset, points_on, spot}
use Rattle.page_surface.specs.Polygon.{arc_count, first_side, sides}
use Rattle.drawing.specs.Layout.{offsets_of}
use Rattle.drawing.specs.Pieces.{span_count}
use Rattle.drawing.proofs.Spots.{offset_rises, offset_suc}

-- a list of what a function says of the first numbers, and of one more
pub told_more : {X : Type 0} (f : ℕ → X) (n : ℕ) (x : X) (old after : List X) → old ≡ map f (below n) → x ≡ f n → after ≡ old ++ x ∷ [] → after ≡ map f (below (n + 1))
told_more f n x old after so_far is grown =
    let e : suc n ≡ n + 1 = omega arith in
    grown ∙ (ap₂ (λ xs y. xs ++ y ∷ []) so_far is ∙ (sym (map_push f (below n) n) ∙ (ap (map f) (sym (below_push n)) ∙ ap (λ k. map f (below k)) e)))

-- one side more, and where the next one begins
pub next_start : (d : Drawing) (side start points : ℕ) → start ≡ offset d side → points ≡ points_on d side → start + (points + 2) ≡ offset d (side + 1)
next_start d side start points s p =
    let e : suc side ≡ side + 1 = omega arith in
    omega (arith, s, p, offset_suc d side, ap (offset d) e)

-- which is small
pub start_small : (d : Drawing) (side start points : ℕ) → span_count d < 2 ^ 30 → side < sides d.polygon → start ≡ offset d side → points ≡ points_on d side → start + (points + 2) < 2 ^ 30
start_small d side start points few l s p = omega (arith, s, p, few, offset_rises d side (sides d.polygon) l)

-- the chord between two places of sides that begin at two numbers
abbrev between : Exit → Exit → ℕ → ℕ → Chord
between from to x y = record { from = x + from.place; to = y + to.place }

-- where a strand ends
pub strand_end : (d : Drawing) → IsEmbedded d → (i first : ℕ) (z : Exit) → i < arc_count d.polygon → first ≡ first_side d.polygon i → z ≡ end_of d first
    → (z.side < sides d.polygon) × (z.place ≤ points_on d z.side)
strand_end d ok i first z l f is =
    subst (λ (x : Exit). (x.side < sides d.polygon) × (x.place ≤ points_on d x.side)) (sym is) (subst (λ k. k < sides d.polygon) (sym f) (ok.polygon.first_in_range i l), omega arith)

-- the last chord of a strand
pub strand_done : (d : Drawing) (from z : Exit) (exits : List Exit) (i : ℕ) (c : Chord) (old after all : List Chord) → length exits ≤ i → c ≡ record { from = spot d from; to = spot d z }
    → after ≡ old ++ c ∷ [] → old ++ cut_strand d from (drop i exits) z ≡ all → after ≡ all
strand_done d from z exits i c old after all done chord grown so_far =
    grown ∙ (ap (λ k. old ++ k ∷ []) chord ∙ (ap (λ es. old ++ cut_strand d from es z) (sym (drop_all i exits done)) ∙ so_far))

module _ (d : Drawing) (starts : List ℕ) (is : starts ≡ offsets_of d) where
  -- one number for each side, and one more
  pub starts_size : length starts ≡ suc (sides d.polygon)
  starts_size = ap length is ∙ length-map-range_with_len (offset d) 0 (suc (sides d.polygon))

  -- where a side begins
  pub start_read : (k : ℕ) → k < suc (sides d.polygon) → get_or starts k 0 ≡ offset d k
  start_read k l = ap (λ xs. get_or xs k 0) is ∙ get_or-map-range_with_len (offset d) 0 (suc (sides d.polygon)) k k 0 l (zero-add k)

  -- a place has a number below all spans
  pub place_inside : (k j : ℕ) → k < sides d.polygon → j ≤ points_on d k → get_or starts k 0 + j + 1 < span_count d
  place_inside k j l h = omega (arith, start_read k (omega arith), offset_rises d k (sides d.polygon) l, h)

  -- so it can be read
  pub place_known : (k j : ℕ) → span_count d < 2 ^ 30 → k < sides d.polygon → j ≤ points_on d k → (k < length starts) × (get_or starts k 0 + j < 2 ^ 30)
  place_known k j few l h = (omega (arith, starts_size, l), omega (arith, place_inside k j l h, few))

  -- a chord by its ends
  pub chord_read : (from to : Exit) (c : Chord) → from.side < sides d.polygon → to.side < sides d.polygon
      → c ≡ record { from = get_or starts from.side 0 + from.place; to = get_or starts to.side 0 + to.place } → c ≡ record { from = spot d from; to = spot d to }
  chord_read from to c lf lt e =
      e ∙ ap₂ (between from to) (start_read from.side (omega (arith, lf))) (start_read to.side (omega (arith, lt)))
