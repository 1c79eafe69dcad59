-- What is read of a drawing that is kept.
use Rattle.std.proofs.Common.{◌≡◌, ℕ, zero, suc, ◌+◌, ◌<◌, ◌≤◌, ◌^◌, Bool, List, [], ◌∷◌, length, get_or, ◌∙◌, ap, subst, arith}
use Rattle.std.specs.List.{flat_map}
use Rattle.std.proofs.lemmas.List.{get_or_read, length-append}
use Rattle.obd_base.specs.declared.points.Exit.{Exit}
use Rattle.drawing.specs.Pieces.{span_count}
use Rattle.page_surface.specs.Drawing.{Drawing, offset, points_on, strand_exits}
use Rattle.page_surface.specs.Polygon.{sides}
use Rattle.drawing.specs.Kept.{IsKept}
use Rattle.drawing.specs.Strands.{strand_at}

-- a row is no longer than all rows joined
pub row_within : {X : Type 0} (rows : List (List X)) (i : ℕ) → length (get_or rows i []) ≤ length (flat_map (λ s. s) rows)
row_within [] i = omega arith
row_within (r ∷ rows) zero = omega (arith, length-append r (flat_map (λ s. s) rows))
row_within (r ∷ rows) (suc i) = omega (arith, length-append r (flat_map (λ s. s) rows), row_within rows i)

module _ (made d : Drawing) (seen : made ≡ d) (room points : ℕ) (table : List ℕ) (spare : ℕ) (gone : List Bool) (places : List ℕ) (kept : IsKept made room points table spare gone places) where
  -- it is kept as the drawing that contracts see
  pub seen_kept : IsKept d room points table spare gone places
  seen_kept = subst (λ (x : Drawing). IsKept x room points table spare gone places) seen kept

  -- what is read at a point's number is its strand
  pub strand_read : (k j n x : ℕ) → k < sides d.polygon → j < points_on d k → n ≡ offset made k + j → n + 1 < span_count made → x ≡ get_or table n x → x ≡ strand_at d k j
  strand_read k j n x l lj e ln r =
      let same : offset made k ≡ offset d k = ap (λ (z : Drawing). offset z k) seen in
      get_or_read table n x (omega (arith, kept.strands_are.size, ln)) r 0
      ∙ (ap (λ (i : ℕ). get_or table i 0) (e ∙ ap (λ (o : ℕ). o + j) same) ∙ seen_kept.strands_are.each k j l lj)

-- the exits of a strand can be counted
pub exits_fit : (d : Drawing) (room points : ℕ) (table : List ℕ) (spare : ℕ) (gone : List Bool) (places : List ℕ) (i : ℕ) (exits : List Exit) → IsKept d room points table spare gone places → exits ≡ strand_exits d i → length exits < 2 ^ 28
exits_fit d room points table spare gone places i exits kept is = let e = ap length is in omega (arith, kept.few, row_within d.strands i, e)
