-- A segment and the one glued to it lie in two pieces.
use Rattle.std.proofs.Common.{◌≡◌, ℕ, ◌+◌, ◌-◌, ◌<◌, ◌≤◌, suc, false, map, sym, ◌∙◌, ap, subst, arith, ◌⊎◌, inl, inr, ◌≢◌}
use Rattle.std.proofs.lemmas.Bool.{false_from_ne_true}
use Rattle.obd_base.specs.Lists.{Mem, below}
use Rattle.obd_base.proofs.lists.Below.{below_mem}
use Rattle.page_surface.specs.Polygon.{arc, arc_count, first_side, partner, second_side, sides}
use Rattle.page_surface.specs.Drawing.{Drawing, IsEmbedded, chords, offset, points_on}
use Rattle.drawing.specs.Pieces.{piece_of, pieces, same_piece}
use Rattle.drawing.specs.Points.{crossings_of}
use Rattle.drawing.specs.Trees.{glued_link, glued_links}
use Rattle.obd_base.proofs.lists.Members.{mem_flat, mem_to_map}
use Rattle.drawing.proofs.TreeLaws.{glued_tree}
use Rattle.region_table.proofs.fingers.TreeLoops.{no_loop}
use Rattle.drawing.proofs.Ends.{same_count}
use Rattle.drawing.proofs.PieceCount.{same_name}

module _ (d : Drawing) (ok : IsEmbedded d) where
  -- glued pairs are links
  glued_listed : (a j : ℕ) → a < arc_count d.polygon → j ≤ crossings_of d a → Mem (glued_link d a j) (glued_links d)
  glued_listed a j la lj =
      mem_flat (λ a. map (glued_link d a) (below (suc (crossings_of d a)))) (below (arc_count d.polygon)) a (glued_link d a j) (below_mem _ a la)
      (mem_to_map (glued_link d a) j (below (suc (crossings_of d a))) (below_mem (suc (crossings_of d a)) j (omega arith)))

  -- their two ends are two pieces
  pub glued_apart : (k j : ℕ) → k < sides d.polygon → j ≤ points_on d k → piece_of d (offset d k + j) ≢ piece_of d (offset d (partner d.polygon k) + (points_on d k - j))
  glued_apart k j lk lj h = go (ok.polygon.ends k lk).is_end
    where
      a : ℕ
      a = arc d.polygon k

      la : a < arc_count d.polygon
      la = (ok.polygon.ends k lk).arc_in_range

      f : ℕ
      f = first_side d.polygon a

      go : (k ≡ f) ⊎ (k ≡ second_side d.polygon a) → ⊥
      go (inl e) =
          let l : j ≤ points_on d f = subst (λ x. j ≤ points_on d x) e lj in
          no_loop (pieces d) (glued_links d) (glued_tree d ok) (glued_link d a j) (glued_listed a j la l)
          (subst (λ x. piece_of d (offset d x + j) ≡ piece_of d (offset d (partner d.polygon x) + (points_on d x - j))) e h)
      go (inr e) =
          let same : points_on d k ≡ points_on d f = ap (points_on d) e ∙ same_count d ok f in
          let partnered : partner d.polygon k ≡ f = ap (partner d.polygon) e ∙ ok.polygon.pairs.twice f in
          let l : points_on d f - j ≤ points_on d f = omega arith in
          let z : points_on d f - (points_on d f - j) ≡ j = omega (arith, same, lj) in
          let target : offset d (partner d.polygon k) + (points_on d k - j) ≡ offset d f + (points_on d f - j)
          = ap (λ x. offset d x + (points_on d k - j)) partnered ∙ ap (λ x. offset d f + (x - j)) same in
          let source : offset d k + j ≡ offset d (second_side d.polygon a) + (points_on d f - (points_on d f - j))
          = ap (λ x. offset d x + j) e ∙ ap (λ x. offset d (second_side d.polygon a) + x) (sym z) in
          no_loop (pieces d) (glued_links d) (glued_tree d ok) (glued_link d a (points_on d f - j)) (glued_listed a (points_on d f - j) la l)
          (sym (ap (piece_of d) target) ∙ (sym h ∙ ap (piece_of d) source))

  -- so no chord-free way leads from the one to the other
  pub segments_apart : (k j : ℕ) → k < sides d.polygon → j ≤ points_on d k → same_piece (chords d) (offset d k + j) (offset d (partner d.polygon k) + (points_on d k - j)) ≡ false
  segments_apart k j lk lj = false_from_ne_true _ (λ h. glued_apart k j lk lj (same_name d _ _ h))
