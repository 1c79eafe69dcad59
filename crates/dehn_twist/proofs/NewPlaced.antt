-- The surgery is a drawing with right places; the numbers of its points.
use Rattle.std.proofs.Common.{◌≡◌, ◌-◌, ◌<◌, ◌≤◌, Bool, true, false, ltb, not, List, length, refl, sym, ◌∙◌, ap, arith}
use Rattle.std.specs.List.{list_all, sum_by}
use Rattle.std.proofs.lemmas.Bool.{lt-ltb}
use Rattle.std.proofs.lemmas.List.FromFn.{length-map-range_with_len}
use Rattle.obd_base.specs.Lists.{below}
use Rattle.obd_base.specs.declared.points.Exit.{Exit}
use Rattle.obd_base.specs.declared.points.Sign.{Sign}
use Rattle.obd_base.proofs.lists.Below.{bit, mem_below}
use Rattle.obd_base.proofs.lists.Sums.{member_adds, sum_none}
use Rattle.page_surface.specs.Drawing.{Drawing, IsEmbedded, IsPlaced, all_exits, end_of, strand_exits}
use Rattle.page_surface.specs.Polygon.{arc_count, first_side, second_side, sides}
use Rattle.page_surface.proofs.EmbeddedTest.{all_from}
use Rattle.curve_paths.specs.Curves.{IsCurve, curve_entry, exit_at}
use Rattle.dehn_twist.specs.Surgery.{copy_of, meeting_count, surgery, surgery_strand}
use Rattle.dehn_twist.proofs.CopySums.{all_sum}
use Rattle.dehn_twist.proofs.Merged.{is_placed'}
use Rattle.dehn_twist.proofs.NewPlaces.{places_new}
use Rattle.curve_paths.proofs.CurvePoints.{exit_in}
use Rattle.drawing.proofs.Placed.{side_in-placed}

module _ (d : Drawing) (dok : IsEmbedded d) (c : List Exit) (curve : IsCurve d.polygon c) (sign : Sign) where
  -- all exits of the surgery are on sides
  sides_new : list_all (λ e. ltb e.side (sides d.polygon)) (all_exits (surgery d c sign)) ≡ true
  sides_new =
      let n = sides d.polygon in
      let s = λ (e : Exit). bit (not (ltb e.side n)) in
      let in_range : (e : Exit) → e.side < n → s e ≡ 0 = λ e l. ap (λ b. bit (not b)) (lt-ltb e.side n l) in
      let all = all_sum d dok c curve sign s (λ q x h l. in_range (copy_of d c (meeting_count d c) (curve_entry d.polygon c q) (meeting_count d c - 1 - x)) (dok.polygon.pairs.in_range q.side h.0) ∙ sym (in_range (copy_of d c (meeting_count d c) q x) h.0)) in
      let one = sum_none (λ e. s e) (all_exits d) (λ e m. in_range e (side_in-placed d (is_placed' d dok c curve) e m)) in
      let two = sum_none (λ b. sum_by (λ x. s (copy_of d c (meeting_count d c) (exit_at c b) x)) (below (meeting_count d c))) (below (length c)) (λ b m.
      sum_none (λ x. s (copy_of d c (meeting_count d c) (exit_at c b) x)) (below (meeting_count d c)) (λ x k. in_range (exit_at c b) (exit_in d.polygon dok.polygon.pairs c curve b (mem_below (length c) b m)).0)) in
      all_from (λ e. ltb e.side n) (all_exits (surgery d c sign)) (λ e m. let l = member_adds s e (all_exits (surgery d c sign)) m in test (ltb e.side n) (omega (arith, l, all, one, two)))
    where
      test : (b : Bool) → bit (not b) ≤ 0 → b ≡ true
      test true l = refl
      test false l = absurd (omega (arith, l))

  -- the surgery is a drawing
  pub new_placed : IsPlaced (surgery d c sign)
  new_placed = record {
    polygon = dok.polygon;
    strand_count = length-map-range_with_len (λ i. surgery_strand d c sign (meeting_count d c) (end_of d (second_side d.polygon i)) (strand_exits d i) (end_of d (first_side d.polygon i))) 0 (arc_count d.polygon);
    on_sides = sides_new;
    places = places_new d dok c curve sign;
  }
