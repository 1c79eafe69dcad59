-- The number of a generator's point on a side, as it is made from the point's number on its arc.
use Rattle.std.proofs.Common.{◌≡◌, ◌≢◌, ℕ, ◌+◌, ◌-◌, ◌<◌, ◌≤◌, inl, inr, true, false, cond, eqb, ltb, List, get_or, map, set, sym, ap, subst, arith, ◌∙◌}
use Rattle.std.proofs.lemmas.Bool.{le-ltb, lt-ltb}
use Rattle.std.proofs.lemmas.List.{get_or-set_other}
use Rattle.drawing.specs.Pieces.{span_count}
use Rattle.drawing.specs.Points.{IsGenerator}
use Rattle.drawing.specs.Round.{opposite, point_name, point_of}
use Rattle.empty_domains.proofs.Along.{name_is}
use Rattle.empty_domains.proofs.Diagram.{partner_points}
use Rattle.empty_domains.proofs.Generators.{generator_choice}
use Rattle.empty_domains.proofs.Looks.{point_spot, spot_under}
use Rattle.empty_domains.proofs.Made.{entries, entry_at}
use Rattle.empty_domains.proofs.Standing.{stand_first, stand_second}
use Rattle.empty_domains.proofs.Stands.{stand_names}
use Rattle.empty_domains.specs.Ground.{IsSpot, IsStanding, KeepsOthers}
use Rattle.empty_domains.specs.Strip.{stand}
use Rattle.empty_domains.specs.Walk.{Try, target}
use Rattle.obd_base.specs.Lists.{below}
use Rattle.page_surface.specs.Drawing.{Drawing, IsEmbedded, offset, points_on}
use Rattle.page_surface.specs.Polygon.{arc, arc_count, first_side, second_side, sides}

module _ (d : Drawing) (ok : IsEmbedded d) (y : List ℕ) (from : IsGenerator d y) where
  -- on the side of its arc that is read first
  pub made_first : (k a : ℕ) → k < sides d.polygon → a ≡ arc d.polygon k → first_side d.polygon a ≡ k → stand d y k ≡ offset d k + get_or y a 0
  made_first k a lk e f =
      let la : a < arc_count d.polygon = subst (λ z. z < arc_count d.polygon) (sym e) (ok.polygon.ends k lk).arc_in_range in
      subst (λ z. stand d y z ≡ offset d z + get_or y a 0) f (stand_first d ok y (generator_choice d y from).0 a la)

  -- and on the other side
  pub made_second : (k a : ℕ) → k < sides d.polygon → a ≡ arc d.polygon k → first_side d.polygon a ≢ k
      → stand d y k ≡ offset d k + cond (ltb (get_or y a 0) (points_on d k)) (points_on d k - 1 - get_or y a 0) (points_on d k)
  made_second k a lk e n =
      let la : a < arc_count d.polygon = subst (λ z. z < arc_count d.polygon) (sym e) (ok.polygon.ends k lk).arc_in_range in
      let s : second_side d.polygon a ≡ k = elim (ok.polygon.ends k lk).is_end [
        | inl q ↦ absurd (n (ap (first_side d.polygon) e ∙ sym q))
        | inr q ↦ ap (second_side d.polygon) e ∙ sym q
      ] in
      let at = stand_second d ok y (generator_choice d y from).0 a la in
      let p : points_on d k ≡ points_on d (first_side d.polygon a) = ap (points_on d) (sym s) ∙ partner_points d ok (first_side d.polygon a) in
      subst (λ m. stand d y k ≡ offset d k + cond (ltb (get_or y a 0) m) (m - 1 - get_or y a 0) m) (sym p)
      (subst (λ z. stand d y z ≡ offset d z + cond (ltb (get_or y a 0) (points_on d (first_side d.polygon a))) (points_on d (first_side d.polygon a) - 1 - get_or y a 0) (points_on d (first_side d.polygon a))) s at)

  -- where it isn't the last
  pub made_less : (k a count : ℕ) → k < sides d.polygon → a ≡ arc d.polygon k → first_side d.polygon a ≢ k → count ≡ points_on d k → get_or y a 0 < count → stand d y k ≡ offset d k + (count - 1 - get_or y a 0)
  made_less k a count lk e n m h =
      let s = made_second k a lk e n in
      let t : ltb (get_or y a 0) (points_on d k) ≡ true = lt-ltb _ _ (omega (arith, m)) in
      let f : stand d y k ≡ offset d k + (points_on d k - 1 - get_or y a 0) = rw t at s in
      omega (arith, f, m)

  -- and where it is
  pub made_last : (k a count : ℕ) → k < sides d.polygon → a ≡ arc d.polygon k → first_side d.polygon a ≢ k → count ≡ points_on d k → count ≤ get_or y a 0 → stand d y k ≡ offset d k + count
  made_last k a count lk e n m h =
      let s = made_second k a lk e n in
      let t : ltb (get_or y a 0) (points_on d k) ≡ false = le-ltb _ _ (omega (arith, m)) in
      let f : stand d y k ≡ offset d k + points_on d k = rw t at s in
      omega (arith, f, m)

  -- the point's number on its arc is at most that of all points
  pub point_most : (k a : ℕ) → k < sides d.polygon → a ≡ arc d.polygon k → get_or y a 0 ≤ points_on d k
  point_most k a lk e =
      let la : a < arc_count d.polygon = subst (λ z. z < arc_count d.polygon) (sym e) (ok.polygon.ends k lk).arc_in_range in
      let l = (generator_choice d y from).0.under a la in
      let p : points_on d k ≡ points_on d (first_side d.polygon a) = elim (ok.polygon.ends k lk).is_end [
        | inl q ↦ ap (points_on d) (q ∙ ap (first_side d.polygon) (sym e))
        | inr q ↦ ap (points_on d) (q ∙ ap (second_side d.polygon) (sym e)) ∙ partner_points d ok (first_side d.polygon a)
      ] in
      omega (arith, l, p)

  -- it is a spot
  pub stand_spot : (k : ℕ) → k < sides d.polygon → IsSpot d (stand d y k)
  stand_spot k lk =
      let la = (ok.polygon.ends k lk).arc_in_range in
      point_spot d ok (stand d y k) (name_is d ok (arc d.polygon k) (get_or y (arc d.polygon k) 0) (stand d y k) la ((generator_choice d y from).0.under (arc d.polygon k) la) (stand_names d y k)).0

  -- and so a number of the place order
  pub stand_under : (k : ℕ) → k < sides d.polygon → stand d y k < span_count d
  stand_under k lk = let u = spot_under d ok (stand d y k) (stand_spot k lk) in omega arith

  -- the table of all sides
  pub standing_made : (table : List ℕ) → (n : ℕ) → n ≡ sides d.polygon → table ≡ map (stand d y) (below n) → IsStanding d y table
  standing_made table n e is = record {
    size = entries (stand d y) n table is ∙ e;
    each = λ k l. entry_at (stand d y) n table is k (omega (arith, e));
  }

  -- away from the arcs of a try the numbers are those of the points to which it leads
  pub others_kept : (t : Try) (x from : List ℕ) → x ≡ target d y t → IsStanding d y from → KeepsOthers d x t from
  others_kept t x from e is = record {
    size = is.size;
    each = λ k l n m. (
        let a = arc d.polygon k in
        let p = point_of d (t.start + t.width) in
        let same : get_or x a 0 ≡ get_or y a 0 = ap (λ zs. get_or zs a 0) e ∙ (get_or-set_other (set y t.first p) t.second a _ 0 m ∙ get_or-set_other y t.first a p 0 n) in
        is.each k l ∙ ap (λ j. cond (eqb (first_side d.polygon a) k) (point_name d a j) (opposite d (point_name d a j))) (sym same));
  }
