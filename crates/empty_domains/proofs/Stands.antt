-- The numbers at which a generator's points stand: one on each side, and none where a set of a domain leads in.
use Rattle.std.proofs.Common.{◌≡◌, ℕ, suc, ◌+◌, ◌-◌, ◌≤◌, ◌<◌, ◌⊎◌, inl, inr, Bool, true, false, cond, eqb, List, get_or, refl, sym, ap, subst, arith, ◌∙◌}
use Rattle.std.proofs.lemmas.Bool.{cases_eq, cases_Bool, eqb-true, eq-eqb, ne_eqb}
use Rattle.drawing.specs.Pieces.{inner_pieces}
use Rattle.drawing.specs.Points.{crossings_of}
use Rattle.drawing.specs.Round.{opposite, side_of, point_name, arc_of}
use Rattle.empty_domains.proofs.Along.{Names}
use Rattle.empty_domains.proofs.ArcPoints.{name_point}
use Rattle.empty_domains.proofs.Begins.{IsChoice}
use Rattle.empty_domains.proofs.Diagram.{IsPoint, of_point, opp_twice, partner_on, partner_points}
use Rattle.empty_domains.proofs.DomainGeneral.{Rules, rule_at_name}
use Rattle.empty_domains.proofs.Places.{side_is, opposite_is, opposite_end}
use Rattle.hkm_diagram.proofs.ContactColumn.{mark}
use Rattle.empty_domains.specs.Strip.{stand, stands}
use Rattle.hkm_diagram.specs.Domains.{PointRule, stands_in}
use Rattle.obd_base.specs.Lists.{has}
use Rattle.page_surface.specs.Drawing.{Drawing, points_on, IsEmbedded}
use Rattle.page_surface.specs.Polygon.{partner, sides, arc, arc_count, first_side}

-- one of two numbers by a test is one of them
picked : (b : Bool) (n m : ℕ) → (cond b n m ≡ n) ⊎ (cond b n m ≡ m)
picked true n m = inl refl
picked false n m = inr refl

-- at a point of y no quadrant leads in
no_quadrant : (c : Bool) (out into : ℕ) → PointRule true c out into → into ≡ 0
no_quadrant true out into r = r.1
no_quadrant false out into r = r.1

module _ (d : Drawing) (y : List ℕ) where
  -- the number on a side is a name of the point on the side's arc
  pub stand_names : (k : ℕ) → Names d (arc d.polygon k) (get_or y (arc d.polygon k) 0) (stand d y k)
  stand_names k =
      let n = point_name d (arc d.polygon k) (get_or y (arc d.polygon k) 0) in
      picked (eqb (first_side d.polygon (arc d.polygon k)) k) n (opposite d n)

  -- by the arc of the side
  pub stand_at : (k a : ℕ) → arc d.polygon k ≡ a
      → stand d y k ≡ cond (eqb (first_side d.polygon a) k) (point_name d a (get_or y a 0)) (opposite d (point_name d a (get_or y a 0)))
  stand_at k a e = go (arc d.polygon k) e
    where
      go : (b : ℕ) → b ≡ a → cond (eqb (first_side d.polygon b) k) (point_name d b (get_or y b 0)) (opposite d (point_name d b (get_or y b 0)))
          ≡ cond (eqb (first_side d.polygon a) k) (point_name d a (get_or y a 0)) (opposite d (point_name d a (get_or y a 0)))
      go b q = rw q refl

module _ (d : Drawing) (ok : IsEmbedded d) (y : List ℕ) (choice : IsChoice d y) where
  -- the second name of a point is on the second side
  second_on : (a j : ℕ) → a < arc_count d.polygon → j ≤ crossings_of d a → side_of d (opposite d (point_name d a j)) ≡ partner d.polygon (first_side d.polygon a)
  second_on a j la lj = elim (cases_eq j (points_on d f)) [
    | inr n ↦ ap (side_of d) (opposite_is d f j lf (omega arith)) ∙ side_is d s (points_on d f - 1 - j) ls (omega (arith, p))
    | inl q ↦ ap (side_of d) (ap (λ i. opposite d (point_name d a i)) q ∙ opposite_end d f lf) ∙ side_is d s (points_on d f) ls (omega (arith, p))
  ]
    where
      f : ℕ
      f = first_side d.polygon a

      s : ℕ
      s = partner d.polygon f

      lf : f < sides d.polygon
      lf = ok.polygon.first_in_range a la

      ls : s < sides d.polygon
      ls = partner_on d ok f lf

      p : points_on d s ≡ points_on d f
      p = partner_points d ok f

  -- a name of y's point is the number on its side
  pub stand_is : (a n : ℕ) → a < arc_count d.polygon → Names d a (get_or y a 0) n → stand d y (side_of d n) ≡ n
  stand_is a n la (inl e) =
      let f = first_side d.polygon a in
      let lf = ok.polygon.first_in_range a la in
      let lj : get_or y a 0 ≤ points_on d f = choice.under a la in
      let on : side_of d n ≡ f = ap (side_of d) e ∙ side_is d f (get_or y a 0) lf (omega arith) in
      let at = stand_at d y f a (ok.polygon.first_named a la) in
      let yes : eqb f f ≡ true = eq-eqb f f refl in
      ap (stand d y) on ∙ (at ∙ (rw yes (sym e)))
  stand_is a n la (inr e) =
      let f = first_side d.polygon a in
      let lf = ok.polygon.first_in_range a la in
      let s = partner d.polygon f in
      let on : side_of d n ≡ s = ap (side_of d) e ∙ second_on a (get_or y a 0) la (choice.under a la) in
      let at = stand_at d y s a (ok.polygon.shared f lf ∙ ok.polygon.first_named a la) in
      let no : eqb f s ≡ false = ne_eqb f s (λ q. ok.polygon.pairs.moves f lf (sym q)) in
      ap (stand d y) on ∙ (at ∙ (rw no (sym e)))

  -- the number on a side is there
  pub stand_on : (k : ℕ) → k < sides d.polygon → side_of d (stand d y k) ≡ k
  stand_on k lk = go (ok.polygon.ends k lk).is_end
    where
      a : ℕ
      a = arc d.polygon k

      la : a < arc_count d.polygon
      la = (ok.polygon.ends k lk).arc_in_range

      f : ℕ
      f = first_side d.polygon a

      lf : f < sides d.polygon
      lf = ok.polygon.first_in_range a la

      lj : get_or y a 0 ≤ points_on d f
      lj = choice.under a la

      go : (k ≡ f) ⊎ (k ≡ partner d.polygon f) → side_of d (stand d y k) ≡ k
      go (inl e) =
          let yes : eqb f k ≡ true = eq-eqb f k (sym e) in
          let n : stand d y k ≡ point_name d a (get_or y a 0) = rw yes refl in
          ap (side_of d) n ∙ (side_is d f (get_or y a 0) lf (omega (arith, lj)) ∙ sym e)
      go (inr e) =
          let no : eqb f k ≡ false = ne_eqb f k (λ q. ok.polygon.pairs.moves f lf (sym (q ∙ e))) in
          let n : stand d y k ≡ opposite d (point_name d a (get_or y a 0)) = rw no refl in
          ap (side_of d) n ∙ (second_on a (get_or y a 0) la lj ∙ sym e)

  -- where a domain's set leads into a point, none of y's points stands
  pub no_stand : (area : List ℕ) → (inner : (s : ℕ) → has area s ≡ true → has (inner_pieces d) s ≡ true) → (x : List ℕ) → Rules d y x area
      → (n : ℕ) → IsPoint d n → 0 < mark d area n + mark d area (opposite d n) → stands d y n ≡ false
  no_stand area inner x rules n p l = elim (cases_Bool (stands d y n)) [
    | inr q ↦ q
    | inl q ↦ absurd (clash (eqb-true _ _ q))
  ]
    where
      side_under : (z : ℕ) → IsPoint d z → side_of d z < sides d.polygon
      side_under z q = let (k, j, lk, lj, e) = of_point d z q in subst (λ i. i < sides d.polygon) (sym (ap (side_of d) e ∙ side_is d k j lk (omega arith))) lk

      clash : stand d y (side_of d n) ≡ n → ⊥
      clash e =
          let a = arc_of d n in
          let la = (ok.polygon.ends (side_of d n) (side_under n p)).arc_in_range in
          let h : Names d a (get_or y a 0) n = subst (λ z. Names d a (get_or y a 0) z) e (stand_names d y (side_of d n)) in
          let w = point_name d a (get_or y a 0) in
          let r = rule_at_name d ok area inner y x rules a (get_or y a 0) la (choice.under a la) in
          let one : stands_in y a (get_or y a 0) ≡ true = eq-eqb _ _ refl in
          let r' : PointRule true (stands_in x a (get_or y a 0)) (mark d area (suc w) + mark d area (suc (opposite d w))) (mark d area w + mark d area (opposite d w))
          = subst (λ b. PointRule b (stands_in x a (get_or y a 0)) (mark d area (suc w) + mark d area (suc (opposite d w))) (mark d area w + mark d area (opposite d w))) one r in
          let z : mark d area w + mark d area (opposite d w) ≡ 0 = no_quadrant _ _ _ r' in
          let t = opp_twice d ok w (name_point d ok a (get_or y a 0) la (choice.under a la)) in
          elim h [
            | inl q ↦ absurd (let l' : 0 < mark d area w + mark d area (opposite d w) = subst (λ i. 0 < mark d area i + mark d area (opposite d i)) q l in omega arith)
            | inr q ↦ absurd (
                let l' : 0 < mark d area (opposite d w) + mark d area (opposite d (opposite d w)) = subst (λ i. 0 < mark d area i + mark d area (opposite d i)) q l in
                let l'' : 0 < mark d area (opposite d w) + mark d area w = subst (λ i. 0 < mark d area (opposite d w) + mark d area i) t l' in
                omega arith)
          ]
