-- The rule at a number of the place order is the rule at the point that it names.
use Rattle.std.proofs.Common.{◌≡◌, ℕ, suc, ◌+◌, ◌≤◌, ◌<◌, inl, inr, Bool, true, false, eqb, List, get_or, refl, sym, ap, subst, arith, ◌∙◌}
use Rattle.std.proofs.lemmas.Bool.{eqb-true, eq-eqb, and_parts, and_from}
use Rattle.drawing.specs.Pieces.{inner_pieces, piece_table}
use Rattle.drawing.specs.Points.{crossings_of, from_spans, to_spans}
use Rattle.drawing.specs.Round.{arc_of, opposite, point_name, point_of, side_of}
use Rattle.empty_domains.proofs.Along.{Names, name_is}
use Rattle.empty_domains.proofs.ArcPoints.{name_point}
use Rattle.empty_domains.proofs.Begins.{IsChoice}
use Rattle.empty_domains.proofs.Diagram.{opp_twice}
use Rattle.empty_domains.proofs.DomainGeneral.{in_value, out_value}
use Rattle.empty_domains.proofs.Stands.{stand_is, stand_names}
use Rattle.hkm_diagram.proofs.ContactColumn.{mark}
use Rattle.empty_domains.specs.NearTest.{spot_rule}
use Rattle.empty_domains.specs.Strip.{stand, stands}
use Rattle.hkm_diagram.specs.Domains.{PointRule, keeps_rule, met, rule_at, stands_in}
use Rattle.obd_base.specs.Lists.{has}
use Rattle.page_surface.specs.Drawing.{Drawing, IsEmbedded}
use Rattle.page_surface.specs.Polygon.{arc_count}

-- tests that tell one another are one
pub same_test : (a b : Bool) → (a ≡ true → b ≡ true) → (b ≡ true → a ≡ true) → a ≡ b
same_test true b h k = sym (h refl)
same_test false true h k = k refl
same_test false false h k = refl

-- the test of the rule tells the rule
pub rule_told : (b c : Bool) (out into : ℕ) → rule_at b c out into ≡ true → PointRule b c out into
rule_told true false out into h = let (p, q) = and_parts (eqb out 1) (eqb into 0) h in (eqb-true _ _ p, eqb-true _ _ q)
rule_told false true out into h = let (p, q) = and_parts (eqb out 0) (eqb into 1) h in (eqb-true _ _ p, eqb-true _ _ q)
rule_told true true out into h = let (p, q) = and_parts (eqb out 0) (eqb into 0) h in (eqb-true _ _ p, eqb-true _ _ q)
rule_told false false out into h = eqb-true _ _ h

-- and the rule passes the test
pub rule_tested : (b c : Bool) (out into : ℕ) → PointRule b c out into → rule_at b c out into ≡ true
rule_tested true false out into h = and_from _ _ (eq-eqb _ _ h.0) (eq-eqb _ _ h.1)
rule_tested false true out into h = and_from _ _ (eq-eqb _ _ h.0) (eq-eqb _ _ h.1)
rule_tested true true out into h = and_from _ _ (eq-eqb _ _ h.0) (eq-eqb _ _ h.1)
rule_tested false false out into h = eq-eqb _ _ h

module _ (d : Drawing) (ok : IsEmbedded d) where
  -- a point is one of the generator's where it stands at either name
  pub stands_is : (z : List ℕ) → IsChoice d z → (a j n : ℕ) → a < arc_count d.polygon → j ≤ crossings_of d a → Names d a j n → stands d z n ≡ stands_in z a j
  stands_is z choice a j n la lj h = same_test (stands d z n) (stands_in z a j) to from
    where
      here : (arc_of d n ≡ a) × (point_of d n ≡ j)
      here = let (p, e, q) = name_is d ok a j n la lj h in (e, q)

      to : stands d z n ≡ true → stands_in z a j ≡ true
      to t =
          let e = eqb-true (stand d z (side_of d n)) n t in
          let m : Names d (arc_of d n) (get_or z (arc_of d n) 0) n
          = subst (λ w. Names d (arc_of d n) (get_or z (arc_of d n) 0) w) e (stand_names d z (side_of d n)) in
          let m' : Names d a (get_or z a 0) n = subst (λ b. Names d b (get_or z b 0) n) here.0 m in
          let (p, q, r) = name_is d ok a (get_or z a 0) n la (choice.under a la) m' in
          eq-eqb _ _ (sym r ∙ here.1)

      from : stands_in z a j ≡ true → stands d z n ≡ true
      from t =
          let e = eqb-true (get_or z a 0) j t in
          let m : Names d a (get_or z a 0) n = subst (λ i. Names d a i n) (sym e) h in
          eq-eqb _ _ (stand_is d ok z choice a n la m)

  module _ (set : List ℕ) (inner : (s : ℕ) → has set s ≡ true → has (inner_pieces d) s ≡ true) where
    -- the quadrants at a name are those of the point
    out_named : (a j n : ℕ) → a < arc_count d.polygon → j ≤ crossings_of d a → Names d a j n
        → mark d set (suc n) + mark d set (suc (opposite d n)) ≡ met (piece_table d) set (from_spans d a j)
    out_named a j n la lj (inl e) = subst (λ k. mark d set (suc k) + mark d set (suc (opposite d k)) ≡ met (piece_table d) set (from_spans d a j)) (sym e) (sym (out_value d ok set inner a j la lj))
    out_named a j n la lj (inr e) =
        let w = point_name d a j in
        let t = opp_twice d ok w (name_point d ok a j la lj) in
        let v = out_value d ok set inner a j la lj in
        let back : mark d set (suc (opposite d (opposite d w))) ≡ mark d set (suc w) = ap (λ k. mark d set (suc k)) t in
        subst (λ k. mark d set (suc k) + mark d set (suc (opposite d k)) ≡ met (piece_table d) set (from_spans d a j)) (sym e) (omega (arith, v, back))

    in_named : (a j n : ℕ) → a < arc_count d.polygon → j ≤ crossings_of d a → Names d a j n
        → mark d set n + mark d set (opposite d n) ≡ met (piece_table d) set (to_spans d a j)
    in_named a j n la lj (inl e) = subst (λ k. mark d set k + mark d set (opposite d k) ≡ met (piece_table d) set (to_spans d a j)) (sym e) (sym (in_value d ok set inner a j la lj))
    in_named a j n la lj (inr e) =
        let w = point_name d a j in
        let t = opp_twice d ok w (name_point d ok a j la lj) in
        let v = in_value d ok set inner a j la lj in
        let back : mark d set (opposite d (opposite d w)) ≡ mark d set w = ap (mark d set) t in
        subst (λ k. mark d set k + mark d set (opposite d k) ≡ met (piece_table d) set (to_spans d a j)) (sym e) (omega (arith, v, back))

    -- the rule at a name is the rule at the point
    pub spot_is : (y x : List ℕ) → IsChoice d y → IsChoice d x → (a j n : ℕ) → a < arc_count d.polygon → j ≤ crossings_of d a → Names d a j n
        → spot_rule d (λ s. has set (get_or (piece_table d) s 0)) y x n ≡ keeps_rule d (piece_table d) y x set a j
    spot_is y x cy cx a j n la lj h =
        go (stands d y n) (stands d x n) (mark d set (suc n) + mark d set (suc (opposite d n))) (mark d set n + mark d set (opposite d n))
        (stands_is y cy a j n la lj h) (stands_is x cx a j n la lj h) (out_named a j n la lj h) (in_named a j n la lj h)
      where
        go : (b c : Bool) (o i : ℕ) → b ≡ stands_in y a j → c ≡ stands_in x a j → o ≡ met (piece_table d) set (from_spans d a j) → i ≡ met (piece_table d) set (to_spans d a j)
            → rule_at b c o i ≡ keeps_rule d (piece_table d) y x set a j
        go b c o i e1 e2 e3 e4 = rw (e1, e2, e3, e4) refl
