-- The polygon of partners that pair sides off.
use Rattle.std.proofs.Common.{◌≡◌, ℕ, ◌<◌, List, length, true, sym, ◌∙◌, ap, subst, arith, eqb, ltb, not, get_or, inl, inr}
use Rattle.std.proofs.lemmas.Bool.{and_parts, cases_lt, eqb-false, eqb-true, ltb-true, not-true}
use Rattle.std.proofs.lemmas.List.{get_or_past}
use Rattle.page_surface.specs.Polygon.{is_paired, Pairs, IsPolygon, IsSideOf, arc, arc_count, first_side, is_first, paired}
use Rattle.obd_base.proofs.lists.Below.{all_below, count_less, less_of_count}
use Rattle.page_surface.proofs.Firsts.{first_count, low, low_first, low_or_partner, low_shared, twice_firsts, arc_is, arc_of_first, first_side_of, first_of_arc}

module _ (ps : List ℕ) (ok : Pairs (paired ps)) where
  -- each side is one of the two sides of its arc
  ends : (k : ℕ) → k < length ps → IsSideOf (paired ps) k (arc (paired ps) k)
  ends k l = record {
    arc_in_range = omega (arith, twice_firsts ps ok, arc_is ps k l, count_less (is_first ps) (low ps k) (length ps) (low_first ps ok k l) (omega arith));
    is_end = rw s (low_or_partner ps ok k);
  }
    where
      s : first_side (paired ps) (arc (paired ps) k) ≡ low ps k
      s = ap (first_side (paired ps)) (arc_is ps k l) ∙ first_side_of ps ok (low ps k) (omega arith) (low_first ps ok k l)

  -- the side that is read first, of an arc
  first : (a : ℕ) → a < arc_count (paired ps) → (first_side (paired ps) a < length ps) × (is_first ps (first_side (paired ps) a) ≡ true) × (first_count ps (first_side (paired ps) a) ≡ a)
  first a l =
      let (f, h, t, e) = first_of_arc ps a (omega (arith, twice_firsts ps ok)) in
      let s : f ≡ first_side (paired ps) a = sym (first_side_of ps ok f h t) ∙ ap (first_side (paired ps)) e in
      subst (λ (x : ℕ). (x < length ps) × (is_first ps x ≡ true) × (first_count ps x ≡ a)) s (h, t, e)

-- partners that pair sides off make a polygon
pub paired_is_polygon : (partners : List ℕ) → 0 < length partners → Pairs (paired partners) → IsPolygon (paired partners)
paired_is_polygon ps some ok = record {
  not_empty = some;
  pairs = ok;
  even = omega (arith, twice_firsts ps ok);
  ends = ends ps ok;
  shared = λ k l. arc_is ps _ (ok.in_range k l) ∙ (ap (first_count ps) (low_shared ps ok k) ∙ sym (arc_is ps k l));
  first_in_range = λ a l. (first ps ok a l).0;
  first_named = λ a l. let (h, t, e) = first ps ok a l in arc_of_first ps _ h t ∙ e;
  in_order = λ a b l h.
      let (ha, ta, ea) = first ps ok a (omega arith) in
      let (hb, tb, eb) = first ps ok b h in
      less_of_count (is_first ps) _ _ tb (omega (arith, ea, eb));
}

-- partners that pass the test pair sides off
pub pairs_from_test : (partners : List ℕ) → is_paired partners ≡ true → Pairs (paired partners)
pairs_from_test ps h = record {
  in_range = λ k l. ltb-true _ _ (at k l).0;
  twice = λ k. elim (cases_lt k (length ps)) [ inl l ↦ eqb-true _ _ (at k l).1.0 | inr l ↦ (let e = get_or_past ps k k l in ap (λ (j : ℕ). get_or ps j j) e ∙ e) ];
  moves = λ k l e. eqb-false _ _ (not-true _ (at k l).1.1) e;
}
  where
    at : (k : ℕ) → k < length ps → (ltb (get_or ps k k) (length ps) ≡ true) × ((eqb (get_or ps (get_or ps k k) (get_or ps k k)) k ≡ true) × (not (eqb (get_or ps k k) k) ≡ true))
    at k l =
        let both = and_parts (ltb (get_or ps k k) (length ps)) _ (all_below _ (length ps) h k l) in
        (both.0, and_parts (eqb (get_or ps (get_or ps k k) (get_or ps k k)) k) _ both.1)

-- so they make a polygon
pub polygon_from_test : (partners : List ℕ) → 0 < length partners → is_paired partners ≡ true → IsPolygon (paired partners)
polygon_from_test ps some h = paired_is_polygon ps some (pairs_from_test ps h)
