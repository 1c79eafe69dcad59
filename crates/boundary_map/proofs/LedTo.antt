-- The set tells where a domain leads.
use Rattle.std.proofs.Common.{◌≡◌, ℕ, suc, ◌<◌, inl, inr, Bool, true, false, eqb, ltb, List, get_or, length, refl, sym, ap, subst, arith, ◌∙◌, zero-add}
use Rattle.std.specs.List.{position_or_len}
use Rattle.std.proofs.lemmas.Bool.{and_from, and_parts, cases_Bool, cases_eq, eq-eqb, eqb-true, false≢true, le-ltb, lt-ltb, ne_eqb}
use Rattle.std.proofs.lemmas.List.{ext_get_or}
use Rattle.std.proofs.lemmas.List.Sums.{position_or_len_is}
use Rattle.std.proofs.lemmas.List.FromFn.{get_or-map-range_with_len, get_or-range_with_len, length-map-range_with_len, length-range_with_len}
use Rattle.boundary_map.specs.Sets.{leads_into, led_point, led_to}
use Rattle.drawing.proofs.Lists.{first_is}
use Rattle.drawing.specs.Pieces.{piece_table}
use Rattle.drawing.specs.Points.{IsGenerator, crossings_of, from_spans, to_spans}
use Rattle.hkm_diagram.specs.Domains.{PointRule, met, stands_in}
use Rattle.obd_base.specs.Lists.{below}
use Rattle.page_surface.specs.Drawing.{Drawing}
use Rattle.page_surface.specs.Polygon.{arc_count}

-- the point of a rule into which the set leads and from which it doesn't
into_only : (b c : Bool) (out into : ℕ) → PointRule b c out into → out ≡ 0 → into ≡ 1 → (b ≡ false) × (c ≡ true)
into_only true true out into r o i = absurd (omega (arith, r, i))
into_only true false out into r o i = absurd (omega (arith, r, o))
into_only false true out into r o i = (refl, refl)
into_only false false out into r o i = absurd (omega (arith, r, o, i))

-- at a point of x alone the set leads in
leads_in : (out into : ℕ) → PointRule false true out into → (out ≡ 0) × (into ≡ 1)
leads_in out into r = r

-- where no number below n passes
pub none_passes : (p : ℕ → Bool) (n : ℕ) → ((j : ℕ) → j < n → p j ≡ false) → position_or_len p (below n) ≡ n
none_passes p n h =
    let s = length-range_with_len 0 n in
    position_or_len_is p (below n) n 0 (omega (arith, s))
    (λ k l. let e : get_or (below n) k 0 ≡ k = get_or-range_with_len 0 n k 0 l ∙ zero-add k in subst (λ x. p x ≡ false) (sym e) (h k l))
    (λ l. absurd (omega (arith, s, l)))

module _ (d : Drawing) (y : List ℕ) where
  -- all points keep their rules
  abbrev pub KeepRules : List ℕ → List ℕ → Type 0
  KeepRules x set = (a : ℕ) → a < arc_count d.polygon → (j : ℕ) → j < suc (crossings_of d a)
      → PointRule (stands_in y a j) (stands_in x a j) (met (piece_table d) set (from_spans d a j)) (met (piece_table d) set (to_spans d a j))

  -- the point to which a domain leads is the one that the set tells
  led_is : (x set : List ℕ) → IsGenerator d x → KeepRules x set → (a : ℕ) → a < arc_count d.polygon → led_point d (piece_table d) set (get_or y a 0) a ≡ get_or x a 0
  led_is x set g dom a la = elim (cases_eq (get_or y a 0) (get_or x a 0)) [
    | inl e ↦ (
        let none = none_passes (leads_into d (piece_table d) set a) (suc (crossings_of d a)) (λ j lj. elim (cases_Bool (leads_into d (piece_table d) set a j)) [
          | inr q ↦ q
          | inl q ↦ absurd (
              let (o, i) = and_parts (eqb (met (piece_table d) set (from_spans d a j)) 0) _ q in
              let r = into_only _ _ _ _ (dom a la j lj) (eqb-true _ _ o) (eqb-true _ _ i) in
              false≢true (sym r.0 ∙ (ap (λ k. eqb k j) e ∙ r.1)))
        ]) in
        let n = length-range_with_len 0 (suc (crossings_of d a)) in
        let past : ltb (position_or_len (leads_into d (piece_table d) set a) (below (suc (crossings_of d a)))) (length (below (suc (crossings_of d a)))) ≡ false
        = le-ltb _ _ (omega (arith, none, n)) in
        rw past e)
    | inr ne ↦ (
        let j = get_or x a 0 in
        let lj : j < suc (crossings_of d a) = (let l = g.in_range a la in omega arith) in
        let not_y : stands_in y a j ≡ false = ne_eqb _ _ ne in
        let is_x : stands_in x a j ≡ true = eq-eqb _ _ refl in
        let r : PointRule false true (met (piece_table d) set (from_spans d a j)) (met (piece_table d) set (to_spans d a j))
        = subst (λ c. PointRule false c (met (piece_table d) set (from_spans d a j)) (met (piece_table d) set (to_spans d a j))) is_x
        (subst (λ b. PointRule b (stands_in x a j) (met (piece_table d) set (from_spans d a j)) (met (piece_table d) set (to_spans d a j))) not_y (dom a la j lj)) in
        let here : leads_into d (piece_table d) set a j ≡ true = and_from _ _ (eq-eqb _ _ r.0) (eq-eqb _ _ r.1) in
        let before : (t : ℕ) → t < j → leads_into d (piece_table d) set a t ≡ false = λ t lt. elim (cases_Bool (leads_into d (piece_table d) set a t)) [
          | inr q ↦ q
          | inl q ↦ absurd (
              let (o, i) = and_parts (eqb (met (piece_table d) set (from_spans d a t)) 0) _ q in
              let k = into_only _ _ _ _ (dom a la t (omega arith)) (eqb-true _ _ o) (eqb-true _ _ i) in
              let same : get_or x a 0 ≡ t = eqb-true _ _ k.1 in
              omega arith)
        ] in
        let first = first_is (leads_into d (piece_table d) set a) (suc (crossings_of d a)) j lj here before in
        let n = length-range_with_len 0 (suc (crossings_of d a)) in
        let within : ltb (position_or_len (leads_into d (piece_table d) set a) (below (suc (crossings_of d a)))) (length (below (suc (crossings_of d a)))) ≡ true
        = lt-ltb _ _ (omega (arith, first, n)) in
        rw within first)
  ]

  -- the set leads to one point on each arc,
  led_length : (set : List ℕ) → length (led_to d (piece_table d) y set) ≡ arc_count d.polygon
  led_length set = length-map-range_with_len (λ a. led_point d (piece_table d) set (get_or y a 0) a) 0 (arc_count d.polygon)

  -- each the point that it tells
  led_at : (set : List ℕ) (a : ℕ) → a < arc_count d.polygon → get_or (led_to d (piece_table d) y set) a 0 ≡ led_point d (piece_table d) set (get_or y a 0) a
  led_at set a l = get_or-map-range_with_len (λ a. led_point d (piece_table d) set (get_or y a 0) a) 0 (arc_count d.polygon) a a 0 l (zero-add a)

  -- a domain's set tells where it leads
  pub led_to_is : (x set : List ℕ) → IsGenerator d x → KeepRules x set → led_to d (piece_table d) y set ≡ x
  led_to_is x set g dom = ext_get_or 0 (led_to d (piece_table d) y set) x (led_length set ∙ sym g.one_each)
      (λ a l. let la : a < arc_count d.polygon = omega (arith, led_length set) in led_at set a la ∙ led_is x set g dom a la)
