-- A domain is a general set: it leads out of just the points of y that are not in x, and into those of x that are not in y.
use Rattle.std.proofs.Common.{◌≡◌, ℕ, suc, ◌+◌, ◌-◌, ◌≤◌, ◌<◌, ◌⊎◌, inl, inr, ◌≢◌, Bool, true, false, eqb, List, get_or, refl, sym, ap, subst, arith, ◌∙◌}
use Rattle.std.proofs.lemmas.Bool.{cases_eq, eqb-true, eq-eqb, ne_eqb, false≢true}
use Rattle.drawing.specs.Pieces.{piece_table, inner_pieces}
use Rattle.drawing.specs.Points.{crossings_of, from_spans, to_spans}
use Rattle.drawing.specs.Round.{opposite, point_name}
use Rattle.empty_domains.proofs.ArcPoints.{name_point, named_point}
use Rattle.empty_domains.proofs.Circle.{IsMark, IsGeneral, Source, Sink, Corner, even, out, out_opp, into, into_opp, after_end}
use Rattle.empty_domains.proofs.Diagram.{IsCross, IsEnd, IsPoint, other_of, opp_end, opp_twice}
use Rattle.empty_domains.proofs.PieceMark.{set_mark}
use Rattle.empty_domains.proofs.Places.{opposite_is, opposite_end}
use Rattle.empty_domains.proofs.Rest.{corner_opp}
use Rattle.empty_domains.proofs.Strands.{drawing_circle}
use Rattle.hkm_diagram.proofs.ContactColumn.{mark, out_is, in_is, out_is_last, in_is_last}
use Rattle.hkm_diagram.specs.Domains.{met, stands_in, PointRule}
use Rattle.obd_base.specs.Lists.{has}
use Rattle.page_surface.specs.Drawing.{Drawing, offset, IsEmbedded}
use Rattle.page_surface.specs.Polygon.{arc_count, first_side, second_side}

-- the rules at all points
abbrev pub Rules : Drawing → List ℕ → List ℕ → List ℕ → Type 0
Rules d y x set = (a : ℕ) → a < arc_count d.polygon → (j : ℕ) → j < suc (crossings_of d a)
    → PointRule (stands_in y a j) (stands_in x a j) (met (piece_table d) set (from_spans d a j)) (met (piece_table d) set (to_spans d a j))

module _ (d : Drawing) (ok : IsEmbedded d) (set : List ℕ) (inner : (s : ℕ) → has set s ≡ true → has (inner_pieces d) s ≡ true) where
  -- the marks of the set
  abbrev f : ℕ → ℕ
  f = mark d set

  m : IsMark (other_of d) (IsCross d) (IsEnd d) f
  m = set_mark d ok set inner

  quiet_end : (x : ℕ) → IsEnd d x → f (suc x) ≡ 0
  quiet_end = after_end (other_of d) (opposite d) (IsCross d) (IsEnd d) (drawing_circle d ok) f m

  -- the quadrants that lead out of a point, and those that lead in
  pub out_value : (a j : ℕ) → a < arc_count d.polygon → j ≤ crossings_of d a
      → met (piece_table d) set (from_spans d a j) ≡ f (suc (point_name d a j)) + f (suc (opposite d (point_name d a j)))
  out_value a j la lj = elim (cases_eq j (crossings_of d a)) [
    | inr n ↦
        (let s = second_side d.polygon a in
        let o : suc (opposite d (point_name d a j)) ≡ offset d s + (crossings_of d a - j)
        = ap suc (opposite_is d (first_side d.polygon a) j (ok.polygon.first_in_range a la) (omega arith)) ∙ omega arith in
        let e : offset d (first_side d.polygon a) + suc j ≡ suc (point_name d a j) = omega arith in
        out_is d set a j (omega arith) ∙ (ap (λ n. f n + f (offset d s + (crossings_of d a - j))) e ∙ ap (λ n. f (suc (point_name d a j)) + f n) (sym o)))
    | inl q ↦
        (let p : IsEnd d (point_name d a j) = record { side = first_side d.polygon a; on = ok.polygon.first_in_range a la; number = ap (λ i. point_name d a i) q } in
        let none : met (piece_table d) set (from_spans d a j) ≡ 0 = subst (λ i. met (piece_table d) set (from_spans d a i) ≡ 0) (sym q) (out_is_last d set a) in
        omega (arith, none, quiet_end (point_name d a j) p, quiet_end (opposite d (point_name d a j)) (opp_end d ok (point_name d a j) p)))
  ]

  -- and those that lead in
  pub in_value : (a j : ℕ) → a < arc_count d.polygon → j ≤ crossings_of d a
      → met (piece_table d) set (to_spans d a j) ≡ f (point_name d a j) + f (opposite d (point_name d a j))
  in_value a j la lj = elim (cases_eq j (crossings_of d a)) [
    | inr n ↦
        (let s = second_side d.polygon a in
        let o : opposite d (point_name d a j) ≡ offset d s + (crossings_of d a - suc j)
        = opposite_is d (first_side d.polygon a) j (ok.polygon.first_in_range a la) (omega arith) ∙ omega arith in
        in_is d set a j (omega arith) ∙ ap (λ n. f (point_name d a j) + f n) (sym o))
    | inl q ↦
        (let s = second_side d.polygon a in
        let c = crossings_of d a in
        let all = in_is_last d set a in
        let zero_off : c - 0 ≡ c = omega arith in
        let all' : met (piece_table d) set (to_spans d a c) ≡ f (point_name d a c) + f (offset d s + c)
        = all ∙ ap (λ n. f (point_name d a c) + f (offset d s + n)) zero_off in
        let o : opposite d (point_name d a c) ≡ offset d s + c = opposite_end d (first_side d.polygon a) (ok.polygon.first_in_range a la) in
        let last : met (piece_table d) set (to_spans d a c) ≡ f (point_name d a c) + f (opposite d (point_name d a c))
        = all' ∙ ap (λ n. f (point_name d a c) + f n) (sym o) in
        subst (λ i. met (piece_table d) set (to_spans d a i) ≡ f (point_name d a i) + f (opposite d (point_name d a i))) (sym q) last)
  ]

  module _ (y x : List ℕ) (rules : Rules d y x set) where
    -- the rule at a point in terms of the four spans round it
    pub rule_at_name : (a j : ℕ) → a < arc_count d.polygon → j ≤ crossings_of d a
        → PointRule (stands_in y a j) (stands_in x a j)
        (f (suc (point_name d a j)) + f (suc (opposite d (point_name d a j)))) (f (point_name d a j) + f (opposite d (point_name d a j)))
    rule_at_name a j la lj =
        subst (λ n. PointRule (stands_in y a j) (stands_in x a j) (f (suc (point_name d a j)) + f (suc (opposite d (point_name d a j)))) n) (in_value a j la lj)
        (subst (λ n. PointRule (stands_in y a j) (stands_in x a j) n (met (piece_table d) set (to_spans d a j))) (out_value a j la lj) (rules a la j (omega arith)))

    bits : (s : ℕ) → f s ≤ 1
    bits = m.bit

    corner_by : (n : ℕ) → opposite d (opposite d n) ≡ n → (b c : Bool)
        → PointRule b c (f (suc n) + f (suc (opposite d n))) (f n + f (opposite d n)) → Corner (opposite d) f n
    corner_by n t true false r = elim (cases_eq (f (suc n)) 1) [
      | inl e ↦ out (record { after = e; after_opp = omega (arith, r); before = omega (arith, r); before_opp = omega (arith, r) })
      | inr e ↦ out_opp (record {
        after = (let u = bits (suc n) in let v = bits (suc (opposite d n)) in omega (arith, r));
        after_opp = rw t (let u = bits (suc n) in omega arith);
        before = omega (arith, r);
        before_opp = rw t (omega (arith, r));
      })
    ]
    corner_by n t false true r = elim (cases_eq (f n) 1) [
      | inl e ↦ into (record { before = e; before_opp = omega (arith, r); after = omega (arith, r); after_opp = omega (arith, r) })
      | inr e ↦ into_opp (record {
        before = (let u = bits n in let v = bits (opposite d n) in omega (arith, r));
        before_opp = rw t (let u = bits n in omega arith);
        after = omega (arith, r);
        after_opp = rw t (omega (arith, r));
      })
    ]
    corner_by n t true true r = even (omega (arith, r))
    corner_by n t false false r = even r

    -- a domain is a general set
    pub domain_general : IsGeneral (other_of d) (opposite d) (IsCross d) (IsEnd d) f
    domain_general = record { mark = m; point = points }
      where
        at : (a j : ℕ) → a < arc_count d.polygon → j ≤ crossings_of d a → Corner (opposite d) f (point_name d a j)
        at a j la lj = corner_by (point_name d a j) (opp_twice d ok (point_name d a j) (name_point d ok a j la lj)) _ _ (rule_at_name a j la lj)

        points : (n : ℕ) → IsPoint d n → Corner (opposite d) f n
        points n p =
            let (a, j, la, lj, h) = named_point d ok n p in
            elim h [
              | inl e ↦ subst (λ k. Corner (opposite d) f k) (sym e) (at a j la lj)
              | inr e ↦ corner_opp (opposite d) f n (opp_twice d ok n p)
                  (let back : point_name d a j ≡ opposite d n = sym (opp_twice d ok (point_name d a j) (name_point d ok a j la lj)) ∙ ap (opposite d) (sym e) in
                  subst (λ k. Corner (opposite d) f k) back (at a j la lj))
            ]

    -- a corner out of which the set leads is a point of y and not of x
    pub source_of : (a j : ℕ) → a < arc_count d.polygon → j ≤ crossings_of d a → (n : ℕ) → (n ≡ point_name d a j) ⊎ (n ≡ opposite d (point_name d a j))
        → Source (opposite d) f n → (get_or y a 0 ≡ j) × (get_or x a 0 ≢ j)
    source_of a j la lj n h s = by (stands_in y a j) (stands_in x a j) refl refl (rule_at_name a j la lj)
      where
        w : ℕ
        w = point_name d a j

        t : opposite d (opposite d w) ≡ w
        t = opp_twice d ok w (name_point d ok a j la lj)

        leads : (f (suc w) + f (suc (opposite d w)) ≡ 1) × (f w + f (opposite d w) ≡ 0)
        leads = elim h [
          | inl e ↦ (let s' : Source (opposite d) f w = subst (λ k. Source (opposite d) f k) e s in (omega (arith, s'.after, s'.after_opp), omega (arith, s'.before, s'.before_opp)))
          | inr e ↦ (let s' : Source (opposite d) f (opposite d w) = subst (λ k. Source (opposite d) f k) e s in
              let p : f (suc w) ≡ 0 = rw t at s'.after_opp in
              let q : f w ≡ 0 = rw t at s'.before_opp in
              (omega (arith, s'.after), omega (arith, s'.before)))
        ]

        by : (b c : Bool) → eqb (get_or y a 0) j ≡ b → eqb (get_or x a 0) j ≡ c
            → PointRule b c (f (suc w) + f (suc (opposite d w))) (f w + f (opposite d w)) → (get_or y a 0 ≡ j) × (get_or x a 0 ≢ j)
        by true false e q r = (eqb-true _ _ e, λ k. false≢true (sym q ∙ eq-eqb _ _ k))
        by false true e q r = absurd (omega (arith, r, leads))
        by true true e q r = absurd (omega (arith, r, leads))
        by false false e q r = absurd (omega (arith, r, leads))

    -- a corner into which the set leads is a point of x and not of y
    pub sink_of : (a j : ℕ) → a < arc_count d.polygon → j ≤ crossings_of d a → (n : ℕ) → (n ≡ point_name d a j) ⊎ (n ≡ opposite d (point_name d a j))
        → Sink (opposite d) f n → (get_or x a 0 ≡ j) × (get_or y a 0 ≢ j)
    sink_of a j la lj n h s = by (stands_in y a j) (stands_in x a j) refl refl (rule_at_name a j la lj)
      where
        w : ℕ
        w = point_name d a j

        t : opposite d (opposite d w) ≡ w
        t = opp_twice d ok w (name_point d ok a j la lj)

        leads : (f (suc w) + f (suc (opposite d w)) ≡ 0) × (f w + f (opposite d w) ≡ 1)
        leads = elim h [
          | inl e ↦ (let s' : Sink (opposite d) f w = subst (λ k. Sink (opposite d) f k) e s in (omega (arith, s'.after, s'.after_opp), omega (arith, s'.before, s'.before_opp)))
          | inr e ↦ (let s' : Sink (opposite d) f (opposite d w) = subst (λ k. Sink (opposite d) f k) e s in
              let p : f (suc w) ≡ 0 = rw t at s'.after_opp in
              let q : f w ≡ 0 = rw t at s'.before_opp in
              (omega (arith, s'.after), omega (arith, s'.before)))
        ]

        by : (b c : Bool) → eqb (get_or y a 0) j ≡ b → eqb (get_or x a 0) j ≡ c
            → PointRule b c (f (suc w) + f (suc (opposite d w))) (f w + f (opposite d w)) → (get_or x a 0 ≡ j) × (get_or y a 0 ≢ j)
        by false true e q r = (eqb-true _ _ q, λ k. false≢true (sym e ∙ eq-eqb _ _ k))
        by true false e q r = absurd (omega (arith, r, leads))
        by true true e q r = absurd (omega (arith, r, leads))
        by false false e q r = absurd (omega (arith, r, leads))

    -- and each point of y that x lacks is such a corner, by one of its names
    pub source_at : (a : ℕ) → a < arc_count d.polygon → get_or y a 0 ≤ crossings_of d a → get_or y a 0 ≢ get_or x a 0
        → Source (opposite d) f (point_name d a (get_or y a 0)) ⊎ Source (opposite d) f (opposite d (point_name d a (get_or y a 0)))
    source_at a la l ne =
        let j = get_or y a 0 in
        let n = point_name d a j in
        let t = opp_twice d ok n (name_point d ok a j la l) in
        let one : stands_in y a j ≡ true = eq-eqb _ _ refl in
        let two : stands_in x a j ≡ false = ne_eqb _ _ (λ e. ne (sym e)) in
        let r : PointRule true false (f (suc n) + f (suc (opposite d n))) (f n + f (opposite d n))
        = subst (λ b. PointRule b false (f (suc n) + f (suc (opposite d n))) (f n + f (opposite d n))) one
        (subst (λ c. PointRule (stands_in y a j) c (f (suc n) + f (suc (opposite d n))) (f n + f (opposite d n))) two (rule_at_name a j la l)) in
        elim (cases_eq (f (suc n)) 1) [
          | inl e ↦ inl (record { after = e; after_opp = omega (arith, r); before = omega (arith, r); before_opp = omega (arith, r) })
          | inr e ↦ inr (record {
            after = (let u = bits (suc n) in let v = bits (suc (opposite d n)) in omega (arith, r));
            after_opp = rw t (let u = bits (suc n) in omega arith);
            before = omega (arith, r);
            before_opp = rw t (omega (arith, r));
          })
        ]
