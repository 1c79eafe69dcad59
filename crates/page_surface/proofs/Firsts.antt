-- The sides that are read before their partners, of partners that pair sides off.
use Rattle.std.proofs.Common.{◌≡◌, ℕ, ◌*◌, ◌<◌, ◌≤◌, min, true, not, List, length, get_or, count_by, nat_eq, refl, sym, ◌∙◌, ap, arith, ◌⊎◌, inl, inr, ltb-true, ltb-false, lt-ltb, le-ltb}
use Rattle.std.proofs.lemmas.Bool.{cases_lt, eq-eqb, ne_eqb, not-true, not_from_false}
use Rattle.std.proofs.lemmas.List.Sums.{length-filter, position_or_len_is}
use Rattle.std.proofs.lemmas.List.Filters.{length-filter_both}
use Rattle.std.proofs.lemmas.List.FromFn.{length-range_with_len, length-map-range_with_len, get_or-map-range_with_len}
use Rattle.page_surface.specs.Polygon.{Pairs, partner, arc, first_side, is_first, arc_among, paired}
use Rattle.obd_base.specs.Lists.{below}
use Rattle.obd_base.proofs.lists.Below.{count_less, no_more_pass, passing_of}

-- how many sides are read before their partners
abbrev pub first_count : List ℕ → ℕ → ℕ
first_count ps m = count_by (is_first ps) (below m)

-- the lower of a side and its partner
abbrev pub low : List ℕ → ℕ → ℕ
low ps k = min k (get_or ps k k)

-- a side that is less than its partner is read first
pub first_from_less : (ps : List ℕ) (k : ℕ) → k < get_or ps k k → is_first ps k ≡ true
first_from_less ps k l = lt-ltb k (get_or ps k k) l

-- a side that is read first is less than its partner
pub less_from_first : (ps : List ℕ) (k : ℕ) → is_first ps k ≡ true → k < get_or ps k k
less_from_first ps k t = ltb-true k (get_or ps k k) t

-- a side that is read first is the lower one
pub low_of_first : (ps : List ℕ) (k : ℕ) → is_first ps k ≡ true → low ps k ≡ k
low_of_first ps k t = let l = less_from_first ps k t in omega arith

-- the arc of a side is as many as are read first before it and its partner
pub arc_is : (ps : List ℕ) (k : ℕ) → k < length ps → arc (paired ps) k ≡ first_count ps (low ps k)
arc_is ps k l = get_or-map-range_with_len (arc_among ps) 0 (length ps) k k 0 l (omega arith)

-- the arc of a side that is read first
pub arc_of_first : (ps : List ℕ) (f : ℕ) → f < length ps → is_first ps f ≡ true → arc (paired ps) f ≡ first_count ps f
arc_of_first ps f l t = arc_is ps f l ∙ ap (first_count ps) (low_of_first ps f t)

-- each arc has a side that is read first
pub first_of_arc : (ps : List ℕ) (a : ℕ) → a < first_count ps (length ps) → (f : ℕ) × (f < length ps) × (is_first ps f ≡ true) × (first_count ps f ≡ a)
first_of_arc ps a l = passing_of (is_first ps) (length ps) a l

module _ (ps : List ℕ) (ok : Pairs (paired ps)) where
  -- each side is the lower one or its partner is
  pub low_or_partner : (k : ℕ) → (k ≡ low ps k) ⊎ (k ≡ partner (paired ps) (low ps k))
  low_or_partner k = elim (cases_lt k (get_or ps k k)) [
    | inl l ↦ inl (omega arith)
    | inr l ↦
        let e : low ps k ≡ get_or ps k k = omega arith in
        inr (rw e (sym (ok.twice k)))
  ]

  -- the lower one is read first
  pub low_first : (k : ℕ) → k < length ps → is_first ps (low ps k) ≡ true
  low_first k l = elim (cases_lt k (get_or ps k k)) [
    | inl h ↦ (let e : low ps k ≡ k = omega arith in rw e (first_from_less ps k h))
    | inr h ↦
        let e : low ps k ≡ get_or ps k k = omega arith in
        let t : partner (paired ps) (partner (paired ps) k) ≡ k = ok.twice k in
        let ne : get_or ps k k ≡ k → ⊥ = ok.moves k l in
        rw e (first_from_less ps (get_or ps k k) (rw t (omega arith)))
  ]

  -- the lower one is the same for a side and its partner
  pub low_shared : (k : ℕ) → low ps (partner (paired ps) k) ≡ low ps k
  low_shared k = let t : partner (paired ps) (partner (paired ps) k) ≡ k = ok.twice k in rw t (omega arith)

  -- a partner is another side's partner only if the sides are one
  same_from_partner : (x y : ℕ) → partner (paired ps) x ≡ partner (paired ps) y → x ≡ y
  same_from_partner x y e = sym (ok.twice x) ∙ (ap (partner (paired ps)) e ∙ ok.twice y)

  -- there are twice as many sides as sides that are read first
  pub twice_firsts : length ps ≡ 2 * first_count ps (length ps)
  twice_firsts =
      omega (
        arith,
        few,
        many,
        length-filter_both (is_first ps) (λ k. not (is_first ps k)) (λ k. refl) (below (length ps)),
        length-filter (is_first ps) (below (length ps)),
        length-filter (λ k. not (is_first ps k)) (below (length ps)),
        length-range_with_len 0 (length ps),
      )
    where
      few : first_count ps (length ps) ≤ count_by (λ k. not (is_first ps k)) (below (length ps))
      few = no_more_pass (is_first ps) (λ k. not (is_first ps k)) (partner (paired ps)) (length ps) same_from_partner (λ x l t. ok.in_range x l)
          (λ x l t. not_from_false _ (
          let h = less_from_first ps x t in
          let e : partner (paired ps) (partner (paired ps) x) ≡ x = ok.twice x in
          le-ltb _ _ (rw e (omega arith))))

      many : count_by (λ k. not (is_first ps k)) (below (length ps)) ≤ first_count ps (length ps)
      many = no_more_pass (λ k. not (is_first ps k)) (is_first ps) (partner (paired ps)) (length ps) same_from_partner (λ x l t. ok.in_range x l)
          (λ x l t.
          let h : get_or ps x x ≤ x = ltb-false x (get_or ps x x) (not-true _ t) in
          let e : partner (paired ps) (partner (paired ps) x) ≡ x = ok.twice x in
          let ne : get_or ps x x ≡ x → ⊥ = ok.moves x l in
          first_from_less ps (get_or ps x x) (rw e (omega arith)))

  -- a side that is read first is the first side of its arc
  pub first_side_of : (f : ℕ) → f < length ps → is_first ps f ≡ true → first_side (paired ps) (first_count ps f) ≡ f
  first_side_of f l t =
      position_or_len_is (λ b. nat_eq b (first_count ps f)) (paired ps).arcs f 0 (omega (arith, length-map-range_with_len (arc_among ps) 0 (length ps)))
      (λ k h. ne_eqb _ _ (λ e. absurd (omega (arith, e, arc_is ps k (omega arith), count_less (is_first ps) (low ps k) f (low_first k (omega arith)) (omega arith)))))
      (λ h. eq-eqb _ _ (arc_of_first ps f l t))
