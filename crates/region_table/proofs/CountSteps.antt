-- One step of the pass that counts spans by their names, as code takes it: sizes and first spans.
use Rattle.std.proofs.Common.{◌≡◌, ℕ, suc, ◌+◌, ◌<◌, ◌≤◌, cond, eqb, List, length, get_or, set, sym, ◌∙◌, ap, subst, arith, inl, inr}
use Rattle.std.proofs.lemmas.Bool.{cases_eq, eq-eqb, ne_eqb}
use Rattle.std.proofs.lemmas.List.{get_or-set_other, get_or-set_same, length-set, set-get_or}
use Rattle.obd_base.proofs.lists.Below.{bit, count_suc}
use Rattle.obd_base.proofs.lists.Counts.{some_counted}
use Rattle.region_table.specs.Counted.{AreCounted, first_so_far, size_so_far}
use Rattle.region_table.proofs.CountedTable.{first_found, first_stays}

module _ (name : ℕ → ℕ) (x next : ℕ) (sizes firsts : List ℕ) (counted : AreCounted name x sizes firsts) (follows : next ≡ x + 1) (inside : name x < length sizes) where
  next_is : next ≡ suc x
  next_is = omega arith

  -- one span more with the name of x
  grown : (p : ℕ) → size_so_far name (suc x) p ≡ size_so_far name x p + bit (eqb (name x) p)
  grown p = count_suc (λ s. eqb (name s) p) x

  -- another name keeps its first span
  first_kept : (p : ℕ) → 0 < size_so_far name x p → first_so_far name (suc x) p ≡ first_so_far name x p
  first_kept p some =
      let (s, low, high, met) = some_counted (λ s. eqb (name s) p) 0 x some in
      first_stays (λ s. eqb (name s) p) x s (omega (arith, high)) met

  -- the size is raised
  raised : (v : ℕ) → v ≡ get_or sizes (name x) 0 + 1 → (p : ℕ) → p < length (set sizes (name x) v) → get_or (set sizes (name x) v) p 0 ≡ size_so_far name (suc x) p
  raised v e p l =
      let lp : p < length sizes = omega (arith, l, length-set sizes (name x) v) in
      elim (cases_eq p (name x)) [
        | inl q ↦
            let one : bit (eqb (name x) p) ≡ 1 = ap bit (eq-eqb (name x) p (sym q)) in
            let here : get_or (set sizes (name x) v) p 0 ≡ v = subst (λ r. get_or (set sizes (name x) v) r 0 ≡ v) (sym q) (get_or-set_same sizes (name x) v 0 inside) in
            let was : get_or sizes (name x) 0 ≡ size_so_far name x p = subst (λ r. get_or sizes r 0 ≡ size_so_far name x p) q (counted.size p lp) in
            omega (arith, here, e, was, one, grown p)
        | inr n ↦
            let none : bit (eqb (name x) p) ≡ 0 = ap bit (ne_eqb (name x) p (λ q. n (sym q))) in
            omega (arith, get_or-set_other sizes (name x) p v 0 n, counted.size p lp, none, grown p)
      ]

  -- a name that was met stays with its first span
  count_again : (v : ℕ) → v ≡ get_or sizes (name x) 0 + 1 → 0 < get_or sizes (name x) 0 → AreCounted name next (set sizes (name x) v) firsts
  count_again v e some = subst (λ n. AreCounted name n (set sizes (name x) v) firsts) (sym next_is) (record {
    size = raised v e;
    first = λ p l met.
        let lp : p < length sizes = omega (arith, l, length-set sizes (name x) v) in
        let before : 0 < size_so_far name x p = elim (cases_eq p (name x)) [
          | inl q ↦ (let was : get_or sizes (name x) 0 ≡ size_so_far name x p = subst (λ r. get_or sizes r 0 ≡ size_so_far name x p) q (counted.size p lp) in omega (arith, was, some))
          | inr n ↦ (let none : bit (eqb (name x) p) ≡ 0 = ap bit (ne_eqb (name x) p (λ q. n (sym q))) in omega (arith, met, none, grown p))
        ] in
        counted.first p lp before ∙ sym (first_kept p before);
  })

  -- a new name has this span as its first
  count_first : (v : ℕ) → v ≡ get_or sizes (name x) 0 + 1 → get_or sizes (name x) 0 ≡ 0 → name x < length firsts → AreCounted name next (set sizes (name x) v) (set firsts (name x) x)
  count_first v e none fits = subst (λ n. AreCounted name n (set sizes (name x) v) (set firsts (name x) x)) (sym next_is) (record {
    size = raised v e;
    first = λ p l met.
        let lp : p < length sizes = omega (arith, l, length-set sizes (name x) v) in
        elim (cases_eq p (name x)) [
          | inl q ↦
              let zero : size_so_far name x p ≡ 0 = (let was : get_or sizes (name x) 0 ≡ size_so_far name x p = subst (λ r. get_or sizes r 0 ≡ size_so_far name x p) q (counted.size p lp) in omega (arith, was, none)) in
              let here : get_or (set firsts (name x) x) p 0 ≡ x = subst (λ r. get_or (set firsts (name x) x) r 0 ≡ x) (sym q) (get_or-set_same firsts (name x) x 0 fits) in
              here ∙ sym (first_found (λ s. eqb (name s) p) x zero (eq-eqb (name x) p (sym q)))
          | inr n ↦
              let other : bit (eqb (name x) p) ≡ 0 = ap bit (ne_eqb (name x) p (λ q. n (sym q))) in
              let before : 0 < size_so_far name x p = omega (arith, met, other, grown p) in
              get_or-set_other firsts (name x) p x 0 n ∙ (counted.first p lp before ∙ sym (first_kept p before))
        ];
  })

  -- in both cases
  pub count_met : (v w : ℕ) → v ≡ get_or sizes (name x) 0 + 1 → w ≡ cond (eqb (get_or sizes (name x) 0) 0) x (get_or firsts (name x) 0) → name x < length firsts
      → AreCounted name next (set sizes (name x) v) (set firsts (name x) w)
  count_met v w e f fits = elim (cases_eq (get_or sizes (name x) 0) 0) [
    | inl q ↦
        let is : w ≡ x = f ∙ ap (λ b. cond b x (get_or firsts (name x) 0)) (eq-eqb (get_or sizes (name x) 0) 0 q) in
        subst (λ n. AreCounted name next (set sizes (name x) v) (set firsts (name x) n)) (sym is) (count_first v e q fits)
    | inr n ↦
        let is : w ≡ get_or firsts (name x) 0 = f ∙ ap (λ b. cond b x (get_or firsts (name x) 0)) (ne_eqb (get_or sizes (name x) 0) 0 n) in
        let same : set firsts (name x) w ≡ firsts = ap (set firsts (name x)) is ∙ set-get_or firsts (name x) 0 in
        subst (λ fs. AreCounted name next (set sizes (name x) v) fs) (sym same) (count_again v e (omega (arith, n)))
  ]

-- no size is above the number of spans so far
pub still_few : (sizes : List ℕ) (p v x next : ℕ) → next ≡ x + 1 → p < length sizes → v ≡ get_or sizes p 0 + 1 → ((q : ℕ) → get_or sizes q 0 ≤ x) → (q : ℕ) → get_or (set sizes p v) q 0 ≤ next
still_few sizes p v x next follows l e few q = elim (cases_eq q p) [
  | inl same ↦
      let here : get_or (set sizes p v) q 0 ≡ v = subst (λ r. get_or (set sizes p v) r 0 ≡ v) (sym same) (get_or-set_same sizes p v 0 l) in
      omega (arith, here, e, few p)
  | inr n ↦ omega (arith, get_or-set_other sizes p q v 0 n, few q)
]
