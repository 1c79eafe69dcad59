-- A tree of sums: what stands before a leaf, and one more at a leaf.
use Rattle.std.proofs.Common.{◌≡◌, ℕ, zero, suc, ◌+◌, ◌-◌, ◌*◌, ◌/◌, ◌%◌, ◌<◌, ◌≤◌, ◌^◌, cond, eqb, List, length, get_or, take, drop, set, sum, refl, sym, ◌∙◌, ap, ap₂, subst, arith, ◌≢◌, ◌⊎◌, inl, inr}
use Rattle.std.specs.Int.{IsPowerOfTwo}
use Rattle.std.proofs.Math.Nat.{pow-succ'}
use Rattle.std.proofs.lemmas.Bool.{cases_eq, cases_lt, eq-eqb, ne_eqb}
use Rattle.std.proofs.lemmas.List.{drop-replicate, drop-set-add, drop-set-lt, get_or-replicate, get_or_default, get_or-drop, get_or-set_other, get_or-set_same, length-drop, length-replicate, length-set}
use Rattle.std.proofs.Math.ListN.{get_or-eq_default}
use Rattle.std.proofs.lemmas.List.Folds.{sum_by-replicate}
use Rattle.std.proofs.lemmas.List.Sums.{sum_by_more}
use Rattle.nice_plan.specs.Counts.{IsTree, one_more, zeros}

-- half of a power of two that isn't 1
pub half_power : (n : ℕ) → IsPowerOfTwo n → 1 < n → (n ≡ n / 2 + n / 2) × IsPowerOfTwo (n / 2)
half_power n (zero, e) l = absurd (let w : ⊥ = omega (arith, e, l) in w)
half_power n (suc k, e) l =
    let p : n ≡ 2 * 2 ^ k = e ∙ pow-succ' 2 k in
    let h : n / 2 ≡ 2 ^ k = omega (arith, p) in
    (omega (arith, p, h), (k, h))

zeros_long : (n : ℕ) → length (zeros n) ≡ n
zeros_long n = length-replicate {A = ℕ} n 0

-- a node of a tree without anything
none_at : (n i : ℕ) → get_or (zeros n) i 0 ≡ 0
none_at n i = elim (cases_lt i n) [
  | inl l ↦ get_or-replicate n i 0 0 l
  | inr l ↦ get_or-eq_default (zeros n) 0 (omega (arith, zeros_long n, l))
]

-- the counts of such a tree
pub none_left : (leaves : ℕ) → drop leaves (zeros (2 * leaves)) ≡ zeros leaves
none_left leaves = let e : 2 * leaves - leaves ≡ leaves = omega arith in drop-replicate leaves (2 * leaves) 0 ∙ ap zeros e

pub none_tree : (leaves : ℕ) → IsPowerOfTwo leaves → leaves ≤ 2 ^ 31 → IsTree leaves (zeros (2 * leaves))
none_tree leaves power few =
    let nothing : sum (drop leaves (zeros (2 * leaves))) ≡ 0 = (let a = sum_by-replicate (λ (x : ℕ). x) leaves 0 in ap sum (none_left leaves) ∙ omega (arith, a)) in
    record {
      power = power;
      size = omega (arith, zeros_long (2 * leaves));
      few_leaves = few;
      pairs = λ i some l. omega (arith, none_at (2 * leaves) i, none_at (2 * leaves) (2 * i), none_at (2 * leaves) (2 * i + 1));
      small = λ i. omega (arith, none_at (2 * leaves) i);
      few = omega (arith, nothing);
    }

-- one where the numbers are equal
abbrev pub one : ℕ → ℕ → ℕ
one i j = cond (eqb i j) 1 0

one_same : (i j : ℕ) → i ≡ j → one i j ≡ 1
one_same i j e = rw (eq-eqb i j e) refl

one_other : (i j : ℕ) → i ≢ j → one i j ≡ 0
one_other i j n = rw (ne_eqb i j n) refl

-- a row with one node more
more_sum : (xs : List ℕ) (i : ℕ) → i < length xs → sum (take (suc i) xs) ≡ sum (take i xs) + get_or xs i 0
more_sum xs i l =
    let e : suc i ≡ i + 1 = omega arith in
    ap (λ n. sum (take n xs)) e ∙ sum_by_more (λ x. x) xs i 0 l

module _ (leaves : ℕ) (nodes : List ℕ) (tree : IsTree leaves nodes) where
  -- as much stands before a node as before its first child
  children_sum : (w y : ℕ) → 1 ≤ w → w + w ≤ leaves → y ≤ w → sum (take (y + y) (drop (w + w) nodes)) ≡ sum (take y (drop w nodes))
  children_sum w zero some within l = refl
  children_sum w (suc y) some within l =
      let low = drop w nodes in
      let high = drop (w + w) nodes in
      let twice : suc y + suc y ≡ suc (suc (y + y)) = omega arith in
      let size = tree.size in
      let a = more_sum high (suc (y + y)) (omega (arith, length-drop (w + w) nodes, size, within, l, some)) in
      let b = more_sum high (y + y) (omega (arith, length-drop (w + w) nodes, size, within, l, some)) in
      let c = more_sum low y (omega (arith, length-drop w nodes, size, within, l, some)) in
      let here = get_or-drop w nodes y 0 in
      let first = get_or-drop (w + w) nodes (y + y) 0 in
      let second = get_or-drop (w + w) nodes (suc (y + y)) 0 in
      let first_is : w + w + (y + y) ≡ 2 * (w + y) = omega arith in
      let second_is : w + w + suc (y + y) ≡ 2 * (w + y) + 1 = omega arith in
      let parent = tree.pairs (w + y) (omega (arith, some)) (omega (arith, within, l)) in
      let below = children_sum w y some within (omega (arith, l)) in
      ap (λ n. sum (take n high)) twice ∙ omega (arith, a, b, c, here, first, second, ap (λ n. get_or nodes n 0) first_is, ap (λ n. get_or nodes n 0) second_is, parent, below)

  -- a step up from a level to the one above
  pub step_up_even : (first at sum_so_far whole : ℕ) → IsPowerOfTwo first → 1 < first → first ≤ leaves → at < first → at % 2 ≢ 1
      → sum_so_far + sum (take at (drop first nodes)) ≡ whole → sum_so_far + sum (take (at / 2) (drop (first / 2) nodes)) ≡ whole
  step_up_even first at so_far whole p l within inside even h =
      let (half, _) = half_power first p l in
      let twice : at ≡ at / 2 + at / 2 = omega (arith, even) in
      let a = children_sum (first / 2) (at / 2) (omega (arith, l)) (omega (arith, half, within)) (omega (arith, inside)) in
      let b = ap₂ (λ i n. sum (take i (drop n nodes))) twice half in
      omega (arith, a, b, h)

  pub step_up_odd : (first at sum_so_far whole x z : ℕ) → IsPowerOfTwo first → 1 < first → first ≤ leaves → at < first → at % 2 ≡ 1
      → sum_so_far + sum (take at (drop first nodes)) ≡ whole → x ≡ get_or nodes (first + at - 1) z
      → sum_so_far + x + sum (take (at / 2) (drop (first / 2) nodes)) ≡ whole
  step_up_odd first at so_far whole x z p l within inside odd h is =
      let x_is : x ≡ get_or nodes (first + at - 1) 0 = is ∙ get_or_default nodes (first + at - 1) z 0 (omega (arith, tree.size, within, inside, l)) in
      let (half, _) = half_power first p l in
      let twice : at ≡ suc (at / 2 + at / 2) = omega (arith, odd) in
      let a = children_sum (first / 2) (at / 2) (omega (arith, l)) (omega (arith, half, within)) (omega (arith, inside)) in
      let b = ap₂ (λ i n. sum (take i (drop n nodes))) twice half in
      let c = more_sum (drop (first / 2 + first / 2) nodes) (at / 2 + at / 2) (omega (arith, length-drop (first / 2 + first / 2) nodes, tree.size, inside, within, half, twice)) in
      let e = get_or-drop (first / 2 + first / 2) nodes (at / 2 + at / 2) 0 in
      let place : first / 2 + first / 2 + (at / 2 + at / 2) ≡ first + at - 1 = omega (arith, half, twice) in
      omega (arith, a, b, c, e, ap (λ n. get_or nodes n 0) place, x_is, h)

-- a tree in which the nodes from a leaf up to a node, without that, are one more
pub record IsRaised (leaves place : ℕ) (old nodes : List ℕ) (node : ℕ) : Type 0 where
  pub size : length nodes ≡ length old
  pub pairs : (i : ℕ) → 1 ≤ i → i < leaves → get_or nodes (2 * i) 0 + get_or nodes (2 * i + 1) 0 ≡ get_or nodes i 0 + one i node
  pub above : (i : ℕ) → i ≤ node → get_or nodes i 0 ≡ get_or old i 0
  pub most : (i : ℕ) → get_or nodes i 0 ≤ sum (drop leaves old) + 1
  pub row : ((node ≡ leaves + place) × (nodes ≡ old)) ⊎ ((node < leaves) × (drop leaves nodes ≡ one_more (drop leaves old) place))

-- a node that is one more, and the others
set_one : (xs : List ℕ) (n i : ℕ) → n < length xs → get_or (set xs n (get_or xs n 0 + 1)) i 0 ≡ get_or xs i 0 + one i n
set_one xs n i l = elim (cases_eq i n) [
  | inl e ↦ (let a = get_or-set_same xs n (get_or xs n 0 + 1) 0 l in
      let b = one_same i n e in
      let c = ap (λ k. get_or (set xs n (get_or xs n 0 + 1)) k 0) e in
      let f = ap (λ k. get_or xs k 0) e in
      omega (arith, a, b, c, f))
  | inr o ↦ (let a = get_or-set_other xs n i (get_or xs n 0 + 1) 0 o in let b = one_other i n o in omega (arith, a, b))
]

-- a node is half of its children, and of no other
one_half : (i n : ℕ) → one (2 * i) n + one (2 * i + 1) n ≡ one i (n / 2)
one_half i n = elim (cases_eq i (n / 2)) [
  | inl e ↦ elim (cases_eq (2 * i) n) [
    | inl f ↦ (let a = one_same _ _ e in let b = one_same _ _ f in let c = one_other (2 * i + 1) n (λ g. let w : ⊥ = omega (arith, f, g) in w) in omega (arith, a, b, c))
    | inr f ↦ (let a = one_same _ _ e in let b = one_other _ _ f in let c = one_same (2 * i + 1) n (omega (arith, e, f)) in omega (arith, a, b, c))
  ]
  | inr o ↦ (
      let a = one_other _ _ o in
      let b = one_other (2 * i) n (λ f. let w : ⊥ = o (omega (arith, f)) in w) in
      let c = one_other (2 * i + 1) n (λ f. let w : ⊥ = o (omega (arith, f)) in w) in
      omega (arith, a, b, c))
]

-- the next node
pub raised_more : (leaves place : ℕ) (old nodes : List ℕ) (node x z : ℕ) → IsTree leaves old → place < length (drop leaves old) → 0 < node
    → x ≡ get_or nodes node z → IsRaised leaves place old nodes node
    → IsRaised leaves place old (set nodes node (x + 1)) (node / 2)
raised_more leaves place old nodes node x z tree there some is h =
    let long : node < length nodes = elim h.row [
      | inl r ↦ omega (arith, r.0, h.size, tree.size, there, length-drop leaves old)
      | inr r ↦ omega (arith, r.0, h.size, tree.size)
    ] in
    let e : set nodes node (x + 1) ≡ set nodes node (get_or nodes node 0 + 1) = ap (λ y. set nodes node (y + 1)) (is ∙ get_or_default nodes node z 0 long) in
    subst (λ ns. IsRaised leaves place old ns (node / 2)) (sym e) (record {
      size = length-set nodes node _ ∙ h.size;
      pairs = λ i pos l.
          let a = set_one nodes node (2 * i) long in
          let b = set_one nodes node (2 * i + 1) long in
          let c = set_one nodes node i long in
          omega (arith, a, b, c, one_half i node, h.pairs i pos l);
      above = λ i l. let a = set_one nodes node i long in let b = one_other i node (λ f. let w : ⊥ = omega (arith, f, l, some) in w) in omega (arith, a, b, h.above i (omega (arith, l)));
      most = λ i. elim (cases_eq i node) [
        | inl f ↦ (let a = set_one nodes node i long in let b = one_same i node f in let c = h.above i (omega (arith, f)) in omega (arith, a, b, c, tree.small i))
        | inr f ↦ (let a = set_one nodes node i long in let b = one_other i node f in omega (arith, a, b, h.most i))
      ];
      row = inr (elim h.row [
        | inl r ↦ (
          omega (arith, r.0, there, length-drop leaves old, tree.size),
          let a = ap (λ k. drop leaves (set nodes k (get_or nodes k 0 + 1))) r.0 in
              let b = drop-set-add leaves nodes place (get_or nodes (leaves + place) 0 + 1) in
              let c = get_or-drop leaves old place 0 in
              a ∙ (b ∙ ap₂ (λ xs y. set (drop leaves xs) place (y + 1)) r.1 (ap (λ xs. get_or xs (leaves + place) 0) r.1 ∙ sym c)),
        )
        | inr r ↦ (omega (arith, r.0), drop-set-lt leaves nodes node _ r.0 ∙ r.1)
      ]);
    })
