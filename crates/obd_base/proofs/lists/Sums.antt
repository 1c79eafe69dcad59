-- Sums over lists: term by term, swapped, over joined lists; and what members add to a sum.
use Rattle.std.proofs.Common.{◌≡◌, ℕ, zero, suc, ◌+◌, ◌≤◌, Bool, true, false, eqb, ltb, List, [], ◌∷◌, ◌++◌, map, length, get_or, refl, sym, ◌∙◌, ap, subst, arith, zero-add, inl, inr, ◌≢◌}
use Rattle.std.specs.List.{sum_by, flat_map}
use Rattle.std.proofs.lemmas.Bool.{eq-eqb, ne_eqb, lt-ltb, le-ltb, cases_lt, cases_eq}
use Rattle.std.proofs.lemmas.List.Sums.{sum_by-cons, sum_by-append}
use Rattle.std.proofs.lemmas.List.FromFn.{fill_by_all}
use Rattle.obd_base.specs.Lists.{below, Mem}
use Rattle.obd_base.proofs.lists.Below.{bit, range_push}

-- it is 0 or 1
pub bit-le : (b : Bool) → bit b ≤ 1
bit-le true = omega arith
bit-le false = omega arith

-- and 1 only for a test that passes
pub bit-one : (b : Bool) → bit b ≢ 0 → b ≡ true
bit-one true h = refl
bit-one false h = absurd (h refl)

module _ {X : Type 0} where
  -- sums that agree term by term
  pub sum_same : (f g : X → ℕ) (xs : List X) → ((x : X) → Mem x xs → f x ≡ g x) → sum_by f xs ≡ sum_by g xs
  sum_same f g [] h = refl
  sum_same f g (x ∷ xs) h = omega (arith, sum_by-cons f x xs, sum_by-cons g x xs, h x (inl refl), sum_same f g xs (λ y m. h y (inr m)))

  -- sums of which one is nowhere above the other
  pub sum_least : (f g : X → ℕ) (xs : List X) → ((x : X) → Mem x xs → f x ≤ g x) → sum_by f xs ≤ sum_by g xs
  sum_least f g [] h = omega arith
  sum_least f g (x ∷ xs) h = omega (arith, sum_by-cons f x xs, sum_by-cons g x xs, h x (inl refl), sum_least f g xs (λ y m. h y (inr m)))

  -- sums that agree, of which one is nowhere above the other, agree term by term
  pub sum_forced : (f g : X → ℕ) (xs : List X) → ((x : X) → Mem x xs → f x ≤ g x) → sum_by f xs ≡ sum_by g xs → (x : X) → Mem x xs → f x ≡ g x
  sum_forced f g [] h e x m = absurd m
  sum_forced f g (y ∷ xs) h e x (inl q) =
      let l = sum_least f g xs (λ z m. h z (inr m)) in
      let k : f y ≡ g y = omega (arith, sum_by-cons f y xs, sum_by-cons g y xs, h y (inl refl), l, e) in
      subst (λ z. f z ≡ g z) (sym q) k
  sum_forced f g (y ∷ xs) h e x (inr m) =
      let l = sum_least f g xs (λ z m. h z (inr m)) in
      sum_forced f g xs (λ z m. h z (inr m)) (omega (arith, sum_by-cons f y xs, sum_by-cons g y xs, h y (inl refl), l, e)) x m

  -- a sum of sums
  pub sum_add : (f g : X → ℕ) (xs : List X) → sum_by (λ x. f x + g x) xs ≡ sum_by f xs + sum_by g xs
  sum_add f g [] = refl
  sum_add f g (x ∷ xs) = omega (arith, sum_by-cons (λ x. f x + g x) x xs, sum_by-cons f x xs, sum_by-cons g x xs, sum_add f g xs)

  -- a sum of nothing but 0
  pub sum_none : (f : X → ℕ) (xs : List X) → ((x : X) → Mem x xs → f x ≡ 0) → sum_by f xs ≡ 0
  sum_none f [] h = refl
  sum_none f (x ∷ xs) h = omega (arith, sum_by-cons f x xs, h x (inl refl), sum_none f xs (λ y m. h y (inr m)))

  -- what a member adds is no more than the sum
  pub member_adds : (f : X → ℕ) (x : X) (xs : List X) → Mem x xs → f x ≤ sum_by f xs
  member_adds f x [] m = absurd m
  member_adds f x (y ∷ xs) (inl q) = let k : f x ≡ f y = ap f q in omega (arith, sum_by-cons f y xs, k)
  member_adds f x (y ∷ xs) (inr m) = omega (arith, sum_by-cons f y xs, member_adds f x xs m)

  -- and so what two members add
  pub members_add : (f : X → ℕ) (x y : X) (xs : List X) → Mem x xs → Mem y xs → x ≢ y → f x + f y ≤ sum_by f xs
  members_add f x y [] m n ne = absurd m
  members_add f x y (z ∷ xs) (inl q) (inl r) ne = absurd (ne (q ∙ sym r))
  members_add f x y (z ∷ xs) (inl q) (inr n) ne = let k : f x ≡ f z = ap f q in omega (arith, sum_by-cons f z xs, k, member_adds f y xs n)
  members_add f x y (z ∷ xs) (inr m) (inl r) ne = let k : f y ≡ f z = ap f r in omega (arith, sum_by-cons f z xs, k, member_adds f x xs m)
  members_add f x y (z ∷ xs) (inr m) (inr n) ne = omega (arith, sum_by-cons f z xs, members_add f x y xs m n ne)

  -- a sum above 0 has a member that adds to it
  pub some_adds : (f : X → ℕ) (xs : List X) → sum_by f xs ≢ 0 → (x : X) × Mem x xs × (f x ≢ 0)
  some_adds f [] h = absurd (h refl)
  some_adds f (x ∷ xs) h = elim (cases_eq (f x) 0) [
    | inr ne ↦ (x, inl refl, ne)
    | inl e ↦ let (y, m, k) = some_adds f xs (λ z. h (omega (arith, sum_by-cons f x xs, e, z))) in (y, inr m, k)
  ]

module _ {X Y : Type 0} where
  -- a sum over a mapped list
  pub sum_map : (f : Y → ℕ) (g : X → Y) (xs : List X) → sum_by f (map g xs) ≡ sum_by (λ x. f (g x)) xs
  sum_map f g [] = refl
  sum_map f g (x ∷ xs) = omega (arith, sum_by-cons f (g x) (map g xs), sum_by-cons (λ x. f (g x)) x xs, sum_map f g xs)

  -- a sum over joined lists
  pub sum_flat : (f : Y → ℕ) (g : X → List Y) (xs : List X) → sum_by f (flat_map g xs) ≡ sum_by (λ x. sum_by f (g x)) xs
  sum_flat f g [] = refl
  sum_flat f g (x ∷ xs) = omega (arith, sum_by-append f (g x) (flat_map g xs), sum_by-cons (λ x. sum_by f (g x)) x xs, sum_flat f g xs)

  -- two sums, one inside the other, in either order
  pub sum_swap : (f : X → Y → ℕ) (xs : List X) (ys : List Y) → sum_by (λ x. sum_by (f x) ys) xs ≡ sum_by (λ y. sum_by (λ x. f x y) xs) ys
  sum_swap f [] ys = sym (sum_none (λ y. 0) ys (λ y m. refl))
  sum_swap f (x ∷ xs) ys =
      let one = sum_by-cons (λ x. sum_by (f x) ys) x xs in
      let two = sum_swap f xs ys in
      let three = sum_same (λ y. sum_by (λ x. f x y) (x ∷ xs)) (λ y. f x y + sum_by (λ x. f x y) xs) ys (λ y m. sum_by-cons (λ x. f x y) x xs) in
      let four = sum_add (f x) (λ y. sum_by (λ x. f x y) xs) ys in
      one ∙ (ap (λ n. sum_by (f x) ys + n) two ∙ sym (three ∙ four))

-- a sum over the numbers below n, and n
pub sum_below_push : (f : ℕ → ℕ) (n : ℕ) → sum_by f (below (suc n)) ≡ sum_by f (below n) + f n
sum_below_push f n =
    let e : sum_by f (below (suc n)) ≡ sum_by f (below n ++ ((0 + n) ∷ [])) = ap (sum_by f) (range_push 0 n) in
    let z : f (0 + n) ≡ f n = ap f (zero-add n) in
    omega (arith, e, sum_by-append f (below n) ((0 + n) ∷ []), sum_by-cons f (0 + n) [], z)

-- a list is what its entries give
pub by_entries : {X : Type 0} (d : X) (xs : List X) (n : ℕ) → length xs ≡ n → xs ≡ map (λ i. get_or xs i d) (below n)
by_entries d xs n e = fill_by_all (λ i. get_or xs i d) xs n d e (λ k l. refl)

-- a sum over the members of the lists of a list, by the lists' numbers
pub sum_rows : {X : Type 0} (f : X → ℕ) (rows : List (List X)) (n : ℕ) → length rows ≡ n
    → sum_by (λ i. sum_by f (get_or rows i [])) (below n) ≡ sum_by f (flat_map (λ s. s) rows)
sum_rows f rows n e =
    sym (sum_flat f (λ s. s) rows ∙ (ap (sum_by (λ s. sum_by f s)) (by_entries [] rows n e) ∙ sum_map (λ s. sum_by f s) (λ i. get_or rows i []) (below n)))

-- how many of the numbers below t are c
pub count_below : (c t : ℕ) → sum_by (λ j. bit (eqb c j)) (below t) ≡ bit (ltb c t)
count_below c zero = let z : bit (ltb c 0) ≡ 0 = rw (le-ltb c 0 (omega arith)) in sym z
count_below c (suc t) =
    let p = sum_below_push (λ j. bit (eqb c j)) t in
    let r = count_below c t in
    elim (cases_eq c t) [
      | inl e ↦ (let x : bit (eqb c t) ≡ 1 = rw (eq-eqb c t e) in let y : bit (ltb c t) ≡ 0 = rw (le-ltb c t (omega arith)) in
          let z : bit (ltb c (suc t)) ≡ 1 = rw (lt-ltb c (suc t) (omega arith)) in omega (arith, p, r, x, y, z))
      | inr ne ↦ (let x : bit (eqb c t) ≡ 0 = rw (ne_eqb c t ne) in
          elim (cases_lt c t) [
            | inl l ↦ (let y : bit (ltb c t) ≡ 1 = rw (lt-ltb c t l) in let z : bit (ltb c (suc t)) ≡ 1 = rw (lt-ltb c (suc t) (omega arith)) in omega (arith, p, r, x, y, z))
            | inr l ↦ (let y : bit (ltb c t) ≡ 0 = rw (le-ltb c t l) in let z : bit (ltb c (suc t)) ≡ 0 = rw (le-ltb c (suc t) (omega arith)) in omega (arith, p, r, x, y, z))
          ])
    ]

-- a sum of ones
pub sum_ones : (t : ℕ) → sum_by (λ (j : ℕ). 1) (below t) ≡ t
sum_ones zero = refl
sum_ones (suc t) = omega (arith, sum_below_push (λ j. 1) t, sum_ones t)
