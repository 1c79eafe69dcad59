-- How many numbers of a range pass a test.
use Rattle.std.proofs.Common.{◌≡◌, ℕ, zero, suc, ◌+◌, ◌<◌, ◌≤◌, Bool, true, cond, List, [], ◌∷◌, map, refl, sym, ◌∙◌, ap, arith, le_refl, inl, inr}
use Rattle.std.specs.List.{count_by, range_with_len}
use Rattle.std.proofs.lemmas.Bool.{cases_Bool, cases_eq}
use Rattle.std.proofs.lemmas.List.Sums.{sum_by-cons}

-- none in a range passes
pub count_none : (p : ℕ → Bool) (a n : ℕ) → ((k : ℕ) → a ≤ k → k < a + n → p k ≡ true → ⊥) → count_by p (range_with_len a n) ≡ 0
count_none p a zero h = refl
count_none p a (suc n) h =
    let c = sum_by-cons (λ k. cond (p k) 1 0) a (range_with_len (a + 1) n) in
    let r = count_none p (a + 1) n (λ k l m. h k (omega arith) (omega arith)) in
    let z : cond {A = ℕ} (p a) 1 0 ≡ 0 = elim (cases_Bool (p a)) [ inl q ↦ absurd (h a (le_refl a) (omega arith) q) | inr q ↦ rw q ] in
    c ∙ omega (arith, z, r)

-- one number in a range passes
pub count_one : (p : ℕ → Bool) (a n i : ℕ) → a ≤ i → i < a + n → p i ≡ true → ((k : ℕ) → a ≤ k → k < a + n → p k ≡ true → k ≡ i) → count_by p (range_with_len a n) ≡ 1
count_one p a zero i l h q only = absurd (omega arith)
count_one p a (suc n) i l h q only =
    let c = sum_by-cons (λ k. cond (p k) 1 0) a (range_with_len (a + 1) n) in
    elim (cases_eq a i) [
      | inl e ↦
          let r = count_none p (a + 1) n (λ k l m b. absurd (omega (arith, only k (omega arith) (omega arith) b))) in
          let z : cond {A = ℕ} (p a) 1 0 ≡ 1 = rw (e, q) in
          c ∙ omega (arith, z, r)
      | inr ne ↦
          let r = count_one p (a + 1) n i (omega arith) (omega arith) q (λ k l m b. only k (omega arith) (omega arith) b) in
          let z : cond {A = ℕ} (p a) 1 0 ≡ 0 = elim (cases_Bool (p a)) [ inl b ↦ absurd (ne (only a (le_refl a) (omega arith) b)) | inr b ↦ rw b ] in
          c ∙ omega (arith, z, r)
    ]

-- a count over a mapped list
pub count_by-map : {X Y : Type 0} (p : Y → Bool) (f : X → Y) (xs : List X) → count_by p (map f xs) ≡ count_by (λ x. p (f x)) xs
count_by-map p f [] = refl
count_by-map p f (x ∷ xs) =
    sum_by-cons (λ y. cond (p y) 1 0) (f x) (map f xs) ∙ (ap (λ n. cond (p (f x)) 1 0 + n) (count_by-map p f xs) ∙ sym (sum_by-cons (λ y. cond (p (f y)) 1 0) x xs))

-- a counted number is there
pub some_counted : (p : ℕ → Bool) (a n : ℕ) → 0 < count_by p (range_with_len a n) → (k : ℕ) × (a ≤ k) × (k < a + n) × (p k ≡ true)
some_counted p a zero h = absurd (omega arith)
some_counted p a (suc n) h = elim (cases_Bool (p a)) [
  | inl q ↦ (a, le_refl a, omega arith, q)
  | inr q ↦
      let c = sum_by-cons (λ k. cond (p k) 1 0) a (range_with_len (a + 1) n) in
      let z : cond {A = ℕ} (p a) 1 0 ≡ 0 = rw q in
      let (k, l, m, r) = some_counted p (a + 1) n (omega (arith, c, z, h)) in
      (k, omega arith, omega arith, r)
]

-- a number that passes is counted
pub passing_counted : (p : ℕ → Bool) (a n k : ℕ) → a ≤ k → k < a + n → p k ≡ true → 0 < count_by p (range_with_len a n)
passing_counted p a zero k l h q = absurd (omega arith)
passing_counted p a (suc n) k l h q =
    let c = sum_by-cons (λ k. cond (p k) 1 0) a (range_with_len (a + 1) n) in
    elim (cases_eq a k) [
      | inl e ↦ (let z : cond {A = ℕ} (p a) 1 0 ≡ 1 = rw (e, q) in omega (arith, c, z))
      | inr ne ↦ omega (arith, c, passing_counted p (a + 1) n k (omega arith) (omega arith) q)
    ]
