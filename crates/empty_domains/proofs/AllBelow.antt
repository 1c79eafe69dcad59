-- Tests of all numbers below a number and of all members of a list, number after number.
use Rattle.std.proofs.Common.{◌≡◌, ℕ, zero, suc, ◌+◌, ◌<◌, Bool, true, false, ◌&&◌, List, [], ◌∷◌, refl, sym, ap, arith, ◌∙◌, inl, inr}
use Rattle.std.specs.List.{list_all}
use Rattle.std.proofs.lemmas.Bool.{cases_Bool, false≢true}
use Rattle.std.proofs.lemmas.List.Folds.{list_all-append}
use Rattle.obd_base.proofs.lists.Below.{all_below, below_push}
use Rattle.obd_base.specs.Lists.{Mem, below}

and_both : (a b : Bool) → a ≡ true → b ≡ true → (a && (b && true)) ≡ true
and_both a b ea eb = rw (ea, eb) refl

-- all below a number and the number itself
pub all_push : (p : ℕ → Bool) (k n : ℕ) → n ≡ k + 1 → list_all p (below k) ≡ true → p k ≡ true → list_all p (below n) ≡ true
all_push p k n e h q =
    let s : n ≡ suc k = omega (arith, e) in
    ap (λ m. list_all p (below m)) s ∙ (ap (list_all p) (below_push k) ∙ (list_all-append p (below k) (k ∷ []) ∙ and_both (list_all p (below k)) (p k) h q))

-- not all where one fails
pub all_not : (p : ℕ → Bool) (n k : ℕ) → k < n → p k ≡ false → list_all p (below n) ≡ false
all_not p n k l f = elim (cases_Bool (list_all p (below n))) [
  | inr q ↦ q
  | inl q ↦ absurd (false≢true (sym f ∙ all_below p n q k l))
]

-- all pass where each does
pub each_passes : (p : ℕ → Bool) (n : ℕ) → ((k : ℕ) → k < n → p k ≡ true) → list_all p (below n) ≡ true
each_passes p zero h = refl
each_passes p (suc n) h = all_push p n (suc n) (omega arith) (each_passes p n (λ k l. h k (omega arith))) (h n (omega arith))

-- two tests that tell the same below a number
pub all_same : (p q : ℕ → Bool) (n : ℕ) → ((k : ℕ) → k < n → p k ≡ q k) → list_all p (below n) ≡ list_all q (below n)
all_same p q n e = elim (cases_Bool (list_all q (below n))) [
  | inl h ↦ each_passes p n (λ k l. e k l ∙ all_below q n h k l) ∙ sym h
  | inr h ↦ elim (cases_Bool (list_all p (below n))) [
    | inr f ↦ f ∙ sym h
    | inl f ↦ absurd (false≢true (sym h ∙ each_passes q n (λ k l. sym (e k l) ∙ all_below p n f k l)))
  ]
]

-- two tests that tell the same of the members of a list
pub each_same : (p q : ℕ → Bool) (xs : List ℕ) → ((x : ℕ) → Mem x xs → p x ≡ q x) → list_all p xs ≡ list_all q xs
each_same p q [] e = refl
each_same p q (x ∷ xs) e = both (e x (inl refl)) (each_same p q xs (λ z m. e z (inr m)))
  where
    both : {a b u v : Bool} → a ≡ b → u ≡ v → (a && u) ≡ (b && v)
    both h k = rw (h, k) refl
