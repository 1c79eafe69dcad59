-- The numbers below a number, and what a map makes of them.
use Rattle.std.proofs.Common.{◌≡◌, ℕ, zero, suc, ◌+◌, ◌<◌, Bool, true, false, cond, List, [], ◌∷◌, map, get_or, count_by, flat_map, refl, sym, ◌∙◌, ap, arith, zero-add, add-one, inl, inr}
use Rattle.std.specs.List.{position_or_len}
use Rattle.std.proofs.lemmas.Bool.{cases_eq, false_from_ne_true}
use Rattle.std.proofs.lemmas.List.Sums.{position_or_len_is}
use Rattle.std.proofs.lemmas.List.FromFn.{length-range_with_len, get_or-range_with_len, sum_by-map-range_with_len_more}
use Rattle.obd_base.specs.Lists.{below}

-- the first number below n that passes is the one before which none does
pub position_below : (test : ℕ → Bool) (n a : ℕ) → a < n → ((i : ℕ) → i < a → test i ≡ false) → test a ≡ true → position_or_len test (below n) ≡ a
position_below test n a l before here =
    let l' = length-range_with_len 0 n in
    position_or_len_is test (below n) a 0 (omega arith) (λ k h. ap test (at k (omega arith)) ∙ before k h) (λ h. ap test (at a l) ∙ here)
  where
    at : (k : ℕ) → k < n → get_or (below n) k 0 ≡ k
    at k h = get_or-range_with_len 0 n k 0 h ∙ zero-add k

module _ {A : Type 0} (g : ℕ → A) where
  -- one list with one item for each number, and these lists joined
  pub singles_joined : (xs : List ℕ) → flat_map (λ s. s) (map (λ i. g i ∷ []) xs) ≡ map g xs
  singles_joined [] = refl
  singles_joined (x ∷ xs) = ap (λ ys. g x ∷ ys) (singles_joined xs)

  module _ (test : A → Bool) where
    -- how many pass, with one number more
    count_more : (n : ℕ) → count_by test (map g (below (suc n))) ≡ count_by test (map g (below n)) + cond (test (g n)) 1 0
    count_more n =
        let m = sum_by-map-range_with_len_more (λ x. cond (test x) 1 0) g 0 n n (zero-add n) in
        rw add-one at m

    -- none passes
    pub none_passes : (n : ℕ) → ((i : ℕ) → i < n → test (g i) ≡ false) → count_by test (map g (below n)) ≡ 0
    none_passes zero fails = refl
    none_passes (suc n) fails =
        let z : cond {A = ℕ} (test (g n)) 1 0 ≡ 0 = rw (fails n (omega arith)) refl in
        omega (arith, count_more n, z, none_passes n (λ i l. fails i (omega arith)))

    -- one passes
    pub one_passes : (n a : ℕ) → a < n → test (g a) ≡ true → ((i : ℕ) → i < n → test (g i) ≡ true → i ≡ a) → count_by test (map g (below n)) ≡ 1
    one_passes zero a l here only = absurd (omega arith)
    one_passes (suc n) a l here only = elim (cases_eq a n) [
      | inl e ↦
          let z : cond {A = ℕ} (test (g n)) 1 0 ≡ 1 = rw (← e, here) refl in
          let none = none_passes n (λ i h. false_from_ne_true _ (λ t. absurd (omega (arith, only i (omega arith) t)))) in
          omega (arith, count_more n, z, none)
      | inr ne ↦
          let z : cond {A = ℕ} (test (g n)) 1 0 ≡ 0 = rw (false_from_ne_true (test (g n)) (λ t. ne (sym (only n (omega arith) t)))) refl in
          omega (arith, count_more n, z, one_passes n a (omega arith) here (λ i h. only i (omega arith)))
    ]
