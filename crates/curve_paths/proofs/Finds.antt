-- The first that passes a test: in a list by its places, among the numbers of a range, and in lists joined.
use Rattle.std.proofs.Common.{◌≡◌, ℕ, zero, suc, ◌+◌, ◌<◌, ◌≤◌, Bool, true, false, cond, ◌&&◌, List, [], ◌∷◌, map, length, get_or, Option, Some, None, option_map, refl, ap, ◌∙◌, arith, inl, inr}
use Rattle.std.specs.List.{find, flat_map, list_all, position, position_or_len, range_with_len}
use Rattle.std.specs.Option.{option_or}
use Rattle.std.proofs.lemmas.Bool.{cases_eq, lt-ltb, le-ltb}
use Rattle.std.proofs.lemmas.List.Folds.{find-append}
use Rattle.std.proofs.lemmas.List.Sums.{position_or_len_is}

module _ {X : Type 0} (p : X → Bool) (d : X) where
  -- the first place that passes
  pub place_found : (xs : List X) (i : ℕ) → i < length xs → ((k : ℕ) → k < i → p (get_or xs k d) ≡ false) → p (get_or xs i d) ≡ true → position p xs ≡ Some i
  place_found xs i l before here =
      let e : position_or_len p xs ≡ i = position_or_len_is p xs i d (omega arith) before (λ _. here) in
      rw (e, lt-ltb i (length xs) l) refl

  -- no place passes
  pub none_found : (xs : List X) → ((k : ℕ) → k < length xs → p (get_or xs k d) ≡ false) → position p xs ≡ None
  none_found xs none =
      let e : position_or_len p xs ≡ length xs = position_or_len_is p xs (length xs) d (omega arith) none (λ l. absurd (omega arith)) in
      rw (e, le-ltb (length xs) (length xs) (omega arith)) refl

-- where a later one fails, not all pass
fails_later : (b c : Bool) → c ≡ false → (b && c) ≡ false
fails_later true c e = e
fails_later false c e = refl

module _ (p : ℕ → Bool) where
  -- the first number of a range that passes
  pub number_found : (a n i : ℕ) → a ≤ i → i < a + n → ((k : ℕ) → a ≤ k → k < i → p k ≡ false) → p i ≡ true → find p (range_with_len a n) ≡ Some i
  number_found a zero i l h before here = absurd (omega arith)
  number_found a (suc n) i l h before here = elim (cases_eq a i) [
    | inl e ↦ (let t : p a ≡ true = ap p e ∙ here in rw (t, e) refl)
    | inr ne ↦ rw (before a (omega arith) (omega arith)) (number_found (a + 1) n i (omega arith) (omega arith) (λ k m. before k (omega arith)) here)
  ]

  -- none of a range passes
  pub no_number : (a n : ℕ) → ((k : ℕ) → a ≤ k → k < a + n → p k ≡ false) → find p (range_with_len a n) ≡ None
  no_number a zero none = refl
  no_number a (suc n) none = rw (none a (omega arith) (omega arith)) (no_number (a + 1) n (λ k m l. none k (omega arith) (omega arith)))

  -- all of a range pass, or one doesn't
  pub all_pass : (a n : ℕ) → ((k : ℕ) → a ≤ k → k < a + n → p k ≡ true) → list_all p (range_with_len a n) ≡ true
  all_pass a zero h = refl
  all_pass a (suc n) h = rw (h a (omega arith) (omega arith)) (all_pass (a + 1) n (λ k m l. h k (omega arith) (omega arith)))

  pub one_fails : (a n i : ℕ) → a ≤ i → i < a + n → p i ≡ false → list_all p (range_with_len a n) ≡ false
  one_fails a zero i l h f = absurd (omega arith)
  one_fails a (suc n) i l h f = elim (cases_eq a i) [
    | inl e ↦ (let t : p a ≡ false = ap p e ∙ f in rw t refl)
    | inr ne ↦ fails_later (p a) _ (one_fails (a + 1) n i (omega arith) (omega arith) f)
  ]

-- in a mapped list
pub find-map : {X Y : Type 0} (q : Y → Bool) (f : X → Y) (xs : List X) → find q (map f xs) ≡ option_map f (find (λ x. q (f x)) xs)
find-map q f [] = refl
find-map q f (x ∷ xs) = go (q (f x)) (find-map q f xs)
  where
    go : (b : Bool) → find q (map f xs) ≡ option_map f (find (λ y. q (f y)) xs)
        → cond b (Some (f x)) (find q (map f xs)) ≡ option_map f (cond b (Some x) (find (λ y. q (f y)) xs))
    go true e = refl
    go false e = e

module _ {X : Type 0} (q : X → Bool) (f : ℕ → List X) where
  -- in the first list, or in the rest
  front : (a n : ℕ) (o : Option X) → option_or (find q (f a)) (find q (flat_map f (range_with_len (a + 1) n))) ≡ o → find q (flat_map f (range_with_len a (suc n))) ≡ o
  front a n o e = let split : find q (flat_map f (range_with_len a (suc n))) ≡ option_or (find q (f a)) (find q (flat_map f (range_with_len (a + 1) n))) = find-append q (f a) (flat_map f (range_with_len (a + 1) n)) in split ∙ e

  -- in the lists of a range's numbers, one after another
  pub list_found : (a n i : ℕ) (x : X) → a ≤ i → i < a + n → ((k : ℕ) → a ≤ k → k < i → find q (f k) ≡ None) → find q (f i) ≡ Some x
      → find q (flat_map f (range_with_len a n)) ≡ Some x
  list_found a zero i x l h before here = absurd (omega arith)
  list_found a (suc n) i x l h before here = elim (cases_eq a i) [
    | inl e ↦ (let t : find q (f a) ≡ Some x = ap (λ k. find q (f k)) e ∙ here in front a n (Some x) (rw t refl))
    | inr ne ↦
        let t = before a (omega arith) (omega arith) in
        front a n (Some x) (rw t (list_found (a + 1) n i x (omega arith) (omega arith) (λ k m. before k (omega arith)) here))
  ]

  pub no_list : (a n : ℕ) → ((k : ℕ) → a ≤ k → k < a + n → find q (f k) ≡ None) → find q (flat_map f (range_with_len a n)) ≡ None
  no_list a zero none = refl
  no_list a (suc n) none =
      let t = none a (omega arith) (omega arith) in
      front a n None (rw t (no_list (a + 1) n (λ k m l. none k (omega arith) (omega arith))))
