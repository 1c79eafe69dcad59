-- A table into which an item is put twice before a number and twice before another, by moving blocks.
use Rattle.std.proofs.Common.{◌≡◌, ℕ, zero, suc, ◌+◌, ◌-◌, ◌<◌, ◌≤◌, List, [], ◌∷◌, ◌++◌, get_or, length, refl, ◌∙◌, ap, arith, inl, inr, min, max}
use Rattle.std.proofs.lemmas.Bool.{cases_lt}
use Rattle.std.proofs.lemmas.List.{get_or-append_right}
use Rattle.drawing.specs.PushTables.{IsPutIn, moved_on}
use Rattle.drawing.proofs.fingers.Shift.{room, rooms}

-- what is read in the first of two lists
read_first : (xs ys : List ℕ) (k : ℕ) → k < length xs → get_or (xs ++ ys) k 0 ≡ get_or xs k 0
read_first [] ys k l = absurd (omega (arith, l))
read_first (x ∷ xs) ys zero l = refl
read_first (x ∷ xs) ys (suc k) l = read_first xs ys k (omega (arith, l))

-- an item four times
read_four : (s j : ℕ) → j < 4 → get_or (s ∷ s ∷ s ∷ s ∷ []) j 0 ≡ s
read_four s zero l = refl
read_four s (suc zero) l = refl
read_four s (suc (suc zero)) l = refl
read_four s (suc (suc (suc zero))) l = refl
read_four s (suc (suc (suc (suc j)))) l = absurd (omega (arith, l))

module _ (s low high : ℕ) (items one two three : List ℕ) (ordered : low ≤ high) (inside : high ≤ length items) (is : one ≡ items ++ (s ∷ s ∷ s ∷ s ∷ []))
    (before : (k : ℕ) → k < high → get_or two k 0 ≡ get_or one k 0)
    (first : (k : ℕ) → high ≤ k → k < high + 4 → get_or two k 0 ≡ get_or one (length items + (k - high)) 0)
    (later : (k : ℕ) → high + 4 ≤ k → k < length items + 4 → get_or two k 0 ≡ get_or one (high + (k - (high + 4))) 0)
    (before_low : (k : ℕ) → k < low → get_or three k 0 ≡ get_or two k 0)
    (first_low : (k : ℕ) → low ≤ k → k < low + 2 → get_or three k 0 ≡ get_or two (high + (k - low)) 0)
    (later_low : (k : ℕ) → low + 2 ≤ k → k < high + 2 → get_or three k 0 ≡ get_or two (low + (k - (low + 2))) 0)
    (behind : (k : ℕ) → high + 2 ≤ k → get_or three k 0 ≡ get_or two k 0) where
  -- what was there at first
  old_item : (k : ℕ) → k < length items → get_or one k 0 ≡ get_or items k 0
  old_item k l = ap (λ xs. get_or xs k 0) is ∙ read_first items (s ∷ s ∷ s ∷ s ∷ []) k l

  new_item : (j : ℕ) → j < 4 → get_or one (length items + j) 0 ≡ s
  new_item j l =
      let e : length items + j - length items ≡ j = omega arith in
      ap (λ xs. get_or xs (length items + j) 0) is
      ∙ (get_or-append_right items (s ∷ s ∷ s ∷ s ∷ []) (length items) (length items + j) 0 refl (omega arith)
      ∙ (ap (λ k. get_or (s ∷ s ∷ s ∷ s ∷ []) k 0) e ∙ read_four s j l))

  -- four at the greater number
  at_high : (j : ℕ) → j < 4 → get_or two (high + j) 0 ≡ s
  at_high j l =
      let e : high + j - high ≡ j = omega arith in
      first (high + j) (omega arith) (omega (arith, l)) ∙ (ap (λ k. get_or one (length items + k) 0) e ∙ new_item j l)

  -- of which two go to the lesser one
  pub low_filled : (j : ℕ) → j ≤ 1 → get_or three (low + j) 0 ≡ s
  low_filled j l =
      let e : low + j - low ≡ j = omega arith in
      first_low (low + j) (omega arith) (omega (arith, l)) ∙ (ap (λ k. get_or two (high + k) 0) e ∙ at_high j (omega (arith, l)))

  pub high_filled : (j : ℕ) → j ≤ 1 → get_or three (high + 2 + j) 0 ≡ s
  high_filled j l =
      let e : high + 2 + j ≡ high + (2 + j) = omega arith in
      behind (high + 2 + j) (omega arith) ∙ (ap (λ k. get_or two k 0) e ∙ at_high (2 + j) (omega (arith, l)))

  -- what was there moves on
  pub below_low : (x : ℕ) → x < low → get_or three x 0 ≡ get_or items x 0
  below_low x l = before_low x l ∙ (before x (omega (arith, l, ordered)) ∙ old_item x (omega (arith, l, ordered, inside)))

  pub below_high : (x : ℕ) → low ≤ x → x < high → get_or three (x + 2) 0 ≡ get_or items x 0
  below_high x l h =
      let e : low + (x + 2 - (low + 2)) ≡ x = omega (arith, l) in
      later_low (x + 2) (omega (arith, l)) (omega (arith, h)) ∙ (ap (λ k. get_or two k 0) e ∙ (before x h ∙ old_item x (omega (arith, h, inside))))

  pub from_high : (x : ℕ) → high ≤ x → x < length items → get_or three (x + 4) 0 ≡ get_or items x 0
  from_high x l h =
      let e : high + (x + 4 - (high + 4)) ≡ x = omega (arith, l) in
      behind (x + 4) (omega (arith, l)) ∙ (later (x + 4) (omega (arith, l)) (omega (arith, h)) ∙ (ap (λ k. get_or one k 0) e ∙ old_item x h))

  module _ (t u : ℕ) (is_low : low ≡ min t u) (is_high : high ≡ max t u) (size : length three ≡ length items + 4) where
    -- an item put in before one of the numbers
    filled : (t u : ℕ) → low ≡ min t u → high ≡ max t u → (j : ℕ) → j ≤ 1 → get_or three (t + room t u + j) 0 ≡ s
    filled t u il ih j l = elim (rooms t u) [
      | inl r ↦ let e : t + room t u + j ≡ low + j = omega (arith, r, il) in ap (λ k. get_or three k 0) e ∙ low_filled j l
      | inr r ↦ let e : t + room t u + j ≡ high + 2 + j = omega (arith, r, ih) in ap (λ k. get_or three k 0) e ∙ high_filled j l
    ]

    kept : (x : ℕ) → x < length items → get_or three (moved_on t u x) 0 ≡ get_or items x 0
    kept x l = elim (cases_lt x low) [
      | inl a ↦ let e : moved_on t u x ≡ x = omega (arith, a, is_low, rooms x t, rooms x u) in ap (λ k. get_or three k 0) e ∙ below_low x a
      | inr a ↦ elim (cases_lt x high) [
        | inl b ↦ let e : moved_on t u x ≡ x + 2 = omega (arith, a, b, is_low, is_high, rooms x t, rooms x u) in ap (λ k. get_or three k 0) e ∙ below_high x a b
        | inr b ↦ let e : moved_on t u x ≡ x + 4 = omega (arith, b, is_high, rooms x t, rooms x u) in ap (λ k. get_or three k 0) e ∙ from_high x b l
      ]
    ]

    pub put_in : IsPutIn s t u items three
    put_in = record {
      size = size;
      kept = kept;
      one = filled t u is_low is_high;
      other = filled u t (omega (arith, is_low)) (omega (arith, is_high));
    }
