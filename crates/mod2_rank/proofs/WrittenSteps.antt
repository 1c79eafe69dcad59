-- The written functional and the written chain, step by step, as the loops over rows and over pivots carry them.
use Rattle.std.proofs.Common.{◌≡◌, ℕ, zero, suc, ◌+◌, ◌-◌, ◌<◌, ◌≤◌, Bool, true, false, cond, not, List, [], ◌∷◌, ◌++◌, length, get_or, take, reverse, Option, refl, sym, ◌∙◌, ap, arith}
use Rattle.std.specs.List.{count_by}
use Rattle.std.proofs.lemmas.List.{reverse-append, take_more}
use Rattle.std.proofs.lemmas.List.Sums.{sum_by_push}
use Rattle.std.proofs.Math.Bool.{beq}
use Rattle.obd_base.specs.Lists.{has, is_odd}
use Rattle.mod2_rank.specs.Linear.{Ascends}
use Rattle.mod2_rank.specs.Rows.{Rows, differ, only, plus, odd_times}
use Rattle.mod2_rank.specs.Written.{decides, filled}
use Rattle.mod2_rank.proofs.Ascending.{ascends_wider}
use Rattle.mod2_rank.proofs.Reducing.{odd_times_ascending}
use Rattle.mod2_rank.proofs.Vectors.{plus_comm}

-- one row more is counted
pub odd_next : (p : ℕ → Bool) (xs : List ℕ) (i : ℕ) → i < length xs → is_odd (count_by p (take (i + 1) xs)) ≡ differ (is_odd (count_by p (take i xs))) (p (get_or xs i 0))
odd_next p xs i l =
    ap (λ ys. is_odd (count_by p ys)) (take_more xs i 0 l)
    ∙ (ap is_odd (sum_by_push (λ x. cond (p x) 1 0) (take i xs) (get_or xs i 0)) ∙ last (p (get_or xs i 0)))
  where
    last : (b : Bool) → is_odd (count_by p (take i xs) + cond b 1 0) ≡ differ (is_odd (count_by p (take i xs))) b
    last true = let e : count_by p (take i xs) + 1 ≡ suc (count_by p (take i xs)) = omega arith in ap is_odd e ∙ turn (is_odd (count_by p (take i xs)))
      where
        turn : (b : Bool) → not b ≡ differ b true
        turn true = refl
        turn false = refl
    last false = let e : count_by p (take i xs) + 0 ≡ count_by p (take i xs) = omega arith in ap is_odd e ∙ turn (is_odd (count_by p (take i xs)))
      where
        turn : (b : Bool) → b ≡ differ b false
        turn true = refl
        turn false = refl

module _ (table : ℕ → Option ℕ) (reduced : ℕ → List ℕ) (t : ℕ) where
  -- the functional ascends
  pub filled_ascends : (r k n : ℕ) → r + k ≤ n → Ascends r n (filled table reduced t r k)
  filled_ascends r zero n l = tt
  filled_ascends r (suc k) n l = go (decides table reduced t (has (filled table reduced t (suc r) k)) r) (filled_ascends (suc r) k n (omega arith))
    where
      go : (b : Bool) → Ascends (suc r) n (filled table reduced t (suc r) k) → Ascends r n (cond b (r ∷ filled table reduced t (suc r) k) (filled table reduced t (suc r) k))
      go true a = (omega arith, omega arith, a)
      go false a = ascends_wider (filled table reduced t (suc r) k) (suc r) n r n a (omega arith) (omega arith)

  -- no row at first
  pub filled_start : (n : ℕ) → filled table reduced t n (n - n) ≡ []
  filled_start n = let e : n - n ≡ 0 = omega arith in ap (filled table reduced t n) e

  -- one row less
  step : (row n : ℕ) → 0 < row → row ≤ n → (b : Bool) → b ≡ decides table reduced t (has (filled table reduced t row (n - row))) (row - 1)
      → filled table reduced t (row - 1) (n - (row - 1)) ≡ cond b ((row - 1) ∷ filled table reduced t row (n - row)) (filled table reduced t row (n - row))
  step row n some within b e =
      let m : n - (row - 1) ≡ suc (n - row) = omega arith in
      let s : suc (row - 1) ≡ row = omega arith in
      ap (filled table reduced t (row - 1)) m ∙ (ap (λ f. cond (decides table reduced t (has f) (row - 1)) ((row - 1) ∷ f) f) (ap (λ r. filled table reduced t r (n - row)) s)
      ∙ ap (λ c. cond c ((row - 1) ∷ filled table reduced t row (n - row)) (filled table reduced t row (n - row))) (sym e))

  -- a row that is in
  pub filled_on : (row n : ℕ) → 0 < row → row ≤ n → true ≡ decides table reduced t (has (filled table reduced t row (n - row))) (row - 1)
      → filled table reduced t (row - 1) (n - (row - 1)) ≡ (row - 1) ∷ filled table reduced t row (n - row)
  filled_on row n some within e = step row n some within true e

  -- and as test
  pub test_on : (row n : ℕ) → 0 < row → row ≤ n → true ≡ decides table reduced t (has (filled table reduced t row (n - row))) (row - 1)
      → (before now : Rows) → before ≡ has (filled table reduced t row (n - row)) → now ≡ plus before (only (row - 1)) → now ≡ has (filled table reduced t (row - 1) (n - (row - 1)))
  test_on row n some within e before now b f =
      let asc : Ascends row n (filled table reduced t row (n - row)) = filled_ascends row (n - row) n (omega arith) in
      let here : Ascends (suc (row - 1)) n (filled table reduced t row (n - row)) = ascends_wider _ row n (suc (row - 1)) n asc (omega arith) (omega arith) in
      let both : Ascends (row - 1) n ((row - 1) ∷ filled table reduced t row (n - row)) = (omega arith, omega arith, here) in
      f ∙ (ap (λ (v : Rows). plus v (only (row - 1))) (b ∙ sym (odd_times_ascending _ row n asc)) ∙ (plus_comm (odd_times (filled table reduced t row (n - row))) (only (row - 1))
      ∙ (odd_times_ascending ((row - 1) ∷ filled table reduced t row (n - row)) (row - 1) n both ∙ ap (λ (xs : List ℕ). has xs) (sym (filled_on row n some within e)))))

  -- another
  pub filled_off : (row n : ℕ) → 0 < row → row ≤ n → false ≡ decides table reduced t (has (filled table reduced t row (n - row))) (row - 1)
      → filled table reduced t (row - 1) (n - (row - 1)) ≡ filled table reduced t row (n - row)
  filled_off row n some within e = step row n some within false e

-- a list with one more at its end, turned round
pub reverse_push : (xs : List ℕ) (x : ℕ) → reverse (xs ++ x ∷ []) ≡ x ∷ reverse xs
reverse_push xs x = reverse-append xs (x ∷ [])

-- `!=` of two tests
pub unequal : (a b : Bool) → not (beq a b) ≡ differ a b
unequal true true = refl
unequal true false = refl
unequal false true = refl
unequal false false = refl
