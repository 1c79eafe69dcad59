-- A chain from what each reduced column added: only the pivots that were added are kept, and one pass from the last to the first finds the columns.
use Rattle.std.proofs.Common.{◌≡◌, ℕ, zero, suc, ◌<◌, ◌≤◌, Bool, true, false, cond, List, [], ◌∷◌, ◌++◌, refl, sym, ◌∙◌, ap, subst, arith}
use Rattle.std.proofs.lemmas.Bool.{ne_eqb}
use Rattle.obd_base.specs.Lists.{has}
use Rattle.mod2_rank.specs.Linear.{column_at, columns_at, Ascends}
use Rattle.mod2_rank.specs.Rows.{Rows, plus, only, taken, total}
use Rattle.mod2_rank.proofs.Vectors.{plus_comm, plus_assoc, plus_none}
use Rattle.mod2_rank.proofs.Totals.{total_plus, total_with}
use Rattle.mod2_rank.proofs.Ascending.{sum_up, tests, ascends_wider}
use Rattle.mod2_rank.proofs.Columns.{column_test}
use Rattle.mod2_rank.specs.Written.{chosen, expand}

-- no pivot past the count is in an expansion
pub expand_high : (added : ℕ → Rows) (n : ℕ) (x : Rows) (k : ℕ) → n ≤ k → expand added n x k ≡ false
expand_high added zero x k l = refl
expand_high added (suc n) x k l = go (x n) (expand_high added n (plus x (added n)) k (omega arith)) (expand_high added n x k (omega arith))
  where
    go : (b : Bool) → expand added n (plus x (added n)) k ≡ false → expand added n x k ≡ false
        → cond {A = Rows} b (plus (expand added n (plus x (added n))) (only n)) (expand added n x) k ≡ false
    go true p q = rw (p, ne_eqb k n (λ e. omega arith)) refl
    go false p q = q

-- each reduced column is its own column and what was added
pub expand_sum : (added reduced own : ℕ → Rows) (n : ℕ) (x : Rows) → ((l : ℕ) → l < n → reduced l ≡ plus (own l) (total reduced (added l) l))
    → total reduced x n ≡ total own (expand added n x) n
expand_sum added reduced own zero x h = refl
expand_sum added reduced own (suc n) x h =
    go (x n) (h n (omega arith)) (expand_sum added reduced own n (plus x (added n)) (λ l k. h l (omega arith))) (expand_sum added reduced own n x (λ l k. h l (omega arith)))
  where
    go : (b : Bool) → reduced n ≡ plus (own n) (total reduced (added n) n)
        → total reduced (plus x (added n)) n ≡ total own (expand added n (plus x (added n))) n → total reduced x n ≡ total own (expand added n x) n
        → plus (total reduced x n) (taken b (reduced n)) ≡ total own (cond b (plus (expand added n (plus x (added n))) (only n)) (expand added n x)) (suc n)
    go true e p q =
        ap (plus (total reduced x n)) (e ∙ plus_comm (own n) (total reduced (added n) n))
        ∙ (sym (plus_assoc (total reduced x n) (total reduced (added n) n) (own n))
        ∙ (ap (λ (w : Rows). plus w (own n)) (sym (total_plus reduced x (added n) n) ∙ p)
        ∙ sym (total_with own (expand added n (plus x (added n))) n (λ j l. expand_high added n (plus x (added n)) j l))))
    go false e p q =
        plus_none (total reduced x n) ∙ (q ∙ sym (rw (expand_high added n x n (omega arith)) (plus_none (total own (expand added n x) n))))

-- a greater number may follow
ascend_last : (xs : List ℕ) (low high x : ℕ) → Ascends low x xs → low ≤ x → x < high → Ascends low high (xs ++ (x ∷ []))
ascend_last [] low high x a l h = (l, h, tt)
ascend_last (y ∷ xs) low high x a l h = (a.0, omega arith, ascend_last xs (suc y) high x a.2 (omega arith) h)

-- ascending, where the pivots' columns ascend
pub chosen_ascends : (c : ℕ → ℕ) (y : Rows) (n high : ℕ) → ((i j : ℕ) → i < j → j < n → c i < c j) → ((i : ℕ) → i < n → c i < high) → Ascends 0 high (chosen c y n)
chosen_ascends c y zero high up h = tt
chosen_ascends c y (suc n) high up h = go (y n)
    (chosen_ascends c y n (c n) (λ i j l k. up i j l (omega arith)) (λ i l. up i n l (omega arith)))
  where
    append-nil : (xs : List ℕ) → xs ++ [] ≡ xs
    append-nil [] = refl
    append-nil (x ∷ xs) = ap (λ w. x ∷ w) (append-nil xs)

    top : c n < high
    top = h n (omega arith)

    go : (b : Bool) → Ascends 0 (c n) (chosen c y n) → Ascends 0 high (chosen c y n ++ cond b (c n ∷ []) [])
    go true a = ascend_last (chosen c y n) 0 high (c n) a (omega arith) top
    go false a = subst (λ w. Ascends 0 high w) (sym (append-nil (chosen c y n))) (ascends_wider (chosen c y n) 0 (c n) 0 high a (omega arith) (let t = top in omega arith))

-- the sum of two lists of columns is the sum of their sums
pub sum_append : (xs ys : List (List ℕ)) → sum_up (tests (xs ++ ys)) ≡ plus (sum_up (tests xs)) (sum_up (tests ys))
sum_append [] ys = refl
sum_append (x ∷ xs) ys = ap (plus (has x)) (sum_append xs ys) ∙ sym (plus_assoc (has x) (sum_up (tests xs)) (sum_up (tests ys)))

-- the columns of two lists of numbers
pub columns_append : (cs : List (List ℕ)) (is js : List ℕ) → columns_at cs (is ++ js) ≡ columns_at cs is ++ columns_at cs js
columns_append cs [] js = refl
columns_append cs (i ∷ is) js = ap (λ w. column_at cs i ∷ w) (columns_append cs is js)

-- their columns have the sum
pub chosen_sum : (cs : List (List ℕ)) (c : ℕ → ℕ) (y : Rows) (n : ℕ) → sum_up (tests (columns_at cs (chosen c y n))) ≡ total (λ l. column_test cs (c l)) y n
chosen_sum cs c y zero = refl
chosen_sum cs c y (suc n) =
    ap (λ (w : List (List ℕ)). sum_up (tests w)) (columns_append cs (chosen c y n) (cond (y n) (c n ∷ []) []))
    ∙ (sum_append (columns_at cs (chosen c y n)) (columns_at cs (cond (y n) (c n ∷ []) []))
    ∙ (ap (λ (w : Rows). plus w (sum_up (tests (columns_at cs (cond (y n) (c n ∷ []) []))))) (chosen_sum cs c y n)
    ∙ ap (plus (total (λ l. column_test cs (c l)) y n)) (last (y n))))
  where
    last : (b : Bool) → sum_up (tests (columns_at cs (cond b (c n ∷ []) []))) ≡ taken b (column_test cs (c n))
    last true = plus_none (column_test cs (c n))
    last false = refl

-- so the expansion of one reduced column names columns whose sum it is
pub expanded_sum : (cs : List (List ℕ)) (c : ℕ → ℕ) (added reduced : ℕ → Rows) (n : ℕ) (x : Rows)
    → ((l : ℕ) → l < n → reduced l ≡ plus (column_test cs (c l)) (total reduced (added l) l))
    → sum_up (tests (columns_at cs (chosen c (expand added n x) n))) ≡ total reduced x n
expanded_sum cs c added reduced n x h = chosen_sum cs c (expand added n x) n ∙ sym (expand_sum added reduced (λ l. column_test cs (c l)) n x h)
