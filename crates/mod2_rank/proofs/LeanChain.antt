-- The written chain from the pivots that each reduced column added: code need not keep the columns used.
use Rattle.std.proofs.Common.{◌≡◌, ℕ, zero, suc, ◌-◌, ◌<◌, ◌≤◌, Bool, true, false, cond, List, [], ◌∷◌, ◌++◌, length, get_or, refl, sym, ◌∙◌, ap, arith}
use Rattle.std.specs.List.{list_all}
use Rattle.std.proofs.lemmas.Bool.{and_parts, and_from}
use Rattle.obd_base.specs.Lists.{below, has}
use Rattle.mod2_rank.specs.Linear.{sum_of, columns_at, is_pivot, pivots, Ascends, IsWrittenChain}
use Rattle.mod2_rank.specs.Rows.{Rows, plus, only, total}
use Rattle.mod2_rank.specs.Ascending.{AllAscend}
use Rattle.mod2_rank.proofs.Totals.{total_only}
use Rattle.mod2_rank.proofs.Members.{mem_at}
use Rattle.obd_base.proofs.lists.Members.{mem_filter}
use Rattle.mod2_rank.proofs.Ascending.{sum_of_is, sum_of_ascends, same_ascending, below_ascends}
use Rattle.mod2_rank.proofs.Columns.{column_test}
use Rattle.obd_base.proofs.lists.Below.{mem_range}
use Rattle.mod2_rank.proofs.ChainLaw.{columns_ascend, only_list}
use Rattle.mod2_rank.specs.Written.{expand, chosen}
use Rattle.mod2_rank.proofs.Expanding.{chosen_ascends, expanded_sum}

-- a test that holds of two lists holds of both joined
pub all_append : (p : ℕ → Bool) (xs ys : List ℕ) → list_all p xs ≡ true → list_all p ys ≡ true → list_all p (xs ++ ys) ≡ true
all_append p [] ys h k = k
all_append p (x ∷ xs) ys h k = let (a, b) = and_parts (p x) (list_all p xs) h in and_from (p x) (list_all p (xs ++ ys)) a (all_append p xs ys b k)

-- and of chosen columns where it holds of each column
pub chosen_all : (p : ℕ → Bool) (c : ℕ → ℕ) (y : Rows) (n : ℕ) → ((i : ℕ) → i < n → p (c i) ≡ true) → list_all p (chosen c y n) ≡ true
chosen_all p c y zero h = refl
chosen_all p c y (suc n) h = all_append p (chosen c y n) (cond (y n) (c n ∷ []) []) (chosen_all p c y n (λ i l. h i (omega arith))) (last (y n))
  where
    here : p (c n) ≡ true
    here = h n (omega arith)

    last : (b : Bool) → list_all p (cond b (c n ∷ []) []) ≡ true
    last true = and_from (p (c n)) true here refl
    last false = refl

-- numbers in an ascending list ascend with their places
pub ascends_index : (xs : List ℕ) (low high i j : ℕ) → Ascends low high xs → i < j → j < length xs → get_or xs i 0 < get_or xs j 0
ascends_index [] low high i j a l h = absurd (omega arith)
ascends_index (x ∷ xs) low high zero zero a l h = absurd (omega arith)
ascends_index (x ∷ xs) low high zero (suc j) a l h = at_least xs (suc x) high j a.2 (omega arith)
  where
    at_least : (xs : List ℕ) (low high j : ℕ) → Ascends low high xs → j < length xs → low ≤ get_or xs j 0
    at_least [] low high j a h = absurd (omega arith)
    at_least (y ∷ ys) low high zero a h = a.0
    at_least (y ∷ ys) low high (suc j) a h = omega (arith, at_least ys (suc y) high j a.2 (omega arith))
ascends_index (x ∷ xs) low high (suc i) zero a l h = absurd (omega arith)
ascends_index (x ∷ xs) low high (suc i) (suc j) a l h = ascends_index xs (suc x) high i j a.2 (omega arith) (omega arith)

-- the pivot columns by their places
pub pivot_index : (rows : ℕ) (cs : List (List ℕ)) (i : ℕ) → i < length (pivots rows cs) → (get_or (pivots rows cs) i 0 < length cs) × (is_pivot rows cs (get_or (pivots rows cs) i 0) ≡ true)
pivot_index rows cs i l =
    let (m, e) = mem_filter (is_pivot rows cs) (get_or (pivots rows cs) i 0) (below (length cs)) (mem_at (pivots rows cs) i 0 l) in
    let r = mem_range 0 (length cs) (get_or (pivots rows cs) i 0) m in
    (omega arith, e)

-- the pivot columns ascend
pub pivots_ascend : (rows : ℕ) (cs : List (List ℕ)) (i j : ℕ) → i < j → j < length (pivots rows cs) → get_or (pivots rows cs) i 0 < get_or (pivots rows cs) j 0
pivots_ascend rows cs i j l h = ascends_index (pivots rows cs) 0 (length cs) i j (below_ascends (is_pivot rows cs) (length cs)) l h

-- the expansion of the pivot whose reduced column is the contact row alone is the written chain
pub lean_chain : (rows : ℕ) (cs : List (List ℕ)) (n : ℕ) (c : ℕ → ℕ) (added reduced : ℕ → Rows) (l : ℕ) → 0 < rows → AllAscend rows cs
    → ((i j : ℕ) → i < j → j < n → c i < c j) → ((i : ℕ) → i < n → c i < length cs) → ((i : ℕ) → i < n → is_pivot rows cs (c i) ≡ true)
    → ((i : ℕ) → i < n → reduced i ≡ plus (column_test cs (c i)) (total reduced (added i) i)) → l < n → reduced l ≡ only (rows - 1)
    → IsWrittenChain rows cs (chosen c (expand added n (only l)) n)
lean_chain rows cs n c added reduced l p a up low piv made lt e =
    let js : List ℕ = chosen c (expand added n (only l)) n in
    let test : has (sum_of rows (columns_at cs (chosen c (expand added n (only l)) n))) ≡ has ((rows - 1) ∷ []) =
    sum_of_is rows (columns_at cs (chosen c (expand added n (only l)) n)) (columns_ascend rows cs (chosen c (expand added n (only l)) n) a)
    ∙ (expanded_sum cs c added reduced n (only l) made ∙ (total_only reduced l n lt ∙ (e ∙ sym (only_list (rows - 1))))) in
    record {
      ascends = chosen_ascends c (expand added n (only l)) n (length cs) up low;
      pivotal = chosen_all (is_pivot rows cs) c (expand added n (only l)) n piv;
      chain = same_ascending (sum_of rows (columns_at cs (chosen c (expand added n (only l)) n))) ((rows - 1) ∷ []) 0 rows
          (sum_of_ascends rows (columns_at cs (chosen c (expand added n (only l)) n))) (omega arith, omega arith, tt) (λ k. ap (λ (w : Rows). w k) test);
    }
