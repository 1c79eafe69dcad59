-- The written chain: it stands with the pivot whose row is the contact row, and it is unique.
use Rattle.std.proofs.Common.{◌≡◌, ℕ, suc, ◌-◌, ◌<◌, ◌≤◌, true, eqb, List, [], ◌∷◌, length, refl, sym, ◌∙◌, ap, subst, arith, inl, inr}
use Rattle.std.specs.List.{list_all}
use Rattle.std.proofs.lemmas.Bool.{cases_Bool, cases_lt}
use Rattle.obd_base.specs.Lists.{has}
use Rattle.mod2_rank.specs.Linear.{sum_of, columns_at, is_pivot, IsChain, Ascends, IsWrittenChain}
use Rattle.mod2_rank.specs.Rows.{Rows, plus, only, total}
use Rattle.mod2_rank.proofs.Spans.{InSpan}
use Rattle.mod2_rank.specs.Ascending.{AllAscend}
use Rattle.mod2_rank.proofs.Totals.{first_columns, total_plus, total_only, total_none, total_in_span, unique_total}
use Rattle.mod2_rank.proofs.Members.{has_mem, mem_has, all_mem, all_from_mem}
use Rattle.mod2_rank.proofs.Ascending.{sum_up, tests, sum_of_is, sum_of_ascends, same_ascending, ascends_high, ascends_between}
use Rattle.mod2_rank.proofs.Columns.{column_test, column_ascends, new_is_pivot, pivot_is_new}
use Rattle.mod2_rank.proofs.Built.{OnlyNew}
use Rattle.mod2_rank.proofs.Parity.{has_cons}
use mathlib.Core.Path.{fun_ext}

-- the sum of the columns with the numbers of an ascending list
pub sum_is_total : (cs : List (List ℕ)) (js : List ℕ) (n low : ℕ) → Ascends low n js → sum_up (tests (columns_at cs js)) ≡ total (column_test cs) (has js) n
sum_is_total cs [] n low a = sym (total_none (column_test cs) n)
sum_is_total cs (j ∷ js) n low a =
    join (total_only (column_test cs) j n a.1) (sum_is_total cs js n (suc j) a.2)
    ∙ sym (ap (λ (t : Rows). total (column_test cs) t n) (has_cons j js n a.2) ∙ total_plus (column_test cs) (only j) (has js) n)
  where
    join : {s t : Rows} → s ≡ column_test cs j → sum_up (tests (columns_at cs js)) ≡ t → plus (column_test cs j) (sum_up (tests (columns_at cs js))) ≡ plus s t
    join e f = rw (e, f) refl

-- chosen columns ascend
pub columns_ascend : (rows : ℕ) (cs : List (List ℕ)) (js : List ℕ) → AllAscend rows cs → AllAscend rows (columns_at cs js)
columns_ascend rows cs [] a = tt
columns_ascend rows cs (j ∷ js) a = (column_ascends rows cs j a, columns_ascend rows cs js a)

-- the sum of numbered columns as a test
pub sum_test : (rows : ℕ) (cs : List (List ℕ)) (js : List ℕ) (n : ℕ) → AllAscend rows cs → Ascends 0 n js → has (sum_of rows (columns_at cs js)) ≡ total (column_test cs) (has js) n
sum_test rows cs js n a b = sum_of_is rows (columns_at cs js) (columns_ascend rows cs js a) ∙ sum_is_total cs js n 0 b

-- the list of one row has that row alone
pub only_list : (t : ℕ) → has (t ∷ []) ≡ only t
only_list t = fun_ext (λ k. elim (cases_Bool (eqb k t)) [ inl e ↦ rw e refl | inr e ↦ rw e refl ])

-- a chain says that the contact row alone is in the span
pub chain_in_span : (rows : ℕ) (cs : List (List ℕ)) (js : List ℕ) (n : ℕ) → AllAscend rows cs → Ascends 0 n js → IsChain rows cs js → InSpan (first_columns (column_test cs) n) (only (rows - 1))
chain_in_span rows cs js n a b h =
    let e : total (column_test cs) (has js) n ≡ only (rows - 1) = sym (sum_test rows cs js n a b) ∙ (ap has h ∙ only_list (rows - 1)) in
    subst (λ (w : Rows). InSpan (first_columns (column_test cs) n) w) e (total_in_span (column_test cs) (has js) n)

-- columns whose sum is the contact row alone are a chain
pub chain_from_total : (rows : ℕ) (cs : List (List ℕ)) (js : List ℕ) (n : ℕ) → 0 < rows → AllAscend rows cs → Ascends 0 n js → total (column_test cs) (has js) n ≡ only (rows - 1) → IsChain rows cs js
chain_from_total rows cs js n l a b e =
    same_ascending (sum_of rows (columns_at cs js)) ((rows - 1) ∷ []) 0 rows (sum_of_ascends rows (columns_at cs js)) (omega arith, omega arith, tt)
    (λ k. ap (λ (w : Rows). w k) (sum_test rows cs js n a b ∙ (e ∙ sym (only_list (rows - 1)))))

-- only pivot columns are members, by the definition and by spans
pub pivotal_new : (rows : ℕ) (cs : List (List ℕ)) (js : List ℕ) → AllAscend rows cs → Ascends 0 (length cs) js → list_all (is_pivot rows cs) js ≡ true → OnlyNew (column_test cs) js
pivotal_new rows cs js a b h k m =
    let l : k ≤ length cs = (let q = (ascends_between js 0 (length cs) k b m).1 in omega arith) in
    pivot_is_new rows cs k a l (all_mem (is_pivot rows cs) k js h (has_mem k js m))

-- columns that are in no sum of those before them are pivot columns
pub new_pivotal : (rows : ℕ) (cs : List (List ℕ)) (js : List ℕ) → AllAscend rows cs → Ascends 0 (length cs) js → OnlyNew (column_test cs) js → list_all (is_pivot rows cs) js ≡ true
new_pivotal rows cs js a b h = all_from_mem (is_pivot rows cs) js (λ k m.
    let l : k ≤ length cs = (let q = (ascends_between js 0 (length cs) k b (mem_has k js m)).1 in omega arith) in
    new_is_pivot rows cs k a l (h k (mem_has k js m)))

-- ascending lists of pivot columns with one sum are equal
pub unique_expression : (rows : ℕ) (cs : List (List ℕ)) (js ks : List ℕ) → AllAscend rows cs → Ascends 0 (length cs) js → Ascends 0 (length cs) ks
    → OnlyNew (column_test cs) js → OnlyNew (column_test cs) ks → total (column_test cs) (has js) (length cs) ≡ total (column_test cs) (has ks) (length cs) → js ≡ ks
unique_expression rows cs js ks a b c f g e = same_ascending js ks 0 (length cs) b c (λ k. elim (cases_lt k (length cs)) [
  | inl l ↦ unique_total (column_test cs) (has js) (has ks) (length cs) (λ i li. f i) (λ i li. g i) e k l
  | inr l ↦ ascends_high js 0 (length cs) k b l ∙ sym (ascends_high ks 0 (length cs) k c l)
])

-- the written chain is one
pub unique_chain : (rows : ℕ) (cs : List (List ℕ)) (js ks : List ℕ) → AllAscend rows cs → IsWrittenChain rows cs js → IsWrittenChain rows cs ks → js ≡ ks
unique_chain rows cs js ks a p q =
    unique_expression rows cs js ks a p.ascends q.ascends (pivotal_new rows cs js a p.ascends p.pivotal) (pivotal_new rows cs ks a q.ascends q.pivotal)
    (sym (sum_test rows cs js (length cs) a p.ascends) ∙ (ap has (p.chain ∙ sym q.chain) ∙ sum_test rows cs ks (length cs) a q.ascends))
