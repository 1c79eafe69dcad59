-- What the pivots of all columns say: the outcome, with the written chain or the written functional.
use Rattle.std.proofs.Common.{◌≡◌, ℕ, zero, suc, ◌-◌, ◌<◌, ◌≤◌, Bool, cond, eqb, List, [], ◌∷◌, ◌++◌, length, map, get_or, Option, Some, None, refl, sym, ◌∙◌, ap, subst, arith, inl, inr}
use Rattle.std.specs.List.{count_by}
use Rattle.std.proofs.lemmas.Bool.{cases_eq, eq-eqb, ne_eqb}
use Rattle.std.proofs.lemmas.List.{map-append}
use Rattle.std.proofs.lemmas.List.FromFn.{get_or-map-range_with_len, length-map-range_with_len}
use Rattle.obd_base.specs.Lists.{Mem, below, has, is_odd}
use Rattle.obd_base.proofs.lists.Below.{below_push}
use Rattle.mod2_rank.specs.Ascending.{AllAscend}
use Rattle.mod2_rank.specs.Linear.{IsOutcome, IsWrittenChain, pivot_row, pivots}
use Rattle.mod2_rank.specs.declared.outcome.Verdict.TheVariants.{Chain, Functional}
use Rattle.mod2_rank.specs.Rows.{only, IsLeast, odd_times}
use Rattle.mod2_rank.proofs.PivotColumns.{backwards}
use Rattle.mod2_rank.proofs.Eliminated.{last_alone}
use Rattle.mod2_rank.specs.Written.{chosen, decides, expand, filled}
use Rattle.mod2_rank.proofs.Filled.{decides_row, fill}
use Rattle.mod2_rank.proofs.LeanChain.{lean_chain, pivot_index, pivots_ascend}
use Rattle.mod2_rank.proofs.LeanOutcome.{lean_columns, lean_columns_are, lean_functional, lean_rows, lean_rows_are, plain}
use Rattle.mod2_rank.proofs.PivotTable.{Found, InTable, pivots_upto}
use Rattle.mod2_rank.specs.Reduction.{tested}

-- `None` is no `Some`
none_is_some : (l : ℕ) → ◌≡◌ {A = Option ℕ} None (Some l) → ⊥
none_is_some l e = cc

-- the pivot columns in order, and their rows
pub columns_upto : (column row : ℕ → ℕ) (reduced : ℕ → List ℕ) (n : ℕ) → backwards (lean_columns (pivots_upto column row reduced n)) ≡ map column (below n)
columns_upto column row reduced zero = refl
columns_upto column row reduced (suc n) =
    ap (λ w. w ++ column n ∷ []) (columns_upto column row reduced n) ∙ sym (ap (map column) (below_push n) ∙ map-append column (below n) (n ∷ []))

-- their rows
rows_upto : (column row : ℕ → ℕ) (reduced : ℕ → List ℕ) (n : ℕ) → backwards (lean_rows (pivots_upto column row reduced n)) ≡ map row (below n)
rows_upto column row reduced zero = refl
rows_upto column row reduced (suc n) =
    ap (λ w. w ++ row n ∷ []) (rows_upto column row reduced n) ∙ sym (ap (map row) (below_push n) ∙ map-append row (below n) (n ∷ []))

module _ (rows : ℕ) (cs : List (List ℕ)) (n : ℕ) (column row : ℕ → ℕ) (reduced added : ℕ → List ℕ) (some : 0 < rows) (ok : AllAscend rows cs)
    (found : Found rows cs (length cs) n column row reduced added) (table : ℕ → Option ℕ) (tabled : InTable n row table) where
  -- the pivot columns are found, with their rows
  pub columns_found : map column (below n) ≡ pivots rows cs
  columns_found = sym (columns_upto column row reduced n) ∙ lean_columns_are rows cs (pivots_upto column row reduced n) found.lean

  -- with their rows
  pub rows_found : map row (below n) ≡ map (pivot_row rows cs) (pivots rows cs)
  rows_found = sym (rows_upto column row reduced n) ∙ lean_rows_are rows cs (pivots_upto column row reduced n) ok found.lean

  -- so many pivot columns
  count : n ≡ length (pivots rows cs)
  count = sym (length-map-range_with_len column 0 n) ∙ ap length columns_found

  -- the column of a pivot by its number
  column_is : (l : ℕ) → l < n → column l ≡ get_or (pivots rows cs) l 0
  column_is l h = sym (get_or-map-range_with_len column 0 n l l 0 h (omega arith)) ∙ ap (λ xs. get_or xs l 0) columns_found

  -- where the contact row is the row of pivot l, the expansion of its reduced column is the written chain
  pub chain_found : (l : ℕ) → table (rows - 1) ≡ Some l → IsWrittenChain rows cs (chosen column (expand (λ i. odd_times (added i)) n (only l)) n)
  chain_found l e =
      let (h, at) = tabled.there (rows - 1) l e in
      lean_chain rows cs n column (λ i. odd_times (added i)) (tested reduced) l some ok
      (λ i j lt k. let a = pivots_ascend rows cs i j lt (omega (arith, count)) in rw (column_is i (omega arith), column_is j k) a)
      (λ i k. rw (column_is i k) (pivot_index rows cs i (omega (arith, count))).0)
      (λ i k. rw (column_is i k) (pivot_index rows cs i (omega (arith, count))).1)
      found.made h
      (last_alone rows (reduced l) some (found.ascends l h) (subst (λ r. IsLeast (has (reduced l)) r) at (found.least l h)))

  -- the outcome then
  pub chain_outcome : (l : ℕ) (js : List ℕ) → table (rows - 1) ≡ Some l → js ≡ chosen column (expand (λ i. odd_times (added i)) n (only l)) n
      → IsOutcome rows cs (map column (below n)) (map row (below n)) (Chain js)
  chain_outcome l js e same = record { columns_are = columns_found; rows_are = rows_found; verdict_is = rw same (chain_found l e) }

  -- where the table has none no pivot has the row
  no_pivot : (r m : ℕ) → m ≤ n → table r ≡ None → Mem r (lean_rows (pivots_upto column row reduced m)) → ⊥
  no_pivot r zero l e m = m
  no_pivot r (suc m) l e (inl q) = none_is_some m (sym e ∙ (ap table q ∙ tabled.all m (omega arith)))
  no_pivot r (suc m) l e (inr k) = no_pivot r m (omega arith) e k

  -- else the filled rows are the written functional
  pub functional_outcome : (f : List ℕ) → table (rows - 1) ≡ None → f ≡ fill (rows - 1) (plain (pivots_upto column row reduced n)) 0 rows
      → IsOutcome rows cs (map column (below n)) (map row (below n)) (Functional f)
  functional_outcome f e same = record {
    columns_are = columns_found;
    rows_are = rows_found;
    verdict_is = rw same (lean_functional rows cs (pivots_upto column row reduced n) some ok found.lean (no_pivot (rows - 1) n (omega arith) e));
  }

  -- there the contact row alone is in
  decided_none : (t r m : ℕ) (f : List ℕ) → m ≤ n → table r ≡ None → decides_row t (plain (pivots_upto column row reduced m)) r f ≡ eqb r t
  decided_none t r zero f l e = refl
  decided_none t r (suc m) f l e =
      rw (ne_eqb r (row m) (λ q. none_is_some m (sym e ∙ (ap table q ∙ tabled.all m (omega arith)))), decided_none t r m f (omega arith) e) refl

  -- where the table has one its reduced column decides
  decided_some : (t r l m : ℕ) (f : List ℕ) → m ≤ n → l < m → table r ≡ Some l → decides_row t (plain (pivots_upto column row reduced m)) r f ≡ is_odd (count_by (has f) (reduced l))
  decided_some t r l zero f h k e = absurd (omega arith)
  decided_some t r l (suc m) f h k e = elim (cases_eq l m) [
    | inl q ↦ rw (eq-eqb r (row m) (sym (sym (ap row q) ∙ (tabled.there r l e).1)), q) refl
    | inr ne ↦ rw (ne_eqb r (row m) (λ q. ne (one l m (sym e ∙ (ap table q ∙ tabled.all m (omega arith))))), decided_some t r l m f (omega arith) (omega arith) e) refl
  ]
    where
      one : (a b : ℕ) → ◌≡◌ {A = Option ℕ} (Some a) (Some b) → a ≡ b
      one a b e = cc

  -- by the table and the reduced columns
  pub decided : (t r : ℕ) (f : List ℕ) → decides_row t (plain (pivots_upto column row reduced n)) r f ≡ decides table reduced t (has f) r
  decided t r f = go (table r) refl
    where
      at : Option ℕ → Bool
      at (Some l) = is_odd (count_by (has f) (reduced l))
      at None = eqb r t

      go : (o : Option ℕ) → table r ≡ o → decides_row t (plain (pivots_upto column row reduced n)) r f ≡ decides table reduced t (has f) r
      go (Some l) e = decided_some t r l n f (omega arith) (tabled.there r l e).0 e ∙ rw e refl
      go None e = decided_none t r n f (omega arith) e ∙ rw e refl

  -- one row of the functional, from the last one down
  pub fill_next : (t r k : ℕ) (f : List ℕ) → f ≡ fill t (plain (pivots_upto column row reduced n)) (suc r) k
      → fill t (plain (pivots_upto column row reduced n)) r (suc k) ≡ cond (decides table reduced t (has f) r) (r ∷ f) f
  fill_next t r k f e = rw e (ap (λ b. cond b (r ∷ fill t (plain (pivots_upto column row reduced n)) (suc r) k) (fill t (plain (pivots_upto column row reduced n)) (suc r) k)) (decided t r (fill t (plain (pivots_upto column row reduced n)) (suc r) k)))

  -- so the functional is filled by the table and the reduced columns
  pub filled_is : (t r k : ℕ) → filled table reduced t r k ≡ fill t (plain (pivots_upto column row reduced n)) r k
  filled_is t r zero = refl
  filled_is t r (suc k) = sym (fill_next t r k (filled table reduced t (suc r) k) (filled_is t (suc r) k))
