-- What the loop over the columns has, in the lists that code keeps.
use Rattle.std.proofs.Common.{◌≡◌, ℕ, zero, suc, ◌+◌, ◌-◌, ◌<◌, ◌≤◌, true, false, List, [], ◌∷◌, ◌++◌, length, map, get_or, set, replicate, Option, Some, None, refl, sym, ◌∙◌, ap, subst, arith, length-append, inl, inr}
use Rattle.mod2_rank.proofs.PivotColumns.{rank_of_pivots}
use Rattle.std.proofs.lemmas.List.{length-map, get_or-set_same, get_or-set_other, get_or-replicate, get_or_past, get_or_append_left, get_or_push, length-replicate}
use Rattle.std.proofs.lemmas.Bool.{cases_lt}
use Rattle.obd_base.specs.Lists.{below, has}
use Rattle.obd_base.proofs.lists.Sums.{by_entries}
use Rattle.mod2_rank.specs.Ascending.{AllAscend}
use Rattle.mod2_rank.specs.Linear.{Ascends, Concludes, IsOutcome, IsRank}
use Rattle.mod2_rank.specs.declared.outcome.Pivot.{Pivot}
use Rattle.mod2_rank.specs.declared.outcome.Verdict.{Verdict}
use Rattle.mod2_rank.specs.declared.outcome.Verdict.TheVariants.{Chain, Functional}
use Rattle.mod2_rank.specs.Reduction.{IsLeft, IsPivotTable, entry_of, list_of}
use Rattle.mod2_rank.specs.Rows.{Rows, none, only, IsLeast, odd_times}
use Rattle.mod2_rank.specs.Written.{chain_of, chosen, expand, filled, functional_of, verdict_at, verdict_of}
use Rattle.mod2_rank.proofs.Columns.{column_test}
use Rattle.mod2_rank.proofs.PivotTable.{Found, InTable, found_more, found_none, found_same, table_more, table_none}
use Rattle.mod2_rank.proofs.PivotOutcome.{chain_outcome, filled_is, functional_outcome}

-- entry l of a list of numbers
abbrev pub number_of : List ℕ → ℕ → ℕ
number_of xs l = get_or xs l 0

-- the pivots of the first j columns: their columns, rows, reduced columns and the pivots added, and the table
pub record Pivots (rows : ℕ) (cs : List (List ℕ)) (j : ℕ) (columns rws : List ℕ) (reduced added : List (List ℕ)) (table : List (Option ℕ)) : Type 0 where
  pub rows_size : length rws ≡ length columns
  pub reduced_size : length reduced ≡ length columns
  pub added_size : length added ≡ length columns
  pub few : length columns ≤ j
  pub found : Found rows cs j (length columns) (number_of columns) (number_of rws) (list_of reduced) (list_of added)
  pub tabled : InTable (length columns) (number_of rws) (entry_of table)

-- before the first column
pub pivots_none : (rows : ℕ) (cs : List (List ℕ)) → Pivots rows cs 0 [] [] [] [] (replicate rows None)
pivots_none rows cs = record {
  rows_size = refl;
  reduced_size = refl;
  added_size = refl;
  few = omega arith;
  found = found_none rows cs (number_of []) (number_of []) (list_of []) (list_of []);
  tabled = table_none (number_of []) (entry_of (replicate rows None)) empty;
}
  where
    nothing : Option ℕ
    nothing = None

    size : length (replicate rows nothing) ≡ rows
    size = length-replicate rows nothing

    empty : (r : ℕ) → entry_of (replicate rows None) r ≡ None
    empty r = elim (cases_lt r rows) [ inl h ↦ get_or-replicate rows r None None h | inr h ↦ get_or_past (replicate rows None) r None (omega (arith, size)) ]

module _ (rows : ℕ) (cs : List (List ℕ)) (j : ℕ) (columns rws : List ℕ) (reduced added : List (List ℕ)) (table : List (Option ℕ)) (pivots : Pivots rows cs j columns rws reduced added table) where
  -- the table is one
  pub pivots_table : IsPivotTable rows reduced table
  pivots_table r l e =
      let (small, at) = pivots.tabled.there r l e in
      (omega (arith, pivots.reduced_size), pivots.found.ascends l small, subst (λ k. IsLeast (has (list_of reduced l)) k) at (pivots.found.least l small))

  -- a column of which nothing is left
  pub pivots_same : (us : List ℕ) → AllAscend rows cs → j < length cs → IsLeft rows (column_test cs j) (length reduced) (list_of reduced) us 0 none
      → Pivots rows cs (j + 1) columns rws reduced added table
  pivots_same us ok here left =
      let next : j + 1 ≡ suc j = omega arith in
      subst (λ i. Pivots rows cs i columns rws reduced added table) (sym next) (record {
        rows_size = pivots.rows_size;
        reduced_size = pivots.reduced_size;
        added_size = pivots.added_size;
        few = omega (arith, pivots.few);
        found = found_same rows cs j (length columns) (number_of columns) (number_of rws) (list_of reduced) (list_of added) ok here pivots.found us 0
            (subst (λ n. IsLeft rows (column_test cs j) n (list_of reduced) us 0 none) pivots.reduced_size left);
        tabled = pivots.tabled;
      })

  -- a column of which something is left
  pub pivots_more : (us : List ℕ) (v : Rows) (r : ℕ) (w : List ℕ) → AllAscend rows cs → j < length cs → IsLeft rows (column_test cs j) (length reduced) (list_of reduced) us 0 v
      → IsLeast v r → entry_of table r ≡ None → Ascends 0 rows w → has w ≡ v → r < length table
      → Pivots rows cs (j + 1) (columns ++ j ∷ []) (rws ++ r ∷ []) (reduced ++ w ∷ []) (added ++ us ∷ []) (set table r (Some (length columns)))
  pivots_more us v r w ok here left least new asc same inside =
      let next : j + 1 ≡ suc j = omega arith in
      let n = length columns in
      let grown : length (columns ++ j ∷ []) ≡ suc (length columns) = length-append columns (j ∷ []) ∙ omega arith in
      let rows_grown : length (rws ++ r ∷ []) ≡ length rws + 1 = length-append rws (r ∷ []) in
      let reduced_grown : length (reduced ++ w ∷ []) ≡ length reduced + 1 = length-append reduced (w ∷ []) in
      let added_grown : length (added ++ us ∷ []) ≡ length added + 1 = length-append added (us ∷ []) in
      let left_here = subst (λ n. IsLeft rows (column_test cs j) n (list_of reduced) us 0 v) pivots.reduced_size left in
      let own_row : number_of (rws ++ r ∷ []) n ≡ r = get_or_push rws r 0 n pivots.rows_size in
      let old_rows : (l : ℕ) → l < length columns → number_of (rws ++ r ∷ []) l ≡ number_of rws l = λ l h. get_or_append_left rws (r ∷ []) 0 l (omega (arith, pivots.rows_size)) in
      subst (λ i. Pivots rows cs i (columns ++ j ∷ []) (rws ++ r ∷ []) (reduced ++ w ∷ []) (added ++ us ∷ []) (set table r (Some (length columns)))) (sym next) (record {
        rows_size = omega (arith, grown, rows_grown, pivots.rows_size);
        reduced_size = omega (arith, grown, reduced_grown, pivots.reduced_size);
        added_size = omega (arith, grown, added_grown, pivots.added_size);
        few = omega (arith, grown, pivots.few);
        found =
            subst (λ m. Found rows cs (suc j) m (number_of (columns ++ j ∷ [])) (number_of (rws ++ r ∷ [])) (list_of (reduced ++ w ∷ [])) (list_of (added ++ us ∷ []))) (sym grown)
            (found_more rows cs j n (number_of columns) (number_of rws) (list_of reduced) (list_of added) ok here pivots.found (entry_of table) us 0 v r w pivots.tabled left_here least new asc same
            (number_of (columns ++ j ∷ [])) (number_of (rws ++ r ∷ [])) (list_of (reduced ++ w ∷ [])) (list_of (added ++ us ∷ []))
            (λ l h. get_or_append_left columns (j ∷ []) 0 l h)
            old_rows
            (λ l h. get_or_append_left reduced (w ∷ []) [] l (omega (arith, pivots.reduced_size)))
            (λ l h. get_or_append_left added (us ∷ []) [] l (omega (arith, pivots.added_size)))
            (get_or_push columns j 0 n refl)
            own_row
            (get_or_push reduced w [] n pivots.reduced_size)
            (get_or_push added us [] n pivots.added_size));
        tabled =
            subst (λ m. InTable m (number_of (rws ++ r ∷ [])) (entry_of (set table r (Some (length columns))))) (sym grown)
            (table_more n (number_of rws) (number_of (rws ++ r ∷ [])) (entry_of table) (entry_of (set table r (Some (length columns)))) r pivots.tabled new old_rows own_row
            (get_or-set_same table r (Some (length columns)) None inside)
            (λ k ne. get_or-set_other table r k (Some (length columns)) None ne));
      })

-- after the last column
module _ (rows : ℕ) (cs : List (List ℕ)) (columns rws : List ℕ) (reduced added : List (List ℕ)) (table : List (Option ℕ)) (some : 0 < rows) (ok : AllAscend rows cs)
    (pivots : Pivots rows cs (length cs) columns rws reduced added table) where
  -- a list is the list of its entries
  columns_entries : columns ≡ map (number_of columns) (below (length columns))
  columns_entries = by_entries 0 columns (length columns) refl

  -- and so are the rows
  rows_entries : rws ≡ map (number_of rws) (below (length columns))
  rows_entries = by_entries 0 rws (length columns) pivots.rows_size

  -- the outcome with the written chain
  pub pivots_chain : (l : ℕ) (js : List ℕ) → entry_of table (rows - 1) ≡ Some l
      → js ≡ chosen (number_of columns) (expand (λ i. odd_times (list_of added i)) (length columns) (only l)) (length columns) → IsOutcome rows cs columns rws (Chain js)
  pivots_chain l js e same =
      rw (columns_entries, rows_entries) (chain_outcome rows cs (length columns) (number_of columns) (number_of rws) (list_of reduced) (list_of added) some ok pivots.found (entry_of table) pivots.tabled l js e same)

  -- the outcome with the written functional
  pub pivots_functional : (f : List ℕ) → entry_of table (rows - 1) ≡ None → f ≡ filled (entry_of table) (list_of reduced) (rows - 1) 0 rows → IsOutcome rows cs columns rws (Functional f)
  pivots_functional f e same =
      rw (columns_entries, rows_entries) (functional_outcome rows cs (length columns) (number_of columns) (number_of rws) (list_of reduced) (list_of added) some ok pivots.found (entry_of table) pivots.tabled f e
      (same ∙ filled_is rows cs (length columns) (number_of columns) (number_of rws) (list_of reduced) (list_of added) some ok pivots.found (entry_of table) pivots.tabled (rows - 1) 0 rows))

  -- the outcome with the verdict that the pivots give
  pub pivots_verdict : length table ≡ rows → IsOutcome rows cs columns rws (verdict_of columns reduced added table)
  pivots_verdict size = go (entry_of table (length table - 1)) (ap (λ n. entry_of table (n - 1)) (sym size))
    where
      go : (at : Option ℕ) → entry_of table (rows - 1) ≡ at → IsOutcome rows cs columns rws (verdict_at columns reduced added table at)
      go (Some l) e = pivots_chain l (chain_of (length columns) columns added l) e refl
      go None e = pivots_functional (functional_of reduced table) e (ap (λ n. filled (entry_of table) (list_of reduced) (n - 1) 0 n) size)

-- what is read of a list, mapped
pub read_map : {A B : Type 0} (f : A → B) (xs : List A) (i : ℕ) (x : A) (d : B) → i < length xs → x ≡ get_or xs i x → f x ≡ get_or (map f xs) i d
read_map f [] i x d l e = absurd (omega arith)
read_map f (y ∷ xs) zero x d l e = ap f e
read_map f (y ∷ xs) (suc i) x d l e = read_map f xs i x d (omega arith) e

-- one more at the end of a list, mapped
pub map_push : {A B : Type 0} (f : A → B) (xs : List A) (x : A) → map f (xs ++ x ∷ []) ≡ map f xs ++ f x ∷ []
map_push f [] x = refl
map_push f (y ∷ xs) x = ap (λ w. f y ∷ w) (map_push f xs x)

-- what is left of a column, by equal numbers of rows and equal columns
pub left_as : (size rows : ℕ) (c d : List ℕ) (n : ℕ) (reduced : ℕ → List ℕ) (us : List ℕ) (v : Rows) → size ≡ rows → c ≡ d → IsLeft size (has c) n reduced us 0 v → IsLeft rows (has d) n reduced us 0 v
left_as size rows c d n reduced us v e f l = subst (λ r. IsLeft r (has d) n reduced us 0 v) e (subst (λ (x : List ℕ). IsLeft size (has x) n reduced us 0 v) f l)

-- the pivots, by equal lists
pub pivots_as : (rows : ℕ) (cs : List (List ℕ)) (j : ℕ) {columns columns' rws rws' : List ℕ} {reduced reduced' added added' : List (List ℕ)} {table table' : List (Option ℕ)}
    → columns' ≡ columns → rws' ≡ rws → reduced' ≡ reduced → added' ≡ added → table' ≡ table
    → Pivots rows cs j columns rws reduced added table → Pivots rows cs j columns' rws' reduced' added' table'
pivots_as rows cs j a b c d e p = rw (a, b, c, d, e) p

-- a least row of what is left is a row
pub least_inside : (rows : ℕ) (v : Rows) (r : ℕ) → ((k : ℕ) → rows ≤ k → v k ≡ false) → IsLeast v r → r < rows
least_inside rows v r inside least = elim (cases_lt r rows) [ inl h ↦ h | inr h ↦ absurd (no (sym (inside r h) ∙ least.on)) ]
  where
    no : false ≡ true → ⊥
    no e = cc

-- the outcome, by equal lists and verdicts
pub outcome_as : (rows : ℕ) (cs : List (List ℕ)) {columns columns' rws rws' : List ℕ} {verdict verdict' : Verdict} → columns' ≡ columns → rws' ≡ rws → verdict' ≡ verdict
    → IsOutcome rows cs columns rws verdict → IsOutcome rows cs columns' rws' verdict'
outcome_as rows cs a b c o = rw (a, b, c) o

-- an outcome of as many pivots as the number says
pub concluded : (rows : ℕ) (cs : List (List ℕ)) (ps : List Pivot) (rank : ℕ) (verdict : Verdict) → AllAscend rows cs → rank ≡ length ps
    → IsOutcome rows cs (map (λ (p : Pivot). p.column) ps) (map (λ (p : Pivot). p.row) ps) verdict → Concludes rows cs ps rank verdict
concluded rows cs ps rank verdict ok size outcome = record {
  outcome = outcome;
  rank_is = subst (λ n. IsRank rows cs n) (sym (ap length outcome.columns_are) ∙ (length-map ps (λ (p : Pivot). p.column) ∙ sym size)) (rank_of_pivots rows cs ok);
}
