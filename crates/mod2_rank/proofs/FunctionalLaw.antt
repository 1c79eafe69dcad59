-- The written functional is unique; the rows of the elimination are the pivot rows; a chain needs one at the contact row.
use Rattle.std.proofs.Common.{◌≡◌, ℕ, zero, suc, ◌+◌, ◌-◌, ◌<◌, ◌≤◌, true, false, eqb, ◌||◌, List, [], ◌∷◌, length, map, refl, sym, ◌∙◌, ap, subst, arith, ◌⊎◌, inl, inr}
use Rattle.std.specs.List.{list_all}
use Rattle.std.proofs.lemmas.Bool.{cases_Bool, cases_lt, cases_eq, eq-eqb, eqb-true, false≢true, true≢false, or_cases, and_parts}
use Rattle.obd_base.specs.Lists.{has, Mem}
use Rattle.mod2_rank.specs.Linear.{pivots, pivot_row, meets_evenly, IsChain, IsFunctional, Ascends, is_pivot_row, IsWrittenFunctional}
use Rattle.mod2_rank.specs.Rows.{Rows, only}
use Rattle.mod2_rank.proofs.Spans.{InSpan, span_within}
use Rattle.mod2_rank.specs.Ascending.{AllAscend}
use Rattle.mod2_rank.proofs.Totals.{first_columns, total_in_span}
use Rattle.mod2_rank.proofs.Echelon.{lead_rows}
use Rattle.mod2_rank.proofs.Members.{has_mem, mem_has, any_mem, mem_any, all_mem, mem_map_in}
use Rattle.obd_base.proofs.lists.Members.{mem_map}
use Rattle.mod2_rank.proofs.Ascending.{tests, same_ascending, ascends_high}
use Rattle.mod2_rank.proofs.Columns.{column_test, same_all}
use Rattle.mod2_rank.proofs.PureRun.{Pivot, run}
use Rattle.mod2_rank.proofs.Built.{IsBuilt, AllBuilt, leads}
use Rattle.mod2_rank.proofs.NextPivot.{run_built}
use Rattle.mod2_rank.proofs.PivotColumns.{columns_of, rows_of, mem_backwards, backwards_mem, rows_right, Progress, run_progress}
use Rattle.mod2_rank.proofs.Parity.{dot, dot_only, even_from, AllEven, even_in_span, fixed_at}
use Rattle.mod2_rank.proofs.ChainLaw.{chain_in_span}

-- the rows of pivots, read in two ways
pub rows_lead : (ps : List Pivot) → rows_of ps ≡ lead_rows (leads ps)
rows_lead [] = refl
rows_lead (p ∷ ps) = ap (λ w. p.row ∷ w) (rows_lead ps)

-- the rows of the pivots are the pivot rows
pub found_in : (rows : ℕ) (cs : List (List ℕ)) (ps : List Pivot) (r : ℕ) → AllAscend rows cs → Progress rows cs (length cs) ps → is_pivot_row rows cs r ≡ true → Mem r (lead_rows (leads ps))
found_in rows cs ps r a g h =
    let (j, m, e) = mem_any (λ j. eqb r (pivot_row rows cs j)) (pivots rows cs) h in
    let k : Mem j (columns_of ps) = mem_backwards j (columns_of ps) (subst (λ w. Mem j w) (sym g.columns_are) m) in
    let l : Mem (pivot_row rows cs j) (rows_of ps) =
    subst (λ w. Mem (pivot_row rows cs j) w) (rows_right rows cs ps a g.built.each) (mem_map_in (pivot_row rows cs) j (columns_of ps) k) in
    subst (λ w. Mem w (lead_rows (leads ps))) (sym (eqb-true r (pivot_row rows cs j) e)) (subst (λ w. Mem (pivot_row rows cs j) w) (rows_lead ps) l)

-- the row of a pivot found is a pivot row
pub in_found : (rows : ℕ) (cs : List (List ℕ)) (ps : List Pivot) (r : ℕ) → AllAscend rows cs → Progress rows cs (length cs) ps → Mem r (lead_rows (leads ps)) → is_pivot_row rows cs r ≡ true
in_found rows cs ps r a g m =
    let k : Mem r (map (pivot_row rows cs) (columns_of ps)) = subst (λ w. Mem r w) (sym (rows_lead ps) ∙ sym (rows_right rows cs ps a g.built.each)) m in
    let (j, l, e) = mem_map (pivot_row rows cs) r (columns_of ps) k in
    any_mem (λ j. eqb r (pivot_row rows cs j)) j (pivots rows cs) (subst (λ w. Mem j w) g.columns_are (backwards_mem j (columns_of ps) l)) (eq-eqb r (pivot_row rows cs j) e)

-- a pivot row is the row of a pivot found
pub found_row : (rows : ℕ) (cs : List (List ℕ)) (r : ℕ) → AllAscend rows cs → is_pivot_row rows cs r ≡ true → Mem r (lead_rows (leads (run rows cs (length cs))))
found_row rows cs r a h = found_in rows cs (run rows cs (length cs)) r a (run_progress rows cs a (length cs) (omega arith)) h

-- and the other way round
pub row_found : (rows : ℕ) (cs : List (List ℕ)) (r : ℕ) → AllAscend rows cs → Mem r (lead_rows (leads (run rows cs (length cs)))) → is_pivot_row rows cs r ≡ true
row_found rows cs r a m = in_found rows cs (run rows cs (length cs)) r a (run_progress rows cs a (length cs) (omega arith)) m

-- even on the columns of the list
all_even : (rows : ℕ) (f : List ℕ) (cs : List (List ℕ)) → AllAscend rows cs → list_all (meets_evenly f) cs ≡ true → AllEven rows (has f) (tests cs)
all_even rows f [] a h = tt
all_even rows f (c ∷ cs) a h = let (p, q) = and_parts (meets_evenly f c) (list_all (meets_evenly f) cs) h in (even_from rows f c a.0 p, all_even rows f cs a.1 q)

-- a functional meets each sum of columns evenly
pub functional_even : (rows : ℕ) (cs : List (List ℕ)) (f : List ℕ) (v : Rows) → AllAscend rows cs → IsFunctional rows cs f
    → InSpan (first_columns (column_test cs) (length cs)) v → dot rows (has f) v ≡ false
functional_even rows cs f v a h i = even_in_span rows (has f) (tests cs) v (all_even rows f cs a h.even)
    (span_within (tests cs) (first_columns (column_test cs) (length cs)) v (same_all cs).back i)

-- a chain and a functional never both exist
pub never_both : (rows : ℕ) (cs : List (List ℕ)) (js f : List ℕ) → 0 < rows → AllAscend rows cs → Ascends 0 (length cs) js → IsChain rows cs js → IsFunctional rows cs f → ⊥
never_both rows cs js f l a b c h =
    true≢false (sym h.contact ∙ (sym (dot_only rows (has f) (rows - 1) (omega arith)) ∙ functional_even rows cs f (only (rows - 1)) a h (chain_in_span rows cs js (length cs) a b c)))

-- a row that a written functional holds is the contact row or a row of the run
supported_at : (rows : ℕ) (cs : List (List ℕ)) (f : List ℕ) (r : ℕ) → AllAscend rows cs → IsWrittenFunctional rows cs f → (r ≡ rows - 1 → ⊥)
    → (Mem r (lead_rows (leads (run rows cs (length cs)))) → ⊥) → has f r ≡ false
supported_at rows cs f r a h ne out = elim (cases_Bool (has f r)) [
  | inr e ↦ e
  | inl e ↦ elim (or_cases (eqb r (rows - 1)) (is_pivot_row rows cs r) (all_mem (λ r. eqb r (rows - 1) || is_pivot_row rows cs r) r f h.supported (has_mem r f e))) [
    | inl q ↦ absurd (ne (eqb-true r (rows - 1) q))
    | inr q ↦ absurd (out (found_row rows cs r a q))
  ]
]

-- the pivot of a row
pub pivot_with : (rows : ℕ) (col : ℕ → Rows) (j : ℕ) (ps : List Pivot) (r : ℕ) → AllBuilt rows col j ps → Mem r (lead_rows (leads ps))
    → (p : Pivot) × Mem p ps × IsBuilt rows col j p × (p.row ≡ r)
pivot_with rows col j [] r b m = absurd m
pivot_with rows col j (p ∷ ps) r b (inl e) = (p, inl refl, b.0, sym e)
pivot_with rows col j (p ∷ ps) r b (inr m) = let (q, k, c, e) = pivot_with rows col j ps r b.1 m in (q, inr k, c, e)

-- a reduced column is a sum of the columns so far
pub made_in_span : (rows : ℕ) (col : ℕ → Rows) (j : ℕ) (p : Pivot) → IsBuilt rows col j p → InSpan (first_columns col j) (has p.reduced)
made_in_span rows col j p b = subst (λ (w : Rows). InSpan (first_columns col j) w) (sym b.makes) (total_in_span col (has p.used) j)

-- a number stands in a list or doesn't
mem_or_not : (r : ℕ) (xs : List ℕ) → Mem r xs ⊎ (Mem r xs → ⊥)
mem_or_not r xs = elim (cases_Bool (has xs r)) [ inl e ↦ inl (has_mem r xs e) | inr e ↦ inr (λ m. false≢true (sym e ∙ mem_has r xs m)) ]

-- two written functionals agree from the last row down
agree_from : (rows : ℕ) (cs : List (List ℕ)) (f g : List ℕ) → AllAscend rows cs → IsWrittenFunctional rows cs f → IsWrittenFunctional rows cs g
    → (k r : ℕ) → rows ≤ r + k → has f r ≡ has g r
agree_from rows cs f g a h i zero r l = ascends_high f 0 rows r h.ascends (omega arith) ∙ sym (ascends_high g 0 rows r i.ascends (omega arith))
agree_from rows cs f g a h i (suc k) r l = elim (cases_lt r rows) [
  | inr le ↦ ascends_high f 0 rows r h.ascends le ∙ sym (ascends_high g 0 rows r i.ascends le)
  | inl lt ↦ elim (cases_eq r (rows - 1)) [
    | inl e ↦ rw e (h.functional.contact ∙ sym i.functional.contact)
    | inr ne ↦ elim (mem_or_not r (lead_rows (leads (run rows cs (length cs))))) [
      | inr out ↦ supported_at rows cs f r a h ne out ∙ sym (supported_at rows cs g r a i ne out)
      | inl m ↦ at_pivot lt (pivot_with rows (column_test cs) (length cs) (run rows cs (length cs)) r (run_built rows cs a (length cs)).each m)
          (λ x lx. agree_from rows cs f g a h i k x (omega arith))
    ]
  ]
]
  where
    at_pivot : r < rows → (p : Pivot) × Mem p (run rows cs (length cs)) × IsBuilt rows (column_test cs) (length cs) p × (p.row ≡ r)
        → ((x : ℕ) → r < x → has f x ≡ has g x) → has f r ≡ has g r
    at_pivot lt (p, m, b, e) above =
        let own : has p.reduced r ≡ true = subst (λ w. has p.reduced w ≡ true) e b.least.on in
        fixed_at rows r (has f) (has g) (has p.reduced) lt own
        (λ x lx ne on. elim (cases_lt x r) [
          | inl s ↦ absurd (false≢true (sym (b.least.below x (subst (λ w. x < w) (sym e) s)) ∙ on))
          | inr s ↦ above x (omega arith)
        ])
        (functional_even rows cs f (has p.reduced) a h.functional (made_in_span rows (column_test cs) (length cs) p b)
        ∙ sym (functional_even rows cs g (has p.reduced) a i.functional (made_in_span rows (column_test cs) (length cs) p b)))

-- the written functional is one
pub unique_functional : (rows : ℕ) (cs : List (List ℕ)) (f g : List ℕ) → AllAscend rows cs → IsWrittenFunctional rows cs f → IsWrittenFunctional rows cs g → f ≡ g
unique_functional rows cs f g a h i = same_ascending f g 0 rows h.ascends i.ascends (λ k. agree_from rows cs f g a h i rows k (omega arith))
