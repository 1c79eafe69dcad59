-- What the elimination answers is the outcome, which is one.
use Rattle.std.proofs.Common.{◌≡◌, ℕ, suc, ◌-◌, ◌<◌, Bool, true, false, cond, eqb, ◌||◌, List, [], ◌∷◌, length, refl, sym, ◌∙◌, ap, subst, arith, ◌⊎◌, inl, inr}
use Rattle.std.specs.List.{list_all}
use Rattle.std.proofs.lemmas.Bool.{cases_lt, cases_eq, cases_order, eq-eqb, ne_eqb, false≢true, or_left, or_right}
use Rattle.obd_base.specs.Lists.{has, Mem}
use Rattle.mod2_rank.specs.Linear.{column_at, meets_evenly, Ascends, is_pivot_row, IsWrittenChain, IsWrittenFunctional, IsVerdict, IsOutcome}
use Rattle.mod2_rank.specs.declared.outcome.Verdict.{Verdict}
use Rattle.mod2_rank.specs.declared.outcome.Verdict.TheVariants.{Chain, Functional}
use Rattle.mod2_rank.specs.Rows.{Rows, only, IsLeast}
use Rattle.mod2_rank.proofs.Spans.{span_within}
use Rattle.mod2_rank.specs.Ascending.{AllAscend}
use Rattle.mod2_rank.proofs.Totals.{first_columns}
use Rattle.mod2_rank.proofs.Echelon.{vectors, lead_rows}
use Rattle.mod2_rank.proofs.Members.{mem_has, all_from_mem}
use Rattle.mod2_rank.proofs.Ascending.{ascends_high}
use Rattle.mod2_rank.proofs.Columns.{column_test, column_ascends, first_columns_at}
use Rattle.mod2_rank.proofs.PureRun.{Pivot, run}
use Rattle.mod2_rank.proofs.Built.{IsBuilt, AllBuilt, leads}
use Rattle.mod2_rank.proofs.PivotColumns.{Progress, run_progress}
use Rattle.mod2_rank.proofs.Parity.{even_to, AllEven, even_in_span}
use Rattle.mod2_rank.proofs.ChainLaw.{chain_from_total, new_pivotal, unique_chain}
use Rattle.mod2_rank.proofs.Filled.{fill, fill_ascends, fill_even, fill_contact, fill_support}
use Rattle.mod2_rank.proofs.FunctionalLaw.{found_row, row_found, in_found, never_both, unique_functional}
use mathlib.Core.Path.{fun_ext}

-- the columns used by the pivot with the row
abbrev pub used_at : ℕ → List Pivot → List ℕ
used_at t [] = []
used_at t (p ∷ ps) = cond (eqb t p.row) p.used (used_at t ps)

-- where a row is the row of a pivot, what is found there is that pivot
used_is : (rows : ℕ) (col : ℕ → Rows) (j t : ℕ) (ps : List Pivot) → AllBuilt rows col j ps → Mem t (lead_rows (leads ps))
    → (p : Pivot) × IsBuilt rows col j p × (p.row ≡ t) × (used_at t ps ≡ p.used)
used_is rows col j t [] b m = absurd m
used_is rows col j t (p ∷ ps) b m = go (cases_eq t p.row) m (λ k. used_is rows col j t ps b.1 k)
  where
    go : (t ≡ p.row) ⊎ (t ≡ p.row → ⊥) → Mem t (p.row ∷ lead_rows (leads ps)) → (Mem t (lead_rows (leads ps)) → (q : Pivot) × IsBuilt rows col j q × (q.row ≡ t) × (used_at t ps ≡ q.used))
        → (q : Pivot) × IsBuilt rows col j q × (q.row ≡ t) × (used_at t (p ∷ ps) ≡ q.used)
    go (inl e) m ih = (p, b.0, sym e, rw (eq-eqb t p.row e) refl)
    go (inr ne) (inl e) ih = absurd (ne e)
    go (inr ne) (inr k) ih = let (q, c, e, u) = ih k in (q, c, e, rw (ne_eqb t p.row ne) u)

-- a reduced column with the contact row as least row has no other
pub last_alone : (rows : ℕ) (v : List ℕ) → 0 < rows → Ascends 0 rows v → IsLeast (has v) (rows - 1) → has v ≡ only (rows - 1)
last_alone rows v l a h = fun_ext (λ k. elim (cases_order k (rows - 1)) [
  | inl e ↦ rw (eq-eqb k (rows - 1) e) (subst (λ w. has v w ≡ true) (sym e) h.on)
  | inr o ↦ elim o [
    | inl lt ↦ h.below k lt ∙ sym (ne_eqb k (rows - 1) (λ e. omega arith))
    | inr gt ↦ ascends_high v 0 rows k a (omega arith) ∙ sym (ne_eqb k (rows - 1) (λ e. omega arith))
  ]
])

-- where the contact row is a row of a pivot, its used columns are the written chain
pub written_chain : (rows : ℕ) (cs : List (List ℕ)) (ps : List Pivot) → 0 < rows → AllAscend rows cs → Progress rows cs (length cs) ps → Mem (rows - 1) (lead_rows (leads ps))
    → IsWrittenChain rows cs (used_at (rows - 1) ps)
written_chain rows cs ps l a g m =
    let (p, b, e, u) = used_is rows (column_test cs) (length cs) (rows - 1) ps g.built.each m in
    subst (λ w. IsWrittenChain rows cs w) (sym u) (record {
      ascends = b.uses;
      pivotal = new_pivotal rows cs p.used a b.uses b.new;
      chain = chain_from_total rows cs p.used (length cs) l a b.uses
          (sym b.makes ∙ last_alone rows p.reduced l b.ascends (subst (λ w. IsLeast (has p.reduced) w) e b.least));
    })

-- else the filled rows are the written functional
pub written_functional : (rows : ℕ) (cs : List (List ℕ)) (ps : List Pivot) → 0 < rows → AllAscend rows cs → Progress rows cs (length cs) ps → (Mem (rows - 1) (lead_rows (leads ps)) → ⊥)
    → IsWrittenFunctional rows cs (fill (rows - 1) ps 0 rows)
written_functional rows cs ps l a g out = record {
  ascends = fill_ascends (rows - 1) ps 0 rows rows (omega arith);
  supported = all_from_mem (λ r. eqb r (rows - 1) || is_pivot_row rows cs r) (fill (rows - 1) ps 0 rows)
      (λ r m. elim (fill_support (rows - 1) ps 0 rows r (mem_has r (fill (rows - 1) ps 0 rows) m)) [
        | inl e ↦ or_left (eqb r (rows - 1)) (is_pivot_row rows cs r) (eq-eqb r (rows - 1) e)
        | inr k ↦ or_right (eqb r (rows - 1)) (is_pivot_row rows cs r) (in_found rows cs ps r a g k)
      ]);
  functional = record {
    contact = fill_contact (rows - 1) ps 0 rows out (omega arith) (omega arith);
    even = columns_even;
  };
}
  where
    row_below : (p : Pivot) → IsBuilt rows (column_test cs) (length cs) p → p.row < rows
    row_below p b = elim (cases_lt p.row rows) [ inl h ↦ h | inr h ↦ absurd (false≢true (sym (ascends_high p.reduced 0 rows p.row b.ascends h) ∙ b.least.on)) ]

    even_on : (qs : List Pivot) → AllBuilt rows (column_test cs) (length cs) qs → ((p : Pivot) → Mem p qs → Mem p ps)
        → AllEven rows (has (fill (rows - 1) ps 0 rows)) (vectors (leads qs))
    even_on [] b h = tt
    even_on (p ∷ qs) b h = (
      fill_even (rows - 1) ps p rows 0 rows g.built.echelon (h p (inl refl)) b.0.ascends b.0.least (omega arith) (omega arith) (row_below p b.0),
      even_on qs b.1 (λ q m. h q (inr m)),
    )

    all : AllEven rows (has (fill (rows - 1) ps 0 rows)) (vectors (leads ps))
    all = even_on ps g.built.each (λ p m. m)

    column_even : (k : ℕ) → k < length cs → meets_evenly (fill (rows - 1) ps 0 rows) (column_at cs k) ≡ true
    column_even k lk = even_to rows (fill (rows - 1) ps 0 rows) (column_at cs k) (column_ascends rows cs k a)
        (even_in_span rows (has (fill (rows - 1) ps 0 rows)) (vectors (leads ps)) (column_test cs k) all
        (span_within (vectors (leads ps)) (first_columns (column_test cs) (length cs)) (column_test cs k) g.built.spans.back (first_columns_at (column_test cs) (length cs) k lk)))

    each_column : (test : List ℕ → Bool) (xs : List (List ℕ)) → ((k : ℕ) → k < length xs → test (column_at xs k) ≡ true) → list_all test xs ≡ true
    each_column test [] h = refl
    each_column test (x ∷ xs) h = rw (h 0 (omega arith)) (each_column test xs (λ k lk. h (suc k) (omega arith)))

    columns_even : list_all (meets_evenly (fill (rows - 1) ps 0 rows)) cs ≡ true
    columns_even = each_column (meets_evenly (fill (rows - 1) ps 0 rows)) cs column_even

-- the written chain or functional is one
one_verdict : (rows : ℕ) (cs : List (List ℕ)) (v w : Verdict) → 0 < rows → AllAscend rows cs → IsVerdict rows cs v → IsVerdict rows cs w → v ≡ w
one_verdict rows cs (Chain js) (Chain ks) l a p q = ap Chain (unique_chain rows cs js ks a p q)
one_verdict rows cs (Functional f) (Functional g) l a p q = ap Functional (unique_functional rows cs f g a p q)
one_verdict rows cs (Chain js) (Functional f) l a p q = absurd (never_both rows cs js f l a p.ascends p.chain q.functional)
one_verdict rows cs (Functional f) (Chain js) l a p q = absurd (never_both rows cs js f l a q.ascends q.chain p.functional)

-- the outcome is one
pub one_outcome : (rows : ℕ) (cs : List (List ℕ)) (c d r q : List ℕ) (v w : Verdict) → 0 < rows → AllAscend rows cs → IsOutcome rows cs c r v → IsOutcome rows cs d q w
    → (c ≡ d) × (r ≡ q) × (v ≡ w)
one_outcome rows cs c d r q v w l a h k =
    (h.columns_are ∙ sym k.columns_are, h.rows_are ∙ sym k.rows_are, one_verdict rows cs v w l a h.verdict_is k.verdict_is)

-- a chain exists exactly where the contact row is a pivot row
pub chain_where_pivot : (rows : ℕ) (cs : List (List ℕ)) → 0 < rows → AllAscend rows cs → is_pivot_row rows cs (rows - 1) ≡ true → (js : List ℕ) × IsWrittenChain rows cs js
chain_where_pivot rows cs l a h = (used_at (rows - 1) (run rows cs (length cs)), written_chain rows cs (run rows cs (length cs)) l a (run_progress rows cs a (length cs) (omega arith)) (found_row rows cs (rows - 1) a h))

-- otherwise a functional exists
pub functional_where_none : (rows : ℕ) (cs : List (List ℕ)) → 0 < rows → AllAscend rows cs → is_pivot_row rows cs (rows - 1) ≡ false → (f : List ℕ) × IsWrittenFunctional rows cs f
functional_where_none rows cs l a h =
    (fill (rows - 1) (run rows cs (length cs)) 0 rows, written_functional rows cs (run rows cs (length cs)) l a (run_progress rows cs a (length cs) (omega arith)) (λ m. false≢true (sym h ∙ row_found rows cs (rows - 1) a m)))
