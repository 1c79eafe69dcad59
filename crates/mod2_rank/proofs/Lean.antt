-- The invariant for code that keeps no columns used: they exist, since each reduced column is a sum of pivot columns.
use Rattle.std.proofs.Common.{◌≡◌, ℕ, zero, suc, ◌<◌, ◌≤◌, Bool, true, false, eqb, List, [], ◌∷◌, length, take, refl, sym, ◌∙◌, ap, subst, arith, inl, inr, filter}
use Rattle.std.proofs.lemmas.Bool.{cases_eq, eq-eqb, ne_eqb, false≢true, not-false}
use Rattle.mod2_rank.specs.Rows.{differ, Rows, none, plus, only, total}
use Rattle.mod2_rank.proofs.Vectors.{plus_twice, plus_none}
use Rattle.obd_base.specs.Lists.{below, has}
use Rattle.mod2_rank.specs.Linear.{column_at, is_pivot, is_sum_of_part, Ascends}
use Rattle.mod2_rank.proofs.Spans.{InSpan, InSpan-plus, span_within}
use Rattle.mod2_rank.specs.Ascending.{AllAscend}
use Rattle.mod2_rank.proofs.Totals.{first_columns, total_with, OnNew}
use Rattle.mod2_rank.proofs.Echelon.{vectors}
use Rattle.mod2_rank.proofs.Ascending.{below_ascends, has_below, tests}
use Rattle.mod2_rank.proofs.Parts.{sum_of_part_in_span}
use Rattle.mod2_rank.proofs.Columns.{column_test, same_first, pivot_is_new, take_ascends}
use Rattle.mod2_rank.proofs.PureRun.{Pivot, kept, starts}
use Rattle.mod2_rank.proofs.Built.{OnWay, Settled, leads}
use Rattle.mod2_rank.proofs.PivotColumns.{Progress, progress_none, progress_more}

-- a member of the span of the first columns is a sum of pivot columns
pub new_total : (rows : ℕ) (cs : List (List ℕ)) (j : ℕ) (v : Rows) → AllAscend rows cs → j ≤ length cs → InSpan (first_columns (column_test cs) j) v
    → (x : Rows) × (v ≡ total (column_test cs) x j) × OnNew (column_test cs) x j × ((k : ℕ) → j ≤ k → x k ≡ false)
new_total rows cs zero v a l i = (none, i, (λ k lk on. absurd (omega arith)), λ k lk. refl)
new_total rows cs (suc j) v a l (inl i) = longer (new_total rows cs j v a (omega arith) i)
  where
    longer : (x : Rows) × (v ≡ total (column_test cs) x j) × OnNew (column_test cs) x j × ((k : ℕ) → j ≤ k → x k ≡ false)
        → (x : Rows) × (v ≡ total (column_test cs) x (suc j)) × OnNew (column_test cs) x (suc j) × ((k : ℕ) → suc j ≤ k → x k ≡ false)
    longer (x, e, n, h) = (
      x,
      rw (h j (omega arith)) (e ∙ sym (plus_none (total (column_test cs) x j))),
      (λ k lk on. elim (cases_eq k j) [ inl q ↦ absurd (false≢true (sym (h k (omega arith)) ∙ on)) | inr ne ↦ n k (omega arith) on ]),
      λ k lk. h k (omega arith),
    )
new_total rows cs (suc j) v a l (inr i) = go (is_pivot rows cs j) refl (λ w k. new_total rows cs j w a (omega arith) k)
  where
    go : (t : Bool) → is_pivot rows cs j ≡ t
        → ((w : Rows) → InSpan (first_columns (column_test cs) j) w → (x : Rows) × (w ≡ total (column_test cs) x j) × OnNew (column_test cs) x j × ((k : ℕ) → j ≤ k → x k ≡ false))
        → (x : Rows) × (v ≡ total (column_test cs) x (suc j)) × OnNew (column_test cs) x (suc j) × ((k : ℕ) → suc j ≤ k → x k ≡ false)
    go true p ih =
        let (x, e, n, h) = ih (plus v (column_test cs j)) i in (
          plus x (only j),
          sym (plus_twice v (column_test cs j)) ∙ (ap (λ (w : Rows). plus w (column_test cs j)) e ∙ sym (total_with (column_test cs) x j h)),
          (λ k lk on. elim (cases_eq k j) [
            | inl q ↦ subst (λ w. InSpan (first_columns (column_test cs) w) (column_test cs w) → ⊥) (sym q) (pivot_is_new rows cs j a (omega arith) p)
            | inr ne ↦ n k (omega arith) (let f : differ (x k) false ≡ true = rw (ne_eqb k j ne) at on in off (x k) f)
          ]),
          λ k lk. rw (h k (omega arith), ne_eqb k j (λ q. omega arith)) refl,
        )
      where
        off : (b : Bool) → differ b false ≡ true → b ≡ true
        off true f = refl
        off false f = f
    go false p ih =
        let old : InSpan (first_columns (column_test cs) j) (column_test cs j) = span_within (first_columns (column_test cs) j) (tests_before) (column_test cs j) (same_first cs j (omega arith)).there
        (sum_of_part_in_span rows (take j cs) (column_at cs j) (take_ascends rows cs j a) (not-false (is_sum_of_part rows (take j cs) (column_at cs j)) p)) in
        let w : InSpan (first_columns (column_test cs) j) v = rw (plus_twice v (column_test cs j)) at (InSpan-plus (first_columns (column_test cs) j) (plus v (column_test cs j)) (column_test cs j) i old) in
        let (x, e, n, h) = ih v w in (
          x,
          rw (h j (omega arith)) (e ∙ sym (plus_none (total (column_test cs) x j))),
          (λ k lk on. elim (cases_eq k j) [ inl q ↦ absurd (false≢true (sym (h k (omega arith)) ∙ on)) | inr ne ↦ n k (omega arith) on ]),
          λ k lk. h k (omega arith),
        )
      where
        tests_before : List Rows
        tests_before = tests (take j cs)

-- so a column on its way has columns used
pub used_exists : (rows : ℕ) (cs : List (List ℕ)) (j : ℕ) (ps : List Pivot) (v : List ℕ) → AllAscend rows cs → j < length cs → Progress rows cs j ps → Ascends 0 rows v
    → InSpan (vectors (leads ps)) (plus (has v) (column_test cs j)) → (used : List ℕ) × OnWay rows (column_test cs) j ps (record { vector = v; used = used })
used_exists rows cs j ps v a l g asc i =
    let (x, e, n, h) = new_total rows cs j (plus (has v) (column_test cs j)) a (omega arith)
    (span_within (first_columns (column_test cs) j) (vectors (leads ps)) (plus (has v) (column_test cs j)) g.built.spans.there i) in
    let t : has (filter (plus x (only j)) (below (suc j))) ≡ plus x (only j) = has_below (plus x (only j)) (suc j) (λ k lk. rw (h k (omega arith), ne_eqb k j (λ q. omega arith)) refl) in (
      filter (plus x (only j)) (below (suc j)),
      record {
        ascends = asc;
        same = i;
        uses = below_ascends (plus x (only j)) (suc j);
        itself = ap (λ (w : Rows). w j) t ∙ rw (h j (omega arith), eq-eqb j j refl) refl;
        makes = sym (plus_twice (has v) (column_test cs j)) ∙ (ap (λ (w : Rows). plus w (column_test cs j)) e
            ∙ (sym (total_with (column_test cs) x j h) ∙ ap (λ (w : Rows). total (column_test cs) w (suc j)) (sym t)));
        new = λ k lk on. n k lk (let f : differ (x k) (eqb k j) ≡ true = sym (ap (λ (w : Rows). w k) t) ∙ on in off (x k) (rw (ne_eqb k j (λ q. omega arith)) at f));
      },
    )
  where
    off : (b : Bool) → differ b false ≡ true → b ≡ true
    off true f = refl
    off false f = f

-- a pivot without the columns used
pub record LeanPivot : Type 0 where
  pub column : ℕ
  pub row : ℕ
  pub reduced : List ℕ

-- pivots as they look without the columns used
abbrev pub leans : List Pivot → List LeanPivot
leans [] = []
leans (p ∷ ps) = record { column = p.column; row = p.row; reduced = p.reduced } ∷ leans ps

-- their reduced columns as tests
abbrev pub lean_vectors : List LeanPivot → List Rows
lean_vectors [] = []
lean_vectors (p ∷ ps) = has p.reduced ∷ lean_vectors ps

-- no pivot has the least row
abbrev pub LeanSettled : List LeanPivot → List ℕ → Type 0
LeanSettled [] v = Unit {0}
LeanSettled (p ∷ ps) v = (starts p.row v ≡ false) × LeanSettled ps v

-- a column that leaves nothing is dropped, else it becomes the last pivot
abbrev pub lean_kept : ℕ → List ℕ → List LeanPivot → List LeanPivot
lean_kept j [] ls = ls
lean_kept j (r ∷ rest) ls = record { column = j; row = r; reduced = r ∷ rest } ∷ ls

-- the loop's invariant: some pivots with columns used make progress and look like these
pub record LeanProgress (rows : ℕ) (cs : List (List ℕ)) (j : ℕ) (ls : List LeanPivot) : Type 0 where
  pub full : List Pivot
  pub progress : Progress rows cs j full
  pub look : leans full ≡ ls

-- before the first column
pub lean_none : (rows : ℕ) (cs : List (List ℕ)) → LeanProgress rows cs 0 []
lean_none rows cs = record { full = []; progress = progress_none rows cs; look = refl }

-- the reduced columns are those of the full pivots
lean_vectors_are : (ps : List Pivot) → lean_vectors (leans ps) ≡ vectors (leads ps)
lean_vectors_are [] = refl
lean_vectors_are (p ∷ ps) = ap (λ w. has p.reduced ∷ w) (lean_vectors_are ps)

-- and so is what settled means
settled_from : (ps : List Pivot) (v : List ℕ) → LeanSettled (leans ps) v → Settled ps v
settled_from [] v s = tt
settled_from (p ∷ ps) v s = (s.0, settled_from ps v s.1)

-- and what is kept of a column
kept_look : (j : ℕ) (v used : List ℕ) (ps : List Pivot) → leans (kept j v used ps) ≡ lean_kept j v (leans ps)
kept_look j [] used ps = refl
kept_look j (r ∷ rest) used ps = refl

-- one column more: what is left ascends, differs from the column by a sum of reduced columns, and no pivot has its least row
pub lean_more : (rows : ℕ) (cs : List (List ℕ)) (j : ℕ) (ls : List LeanPivot) (v : List ℕ) → AllAscend rows cs → j < length cs → LeanProgress rows cs j ls → Ascends 0 rows v
    → InSpan (lean_vectors ls) (plus (has v) (column_test cs j)) → LeanSettled ls v → LeanProgress rows cs (suc j) (lean_kept j v ls)
lean_more rows cs j ls v a l g asc i s =
    let i2 : InSpan (vectors (leads g.full)) (plus (has v) (column_test cs j)) =
    subst (λ (w : List Rows). InSpan w (plus (has v) (column_test cs j))) (ap lean_vectors (sym g.look) ∙ lean_vectors_are g.full) i in
    let (used, w) = used_exists rows cs j g.full v a l g.progress asc i2 in
    record {
      full = kept j v used g.full;
      progress = progress_more rows cs j g.full v used a l g.progress w (settled_from g.full v (subst (λ (w : List LeanPivot). LeanSettled w v) (sym g.look) s));
      look = kept_look j v used g.full ∙ ap (lean_kept j v) g.look;
    }
