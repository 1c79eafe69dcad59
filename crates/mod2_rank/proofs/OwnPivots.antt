-- What the elimination finds passes the rules of pivot lines, of the rank line and of the verdict line.
use Rattle.std.proofs.Common.{◌≡◌, ℕ, zero, suc, ◌<◌, ◌≤◌, Bool, true, false, leb, ltb, ◌&&◌, List, [], ◌∷◌, ◌++◌, length, map, take, Some, refl, sym, ◌∙◌, ap, subst, arith, ◌⊎◌, inl, inr}
use Rattle.std.specs.List.{list_all, slice_get}
use Rattle.std.proofs.lemmas.Bool.{cases_Bool, cases_eq, false≢true, and_from, lt-ltb, le-leb}
use Rattle.std.proofs.lemmas.List.{map-append, length-map}
use Rattle.obd_base.specs.Lists.{Mem, has}
use Rattle.obd_base.proofs.lists.Members.{mem_left, mem_right}
use Rattle.mod2_rank.specs.Ascending.{AllAscend}
use Rattle.mod2_rank.specs.Linear.{Ascends, Concludes, column_at, is_empty, pivot_row, pivots}
use Rattle.mod2_rank.specs.PivotLines.{next_column, pivot_line_passes, rank_line_passes, verdict_line_passes}
use Rattle.mod2_rank.specs.PivotRules.{Reducer, reduced_by, reducer, reducers}
use Rattle.mod2_rank.specs.Rows.{IsLeast, Rows, plus}
use Rattle.mod2_rank.specs.declared.outcome.Pivot.{Pivot}
use Rattle.mod2_rank.specs.declared.outcome.Verdict.{Verdict}
use Rattle.mod2_rank.proofs.Built.{Built, Settled, leads, left_settled, on_way_first, settled_fresh}
use Rattle.mod2_rank.proofs.CheckedVerdict.{verdict_passes}
use Rattle.mod2_rank.proofs.Columns.{column_ascends, column_test, first_columns_at, first_is_least}
use Rattle.mod2_rank.proofs.Echelon.{Echelon, Lead, lead_rows, reached_in, vectors}
use Rattle.mod2_rank.proofs.NextPivot.{run_built}
use Rattle.mod2_rank.proofs.PivotColumns.{backwards, columns_are, columns_of, pivots_are_rank, rows_of, rows_right}
use Rattle.mod2_rank.proofs.PureRun.{Pivot as Found, kept, left_of, run}
use Rattle.mod2_rank.proofs.RuledPivots.{AllFit, Triangular, by_ascends, by_clear, by_span, fit_push, in_push, reduced_tests, triangular_push}
use Rattle.mod2_rank.proofs.Spans.{AllIn, InSpan, InSpan-plus, all_in_itself, all_in_more, all_in_within, span_within}
use Rattle.mod2_rank.proofs.Totals.{first_columns}
use Rattle.mod2_rank.proofs.Vectors.{plus_both, plus_twice}

-- the column and the row of a pivot that was found, and those of all, the first one first
abbrev plain : Found → Pivot
plain p = record { column = p.column; row = p.row }

abbrev in_order : List Found → List Pivot
in_order [] = []
in_order (p ∷ ps) = in_order ps ++ plain p ∷ []

module _ (rows : ℕ) (cs : List (List ℕ)) where
  -- each pivot passes after those before it
  abbrev AllPass : ℕ → List Reducer → List Pivot → Type 0
  AllPass low before [] = Unit {0}
  AllPass low before (p ∷ ps) = (pivot_line_passes rows cs low before p ≡ true) × AllPass (suc p.column) (before ++ reducer rows cs before p ∷ []) ps

  -- what is next after one more
  next_push : (low : ℕ) (ps : List Pivot) (p : Pivot) → next_column low (ps ++ p ∷ []) ≡ suc p.column
  next_push low [] p = refl
  next_push low (q ∷ ps) p = next_push (suc q.column) ps p

  reducers_push : (before : List Reducer) (ps : List Pivot) (p : Pivot) → reducers rows cs before (ps ++ p ∷ []) ≡ reducers rows cs before ps ++ reducer rows cs (reducers rows cs before ps) p ∷ []
  reducers_push before [] p = refl
  reducers_push before (q ∷ ps) p = reducers_push (before ++ reducer rows cs before q ∷ []) ps p

  pass_push : (low : ℕ) (before : List Reducer) (ps : List Pivot) (p : Pivot) → AllPass low before ps
      → pivot_line_passes rows cs (next_column low ps) (reducers rows cs before ps) p ≡ true → AllPass low before (ps ++ p ∷ [])
  pass_push low before [] p a h = (h, tt)
  pass_push low before (q ∷ ps) p a h = (a.0, pass_push (suc q.column) (before ++ reducer rows cs before q ∷ []) ps p a.1 h)

  -- a pivot by its number
  pass_at : (low : ℕ) (before : List Reducer) (ps : List Pivot) (i : ℕ) (p : Pivot) → AllPass low before ps → slice_get ps i ≡ Some p
      → pivot_line_passes rows cs (next_column low (take i ps)) (reducers rows cs before (take i ps)) p ≡ true
  pass_at low before [] i p a e = cc
  pass_at low before (q ∷ ps) zero p a e = let same : q ≡ p = cc in subst (λ x. pivot_line_passes rows cs low before x ≡ true) same a.0
  pass_at low before (q ∷ ps) (suc i) p a e = pass_at (suc q.column) (before ++ reducer rows cs before q ∷ []) ps i p a.1 e

-- a test with a member has a least one
least_of : (v : Rows) (n : ℕ) → v n ≡ true → (q : ℕ) × (q ≤ n) × IsLeast v q
least_of v n h = finish (search (suc n))
  where
    search : (m : ℕ) → ((k : ℕ) → k < m → v k ≡ false) ⊎ ((q : ℕ) × (q < m) × IsLeast v q)
    search zero = inl (λ k l. absurd (omega arith))
    search (suc m) = elim (search m) [
      | inr f ↦ inr (let (q, l, w) = f in (q, (omega arith), w))
      | inl clear ↦ elim (cases_Bool (v m)) [
        | inl e ↦ inr (m, omega arith, record { on = e; below = clear })
        | inr e ↦ inl (λ k l. elim (cases_eq k m) [ inl q ↦ rw q e | inr ne ↦ clear k (omega arith) ])
      ]
    ]

    finish : ((k : ℕ) → k < suc n → v k ≡ false) ⊎ ((q : ℕ) × (q < suc n) × IsLeast v q) → (q : ℕ) × (q ≤ n) × IsLeast v q
    finish (inl clear) = absurd (false≢true (sym (clear n (omega arith)) ∙ h))
    finish (inr (q, l, w)) = (q, omega arith, w)

-- two ways to reduce a column: what lacks all pivot rows has the new least row of the other
other_way : (ps : List Lead) (v w : List ℕ) (c : Rows) (r : ℕ) → Echelon ps → InSpan (vectors ps) (plus (has v) c) → InSpan (vectors ps) (plus (has w) c)
    → IsLeast (has v) r → (Mem r (lead_rows ps) → ⊥) → ((q : ℕ) → Mem q (lead_rows ps) → has w q ≡ false) → has w r ≡ true
other_way ps v w c r e i j l fresh lacks = elim (cases_Bool (has w r)) [
  | inl h ↦ h
  | inr h ↦ absurd (meet h (least_of (plus (has w) (has v)) r (at h)))
]
  where
    at : has w r ≡ false → plus (has w) (has v) r ≡ true
    at h = rw (h, l.on) refl

    both : InSpan (vectors ps) (plus (has w) (has v))
    both = rw (plus_both (has w) (has v) c) at (InSpan-plus (vectors ps) (plus (has w) c) (plus (has v) c) j i)

    meet : has w r ≡ false → (q : ℕ) × (q ≤ r) × IsLeast (plus (has w) (has v)) q → ⊥
    meet h (q, lq, m) =
        let k : Mem q (lead_rows ps) = reached_in ps (plus (has w) (has v)) q e both m in
        elim (cases_eq q r) [
          | inl z ↦ fresh (subst (λ x. Mem x (lead_rows ps)) z k)
          | inr ne ↦ false≢true (sym (off q (lacks q k) (l.below q (omega arith))) ∙ m.on)
        ]
      where
        off : (q : ℕ) → has w q ≡ false → has v q ≡ false → plus (has w) (has v) q ≡ false
        off q a b = rw (a, b) refl

module _ (rows : ℕ) (cs : List (List ℕ)) (ok : AllAscend rows cs) where
  -- the reduced columns of the pivots that were found
  abbrev own : List Found → List Reducer
  own ps = reducers rows cs [] (in_order ps)

  -- what holds of the pivots of the first j columns
  record Own (j : ℕ) (ps : List Found) (qs : List Reducer) : Type 0 where
    passes : AllPass rows cs 0 [] (in_order ps)
    ends : next_column 0 (in_order ps) ≤ j
    fit : AllFit rows qs
    triangular : Triangular qs
    inside : AllIn (first_columns (column_test cs) j) (reduced_tests qs)
    rows_in : (r : ℕ) → Mem r (lead_rows (leads ps)) → (q : Reducer) × Mem q qs × (q.row ≡ r)

  -- what is left of a column by them is a sum of the columns found, with the column,
  same_left : (j : ℕ) (ps : List Found) (qs : List Reducer) (c : List ℕ) → Ascends 0 rows c → Built rows (column_test cs) j ps → Own j ps qs
      → InSpan (vectors (leads ps)) (plus (has (reduced_by rows qs c)) (has c))
  same_left j ps qs c a b o =
      span_within (vectors (leads ps)) (reduced_tests qs) (plus (has (reduced_by rows qs c)) (has c))
      (all_in_within (vectors (leads ps)) (first_columns (column_test cs) j) (reduced_tests qs) b.spans.back o.inside)
      (by_span rows qs c o.fit a)

  -- and has none of their rows
  rows_left : (j : ℕ) (ps : List Found) (qs : List Reducer) (c : List ℕ) → Ascends 0 rows c → Own j ps qs → (r : ℕ) → Mem r (lead_rows (leads ps)) → has (reduced_by rows qs c) r ≡ false
  rows_left j ps qs c a o r m =
      let (q, there, same) = o.rows_in r m in
      subst (λ x. has (reduced_by rows qs c) x ≡ false) same (by_clear rows qs c o.triangular o.fit a q there)

  -- a pivot that passes
  passing : (low : ℕ) (qs : List Reducer) (p : Pivot) → low ≤ p.column → p.column < length cs → p.row < rows → has (reduced_by rows qs (column_at cs p.column)) p.row ≡ true
      → pivot_line_passes rows cs low qs p ≡ true
  passing low qs p a b c d =
      and_from (leb low p.column) (ltb p.column (length cs) && (ltb p.row rows && has (reduced_by rows qs (column_at cs p.column)) p.row)) (le-leb low p.column a)
      (and_from (ltb p.column (length cs)) (ltb p.row rows && has (reduced_by rows qs (column_at cs p.column)) p.row) (lt-ltb p.column (length cs) b)
      (and_from (ltb p.row rows) (has (reduced_by rows qs (column_at cs p.column)) p.row) (lt-ltb p.row rows c) d))

  -- a column is a sum of the first columns, from the next on
  more_columns : (j : ℕ) → AllIn (first_columns (column_test cs) (suc j)) (first_columns (column_test cs) j)
  more_columns j = all_in_more (first_columns (column_test cs) j) (first_columns (column_test cs) j) (column_test cs j) (all_in_itself (first_columns (column_test cs) j))

  -- one column more
  own_more : (j : ℕ) (ps : List Found) (v used : List ℕ) → j < length cs → Built rows (column_test cs) j ps → Own j ps (own ps)
      → Ascends 0 rows v → InSpan (vectors (leads ps)) (plus (has v) (column_test cs j)) → ((r : ℕ) (rest : List ℕ) → v ≡ r ∷ rest → Mem r (lead_rows (leads ps)) → ⊥)
      → Own (suc j) (kept j v used ps) (own (kept j v used ps))
  own_more j ps [] used l b o asc i fresh = record {
    passes = o.passes;
    ends = (let e = o.ends in omega (arith, e));
    fit = o.fit;
    triangular = o.triangular;
    inside = all_in_within (first_columns (column_test cs) (suc j)) (first_columns (column_test cs) j) (reduced_tests (own ps)) (more_columns j) o.inside;
    rows_in = o.rows_in;
  }
  own_more j ps (r ∷ rest) used l b o asc i fresh = record {
    passes = pass_push rows cs 0 [] (in_order ps) p o.passes (passing (next_column 0 (in_order ps)) (own ps) p o.ends l asc.1 on);
    ends = (let e : next_column 0 (in_order ps ++ p ∷ []) ≡ suc j = next_push rows cs 0 (in_order ps) p in omega (arith, e));
    fit = subst (λ (w : List Reducer). AllFit rows w) (sym more) (fit_push rows (own ps) q o.fit (by_ascends rows (own ps) (column_at cs j) c));
    triangular = subst (λ (w : List Reducer). Triangular w) (sym more) (triangular_push (own ps) q o.triangular on (by_clear rows (own ps) (column_at cs j) o.triangular o.fit c));
    inside = subst (λ (w : List Reducer). AllIn (first_columns (column_test cs) (suc j)) (reduced_tests w)) (sym more)
        (in_push (first_columns (column_test cs) (suc j)) (own ps) q
        (all_in_within (first_columns (column_test cs) (suc j)) (first_columns (column_test cs) j) (reduced_tests (own ps)) (more_columns j) o.inside) spanned);
    rows_in = λ s m. subst (λ (w : List Reducer). (x : Reducer) × Mem x w × (x.row ≡ s)) (sym more) (elim m [
      | inl e ↦ (q, mem_right q (own ps) (q ∷ []) (inl refl), sym e)
      | inr k ↦ let (x, there, same) = o.rows_in s k in (x, mem_left x (own ps) (q ∷ []) there, same)
    ]);
  }
    where
      p : Pivot
      p = record { column = j; row = r }

      q : Reducer
      q = reducer rows cs (own ps) p

      c : Ascends 0 rows (column_at cs j)
      c = column_ascends rows cs j ok

      more : reducers rows cs [] (in_order ps ++ p ∷ []) ≡ own ps ++ q ∷ []
      more = reducers_push rows cs [] (in_order ps) p

      on : has (reduced_by rows (own ps) (column_at cs j)) r ≡ true
      on = other_way (leads ps) (r ∷ rest) (reduced_by rows (own ps) (column_at cs j)) (column_test cs j) r b.echelon i (same_left j ps (own ps) (column_at cs j) c b o)
          (first_is_least rows r rest asc) (fresh r rest refl) (rows_left j ps (own ps) (column_at cs j) c o)

      spanned : InSpan (first_columns (column_test cs) (suc j)) (has (reduced_by rows (own ps) (column_at cs j)))
      spanned = inr (span_within (first_columns (column_test cs) j) (reduced_tests (own ps)) (plus (has (reduced_by rows (own ps) (column_at cs j))) (column_test cs j)) o.inside (by_span rows (own ps) (column_at cs j) o.fit c))

  -- all columns
  own_run : (j : ℕ) → j ≤ length cs → Own j (run rows cs j) (own (run rows cs j))
  own_run zero l = record { passes = tt; ends = omega arith; fit = tt; triangular = tt; inside = tt; rows_in = λ r m. absurd m }
  own_run (suc j) l =
      let b = run_built rows cs ok j in
      let (w, s) = left_settled rows (column_test cs) j (run rows cs j) (record { vector = column_at cs j; used = j ∷ [] }) b.each (on_way_first rows cs j (run rows cs j) ok) in
      own_more j (run rows cs j) (left_of rows cs (run rows cs j) j).vector (left_of rows cs (run rows cs j) j).used (omega arith) b (own_run j (omega arith)) w.ascends w.same
      (λ r rest e. settled_fresh (run rows cs j) r rest (subst (λ v. Settled (run rows cs j) v) e s))

  -- every column reduces to nothing by the pivots found
  own_rank_passes : rank_line_passes rows cs (in_order (run rows cs (length cs))) ≡ true
  own_rank_passes = each_column (λ c. is_empty (reduced_by rows qs c)) cs (λ k l. one k l (reduced_by rows qs (column_at cs k)) refl)
    where
      ps : List Found
      ps = run rows cs (length cs)

      qs : List Reducer
      qs = own (run rows cs (length cs))

      o : Own (length cs) (run rows cs (length cs)) (own (run rows cs (length cs)))
      o = own_run (length cs) (omega arith)

      b : Built rows (column_test cs) (length cs) (run rows cs (length cs))
      b = run_built rows cs ok (length cs)

      one : (k : ℕ) → k < length cs → (v : List ℕ) → reduced_by rows qs (column_at cs k) ≡ v → is_empty v ≡ true
      one k l [] e = refl
      one k l (x ∷ xs) e =
          let c : Ascends 0 rows (column_at cs k) = column_ascends rows cs k ok in
          let asc : Ascends 0 rows (x ∷ xs) = subst (λ v. Ascends 0 rows v) e (by_ascends rows qs (column_at cs k) c) in
          let i : InSpan (vectors (leads ps)) (plus (has (x ∷ xs)) (column_test cs k)) =
          subst (λ (v : List ℕ). InSpan (vectors (leads ps)) (plus (has v) (column_test cs k))) e (same_left (length cs) ps qs (column_at cs k) c b o) in
          let j : InSpan (vectors (leads ps)) (column_test cs k) =
          span_within (vectors (leads ps)) (first_columns (column_test cs) (length cs)) (column_test cs k) b.spans.back (first_columns_at (column_test cs) (length cs) k l) in
          let s : InSpan (vectors (leads ps)) (has (x ∷ xs)) =
          rw (plus_twice (has (x ∷ xs)) (column_test cs k)) at (InSpan-plus (vectors (leads ps)) (plus (has (x ∷ xs)) (column_test cs k)) (column_test cs k) i j) in
          let least : IsLeast (has (x ∷ xs)) x = first_is_least rows x xs asc in
          let off : has (x ∷ xs) x ≡ false = subst (λ (v : List ℕ). has v x ≡ false) e
          (rows_left (length cs) ps qs (column_at cs k) c o x (reached_in (leads ps) (has (x ∷ xs)) x b.echelon s least)) in
          absurd (false≢true (sym off ∙ least.on))

      each_column : (test : List ℕ → Bool) (xs : List (List ℕ)) → ((k : ℕ) → k < length xs → test (column_at xs k) ≡ true) → list_all test xs ≡ true
      each_column test [] h = refl
      each_column test (x ∷ xs) h = rw (h 0 (omega arith)) (each_column test xs (λ k lk. h (suc k) (omega arith)))

-- pivots are given by their columns and rows
same_pivots : (ps qs : List Pivot) → map (λ (p : Pivot). p.column) ps ≡ map (λ (p : Pivot). p.column) qs → map (λ (p : Pivot). p.row) ps ≡ map (λ (p : Pivot). p.row) qs → ps ≡ qs
same_pivots [] [] e f = refl
same_pivots [] (q ∷ qs) e f = cc
same_pivots (p ∷ ps) [] e f = cc
same_pivots (p ∷ ps) (q ∷ qs) e f =
    let c : p.column ≡ q.column = cc in
    let r : p.row ≡ q.row = cc in
    let cs : map (λ (p : Pivot). p.column) ps ≡ map (λ (p : Pivot). p.column) qs = cc in
    let rs : map (λ (p : Pivot). p.row) ps ≡ map (λ (p : Pivot). p.row) qs = cc in
    join p.column q.column p.row q.row c r (same_pivots ps qs cs rs)
  where
    join : (a b x y : ℕ) → a ≡ b → x ≡ y → ps ≡ qs → ◌≡◌ {A = List Pivot} (record { column = a; row = x } ∷ ps) (record { column = b; row = y } ∷ qs)
    join a b x y e f g = rw (e, f, g) refl

-- what was found, put in order
columns_in_order : (ps : List Found) → map (λ (p : Pivot). p.column) (in_order ps) ≡ backwards (columns_of ps)
columns_in_order [] = refl
columns_in_order (p ∷ ps) = map-append (λ (p : Pivot). p.column) (in_order ps) (plain p ∷ []) ∙ ap (λ w. w ++ p.column ∷ []) (columns_in_order ps)

rows_in_order : (ps : List Found) → map (λ (p : Pivot). p.row) (in_order ps) ≡ backwards (rows_of ps)
rows_in_order [] = refl
rows_in_order (p ∷ ps) = map-append (λ (p : Pivot). p.row) (in_order ps) (plain p ∷ []) ∙ ap (λ w. w ++ p.row ∷ []) (rows_in_order ps)

map_backwards : (f : ℕ → ℕ) (xs : List ℕ) → map f (backwards xs) ≡ backwards (map f xs)
map_backwards f [] = refl
map_backwards f (x ∷ xs) = map-append f (backwards xs) (x ∷ []) ∙ ap (λ w. w ++ f x ∷ []) (map_backwards f xs)

-- The law: what the elimination concludes passes the rules, pivot by pivot, then all columns, and the verdict.
module _ (rows : ℕ) (cs : List (List ℕ)) (ps : List Pivot) (rank : ℕ) (verdict : Verdict) (ok : AllAscend rows cs) (concludes : Concludes rows cs ps rank verdict) where
  -- the pivots are those of the run
  found : ps ≡ in_order (run rows cs (length cs))
  found =
      let os = concludes.outcome in
      let c : backwards (columns_of (run rows cs (length cs))) ≡ pivots rows cs = columns_are rows cs (length cs) ok (omega arith) in
      same_pivots ps (in_order (run rows cs (length cs))) (os.columns_are ∙ (sym c ∙ sym (columns_in_order (run rows cs (length cs)))))
      (os.rows_are ∙ (ap (map (pivot_row rows cs)) (sym c) ∙ (map_backwards (pivot_row rows cs) (columns_of (run rows cs (length cs)))
      ∙ (ap backwards (rows_right rows cs (run rows cs (length cs)) ok (run_built rows cs ok (length cs)).each) ∙ sym (rows_in_order (run rows cs (length cs)))))))

  -- each pivot passes after those before it,
  pub own_pivot_passes : (i : ℕ) (p : Pivot) → slice_get ps i ≡ Some p → pivot_line_passes rows cs (next_column 0 (take i ps)) (reducers rows cs [] (take i ps)) p ≡ true
  own_pivot_passes i p e =
      pass_at rows cs 0 [] ps i p (subst (λ (w : List Pivot). AllPass rows cs 0 [] w) (sym found) (own_run rows cs ok (length cs) (omega arith)).passes) e

  -- every column reduces to nothing by them,
  pub own_pivots_span : rank_line_passes rows cs ps ≡ true
  own_pivots_span = subst (λ (w : List Pivot). rank_line_passes rows cs w ≡ true) (sym found) (own_rank_passes rows cs ok)

  -- they are as many as the rank,
  pub own_pivots_count : length ps ≡ rank
  own_pivots_count = sym (length-map ps (λ (p : Pivot). p.column)) ∙ (ap length concludes.outcome.columns_are ∙ pivots_are_rank rows cs rank ok concludes.rank_is)

  -- and the verdict passes
  pub own_verdict_passes : verdict_line_passes rows cs verdict ≡ true
  own_verdict_passes = verdict_passes rows cs verdict concludes.outcome.verdict_is
