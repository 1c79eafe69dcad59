-- Pivots that meet the rules are as many as the rank: their reduced columns are independent, and span what the columns span.
use Rattle.std.proofs.Common.{◌≡◌, ℕ, suc, ◌+◌, ◌≤◌, Bool, true, false, cond, List, [], ◌∷◌, ◌++◌, length, map, refl, sym, ◌∙◌, ap, subst, arith, length-append, inl, inr}
use Rattle.std.proofs.lemmas.Bool.{false≢true}
use Rattle.obd_base.specs.Lists.{Mem, has}
use Rattle.obd_base.proofs.lists.Members.{mem_append, mem_left, mem_right}
use Rattle.mod2_rank.specs.Ascending.{AllAscend}
use Rattle.mod2_rank.specs.Linear.{Ascends, IsRank, column_at, is_empty, sum_of}
use Rattle.mod2_rank.specs.PivotRules.{MeetRules, Reducer, reduced_by, reduced_once, reducer, reducers}
use Rattle.mod2_rank.specs.Rows.{Rows, differ, plus}
use Rattle.mod2_rank.specs.declared.outcome.Pivot.{Pivot}
use Rattle.mod2_rank.proofs.Ascending.{sum_of_ascends, sum_of_is, tests}
use Rattle.mod2_rank.proofs.Columns.{column_ascends, column_test, first_columns_at, same_all}
use Rattle.mod2_rank.proofs.Exchange.{Indep}
use Rattle.mod2_rank.proofs.Members.{all_mem}
use Rattle.mod2_rank.proofs.Parts.{empty_list, rank_is}
use Rattle.mod2_rank.proofs.Spans.{AllIn, InSpan, InSpan-plus, span_first, span_none, span_within}
use Rattle.mod2_rank.proofs.Totals.{first_columns}
use Rattle.mod2_rank.proofs.Vectors.{differ_false, plus_both, plus_comm, plus_itself, plus_none, plus_swap, plus_twice}

-- the reduced columns, as tests
abbrev pub reduced_tests : List Reducer → List Rows
reduced_tests [] = []
reduced_tests (p ∷ ps) = has p.column ∷ reduced_tests ps

-- each reduced column ascends
abbrev pub AllFit : ℕ → List Reducer → Type 0
AllFit rows [] = Unit {0}
AllFit rows (p ∷ ps) = Ascends 0 rows p.column × AllFit rows ps

-- each has its row, and none after it has that
abbrev pub Triangular : List Reducer → Type 0
Triangular [] = Unit {0}
Triangular (p ∷ ps) = (has p.column p.row ≡ true) × ((q : Reducer) → Mem q ps → has q.column p.row ≡ false) × Triangular ps

module _ (rows : ℕ) where
  -- the sum of two columns
  pub sum_is : (c d : List ℕ) → Ascends 0 rows c → Ascends 0 rows d → has (sum_of rows (c ∷ d ∷ [])) ≡ plus (has c) (has d)
  sum_is c d a b = sum_of_is rows (c ∷ d ∷ []) (a, (b, tt)) ∙ ap (plus (has c)) (plus_none (has d))

  -- one step leaves a column that ascends
  pub once_ascends : (p : Reducer) (c : List ℕ) → Ascends 0 rows c → Ascends 0 rows (reduced_once rows p c)
  once_ascends p c a = go (has c p.row)
    where
      go : (b : Bool) → Ascends 0 rows (cond b (sum_of rows (c ∷ p.column ∷ [])) c)
      go true = sum_of_ascends rows (c ∷ p.column ∷ [])
      go false = a

  -- without the row
  once_clear : (p : Reducer) (c : List ℕ) → Ascends 0 rows p.column → Ascends 0 rows c → has p.column p.row ≡ true → has (reduced_once rows p c) p.row ≡ false
  once_clear p c f a own = go (has c p.row) refl
    where
      go : (b : Bool) → has c p.row ≡ b → has (cond b (sum_of rows (c ∷ p.column ∷ [])) c) p.row ≡ false
      go true e = ap (λ (w : Rows). w p.row) (sum_is c p.column a f) ∙ rw (e, own) refl
      go false e = e

  -- and with no row that neither of the two has
  once_keeps : (p : Reducer) (c : List ℕ) (r : ℕ) → Ascends 0 rows p.column → Ascends 0 rows c → has p.column r ≡ false → has c r ≡ false → has (reduced_once rows p c) r ≡ false
  once_keeps p c r f a off out = go (has c p.row)
    where
      go : (b : Bool) → has (cond b (sum_of rows (c ∷ p.column ∷ [])) c) r ≡ false
      go true = ap (λ (w : Rows). w r) (sum_is c p.column a f) ∙ rw (out, off) refl
      go false = out

  -- what it adds is a sum of reduced columns
  once_span : (p : Reducer) (b : List Rows) (c : List ℕ) → Ascends 0 rows p.column → Ascends 0 rows c → InSpan (has p.column ∷ b) (plus (has (reduced_once rows p c)) (has c))
  once_span p b c f a = go (has c p.row)
    where
      itself : plus (plus (has c) (has p.column)) (has c) ≡ has p.column
      itself = plus_swap (has c) (has p.column) (has c) ∙ ap (λ (w : Rows). plus w (has p.column)) (plus_itself (has c))

      go : (t : Bool) → InSpan (has p.column ∷ b) (plus (has (cond t (sum_of rows (c ∷ p.column ∷ [])) c)) (has c))
      go true = rw (sum_is c p.column a f, itself) (span_first (has p.column) b)
      go false = rw (plus_itself (has c)) (span_none (has p.column ∷ b))

  -- the same of all steps: the column ascends,
  pub by_ascends : (ps : List Reducer) (c : List ℕ) → Ascends 0 rows c → Ascends 0 rows (reduced_by rows ps c)
  by_ascends [] c a = a
  by_ascends (p ∷ ps) c a = by_ascends ps (reduced_once rows p c) (once_ascends p c a)

  -- has no row that none has,
  by_keeps : (ps : List Reducer) (c : List ℕ) (r : ℕ) → AllFit rows ps → Ascends 0 rows c → ((q : Reducer) → Mem q ps → has q.column r ≡ false) → has c r ≡ false
      → has (reduced_by rows ps c) r ≡ false
  by_keeps [] c r f a off out = out
  by_keeps (p ∷ ps) c r f a off out =
      by_keeps ps (reduced_once rows p c) r f.1 (once_ascends p c a) (λ q m. off q (inr m)) (once_keeps p c r f.0 a (off p (inl refl)) out)

  -- and none of their rows,
  pub by_clear : (ps : List Reducer) (c : List ℕ) → Triangular ps → AllFit rows ps → Ascends 0 rows c → (q : Reducer) → Mem q ps → has (reduced_by rows ps c) q.row ≡ false
  by_clear [] c t f a q m = absurd m
  by_clear (p ∷ ps) c t f a q (inl e) =
      rw (e) (by_keeps ps (reduced_once rows p c) p.row f.1 (once_ascends p c a) t.1 (once_clear p c f.0 a t.0))
  by_clear (p ∷ ps) c t f a q (inr m) = by_clear ps (reduced_once rows p c) t.2 f.1 (once_ascends p c a) q m

  -- and what was added is a sum of reduced columns
  pub by_span : (ps : List Reducer) (c : List ℕ) → AllFit rows ps → Ascends 0 rows c → InSpan (reduced_tests ps) (plus (has (reduced_by rows ps c)) (has c))
  by_span [] c f a = plus_itself (has c)
  by_span (p ∷ ps) c f a =
      let d : List ℕ = reduced_once rows p c in
      let v : List ℕ = reduced_by rows ps (reduced_once rows p c) in
      let later = by_span ps (reduced_once rows p c) f.1 (once_ascends p c a) in
      let both = InSpan-plus (reduced_tests (p ∷ ps)) (plus (has v) (has d)) (plus (has d) (has c)) (inl later) (once_span p (reduced_tests ps) c f.0 a) in
      subst (λ (w : Rows). InSpan (reduced_tests (p ∷ ps)) w) (ap (plus (plus (has v) (has d))) (plus_comm (has d) (has c)) ∙ plus_both (has v) (has c) (has d)) both

-- one more at the end: its column ascends too,
pub fit_push : (rows : ℕ) (ps : List Reducer) (p : Reducer) → AllFit rows ps → Ascends 0 rows p.column → AllFit rows (ps ++ p ∷ [])
fit_push rows [] p f a = (a, tt)
fit_push rows (q ∷ ps) p f a = (f.0, fit_push rows ps p f.1 a)

-- it has its row, and none of those before,
pub triangular_push : (ps : List Reducer) (p : Reducer) → Triangular ps → has p.column p.row ≡ true → ((q : Reducer) → Mem q ps → has p.column q.row ≡ false) → Triangular (ps ++ p ∷ [])
triangular_push [] p t own off = (own, (λ q m. absurd m), tt)
triangular_push (x ∷ ps) p t own off = (
  t.0,
  (λ q m. elim (mem_append q ps (p ∷ []) m) [
    | inl k ↦ t.1 q k
    | inr k ↦ elim k [ inl e ↦ rw (e) (off x (inl refl)) | inr j ↦ absurd j ]
  ]),
  triangular_push ps p t.2 own (λ q m. off q (inr m)),
)

-- and is a sum of the same columns
pub in_push : (b : List Rows) (ps : List Reducer) (p : Reducer) → AllIn b (reduced_tests ps) → InSpan b (has p.column) → AllIn b (reduced_tests (ps ++ p ∷ []))
in_push b [] p i h = (h, tt)
in_push b (q ∷ ps) p i h = (i.0, in_push b ps p i.1 h)

-- a sum has no row that none has
span_off : (ps : List Reducer) (v : Rows) (r : ℕ) → ((q : Reducer) → Mem q ps → has q.column r ≡ false) → InSpan (reduced_tests ps) v → v r ≡ false
span_off [] v r off i = ap (λ (w : Rows). w r) i
span_off (p ∷ ps) v r off (inl i) = span_off ps v r (λ q m. off q (inr m)) i
span_off (p ∷ ps) v r off (inr i) =
    sym (differ_false (v r)) ∙ (ap (differ (v r)) (sym (off p (inl refl))) ∙ span_off ps (plus v (has p.column)) r (λ q m. off q (inr m)) i)

-- so the reduced columns are independent
triangular_indep : (ps : List Reducer) → Triangular ps → Indep (reduced_tests ps)
triangular_indep [] t = tt
triangular_indep (p ∷ ps) t = ((λ i. false≢true (sym (span_off ps (has p.column) p.row t.1 i) ∙ t.0)), triangular_indep ps t.2)

module _ (rows : ℕ) (cs : List (List ℕ)) (ok : AllAscend rows cs) where
  -- those before stay
  stay : (before : List Reducer) (ps : List Pivot) (q : Reducer) → Mem q before → Mem q (reducers rows cs before ps)
  stay before [] q m = m
  stay before (p ∷ ps) q m = stay (before ++ reducer rows cs before p ∷ []) ps q (mem_left q before (reducer rows cs before p ∷ []) m)

  -- they are as many as the pivots
  pub count : (before : List Reducer) (ps : List Pivot) → length (reducers rows cs before ps) ≡ length before + length ps
  count before [] = omega arith
  count before (p ∷ ps) =
      let more : length (before ++ reducer rows cs before p ∷ []) ≡ length before + 1 = length-append before (reducer rows cs before p ∷ []) in
      omega (arith, count (before ++ reducer rows cs before p ∷ []) ps, more)

  -- column j is a sum of the columns
  column_in : (j : ℕ) → suc j ≤ length cs → InSpan (tests cs) (has (column_at cs j))
  column_in j l = span_within (tests cs) (first_columns (column_test cs) (length cs)) (column_test cs j) (same_all cs).back (first_columns_at (column_test cs) (length cs) j l)

  -- what holds of the reduced columns of pivots
  pub record Reduced (ps : List Reducer) : Type 0 where
    pub fit : AllFit rows ps
    pub triangular : Triangular ps
    pub spanned : AllIn (tests cs) (reduced_tests ps)

  -- one pivot more
  reduced_push : (before : List Reducer) (p : Pivot) → suc p.column ≤ length cs → has (reducer rows cs before p).column p.row ≡ true → Reduced before
      → Reduced (before ++ reducer rows cs before p ∷ [])
  reduced_push before p l own h =
      let c : List ℕ = column_at cs p.column in
      let a : Ascends 0 rows (column_at cs p.column) = column_ascends rows cs p.column ok in
      let v : Rows = has (reduced_by rows before (column_at cs p.column)) in
      let sum = span_within (tests cs) (reduced_tests before) (plus v (has c)) h.spanned (by_span rows before c h.fit a) in
      record {
        fit = fit_push rows before (reducer rows cs before p) h.fit (by_ascends rows before c a);
        triangular = triangular_push before (reducer rows cs before p) h.triangular own (by_clear rows before c h.triangular h.fit a);
        spanned = in_push (tests cs) before (reducer rows cs before p) h.spanned
            (subst (λ (w : Rows). InSpan (tests cs) w) (plus_twice v (has c)) (InSpan-plus (tests cs) (plus v (has c)) (has c) sum (column_in p.column l)));
      }

  -- all pivots
  reduced_all : (before : List Reducer) (ps : List Pivot) (low : ℕ) → Ascends low (length cs) (map (λ (p : Pivot). p.column) ps)
      → ((q : Reducer) → Mem q (reducers rows cs before ps) → has q.column q.row ≡ true) → Reduced before → Reduced (reducers rows cs before ps)
  reduced_all before [] low a own h = h
  reduced_all before (p ∷ ps) low a own h =
      let next : List Reducer = before ++ reducer rows cs before p ∷ [] in
      reduced_all (before ++ reducer rows cs before p ∷ []) ps (suc p.column) a.2 own
      (reduced_push before p a.1 (own (reducer rows cs before p)
      (stay (before ++ reducer rows cs before p ∷ []) ps (reducer rows cs before p) (mem_right (reducer rows cs before p) before (reducer rows cs before p ∷ []) (inl refl)))) h)

  -- columns that reduce to nothing are sums of the reduced columns
  complete_in : (ps : List Reducer) (xs : List (List ℕ)) → AllFit rows ps → AllAscend rows xs → ((c : List ℕ) → Mem c xs → is_empty (reduced_by rows ps c) ≡ true)
      → AllIn (reduced_tests ps) (tests xs)
  complete_in ps [] f a h = tt
  complete_in ps (c ∷ xs) f a h = (
    subst (λ (v : List ℕ). InSpan (reduced_tests ps) (plus (has v) (has c))) (empty_list (reduced_by rows ps c) (h c (inl refl))) (by_span rows ps c f a.0),
    complete_in ps xs f a.1 (λ d m. h d (inr m)),
  )

  -- as many as the rank
  pub ruled_pivots_are_rank : (ps : List Pivot) (r : ℕ) → MeetRules rows cs ps → IsRank rows cs r → length ps ≡ r
  ruled_pivots_are_rank ps r rules rank =
      let qs : List Reducer = reducers rows cs [] ps in
      let h : Reduced (reducers rows cs [] ps) = reduced_all [] ps 0 rules.ascend (λ q m. all_mem (λ (p : Reducer). has p.column p.row) q (reducers rows cs [] ps) rules.own m)
      (record { fit = tt; triangular = tt; spanned = tt }) in
      let whole = complete_in (reducers rows cs [] ps) cs h.fit ok (λ c m. all_mem (λ (c : List ℕ). is_empty (reduced_by rows (reducers rows cs [] ps) c)) c cs rules.complete m) in
      let size : length (reduced_tests (reducers rows cs [] ps)) ≡ r = rank_is rows cs r (reduced_tests (reducers rows cs [] ps)) ok (triangular_indep (reducers rows cs [] ps) h.triangular) h.spanned whole rank in
      omega (arith, size, sizes (reducers rows cs [] ps), count [] ps)
    where
      sizes : (qs : List Reducer) → length (reduced_tests qs) ≡ length qs
      sizes [] = refl
      sizes (q ∷ qs) = ap suc (sizes qs)
