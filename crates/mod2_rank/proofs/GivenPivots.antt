-- Reducers and the columns that call for them: one reducer more, and what a column reduces to while the first that it calls for is added.
use Rattle.std.proofs.Common.{◌≡◌, ◌≢◌, ℕ, zero, suc, ◌+◌, ◌<◌, ◌≤◌, Bool, true, false, cond, eqb, ltb, not, ◌&&◌, List, [], ◌∷◌, ◌++◌, length, map, get_or, set, take, Option, Some, None, IfSome, IfNone, is_some, refl, sym, ◌∙◌, ap, subst, arith, inl, inr, length-append, length-take-le}
use Rattle.std.proofs.lemmas.Bool.{and_parts, cases_eq, cases_lt, eq-eqb, ltb-true, ne_eqb, or_left, false≢true, true≢false}
use Rattle.std.proofs.lemmas.List.{get_or-set_other, get_or-set_same, get_or_append_left, get_or_push, get_or_read, length-map, map_push, take_more}
use Rattle.obd_base.specs.Lists.{has}
use Rattle.mod2_rank.specs.Ascending.{AllAscend}
use Rattle.mod2_rank.specs.GivenPivots.{AreEchelon, IsFirstBad, IsRowTable, PassUpTo, Reducing, calls, entry_set, paired, passes_at, reduced_column}
use Rattle.mod2_rank.specs.Linear.{Ascends, is_empty, sum_of}
use Rattle.mod2_rank.specs.PivotLines.{next_column, pivot_line_passes}
use Rattle.mod2_rank.specs.PivotRules.{Reducer, reduced_by, reduced_once, reducer, reducers}
use Rattle.mod2_rank.specs.Reduction.{entry_of}
use Rattle.mod2_rank.specs.Rows.{IsLeast, Rows, differ, none, only, plus}
use Rattle.mod2_rank.specs.declared.outcome.Pivot.{Pivot}
use Rattle.mod2_rank.proofs.RuledPivots.{AllFit, count, once_ascends, sum_is}
use Rattle.mod2_rank.proofs.Vectors.{plus_none}
use mathlib.Core.Path.{fun_ext}

-- sums call for the sums
calls_plus : (ps : List Reducer) (v w : Rows) (l : ℕ) → calls ps (plus v w) l ≡ differ (calls ps v l) (calls ps w l)
calls_plus [] v w l = refl
calls_plus (p ∷ ps) v w zero = refl
calls_plus (p ∷ ps) v w (suc l) = calls_plus ps v w l

-- no column calls for a reducer past the end
calls_past : (ps : List Reducer) (v : Rows) (l : ℕ) → length ps ≤ l → calls ps v l ≡ false
calls_past [] v l h = refl
calls_past (p ∷ ps) v zero h = absurd (omega arith)
calls_past (p ∷ ps) v (suc l) h = calls_past ps v l (omega arith)

-- so a reducer that is called for is one
pub calls_inside : (ps : List Reducer) (v : Rows) (l : ℕ) → calls ps v l ≡ true → l < length ps
calls_inside ps v l e = elim (cases_lt l (length ps)) [ inl h ↦ h | inr h ↦ absurd (false≢true (sym (calls_past ps v l h) ∙ e)) ]

-- the empty column calls for none
pub calls_none : (ps : List Reducer) → calls ps none ≡ none
calls_none ps = fun_ext (λ l. each ps l)
  where
    each : (ps : List Reducer) (l : ℕ) → calls ps none l ≡ false
    each [] l = refl
    each (p ∷ ps) zero = refl
    each (p ∷ ps) (suc l) = each ps l

-- a row of which a column calls for no reducer has none
row_free : (ps : List Reducer) (v : Rows) (r l : ℕ) → calls ps v l ≡ false → v r ≡ true → calls ps (only r) l ≡ false
row_free [] v r l h on = refl
row_free (p ∷ ps) v r zero h on = elim (cases_eq p.row r) [ inl e ↦ absurd (false≢true (sym h ∙ (ap v e ∙ on))) | inr ne ↦ ne_eqb p.row r ne ]
row_free (p ∷ ps) v r (suc l) h on = row_free ps v r l h on

module _ (ps : List Reducer) (p : Reducer) where
  -- one reducer more, as to those before
  calls_old : (v : Rows) (l : ℕ) → l < length ps → calls (ps ++ p ∷ []) v l ≡ calls ps v l
  calls_old v l h = go ps l h
    where
      go : (qs : List Reducer) (l : ℕ) → l < length qs → calls (qs ++ p ∷ []) v l ≡ calls qs v l
      go [] l h = absurd (omega arith)
      go (q ∷ qs) zero h = refl
      go (q ∷ qs) (suc l) h = go qs l (omega arith)

  -- and as to itself
  calls_new : (v : Rows) → calls (ps ++ p ∷ []) v (length ps) ≡ v p.row
  calls_new v = go ps
    where
      go : (qs : List Reducer) → calls (qs ++ p ∷ []) v (length qs) ≡ v p.row
      go [] = refl
      go (q ∷ qs) = go qs

  -- there are as many
  size : length (ps ++ p ∷ []) ≡ length ps + 1
  size = length-append ps (p ∷ [])

  -- a row that has no reducer, and isn't the new one's
  other_row : (r : ℕ) → p.row ≢ r → calls (ps ++ p ∷ []) (only r) ≡ calls ps (only r)
  other_row r ne = fun_ext (λ l. elim (cases_lt l (length ps)) [
    | inl h ↦ calls_old (only r) l h
    | inr h ↦ elim (cases_eq l (length ps)) [
      | inl e ↦ rw (e) (calls_new (only r) ∙ (ne_eqb p.row r ne ∙ sym (calls_past ps (only r) (length ps) (omega arith))))
      | inr out ↦ calls_past (ps ++ p ∷ []) (only r) l (omega (arith, size)) ∙ sym (calls_past ps (only r) l h)
    ]
  ])

  -- the new one's row
  own_row : calls ps (only p.row) ≡ none → calls (ps ++ p ∷ []) (only p.row) ≡ only (length ps)
  own_row free = fun_ext (λ l. elim (cases_lt l (length ps)) [
    | inl h ↦ calls_old (only p.row) l h ∙ (ap (λ (v : Rows). v l) free ∙ sym (ne_eqb l (length ps) (λ e. omega arith)))
    | inr h ↦ elim (cases_eq l (length ps)) [
      | inl e ↦ rw (e) (calls_new (only p.row) ∙ (eq-eqb p.row p.row refl ∙ sym (eq-eqb (length ps) (length ps) refl)))
      | inr out ↦ calls_past (ps ++ p ∷ []) (only p.row) l (omega (arith, size)) ∙ sym (ne_eqb l (length ps) out)
    ]
  ])

  -- the table with the new one
  pub table_push : (table : List (Option ℕ)) → IsRowTable ps table → p.row < length table → calls ps (only p.row) ≡ none → IsRowTable (ps ++ p ∷ []) (set table p.row (Some (length ps)))
  table_push table h inside free r = elim (cases_eq p.row r) [
    | inl e ↦ subst (λ k. calls (ps ++ p ∷ []) (only k) ≡ entry_set (entry_of (set table p.row (Some (length ps))) k)) e
        (own_row free ∙ sym (ap entry_set (get_or-set_same table p.row (Some (length ps)) None inside)))
    | inr ne ↦ other_row r ne ∙ (h r ∙ sym (ap entry_set (get_or-set_other table p.row r (Some (length ps)) None (λ e. ne (sym e)))))
  ]

  -- reduced columns before it,
  column_old : (l : ℕ) → l < length ps → reduced_column (ps ++ p ∷ []) l ≡ reduced_column ps l
  column_old l h =
      ap (λ (cs : List (List ℕ)). get_or cs l []) (map_push (λ (q : Reducer). q.column) ps p)
      ∙ get_or_append_left (map (λ (q : Reducer). q.column) ps) (p.column ∷ []) [] l (omega (arith, length-map ps (λ (q : Reducer). q.column)))

  -- and its own
  column_new : reduced_column (ps ++ p ∷ []) (length ps) ≡ p.column
  column_new =
      ap (λ (cs : List (List ℕ)). get_or cs (length ps) []) (map_push (λ (q : Reducer). q.column) ps p)
      ∙ get_or_push (map (λ (q : Reducer). q.column) ps) p.column [] (length ps) (length-map ps (λ (q : Reducer). q.column))

  -- a reduced column that calls for none before it, and has its row
  pub echelon_push : (rows : ℕ) → AreEchelon rows ps → Ascends 0 rows p.column → calls ps (has p.column) ≡ none → has p.column p.row ≡ true → AreEchelon rows (ps ++ p ∷ [])
  echelon_push rows h asc clear own = record {
    ascend = λ l s. elim (cases_lt l (length ps)) [
      | inl k ↦ subst (λ (c : List ℕ). Ascends 0 rows c) (sym (column_old l k)) (h.ascend l k)
      | inr k ↦ let e : l ≡ length ps = omega (arith, size) in rw (e, column_new) asc
    ];
    own = λ l s. elim (cases_lt l (length ps)) [
      | inl k ↦ subst (λ (c : List ℕ). IsLeast (calls (ps ++ p ∷ []) (has c)) l) (sym (column_old l k)) (record {
        on = calls_old (has (reduced_column ps l)) l k ∙ (h.own l k).on;
        below = λ j lj. calls_old (has (reduced_column ps l)) j (omega arith) ∙ (h.own l k).below j lj;
      })
      | inr k ↦
          let e : l ≡ length ps = omega (arith, size) in
          rw (e, column_new) (record {
            on = calls_new (has p.column) ∙ own;
            below = λ j lj. calls_old (has p.column) j lj ∙ ap (λ (v : Rows). v j) clear;
          })
    ];
  }

-- a column of which the new reducer's row is left has a row without reducer
pub row_is_free : (ps : List Reducer) (v : Rows) (r : ℕ) → calls ps v ≡ none → v r ≡ true → calls ps (only r) ≡ none
row_is_free ps v r h on = fun_ext (λ l. row_free ps v r l (ap (λ (w : Rows). w l) h) on)

-- a column reduced by each in order, as a test
abbrev pub left_by : List Reducer → Rows → Rows
left_by [] v = v
left_by (p ∷ ps) v = left_by ps (cond (v p.row) (plus v (has p.column)) v)

-- it is the reduced column
pub left_by_is : (rows : ℕ) (ps : List Reducer) (c : List ℕ) → AllFit rows ps → Ascends 0 rows c → has (reduced_by rows ps c) ≡ left_by ps (has c)
left_by_is rows [] c f a = refl
left_by_is rows (p ∷ ps) c f a = left_by_is rows ps (reduced_once rows p c) f.1 (once_ascends rows p c a) ∙ ap (left_by ps) (once (has c p.row))
  where
    once : (b : Bool) → has (cond b (sum_of rows (c ∷ p.column ∷ [])) c) ≡ cond b (plus (has c) (has p.column)) (has c)
    once true = sum_is rows c p.column a f.0
    once false = refl

-- each reduced column ascends
pub fit_all : (rows : ℕ) (ps : List Reducer) → ((l : ℕ) → l < length ps → Ascends 0 rows (reduced_column ps l)) → AllFit rows ps
fit_all rows [] h = tt
fit_all rows (p ∷ ps) h = (h 0 (omega arith), fit_all rows ps (λ l k. h (suc l) (omega arith)))

-- a column that calls for no reducer stays
pub left_still : (ps : List Reducer) (v : Rows) → calls ps v ≡ none → left_by ps v ≡ v
left_still ps v h = go ps (λ l. ap (λ (w : Rows). w l) h)
  where
    go : (qs : List Reducer) → ((l : ℕ) → calls qs v l ≡ false) → left_by qs v ≡ v
    go [] h = refl
    go (p ∷ qs) h = ap (λ b. left_by qs (cond b (plus v (has p.column)) v)) (h 0) ∙ go qs (λ l. h (suc l))

-- where the first reducer that it calls for is added, it reduces to the same
left_same : (ps : List Reducer) (v w : Rows) (k : ℕ) → k < length ps → IsLeast (calls ps v) k → ((l : ℕ) → l < k + 1 → calls ps w l ≡ false) → w ≡ plus v (has (reduced_column ps k))
    → left_by ps w ≡ left_by ps v
left_same [] v w k h least clear e = absurd (omega arith)
left_same (p ∷ ps) v w zero h least clear e =
    ap (λ b. left_by ps (cond b (plus w (has p.column)) w)) (clear 0 (omega arith)) ∙ (ap (left_by ps) e ∙ sym (ap (λ b. left_by ps (cond b (plus v (has p.column)) v)) least.on))
left_same (p ∷ ps) v w (suc k) h least clear e =
    ap (λ b. left_by ps (cond b (plus w (has p.column)) w)) (clear 0 (omega arith))
    ∙ (left_same ps v w k (omega arith) (record { on = least.on; below = λ l s. least.below (suc l) (omega arith) }) (λ l s. clear (suc l) (omega arith)) e
    ∙ sym (ap (λ b. left_by ps (cond b (plus v (has p.column)) v)) (least.below 0 (omega arith))))

module _ (rows : ℕ) (ps : List Reducer) (ok : AreEchelon rows ps) (v w : Rows) (k : ℕ) (least : IsLeast (calls ps v) k) (added : w ≡ plus v (has (reduced_column ps k))) where
  -- the first one that is called for is one
  called_inside : k < length ps
  called_inside = calls_inside ps v k least.on

  -- when it is added it isn't called for, nor is one before it
  pub called_clear : (l : ℕ) → l < k + 1 → calls ps w l ≡ false
  called_clear l h =
      let own = ok.own k called_inside in
      ap (λ (u : Rows). calls ps u l) added ∙ (calls_plus ps v (has (reduced_column ps k)) l ∙ elim (cases_eq l k) [
        | inl e ↦ rw (e, least.on, own.on) refl
        | inr ne ↦ rw (least.below l (omega arith), own.below l (omega arith)) refl
      ])

  -- and the column reduces to the same
  pub called_same : left_by ps w ≡ left_by ps v
  called_same = left_same ps v w k called_inside least called_clear added

-- reduced columns as they stand beside their rows
paired_columns : (rs : List ℕ) (cs : List (List ℕ)) → length cs ≡ length rs → map (λ (p : Reducer). p.column) (paired rs cs) ≡ cs
paired_columns [] [] h = refl
paired_columns [] (c ∷ cs) h = absurd (omega arith)
paired_columns (r ∷ rs) [] h = refl
paired_columns (r ∷ rs) (c ∷ cs) h = ap (λ ds. c ∷ ds) (paired_columns rs cs (omega arith))

-- they are as many
pub paired_size : (rs : List ℕ) (cs : List (List ℕ)) → length cs ≡ length rs → length (paired rs cs) ≡ length cs
paired_size rs cs h = sym (length-map (paired rs cs) (λ (p : Reducer). p.column)) ∙ ap length (paired_columns rs cs h)

-- one more at the end
paired_push : (rs : List ℕ) (cs : List (List ℕ)) (r : ℕ) (c : List ℕ) → length cs ≡ length rs → paired (rs ++ r ∷ []) (cs ++ c ∷ []) ≡ paired rs cs ++ record { row = r; column = c } ∷ []
paired_push [] [] r c h = refl
paired_push [] (d ∷ cs) r c h = absurd (omega arith)
paired_push (q ∷ rs) [] r c h = absurd (omega arith)
paired_push (q ∷ rs) (d ∷ cs) r c h = ap (λ ps. record { row = q; column = d } ∷ ps) (paired_push rs cs r c (omega arith))

module _ (ps : List Reducer) (table : List (Option ℕ)) (tabled : IsRowTable ps table) (r : ℕ) where
  -- what the table tells is a reducer
  pub entry_inside : (l : ℕ) → entry_of table r ≡ Some l → l < length ps
  entry_inside l e = calls_inside ps (only r) l (ap (λ (v : Rows). v l) (tabled r ∙ ap entry_set e) ∙ eq-eqb l l refl)

  -- a row toggled, with the reducer that it calls for
  pub toggled_calls : (at : Option ℕ) (v w called : Rows) → entry_of table r ≡ at → called ≡ calls ps v → w ≡ plus v (only r) → plus called (entry_set at) ≡ calls ps w
  toggled_calls at v w called e f g =
      ap (λ (u : Rows). plus u (entry_set at)) f
      ∙ (ap (plus (calls ps v)) (sym (tabled r ∙ ap entry_set e)) ∙ (sym (fun_ext (λ l. calls_plus ps v (only r) l)) ∙ ap (calls ps) (sym g)))

  -- the same where it calls for none
  pub toggled_free : (v w called : Rows) → entry_of table r ≡ None → called ≡ calls ps v → w ≡ plus v (only r) → called ≡ calls ps w
  toggled_free v w called e f g = sym (plus_none called) ∙ toggled_calls None v w called e f g

-- a reduced column as it is read
pub column_read : (rs : List ℕ) (cs : List (List ℕ)) (ps : List Reducer) (k : ℕ) (c : List ℕ) → length cs ≡ length rs → paired rs cs ≡ ps → c ≡ get_or cs k [] → c ≡ reduced_column ps k
column_read rs cs ps k c h e f = f ∙ (sym (ap (λ (ds : List (List ℕ)). get_or ds k []) (paired_columns rs cs h)) ∙ ap (λ (qs : List Reducer). reduced_column qs k) e)

-- the least number isn't below a bound below which there is none
pub least_above : (v : Rows) (low k : ℕ) → ((l : ℕ) → l < low → v l ≡ false) → IsLeast v k → low ≤ k
least_above v low k clear least = elim (cases_lt k low) [ inl h ↦ absurd (false≢true (sym (clear k h) ∙ least.on)) | inr h ↦ h ]

-- one reducer more, in the lists that code keeps
pub paired_grown : (rs rs' : List ℕ) (cs cs' : List (List ℕ)) (ps : List Reducer) (r : ℕ) (c : List ℕ) → length cs ≡ length rs → paired rs cs ≡ ps → rs' ≡ rs ++ r ∷ [] → cs' ≡ cs ++ c ∷ []
    → paired rs' cs' ≡ ps ++ record { row = r; column = c } ∷ []
paired_grown rs rs' cs cs' ps r c h e f g = rw (f, g) (paired_push rs cs r c h ∙ ap (λ qs. qs ++ record { row = r; column = c } ∷ []) e)

-- reducers over so many rows, by their parts
pub reducing_is : {n m : ℕ} {qs ps : List Reducer} → n ≡ m → qs ≡ ps → ◌≡◌ {A = Reducing} (record { rows = n; list = qs }) (record { rows = m; list = ps })
reducing_is e f = rw (e, f) refl

-- where a pivot is in range its row decides
pub row_decides : (a b c d : Bool) → true ≡ (a && (b && c)) → d ≡ (a && (b && (c && d)))
row_decides true true true d e = refl
row_decides true true false d e = absurd (true≢false e)
row_decides true false c d e = absurd (true≢false e)
row_decides false b c d e = absurd (true≢false e)

-- a pivot that is in range has a column
pub column_in_range : (a : Bool) (j n : ℕ) (b : Bool) → true ≡ (a && (ltb j n && b)) → j < n
column_in_range a j n b e = ltb-true j n (and_parts (ltb j n) b (and_parts a (ltb j n && b) (sym e)).1).0

-- the least column after one pivot more
next_push : (low : ℕ) (ps : List Pivot) (p : Pivot) → next_column low (ps ++ p ∷ []) ≡ p.column + 1
next_push low [] p = omega arith
next_push low (q ∷ ps) p = next_push (suc q.column) ps p

-- the reducers of one pivot more
reducers_push : (rows : ℕ) (cs : List (List ℕ)) (before : List Reducer) (ps : List Pivot) (p : Pivot)
    → reducers rows cs before (ps ++ p ∷ []) ≡ reducers rows cs before ps ++ reducer rows cs (reducers rows cs before ps) p ∷ []
reducers_push rows cs before [] p = refl
reducers_push rows cs before (q ∷ ps) p = reducers_push rows cs (before ++ reducer rows cs before q ∷ []) ps p

module _ (rows : ℕ) (cs : List (List ℕ)) (ps : List Pivot) (n : ℕ) (x : Pivot) (here : n < length ps) (is : x ≡ get_or ps n x) where
  -- the first n and one more
  taken_more : take (n + 1) ps ≡ take n ps ++ x ∷ []
  taken_more = take_more ps n x here ∙ ap (λ y. take n ps ++ y ∷ []) (sym is)

  -- the pivot in the place is that one
  one_pivot : (p : Pivot) → p ≡ get_or ps n p → p ≡ x
  one_pivot p e = get_or_read ps n p here e x ∙ sym is

  -- the least column after it
  pub next_more : x.column + 1 ≡ next_column 0 (take (n + 1) ps)
  next_more = sym (ap (next_column 0) taken_more ∙ next_push 0 (take n ps) x)

  -- the reducers with its own
  pub reducers_more : reducers rows cs [] (take n ps) ++ reducer rows cs (reducers rows cs [] (take n ps)) x ∷ [] ≡ reducers rows cs [] (take (n + 1) ps)
  reducers_more = sym (ap (reducers rows cs []) taken_more ∙ reducers_push rows cs [] (take n ps) x)

  -- whether it passes, as code has it
  pub passes_is : (r : Reducing) (low : ℕ) → r ≡ record { rows = rows; list = reducers rows cs [] (take n ps) } → low ≡ next_column 0 (take n ps) → pivot_line_passes r.rows cs low r.list x ≡ passes_at rows cs ps n x
  passes_is r low e f = ap (λ (s : Reducing). pivot_line_passes s.rows cs low s.list x) e ∙ ap (λ m. pivot_line_passes rows cs m (reducers rows cs [] (take n ps)) x) f

  -- one more passes
  pub pass_more : PassUpTo rows cs ps n → passes_at rows cs ps n x ≡ true → PassUpTo rows cs ps (n + 1)
  pass_more before h k p l e = elim (cases_lt k n) [
    | inl m ↦ before k p m e
    | inr m ↦
        let q : k ≡ n = omega arith in
        let same : p ≡ x = one_pivot p (e ∙ ap (λ i. get_or ps i p) q) in
        rw (q, same) h
  ]

  -- or is the first that doesn't
  pub first_bad : PassUpTo rows cs ps n → passes_at rows cs ps n x ≡ false → IsFirstBad rows cs ps n
  first_bad before h = record { inside = here; before = before; fails = λ p e. ap (passes_at rows cs ps n) (one_pivot p e) ∙ h }

-- the first n pivots have n reducers
pub reducers_size : (rows : ℕ) (cs : List (List ℕ)) → AllAscend rows cs → (ps : List Pivot) (n : ℕ) → n ≤ length ps → length (reducers rows cs [] (take n ps)) ≡ n
reducers_size rows cs ok ps n h = count rows cs ok [] (take n ps) ∙ omega (arith, length-take-le n ps h)

-- a column is empty exactly where there is no least row
pub empty_exactly : (c : List ℕ) (v : Rows) (found : Option ℕ) (b : Bool) → b ≡ is_some found → v ≡ has c → IfSome found (λ r. IsLeast v r) → IfNone found (v ≡ none) → is_empty c ≡ not b
empty_exactly c v (Some r) b e f least gone = go c (sym (ap (λ (w : Rows). w r) f) ∙ least.on) ∙ sym (ap not e)
  where
    go : (c : List ℕ) → has c r ≡ true → is_empty c ≡ false
    go [] h = absurd (false≢true h)
    go (x ∷ xs) h = refl
empty_exactly c v None b e f least gone = go c (sym f ∙ gone) ∙ sym (ap not e)
  where
    go : (c : List ℕ) → has c ≡ none → is_empty c ≡ true
    go [] h = refl
    go (x ∷ xs) h = absurd (false≢true (sym (ap (λ (w : Rows). w x) h) ∙ or_left (eqb x x) (has xs x) (eq-eqb x x refl)))

-- nothing is left where there is none
pub none_left : (v : Rows) (found : Option ℕ) → IfNone found (v ≡ none) → is_some found ≡ false → v ≡ none
none_left v (Some r) gone e = absurd (true≢false e)
none_left v None gone e = gone
