-- A given verdict: numbers that ascend as a test, the sum of some columns, and the contact row alone.
use Rattle.std.proofs.Common.{◌≡◌, ℕ, suc, ◌+◌, ◌<◌, ◌≤◌, Bool, true, false, ltb, leb, List, [], ◌∷◌, ◌++◌, length, get_or, map, take, Option, Some, None, IfSome, IfNone, is_some, not, sym, ◌∙◌, ap, subst, arith}
use Rattle.std.specs.List.{list_all}
use Rattle.std.proofs.lemmas.Bool.{and_from, and_parts, false_from_ne_true, false≢true, leb-true, ltb-true, true≢false}
use Rattle.std.proofs.lemmas.List.{length-map, map_push, take_all, take_more}
use Rattle.std.proofs.lemmas.List.Folds.{list_all_at, list_all_more}
use Rattle.obd_base.specs.Lists.{has}
use Rattle.obd_base.specs.declared.points.Column.{Column}
use Rattle.mod2_rank.specs.Ascending.{AllAscend}
use Rattle.mod2_rank.specs.Linear.{Ascends, column_at, columns_at, same_list, sum_of}
use Rattle.mod2_rank.specs.PivotLines.{ascend_between}
use Rattle.mod2_rank.specs.Rows.{IsLeast, Rows, none, odd_times, only, plus}
use Rattle.mod2_rank.proofs.Ascending.{same_ascending, sum_of_ascends, sum_of_is, sum_up, tests}
use Rattle.mod2_rank.proofs.ColumnSteps.{ascends_all}
use Rattle.mod2_rank.proofs.Columns.{column_ascends}
use Rattle.mod2_rank.proofs.Members.{same_list_itself, same_list_true}
use Rattle.mod2_rank.proofs.PivotLists.{read_map}
use Rattle.mod2_rank.proofs.Reducing.{odd_times_ascending}
use Rattle.mod2_rank.proofs.Vectors.{plus_assoc, plus_itself, plus_none, same_from_plus}

-- numbers that pass ascend
pub ascend_true : (xs : List ℕ) (low high : ℕ) → ascend_between low high xs ≡ true → Ascends low high xs
ascend_true [] low high h = tt
ascend_true (x ∷ xs) low high h =
    let (p, q) = and_parts (leb low x) _ h in
    let (r, s) = and_parts (ltb x high) _ q in
    (leb-true low x p, ltb-true x high r, ascend_true xs (suc x) high s)

-- the rows of columns
abbrev pub rows_of : List Column → List (List ℕ)
rows_of columns = map (λ (c : Column). c.rows) columns

-- they are as many
pub rows_count : (cs : List Column) → length (rows_of cs) ≡ length cs
rows_count cs = length-map cs (λ (c : Column). c.rows)

pub rows_inside : (cs : List Column) (i : ℕ) → i < length cs → i < length (rows_of cs)
rows_inside cs i l = omega (arith, l, rows_count cs)

-- a column, as it is read
pub column_read : (cs : List Column) (i : ℕ) (x : Column) (c : List ℕ) → i < length cs → x ≡ get_or cs i x → c ≡ x.rows → c ≡ column_at (rows_of cs) i
column_read cs i x c l e f = f ∙ read_map (λ (c : Column). c.rows) cs i x [] l e

-- or as it is lent
pub lent_read : (cs : List Column) (i : ℕ) (x : Column) (c : List ℕ) → i < length cs → x ≡ get_or cs i x → c ≡ (get_or cs i x).rows → c ≡ column_at (rows_of cs) i
lent_read cs i x c l e f = column_read cs i x c l e (f ∙ sym (ap (λ (z : Column). z.rows) e))

-- all columns, where the first ones are no fewer
pub all_taken : (p : List ℕ → Bool) (cs : List Column) (i : ℕ) → length cs ≤ i → list_all p (take i (rows_of cs)) ≡ true → true ≡ list_all p (rows_of cs)
all_taken p cs i l e = sym e ∙ ap (list_all p) (take_all i (rows_of cs) (omega (arith, l, rows_count cs)))

-- the numbers of a column are rows
pub rows_fit : (rows room : ℕ) (cs : List (List ℕ)) (i : ℕ) (c : List ℕ) → AllAscend rows cs → c ≡ column_at cs i → rows ≤ room → (k d : ℕ) → k < length c → get_or c k d < room
rows_fit rows room cs i c a e l k d h = ascends_all c 0 rows room (subst (λ (x : List ℕ). Ascends 0 rows x) (sym e) (column_ascends rows cs i a)) l k d h

-- one column more is added
sum_up_push : (vs : List (List ℕ)) (c : List ℕ) → sum_up (tests (vs ++ c ∷ [])) ≡ plus (sum_up (tests vs)) (has c)
sum_up_push [] c = plus_none (has c)
sum_up_push (v ∷ vs) c = ap (plus (has v)) (sum_up_push vs c) ∙ sym (plus_assoc (has v) (sum_up (tests vs)) (has c))

-- columns by their numbers ascend
columns_ascend : (rows : ℕ) (cs : List (List ℕ)) (js : List ℕ) → AllAscend rows cs → AllAscend rows (columns_at cs js)
columns_ascend rows cs [] a = tt
columns_ascend rows cs (j ∷ js) a = (column_ascends rows cs j a, columns_ascend rows cs js a)

module _ (rows : ℕ) (cs : List (List ℕ)) (js : List ℕ) (ok : AllAscend rows cs) where
  -- one column more of those with the numbers
  pub added_next : (i : ℕ) (c : List ℕ) (start now next : Rows) → i < length js → c ≡ column_at cs (get_or js i 0) → now ≡ plus start (sum_up (tests (columns_at cs (take i js))))
      → next ≡ plus now (odd_times c) → next ≡ plus start (sum_up (tests (columns_at cs (take (i + 1) js))))
  added_next i c start now next l e f g =
      let asc : Ascends 0 rows c = subst (λ (d : List ℕ). Ascends 0 rows d) (sym e) (column_ascends rows cs (get_or js i 0) ok) in
      let more : columns_at cs (take (i + 1) js) ≡ columns_at cs (take i js) ++ column_at cs (get_or js i 0) ∷ [] = ap (columns_at cs) (take_more js i 0 l) ∙ map_push (column_at cs) (take i js) (get_or js i 0) in
      let u : Rows = sum_up (tests (columns_at cs (take i js))) in
      g ∙ (ap (plus now) (odd_times_ascending c 0 rows asc) ∙ (ap (λ (v : Rows). plus v (has c)) f ∙ (plus_assoc start u (has c)
      ∙ ap (plus start) (ap (λ (d : List ℕ). plus u (has d)) e ∙ (sym (sum_up_push (columns_at cs (take i js)) (column_at cs (get_or js i 0))) ∙ ap (λ (ds : List (List ℕ)). sum_up (tests ds)) (sym more))))))

  -- at the end their sum is added
  pub added_all : (i : ℕ) (start now : Rows) → length js ≤ i → now ≡ plus start (sum_up (tests (columns_at cs (take i js)))) → now ≡ plus start (has (sum_of rows (columns_at cs js)))
  added_all i start now l e =
      e ∙ (ap (λ ks. plus start (sum_up (tests (columns_at cs ks)))) (take_all i js l) ∙ ap (plus start) (sym (sum_of_is rows (columns_at cs js) (columns_ascend rows cs js ok))))

module _ (rows : ℕ) (cs : List (List ℕ)) (before sum now : Rows) (t : ℕ) (inside : t < rows) (empty : before ≡ none) (added : sum ≡ plus before (has (sum_of rows cs))) (toggled : now ≡ plus sum (only t)) where
  -- the sum and one row
  both : now ≡ plus (has (sum_of rows cs)) (only t)
  both = toggled ∙ ap (λ (v : Rows). plus v (only t)) (added ∙ ap (λ (v : Rows). plus v (has (sum_of rows cs))) empty)

  -- one row as a list
  one : has (t ∷ []) ≡ only t
  one = sym (odd_times_ascending (t ∷ []) 0 rows (omega arith, inside, tt)) ∙ plus_none (only t)

  -- where nothing is left the sum is that row alone
  row_alone : now ≡ none → true ≡ same_list (sum_of rows cs) (t ∷ [])
  row_alone e =
      let same : has (sum_of rows cs) ≡ has (t ∷ []) = same_from_plus (has (sum_of rows cs)) (only t) (sym both ∙ e) ∙ sym one in
      let list : sum_of rows cs ≡ t ∷ [] = same_ascending (sum_of rows cs) (t ∷ []) 0 rows (sum_of_ascends rows cs) (omega arith, inside, tt) (λ k. ap (λ (v : Rows). v k) same) in
      sym (ap (λ s. same_list s (t ∷ [])) list ∙ same_list_itself (t ∷ []))

  -- where a row is left it isn't
  row_not_alone : (r : ℕ) → IsLeast now r → false ≡ same_list (sum_of rows cs) (t ∷ [])
  row_not_alone r least = sym (false_from_ne_true (same_list (sum_of rows cs) (t ∷ [])) (λ h.
      let list : has (sum_of rows cs) ≡ only t = ap has (same_list_true (sum_of rows cs) (t ∷ []) h) ∙ one in
      let gone : now ≡ none = both ∙ (ap (λ (v : Rows). plus v (only t)) list ∙ plus_itself (only t)) in
      false≢true (sym (ap (λ (v : Rows). v r) gone) ∙ least.on)))

  -- so the search for a least row tells
  pub alone_exactly : (found : Option ℕ) (b : Bool) → is_some found ≡ not b → IfSome found (λ r. IsLeast now r) → IfNone found (now ≡ none) → b ≡ same_list (sum_of rows cs) (t ∷ [])
  alone_exactly (Some r) true e least gone = absurd (true≢false e)
  alone_exactly (Some r) false e least gone = row_not_alone r least
  alone_exactly None true e least gone = row_alone gone
  alone_exactly None false e least gone = absurd (false≢true e)

-- the first column that doesn't pass tells
pub not_all : (p : List ℕ → Bool) (cs : List (List ℕ)) (i : ℕ) (c : List ℕ) → i < length cs → c ≡ column_at cs i → p c ≡ false → false ≡ list_all p cs
not_all p cs i c l e h = sym (list_all_at p cs i [] l (ap p (sym e) ∙ h))

-- and one more that passes
pub all_next : (p : List ℕ → Bool) (cs : List (List ℕ)) (i : ℕ) (c : List ℕ) → i < length cs → c ≡ column_at cs i → p c ≡ true → list_all p (take i cs) ≡ true → list_all p (take (i + 1) cs) ≡ true
all_next p cs i c l e h before = list_all_more p cs i [] l ∙ and_from (list_all p (take i cs)) (p (get_or cs i [])) before (ap p (sym e) ∙ h)
