-- What the loop over the columns has: the pivots found, their reduced columns, the pivots added to each, and a table from rows to pivots.
use Rattle.std.proofs.Common.{◌≡◌, ◌⊎◌, ℕ, zero, suc, ◌<◌, ◌≤◌, false, eqb, List, [], ◌∷◌, length, Option, Some, None, refl, sym, ◌∙◌, ap, subst, arith, inl, inr}
use Rattle.std.proofs.lemmas.Bool.{cases_Bool, cases_eq, eqb-true, false≢true}
use Rattle.obd_base.specs.Lists.{Mem, has}
use Rattle.mod2_rank.specs.Ascending.{AllAscend}
use Rattle.mod2_rank.specs.Linear.{Ascends}
use Rattle.mod2_rank.specs.Rows.{Rows, none, plus, IsLeast, total, odd_times}
use Rattle.mod2_rank.proofs.Vectors.{plus_comm, plus_twice}
use Rattle.mod2_rank.proofs.Spans.{InSpan}
use Rattle.mod2_rank.proofs.Totals.{first_columns, total_in_span}
use Rattle.mod2_rank.proofs.Columns.{column_test, first_is_least, one_least}
use Rattle.mod2_rank.proofs.Lean.{LeanPivot, LeanProgress, LeanSettled, lean_kept, lean_more, lean_none, lean_vectors}
use Rattle.mod2_rank.specs.Reduction.{IsLeft, tested}

-- the pivots below n, the last one first
abbrev pub pivots_upto : (ℕ → ℕ) → (ℕ → ℕ) → (ℕ → List ℕ) → ℕ → List LeanPivot
pivots_upto column row reduced zero = []
pivots_upto column row reduced (suc n) = record { column = column n; row = row n; reduced = reduced n } ∷ pivots_upto column row reduced n

-- n pivots of the first j columns: each reduced column is its own column and the reduced columns that were added
pub record Found (rows : ℕ) (cs : List (List ℕ)) (j n : ℕ) (column row : ℕ → ℕ) (reduced added : ℕ → List ℕ) : Type 0 where
  pub lean : LeanProgress rows cs j (pivots_upto column row reduced n)
  pub ascends : (l : ℕ) → l < n → Ascends 0 rows (reduced l)
  pub least : (l : ℕ) → l < n → IsLeast (has (reduced l)) (row l)
  pub made : (l : ℕ) → l < n → has (reduced l) ≡ plus (column_test cs (column l)) (total (tested reduced) (odd_times (added l)) l)
  pub early : (l : ℕ) → l < n → (a : ℕ) → Mem a (added l) → a < l

-- the table tells the pivot of each pivot row, and that another row has none
pub record InTable (n : ℕ) (row : ℕ → ℕ) (table : ℕ → Option ℕ) : Type 0 where
  pub there : (r l : ℕ) → table r ≡ Some l → (l < n) × (row l ≡ r)
  pub all : (l : ℕ) → l < n → table (row l) ≡ Some l

-- `None` is no `Some`
none_is_some : (l : ℕ) → ◌≡◌ {A = Option ℕ} None (Some l) → ⊥
none_is_some l e = cc

-- an ascending list begins with its least row
starts_with : (rows : ℕ) (w : List ℕ) (r : ℕ) → Ascends 0 rows w → IsLeast (has w) r → (rest : List ℕ) × (w ≡ r ∷ rest)
starts_with rows [] r a least = absurd (false≢true least.on)
starts_with rows (x ∷ xs) r a least = (xs, ap (λ y. y ∷ xs) (one_least (has (x ∷ xs)) x r (first_is_least rows x xs a) least))

-- before the first column
pub found_none : (rows : ℕ) (cs : List (List ℕ)) (column row : ℕ → ℕ) (reduced added : ℕ → List ℕ) → Found rows cs 0 0 column row reduced added
found_none rows cs column row reduced added = record {
  lean = lean_none rows cs;
  ascends = λ l h. absurd (omega arith);
  least = λ l h. absurd (omega arith);
  made = λ l h. absurd (omega arith);
  early = λ l h. absurd (omega arith);
}

-- an empty table has none
pub table_none : (row : ℕ → ℕ) (table : ℕ → Option ℕ) → ((r : ℕ) → table r ≡ None) → InTable 0 row table
table_none row table h = record { there = λ r l e. absurd (none_is_some l (sym (h r) ∙ e)); all = λ l k. absurd (omega arith) }

-- the reduced columns, as tests
reduced_tests : (column row : ℕ → ℕ) (reduced : ℕ → List ℕ) (n : ℕ) → lean_vectors (pivots_upto column row reduced n) ≡ first_columns (tested reduced) n
reduced_tests column row reduced zero = refl
reduced_tests column row reduced (suc n) = ap (λ w. has (reduced n) ∷ w) (reduced_tests column row reduced n)

-- functions that agree below n give the same pivots
same_pivots : (column row column' row' : ℕ → ℕ) (reduced reduced' : ℕ → List ℕ) (n : ℕ) → ((l : ℕ) → l < n → column' l ≡ column l)
    → ((l : ℕ) → l < n → row' l ≡ row l) → ((l : ℕ) → l < n → reduced' l ≡ reduced l) → pivots_upto column' row' reduced' n ≡ pivots_upto column row reduced n
same_pivots column row column' row' reduced reduced' zero c r v = refl
same_pivots column row column' row' reduced reduced' (suc n) c r v =
    rw (c n (omega arith), r n (omega arith), v n (omega arith), same_pivots column row column' row' reduced reduced' n (λ l h. c l (omega arith)) (λ l h. r l (omega arith)) (λ l h. v l (omega arith))) refl

-- and the same sums
same_total : (f g : ℕ → Rows) (x : Rows) (n : ℕ) → ((l : ℕ) → l < n → f l ≡ g l) → total f x n ≡ total g x n
same_total f g x zero h = refl
same_total f g x (suc n) h = rw (same_total f g x n (λ l k. h l (omega arith)), h n (omega arith)) refl

module _ (rows : ℕ) (cs : List (List ℕ)) (j n : ℕ) (column row : ℕ → ℕ) (reduced added : ℕ → List ℕ) (ok : AllAscend rows cs) (here : j < length cs)
    (found : Found rows cs j n column row reduced added) where
  -- what is left differs from the column by a sum of reduced columns
  left_in_span : (us : List ℕ) (v : Rows) → v ≡ plus (column_test cs j) (total (tested reduced) (odd_times us) n)
      → InSpan (lean_vectors (pivots_upto column row reduced n)) (plus v (column_test cs j))
  left_in_span us v e =
      let t : plus v (column_test cs j) ≡ total (tested reduced) (odd_times us) n =
      ap (λ (w : Rows). plus w (column_test cs j)) (e ∙ plus_comm (column_test cs j) (total (tested reduced) (odd_times us) n)) ∙ plus_twice (total (tested reduced) (odd_times us) n) (column_test cs j) in
      subst (λ (b : List Rows). InSpan b (plus v (column_test cs j))) (sym (reduced_tests column row reduced n))
      (subst (λ (w : Rows). InSpan (first_columns (tested reduced) n) w) (sym t) (total_in_span (tested reduced) (odd_times us) n))

  -- a column of which nothing is left changes no pivot
  pub found_same : (us : List ℕ) (low : ℕ) → IsLeft rows (column_test cs j) n reduced us low none → Found rows cs (suc j) n column row reduced added
  found_same us low left = record {
    lean = lean_more rows cs j (pivots_upto column row reduced n) [] ok here found.lean tt (left_in_span us none left.sum) (settled (pivots_upto column row reduced n));
    ascends = found.ascends;
    least = found.least;
    made = found.made;
    early = found.early;
  }
    where
      settled : (ls : List LeanPivot) → LeanSettled ls []
      settled [] = tt
      settled (l ∷ ls) = (refl, settled ls)

  -- a column of which something is left, with a least row that is no pivot row, is a pivot column
  pub found_more : (table : ℕ → Option ℕ) (us : List ℕ) (low : ℕ) (v : Rows) (r : ℕ) (w : List ℕ) → InTable n row table
      → IsLeft rows (column_test cs j) n reduced us low v → IsLeast v r → table r ≡ None → Ascends 0 rows w → has w ≡ v
      → (column' row' : ℕ → ℕ) (reduced' added' : ℕ → List ℕ) → ((l : ℕ) → l < n → column' l ≡ column l) → ((l : ℕ) → l < n → row' l ≡ row l)
      → ((l : ℕ) → l < n → reduced' l ≡ reduced l) → ((l : ℕ) → l < n → added' l ≡ added l)
      → column' n ≡ j → row' n ≡ r → reduced' n ≡ w → added' n ≡ us
      → Found rows cs (suc j) (suc n) column' row' reduced' added'
  found_more table us low v r w tabled left least new asc same column' row' reduced' added' ec er ev ea nc nr nv na = record {
    lean = subst (λ ls. LeanProgress rows cs (suc j) ls) (kept ∙ sym pushed) progress;
    ascends = λ l h. elim (cases_eq l n) [ inl e ↦ rw (e, nv) asc | inr ne ↦ rw (ev l (omega arith)) (found.ascends l (omega arith)) ];
    least = λ l h. elim (cases_eq l n) [
      | inl e ↦ rw (e, nv, nr) (subst (λ (u : Rows). IsLeast u r) (sym same) least)
      | inr ne ↦ rw (ev l (omega arith), er l (omega arith)) (found.least l (omega arith))
    ];
    made = λ l h. elim (cases_eq l n) [
      | inl e ↦ rw (e, nv, nc, na) (same ∙ (left.sum ∙ ap (plus (column_test cs j)) (sym (before us n (omega arith)))))
      | inr ne ↦ rw (ev l (omega arith), ec l (omega arith), ea l (omega arith)) (found.made l (omega arith) ∙ ap (plus (column_test cs (column l))) (sym (before (added l) l (omega arith))))
    ];
    early = λ l h a m. elim (cases_eq l n) [
      | inl e ↦ (let k : a < n = left.early a (subst (λ xs. Mem a xs) (ap added' e ∙ na) m) in omega arith)
      | inr ne ↦ found.early l (omega arith) a (subst (λ xs. Mem a xs) (ea l (omega arith)) m)
    ];
  }
    where
      before : (x : List ℕ) (m : ℕ) → m ≤ n → total (tested reduced') (odd_times x) m ≡ total (tested reduced) (odd_times x) m
      before x m h = same_total (tested reduced') (tested reduced) (odd_times x) m (λ l k. ap (λ (y : List ℕ). has y) (ev l (omega arith)))

      pushed : pivots_upto column' row' reduced' (suc n) ≡ record { column = j; row = r; reduced = w } ∷ pivots_upto column row reduced n
      pushed = rw (nc, nr, nv, same_pivots column row column' row' reduced reduced' n ec er ev) refl

      rest : List ℕ
      rest = (starts_with rows w r asc (subst (λ (u : Rows). IsLeast u r) (sym same) least)).0

      shape : w ≡ r ∷ rest
      shape = (starts_with rows w r asc (subst (λ (u : Rows). IsLeast u r) (sym same) least)).1

      kept : lean_kept j w (pivots_upto column row reduced n) ≡ record { column = j; row = r; reduced = w } ∷ pivots_upto column row reduced n
      kept = rw shape refl

      other : (l : ℕ) → l < n → eqb r (row l) ≡ false
      other l h = elim (cases_Bool (eqb r (row l))) [
        | inl t ↦ absurd (none_is_some l (sym new ∙ (ap table (eqb-true r (row l) t) ∙ tabled.all l h)))
        | inr f ↦ f
      ]

      settled : (m : ℕ) → m ≤ n → LeanSettled (pivots_upto column row reduced m) w
      settled zero h = tt
      settled (suc m) h = (rw shape (other m (omega arith)), settled m (omega arith))

      progress : LeanProgress rows cs (suc j) (lean_kept j w (pivots_upto column row reduced n))
      progress = lean_more rows cs j (pivots_upto column row reduced n) w ok here found.lean asc (left_in_span us (has w) (same ∙ left.sum)) (settled n (omega arith))

-- the table with one pivot more
pub table_more : (n : ℕ) (row row' : ℕ → ℕ) (table table' : ℕ → Option ℕ) (r : ℕ) → InTable n row table → table r ≡ None → ((l : ℕ) → l < n → row' l ≡ row l) → row' n ≡ r
    → table' r ≡ Some n → ((k : ℕ) → (k ≡ r → ⊥) → table' k ≡ table k) → InTable (suc n) row' table'
table_more n row row' table table' r tabled new same own here there = record {
  there = λ k l e. found k l e (cases_eq k r);
  all = λ l h. held l h (cases_eq l n);
}
  where
    found : (k l : ℕ) → table' k ≡ Some l → (k ≡ r) ⊎ (k ≡ r → ⊥) → (l < suc n) × (row' l ≡ k)
    found k l e (inl q) = let s : l ≡ n = one l n (sym e ∙ (ap table' q ∙ here)) in (omega arith, ap row' s ∙ (own ∙ sym q))
      where
        one : (a b : ℕ) → ◌≡◌ {A = Option ℕ} (Some a) (Some b) → a ≡ b
        one a b e = cc
    found k l e (inr ne) = let (h, q) = tabled.there k l (sym (there k ne) ∙ e) in (omega arith, same l h ∙ q)

    held : (l : ℕ) → l < suc n → (l ≡ n) ⊎ (l ≡ n → ⊥) → table' (row' l) ≡ Some l
    held l h (inl q) = ap (λ i. table' (row' i)) q ∙ (ap table' own ∙ (here ∙ ap Some (sym q)))
    held l h (inr ne) =
        let before : l < n = omega arith in
        let off : row' l ≡ r → ⊥ = λ q. none_is_some l (sym new ∙ (ap table (sym q ∙ same l before) ∙ tabled.all l before)) in
        there (row' l) off ∙ (ap table (same l before) ∙ tabled.all l before)
