-- The columns of a list by their numbers, the span of the first j, and the pivot columns and pivot rows in terms of it.
use Rattle.std.proofs.Common.{◌≡◌, ℕ, zero, suc, ◌<◌, ◌≤◌, true, false, List, [], ◌∷◌, length, map, take, refl, sym, ◌∙◌, ap, subst, arith, inl, inr}
use Rattle.std.proofs.lemmas.Bool.{cases_lt, cases_eq, eq-eqb, false≢true, true≢false, not_from_false, false_from_ne_true}
use Rattle.obd_base.specs.Lists.{has, parts, Mem}
use Rattle.mod2_rank.specs.Linear.{sum_of, is_sum_of_part, column_at, is_pivot, least_row, greatest, pivot_row, Ascends}
use Rattle.mod2_rank.specs.Rows.{Rows, plus, IsLeast}
use Rattle.mod2_rank.proofs.Vectors.{plus_twice, plus_comm, same_from_plus}
use Rattle.mod2_rank.proofs.Spans.{InSpan, IsPivot, AllIn, span_within, span_first}
use Rattle.mod2_rank.specs.Ascending.{AllAscend}
use Rattle.mod2_rank.proofs.Totals.{first_columns}
use Rattle.mod2_rank.proofs.Echelon.{SameSpan}
use Rattle.mod2_rank.proofs.Ascending.{sum_up, tests, sum_of_is, sum_of_ascends, ascends_low}
use Rattle.obd_base.proofs.lists.Members.{mem_map}
use Rattle.mod2_rank.proofs.Members.{mem_map_in}
use Rattle.mod2_rank.proofs.Parts.{part_in_span, span_has_part, part_ascends, sum_of_part_in_span, span_is_sum_of_part}

-- the test of the column with the number
abbrev pub column_test : List (List ℕ) → ℕ → Rows
column_test cs j = has (column_at cs j)

-- each of the first columns is in their span
pub first_columns_at : (col : ℕ → Rows) (n k : ℕ) → k < n → InSpan (first_columns col n) (col k)
first_columns_at col zero k l = absurd (omega arith)
first_columns_at col (suc n) k l = elim (cases_eq k n) [
  | inl e ↦ rw e (span_first (col n) (first_columns col n))
  | inr ne ↦ inl (first_columns_at col n k (omega arith))
]

-- a span that holds each numbered column
pub all_in_first : (b : List Rows) (col : ℕ → Rows) (n : ℕ) → ((k : ℕ) → k < n → InSpan b (col k)) → AllIn b (first_columns col n)
all_in_first b col zero h = tt
all_in_first b col (suc n) h = (h n (omega arith), all_in_first b col n (λ k l. h k (omega arith)))

-- and so is each column of a list
tests_at : (cs : List (List ℕ)) (k : ℕ) → k < length cs → InSpan (tests cs) (column_test cs k)
tests_at [] k l = absurd (omega arith)
tests_at (c ∷ cs) zero l = span_first (has c) (tests cs)
tests_at (c ∷ cs) (suc k) l = inl (tests_at cs k (omega arith))

-- what holds of each column's number holds of the list
all_in_tests : (b : List Rows) (cs : List (List ℕ)) → ((k : ℕ) → k < length cs → InSpan b (column_test cs k)) → AllIn b (tests cs)
all_in_tests b [] h = tt
all_in_tests b (c ∷ cs) h = (h 0 (omega arith), all_in_tests b cs (λ k l. h (suc k) (omega arith)))

-- the columns before j keep their numbers
column_take : (cs : List (List ℕ)) (j k : ℕ) → k < j → column_at (take j cs) k ≡ column_at cs k
column_take [] zero k l = refl
column_take [] (suc j) k l = refl
column_take (c ∷ cs) zero k l = absurd (omega arith)
column_take (c ∷ cs) (suc j) zero l = refl
column_take (c ∷ cs) (suc j) (suc k) l = column_take cs j k (omega arith)

-- they are j
length_take : (cs : List (List ℕ)) (j : ℕ) → j ≤ length cs → length (take j cs) ≡ j
length_take [] zero l = refl
length_take [] (suc j) l = absurd (omega arith)
length_take (c ∷ cs) zero l = refl
length_take (c ∷ cs) (suc j) l = ap suc (length_take cs j (omega arith))

-- each column ascends, also one past the end, which is empty
pub column_ascends : (rows : ℕ) (cs : List (List ℕ)) (k : ℕ) → AllAscend rows cs → Ascends 0 rows (column_at cs k)
column_ascends rows [] k a = tt
column_ascends rows (c ∷ cs) zero a = a.0
column_ascends rows (c ∷ cs) (suc k) a = column_ascends rows cs k a.1

-- the columns before j ascend
pub take_ascends : (rows : ℕ) (cs : List (List ℕ)) (j : ℕ) → AllAscend rows cs → AllAscend rows (take j cs)
take_ascends rows [] zero a = tt
take_ascends rows [] (suc j) a = tt
take_ascends rows (c ∷ cs) zero a = tt
take_ascends rows (c ∷ cs) (suc j) a = (a.0, take_ascends rows cs j a.1)

-- the columns before j in the list's order, and by their numbers with the last first, have one span
pub same_first : (cs : List (List ℕ)) (j : ℕ) → j ≤ length cs → SameSpan (tests (take j cs)) (first_columns (column_test cs) j)
same_first cs j l = record {
  there = all_in_tests (first_columns (column_test cs) j) (take j cs)
      (λ k lk. let lj : k < j = omega (arith, length_take cs j l) in rw (column_take cs j k lj) (first_columns_at (column_test cs) j k lj));
  back = all_in_first (tests (take j cs)) (column_test cs) j
      (λ k lk. rw (column_take cs j k lk) at (tests_at (take j cs) k (omega (arith, length_take cs j l))));
}

-- all columns, from the first and from the last, span the same
pub same_all : (cs : List (List ℕ)) → SameSpan (tests cs) (first_columns (column_test cs) (length cs))
same_all cs = record {
  there = all_in_tests (first_columns (column_test cs) (length cs)) cs (λ k l. first_columns_at (column_test cs) (length cs) k l);
  back = all_in_first (tests cs) (column_test cs) (length cs) (λ k l. tests_at cs k l);
}

-- the pivot columns are those that are in no sum of the columns before
pub pivot_is_new : (rows : ℕ) (cs : List (List ℕ)) (j : ℕ) → AllAscend rows cs → j ≤ length cs → is_pivot rows cs j ≡ true
    → InSpan (first_columns (column_test cs) j) (column_test cs j) → ⊥
pivot_is_new rows cs j a l h i =
    let s = same_first cs j l in
    let q : is_sum_of_part rows (take j cs) (column_at cs j) ≡ true = span_is_sum_of_part rows (take j cs) (column_at cs j) (take_ascends rows cs j a) (column_ascends rows cs j a)
    (span_within (tests (take j cs)) (first_columns (column_test cs) j) (column_test cs j) s.back i) in
    false≢true (rw q at h)

-- a column that is in no sum of those before is a pivot column
pub new_is_pivot : (rows : ℕ) (cs : List (List ℕ)) (j : ℕ) → AllAscend rows cs → j ≤ length cs
    → (InSpan (first_columns (column_test cs) j) (column_test cs j) → ⊥) → is_pivot rows cs j ≡ true
new_is_pivot rows cs j a l out =
    let s = same_first cs j l in
    not_from_false (is_sum_of_part rows (take j cs) (column_at cs j)) (false_from_ne_true (is_sum_of_part rows (take j cs) (column_at cs j))
    (λ q. out (span_within (first_columns (column_test cs) j) (tests (take j cs)) (column_test cs j) s.there
    (sum_of_part_in_span rows (take j cs) (column_at cs j) (take_ascends rows cs j a) q))))

-- and another isn't
pub old_is_no_pivot : (rows : ℕ) (cs : List (List ℕ)) (j : ℕ) → AllAscend rows cs → j ≤ length cs
    → InSpan (first_columns (column_test cs) j) (column_test cs j) → is_pivot rows cs j ≡ false
old_is_no_pivot rows cs j a l i = false_from_ne_true (is_pivot rows cs j) (λ h. pivot_is_new rows cs j a l h i)

-- the greatest is at most what all are at most
greatest_le : (xs : List ℕ) (r : ℕ) → ((x : ℕ) → Mem x xs → x ≤ r) → greatest xs ≤ r
greatest_le [] r h = omega arith
greatest_le (x ∷ xs) r h = omega (arith, h x (inl refl), greatest_le xs r (λ y m. h y (inr m)))

-- and at least each of them
greatest_ge : (xs : List ℕ) (r : ℕ) → Mem r xs → r ≤ greatest xs
greatest_ge [] r m = absurd m
greatest_ge (x ∷ xs) r (inl e) = omega arith
greatest_ge (x ∷ xs) r (inr m) = omega (arith, greatest_ge xs r m)

-- the first number of an ascending list is its least row
pub first_is_least : (rows x : ℕ) (xs : List ℕ) → Ascends 0 rows (x ∷ xs) → IsLeast (has (x ∷ xs)) x
first_is_least rows x xs a = record {
  on = rw (eq-eqb x x refl) refl;
  below = λ k l. ascends_low (x ∷ xs) x rows k (omega arith, a.1, a.2) l;
}

-- the least row is one
pub one_least : (v : Rows) (r q : ℕ) → IsLeast v r → IsLeast v q → r ≡ q
one_least v r q l m = elim (cases_lt r q) [
  | inl h ↦ absurd (true≢false (sym l.on ∙ m.below r h))
  | inr h ↦ elim (cases_lt q r) [
    | inl k ↦ absurd (true≢false (sym m.on ∙ l.below q k))
    | inr k ↦ omega arith
  ]
]

-- it is the first of an ascending list
least_row_is : (rows : ℕ) (c : List ℕ) (r : ℕ) → Ascends 0 rows c → IsLeast (has c) r → least_row rows c ≡ r
least_row_is rows [] r a l = absurd (false≢true l.on)
least_row_is rows (x ∷ xs) r a l = one_least (has (x ∷ xs)) x r (first_is_least rows x xs a) l

-- the row of a pivot column, by the parts of a list, is the row of IsPivot
pub pivot_row_is : (rows : ℕ) (cs : List (List ℕ)) (j r : ℕ) → AllAscend rows cs → j ≤ length cs
    → IsPivot (column_test cs j) (first_columns (column_test cs) j) r → pivot_row rows cs j ≡ r
pivot_row_is rows cs j r a l p = omega (arith, upper, lower)
  where
    both : (s : List (List ℕ)) → Mem s (parts (take j cs)) → AllAscend rows (column_at cs j ∷ s)
    both s m = (column_ascends rows cs j a, part_ascends rows s (take j cs) m (take_ascends rows cs j a))

    test_is : (s : List (List ℕ)) → Mem s (parts (take j cs)) → has (sum_of rows (column_at cs j ∷ s)) ≡ plus (column_test cs j) (sum_up (tests s))
    test_is s m = sum_of_is rows (column_at cs j ∷ s) (both s m)

    into_first : (v : Rows) → InSpan (tests (take j cs)) v → InSpan (first_columns (column_test cs) j) v
    into_first v i = span_within (first_columns (column_test cs) j) (tests (take j cs)) v (same_first cs j l).there i

    at_most : (s : List (List ℕ)) → Mem s (parts (take j cs)) → (c : List ℕ) → sum_of rows (column_at cs j ∷ s) ≡ c → least_row rows c ≤ r
    at_most s m [] e = absurd (p.new (subst (λ (w : Rows). InSpan (first_columns (column_test cs) j) w)
        (sym (same_from_plus (column_test cs j) (sum_up (tests s)) (sym (test_is s m) ∙ ap has e)))
        (into_first (sum_up (tests s)) (part_in_span s (take j cs) m))))
    at_most s m (x ∷ xs) e =
        let asc : Ascends 0 rows (x ∷ xs) = subst (λ w. Ascends 0 rows w) e (sum_of_ascends rows (column_at cs j ∷ s)) in
        let q : plus (has (x ∷ xs)) (column_test cs j) ≡ sum_up (tests s) =
        ap (λ (w : Rows). plus w (column_test cs j)) (sym (ap has e) ∙ (test_is s m ∙ plus_comm (column_test cs j) (sum_up (tests s)))) ∙ plus_twice (sum_up (tests s)) (column_test cs j) in
        p.greatest (has (x ∷ xs)) x (rw q (into_first (sum_up (tests s)) (part_in_span s (take j cs) m))) (first_is_least rows x xs asc)

    upper : pivot_row rows cs j ≤ r
    upper = greatest_le _ r (λ x m.
        let (s, k, e) = mem_map (λ s. least_row rows (sum_of rows (column_at cs j ∷ s))) x (parts (take j cs)) m in
        rw e (at_most s k (sum_of rows (column_at cs j ∷ s)) refl))

    lower : r ≤ pivot_row rows cs j
    lower =
        let (s, m, e) = span_has_part (take j cs) (plus p.sum (column_test cs j)) (span_within (tests (take j cs)) (first_columns (column_test cs) j) _ (same_first cs j l).back p.made) in
        let q : has (sum_of rows (column_at cs j ∷ s)) ≡ p.sum =
        test_is s m ∙ (plus_comm (column_test cs j) (sum_up (tests s)) ∙ (ap (λ (w : Rows). plus w (column_test cs j)) (sym e) ∙ plus_twice p.sum (column_test cs j))) in
        let h : least_row rows (sum_of rows (column_at cs j ∷ s)) ≡ r = least_row_is rows (sum_of rows (column_at cs j ∷ s)) r (sum_of_ascends rows (column_at cs j ∷ s)) (rw q p.least) in
        greatest_ge _ r (subst (λ w. Mem w (map (λ s. least_row rows (sum_of rows (column_at cs j ∷ s))) (parts (take j cs)))) h
        (mem_map_in (λ s. least_row rows (sum_of rows (column_at cs j ∷ s))) s (parts (take j cs)) m))
