-- Sums of numbered columns by a test of the numbers, and uniqueness of the test where its members are new columns.
use Rattle.std.proofs.Common.{◌≡◌, ℕ, zero, suc, ◌+◌, ◌-◌, ◌<◌, ◌≤◌, Bool, true, false, List, [], ◌∷◌, refl, sym, ◌∙◌, ap, subst, arith, inl, inr}
use Rattle.std.proofs.lemmas.Bool.{cases_eq, eq-eqb, ne_eqb}
use Rattle.mod2_rank.specs.Rows.{differ, Rows, none, plus, only, taken, total}
use Rattle.mod2_rank.proofs.Vectors.{plus_twice, plus_none, plus_itself, plus_comm, plus_middle, differ_false}
use Rattle.mod2_rank.proofs.Spans.{InSpan, InSpan-plus}

-- the columns below n, the last one first
abbrev pub first_columns : (ℕ → Rows) → ℕ → List Rows
first_columns col zero = []
first_columns col (suc n) = col n ∷ first_columns col n

-- a column taken exactly one of two times
taken_plus : (a b : Bool) (v : Rows) → taken (differ a b) v ≡ plus (taken a v) (taken b v)
taken_plus true true v = sym (plus_itself v)
taken_plus true false v = sym (plus_none v)
taken_plus false b v = refl

-- the total is additive in the set of numbers
pub total_plus : (col : ℕ → Rows) (x y : Rows) (n : ℕ) → total col (plus x y) n ≡ plus (total col x n) (total col y n)
total_plus col x y zero = refl
total_plus col x y (suc n) =
    rw (total_plus col x y n, taken_plus (x n) (y n) (col n))
    (plus_middle (total col x n) (total col y n) (taken (x n) (col n)) (taken (y n) (col n)))

-- no column, no total
pub total_none : (col : ℕ → Rows) (n : ℕ) → total col none n ≡ none
total_none col zero = refl
total_none col (suc n) = rw (total_none col n) refl

-- tests that agree below n have one sum
pub total_same : (col : ℕ → Rows) (x y : Rows) (n : ℕ) → ((j : ℕ) → j < n → x j ≡ y j) → total col x n ≡ total col y n
total_same col x y zero h = refl
total_same col x y (suc n) h = rw (total_same col x y n (λ j l. h j (omega arith)), h n (omega arith)) refl

-- members at n and later add nothing
pub total_longer : (col : ℕ → Rows) (x : Rows) (n k : ℕ) → ((j : ℕ) → n ≤ j → x j ≡ false) → total col x (k + n) ≡ total col x n
total_longer col x n zero h = ap (total col x) (let e : 0 + n ≡ n = omega arith in e)
total_longer col x n (suc k) h =
    let e : suc k + n ≡ suc (k + n) = omega arith in
    rw (e, total_longer col x n k h, h (k + n) (omega arith)) (plus_none (total col x n))

-- numbers that aren't in add nothing
pub total_upto : (col : ℕ → Rows) (x : Rows) (n m : ℕ) → n ≤ m → ((j : ℕ) → n ≤ j → x j ≡ false) → total col x m ≡ total col x n
total_upto col x n m l h = let e : (m - n) + n ≡ m = omega arith in subst (λ (w : ℕ). total col x w ≡ total col x n) e (total_longer col x n (m - n) h)

-- one number has its column as total
pub total_only : (col : ℕ → Rows) (j n : ℕ) → j < n → total col (only j) n ≡ col j
total_only col j zero l = absurd (omega arith)
total_only col j (suc n) l = elim (cases_eq n j) [
  | inl e ↦ rw (eq-eqb n j e, total_same col (only j) none n (λ k lk. ne_eqb k j (λ q. omega arith)), total_none col n) (ap col e)
  | inr ne ↦ rw (ne_eqb n j ne, total_only col j n (omega arith)) (plus_none (col j))
]

-- each such sum is in the span of the columns below n
pub total_in_span : (col : ℕ → Rows) (x : Rows) (n : ℕ) → InSpan (first_columns col n) (total col x n)
total_in_span col x zero = refl
total_in_span col x (suc n) = go (x n) (total_in_span col x n)
  where
    go : (b : Bool) → InSpan (first_columns col n) (total col x n) → InSpan (col n ∷ first_columns col n) (plus (total col x n) (taken b (col n)))
    go true i = inr (rw (plus_twice (total col x n) (col n)) i)
    go false i = inl (rw (plus_none (total col x n)) i)

-- one more column
pub total_with : (col : ℕ → Rows) (x : Rows) (n : ℕ) → ((j : ℕ) → n ≤ j → x j ≡ false) → total col (plus x (only n)) (suc n) ≡ plus (total col x n) (col n)
total_with col x n h =
    rw (h n (omega arith), eq-eqb n n refl, total_same col (plus x (only n)) x n (λ j l. rw (ne_eqb j n (λ q. omega arith)) (differ_false (x j)))) refl

-- and each member of the span is such a sum, with members below n only
pub span_is_total : (col : ℕ → Rows) (n : ℕ) (v : Rows) → InSpan (first_columns col n) v
    → (x : Rows) × (v ≡ total col x n) × ((j : ℕ) → n ≤ j → x j ≡ false)
span_is_total col zero v i = (none, i, λ j l. refl)
span_is_total col (suc n) v (inl i) =
    let (x, e, h) = span_is_total col n v i in
    (x, rw (h n (omega arith)) (e ∙ sym (plus_none (total col x n))), λ j l. h j (omega arith))
span_is_total col (suc n) v (inr i) =
    let (x, e, h) = span_is_total col n (plus v (col n)) i in (
      plus x (only n),
      (sym (plus_twice v (col n)) ∙ ap (λ (w : Rows). plus w (col n)) e) ∙ sym (total_with col x n h),
      λ j l. rw (h j (omega arith), ne_eqb j n (λ q. omega arith)) refl,
    )

-- the tests have only new columns as members: columns that are no sum of those before
abbrev pub OnNew : (ℕ → Rows) → Rows → ℕ → Type 0
OnNew col x n = (j : ℕ) → j < n → x j ≡ true → InSpan (first_columns col j) (col j) → ⊥

-- equal sums with one column come from equal columns
cancel : (u v c : Rows) → plus u c ≡ plus v c → u ≡ v
cancel u v c e = sym (plus_twice u c) ∙ (ap (λ (w : Rows). plus w c) e ∙ plus_twice v c)

-- a column that makes the difference of two sums is in their span
difference : (b : List Rows) (u v c : Rows) → InSpan b u → InSpan b v → plus u c ≡ plus v none → InSpan b c
difference b u v c i k e =
    let q : plus v u ≡ c = ap (λ (w : Rows). plus w u) (sym (plus_none v) ∙ sym e) ∙ (ap (λ (w : Rows). plus w u) (plus_comm u c) ∙ plus_twice c u) in
    rw q at (InSpan-plus b v u k i)

-- two tests of new columns with one sum agree
pub unique_total : (col : ℕ → Rows) (x y : Rows) (n : ℕ) → OnNew col x n → OnNew col y n
    → total col x n ≡ total col y n → (j : ℕ) → j < n → x j ≡ y j
unique_total col x y zero f g e j l = absurd (omega arith)
unique_total col x y (suc n) f g e j l = go (x n) (y n) refl refl e (λ q. unique_total col x y n (λ i k. f i (omega arith)) (λ i k. g i (omega arith)) q)
  where
    at : x n ≡ y n → ((i : ℕ) → i < n → x i ≡ y i) → x j ≡ y j
    at p ih = elim (cases_eq j n) [ inl q ↦ rw q p | inr q ↦ ih j (omega arith) ]

    go : (a b : Bool) → x n ≡ a → y n ≡ b → plus (total col x n) (taken a (col n)) ≡ plus (total col y n) (taken b (col n))
        → (total col x n ≡ total col y n → (i : ℕ) → i < n → x i ≡ y i) → x j ≡ y j
    go true true p q h ih = at (p ∙ sym q) (ih (cancel _ _ (col n) h))
    go false false p q h ih = at (p ∙ sym q) (ih (cancel _ _ none h))
    go true false p q h ih = absurd (f n (omega arith) p (difference _ _ _ (col n) (total_in_span col x n) (total_in_span col y n) h))
    go false true p q h ih = absurd (g n (omega arith) q (difference _ _ _ (col n) (total_in_span col y n) (total_in_span col x n) (sym h)))
