-- Ascending lists and their tests: what a filter of a range is, and that the test fixes the list.
use Rattle.std.proofs.Common.{◌≡◌, ℕ, zero, suc, ◌+◌, ◌<◌, ◌≤◌, Bool, true, false, cond, eqb, ◌||◌, List, [], ◌∷◌, refl, sym, ◌∙◌, ap, subst, arith, inl, inr, ◌≢◌, filter}
use Rattle.std.specs.List.{range_with_len, count_by}
use Rattle.std.proofs.lemmas.Bool.{cases_eq, cases_order, cases_lt, eq-eqb, ne_eqb, false≢true, true≢false}
use Rattle.std.proofs.lemmas.List.Sums.{sum_by-cons}
use Rattle.mod2_rank.specs.Rows.{differ, Rows, none, plus}
use Rattle.obd_base.specs.Lists.{is_odd, has}
use Rattle.mod2_rank.specs.Linear.{sum_of, Ascends}
use Rattle.mod2_rank.specs.Ascending.{AllAscend}
use mathlib.Core.Path.{fun_ext}

-- no number below the first bound is in
pub ascends_low : (xs : List ℕ) (low high k : ℕ) → Ascends low high xs → k < low → has xs k ≡ false
ascends_low [] low high k a l = refl
ascends_low (x ∷ xs) low high k a l = rw (ne_eqb k x (λ e. omega arith), ascends_low xs (suc x) high k a.2 (omega arith)) refl

-- nor one from the second bound on
pub ascends_high : (xs : List ℕ) (low high k : ℕ) → Ascends low high xs → high ≤ k → has xs k ≡ false
ascends_high [] low high k a l = refl
ascends_high (x ∷ xs) low high k a l = rw (ne_eqb k x (λ e. omega arith), ascends_high xs (suc x) high k a.2 l) refl

-- the bounds may be taken wider
pub ascends_wider : (xs : List ℕ) (low high l h : ℕ) → Ascends low high xs → l ≤ low → high ≤ h → Ascends l h xs
ascends_wider [] low high l h a u v = tt
ascends_wider (x ∷ xs) low high l h a u v = (omega arith, omega arith, ascends_wider xs (suc x) high (suc x) h a.2 (omega arith) v)

-- a member lies between the bounds
pub ascends_between : (xs : List ℕ) (low high k : ℕ) → Ascends low high xs → has xs k ≡ true → (low ≤ k) × (k < high)
ascends_between xs low high k a h = (
  elim (cases_lt k low) [ inl l ↦ absurd (false≢true (sym (ascends_low xs low high k a l) ∙ h)) | inr l ↦ l ],
  elim (cases_lt k high) [ inl l ↦ l | inr l ↦ absurd (false≢true (sym (ascends_high xs low high k a l) ∙ h)) ],
)

-- a filter of a range ascends
pub filter_ascends : (p : ℕ → Bool) (a n : ℕ) → Ascends a (a + n) (filter p (range_with_len a n))
filter_ascends p a zero = tt
filter_ascends p a (suc n) = go (p a) (ascends_wider (filter p (range_with_len (a + 1) n)) (a + 1) (a + 1 + n) (suc a) (a + suc n) (filter_ascends p (a + 1) n) (omega arith) (omega arith))
  where
    go : (b : Bool) → Ascends (suc a) (a + suc n) (filter p (range_with_len (a + 1) n)) → Ascends a (a + suc n) (cond b (a ∷ filter p (range_with_len (a + 1) n)) (filter p (range_with_len (a + 1) n)))
    go true ih = (omega arith, omega arith, ih)
    go false ih = ascends_wider (filter p (range_with_len (a + 1) n)) (suc a) (a + suc n) a (a + suc n) ih (omega arith) (omega arith)

-- it has the numbers that pass
pub has_filter : (p : ℕ → Bool) (a n k : ℕ) → a ≤ k → k < a + n → has (filter p (range_with_len a n)) k ≡ p k
has_filter p a zero k l h = absurd (omega arith)
has_filter p a (suc n) k l h = elim (cases_eq k a) [
  | inl e ↦ rw e (first (p a) (ascends_low (filter p (range_with_len (a + 1) n)) (a + 1) (a + 1 + n) a (filter_ascends p (a + 1) n) (omega arith)))
  | inr ne ↦ later (p a) ne (has_filter p (a + 1) n k (omega arith) (omega arith))
]
  where
    first : (b : Bool) → has (filter p (range_with_len (a + 1) n)) a ≡ false → has (cond b (a ∷ filter p (range_with_len (a + 1) n)) (filter p (range_with_len (a + 1) n))) a ≡ b
    first true h = rw (eq-eqb a a refl) refl
    first false h = h

    later : (b : Bool) → (k ≢ a) → has (filter p (range_with_len (a + 1) n)) k ≡ p k → has (cond b (a ∷ filter p (range_with_len (a + 1) n)) (filter p (range_with_len (a + 1) n))) k ≡ p k
    later true ne h = rw (ne_eqb k a ne) h
    later false ne h = h

-- where the test vanishes from the bound on, the filter of all numbers below has the same test
pub has_below : (p : ℕ → Bool) (n : ℕ) → ((k : ℕ) → n ≤ k → p k ≡ false) → has (filter p (range_with_len 0 n)) ≡ p
has_below p n h = fun_ext (λ k. elim (cases_lt k n) [
  | inl l ↦ has_filter p 0 n k (omega arith) (omega arith)
  | inr l ↦ ascends_high (filter p (range_with_len 0 n)) 0 n k (below_ascends) l ∙ sym (h k l)
])
  where
    below_ascends : Ascends 0 n (filter p (range_with_len 0 n))
    below_ascends = ascends_wider (filter p (range_with_len 0 n)) 0 (0 + n) 0 n (filter_ascends p 0 n) (omega arith) (omega arith)

-- a filter of the numbers below n ascends
pub below_ascends : (p : ℕ → Bool) (n : ℕ) → Ascends 0 n (filter p (range_with_len 0 n))
below_ascends p n = ascends_wider (filter p (range_with_len 0 n)) 0 (0 + n) 0 n (filter_ascends p 0 n) (omega arith) (omega arith)

-- the test fixes an ascending list
pub same_ascending : (xs ys : List ℕ) (low high : ℕ) → Ascends low high xs → Ascends low high ys → ((k : ℕ) → has xs k ≡ has ys k) → xs ≡ ys
same_ascending [] [] low high a b h = refl
same_ascending [] (y ∷ ys) low high a b h = absurd (false≢true (h y ∙ first))
  where
    first : (eqb y y || has ys y) ≡ true
    first = rw (eq-eqb y y refl) refl
same_ascending (x ∷ xs) [] low high a b h = absurd (false≢true (sym (h x) ∙ first))
  where
    first : (eqb x x || has xs x) ≡ true
    first = rw (eq-eqb x x refl) refl
same_ascending (x ∷ xs) (y ∷ ys) low high a b h = elim (cases_order x y) [
  | inl e ↦
      let rest : xs ≡ ys = same_ascending xs ys (suc x) high a.2 (subst (λ w. Ascends (suc w) high ys) (sym e) b.2) (λ k. tail k e) in
      rw (e, rest) refl
  | inr o ↦ elim o [
    | inl lt ↦ absurd (true≢false (sym (top x xs) ∙ (h x ∙ ascends_low (y ∷ ys) y high x (omega arith, b.1, b.2) lt)))
    | inr gt ↦ absurd (true≢false (sym (top y ys) ∙ (sym (h y) ∙ ascends_low (x ∷ xs) x high y (omega arith, a.1, a.2) gt)))
  ]
]
  where
    top : (z : ℕ) (zs : List ℕ) → has (z ∷ zs) z ≡ true
    top z zs = rw (eq-eqb z z refl) refl

    tail : (k : ℕ) → x ≡ y → has xs k ≡ has ys k
    tail k e = elim (cases_eq k x) [
      | inl q ↦ ascends_low xs (suc x) high k a.2 (omega arith) ∙ sym (ascends_low ys (suc y) high k b.2 (omega arith))
      | inr ne ↦
          let left : has (x ∷ xs) k ≡ has xs k = rw (ne_eqb k x ne) refl in
          let right : has (y ∷ ys) k ≡ has ys k = rw (ne_eqb k y (λ q. ne (q ∙ sym e))) refl in
          sym left ∙ (h k ∙ right)
    ]

-- the sum of columns as a test
abbrev pub sum_up : List Rows → Rows
sum_up [] = none
sum_up (c ∷ cs) = plus c (sum_up cs)

-- columns as tests
abbrev pub tests : List (List ℕ) → List Rows
tests [] = []
tests (c ∷ cs) = has c ∷ tests cs

-- a row stands in an odd number of columns exactly where their sum has it
pub odd_count : (cs : List (List ℕ)) (r : ℕ) → is_odd (count_by (λ c. has c r) cs) ≡ sum_up (tests cs) r
odd_count [] r = refl
odd_count (c ∷ cs) r = ap is_odd (sum_by-cons (λ c. cond (has c r) 1 0) c cs) ∙ (step (has c r) ∙ ap (differ (has c r)) (odd_count cs r))
  where
    step : (b : Bool) → is_odd (cond {A = ℕ} b 1 0 + count_by (λ c. has c r) cs) ≡ differ b (is_odd (count_by (λ c. has c r) cs))
    step true = let e : 1 + count_by (λ c. has c r) cs ≡ suc (count_by (λ c. has c r) cs) = omega arith in rw e refl
    step false = let e : 0 + count_by (λ c. has c r) cs ≡ count_by (λ c. has c r) cs = omega arith in rw e refl

-- the sum has no row past the bound
pub sum_high : (rows : ℕ) (cs : List (List ℕ)) (k : ℕ) → AllAscend rows cs → rows ≤ k → sum_up (tests cs) k ≡ false
sum_high rows [] k a l = refl
sum_high rows (c ∷ cs) k a l = rw (ascends_high c 0 rows k a.0 l, sum_high rows cs k a.1 l) refl

-- the sum of columns is the sum of the tests
pub sum_of_is : (rows : ℕ) (cs : List (List ℕ)) → AllAscend rows cs → has (sum_of rows cs) ≡ sum_up (tests cs)
sum_of_is rows cs a =
    has_below (λ r. is_odd (count_by (λ c. has c r) cs)) rows (λ k l. odd_count cs k ∙ sum_high rows cs k a l)
    ∙ fun_ext (λ r. odd_count cs r)

-- the sum as a list ascends
pub sum_of_ascends : (rows : ℕ) (cs : List (List ℕ)) → Ascends 0 rows (sum_of rows cs)
sum_of_ascends rows cs = below_ascends (λ r. is_odd (count_by (λ c. has c r) cs)) rows
