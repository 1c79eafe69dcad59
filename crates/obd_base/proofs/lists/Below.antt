-- The numbers below a number: which pass a test, and how many.
use Rattle.std.proofs.Common.{List, add-zero, add_assoc, eqb, not, ◌≡◌, ℕ, zero, suc, ◌+◌, ◌<◌, ◌≤◌, Bool, true, false, cond, [], ◌∷◌, ◌++◌, map, length, get_or, filter, count_by, refl, sym, ◌∙◌, ap, subst, arith, zero-add, inl, inr}
use Rattle.std.specs.List.{list_all, position_or_len, range_with_len}
use Rattle.std.proofs.lemmas.Bool.{cases_Bool, eqb-true, or_cases, false≢true, cases_lt, cases_eq}
use Rattle.std.proofs.lemmas.List.{get_or_append_left, get_or_push, length-map}
use Rattle.std.proofs.lemmas.List.Sums.{AllPass-from_list_all, sum_by_push, length-filter}
use Rattle.std.proofs.lemmas.List.FromFn.{length-range_with_len, get_or-range_with_len}
use Rattle.std.proofs.lemmas.List.Elements.{filter-append}
use Rattle.obd_base.specs.Lists.{has, below, Mem, Once}
use Rattle.obd_base.proofs.lists.Members.{no_longer, mem_filter, filter_mem, once_filter, mem_map, once_map}

-- a range ends with its last number
pub range_push : (a n : ℕ) → range_with_len a (suc n) ≡ range_with_len a n ++ ((a + n) ∷ [])
range_push a zero = let z : a + 0 ≡ a = omega arith in rw z refl
range_push a (suc n) =
    let r = range_push (a + 1) n in
    let z : a + 1 + n ≡ a + suc n = omega arith in
    ap (λ xs. a ∷ xs) (rw z at r)

-- one more number
pub below_push : (n : ℕ) → below (suc n) ≡ below n ++ (n ∷ [])
below_push n = range_push 0 n ∙ ap (λ (k : ℕ). below n ++ (k ∷ [])) (zero-add n)

-- a member of a range lies in it
pub mem_range : (a n x : ℕ) → Mem x (range_with_len a n) → (a ≤ x) × (x < a + n)
mem_range a zero x m = absurd m
mem_range a (suc n) x (inl e) = (omega arith, omega arith)
mem_range a (suc n) x (inr m) = let r = mem_range (a + 1) n x m in (omega arith, omega arith)

-- what lies in a range is a member
pub range_mem : (a n x : ℕ) → a ≤ x → x < a + n → Mem x (range_with_len a n)
range_mem a zero x l h = absurd (omega arith)
range_mem a (suc n) x l h = elim (cases_eq x a) [ inl e ↦ inl e | inr ne ↦ inr (range_mem (a + 1) n x (omega arith) (omega arith)) ]

-- a range repeats no number
pub once_range : (a n : ℕ) → Once (range_with_len a n)
once_range a zero = tt
once_range a (suc n) = ((λ m. absurd (omega (arith, (mem_range (a + 1) n a m).0))), once_range (a + 1) n)

-- a member of the numbers below n is below n
pub mem_below : (n x : ℕ) → Mem x (below n) → x < n
mem_below n x m = omega (arith, (mem_range 0 n x m).1)

-- and what is below n is a member
pub below_mem : (n x : ℕ) → x < n → Mem x (below n)
below_mem n x l = range_mem 0 n x (omega arith) (omega arith)

-- 1 for a test that passes
abbrev pub bit : Bool → ℕ
bit b = cond b 1 0

module _ (p : ℕ → Bool) where
  -- how many pass, with one number more
  pub count_suc : (m : ℕ) → count_by p (below (suc m)) ≡ count_by p (below m) + bit (p m)
  count_suc m = ap (count_by p) (below_push m) ∙ sum_by_push (λ x. bit (p x)) (below m) m

  -- more numbers, no fewer that pass
  pub count_more : (a b : ℕ) → a ≤ b → count_by p (below a) ≤ count_by p (below b)
  count_more a zero l = let e : a ≡ 0 = omega arith in rw e (omega arith)
  count_more a (suc b) l = elim (cases_eq a (suc b)) [
    | inl e ↦ rw e (omega arith)
    | inr ne ↦ omega (arith, count_suc b, count_more a b (omega arith))
  ]

  -- a number that passes is counted from the next number on
  pub count_less : (a b : ℕ) → p a ≡ true → a < b → count_by p (below a) < count_by p (below b)
  count_less a b t l =
      let z : bit (p a) ≡ 1 = ap bit t in
      omega (arith, count_suc a, z, count_more (suc a) b l)

  -- of two numbers that pass, the one with fewer before it is less
  pub less_of_count : (a b : ℕ) → p b ≡ true → count_by p (below a) < count_by p (below b) → a < b
  less_of_count a b t l = elim (cases_lt a b) [ inl h ↦ h | inr h ↦ absurd (omega (arith, count_more b a h)) ]

  -- two numbers that pass, with as many before them, are one
  pub same_of_count : (a b : ℕ) → p a ≡ true → p b ≡ true → count_by p (below a) ≡ count_by p (below b) → a ≡ b
  same_of_count a b s t e = elim (cases_lt a b) [
    | inl h ↦ absurd (omega (arith, count_less a b s h))
    | inr h ↦ elim (cases_eq a b) [ inl q ↦ q | inr ne ↦ absurd (omega (arith, count_less b a t (omega arith))) ]
  ]

  -- what passes, with one number more
  pub filter_suc : (m : ℕ) → filter p (below (suc m)) ≡ filter p (below m) ++ cond (p m) (m ∷ []) []
  filter_suc m = ap (filter p) (below_push m) ∙ filter-append p (below m) (m ∷ [])

  -- a number that passes stands, among those that do, where as many stand before it
  pub passing_at : (n f d : ℕ) → f < n → p f ≡ true → get_or (filter p (below n)) (count_by p (below f)) d ≡ f
  passing_at zero f d l t = absurd (omega arith)
  passing_at (suc n) f d l t = elim (cases_eq f n) [
    | inl e ↦ rw (filter_suc n, ← e, t) (get_or_push (filter p (below f)) f d (count_by p (below f)) (length-filter p (below f)))
    | inr ne ↦
        let h : f < n = omega arith in
        let k : count_by p (below f) < length (filter p (below n)) = omega (arith, length-filter p (below n), count_less f n t h) in
        rw (filter_suc n) (get_or_append_left (filter p (below n)) _ d (count_by p (below f)) k ∙ passing_at n f d h t)
  ]

  -- each place among those that pass is the place of one
  pub passing_of : (n a : ℕ) → a < count_by p (below n) → (f : ℕ) × (f < n) × (p f ≡ true) × (count_by p (below f) ≡ a)
  passing_of zero a l = absurd (omega arith)
  passing_of (suc n) a l = elim (cases_lt a (count_by p (below n))) [
    | inl h ↦ let (f, k, t, e) = passing_of n a h in (f, omega arith, t, e)
    | inr h ↦ (n, omega arith, passes (p n) refl h, omega (arith, count_suc n, small (p n)))
  ]
    where
      small : (b : Bool) → bit b ≤ 1
      small true = omega arith
      small false = omega arith

      passes : (b : Bool) → p n ≡ b → count_by p (below n) ≤ a → p n ≡ true
      passes true e h = e
      passes false e h = let z : bit (p n) ≡ 0 = ap bit e in absurd (omega (arith, count_suc n, z))

-- where a map that tells numbers apart leads from those that pass p to those that pass q, no more pass p
pub no_more_pass : (p q : ℕ → Bool) (f : ℕ → ℕ) (n : ℕ) → ((x y : ℕ) → f x ≡ f y → x ≡ y)
    → ((x : ℕ) → x < n → p x ≡ true → f x < n) → ((x : ℕ) → x < n → p x ≡ true → q (f x) ≡ true)
    → count_by p (below n) ≤ count_by q (below n)
no_more_pass p q f n apart in_range passes =
    omega (arith, fits, length-map (filter p (below n)) f, length-filter p (below n), length-filter q (below n))
  where
    leads : (z : ℕ) → Mem z (map f (filter p (below n))) → Mem z (filter q (below n))
    leads z m =
        let (x, k, e) = mem_map f z (filter p (below n)) m in
        let (i, t) = mem_filter p x (below n) k in
        let l : x < n = omega (arith, (mem_range 0 n x i).1) in
        subst (λ w. Mem w (filter q (below n))) (sym e) (filter_mem q (f x) (below n) (range_mem 0 n (f x) (omega arith) (omega (arith, in_range x l t))) (passes x l t))

    fits : length (map f (filter p (below n))) ≤ length (filter q (below n))
    fits = no_longer (map f (filter p (below n))) (filter q (below n)) (once_map f apart (filter p (below n)) (once_filter p (below n) (once_range 0 n))) leads

-- a test that passes at each number below a bound
pub all_below : (p : ℕ → Bool) (n : ℕ) → list_all p (below n) ≡ true → (k : ℕ) → k < n → p k ≡ true
all_below p n h k l =
    let at = AllPass-from_list_all p (below n) h k 0 (rw length-range_with_len l) in
    let e : get_or (below n) k 0 ≡ k = get_or-range_with_len 0 n k 0 l ∙ zero-add k in
    rw e at at

-- what a filter keeps, as a test
pub has_filter : (p : ℕ → Bool) (xs : List ℕ) (s : ℕ) → has (filter p xs) s ≡ true → (p s ≡ true) × (has xs s ≡ true)
has_filter p [] s h = absurd (false≢true h)
has_filter p (x ∷ xs) s h = go (p x) refl (has_filter p xs s)
  where
    go : (b : Bool) → p x ≡ b → (has (filter p xs) s ≡ true → (p s ≡ true) × (has xs s ≡ true)) → (p s ≡ true) × (has (x ∷ xs) s ≡ true)
    go true e ih = elim (cases_Bool (eqb s x)) [
      | inl q ↦ (rw (eqb-true s x q) e, rw q)
      | inr q ↦ let h' : has (x ∷ filter p xs) s ≡ true = rw e at h in let r = ih (rw q at h') in (r.0, rw (q, r.1))
    ]
    go false e ih = let r = ih (rw e at h) in (r.0, elim (cases_Bool (eqb s x)) [ inl q ↦ rw q | inr q ↦ rw (q, r.1) ])

-- what a range holds, as a test
pub has_range : (a n s : ℕ) → has (range_with_len a n) s ≡ true → (a ≤ s) × (s < a + n)
has_range a zero s h = absurd (false≢true h)
has_range a (suc n) s h = elim (or_cases (eqb s a) _ h) [
  | inl q ↦ let e : s ≡ a = eqb-true s a q in omega arith
  | inr q ↦ let r = has_range (a + 1) n s q in omega (arith, r)
]

-- the first span that passes a test does pass it
pub first_passes : (p : ℕ → Bool) (a n s : ℕ) → a ≤ s → s < a + n → p s ≡ true → p (a + position_or_len p (range_with_len a n)) ≡ true
first_passes p a zero s l h q = absurd (omega arith)
first_passes p a (suc n) s l h q = go (p a) refl (first_passes p (a + 1) n s)
  where
    go : (b : Bool) → p a ≡ b → (a + 1 ≤ s → s < (a + 1) + n → p s ≡ true → p ((a + 1) + position_or_len p (range_with_len (a + 1) n)) ≡ true)
        → p (a + cond (not b) (1 + position_or_len p (range_with_len (a + 1) n)) 0) ≡ true
    go true e ih = rw (add-zero) e
    go false e ih = rw (← add_assoc a 1 (position_or_len p (range_with_len (a + 1) n))) (ih (ne s l q e) (omega arith) q)
      where
        ne : (s : ℕ) → a ≤ s → p s ≡ true → p a ≡ false → a + 1 ≤ s
        ne s l q e = elim (cases_eq a s) [ inl i ↦ absurd (false≢true (sym e ∙ (ap p i ∙ q))) | inr i ↦ omega arith ]
