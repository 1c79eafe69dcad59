-- A list in which one item passes a test: that item taken out, changed, or alone.
use Rattle.std.proofs.Common.{◌≡◌, ℕ, zero, suc, ◌+◌, ◌<◌, ◌≤◌, Bool, true, false, cond, not, List, [], ◌∷◌, map, length, get_or, set, refl, sym, ap, ◌∙◌, ◌⊎◌, inl, inr, ◌≢◌, arith}
use Rattle.std.specs.List.{count_by, filter, position_or_len, remove, sum_by}
use Rattle.std.proofs.lemmas.Bool.{cases_Bool}
use Rattle.std.proofs.lemmas.List.Sums.{sum_by-cons}
use Rattle.obd_base.specs.Lists.{Mem}
use Rattle.obd_base.proofs.lists.Below.{bit}
use Rattle.arc_basis.proofs.Places.{mem_at}

-- a sum without an item
pub sum_removed : {X : Type 0} (f : X → ℕ) (xs : List X) (i : ℕ) (d : X) → i < length xs → sum_by f (remove xs i) + f (get_or xs i d) ≡ sum_by f xs
sum_removed f [] i d l = absurd (omega arith)
sum_removed f (x ∷ xs) zero d l = omega (arith, sum_by-cons f x xs)
sum_removed f (x ∷ xs) (suc i) d l = omega (arith, sum_by-cons f x xs, sum_by-cons f x (remove xs i), sum_removed f xs i d (omega arith))

pub map_removed : {X Y : Type 0} (f : X → Y) (xs : List X) (i : ℕ) → map f (remove xs i) ≡ remove (map f xs) i
map_removed f [] zero = refl
map_removed f [] (suc i) = refl
map_removed f (x ∷ xs) zero = refl
map_removed f (x ∷ xs) (suc i) = ap (λ ys. f x ∷ ys) (map_removed f xs i)

-- members of a list without an item
pub mem_removed : {X : Type 0} (z : X) (xs : List X) (i : ℕ) → Mem z (remove xs i) → Mem z xs
mem_removed z [] zero m = m
mem_removed z [] (suc i) m = m
mem_removed z (x ∷ xs) zero m = inr m
mem_removed z (x ∷ xs) (suc i) (inl e) = inl e
mem_removed z (x ∷ xs) (suc i) (inr m) = inr (mem_removed z xs i m)

-- an item at another place stays
pub at_removed : {X : Type 0} (xs : List X) (i k : ℕ) (d : X) → k < length xs → k ≢ i → Mem (get_or xs k d) (remove xs i)
at_removed [] i k d l n = absurd (omega arith)
at_removed (x ∷ xs) zero zero d l n = absurd (n refl)
at_removed (x ∷ xs) zero (suc k) d l n = mem_at xs k d (omega arith)
at_removed (x ∷ xs) (suc i) zero d l n = inl refl
at_removed (x ∷ xs) (suc i) (suc k) d l n = inr (at_removed xs i k d (omega arith) (λ e. n (ap suc e)))

-- members of a list with one item changed
pub mem_set : {X : Type 0} (z : X) (xs : List X) (i : ℕ) (y : X) → Mem z (set xs i y) → (z ≡ y) ⊎ Mem z xs
mem_set z [] i y m = absurd m
mem_set z (x ∷ xs) zero y (inl e) = inl e
mem_set z (x ∷ xs) zero y (inr m) = inr (inr m)
mem_set z (x ∷ xs) (suc i) y (inl e) = inr (inl e)
mem_set z (x ∷ xs) (suc i) y (inr m) = elim (mem_set z xs i y m) [ inl e ↦ inl e | inr k ↦ inr (inr k) ]

-- where a member stands
pub index_of : {X : Type 0} (z : X) (xs : List X) (d : X) → Mem z xs → (i : ℕ) × (i < length xs) × (get_or xs i d ≡ z)
index_of z [] d m = absurd m
index_of z (x ∷ xs) d (inl e) = (0, omega arith, sym e)
index_of z (x ∷ xs) d (inr m) = let (i, l, q) = index_of z xs d m in (suc i, omega arith, q)

module _ {X : Type 0} (q : X → Bool) where
  -- the place in a list whose first item fails
  place_later : (x : X) (xs : List X) → q x ≡ false → position_or_len q (x ∷ xs) ≡ suc (position_or_len q xs)
  place_later x xs h = rw h (omega arith)

  pub count_yes : (x : X) (xs : List X) → q x ≡ true → count_by q (x ∷ xs) ≡ 1 + count_by q xs
  count_yes x xs h = sum_by-cons (λ y. bit (q y)) x xs ∙ ap (λ b. bit b + count_by q xs) h

  pub count_no : (x : X) (xs : List X) → q x ≡ false → count_by q (x ∷ xs) ≡ count_by q xs
  count_no x xs h = let e : bit (q x) ≡ 0 = ap bit h in omega (arith, e, sum_by-cons (λ y. bit (q y)) x xs)

  -- a member that passes is counted
  pub counted : (x : X) (xs : List X) → Mem x xs → q x ≡ true → 1 ≤ count_by q xs
  counted x [] m h = absurd m
  counted x (y ∷ xs) (inl e) h = omega (arith, count_yes y xs (ap q (sym e) ∙ h))
  counted x (y ∷ xs) (inr m) h = omega (arith, sum_by-cons (λ y. bit (q y)) y xs, counted x xs m h)

  pub none_counted : (xs : List X) → count_by q xs ≡ 0 → (x : X) → Mem x xs → q x ≡ false
  none_counted xs e x m = elim (cases_Bool (q x)) [
    | inl t ↦ absurd (let l = counted x xs m t in omega (arith, l, e))
    | inr f ↦ f
  ]

  kept_where_none : (xs : List X) → ((x : X) → Mem x xs → q x ≡ false) → filter (λ x. not (q x)) xs ≡ xs
  kept_where_none [] h = refl
  kept_where_none (x ∷ xs) h = rw (h x (inl refl)) (ap (λ ys. x ∷ ys) (kept_where_none xs (λ y m. h y (inr m))))

  left_where_none : (xs : List X) → ((x : X) → Mem x xs → q x ≡ false) → filter q xs ≡ []
  left_where_none [] h = refl
  left_where_none (x ∷ xs) h = rw (h x (inl refl)) (left_where_none xs (λ y m. h y (inr m)))

  same_where_none : (g : X → X) (xs : List X) → ((x : X) → Mem x xs → q x ≡ false) → map (λ x. cond (q x) (g x) x) xs ≡ xs
  same_where_none g [] h = refl
  same_where_none g (x ∷ xs) h = rw (h x (inl refl)) (ap (λ ys. x ∷ ys) (same_where_none g xs (λ y m. h y (inr m))))

  -- the others are the list without that item
  pub one_out : (xs : List X) → count_by q xs ≡ 1 → filter (λ x. not (q x)) xs ≡ remove xs (position_or_len q xs)
  one_out [] e = absurd (omega arith)
  one_out (x ∷ xs) e = elim (cases_Bool (q x)) [
    | inl t ↦ rw t (kept_where_none xs (none_counted xs (omega (arith, e, count_yes x xs t))))
    | inr f ↦ ap (λ b. cond (not b) (x ∷ filter (λ x. not (q x)) xs) (filter (λ x. not (q x)) xs)) f
        ∙ (ap (λ ys. x ∷ ys) (one_out xs (sym (count_no x xs f) ∙ e)) ∙ ap (remove (x ∷ xs)) (sym (place_later x xs f)))
  ]

  -- that item alone
  pub one_in : (xs : List X) (d : X) → count_by q xs ≡ 1 → filter q xs ≡ get_or xs (position_or_len q xs) d ∷ []
  one_in [] d e = absurd (omega arith)
  one_in (x ∷ xs) d e = elim (cases_Bool (q x)) [
    | inl t ↦ rw t (ap (λ ys. x ∷ ys) (left_where_none xs (none_counted xs (omega (arith, e, count_yes x xs t)))))
    | inr f ↦ ap (λ b. cond b (x ∷ filter q xs) (filter q xs)) f
        ∙ (one_in xs d (sym (count_no x xs f) ∙ e) ∙ ap (λ i. get_or (x ∷ xs) i d ∷ []) (sym (place_later x xs f)))
  ]

  -- that item changed
  pub one_changed : (g : X → X) (xs : List X) (d : X) → count_by q xs ≡ 1
      → map (λ x. cond (q x) (g x) x) xs ≡ set xs (position_or_len q xs) (g (get_or xs (position_or_len q xs) d))
  one_changed g [] d e = absurd (omega arith)
  one_changed g (x ∷ xs) d e = elim (cases_Bool (q x)) [
    | inl t ↦ rw t (ap (λ ys. g x ∷ ys) (same_where_none g xs (none_counted xs (omega (arith, e, count_yes x xs t)))))
    | inr f ↦ ap (λ b. cond b (g x) x ∷ map (λ x. cond (q x) (g x) x) xs) f
        ∙ (ap (λ ys. x ∷ ys) (one_changed g xs d (sym (count_no x xs f) ∙ e)) ∙ ap (λ i. set (x ∷ xs) i (g (get_or (x ∷ xs) i d))) (sym (place_later x xs f)))
  ]

  -- it stands there, and no other passes
  pub one_there : (xs : List X) (d : X) → count_by q xs ≡ 1 → (position_or_len q xs < length xs) × (q (get_or xs (position_or_len q xs) d) ≡ true)
  one_there [] d e = absurd (omega arith)
  one_there (x ∷ xs) d e = elim (cases_Bool (q x)) [
    | inl t ↦ rw t (omega arith, t)
    | inr f ↦ let r = one_there xs d (sym (count_no x xs f) ∙ e) in
        (omega (arith, r.0, place_later x xs f), ap (λ i. q (get_or (x ∷ xs) i d)) (place_later x xs f) ∙ r.1)
  ]

  pub only_one : (xs : List X) (d : X) (i : ℕ) → count_by q xs ≡ 1 → i < length xs → q (get_or xs i d) ≡ true → i ≡ position_or_len q xs
  only_one [] d i e l h = absurd (omega arith)
  only_one (x ∷ xs) d zero e l h = rw h refl
  only_one (x ∷ xs) d (suc i) e l h = elim (cases_Bool (q x)) [
    | inl t ↦ absurd (let c = counted (get_or xs i d) xs (mem_at xs i d (omega arith)) h in omega (arith, c, e, count_yes x xs t))
    | inr f ↦ ap suc (only_one xs d i (sym (count_no x xs f) ∙ e) (omega arith) h) ∙ sym (place_later x xs f)
  ]
