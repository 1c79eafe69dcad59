-- Membership in maps, filters, tests of lists, and std's membership by index.
use Rattle.std.proofs.Common.{◌≡◌, ℕ, zero, suc, ◌<◌, Bool, true, eqb, List, [], ◌∷◌, length, map, get_or, refl, sym, ap, subst, arith, inl, inr}
use Rattle.std.specs.List.{list_any, list_all, Contains}
use Rattle.std.proofs.lemmas.Bool.{or_cases, or_left, or_right, and_parts, and_from, eqb-true, eq-eqb, false≢true}
use Rattle.obd_base.specs.Lists.{has, Mem}
use Rattle.mod2_rank.specs.Linear.{same_list}

-- a map takes members to members
pub mem_map_in : {A B : Type 0} (f : A → B) (x : A) (xs : List A) → Mem x xs → Mem (f x) (map f xs)
mem_map_in f x [] m = absurd m
mem_map_in f x (y ∷ xs) (inl e) = inl (ap f e)
mem_map_in f x (y ∷ xs) (inr m) = inr (mem_map_in f x xs m)

module _ {A : Type 0} where
  -- a member that passes makes some pass
  pub any_mem : (p : A → Bool) (x : A) (xs : List A) → Mem x xs → p x ≡ true → list_any p xs ≡ true
  any_mem p x [] m h = absurd m
  any_mem p x (y ∷ xs) (inl e) h = or_left (p y) (list_any p xs) (subst (λ w. p w ≡ true) e h)
  any_mem p x (y ∷ xs) (inr m) h = or_right (p y) (list_any p xs) (any_mem p x xs m h)

  -- and where some pass there is such a member
  pub mem_any : (p : A → Bool) (xs : List A) → list_any p xs ≡ true → (x : A) × Mem x xs × (p x ≡ true)
  mem_any p [] h = absurd (false≢true h)
  mem_any p (y ∷ xs) h = elim (or_cases (p y) (list_any p xs) h) [
    | inl e ↦ (y, inl refl, e)
    | inr e ↦ let (x, m, q) = mem_any p xs e in (x, inr m, q)
  ]

  -- where all pass each member does
  pub all_mem : (p : A → Bool) (x : A) (xs : List A) → list_all p xs ≡ true → Mem x xs → p x ≡ true
  all_mem p x [] h m = absurd m
  all_mem p x (y ∷ xs) h (inl e) = subst (λ w. p w ≡ true) (sym e) (and_parts (p y) (list_all p xs) h).0
  all_mem p x (y ∷ xs) h (inr m) = all_mem p x xs (and_parts (p y) (list_all p xs) h).1 m

  -- and where each member passes all do
  pub all_from_mem : (p : A → Bool) (xs : List A) → ((x : A) → Mem x xs → p x ≡ true) → list_all p xs ≡ true
  all_from_mem p [] h = refl
  all_from_mem p (y ∷ xs) h = and_from (p y) (list_all p xs) (h y (inl refl)) (all_from_mem p xs (λ x m. h x (inr m)))

  -- a member has a place
  pub mem_contains : (x : A) (xs : List A) → Mem x xs → Contains xs x
  mem_contains x [] m = absurd m
  mem_contains x (y ∷ xs) (inl e) = (0, omega arith, sym e)
  mem_contains x (y ∷ xs) (inr m) = let (k, l, e) = mem_contains x xs m in (suc k, omega arith, e)

  -- what is at a place is a member
  pub mem_at : (xs : List A) (k : ℕ) (d : A) → k < length xs → Mem (get_or xs k d) xs
  mem_at [] k d l = absurd (omega arith)
  mem_at (y ∷ xs) zero d l = inl refl
  mem_at (y ∷ xs) (suc k) d l = inr (mem_at xs k d (omega arith))

  -- what has a place is a member
  pub contains_mem : (x : A) (xs : List A) → Contains xs x → Mem x xs
  contains_mem x xs (k, l, e) = subst (λ w. Mem w xs) e (mem_at xs k x l)

-- the test of a number in a list says that it is a member
pub has_mem : (x : ℕ) (xs : List ℕ) → has xs x ≡ true → Mem x xs
has_mem x [] h = absurd (false≢true h)
has_mem x (y ∷ xs) h = elim (or_cases (eqb x y) (has xs x) h) [ inl e ↦ inl (eqb-true x y e) | inr e ↦ inr (has_mem x xs e) ]

-- and the other way round
pub mem_has : (x : ℕ) (xs : List ℕ) → Mem x xs → has xs x ≡ true
mem_has x [] m = absurd m
mem_has x (y ∷ xs) (inl e) = or_left (eqb x y) (has xs x) (eq-eqb x y e)
mem_has x (y ∷ xs) (inr m) = or_right (eqb x y) (has xs x) (mem_has x xs m)

-- the test of equal lists says that they are one
pub same_list_true : (xs ys : List ℕ) → same_list xs ys ≡ true → xs ≡ ys
same_list_true [] [] h = refl
same_list_true [] (y ∷ ys) h = absurd (false≢true h)
same_list_true (x ∷ xs) [] h = absurd (false≢true h)
same_list_true (x ∷ xs) (y ∷ ys) h = let (a, b) = and_parts (eqb x y) (same_list xs ys) h in rw (eqb-true x y a, same_list_true xs ys b) refl

-- a list passes it with itself
pub same_list_itself : (xs : List ℕ) → same_list xs xs ≡ true
same_list_itself [] = refl
same_list_itself (x ∷ xs) = and_from (eqb x x) (same_list xs xs) (eq-eqb x x refl) (same_list_itself xs)
