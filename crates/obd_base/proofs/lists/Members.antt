-- Members of lists, and lists that hold no member twice.
use Rattle.std.proofs.Common.{◌≡◌, ◌+◌, ◌≤◌, suc, subst, Bool, true, false, cond, List, [], ◌∷◌, ◌++◌, map, length, filter, refl, sym, ◌∙◌, ap, arith, ◌⊎◌, inl, inr, ◌≢◌, length-append}
use Rattle.std.specs.List.{flat_map}
use Rattle.std.proofs.lemmas.Bool.{false≢true}
use Rattle.obd_base.specs.Lists.{Mem, Once}

module _ {A : Type 0} where
  -- a member of two joined lists is a member of one of them
  pub mem_append : (x : A) (xs ys : List A) → Mem x (xs ++ ys) → Mem x xs ⊎ Mem x ys
  mem_append x [] ys m = inr m
  mem_append x (y ∷ xs) ys (inl e) = inl (inl e)
  mem_append x (y ∷ xs) ys (inr m) = elim (mem_append x xs ys m) [ inl k ↦ inl (inr k) | inr k ↦ inr k ]

  -- a member of the first list is one of the joined list
  pub mem_left : (x : A) (xs ys : List A) → Mem x xs → Mem x (xs ++ ys)
  mem_left x [] ys m = absurd m
  mem_left x (y ∷ xs) ys (inl e) = inl e
  mem_left x (y ∷ xs) ys (inr m) = inr (mem_left x xs ys m)

  -- a member of the second list is one of the joined list
  pub mem_right : (x : A) (xs ys : List A) → Mem x ys → Mem x (xs ++ ys)
  mem_right x [] ys m = m
  mem_right x (y ∷ xs) ys m = inr (mem_right x xs ys m)

  -- a member splits its list
  pub split : (x : A) (ys : List A) → Mem x ys → (a : List A) × (b : List A) × (ys ≡ a ++ (x ∷ b))
  split x [] m = absurd m
  split x (y ∷ ys) (inl e) = ([], ys, ap (λ z. z ∷ ys) (sym e))
  split x (y ∷ ys) (inr m) = let (a, b, e) = split x ys m in (y ∷ a, b, ap (λ zs. y ∷ zs) e)

  -- another member stays when one is taken out
  mem_middle : (z x : A) (a b : List A) → Mem z (a ++ (x ∷ b)) → (z ≢ x) → Mem z (a ++ b)
  mem_middle z x a b m ne = elim (mem_append z a (x ∷ b) m) [
    | inl k ↦ mem_left z a b k
    | inr k ↦ elim k [ inl e ↦ absurd (ne e) | inr j ↦ mem_right z a b j ]
  ]

  -- a list that holds no member twice is no longer than one that holds all its members
  pub no_longer : (xs ys : List A) → Once xs → ((z : A) → Mem z xs → Mem z ys) → length xs ≤ length ys
  no_longer [] ys o h = omega arith
  no_longer (x ∷ xs) ys o h =
      let (a, b, e) = split x ys (h x (inl refl)) in
      let shorter : length xs ≤ length (a ++ b)
      = no_longer xs (a ++ b) o.1 (λ z m. mem_middle z x a b (subst (λ zs. Mem z zs) e (h z (inr m))) (λ q. o.0 (subst (λ w. Mem w xs) q m))) in
      let l : length ys ≡ length a + suc (length b) = ap length e ∙ length-append a (x ∷ b) in
      omega (arith, shorter, l, length-append a b)

  -- what a filter keeps was a member, and passes
  pub mem_filter : (p : A → Bool) (z : A) (xs : List A) → Mem z (filter p xs) → Mem z xs × (p z ≡ true)
  mem_filter p z [] m = absurd m
  mem_filter p z (x ∷ xs) m = go (p x) refl (mem_filter p z xs)
    where
      go : (b : Bool) → p x ≡ b → (Mem z (filter p xs) → Mem z xs × (p z ≡ true)) → Mem z (x ∷ xs) × (p z ≡ true)
      go true e ih = elim (let n : Mem z (x ∷ filter p xs) = rw e at m in n) [
        | inl q ↦ (inl q, ap p q ∙ e)
        | inr n ↦ (inr (ih n).0, (ih n).1)
      ]
      go false e ih = let r = ih (rw e at m) in (inr r.0, r.1)

  -- a filter keeps each member that passes
  pub filter_mem : (p : A → Bool) (z : A) (xs : List A) → Mem z xs → p z ≡ true → Mem z (filter p xs)
  filter_mem p z [] m t = absurd m
  filter_mem p z (x ∷ xs) m t = go (p x) refl m (λ n. filter_mem p z xs n t)
    where
      go : (b : Bool) → p x ≡ b → Mem z (x ∷ xs) → (Mem z xs → Mem z (filter p xs)) → Mem z (cond b (x ∷ filter p xs) (filter p xs))
      go true e (inl q) ih = inl q
      go true e (inr n) ih = inr (ih n)
      go false e (inl q) ih = absurd (false≢true (sym e ∙ (ap p (sym q) ∙ t)))
      go false e (inr n) ih = ih n

  -- a filter repeats no member
  pub once_filter : (p : A → Bool) (xs : List A) → Once xs → Once (filter p xs)
  once_filter p [] o = tt
  once_filter p (x ∷ xs) o = go (p x) (once_filter p xs o.1)
    where
      go : (b : Bool) → Once (filter p xs) → Once (cond b (x ∷ filter p xs) (filter p xs))
      go true ih = (λ m. o.0 (mem_filter p x xs m).0, ih)
      go false ih = ih

module _ {A B : Type 0} where
  -- a member of a mapped list comes from a member
  pub mem_map : (f : A → B) (z : B) (xs : List A) → Mem z (map f xs) → (x : A) × Mem x xs × (z ≡ f x)
  mem_map f z [] m = absurd m
  mem_map f z (x ∷ xs) (inl e) = (x, inl refl, e)
  mem_map f z (x ∷ xs) (inr m) = let (y, k, e) = mem_map f z xs m in (y, inr k, e)

  -- a map takes members to members
  pub mem_to_map : (f : A → B) (x : A) (xs : List A) → Mem x xs → Mem (f x) (map f xs)
  mem_to_map f x [] m = absurd m
  mem_to_map f x (y ∷ xs) (inl e) = inl (ap f e)
  mem_to_map f x (y ∷ xs) (inr m) = inr (mem_to_map f x xs m)

  -- a member of one of some lists is a member of all of them joined
  pub mem_flat : (g : A → List B) (xs : List A) (x : A) (y : B) → Mem x xs → Mem y (g x) → Mem y (flat_map g xs)
  mem_flat g [] x y m n = absurd m
  mem_flat g (z ∷ xs) x y (inl e) n = mem_left y (g z) (flat_map g xs) (subst (λ w. Mem y (g w)) e n)
  mem_flat g (z ∷ xs) x y (inr m) n = mem_right y (g z) (flat_map g xs) (mem_flat g xs x y m n)

  -- and comes from one
  pub flat_mem : (g : A → List B) (xs : List A) (y : B) → Mem y (flat_map g xs) → (x : A) × Mem x xs × Mem y (g x)
  flat_mem g [] y m = absurd m
  flat_mem g (z ∷ xs) y m = elim (mem_append y (g z) (flat_map g xs) m) [
    | inl k ↦ (z, inl refl, k)
    | inr k ↦ let (x, i, n) = flat_mem g xs y k in (x, inr i, n)
  ]

  -- a map that tells members apart repeats no member
  pub once_map : (f : A → B) → ((x y : A) → f x ≡ f y → x ≡ y) → (xs : List A) → Once xs → Once (map f xs)
  once_map f h [] o = tt
  once_map f h (x ∷ xs) o =
      (λ m. let (y, k, e) = mem_map f (f x) xs m in o.0 (subst (λ w. Mem w xs) (sym (h x y e)) k), once_map f h xs o.1)
