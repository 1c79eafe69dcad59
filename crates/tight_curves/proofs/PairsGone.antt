-- Products over numbers: two factors that are one another's inverses, with nothing between them, may be left out.
use Rattle.std.proofs.Common.{◌≡◌, ℕ, suc, ◌+◌, ◌-◌, ◌<◌, ◌≤◌, List, [], ◌∷◌, ◌++◌, refl, sym, ◌∙◌, ap, ap₂, append-nil, ◌⊎◌, inl, inr, arith}
use Rattle.std.specs.List.{flat_map, range_with_len}
use Rattle.std.proofs.lemmas.List.Concat.{flat_map-append}
use Rattle.obd_base.specs.Lists.{Mem, below}
use Rattle.obd_base.proofs.lists.Below.{mem_range, range_push}
use Rattle.curve_paths.specs.Alphabet.{Alphabet, cancelled, Alike, Null}
use Rattle.curve_paths.proofs.PointPlaces.{range_join}
use Rattle.curve_paths.proofs.Reduction.{alike_join, null_out}

module _ {A X : Type 0} (L : Alphabet A) where
  -- products of factors with one reduced form
  pub flat_alike : (f r : X → List A) (xs : List X) → ((x : X) → Mem x xs → Alike L (f x) (r x)) → Alike L (flat_map f xs) (flat_map r xs)
  flat_alike f r [] h = refl
  flat_alike f r (x ∷ xs) h = alike_join L (f x) (r x) (flat_map f xs) (flat_map r xs) (h x (inl refl)) (flat_alike f r xs (λ y m. h y (inr m)))

  -- a product of nothing
  pub flat_none : (f : X → List A) (xs : List X) → ((x : X) → Mem x xs → f x ≡ []) → flat_map f xs ≡ []
  flat_none f [] h = refl
  flat_none f (x ∷ xs) h = rw (h x (inl refl)) (flat_none f xs (λ y m. h y (inr m)))

module _ {A : Type 0} (L : Alphabet A) (f r : ℕ → List A) (m a b : ℕ) (up : a < b) (within : b < m) where
  abbrev n : ℕ
  n = b - a - 1

  parts : below m ≡ below a ++ ((a ∷ (range_with_len (a + 1) n ++ (b ∷ []))) ++ range_with_len (b + 1) (m - 1 - b))
  parts =
      let e : m ≡ a + (suc (suc n) + (m - 1 - b)) = omega arith in
      let z : 0 + a ≡ a = omega arith in
      let y : a + suc (suc n) ≡ b + 1 = omega arith in
      let x : (a + 1) + n ≡ b = omega arith in
      ap below e ∙ (range_join 0 a (suc (suc n) + (m - 1 - b)) ∙ ap (λ t. below a ++ t) (ap (λ k. range_with_len k (suc (suc n) + (m - 1 - b))) z
      ∙ (range_join a (suc (suc n)) (m - 1 - b) ∙ ap₂ (λ s t. s ++ range_with_len t (m - 1 - b)) (ap (λ t. a ∷ t) (range_push (a + 1) n ∙ ap (λ k. range_with_len (a + 1) n ++ (k ∷ [])) x)) y)))

  split_product : (h : ℕ → List A) → flat_map h (below m) ≡ flat_map h (below a) ++ ((h a ++ (flat_map h (range_with_len (a + 1) n) ++ h b)) ++ flat_map h (range_with_len (b + 1) (m - 1 - b)))
  split_product h =
      ap (flat_map h) parts ∙ (flat_map-append h (below a) _ ∙ ap (λ t. flat_map h (below a) ++ t)
      (flat_map-append h (a ∷ (range_with_len (a + 1) n ++ (b ∷ []))) (range_with_len (b + 1) (m - 1 - b))
      ∙ ap (λ t. (h a ++ t) ++ flat_map h (range_with_len (b + 1) (m - 1 - b))) (flat_map-append h (range_with_len (a + 1) n) (b ∷ []) ∙ ap (λ t. flat_map h (range_with_len (a + 1) n) ++ t) (append-nil (h b)))))

  -- the product without the two
  pub pair_gone : ((j : ℕ) → j < m → (j < a) ⊎ (b < j) → Alike L (f j) (r j)) → ((j : ℕ) → a < j → j < b → f j ≡ []) → ((j : ℕ) → a ≤ j → j ≤ b → r j ≡ []) → Null L (f a ++ f b)
      → Alike L (flat_map f (below m)) (flat_map r (below m))
  pair_gone out inside none null =
      let f_mid : flat_map f (range_with_len (a + 1) n) ≡ [] = flat_none L f (range_with_len (a + 1) n) (λ j k. let l = mem_range (a + 1) n j k in inside j (omega (arith, l.0)) (omega (arith, l.1))) in
      let r_mid : flat_map r (range_with_len (a + 1) n) ≡ [] = flat_none L r (range_with_len (a + 1) n) (λ j k. let l = mem_range (a + 1) n j k in none j (omega (arith, l.0)) (omega (arith, l.1))) in
      let before = flat_alike L f r (below a) (λ j k. let l = mem_range 0 a j k in out j (omega (arith, l.1)) (inl (omega (arith, l.1)))) in
      let after = flat_alike L f r (range_with_len (b + 1) (m - 1 - b)) (λ j k. let l = mem_range (b + 1) (m - 1 - b) j k in out j (omega (arith, l.1)) (inr (omega (arith, l.0)))) in
      let f_pair : Null L (f a ++ (flat_map f (range_with_len (a + 1) n) ++ f b)) = ap (λ t. cancelled L (f a ++ (t ++ f b))) f_mid ∙ null in
      let r_pair : r a ++ (flat_map r (range_with_len (a + 1) n) ++ r b) ≡ [] = rw (none a (omega arith) (omega arith), r_mid, none b (omega arith) (omega arith)) refl in
      ap (cancelled L) (split_product f)
      ∙ (null_out L (flat_map f (below a)) (f a ++ (flat_map f (range_with_len (a + 1) n) ++ f b)) (flat_map f (range_with_len (b + 1) (m - 1 - b))) f_pair
      ∙ (alike_join L (flat_map f (below a)) (flat_map r (below a)) (flat_map f (range_with_len (b + 1) (m - 1 - b))) (flat_map r (range_with_len (b + 1) (m - 1 - b))) before after
      ∙ sym (ap (cancelled L) (split_product r ∙ ap (λ t. flat_map r (below a) ++ (t ++ flat_map r (range_with_len (b + 1) (m - 1 - b)))) r_pair))))
