-- The parts of a list.
use Rattle.std.proofs.Common.{◌≡◌, ℕ, Bool, List, [], ◌∷◌, ◌++◌, map, length, filter, refl, sym, subst, arith, inl, inr}
use Rattle.obd_base.specs.Lists.{Mem, Once, parts}
use Rattle.obd_base.proofs.lists.Members.{mem_append, mem_map, no_longer, once_filter}

-- a part has only members of the list
pub mem_parts : (z : ℕ) (s xs : List ℕ) → Mem s (parts xs) → Mem z s → Mem z xs
mem_parts z s [] (inl e) m = subst (λ w. Mem z w) e m
mem_parts z s [] (inr i) m = absurd i
mem_parts z s (x ∷ xs) i m = elim (mem_append s (parts xs) _ i) [
  | inl j ↦ inr (mem_parts z s xs j m)
  | inr j ↦
      let (t, k, e) = mem_map (λ w. x ∷ w) s (parts xs) j in
      elim (let n : Mem z (x ∷ t) = subst (λ w. Mem z w) e m in n) [ inl q ↦ inl q | inr n ↦ inr (mem_parts z t xs k n) ]
]

-- joined lists with no common member
pub once_append : {A : Type 0} (xs ys : List A) → Once xs → Once ys → ((z : A) → Mem z xs → Mem z ys → ⊥) → Once (xs ++ ys)
once_append [] ys o q h = q
once_append (x ∷ xs) ys o q h =
    (λ m. elim (mem_append x xs ys m) [ inl k ↦ o.0 k | inr k ↦ h x (inl refl) k ], once_append xs ys o.1 q (λ z m n. h z (inr m) n))

-- one member set before each list
once_cons : (x : ℕ) (ss : List (List ℕ)) → Once ss → Once (map (λ s. x ∷ s) ss)
once_cons x [] o = tt
once_cons x (s ∷ ss) o =
    (λ m. let (t, k, e) = mem_map (λ w. x ∷ w) (x ∷ s) ss m in o.0 (let q : s ≡ t = cc in subst (λ w. Mem w ss) (sym q) k), once_cons x ss o.1)

-- a list without repetition has no part twice
pub once_parts : (xs : List ℕ) → Once xs → Once (parts xs)
once_parts [] o = (λ m. m, tt)
once_parts (x ∷ xs) o =
    once_append (parts xs) _ (once_parts xs o.1) (once_cons x (parts xs) (once_parts xs o.1))
    (λ s m n. let (t, k, e) = mem_map (λ w. x ∷ w) s (parts xs) n in
    o.0 (mem_parts x s xs m (subst (λ w. Mem x w) (sym e) (inl refl))))

-- a list that holds each set that passes once has as many members as there are such sets
pub each_once : (p : List ℕ → Bool) (xs : List ℕ) (found : List (List ℕ)) → Once xs → Once found
    → ((s : List ℕ) → Mem s found → Mem s (filter p (parts xs))) → ((s : List ℕ) → Mem s (filter p (parts xs)) → Mem s found)
    → length found ≡ length (filter p (parts xs))
each_once p xs found o q h k =
    omega (arith, no_longer found (filter p (parts xs)) q h, no_longer (filter p (parts xs)) found (once_filter p (parts xs) (once_parts xs o)) k)
