-- The parts of a list by their numbers, each once.
use Rattle.std.proofs.Common.{◌≡◌, ℕ, zero, suc, ◌+◌, ◌-◌, ◌*◌, ◌^◌, ◌<◌, List, [], ◌∷◌, ◌++◌, map, length, refl, sym, ap, ap₂, arith, ◌∙◌}
use Rattle.std.specs.List.{range_with_len}
use Rattle.std.proofs.lemmas.Bool.{le-ltb, lt-ltb}
use Rattle.std.proofs.lemmas.List.{map-append}
use Rattle.boundary_map.specs.Sets.{chosen, doubled}
use Rattle.obd_base.specs.Lists.{below, parts}

-- a range in two
split_range : (a m n : ℕ) → range_with_len a (m + n) ≡ range_with_len a m ++ range_with_len (a + m) n
split_range a zero n = let e : 0 + n ≡ n = omega arith in let z : a + 0 ≡ a = omega arith in rw (e, z) refl
split_range a (suc m) n =
    let e : suc m + n ≡ suc (m + n) = omega arith in
    let z : a + 1 + m ≡ a + suc m = omega arith in
    let ih : range_with_len (a + 1) (m + n) ≡ range_with_len (a + 1) m ++ range_with_len (a + suc m) n = rw z at (split_range (a + 1) m n) in
    rw e (ap (λ zs. a ∷ zs) ih)

-- maps that agree on a range
map_range : {A : Type 0} (f h : ℕ → A) (a b n : ℕ) → ((i : ℕ) → i < n → f (a + i) ≡ h (b + i)) → map f (range_with_len a n) ≡ map h (range_with_len b n)
map_range f h a b zero e = refl
map_range f h a b (suc n) e =
    let z : a + 0 ≡ a = omega arith in
    let w : b + 0 ≡ b = omega arith in
    let first : f a ≡ h b = (let k : f (a + 0) ≡ h (b + 0) = e 0 (omega arith) in rw (z, w) at k) in
    ap₂ (λ x xs. x ∷ xs) first (map_range f h (a + 1) (b + 1) n (λ i l.
    (let p : a + 1 + i ≡ a + suc i = omega arith in
    let q : b + 1 + i ≡ b + suc i = omega arith in
    let k : f (a + suc i) ≡ h (b + suc i) = e (suc i) (omega arith) in
    ap f p ∙ (k ∙ ap h (sym q)))))

-- a member put before each image
map_map : (x : ℕ) (f : ℕ → List ℕ) (ns : List ℕ) → map (λ part. x ∷ part) (map f ns) ≡ map (λ t. x ∷ f t) ns
map_map x f [] = refl
map_map x f (n ∷ ns) = ap (λ zs. (x ∷ f n) ∷ zs) (map_map x f ns)

-- the parts of a list are its numbered parts, in order
pub numbered_parts : (xs : List ℕ) → parts xs ≡ map (chosen xs) (below (doubled (length xs)))
numbered_parts [] = refl
numbered_parts (x ∷ xs) =
    let half = doubled (length xs) in
    let ih = numbered_parts xs in
    let lower : map (chosen (x ∷ xs)) (range_with_len 0 half) ≡ map (chosen xs) (range_with_len 0 half)
    = map_range (chosen (x ∷ xs)) (chosen xs) 0 0 half (λ i l. (let k : 0 + i ≡ i = omega arith in rw (k, lt-ltb i half l) refl)) in
    let upper : map (chosen (x ∷ xs)) (range_with_len (0 + half) half) ≡ map (λ t. x ∷ chosen xs t) (range_with_len 0 half)
    = map_range (chosen (x ∷ xs)) (λ t. x ∷ chosen xs t) (0 + half) 0 half (λ i l.
    (let k : 0 + half + i ≡ half + i = omega arith in
    let q : half + i - half ≡ i = omega arith in
    let z : 0 + i ≡ i = omega arith in
    rw (k, z, le-ltb (half + i) half (omega arith), q) refl)) in
    let both : map (chosen (x ∷ xs)) (range_with_len 0 half ++ range_with_len (0 + half) half) ≡ parts xs ++ map (λ part. x ∷ part) (parts xs)
    = map-append (chosen (x ∷ xs)) (range_with_len 0 half) (range_with_len (0 + half) half)
    ∙ ap₂ (λ (u v : List (List ℕ)). u ++ v) (lower ∙ sym ih) (upper ∙ (sym (map_map x (chosen xs) (range_with_len 0 half)) ∙ ap (map (λ part. x ∷ part)) (sym ih))) in
    sym (ap (map (chosen (x ∷ xs))) (split_range 0 half half) ∙ both)

-- how many there are
pub doubled_is : (n : ℕ) → doubled n ≡ 2 ^ n
doubled_is zero = refl
doubled_is (suc n) = let ih = doubled_is n in let p : 2 ^ suc n ≡ 2 * 2 ^ n = omega arith in omega (arith, ih, p)
