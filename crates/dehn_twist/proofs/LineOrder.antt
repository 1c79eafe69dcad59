-- The lines at a point of the curve in order: those that meet the curve's chord there, and the others.
use Rattle.std.proofs.Common.{◌≡◌, ℕ, zero, suc, ◌+◌, ◌-◌, ◌%◌, ◌<◌, ◌≤◌, List, [], ◌∷◌, ◌++◌, map, reverse, refl, sym, ◌∙◌, ap, ap₂, inl, inr, arith, append_assoc}
use Rattle.std.specs.List.{range_with_len}
use Rattle.std.proofs.lemmas.List.{map-append, reverse-append}
use Rattle.std.proofs.Math.Nat.{add-mod_right, mod-eq_of_lt}
use Rattle.obd_base.specs.Lists.{Mem, below}
use Rattle.obd_base.specs.declared.points.Sign.{Sign}
use Rattle.obd_base.specs.declared.points.Sign.TheVariants.{Minus, Plus}
use Rattle.obd_base.proofs.lists.Below.{below_push}
use Rattle.dehn_twist.proofs.CopyPlaces.{line_with}
use Rattle.curve_paths.proofs.Members.{Rises}
use Rattle.curve_paths.proofs.PointPlaces.{range_join}

-- maps that agree on the members
pub map_on : {X Y : Type 0} (f g : X → Y) (xs : List X) → ((x : X) → Mem x xs → f x ≡ g x) → map f xs ≡ map g xs
map_on f g [] h = refl
map_on f g (x ∷ xs) h = rw (h x (inl refl)) (ap (λ z. g x ∷ z) (map_on f g xs (λ y m. h y (inr m))))

-- a range moved
pub map_moved : {Y : Type 0} (f g : ℕ → Y) (a b n : ℕ) → ((i : ℕ) → i < n → f (a + i) ≡ g (b + i)) → map f (range_with_len a n) ≡ map g (range_with_len b n)
map_moved f g a b zero h = refl
map_moved f g a b (suc n) h =
    let e : a ≡ a + 0 = omega arith in
    let k : b + 0 ≡ b = omega arith in
    ap₂ (λ y ys. y ∷ ys) (ap f e ∙ (h 0 (omega arith) ∙ ap g k))
    (map_moved f g (a + 1) (b + 1) n (λ i l.
    let u : a + 1 + i ≡ a + suc i = omega arith in
    let v : b + suc i ≡ b + 1 + i = omega arith in
    ap f u ∙ (h (suc i) (omega (arith, l)) ∙ ap g v)))

map_self : (a n : ℕ) → map (λ (i : ℕ). i) (range_with_len a n) ≡ range_with_len a n
map_self a zero = refl
map_self a (suc n) = ap (λ z. a ∷ z) (map_self (a + 1) n)

-- a range as a map of another
pub range_moved : (f : ℕ → ℕ) (a b n : ℕ) → ((i : ℕ) → i < n → f (a + i) ≡ b + i) → map f (range_with_len a n) ≡ range_with_len b n
range_moved f a b n h = map_moved f (λ i. i) a b n h ∙ map_self b n

-- the numbers below n from the last one on
pub map_down : {Y : Type 0} (f : ℕ → Y) (n : ℕ) → map (λ i. f (n - 1 - i)) (below n) ≡ reverse (map f (below n))
map_down f zero = refl
map_down f (suc n) =
    let z : suc n - 1 - 0 ≡ n = omega arith in
    ap₂ (λ y ys. y ∷ ys) (ap f z) (map_moved (λ i. f (suc n - 1 - i)) (λ i. f (n - 1 - i)) (0 + 1) 0 n (λ i l. ap f (let z : suc n - 1 - (0 + 1 + i) ≡ n - 1 - (0 + i) = omega arith in z)))
    ∙ (ap (λ ys. f n ∷ ys) (map_down f n)
    ∙ sym (ap (λ xs. reverse (map f xs)) (below_push n) ∙ (ap reverse (map-append f (below n) (n ∷ [])) ∙ reverse-append (map f (below n)) (f n ∷ []))))

map_reverse : {X Y : Type 0} (f : X → Y) (xs : List X) → map f (reverse xs) ≡ reverse (map f xs)
map_reverse f [] = refl
map_reverse f (x ∷ xs) =
    ap (map f) (reverse-append (x ∷ []) xs) ∙ (map-append f (reverse xs) (x ∷ []) ∙ (ap (λ z. z ++ (f x ∷ [])) (map_reverse f xs) ∙ sym (reverse-append (f x ∷ []) (map f xs))))

-- a map of a list turned round
pub map_turned_back : {X Y : Type 0} (f : X → Y) (xs : List X) → map f (reverse xs) ≡ reverse (map f xs)
map_turned_back f xs = map_reverse f xs

-- rising lists with the same members are equal
pub rises_same : (xs ys : List ℕ) → Rises (λ z. z) xs → Rises (λ z. z) ys → ((z : ℕ) → Mem z xs → Mem z ys) → ((z : ℕ) → Mem z ys → Mem z xs) → xs ≡ ys
rises_same [] [] r s f g = refl
rises_same [] (y ∷ ys) r s f g = absurd (g y (inl refl))
rises_same (x ∷ xs) [] r s f g = absurd (f x (inl refl))
rises_same (x ∷ xs) (y ∷ ys) r s f g =
    let e : x ≡ y = first (f x (inl refl)) (g y (inl refl)) in
    ap₂ (λ z zs. z ∷ zs) e (rises_same xs ys r.1 s.1
    (λ z m. elim (f z (inr m)) [ inl q ↦ absurd (let l = r.0 z m in omega (arith, q, e, l)) | inr k ↦ k ])
    (λ z m. elim (g z (inr m)) [ inl q ↦ absurd (let l = s.0 z m in omega (arith, q, e, l)) | inr k ↦ k ]))
  where
    first : Mem x (y ∷ ys) → Mem y (x ∷ xs) → x ≡ y
    first (inl e) k = e
    first (inr m) (inl e) = sym e
    first (inr m) (inr k) = absurd (let a = s.0 x m in let b = r.0 y k in omega (arith, a, b))

-- all lines from one on, round
abbrev pub lines_from : ℕ → ℕ → List ℕ
lines_from total u = map (λ i. (u + i) % total) (below total)

-- the lines from one on, and then from 0 on
pub lines_from_is : (total u : ℕ) → u ≤ total → lines_from total u ≡ range_with_len u (total - u) ++ range_with_len 0 u
lines_from_is total u l =
    let f = λ (i : ℕ). (u + i) % total in
    let e : total ≡ (total - u) + u = omega (arith, l) in
    let z : 0 + (total - u) ≡ total - u = omega arith in
    ap (λ n. map f (range_with_len 0 n)) e
    ∙ (ap (map f) (range_join 0 (total - u) u ∙ ap (λ k. range_with_len 0 (total - u) ++ range_with_len k u) z)
    ∙ (map-append f (range_with_len 0 (total - u)) (range_with_len (total - u) u)
    ∙ ap₂ (λ xs ys. xs ++ ys)
    (range_moved f 0 u (total - u) (λ i h. let k : u + (0 + i) ≡ u + i = omega arith in ap (λ z. z % total) k ∙ mod-eq_of_lt (let q : u + i < total = omega (arith, h) in q)))
    (range_moved f (total - u) 0 u (λ i h.
    let k : u + (total - u + i) ≡ (0 + i) + total = omega (arith, l) in
    ap (λ z. z % total) k ∙ (add-mod_right (0 + i) total ∙ mod-eq_of_lt (let q : 0 + i < total = omega (arith, h, l) in q))))))

-- once round makes no difference
pub lines_from_round : (total : ℕ) → lines_from total total ≡ lines_from total 0
lines_from_round total = map_moved (λ i. (total + i) % total) (λ i. (0 + i) % total) 0 0 total (λ i h. let k : total + (0 + i) ≡ (0 + (0 + i)) + total = omega arith in ap (λ z. z % total) k ∙ add-mod_right (0 + (0 + i)) total)

module _ (total u v : ℕ) (l : u ≤ v) (h : v ≤ total) where
  -- the lines between, and the others
  abbrev pub met_lines : List ℕ
  met_lines = range_with_len u (v - u)

  -- the others, in their order round
  abbrev pub other_lines : List ℕ
  other_lines = range_with_len v (total - v) ++ range_with_len 0 u

  -- from the first one that meets
  pub from_first : lines_from total u ≡ met_lines ++ other_lines
  from_first =
      let e : total - u ≡ (v - u) + (total - v) = omega (arith, l, h) in
      let k : u + (v - u) ≡ v = omega (arith, l) in
      lines_from_is total u (omega (arith, l, h))
      ∙ (ap (λ z. range_with_len u z ++ range_with_len 0 u) e
      ∙ (ap (λ z. z ++ range_with_len 0 u) (range_join u (v - u) (total - v) ∙ ap (λ z. range_with_len u (v - u) ++ range_with_len z (total - v)) k)
      ∙ append_assoc (range_with_len u (v - u)) (range_with_len v (total - v)) (range_with_len 0 u)))

  -- from the first one after them
  pub from_second : lines_from total v ≡ other_lines ++ met_lines
  from_second =
      let e : v ≡ u + (v - u) = omega (arith, l) in
      let k : 0 + u ≡ u = omega arith in
      lines_from_is total v h
      ∙ (ap (λ z. range_with_len v (total - v) ++ range_with_len 0 z) e
      ∙ (ap (λ z. range_with_len v (total - v) ++ z) (range_join 0 u (v - u) ∙ ap (λ z. range_with_len 0 u ++ range_with_len z (v - u)) k)
      ∙ sym (append_assoc (range_with_len v (total - v)) (range_with_len 0 u) (range_with_len u (v - u)))))

-- the lines at the exit where a chord ends, and at the entry where it starts
abbrev pub lines_at_end : Sign → ℕ → ℕ → List ℕ
lines_at_end sign total v = map (λ i. line_with sign total v i) (below total)

-- and at its start
abbrev pub lines_at_start : Sign → ℕ → ℕ → List ℕ
lines_at_start sign total u = map (λ i. line_with sign total u (total - 1 - i)) (below total)

-- for a positive twist those met last come first
pub end_plus : (total v : ℕ) → lines_at_end Plus total v ≡ reverse (lines_from total v)
end_plus total v =
    map_moved (λ i. (v + total - 1 - i) % total) (λ i. (v + (total - 1 - i)) % total) 0 0 total (λ i h. ap (λ z. z % total) (let k : v + total - 1 - (0 + i) ≡ v + (total - 1 - (0 + i)) = omega (arith, h) in k))
    ∙ map_down (λ i. (v + i) % total) total

-- for a negative one they come in their order
pub end_minus : (total v : ℕ) → lines_at_end Minus total v ≡ lines_from total v
end_minus total v =
    map_moved (λ i. (v + total - 1 - (total - 1 - i)) % total) (λ i. (v + i) % total) 0 0 total (λ i h. ap (λ z. z % total) (let k : v + total - 1 - (total - 1 - (0 + i)) ≡ v + (0 + i) = omega (arith, h) in k))

-- at the start the other way
pub start_plus : (total u : ℕ) → lines_at_start Plus total u ≡ lines_from total u
start_plus total u =
    map_moved (λ i. (u + total - 1 - (total - 1 - i)) % total) (λ i. (u + i) % total) 0 0 total (λ i h. ap (λ z. z % total) (let k : u + total - 1 - (total - 1 - (0 + i)) ≡ u + (0 + i) = omega (arith, h) in k))

-- for both signs
pub start_minus : (total u : ℕ) → lines_at_start Minus total u ≡ reverse (lines_from total u)
start_minus total u =
    map_moved (λ i. (u + total - 1 - (total - 1 - (total - 1 - i))) % total) (λ i. (u + (total - 1 - i)) % total) 0 0 total
    (λ i h. ap (λ z. z % total) (let k : u + total - 1 - (total - 1 - (total - 1 - (0 + i))) ≡ u + (total - 1 - (0 + i)) = omega (arith, h) in k))
    ∙ map_down (λ i. (u + i) % total) total
