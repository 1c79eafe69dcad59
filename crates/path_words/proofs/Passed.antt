-- The sides passed from gap to gap, as ranges.
use Rattle.std.proofs.Common.{◌≡◌, ℕ, zero, suc, ◌+◌, ◌-◌, ◌%◌, ◌<◌, ◌≤◌, ◌∷◌, ◌++◌, map, refl, ◌∙◌, ap, arith}
use Rattle.std.specs.List.{range_with_len}
use Rattle.std.proofs.lemmas.List.{map-append}
use Rattle.std.proofs.Math.Nat.{mod-eq_of_lt, mod-add-mod, add-mod_right}
use Rattle.curve_paths.specs.Curves.{passed, gap_before}
use Rattle.obd_base.specs.Lists.{below}
use Rattle.page_surface.specs.Polygon.{Polygon, sides}
use Rattle.curve_paths.proofs.PointPlaces.{range_join}

map_shift : (f : ℕ → ℕ) (a b n : ℕ) → ((i : ℕ) → a ≤ i → i < a + n → f i ≡ b + (i - a)) → map f (range_with_len a n) ≡ range_with_len b n
map_shift f a b zero h = refl
map_shift f a b (suc n) h =
    let e : f a ≡ b = h a (omega arith) (omega arith) ∙ (let z : b + (a - a) ≡ b = omega arith in z) in
    rw e (ap (λ z. b ∷ z) (map_shift f (a + 1) (b + 1) n (λ i l r. h i (omega (arith, l)) (omega (arith, r)) ∙ (let z : b + (i - a) ≡ (b + 1) + (i - (a + 1)) = omega (arith, l) in z))))

module _ (n : ℕ) where
  once_less : (x : ℕ) → x < n → (x + n) % n ≡ x
  once_less x l = add-mod_right x n ∙ mod-eq_of_lt l

module _ (p : Polygon) where
  abbrev n : ℕ
  n = sides p

  -- so many are passed to a later gap
  pub count_up : (u v : ℕ) → u ≤ v → v < sides p → (v + n - u) % n ≡ v - u
  count_up u v l h = let e : v + n - u ≡ (v - u) + n = omega (arith, l) in ap (λ z. z % n) e ∙ once_less n (v - u) (omega arith)

  -- to a later gap the sides between are passed
  pub passed_up : (u v : ℕ) → u ≤ v → v < sides p → passed p u v ≡ range_with_len (u + 1) (v - u)
  passed_up u v l h =
      let a : (v + n - u) % n ≡ v - u = count_up u v l h in
      let f = λ (i : ℕ). (u + 1 + i) % n in
      ap (λ z. map f (below z)) a ∙ map_shift f 0 (u + 1) (v - u) (λ i x y. mod-eq_of_lt (let r : u + 1 + i < n = omega (arith, y, h, l) in r) ∙ (let z : u + 1 + i ≡ (u + 1) + (i - 0) = omega arith in z))

  -- to an earlier one all up to the last side, and then from side 0 on
  pub passed_round : (u v : ℕ) → v < u → u < sides p → passed p u v ≡ range_with_len (u + 1) (n - 1 - u) ++ range_with_len 0 (v + 1)
  passed_round u v l h =
      let a : (v + n - u) % n ≡ (n - 1 - u) + (v + 1) = mod-eq_of_lt (let r : v + n - u < n = omega (arith, l, h) in r) ∙ (let z : v + n - u ≡ (n - 1 - u) + (v + 1) = omega (arith, l, h) in z) in
      let f = λ (i : ℕ). (u + 1 + i) % n in
      let one : map f (range_with_len 0 (n - 1 - u)) ≡ range_with_len (u + 1) (n - 1 - u) =
      map_shift f 0 (u + 1) (n - 1 - u) (λ i x y. mod-eq_of_lt (let r : u + 1 + i < n = omega (arith, y, h) in r) ∙ (let z : u + 1 + i ≡ (u + 1) + (i - 0) = omega arith in z)) in
      let two : map f (range_with_len (0 + (n - 1 - u)) (v + 1)) ≡ range_with_len 0 (v + 1) =
      map_shift f (0 + (n - 1 - u)) 0 (v + 1) (λ i x y.
      (let e : u + 1 + i ≡ (i - (0 + (n - 1 - u))) + n = omega (arith, x, h) in ap (λ z. z % n) e)
      ∙ (once_less n (i - (0 + (n - 1 - u))) (omega (arith, y, l, h)) ∙ (let z : i - (0 + (n - 1 - u)) ≡ 0 + (i - (0 + (n - 1 - u))) = omega arith in z))) in
      ap (λ z. map f (below z)) a ∙ (ap (map f) (range_join 0 (n - 1 - u) (v + 1))
      ∙ (map-append f (range_with_len 0 (n - 1 - u)) (range_with_len (0 + (n - 1 - u)) (v + 1))
      ∙ (ap (λ z. z ++ map f (range_with_len (0 + (n - 1 - u)) (v + 1))) one ∙ ap (λ z. range_with_len (u + 1) (n - 1 - u) ++ z) two)))

  -- and so many to an earlier one
  pub count_round : (u v : ℕ) → v < u → u < sides p → (v + n - u) % n ≡ v + n - u
  count_round u v l h = mod-eq_of_lt (let r : v + n - u < n = omega (arith, l, h) in r)

  -- the side after a side
  pub next_up : (s : ℕ) → s + 1 < sides p → (s + 1) % n ≡ s + 1
  next_up s l = mod-eq_of_lt l

  pub next_first : (s : ℕ) → s + 1 ≡ sides p → (s + 1) % n ≡ 0
  next_first s e = ap (λ z. z % n) e ∙ (let z : n ≡ 0 + n = omega arith in ap (λ y. y % n) z ∙ once_less n 0 (omega (arith, e)))

  -- the side passed after so many from a gap on is the next one
  pub next_passed : (u step s : ℕ) → s ≡ (u + step) % n → (s + 1) % n ≡ (u + 1 + step) % n
  next_passed u step s is =
      let e : u + step + 1 ≡ u + 1 + step = omega arith in
      ap (λ z. (z + 1) % n) is ∙ (mod-add-mod (u + step) n 1 ∙ ap (λ z. z % n) e)

  -- the gap before a side is that after the side before
  pub before_suc : (s : ℕ) → suc s < sides p → gap_before p (suc s) ≡ s
  before_suc s l = let e : suc s + n - 1 ≡ s + n = omega arith in ap (λ z. z % n) e ∙ once_less n s (omega (arith, l))

  pub before_later : (s : ℕ) → 0 < s → s < sides p → gap_before p s ≡ s - 1
  before_later zero some l = absurd (omega arith)
  before_later (suc s) some l = let one : s ≡ suc s - 1 = omega arith in before_suc s l ∙ one

  -- and before side 0 the last
  pub before_zero : 0 < sides p → gap_before p 0 ≡ n - 1
  before_zero l = mod-eq_of_lt (let r : 0 + n - 1 < n = omega (arith, l) in r) ∙ (let z : 0 + n - 1 ≡ n - 1 = omega arith in z)

  -- it is a gap
  pub before-less : (s : ℕ) → s < sides p → gap_before p s < sides p
  before-less zero l = let e = before_zero l in omega (arith, e, l)
  before-less (suc s) l = let e = before_suc s l in omega (arith, e, l)
