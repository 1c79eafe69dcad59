-- Sums over a list arranged in another order, filtered, and shifted round.
use Rattle.std.proofs.Common.{◌≡◌, ℕ, zero, suc, ◌+◌, ◌-◌, ◌*◌, Bool, true, false, cond, eqb, List, [], ◌∷◌, refl, sym, ◌∙◌, ap, inl, inr, arith}
use Rattle.std.specs.List.{filter, range_with_len, sum_by}
use Rattle.std.proofs.lemmas.Bool.{eq-eqb, ne_eqb}
use Rattle.std.proofs.lemmas.List.Sums.{sum_by-cons}
use Rattle.std.proofs.Math.Nat.{add-mul}
use Rattle.obd_base.specs.Lists.{Mem, below}
use Rattle.obd_base.proofs.lists.Below.{bit, mem_range}
use Rattle.obd_base.proofs.lists.Sums.{sum_below_push, sum_none, sum_same, sum_swap}
use Rattle.curve_paths.specs.Curves.{previous}
use Rattle.curve_paths.proofs.Members.{Rises}

-- the same summand wherever a test passes
pub sum_cond : {X : Type 0} (t : X → Bool) (g : ℕ) (xs : List X) → sum_by (λ x. cond (t x) g 0) xs ≡ sum_by (λ x. bit (t x)) xs * g
sum_cond t g [] = sym (let z : 0 * g ≡ 0 = omega arith in z)
sum_cond t g (x ∷ xs) =
    let ih = sum_cond t g xs in
    let a = sum_by-cons (λ x. cond (t x) g 0) x xs in
    let b = sum_by-cons (λ x. bit (t x)) x xs in
    a ∙ (ap (λ z. cond (t x) g 0 + z) ih ∙ (go (t x) ∙ ap (λ z. z * g) (sym b)))
  where
    go : (b : Bool) → cond b g 0 + sum_by (λ x. bit (t x)) xs * g ≡ (bit b + sum_by (λ x. bit (t x)) xs) * g
    go true = let s = sum_by (λ x. bit (t x)) xs in let z : (1 + s) * g ≡ g + s * g = suc_times s g in sym z
      where
        suc_times : (s g : ℕ) → (1 + s) * g ≡ g + s * g
        suc_times s g = let o : 1 * g ≡ g = omega arith in add-mul 1 s g ∙ ap (λ z. z + s * g) o
    go false =
        let z : 0 + sum_by (λ x. bit (t x)) xs ≡ sum_by (λ x. bit (t x)) xs = omega arith in
        let y : 0 + sum_by (λ x. bit (t x)) xs * g ≡ sum_by (λ x. bit (t x)) xs * g = omega arith in
        y ∙ sym (ap (λ y. y * g) z)

-- a sum over what passes a test
pub sum_filter : {X : Type 0} (t : X → Bool) (f : X → ℕ) (xs : List X) → sum_by f (filter t xs) ≡ sum_by (λ x. cond (t x) (f x) 0) xs
sum_filter t f [] = refl
sum_filter t f (x ∷ xs) = go (t x) (sum_filter t f xs) ∙ sym (sum_by-cons (λ x. cond (t x) (f x) 0) x xs)
  where
    go : (b : Bool) → sum_by f (filter t xs) ≡ sum_by (λ x. cond (t x) (f x) 0) xs
        → sum_by f (cond b (x ∷ filter t xs) (filter t xs)) ≡ cond b (f x) 0 + sum_by (λ x. cond (t x) (f x) 0) xs
    go true e = sum_by-cons f x (filter t xs) ∙ ap (λ z. f x + z) e
    go false e = omega (arith, e)

module _ {Y : Type 0} (num : Y → ℕ) (g : Y → ℕ) where
  -- the summand of the one member with a number
  pub sum_pick : (ys : List Y) → Rises num ys → (r : Y) → Mem r ys → sum_by (λ y. cond (eqb (num r) (num y)) (g y) 0) ys ≡ g r
  sum_pick [] h r m = absurd m
  sum_pick (y ∷ ys) h r (inl q) =
      let a = sum_by-cons (λ y. cond (eqb (num r) (num y)) (g y) 0) y ys in
      let e : cond (eqb (num r) (num y)) (g y) 0 ≡ g y = rw (eq-eqb (num r) (num y) (ap num q)) refl in
      let n : sum_by (λ y. cond (eqb (num r) (num y)) (g y) 0) ys ≡ 0 = sum_none _ ys (λ z m.
      let l = h.0 z m in let f : num r ≡ num y = ap num q in rw (ne_eqb (num r) (num z) (λ s. omega (arith, s, l, f))) refl) in
      let k : g y ≡ g r = ap g (sym q) in
      omega (arith, a, e, n, k)
  sum_pick (y ∷ ys) h r (inr m) =
      let a = sum_by-cons (λ y. cond (eqb (num r) (num y)) (g y) 0) y ys in
      let l = h.0 r m in
      let e : cond (eqb (num r) (num y)) (g y) 0 ≡ 0 = rw (ne_eqb (num r) (num y) (λ s. omega (arith, s, l))) refl in
      omega (arith, a, e, sum_pick ys h.1 r m)

  -- a list of members of which each one stands once
  pub sum_arranged : (zs ys : List Y) → Rises num ys → ((z : Y) → Mem z zs → Mem z ys) → ((y : Y) → Mem y ys → sum_by (λ z. bit (eqb (num z) (num y))) zs ≡ 1)
      → sum_by g zs ≡ sum_by g ys
  sum_arranged zs ys h inside once =
      sum_same g (λ z. sum_by (λ y. cond (eqb (num z) (num y)) (g y) 0) ys) zs (λ z m. sym (sum_pick ys h z (inside z m)))
      ∙ (sum_swap (λ z y. cond (eqb (num z) (num y)) (g y) 0) zs ys
      ∙ sum_same (λ y. sum_by (λ z. cond (eqb (num z) (num y)) (g y) 0) zs) g ys (λ y m.
      sum_cond (λ z. eqb (num z) (num y)) (g y) zs ∙ (ap (λ k. k * g y) (once y m) ∙ (let o : 1 * g y ≡ g y = omega arith in o))))

-- a sum over shifted numbers
sum_shift : (f : ℕ → ℕ) (a n : ℕ) → sum_by (λ i. f (i - 1)) (range_with_len (suc a) n) ≡ sum_by f (range_with_len a n)
sum_shift f a zero = refl
sum_shift f a (suc n) =
    let e : suc a + 1 ≡ suc (suc a) = omega arith in
    let h : a + 1 ≡ suc a = omega arith in
    let z : suc a - 1 ≡ a = omega arith in
    let k : f (suc a - 1) ≡ f a = ap f z in
    let one = sum_by-cons (λ i. f (i - 1)) (suc a) (range_with_len (suc a + 1) n) in
    let two = sum_by-cons f a (range_with_len (a + 1) n) in
    let ih : sum_by (λ i. f (i - 1)) (range_with_len (suc a + 1) n) ≡ sum_by f (range_with_len (a + 1) n)
    = ap (λ z. sum_by (λ i. f (i - 1)) (range_with_len z n)) e ∙ (sum_shift f (suc a) n ∙ ap (λ z. sum_by f (range_with_len z n)) (sym h)) in
    omega (arith, one, two, ih, k)

-- a sum over all numbers below n, each replaced by the one before it, round
pub sum_previous : (f : ℕ → ℕ) (n : ℕ) → sum_by (λ i. f (previous n i)) (below n) ≡ sum_by f (below n)
sum_previous f zero = refl
sum_previous f (suc n) =
    let m : suc n - 1 ≡ n = omega arith in
    let first : f (previous (suc n) 0) ≡ f n = ap f m in
    let a = sum_by-cons (λ i. f (previous (suc n) i)) 0 (range_with_len (0 + 1) n) in
    let o : 0 + 1 ≡ suc 0 = omega arith in
    let b : sum_by (λ i. f (previous (suc n) i)) (range_with_len (0 + 1) n) ≡ sum_by (λ i. f (i - 1)) (range_with_len (0 + 1) n)
    = sum_same _ _ (range_with_len (0 + 1) n) (λ i k. let r = mem_range (0 + 1) n i k in rw (ne_eqb i 0 (λ q. omega (arith, q, r))) refl) in
    let e : sum_by (λ i. f (i - 1)) (range_with_len (0 + 1) n) ≡ sum_by f (range_with_len 0 n) = ap (λ z. sum_by (λ i. f (i - 1)) (range_with_len z n)) o ∙ sum_shift f 0 n in
    omega (arith, a, first, b, e, sum_below_push f n)
