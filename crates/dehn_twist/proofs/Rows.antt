-- Exits that are the same, and places in rows.
use Rattle.std.proofs.Common.{◌≡◌, ◌≢◌, ℕ, zero, suc, ◌+◌, ◌-◌, ◌*◌, ◌<◌, Bool, true, false, cond, refl, sym, ◌∙◌, ap, ◌⊎◌, inl, inr, arith}
use Rattle.std.specs.List.{sum_by}
use Rattle.std.proofs.lemmas.Bool.{cases_lt, cases_order}
use Rattle.std.proofs.Math.Nat.{mul-suc, suc-mul}
use Rattle.obd_base.specs.Lists.{below}
use Rattle.obd_base.specs.declared.points.Exit.{Exit}
use Rattle.obd_base.proofs.lists.Sums.{sum_below_push}
use Rattle.page_surface.specs.Drawing.{is_at}
use Rattle.dehn_twist.proofs.CopyPlaces.{rows_split}
use Rattle.curve_paths.proofs.CurvePoints.{at_itself, at_parts}

-- two exits are the same
abbrev pub same : Exit → Exit → Bool
same e f = is_at e f.side f.place

-- they are the same or not
pub same_cases : (e f : Exit) → ((e ≡ f) × (same e f ≡ true)) ⊎ ((e ≢ f) × (same e f ≡ false))
same_cases e f = go (same e f) refl
  where
    go : (b : Bool) → same e f ≡ b → ((e ≡ f) × (same e f ≡ true)) ⊎ ((e ≢ f) × (same e f ≡ false))
    go true h = inl (at_parts e f.side f.place h, h)
    go false h = inr ((λ q. absurd (let z : cond {A = ℕ} true 1 0 ≡ cond false 1 0 = ap (λ b. cond b 1 0) (sym (ap (λ z. same e z) (sym q) ∙ at_itself e) ∙ h) in omega (arith, z))), h)

-- what is equal is the same
pub same_of : (e f : Exit) → e ≡ f → same e f ≡ true
same_of e f q = ap (λ z. same e z) (sym q) ∙ at_itself e

-- what is not equal is not
pub not_same : (e f : Exit) → e ≢ f → same e f ≡ false
not_same e f n = elim (same_cases e f) [ inl h ↦ absurd (n h.0) | inr h ↦ h.1 ]

-- the same summand so many times
pub sum_const : (v n : ℕ) → sum_by (λ (x : ℕ). v) (below n) ≡ v * n
sum_const v zero = let z : 0 ≡ v * 0 = omega arith in z
sum_const v (suc n) = omega (arith, sum_below_push (λ x. v) n, sum_const v n, mul-suc v n)

-- the number of a row and a place in it
pub in_rows : (m t a x : ℕ) → a < m → x < t → a * t + x < m * t
in_rows m t a x l h = let e = rows_split t m a l in omega (arith, e, h)

-- a place is told by its row and its place there
pub rows_same : (t a b x y : ℕ) → x < t → y < t → a * t + x ≡ b * t + y → (a ≡ b) × (x ≡ y)
rows_same t a b x y l h e = elim (cases_order a b) [
  | inl q ↦ (q, (let z : a * t ≡ b * t = ap (λ k. k * t) q in omega (arith, z, e)))
  | inr o ↦ elim o [
    | inl u ↦ absurd (let z = rows_split t b a u in omega (arith, z, e, l))
    | inr u ↦ absurd (let z = rows_split t a b u in omega (arith, z, e, h))
  ]
]

-- each place is in a row
pub row_of : (m t j : ℕ) → j < m * t → (a : ℕ) × (x : ℕ) × (a < m) × (x < t) × (j ≡ a * t + x)
row_of zero t j l = absurd (let z : 0 * t ≡ 0 = omega arith in omega (arith, z, l))
row_of (suc m) t j l = elim (cases_lt j (m * t)) [
  | inl h ↦ (let (a, x, la, lx, e) = row_of m t j h in (a, x, omega (arith, la), lx, e))
  | inr h ↦ (m, j - m * t, omega arith, omega (arith, suc-mul m t, l, h), omega (arith, h))
]
