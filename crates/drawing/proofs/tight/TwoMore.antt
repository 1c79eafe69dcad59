-- A drawing with two more points on a side and two more on another: how numbers of the place order move.
use Rattle.std.proofs.Common.{◌≡◌, ℕ, zero, suc, ◌+◌, ◌-◌, ◌*◌, ◌<◌, ◌≤◌, eqb, ltb, leb, ◌&&◌, refl, ap, arith, inl, inr, ◌≢◌}
use Rattle.std.proofs.lemmas.Bool.{cases_lt, cases_order, eq-eqb, ne_eqb, lt-ltb, le-ltb, le-leb, lt-leb}
use Rattle.obd_base.proofs.lists.Below.{bit}
use Rattle.obd_base.proofs.lists.Sums.{bit-le}
use Rattle.page_surface.specs.Drawing.{Drawing, offset, points_on}
use Rattle.drawing.specs.Turns.{lowered_place}
use Rattle.drawing.proofs.Spots.{offset_suc, offset_rises}

-- below the next number
bit_next : (a j : ℕ) → bit (ltb a (suc j)) ≡ bit (ltb a j) + bit (eqb a j)
bit_next a j = elim (cases_order a j) [
  | inl e ↦ rw (lt-ltb a (suc j) (omega arith), le-ltb a j (omega arith), eq-eqb a j e) (omega arith)
  | inr o ↦ elim o [
    | inl l ↦ rw (lt-ltb a (suc j) (omega arith), lt-ltb a j l, ne_eqb a j (λ q. omega arith)) (omega arith)
    | inr l ↦ rw (le-ltb a (suc j) (omega arith), le-ltb a j (omega arith), ne_eqb a j (λ q. omega arith)) (omega arith)
  ]
]

-- what is past a number stays so further on
bit_up : (a x y : ℕ) → x < y → bit (leb a x) ≤ bit (leb a y)
bit_up a x y l = elim (cases_lt x a) [
  | inl h ↦ rw (lt-leb a x h) (omega (arith, bit-le (leb a y)))
  | inr h ↦ rw (le-leb a x h, le-leb a y (omega arith)) (omega arith)
]

-- a place that is kept, lowered past two places, and raised again
pub lowered_raised : (s j : ℕ) → j ≢ s → j ≢ suc s → lowered_place s j + 2 * bit (leb s (lowered_place s j)) ≡ j
lowered_raised s j a b = elim (cases_lt j s) [
  | inl l ↦ rw (lt-ltb j s l, lt-leb s (j - 0) (omega arith)) (omega arith)
  | inr l ↦ rw (le-ltb j s l, le-leb s (j - 2) (omega arith)) (omega arith)
]

-- and its other name, on the partner
pub lowered_far : (s t m j : ℕ) → s + t ≡ m → j < m + 2 → j ≢ s → j ≢ suc s
    → (lowered_place s j < m) × ((m - 1 - lowered_place s j) + 2 * bit (leb t (m - 1 - lowered_place s j)) ≡ m + 2 - 1 - j)
lowered_far s t m j e h a b = elim (cases_lt j s) [
  | inl l ↦ (let p : lowered_place s j ≡ j = rw (lt-ltb j s l) (omega arith) in
      let q : bit (leb t (m - 1 - lowered_place s j)) ≡ 1 = rw (le-leb t (m - 1 - lowered_place s j) (omega (arith, p))) refl in
      (omega (arith, p), omega (arith, p, q)))
  | inr l ↦ (let p : lowered_place s j ≡ j - 2 = rw (le-ltb j s l) refl in
      let q : bit (leb t (m - 1 - lowered_place s j)) ≡ 0 = rw (lt-leb t (m - 1 - lowered_place s j) (omega (arith, p))) refl in
      (omega (arith, p), omega (arith, p, q)))
]

module _ (old new : Drawing) (k e s t : ℕ)
    (points : (l : ℕ) → points_on old l ≡ points_on new l + (2 * bit (eqb k l) + 2 * bit (eqb e l)))
    (near_in : s ≤ points_on new k) (far_in : t ≤ points_on new e) where
  -- the number in the old drawing of a number in the new one
  abbrev pub raised : ℕ → ℕ
  raised y = y + (2 * bit (leb (offset new k + s) y) + 2 * bit (leb (offset new e + t) y))

  -- which keeps the order
  pub raised_rises : (x y : ℕ) → x < y → raised x < raised y
  raised_rises x y l = omega (arith, bit_up (offset new k + s) x y l, bit_up (offset new e + t) x y l)

  -- where sides begin in the old drawing
  pub offset_old : (l : ℕ) → offset old l ≡ offset new l + (2 * bit (ltb k l) + 2 * bit (ltb e l))
  offset_old zero =
      let a : bit (ltb k 0) ≡ 0 = rw (le-ltb k 0 (omega arith)) refl in
      let b : bit (ltb e 0) ≡ 0 = rw (le-ltb e 0 (omega arith)) refl in
      let c : offset old 0 ≡ 0 = refl in
      let f : offset new 0 ≡ 0 = refl in
      omega (arith, a, b, c, f)
  offset_old (suc l) = omega (arith, offset_suc old l, offset_suc new l, offset_old l, points l, bit_next k l, bit_next e l)

  -- a place that comes after another one
  past : (q r l j : ℕ) → r ≤ points_on new q → j ≤ points_on new l + 1 → bit (leb (offset new q + r) (offset new l + j)) ≡ bit (ltb q l) + bit (eqb q l && leb r j)
  past q r l j hr hj = elim (cases_order q l) [
    | inl g ↦
        (let w : offset new q ≡ offset new l = ap (offset new) g in
        elim (cases_lt j r) [
          | inl h ↦ rw (lt-leb (offset new q + r) (offset new l + j) (omega arith), le-ltb q l (omega arith), eq-eqb q l g, lt-leb r j h) (omega arith)
          | inr h ↦ rw (le-leb (offset new q + r) (offset new l + j) (omega arith), le-ltb q l (omega arith), eq-eqb q l g, le-leb r j h) (omega arith)
        ])
    | inr o ↦ elim o [
      | inl h ↦ rw (le-leb (offset new q + r) (offset new l + j) (omega (arith, offset_rises new q l h)), lt-ltb q l h, ne_eqb q l (λ z. omega arith)) (omega arith)
      | inr h ↦ rw (lt-leb (offset new q + r) (offset new l + j) (omega (arith, offset_rises new l q h)), le-ltb q l (omega arith), ne_eqb q l (λ z. omega arith)) (omega arith)
    ]
  ]

  -- the place in the old drawing of a place in the new one
  abbrev pub raised_place : ℕ → ℕ → ℕ
  raised_place l j = j + (2 * bit (eqb k l && leb s j) + 2 * bit (eqb e l && leb t j))

  -- and its number
  pub raised_spot : (l j : ℕ) → j ≤ points_on new l + 1 → raised (offset new l + j) ≡ offset old l + raised_place l j
  raised_spot l j h = omega (arith, past k s l j near_in h, past e t l j far_in h, offset_old l)
