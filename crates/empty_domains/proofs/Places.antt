-- Sides and places of the numbers of the place order.
use Rattle.std.proofs.Common.{◌≡◌, ℕ, zero, suc, ◌+◌, ◌-◌, ◌≤◌, ◌<◌, ◌⊎◌, inl, inr, ◌≢◌, Bool, true, false, cond, ltb, List, [], ◌∷◌, refl, sym, ap, subst, arith, ◌∙◌, zero-add}
use Rattle.std.proofs.lemmas.Bool.{cases_eq, cases_lt, lt-ltb, le-ltb}
use Rattle.std.proofs.lemmas.List.Sums.{position_or_len_is}
use Rattle.std.proofs.lemmas.List.FromFn.{length-range_with_len, get_or-range_with_len}
use Rattle.drawing.proofs.Spots.{offset_suc}
use Rattle.drawing.specs.Round.{side_of, place_of, opposite}
use Rattle.obd_base.specs.Lists.{below}
use Rattle.page_surface.specs.Drawing.{Drawing, offset, points_on}
use Rattle.page_surface.specs.Polygon.{partner, sides}

-- a later side begins later
pub offset_up : (d : Drawing) (k l : ℕ) → k < l → offset d k + (points_on d k + 2) ≤ offset d l
offset_up d k zero h = absurd (omega arith)
offset_up d k (suc l) h = elim (cases_eq k l) [
  | inl e ↦ rw e (omega (arith, offset_suc d l))
  | inr n ↦ omega (arith, offset_suc d l, offset_up d k l (omega arith))
]

-- a number of the place order has one side and one place
pub place_unique : (d : Drawing) (k l i j : ℕ) → i < points_on d k + 2 → j < points_on d l + 2 → offset d k + i ≡ offset d l + j → (k ≡ l) × (i ≡ j)
place_unique d k l i j li lj e = elim (cases_eq k l) [
  | inl q ↦ (q, let e' : offset d l + i ≡ offset d l + j = rw q at e in omega arith)
  | inr n ↦ absurd (elim (cases_lt k l) [
    | inl h ↦ omega (arith, offset_up d k l h)
    | inr h ↦ omega (arith, offset_up d l k (omega arith))
  ])
]

-- each number of the place order has a side and a place
pub place_exists : (d : Drawing) (n s : ℕ) → s < offset d n → (k : ℕ) × (j : ℕ) × (k < n) × (j < points_on d k + 2) × (s ≡ offset d k + j)
place_exists d zero s l = absurd (omega arith)
place_exists d (suc n) s l = elim (cases_lt s (offset d n)) [
  | inl h ↦ (let (k, j, a, b, c) = place_exists d n s h in (k, j, omega arith, b, c))
  | inr h ↦ (n, s - offset d n, omega arith, omega (arith, offset_suc d n), omega arith)
]

-- the side of a place
pub side_is : (d : Drawing) (k j : ℕ) → k < sides d.polygon → j < points_on d k + 2 → side_of d (offset d k + j) ≡ k
side_is d k j lk lj =
    position_or_len_is (λ i. ltb (offset d k + j) (offset d (suc i))) (below (sides d.polygon)) k 0
    (rw length-range_with_len (omega arith)) before at
  where
    before : (i : ℕ) → i < k → ltb (offset d k + j) (offset d (suc (Rattle.std.proofs.Common.get_or (below (sides d.polygon)) i 0))) ≡ false
    before i l =
        let e = get_or-range_with_len 0 (sides d.polygon) i 0 (omega arith) ∙ zero-add i in
        rw e (le-ltb _ _ (omega (arith, offset_suc d i, offset_up d i k l)))

    at : k < Rattle.std.proofs.Common.length (below (sides d.polygon)) → ltb (offset d k + j) (offset d (suc (Rattle.std.proofs.Common.get_or (below (sides d.polygon)) k 0))) ≡ true
    at l =
        let e = get_or-range_with_len 0 (sides d.polygon) k 0 lk ∙ zero-add k in
        rw e (lt-ltb _ _ (omega (arith, offset_suc d k)))

-- and the place itself
pub place_is : (d : Drawing) (k j : ℕ) → k < sides d.polygon → j < points_on d k + 2 → place_of d (offset d k + j) ≡ j
place_is d k j lk lj = rw (side_is d k j lk lj) (omega arith)

-- the other name of a crossing point
pub opposite_is : (d : Drawing) (k j : ℕ) → k < sides d.polygon → j < points_on d k
    → opposite d (offset d k + j) ≡ offset d (partner d.polygon k) + (points_on d k - 1 - j)
opposite_is d k j lk lj = go (side_of d (offset d k + j)) (place_of d (offset d k + j)) (side_is d k j lk (omega arith)) (place_is d k j lk (omega arith))
  where
    go : (l i : ℕ) → l ≡ k → i ≡ j → offset d (partner d.polygon l) + cond (ltb i (points_on d l)) (points_on d l - 1 - i) (points_on d l)
        ≡ offset d (partner d.polygon k) + (points_on d k - 1 - j)
    go l i e q = rw (e, q, lt-ltb j (points_on d k) lj) refl

-- the other name of the end of a side
pub opposite_end : (d : Drawing) (k : ℕ) → k < sides d.polygon → opposite d (offset d k + points_on d k) ≡ offset d (partner d.polygon k) + points_on d k
opposite_end d k lk = go (side_of d x) (place_of d x) (side_is d k (points_on d k) lk (omega arith)) (place_is d k (points_on d k) lk (omega arith))
  where
    x : ℕ
    x = offset d k + points_on d k

    go : (l i : ℕ) → l ≡ k → i ≡ points_on d k → offset d (partner d.polygon l) + cond (ltb i (points_on d l)) (points_on d l - 1 - i) (points_on d l)
        ≡ offset d (partner d.polygon k) + points_on d k
    go l i e q = rw (q, e, le-ltb (points_on d k) (points_on d k) (omega arith)) refl
