-- A window of two spans: a number counted from the lesser of them on, in 32 bits, is below their distance where it lies between them.
use Rattle.std.proofs.Common.{◌≡◌, ℕ, ◌+◌, ◌-◌, ◌<◌, ◌≤◌, ◌^◌, ◌%◌, ltb, min, List, get_or, set, length, sym, ◌∙◌, ap, arith, subst, inl, inr}
use Rattle.std.proofs.lemmas.Bool.{cases_eq, cases_lt, le-ltb, lt-ltb}
use Rattle.std.proofs.lemmas.List.{get_or-set_other, get_or-set_same}
use Rattle.page_surface.specs.Drawing.{Drawing, IsPlaced, end_of, entry, exit, offset, points_on, spot}
use Rattle.page_surface.specs.Polygon.{partner, sides}
use Rattle.drawing.specs.Layout.{IsWritten}
use Rattle.drawing.specs.Pieces.{between}
use Rattle.drawing.specs.Window.{IsWindow}
use Rattle.drawing.proofs.LayoutTables.{offset_within}
use Rattle.drawing.proofs.Placed.{same_count-placed}
use Rattle.drawing.proofs.Spots.{offset_rises}

module _ (s t first count : ℕ) (is_first : first ≡ min s t) (is_count : count ≡ (s - t) + (t - s)) (small : first < 2 ^ 30) where
  -- a number counted from the lesser span on
  counted : (y w : ℕ) → y < 2 ^ 30 → count < 2 ^ 30 → (first ≤ y → w + first ≡ y) → (y < first → w + first ≡ y + 2 ^ 32) → ltb w count ≡ between s t y
  counted y w ly lc up down = elim (cases_lt y s) [
    | inl a ↦ elim (cases_lt y t) [
      | inl b ↦ rw (lt-ltb y s a, lt-ltb y t b) (le-ltb w count (omega (arith, a, b, ly, lc, down, is_first, is_count, small)))
      | inr b ↦ rw (lt-ltb y s a, le-ltb y t b) (lt-ltb w count (omega (arith, a, b, up, is_first, is_count, small)))
    ]
    | inr a ↦ elim (cases_lt y t) [
      | inl b ↦ rw (le-ltb y s a, lt-ltb y t b) (lt-ltb w count (omega (arith, a, b, up, is_first, is_count, small)))
      | inr b ↦ rw (le-ltb y s a, le-ltb y t b) (le-ltb w count (omega (arith, a, b, up, is_first, is_count, small)))
    ]
  ]

  -- a place added
  added : (o j : ℕ) → o + j < 2 ^ 30 → count < 2 ^ 30 → ltb (((o + (2 ^ 32 - first)) % 2 ^ 32 + j) % 2 ^ 32) count ≡ between s t (o + j)
  added o j l lc = counted (o + j) (((o + (2 ^ 32 - first)) % 2 ^ 32 + j) % 2 ^ 32) l lc (λ h. omega (arith, l, h, small)) (λ h. omega (arith, l, h, small))

  -- and a place taken, with one more
  taken : (o j : ℕ) → o < 2 ^ 30 → j < o → count < 2 ^ 30 → ltb (((o + (2 ^ 32 - (first + 1))) % 2 ^ 32 + (2 ^ 32 - j)) % 2 ^ 32) count ≡ between s t (o - 1 - j)
  taken o j l lj lc = counted (o - 1 - j) (((o + (2 ^ 32 - (first + 1))) % 2 ^ 32 + (2 ^ 32 - j)) % 2 ^ 32) (omega (arith, l)) lc (λ h. omega (arith, l, lj, h, small)) (λ h. omega (arith, l, lj, h, small))

  module _ (d : Drawing) (ok : IsPlaced d) (written : IsWritten d) (ls : s < 2 ^ 30) (lt : t < 2 ^ 30) (exits entries : List ℕ) (n : ℕ) (all : sides d.polygon ≤ n)
      (exits_size : length exits ≡ 16) (entries_size : length entries ≡ 16)
      (exits_are : (k : ℕ) → k < n → get_or exits k 0 ≡ (offset d k + (2 ^ 32 - first)) % 2 ^ 32)
      (entries_are : (k : ℕ) → k < n → get_or entries k 0 ≡ (spot d (end_of d (partner d.polygon k)) + (2 ^ 32 - (first + 1))) % 2 ^ 32) where
    -- numbers of points fit
    fits : (k j : ℕ) → k < sides d.polygon → j ≤ points_on d k → offset d k + j < 2 ^ 30
    fits k j lk lj = omega (arith, lj, offset_rises d k (sides d.polygon) lk, offset_within d (sides d.polygon) written (omega arith))

    near : count < 2 ^ 30
    near = omega (arith, is_count, ls, lt)

    -- the tables of all sides are a window's
    pub is_window : IsWindow d s t exits entries count
    is_window = record {
      exits_size = exits_size;
      entries_size = entries_size;
      leaves = λ k j lk lj.
          ap (λ (x : ℕ). ltb ((x + j) % 2 ^ 32) count) (exits_are k (omega (arith, lk, all))) ∙ added (offset d k) j (fits k j lk (omega (arith, lj))) near;
      enters = λ k j lk lj.
          let p = partner d.polygon k in
          let same = same_count-placed d ok k in
          let back : offset d p + points_on d p - 1 - j ≡ spot d (entry d (exit k j)) = omega (arith, same, lj) in
          ap (λ (x : ℕ). ltb ((x + (2 ^ 32 - j)) % 2 ^ 32) count) (entries_are k (omega (arith, lk, all)))
          ∙ (taken (offset d p + points_on d p) j (fits p (points_on d p) (ok.polygon.pairs.in_range k lk) (omega arith)) (omega (arith, same, lj)) near ∙ ap (between s t) back);
    }

-- one number more of a table
pub told_more : (g : ℕ → ℕ) (table : List ℕ) (n x : ℕ) → n < length table → ((k : ℕ) → k < n → get_or table k 0 ≡ g k) → x ≡ g n → (k : ℕ) → k < n + 1 → get_or (set table n x) k 0 ≡ g k
told_more g table n x there so_far is k l = elim (cases_eq k n) [
  | inl e ↦ subst (λ (m : ℕ). get_or (set table n x) m 0 ≡ g m) (sym e) (get_or-set_same table n x 0 there ∙ is)
  | inr ne ↦ get_or-set_other table n k x 0 ne ∙ so_far k (omega (arith, l, ne))
]
