-- The points of all sides in the place order, with numbers that rise.
use Rattle.std.proofs.Common.{◌≡◌, ℕ, zero, suc, ◌+◌, ◌<◌, ◌≤◌, List, [], ◌∷◌, ◌++◌, map, ◌∙◌, ap, ◌⊎◌, inl, inr, arith, add-zero}
use Rattle.std.specs.List.{flat_map, sum_by, range_with_len}
use Rattle.std.proofs.lemmas.List.Sums.{sum_by-append, sum_by-cons}
use Rattle.std.proofs.lemmas.Bool.{cases_order}
use Rattle.obd_base.specs.Lists.{below, Mem}
use Rattle.obd_base.specs.declared.points.Exit.{Exit}
use Rattle.page_surface.specs.Drawing.{exit}
use Rattle.obd_base.proofs.lists.Below.{mem_range, range_mem, range_push}
use Rattle.obd_base.proofs.lists.Members.{mem_map}
use Rattle.curve_paths.proofs.Members.{Rises, rises_join, mem_to_map, mem_flat_map, from_flat_map}

-- a range in two parts
pub range_join : (a m n : ℕ) → range_with_len a (m + n) ≡ range_with_len a m ++ range_with_len (a + m) n
range_join a zero n = let e : a ≡ a + 0 = omega arith in let f : 0 + n ≡ n = omega arith in
    ap (range_with_len a) f ∙ ap (λ z. range_with_len z n) e
range_join a (suc m) n =
    let e : suc m + n ≡ suc (m + n) = omega arith in
    let f : (a + 1) + m ≡ a + suc m = omega arith in
    ap (range_with_len a) e ∙ ap (λ z. a ∷ z) (range_join (a + 1) m n ∙ ap (λ z. range_with_len (a + 1) m ++ range_with_len z n) f)

module _ (count : ℕ → ℕ) where
  -- the number of the first point of a side
  abbrev pub start_of : ℕ → ℕ
  start_of k = sum_by (λ i. count i + 2) (below k)

  -- the number of a point
  abbrev pub number : Exit → ℕ
  number e = start_of e.side + e.place

  -- the start of the next side
  pub start_suc : (k : ℕ) → start_of (suc k) ≡ start_of k + (count k + 2)
  start_suc k =
      let e : 0 + k ≡ k = omega arith in
      let f : sum_by (λ i. count i + 2) (k ∷ []) ≡ count k + 2 = sum_by-cons (λ i. count i + 2) k [] ∙ add-zero (count k + 2) in
      ap (sum_by (λ i. count i + 2)) (range_push 0 k ∙ ap (λ z. below k ++ (z ∷ [])) e)
      ∙ (sum_by-append (λ i. count i + 2) (below k) (k ∷ []) ∙ ap (λ z. start_of k + z) f)

  -- starts rise
  pub starts_rise : (x y : ℕ) → x < y → start_of x + count x + 2 ≤ start_of y
  starts_rise x zero l = absurd (omega (arith, l))
  starts_rise x (suc y) l = elim (cases_order x y) [
    | inl e ↦ (let q : start_of x ≡ start_of y = ap start_of e in let r : count x ≡ count y = ap count e in omega (arith, start_suc y, q, r))
    | inr s ↦ elim s [
      | inl u ↦ (let r = starts_rise x y u in omega (arith, start_suc y, r))
      | inr u ↦ absurd (omega (arith, u, l))
    ]
  ]

  -- a point of a side, or its end
  abbrev pub Stands : Exit → Type 0
  Stands e = e.place ≤ count e.side

  -- points of one side, and of a later side
  pub less_number : (x y : Exit) → Stands x → (x.side < y.side) ⊎ ((x.side ≡ y.side) × (x.place < y.place)) → number x < number y
  less_number x y g (inl u) = let r = starts_rise x.side y.side u in omega (arith, r, g)
  less_number x y g (inr u) = let q : start_of x.side ≡ start_of y.side = ap start_of u.0 in omega (arith, q, u.1)

  -- a point is told by its number
  pub number_same : (x y : Exit) → Stands x → Stands y → number x ≡ number y → x ≡ y
  number_same x y g h e = elim (cases_order x.side y.side) [
    | inl q ↦ (let r : start_of x.side ≡ start_of y.side = ap start_of q in let s : x.place ≡ y.place = omega (arith, r, e) in same x y q s)
    | inr s ↦ elim s [
      | inl u ↦ absurd (let r = starts_rise x.side y.side u in omega (arith, r, e, g))
      | inr u ↦ absurd (let r = starts_rise y.side x.side u in omega (arith, r, e, h))
    ]
  ]
    where
      same : (x y : Exit) → x.side ≡ y.side → x.place ≡ y.place → x ≡ y
      same x y q s = ap (λ k. exit k x.place) q ∙ ap (exit y.side) s

  -- the points of a side from a place on
  abbrev pub points_from : ℕ → ℕ → ℕ → List Exit
  points_from k j n = map (exit k) (range_with_len j n)

  -- the points of successive sides
  abbrev pub points_of : ℕ → ℕ → List Exit
  points_of a n = flat_map (λ k. points_from k 0 (count k)) (range_with_len a n)

  -- the points of a side from a place on
  pub mem_points_from : (k j n x : ℕ) → j ≤ x → x < j + n → Mem (exit k x) (points_from k j n)
  mem_points_from k j n x l h = mem_to_map (exit k) x (range_with_len j n) (range_mem j n x l h)

  -- and no others
  pub from_points_from : (k j n : ℕ) (e : Exit) → Mem e (points_from k j n) → (e.side ≡ k) × (j ≤ e.place) × (e.place < j + n)
  from_points_from k j n e m =
      let r = mem_map (exit k) e (range_with_len j n) m in
      let b = mem_range j n r.0 r.1 in
      let q : e.place ≡ r.0 = ap (λ z. z.place) r.2 in
      (ap (λ z. z.side) r.2, omega (arith, b.0, q), omega (arith, b.1, q))

  -- the points of successive sides
  pub mem_points : (a n : ℕ) (e : Exit) → a ≤ e.side → e.side < a + n → e.place < count e.side → Mem e (points_of a n)
  mem_points a n e l h g = mem_flat_map (λ k. points_from k 0 (count k)) e e.side (range_with_len a n) (range_mem a n e.side l h)
      (mem_points_from e.side 0 (count e.side) e.place (omega arith) (omega (arith, g)))

  -- and no others
  pub from_points : (a n : ℕ) (e : Exit) → Mem e (points_of a n) → (a ≤ e.side) × (e.side < a + n) × (e.place < count e.side)
  from_points a n e m =
      let r = from_flat_map (λ k. points_from k 0 (count k)) e (range_with_len a n) m in
      let b = mem_range a n r.0 r.1 in
      let s = from_points_from r.0 0 (count r.0) e r.2 in
      let q : count e.side ≡ count r.0 = ap count s.0 in
      (omega (arith, b.0, s.0), omega (arith, b.1, s.0), omega (arith, s.2, q))

  -- their numbers rise along a side
  pub points_from_rise : (k j n : ℕ) → Rises number (points_from k j n)
  points_from_rise k j zero = tt
  points_from_rise k j (suc n) = (
    (λ y m. let r = from_points_from k (j + 1) n y m in let q : start_of y.side ≡ start_of k = ap start_of r.0 in omega (arith, r.1, q)),
    points_from_rise k (j + 1) n,
  )

  -- and from side to side
  pub points_rise : (a n : ℕ) → Rises number (points_of a n)
  points_rise a zero = tt
  points_rise a (suc n) = rises_join number (points_from a 0 (count a)) (points_of (a + 1) n) (points_from_rise a 0 (count a)) (points_rise (a + 1) n)
      (λ x y m k.
      let r = from_points_from a 0 (count a) x m in
      let s = from_points (a + 1) n y k in
      let q : count x.side ≡ count a = ap count r.0 in
      less_number x y (omega (arith, r.2, q)) (inl (omega (arith, r.0, s.0))))
