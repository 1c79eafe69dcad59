-- Two strands that enter side by side and don't cross: the one that entered later comes first among the goals.
use Rattle.std.proofs.Common.{◌≡◌, ℕ, ◌+◌, ◌-◌, ◌<◌, ◌≤◌, false, cond, ltb, leb, not, sym, ap, arith, ◌⊎◌, inl, inr, ◌≢◌}
use Rattle.std.proofs.lemmas.Bool.{true≢false, lt-ltb, le-ltb, le-leb, lt-leb, cases_order, ltb-true, not-false}
use Rattle.page_surface.specs.Drawing.{crosses}
use Rattle.drawing.proofs.SweepTest.{chord}

-- how far round a side lies after side e
abbrev pub round : ℕ → ℕ → ℕ → ℕ
round n e x = cond (leb e x) (x - e) (x + n - e)

-- a side after e is so far round as it is past e
round_up : (n e x : ℕ) → e ≤ x → round n e x ≡ x - e
round_up n e x l = rw (le-leb e x l)

-- a side before e comes after the rest of the round
round_down : (n e x : ℕ) → x < e → round n e x ≡ x + n - e
round_down n e x l = rw (lt-leb e x l)

-- two chords that go up and do not cross end in the order of their starts, the later start first
order_up : (p1 p2 q1 q2 : ℕ) → p2 < p1 → p1 < q1 → p1 < q2 → crosses (chord p1 q1) (chord p2 q2) ≡ false → q1 < q2
order_up p1 p2 q1 q2 a b c h =
    let k : not (ltb q1 q2) ≡ false = rw (le-ltb p1 p2 (omega arith), le-ltb q1 p2 (omega arith), lt-ltb p1 q2 c) at h in
    ltb-true q1 q2 (not-false _ k)

-- and so do two that go down
order_down : (p1 p2 q1 q2 : ℕ) → p2 < p1 → q1 < p2 → q2 < p2 → crosses (chord p1 q1) (chord p2 q2) ≡ false → q1 < q2
order_down p1 p2 q1 q2 a b c h =
    let k : not (ltb q1 q2) ≡ false = rw (le-ltb p1 p2 (omega arith), lt-ltb q1 p2 b, le-ltb p1 q2 (omega arith)) at h in
    ltb-true q1 q2 (not-false _ k)

-- a chord that goes down and one that goes up from an earlier start would cross
order_mixed : (p1 p2 q1 q2 : ℕ) → p2 < p1 → q1 < p2 → p1 < q2 → crosses (chord p1 q1) (chord p2 q2) ≡ false → ⊥
order_mixed p1 p2 q1 q2 a b c h =
    true≢false (rw (le-ltb p1 p2 (omega arith), lt-ltb q1 p2 b, lt-ltb p1 q2 c, lt-ltb q1 q2 (omega arith)) at h)

module _ (n : ℕ) (count : ℕ → ℕ) (offset : ℕ → ℕ) (rises : (x y : ℕ) → x < y → offset x + count x + 2 ≤ offset y) where
  -- a point of a side, or its end
  pub record At (e x b q : ℕ) : Type 0 where
    pub below : x < n
    pub place : b ≤ count x
    pub number : q ≡ offset x + b
    pub turns : x ≡ e → b ≡ count x

  -- where both go up, or both go round
  later : (e x y b c q r : ℕ) → At e x b q → At e y c r → q < r → (x < y) ⊎ ((x ≡ y) × (b < c))
  later e x y b c q r g h l = elim (cases_order x y) [
    | inl s ↦ inr (s, let w : offset x ≡ offset y = ap offset s in omega (arith, g.number, h.number, w))
    | inr s ↦ elim s [
      | inl u ↦ inl u
      | inr u ↦ absurd (omega (arith, rises y x u, g.number, h.number, h.place))
    ]
  ]

  -- the strand from the later point has the earlier goal, or the same side and the earlier point of it
  pub goals_in_order : (e a1 a2 x1 x2 b1 b2 q1 q2 : ℕ) → e < n → a2 < a1 → a1 < count e → At e x1 b1 q1 → At e x2 b2 q2 → q1 ≢ q2
      → crosses (record { from = offset e + a1; to = q1 }) (record { from = offset e + a2; to = q2 }) ≡ false
      → (round n e x1 < round n e x2) ⊎ ((x1 ≡ x2) × (b1 < b2))
  goals_in_order e a1 a2 x1 x2 b1 b2 q1 q2 le lt lc g h ne nc =
      elim (side_of x1 b1 q1 g) [
        | inl u1 ↦ elim (side_of x2 b2 q2 h) [
          | inl u2 ↦ elim (later e x1 x2 b1 b2 q1 q2 g h (order_up (offset e + a1) (offset e + a2) q1 q2 (omega arith) (omega arith) (omega arith) nc)) [
            | inl s ↦ inl (omega (arith, round_up n e x1 u1.0, round_up n e x2 u2.0))
            | inr s ↦ inr s
          ]
          | inr d2 ↦ inl (omega (arith, round_up n e x1 u1.0, round_down n e x2 d2.0, g.below))
        ]
        | inr d1 ↦ elim (side_of x2 b2 q2 h) [
          | inl u2 ↦ absurd (order_mixed (offset e + a1) (offset e + a2) q1 q2 (omega arith) (omega arith) (omega arith) nc)
          | inr d2 ↦ elim (later e x1 x2 b1 b2 q1 q2 g h (order_down (offset e + a1) (offset e + a2) q1 q2 (omega arith) (omega arith) (omega arith) nc)) [
            | inl s ↦ inl (omega (arith, round_down n e x1 d1.0, round_down n e x2 d2.0, h.below))
            | inr s ↦ inr s
          ]
        ]
      ]
    where
      side_of : (x b q : ℕ) → At e x b q → ((e ≤ x) × (offset e + count e ≤ q)) ⊎ ((x < e) × (q < offset e))
      side_of x b q g = elim (cases_order e x) [
        | inl s ↦ inl (omega arith, (let w : offset e ≡ offset x = ap offset s in let v : count e ≡ count x = ap count s in omega (arith, g.number, g.turns (sym s), w, v)))
        | inr s ↦ elim s [
          | inl u ↦ inl (omega arith, omega (arith, rises e x u, g.number))
          | inr u ↦ inr (u, omega (arith, rises x e u, g.number, g.place))
        ]
      ]
