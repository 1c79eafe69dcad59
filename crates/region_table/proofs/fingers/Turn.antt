-- The numbers after a finger, and the turn that it makes beyond the segment.
use Rattle.std.proofs.Common.{◌≡◌, ℕ, suc, ◌+◌, ◌-◌, Bool, true, false, ltb, not, List, refl, sym, arith, ◌⊎◌, inl, inr, ◌≢◌}
use Rattle.std.proofs.lemmas.Bool.{false≢true, true≢false, lt-ltb, le-ltb, cases_lt, cases_eq, cases_Bool}
use Rattle.page_surface.specs.Drawing.{Chord, beyond, differ}
use Rattle.drawing.specs.Pieces.{same_piece}
use Rattle.drawing.proofs.fingers.Shift.{shift, early, rooms}
use Rattle.drawing.proofs.fingers.Finger.{turn, new_apart}

-- span t stands after its two new numbers
pub shift_own : (t u : ℕ) → shift t u t ≡ suc (suc (early t u))
shift_own t u = omega (arith, rooms t t)

-- so does span u
pub shift_other : (t u : ℕ) → shift t u u ≡ suc (suc (early u t))
shift_other t u = omega (arith, rooms u u)

-- every new number is carried or one of four
pub new_cases : (t u : ℕ) → t ≢ u → (w : ℕ) → ((r : ℕ) × (w ≡ shift t u r)) ⊎ ((w ≡ early t u) ⊎ ((w ≡ suc (early t u)) ⊎ ((w ≡ early u t) ⊎ (w ≡ suc (early u t)))))
new_cases t u ne w = elim (cases_lt t u) [
  | inl l ↦ elim (cases_lt w t) [
    | inl a ↦ inl (w, omega (arith, rooms w t, rooms w u))
    | inr a ↦ elim (cases_lt w (2 + t)) [
      | inl b ↦ elim (cases_eq w t) [ inl q ↦ inr (inl (omega (arith, rooms t u))) | inr q ↦ inr (inr (inl (omega (arith, rooms t u)))) ]
      | inr b ↦ elim (cases_lt w (2 + u)) [
        | inl d ↦ inl (w - 2, omega (arith, rooms (w - 2) t, rooms (w - 2) u))
        | inr d ↦ elim (cases_lt w (4 + u)) [
          | inl e ↦ elim (cases_eq w (2 + u)) [ inl q ↦ inr (inr (inr (inl (omega (arith, rooms u t))))) | inr q ↦ inr (inr (inr (inr (omega (arith, rooms u t))))) ]
          | inr e ↦ inl (w - 4, omega (arith, rooms (w - 4) t, rooms (w - 4) u))
        ]
      ]
    ]
  ]
  | inr l ↦ elim (cases_lt w u) [
    | inl a ↦ inl (w, omega (arith, rooms w t, rooms w u))
    | inr a ↦ elim (cases_lt w (2 + u)) [
      | inl b ↦ elim (cases_eq w u) [ inl q ↦ inr (inr (inr (inl (omega (arith, rooms u t))))) | inr q ↦ inr (inr (inr (inr (omega (arith, rooms u t))))) ]
      | inr b ↦ elim (cases_lt w (2 + t)) [
        | inl d ↦ inl (w - 2, omega (arith, rooms (w - 2) t, rooms (w - 2) u))
        | inr d ↦ elim (cases_lt w (4 + t)) [
          | inl e ↦ elim (cases_eq w (2 + t)) [ inl q ↦ inr (inl (omega (arith, rooms t u))) | inr q ↦ inr (inr (inl (omega (arith, rooms t u)))) ]
          | inr e ↦ inl (w - 4, omega (arith, rooms (w - 4) t, rooms (w - 4) u))
        ]
      ]
    ]
  ]
]

-- what does not lie in one piece
pub not_same : (cs : List Chord) (s t : ℕ) → (same_piece cs s t ≡ true → ⊥) → same_piece cs s t ≡ false
not_same cs s t n = elim (cases_Bool (same_piece cs s t)) [ inl q ↦ absurd (n q) | inr q ↦ q ]

-- the two ends of a chord lie on its two sides
pub two_ends : (c : Chord) → c.from ≢ c.to → beyond c c.from ≡ beyond c c.to → ⊥
two_ends c n q = elim (cases_lt c.from c.to) [
  | inl k ↦ false≢true (rw (le-ltb c.from c.from (omega arith), le-ltb c.to c.from (omega arith), lt-ltb c.from c.to k, le-ltb c.to c.to (omega arith)) at q)
  | inr k ↦ true≢false (rw (le-ltb c.from c.from (omega arith), lt-ltb c.to c.from (omega arith), le-ltb c.from c.to k, le-ltb c.to c.to (omega arith)) at q)
]

-- between two numbers that follow one another there is one
pub inside_two : (y w : ℕ) → differ (ltb y w) (ltb (suc y) w) ≡ true → w ≡ suc y
inside_two y w h = elim (cases_lt y w) [
  | inr k ↦ absurd (false≢true (rw (le-ltb y w k, le-ltb (suc y) w (omega arith)) at h))
  | inl k ↦ elim (cases_lt (suc y) w) [
    | inl m ↦ absurd (false≢true (rw (lt-ltb y w k, lt-ltb (suc y) w m) at h))
    | inr m ↦ omega arith
  ]
]

-- two tests differ either way round
pub swapped : (a b : Bool) → differ a b ≡ true → differ b a ≡ true
swapped true true h = h
swapped true false h = refl
swapped false true h = refl
swapped false false h = h

-- the turn has nothing but the tip beyond it
pub turn_only : (t u : ℕ) (out : Bool) (w : ℕ) → beyond (turn t u out) w ≡ true → w ≡ suc (early u t)
turn_only t u true w h = inside_two (early u t) w h
turn_only t u false w h = inside_two (early u t) w (swapped (ltb (suc (early u t)) w) (ltb (early u t) w) h)

-- the tip lies beyond it
pub turn_tip : (t u : ℕ) (out : Bool) → beyond (turn t u out) (suc (early u t)) ≡ true
turn_tip t u true = rw (lt-ltb (early u t) (suc (early u t)) (omega arith), le-ltb (suc (early u t)) (suc (early u t)) (omega arith)) refl
turn_tip t u false = rw (lt-ltb (early u t) (suc (early u t)) (omega arith), le-ltb (suc (early u t)) (suc (early u t)) (omega arith)) refl

-- the new number at t does not
pub turn_early : (t u : ℕ) (out : Bool) → t ≢ u → beyond (turn t u out) (early t u) ≡ false
turn_early t u out ne = elim (cases_Bool (beyond (turn t u out) (early t u))) [
  | inl q ↦ absurd ((new_apart t u ne).1 (turn_only t u out (early t u) q))
  | inr q ↦ q
]

-- of two tests that agree with two others together: they agree or disagree both
pub agree_both : (a b p q : Bool) → differ a b ≡ differ p q → a ≡ p → b ≡ q
agree_both a b true q h k = go b q (rw k at h)
  where
    go : (b q : Bool) → not b ≡ not q → b ≡ q
    go true true h = refl
    go true false h = sym h
    go false true h = sym h
    go false false h = refl
agree_both a b false q h k = rw k at h

-- and where the first two differ, so do the others
pub flip_both : (a b p q : Bool) → differ a b ≡ differ p q → differ a p ≡ true → (a ≡ differ p true) × (b ≡ differ true q)
flip_both true b true q h k = absurd (false≢true k)
flip_both true b false q h k = (refl, go b q h)
  where
    go : (b q : Bool) → not b ≡ q → b ≡ not q
    go true true h = sym h
    go true false h = refl
    go false true h = refl
    go false false h = sym h
flip_both false b true q h k = (refl, h)
flip_both false b false q h k = absurd (false≢true k)

-- no test is its own opposite
pub no_fixed : (b : Bool) → b ≡ differ b true → ⊥
no_fixed true q = true≢false q
no_fixed false q = false≢true q
