-- The spans whose pieces a finger makes or changes, and what the three parts of the pushed chord see.
use Rattle.std.proofs.Common.{◌≡◌, ℕ, suc, ◌+◌, ◌-◌, Bool, true, false, cond, ltb, not, List, [], ◌∷◌, refl, sym, ◌∙◌, arith, ◌⊎◌, inl, inr, ◌≢◌}
use Rattle.std.specs.List.{list_any}
use Rattle.std.proofs.lemmas.Bool.{false≢true, true≢false, lt-ltb, le-ltb, cases_lt, cases_eq, cases_Bool}
use Rattle.page_surface.specs.Drawing.{Chord, beyond, differ}
use Rattle.drawing.specs.Pieces.{same_piece}
use Rattle.drawing.proofs.fingers.Shift.{shift, early, rooms}
use Rattle.drawing.proofs.fingers.Arranged.{Arranged, alike}
use Rattle.drawing.proofs.fingers.Finger.{turn, new_apart}
use Rattle.drawing.proofs.fingers.OneEffect.{IsOpen, start_apart}
use Rattle.finger_move.proofs.PushedNext.{near}

-- a piece is kept where its spans, each with both its bounds, are those of an old piece, carried; spans t and u lose a bound
pub record IsKept (t u : ℕ) (old new : List Chord) (z : ℕ) : Type 0 where
  pub span : ℕ
  pub carried : z ≡ shift t u span
  pub whole : (r : ℕ) → same_piece old span r ≡ true → (r ≢ t) × (r ≢ u) × (same_piece new z (shift t u r) ≡ true)
  pub only : (w : ℕ) → same_piece new z w ≡ true → (r : ℕ) × (w ≡ shift t u r) × (same_piece old span r ≡ true)

-- the five names: the two parts, behind the chord, beyond the segment, the tip
abbrev pub touched : ℕ → ℕ → List ℕ
touched t u = early t u ∷ shift t u t ∷ suc (early t u) ∷ early u t ∷ suc (early u t) ∷ []

-- how many pieces the named spans lie in
abbrev pub piece_count : List Chord → List ℕ → ℕ
piece_count cs [] = 0
piece_count cs (z ∷ zs) = cond (list_any (same_piece cs z) zs) 0 1 + piece_count cs zs

-- every new number is carried or one of four
pub new_cases : (t u : ℕ) → t ≢ u → (w : ℕ) → ((r : ℕ) × (w ≡ shift t u r)) ⊎ ((w ≡ early t u) ⊎ ((w ≡ suc (early t u)) ⊎ ((w ≡ early u t) ⊎ (w ≡ suc (early u t)))))
new_cases t u ne w = elim (cases_lt t u) [
  | inl l ↦ elim (cases_lt w t) [
    | inl a ↦ inl (w, omega (arith, rooms w t, rooms w u))
    | inr a ↦ elim (cases_lt w (2 + t)) [
      | inl b ↦ elim (cases_eq w t) [ inl q ↦ inr (inl (omega (arith, rooms t u))) | inr q ↦ inr (inr (inl (omega (arith, rooms t u)))) ]
      | inr b ↦ elim (cases_lt w (2 + u)) [
        | inl d ↦ inl (w - 2, omega (arith, rooms (w - 2) t, rooms (w - 2) u))
        | inr d ↦ elim (cases_lt w (4 + u)) [
          | inl e ↦ elim (cases_eq w (2 + u)) [ inl q ↦ inr (inr (inr (inl (omega (arith, rooms u t))))) | inr q ↦ inr (inr (inr (inr (omega (arith, rooms u t))))) ]
          | inr e ↦ inl (w - 4, omega (arith, rooms (w - 4) t, rooms (w - 4) u))
        ]
      ]
    ]
  ]
  | inr l ↦ elim (cases_lt w u) [
    | inl a ↦ inl (w, omega (arith, rooms w t, rooms w u))
    | inr a ↦ elim (cases_lt w (2 + u)) [
      | inl b ↦ elim (cases_eq w u) [ inl q ↦ inr (inr (inr (inl (omega (arith, rooms u t))))) | inr q ↦ inr (inr (inr (inr (omega (arith, rooms u t))))) ]
      | inr b ↦ elim (cases_lt w (2 + t)) [
        | inl d ↦ inl (w - 2, omega (arith, rooms (w - 2) t, rooms (w - 2) u))
        | inr d ↦ elim (cases_lt w (4 + t)) [
          | inl e ↦ elim (cases_eq w (2 + t)) [ inl q ↦ inr (inl (omega (arith, rooms t u))) | inr q ↦ inr (inr (inl (omega (arith, rooms t u)))) ]
          | inr e ↦ inl (w - 4, omega (arith, rooms (w - 4) t, rooms (w - 4) u))
        ]
      ]
    ]
  ]
]

-- two pieces, as a test
pub not_same : (cs : List Chord) (s t : ℕ) → (same_piece cs s t ≡ true → ⊥) → same_piece cs s t ≡ false
not_same cs s t n = elim (cases_Bool (same_piece cs s t)) [ inl q ↦ absurd (n q) | inr q ↦ q ]

pub two_ends : (c : Chord) → c.from ≢ c.to → beyond c c.from ≡ beyond c c.to → ⊥
two_ends c n q = elim (cases_lt c.from c.to) [
  | inl k ↦ false≢true (rw (le-ltb c.from c.from (omega arith), le-ltb c.to c.from (omega arith), lt-ltb c.from c.to k, le-ltb c.to c.to (omega arith)) at q)
  | inr k ↦ true≢false (rw (le-ltb c.from c.from (omega arith), lt-ltb c.to c.from (omega arith), le-ltb c.from c.to k, le-ltb c.to c.to (omega arith)) at q)
]

-- the span at the near end of the chord isn't in the piece of t
pub two_sides : (out : Bool) (c : Chord) (es : List Chord) (t : ℕ) → Arranged (c ∷ es) → IsOpen t out c es → same_piece (c ∷ es) (near out c) t ≡ true → ⊥
two_sides false c es t ok l h = start_apart c ok.0 (alike (c ∷ es) (suc c.from) t l c (inl refl) ∙ sym (alike (c ∷ es) c.from t h c (inl refl)))
two_sides true c es t ok l h = two_ends c ok.0 (alike (c ∷ es) c.from t l c (inl refl) ∙ sym (alike (c ∷ es) c.to t h c (inl refl)))

pub inside_two : (y w : ℕ) → differ (ltb y w) (ltb (suc y) w) ≡ true → w ≡ suc y
inside_two y w h = elim (cases_lt y w) [
  | inr k ↦ absurd (false≢true (rw (le-ltb y w k, le-ltb (suc y) w (omega arith)) at h))
  | inl k ↦ elim (cases_lt (suc y) w) [
    | inl m ↦ absurd (false≢true (rw (lt-ltb y w k, lt-ltb (suc y) w m) at h))
    | inr m ↦ omega arith
  ]
]

pub swapped : (a b : Bool) → differ a b ≡ true → differ b a ≡ true
swapped true true h = h
swapped true false h = refl
swapped false true h = refl
swapped false false h = h

-- the turn has nothing but the tip beyond it
pub turn_only : (t u : ℕ) (out : Bool) (w : ℕ) → beyond (turn t u out) w ≡ true → w ≡ suc (early u t)
turn_only t u true w h = inside_two (early u t) w h
turn_only t u false w h = inside_two (early u t) w (swapped (ltb (suc (early u t)) w) (ltb (early u t) w) h)

-- the tip lies beyond the turn
pub turn_tip : (t u : ℕ) (out : Bool) → beyond (turn t u out) (suc (early u t)) ≡ true
turn_tip t u true = rw (lt-ltb (early u t) (suc (early u t)) (omega arith), le-ltb (suc (early u t)) (suc (early u t)) (omega arith)) refl
turn_tip t u false = rw (lt-ltb (early u t) (suc (early u t)) (omega arith), le-ltb (suc (early u t)) (suc (early u t)) (omega arith)) refl

pub turn_early : (t u : ℕ) (out : Bool) → t ≢ u → beyond (turn t u out) (early t u) ≡ false
turn_early t u out ne = elim (cases_Bool (beyond (turn t u out) (early t u))) [
  | inl q ↦ absurd ((new_apart t u ne).1 (turn_only t u out (early t u) q))
  | inr q ↦ q
]

-- of two tests that agree with two others together: they agree or disagree both
pub agree_both : (a b p q : Bool) → differ a b ≡ differ p q → a ≡ p → b ≡ q
agree_both a b true q h k = go b q (rw k at h)
  where
    go : (b q : Bool) → not b ≡ not q → b ≡ q
    go true true h = refl
    go true false h = sym h
    go false true h = sym h
    go false false h = refl
agree_both a b false q h k = rw k at h

pub flip_both : (a b p q : Bool) → differ a b ≡ differ p q → differ a p ≡ true → (a ≡ differ p true) × (b ≡ differ true q)
flip_both true b true q h k = absurd (false≢true k)
flip_both true b false q h k = (refl, go b q h)
  where
    go : (b q : Bool) → not b ≡ q → b ≡ not q
    go true true h = sym h
    go true false h = refl
    go false true h = refl
    go false false h = sym h
flip_both false b true q h k = (refl, h)
flip_both false b false q h k = absurd (false≢true k)

pub no_fixed : (b : Bool) → b ≡ differ b true → ⊥
no_fixed true q = true≢false q
no_fixed false q = false≢true q
