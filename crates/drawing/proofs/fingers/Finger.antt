-- A finger on chords as pairs of numbers: chord c is pushed across span t and, beyond the side, span u (glued to t).
use Rattle.std.proofs.Common.{◌≡◌, ℕ, suc, Bool, true, false, cond, ltb, not, List, [], ◌∷◌, map, refl, sym, subst, arith, inl, inr, ◌≢◌}
use Rattle.std.proofs.lemmas.Bool.{lt-ltb, le-ltb, cases_lt}
use Rattle.page_surface.specs.Drawing.{Chord, beyond, crosses, differ}
use Rattle.drawing.specs.Pieces.{separates}
use Rattle.drawing.proofs.ChordTree.{Clear, beyond-suc}
use Rattle.drawing.proofs.fingers.Shift.{shift, early, shift_less, shift_test, shift_swap, below_early, below_late, early_below, late_below, early_apart}
use Rattle.drawing.proofs.fingers.Arranged.{Arranged, in_map}

-- a chord carried by the new numbers
abbrev pub carry : ℕ → ℕ → Chord → Chord
carry t u e = record { from = shift t u e.from; to = shift t u e.to }

-- the three parts of the pushed chord; `out`: the later of the two new points at t is passed first
abbrev pub onto : ℕ → ℕ → Bool → Chord → Chord
onto t u out c = record { from = shift t u c.from; to = cond out (suc (early t u)) (early t u) }

-- the part beyond the side
abbrev pub turn : ℕ → ℕ → Bool → Chord
turn t u out = record { from = cond out (early u t) (suc (early u t)); to = cond out (suc (early u t)) (early u t) }

-- the part from the side to the old end
abbrev pub back : ℕ → ℕ → Bool → Chord → Chord
back t u out c = record { from = cond out (early t u) (suc (early t u)); to = shift t u c.to }

-- all chords after chord c of c ∷ es was pushed
abbrev pub pushed : ℕ → ℕ → Bool → Chord → List Chord → List Chord
pushed t u out c es = onto t u out c ∷ turn t u out ∷ back t u out c ∷ map (carry t u) es

-- the span just before or just after the chord's first end
abbrev pub start : Bool → Chord → ℕ
start out c = cond out c.from (suc c.from)

-- a carried chord sees the new numbers at t as it saw t
pub sees_shift : (t u : ℕ) (e : Chord) (x : ℕ) → beyond (carry t u e) (shift t u x) ≡ beyond e x
sees_shift t u e x = rw (shift_test t u e.from x, shift_test t u e.to x)

-- the lesser new number at t
pub sees_early : (t u : ℕ) (e : Chord) → beyond (carry t u e) (early t u) ≡ beyond e t
sees_early t u e = rw (below_early t u e.from, below_early t u e.to)

-- the greater one
pub sees_late : (t u : ℕ) (e : Chord) → beyond (carry t u e) (suc (early t u)) ≡ beyond e t
sees_late t u e = rw (below_late t u e.from, below_late t u e.to)

-- the lesser new number at u
pub sees_early_beyond : (t u : ℕ) (e : Chord) → beyond (carry t u e) (early u t) ≡ beyond e u
sees_early_beyond t u e = rw (shift_swap t u e.from, shift_swap t u e.to, below_early u t e.from, below_early u t e.to)

-- the greater one
pub sees_late_beyond : (t u : ℕ) (e : Chord) → beyond (carry t u e) (suc (early u t)) ≡ beyond e u
sees_late_beyond t u e = rw (shift_swap t u e.from, shift_swap t u e.to, below_late u t e.from, below_late u t e.to)

-- which carried spans lie beyond the three parts
pub beyond_onto : (t u : ℕ) (out : Bool) (c : Chord) (s : ℕ) → beyond (onto t u out c) (shift t u s) ≡ differ (ltb c.from s) (not (ltb s t))
beyond_onto t u true c s = rw (shift_test t u c.from s, late_below t u s)
beyond_onto t u false c s = rw (shift_test t u c.from s, early_below t u s)

-- the last part
pub beyond_back : (t u : ℕ) (out : Bool) (c : Chord) (s : ℕ) → beyond (back t u out c) (shift t u s) ≡ differ (not (ltb s t)) (ltb c.to s)
beyond_back t u true c s = rw (shift_test t u c.to s, early_below t u s)
beyond_back t u false c s = rw (shift_test t u c.to s, late_below t u s)

-- the turn parts no carried spans
pub beyond_turn : (t u : ℕ) (out : Bool) (s : ℕ) → beyond (turn t u out) (shift t u s) ≡ false
beyond_turn t u out s = rw (shift_swap t u s) (go out)
  where
    twin : (b : Bool) → differ b b ≡ false
    twin true = refl
    twin false = refl

    go : (out : Bool) → beyond (turn t u out) (shift u t s) ≡ false
    go true = rw (early_below u t s, late_below u t s) (twin (not (ltb s u)))
    go false = rw (early_below u t s, late_below u t s) (twin (not (ltb s u)))

twins : (b : Bool) → differ b b ≡ false
twins true = refl
twins false = refl

-- the two new numbers at u, seen by a chord with no end there
pub turn_uncrossed : (t u : ℕ) (out : Bool) (e : Chord) → e.from ≢ early u t → e.to ≢ early u t → crosses e (turn t u out) ≡ false
turn_uncrossed t u true e h k = rw (beyond-suc e (early u t) h k) (twins (beyond e (early u t)))
turn_uncrossed t u false e h k = rw (beyond-suc e (early u t) h k) (twins (beyond e (early u t)))

-- both new points at t are apart from both at u
pub new_apart : (t u : ℕ) → t ≢ u → (early t u ≢ early u t) × (early t u ≢ suc (early u t)) × (suc (early t u) ≢ early u t) × (suc (early t u) ≢ suc (early u t))
new_apart t u ne = elim (cases_lt t u) [
  | inl l ↦ let f = early_apart t u l in (λ q. absurd {A = ⊥} (omega (arith, f, q)), λ q. absurd {A = ⊥} (omega (arith, f, q)), λ q. absurd {A = ⊥} (omega (arith, f, q)), λ q. absurd {A = ⊥} (omega (arith, f, q)))
  | inr l ↦ let f = early_apart u t (omega arith) in (λ q. absurd {A = ⊥} (omega (arith, f, q)), λ q. absurd {A = ⊥} (omega (arith, f, q)), λ q. absurd {A = ⊥} (omega (arith, f, q)), λ q. absurd {A = ⊥} (omega (arith, f, q)))
]

-- different numbers stay different
pub shift_apart : (t u x y : ℕ) → x ≢ y → shift t u x ≢ shift t u y
shift_apart t u x y ne q = elim (cases_lt x y) [
  | inl l ↦ absurd {A = ⊥} (omega (arith, shift_less t u x y l, q))
  | inr l ↦ absurd {A = ⊥} (omega (arith, shift_less t u y x (omega arith), q))
]

-- carried chords
carry_clear : (t u : ℕ) (e c : Chord) → Clear e c → Clear (carry t u e) (carry t u c)
carry_clear t u e c q = record {
  apart = (shift_apart t u _ _ q.apart.0, shift_apart t u _ _ q.apart.1, shift_apart t u _ _ q.apart.2, shift_apart t u _ _ q.apart.3);
  uncrossed = rw (sees_shift t u e c.from, sees_shift t u e c.to) q.uncrossed;
}

-- carried chords share no end and do not cross
pub carry_arranged : (t u : ℕ) (es : List Chord) → Arranged es → Arranged (map (carry t u) es)
carry_arranged t u [] ok = tt
carry_arranged t u (e ∷ es) ok =
    (shift_apart t u _ _ ok.0, λ x i. let (y, k, q) = in_map (carry t u) x es i in subst (λ w. Clear (carry t u e) w) (sym q) (carry_clear t u e y (ok.1 y k)), carry_arranged t u es ok.2)

-- a carried chord crosses the first part where it separates the chord's end from t
pub crosses_onto : (t u : ℕ) (out : Bool) (e c : Chord) → crosses (carry t u e) (onto t u out c) ≡ separates e c.from t
crosses_onto t u true e c = rw (sees_shift t u e c.from, sees_late t u e)
crosses_onto t u false e c = rw (sees_shift t u e c.from, sees_early t u e)

-- and the last part where it separates t from its other end
pub crosses_back : (t u : ℕ) (out : Bool) (e c : Chord) → crosses (carry t u e) (back t u out c) ≡ separates e t c.to
crosses_back t u true e c = rw (sees_shift t u e c.to, sees_early t u e)
crosses_back t u false e c = rw (sees_shift t u e c.to, sees_late t u e)

ltb_self : (x : ℕ) → ltb x x ≡ false
ltb_self x = le-ltb x x (omega arith)

-- the first and the last part cross where the chord separates t from the chosen span at its start
pub crosses_parts : (t u : ℕ) (out : Bool) (c : Chord) → c.from ≢ c.to → crosses (onto t u out c) (back t u out c) ≡ separates c (start out c) t
crosses_parts t u true c ne =
    rw (below_early t u c.from, le-ltb (suc (early t u)) (early t u) (omega arith), shift_test t u c.from c.to, late_below t u c.to, ltb_self c.from)
    (elim (cases_lt c.from c.to) [
      | inl l ↦ rw (lt-ltb c.from c.to l, le-ltb c.to c.from (omega arith)) (go (ltb c.from t) (ltb c.to t))
      | inr l ↦ rw (le-ltb c.from c.to l, lt-ltb c.to c.from (omega arith)) (go2 (ltb c.from t) (ltb c.to t))
    ])
  where
    go : (p r : Bool) → differ (differ p false) (differ true (not r)) ≡ differ (differ false false) (differ p r)
    go true true = refl
    go true false = refl
    go false true = refl
    go false false = refl

    go2 : (p r : Bool) → differ (differ p false) (differ false (not r)) ≡ differ (differ false true) (differ p r)
    go2 true true = refl
    go2 true false = refl
    go2 false true = refl
    go2 false false = refl
crosses_parts t u false c ne =
    rw (below_late t u c.from, lt-ltb (early t u) (suc (early t u)) (omega arith), shift_test t u c.from c.to, early_below t u c.to, lt-ltb c.from (suc c.from) (omega arith))
    (elim (cases_lt c.from c.to) [
      | inl l ↦ rw (lt-ltb c.from c.to l, le-ltb c.to (suc c.from) (omega arith)) (go (ltb c.from t) (ltb c.to t))
      | inr l ↦ rw (le-ltb c.from c.to l, lt-ltb c.to (suc c.from) (omega arith)) (go2 (ltb c.from t) (ltb c.to t))
    ])
  where
    go : (p r : Bool) → differ (differ p true) (differ true (not r)) ≡ differ (differ true false) (differ p r)
    go true true = refl
    go true false = refl
    go false true = refl
    go false false = refl

    go2 : (p r : Bool) → differ (differ p true) (differ false (not r)) ≡ differ (differ true true) (differ p r)
    go2 true true = refl
    go2 true false = refl
    go2 false true = refl
    go2 false false = refl
