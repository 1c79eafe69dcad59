-- One effect, on chords: a finger has no crossing exactly where t lies in the piece of the chosen span at the chord's start.
use Rattle.std.proofs.Common.{◌≡◌, ℕ, suc, Bool, true, false, not, ◌||◌, List, ◌∷◌, map, refl, sym, ◌∙◌, subst, arith, inl, inr, ◌≢◌}
use Rattle.std.proofs.lemmas.Bool.{false≢true, true≢false, lt-ltb, le-ltb, cases_lt, cases_Bool}
use Rattle.obd_base.specs.Lists.{Mem}
use Rattle.page_surface.specs.Drawing.{Chord, beyond, differ}
use Rattle.drawing.specs.Pieces.{same_piece, separates}
use Rattle.drawing.proofs.SamePiece.{differ-false}
use Rattle.drawing.proofs.ChordTree.{Clear, same_from_each, beyond-suc}
use Rattle.drawing.proofs.fingers.Shift.{shift, early, shift_new, shift_swap}
use Rattle.drawing.proofs.fingers.Arranged.{Arranged, clear_sym, in_map, map_in, alike}
use Rattle.drawing.proofs.fingers.Finger.{carry, onto, turn, back, pushed, start, shift_apart, new_apart, carry_arranged, crosses_onto, crosses_back, crosses_parts, turn_uncrossed}

-- equal tests do not differ
pub differ_same : (b c : Bool) → b ≡ c → differ b c ≡ false
differ_same true c q = rw (sym q) refl
differ_same false c q = sym q

-- a chord that doesn't cross c sees one thing at both spans at its start
pub start_alike : (out : Bool) (e c : Chord) → Clear c e → beyond e (start out c) ≡ beyond e c.from
start_alike true e c q = refl
start_alike false e c q = beyond-suc e c.from (λ h. q.apart.0 (sym h)) (λ h. q.apart.1 (sym h))

-- what a finger needs: t lies in the piece of the chosen span at the chord's start
abbrev pub IsOpen : ℕ → Bool → Chord → List Chord → Type 0
IsOpen t out c es = same_piece (c ∷ es) (start out c) t ≡ true

open_alike : (t : ℕ) (out : Bool) (c : Chord) (es : List Chord) → Arranged (c ∷ es) → IsOpen t out c es → (e : Chord) → Mem e es → beyond e c.from ≡ beyond e t
open_alike t out c es ok h e i = sym (start_alike out e c (ok.1 e i)) ∙ alike (c ∷ es) (start out c) t h e (inr i)

-- both ends of a chord lie alike to one that is clear of it
pub ends_alike : (e c : Chord) → Clear c e → beyond e c.from ≡ beyond e c.to
ends_alike e c q = differ-false _ _ (clear_sym c e q).uncrossed

not_beyond : (t u x : ℕ) → (shift t u x ≢ early u t) × (shift t u x ≢ suc (early u t))
not_beyond t u x = rw (shift_swap t u x) (shift_new u t x)

onto_turn : (t u : ℕ) (out : Bool) (c : Chord) → t ≢ u → Clear (onto t u out c) (turn t u out)
onto_turn t u true c ne =
    let n = new_apart t u ne in
    let b = not_beyond t u c.from in
    record { apart = (b.0, b.1, n.2, n.3); uncrossed = turn_uncrossed t u true (onto t u true c) b.0 n.2 }
onto_turn t u false c ne =
    let n = new_apart t u ne in
    let b = not_beyond t u c.from in
    record { apart = (b.1, b.0, n.1, n.0); uncrossed = turn_uncrossed t u false (onto t u false c) b.0 n.0 }

back_turn : (t u : ℕ) (out : Bool) (c : Chord) → t ≢ u → Clear (back t u out c) (turn t u out)
back_turn t u true c ne =
    let n = new_apart t u ne in
    let b = not_beyond t u c.to in
    record { apart = (n.0, n.1, b.0, b.1); uncrossed = turn_uncrossed t u true (back t u true c) n.0 b.0 }
back_turn t u false c ne =
    let n = new_apart t u ne in
    let b = not_beyond t u c.to in
    record { apart = (n.3, n.2, b.1, b.0); uncrossed = turn_uncrossed t u false (back t u false c) n.2 b.0 }

carry_turn : (t u : ℕ) (out : Bool) (e : Chord) → Clear (carry t u e) (turn t u out)
carry_turn t u out e =
    let b = not_beyond t u e.from in
    let g = not_beyond t u e.to in
    record { apart = apart out b g; uncrossed = turn_uncrossed t u out (carry t u e) b.0 g.0 }
  where
    apart : (out : Bool) → (shift t u e.from ≢ early u t) × (shift t u e.from ≢ suc (early u t)) → (shift t u e.to ≢ early u t) × (shift t u e.to ≢ suc (early u t))
        → (shift t u e.from ≢ (turn t u out).from) × (shift t u e.from ≢ (turn t u out).to) × (shift t u e.to ≢ (turn t u out).from) × (shift t u e.to ≢ (turn t u out).to)
    apart true b g = (b.0, b.1, g.0, g.1)
    apart false b g = (b.1, b.0, g.1, g.0)

onto_back : (t u : ℕ) (out : Bool) (c : Chord) → c.from ≢ c.to → separates c (start out c) t ≡ false → Clear (onto t u out c) (back t u out c)
onto_back t u true c ne h = record {
  apart = ((shift_new t u c.from).0, shift_apart t u _ _ ne, λ q. absurd {A = ⊥} (omega (arith, q)), λ q. (shift_new t u c.to).1 (sym q));
  uncrossed = crosses_parts t u true c ne ∙ h;
}
onto_back t u false c ne h = record {
  apart = ((shift_new t u c.from).1, shift_apart t u _ _ ne, λ q. absurd {A = ⊥} (omega (arith, q)), λ q. (shift_new t u c.to).0 (sym q));
  uncrossed = crosses_parts t u false c ne ∙ h;
}

carry_onto : (t u : ℕ) (out : Bool) (e c : Chord) → Clear c e → beyond e c.from ≡ beyond e t → Clear (carry t u e) (onto t u out c)
carry_onto t u out e c q h = record { apart = apart out; uncrossed = crosses_onto t u out e c ∙ differ_same _ _ h }
  where
    apart : (out : Bool) → (shift t u e.from ≢ shift t u c.from) × (shift t u e.from ≢ (onto t u out c).to) × (shift t u e.to ≢ shift t u c.from) × (shift t u e.to ≢ (onto t u out c).to)
    apart true = (shift_apart t u _ _ (λ r. q.apart.0 (sym r)), (shift_new t u e.from).1, shift_apart t u _ _ (λ r. q.apart.1 (sym r)), (shift_new t u e.to).1)
    apart false = (shift_apart t u _ _ (λ r. q.apart.0 (sym r)), (shift_new t u e.from).0, shift_apart t u _ _ (λ r. q.apart.1 (sym r)), (shift_new t u e.to).0)

carry_back : (t u : ℕ) (out : Bool) (e c : Chord) → Clear c e → beyond e t ≡ beyond e c.to → Clear (carry t u e) (back t u out c)
carry_back t u out e c q h = record { apart = apart out; uncrossed = crosses_back t u out e c ∙ differ_same _ _ h }
  where
    apart : (out : Bool) → (shift t u e.from ≢ (back t u out c).from) × (shift t u e.from ≢ shift t u c.to) × (shift t u e.to ≢ (back t u out c).from) × (shift t u e.to ≢ shift t u c.to)
    apart true = ((shift_new t u e.from).0, shift_apart t u _ _ (λ r. q.apart.2 (sym r)), (shift_new t u e.to).0, shift_apart t u _ _ (λ r. q.apart.3 (sym r)))
    apart false = ((shift_new t u e.from).1, shift_apart t u _ _ (λ r. q.apart.2 (sym r)), (shift_new t u e.to).1, shift_apart t u _ _ (λ r. q.apart.3 (sym r)))

turn_proper : (t u : ℕ) (out : Bool) → (turn t u out).from ≢ (turn t u out).to
turn_proper t u true q = absurd {A = ⊥} (omega (arith, q))
turn_proper t u false q = absurd {A = ⊥} (omega (arith, q))

onto_proper : (t u : ℕ) (out : Bool) (c : Chord) → (onto t u out c).from ≢ (onto t u out c).to
onto_proper t u true c = (shift_new t u c.from).1
onto_proper t u false c = (shift_new t u c.from).0

back_proper : (t u : ℕ) (out : Bool) (c : Chord) → (back t u out c).from ≢ (back t u out c).to
back_proper t u true c q = (shift_new t u c.to).0 (sym q)
back_proper t u false c q = (shift_new t u c.to).1 (sym q)

-- the effect has no crossing
pub effect_arranged : (t u : ℕ) (out : Bool) (c : Chord) (es : List Chord) → t ≢ u → Arranged (c ∷ es) → IsOpen t out c es → Arranged (pushed t u out c es)
effect_arranged t u out c es ne ok h =
    (onto_proper t u out c, after_onto, (turn_proper t u out, after_turn, (back_proper t u out c, after_back, carry_arranged t u es ok.2)))
  where
    after_onto : (e : Chord) → Mem e (turn t u out ∷ back t u out c ∷ map (carry t u) es) → Clear (onto t u out c) e
    after_onto e i = elim i [
      | inl q ↦ subst (λ w. Clear (onto t u out c) w) (sym q) (onto_turn t u out c ne)
      | inr i ↦ elim i [
        | inl q ↦ subst (λ w. Clear (onto t u out c) w) (sym q) (onto_back t u out c ok.0 (differ_same _ _ (alike (c ∷ es) (start out c) t h c (inl refl))))
        | inr i ↦ let (x, k, q) = in_map (carry t u) e es i in
            subst (λ w. Clear (onto t u out c) w) (sym q) (clear_sym _ _ (carry_onto t u out x c (ok.1 x k) (open_alike t out c es ok h x k)))
      ]
    ]

    after_turn : (e : Chord) → Mem e (back t u out c ∷ map (carry t u) es) → Clear (turn t u out) e
    after_turn e i = elim i [
      | inl q ↦ subst (λ w. Clear (turn t u out) w) (sym q) (clear_sym _ _ (back_turn t u out c ne))
      | inr i ↦ let (x, k, q) = in_map (carry t u) e es i in
          subst (λ w. Clear (turn t u out) w) (sym q) (clear_sym _ _ (carry_turn t u out x))
    ]

    after_back : (e : Chord) → Mem e (map (carry t u) es) → Clear (back t u out c) e
    after_back e i =
        let (x, k, q) = in_map (carry t u) e es i in
        subst (λ w. Clear (back t u out c) w) (sym q)
        (clear_sym _ _ (carry_back t u out x c (ok.1 x k) (sym (open_alike t out c es ok h x k) ∙ ends_alike x c (ok.1 x k))))

-- and where the effect has no crossing, the finger was open
pub effect_open : (t u : ℕ) (out : Bool) (c : Chord) (es : List Chord) → Arranged (c ∷ es) → Arranged (pushed t u out c es) → IsOpen t out c es
effect_open t u out c es ok new = same_from_each (c ∷ es) (start out c) t each
  where
    each : (e : Chord) → Mem e (c ∷ es) → beyond e (start out c) ≡ beyond e t
    each e i = elim i [
      | inl q ↦ subst (λ w. beyond w (start out c) ≡ beyond w t) (sym q)
          (differ-false _ _ (sym (crosses_parts t u out c ok.0) ∙ (new.1 (back t u out c) (inr (inl refl))).uncrossed))
      | inr k ↦ start_alike out e c (ok.1 e k)
          ∙ differ-false _ _ (sym (crosses_onto t u out e c) ∙ (clear_sym _ _ (new.1 (carry t u e) (inr (inr (map_in (carry t u) e es k))))).uncrossed)
    ]

-- c separates the two spans at its start
pub start_apart : (c : Chord) → c.from ≢ c.to → beyond c (suc c.from) ≢ beyond c c.from
start_apart c ne q = elim (cases_lt c.from c.to) [
  | inl l ↦ false≢true (sym (rw (lt-ltb c.from (suc c.from) (omega arith), le-ltb c.to (suc c.from) (omega arith), le-ltb c.from c.from (omega arith), le-ltb c.to c.from (omega arith)) at q))
  | inr l ↦ true≢false (sym (rw (lt-ltb c.from (suc c.from) (omega arith), lt-ltb c.to (suc c.from) (omega arith), le-ltb c.from c.from (omega arith), lt-ltb c.to c.from (omega arith)) at q))
]

-- never both orders
pub never_both : (t : ℕ) (c : Chord) (es : List Chord) → Arranged (c ∷ es) → IsOpen t true c es → IsOpen t false c es → ⊥
never_both t c es ok h k = start_apart c ok.0 (alike (c ∷ es) (suc c.from) t k c (inl refl) ∙ sym (alike (c ∷ es) c.from t h c (inl refl)))

-- the chord borders the piece of span t
abbrev pub Borders : ℕ → Chord → List Chord → Type 0
Borders t c es = (same_piece (c ∷ es) c.from t || same_piece (c ∷ es) (suc c.from) t) ≡ true

-- which of the two orders a legal finger has
abbrev pub order : ℕ → Chord → List Chord → Bool
order t c es = same_piece (c ∷ es) c.from t

-- in that order a legal finger has no crossing
pub order_open : (t : ℕ) (c : Chord) (es : List Chord) → Borders t c es → IsOpen t (order t c es) c es
order_open t c es h = go (same_piece (c ∷ es) c.from t) refl h
  where
    go : (b : Bool) → same_piece (c ∷ es) c.from t ≡ b → (b || same_piece (c ∷ es) (suc c.from) t) ≡ true → same_piece (c ∷ es) (start b c) t ≡ true
    go true q h = q
    go false q h = h

-- a legal finger has an effect, in just one of the two orders, and an illegal one has none
pub one_effect : (t u : ℕ) (c : Chord) (es : List Chord) → t ≢ u → Arranged (c ∷ es) → Borders t c es
    → Arranged (pushed t u (order t c es) c es) × (Arranged (pushed t u (not (order t c es)) c es) → ⊥)
one_effect t u c es ne ok h =
    let o = order_open t c es h in
    (effect_arranged t u (order t c es) c es ne ok o, λ w. other (order t c es) o (effect_open t u (not (order t c es)) c es ok w))
  where
    other : (b : Bool) → IsOpen t b c es → IsOpen t (not b) c es → ⊥
    other true o w = never_both t c es ok o w
    other false o w = never_both t c es ok w o

-- where an order has no crossing the finger is legal
pub effect_legal : (t u : ℕ) (out : Bool) (c : Chord) (es : List Chord) → Arranged (c ∷ es) → Arranged (pushed t u out c es) → Borders t c es
effect_legal t u out c es ok new = go out (effect_open t u out c es ok new)
  where
    go : (out : Bool) → IsOpen t out c es → Borders t c es
    go true h = rw h refl
    go false h = elim (cases_Bool (same_piece (c ∷ es) c.from t)) [ inl q ↦ rw q refl | inr q ↦ rw q h ]
