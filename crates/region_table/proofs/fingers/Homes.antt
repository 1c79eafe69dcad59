-- The pieces after a finger: each lies in one old piece, and old pieces but the split one stay whole.
use Rattle.std.proofs.Common.{◌≡◌, ℕ, suc, Bool, true, false, ltb, not, List, ◌∷◌, refl, sym, ◌∙◌, ap, subst, arith, inl, inr, ◌≢◌}
use Rattle.std.proofs.lemmas.Bool.{le-ltb}
use Rattle.page_surface.specs.Drawing.{Chord, beyond, differ}
use Rattle.drawing.specs.Pieces.{same_piece}
use Rattle.drawing.proofs.ChordTree.{same_from_each}
use Rattle.drawing.proofs.fingers.Shift.{shift, early, below_early}
use Rattle.drawing.proofs.fingers.Arranged.{Arranged, arranged_proper, alike}
use Rattle.drawing.proofs.fingers.Finger.{carry, onto, back, pushed, start, sees_shift, sees_early, beyond_onto, beyond_back, beyond_turn}
use Rattle.drawing.proofs.fingers.OneEffect.{IsOpen, start_alike, ends_alike}
use Rattle.region_table.proofs.fingers.Next.{near}
use Rattle.region_table.proofs.fingers.Sides.{sees, ends_constant, some_between, Near}
use Rattle.obd_base.specs.Lists.{Mem}
use Rattle.obd_base.proofs.lists.Members.{mem_map}
use Rattle.obd_base.proofs.lists.Members.{mem_to_map}

-- the chord's own test, put together from the two parts
parts_make : (p q r : Bool) → differ p q ≡ differ (differ p (not r)) (differ (not r) q)
parts_make true true true = refl
parts_make true true false = refl
parts_make true false true = refl
parts_make true false false = refl
parts_make false true true = refl
parts_make false true false = refl
parts_make false false true = refl
parts_make false false false = refl

-- two tests differ either way round
turn_differ : (p q : Bool) → differ p q ≡ differ q p
turn_differ true true = refl
turn_differ true false = refl
turn_differ false true = refl
turn_differ false false = refl

module _ (t u : ℕ) (out : Bool) (c : Chord) (es : List Chord) where
  -- the chords before the finger
  abbrev old : List Chord
  old = c ∷ es

  -- and after it
  abbrev new : List Chord
  new = pushed t u out c es

  -- the pushed chord sees a span as its two parts together do
  pub own : (s : ℕ) → beyond c s ≡ differ (beyond (onto t u out c) (shift t u s)) (beyond (back t u out c) (shift t u s))
  own s = rw (beyond_onto t u out c s, beyond_back t u out c s) (parts_make (ltb c.from s) (ltb c.to s) (ltb s t))

  -- a piece of carried spans lies in one old piece
  pub old_same : (s r : ℕ) → same_piece new (shift t u s) (shift t u r) ≡ true → same_piece old s r ≡ true
  old_same s r h = same_from_each old s r each
    where
      each : (e : Chord) → Mem e old → beyond e s ≡ beyond e r
      each e i = elim i [
        | inl q ↦ subst (λ w. beyond w s ≡ beyond w r) (sym q)
            (own s ∙ rw (alike new _ _ h (onto t u out c) (inl refl), alike new _ _ h (back t u out c) (inr (inr (inl refl)))) (sym (own r)))
        | inr k ↦ sym (sees_shift t u e s) ∙ alike new _ _ h (carry t u e) (inr (inr (inr (mem_to_map (carry t u) e es k)))) ∙ sees_shift t u e r
      ]

  -- how the first part sees the new number at t
  pub early_onto : (out : Bool) → beyond (onto t u out c) (early t u) ≡ ltb c.from t
  early_onto true = rw (below_early t u c.from, le-ltb (suc (early t u)) (early t u) (omega arith)) (go (ltb c.from t))
    where
      go : (b : Bool) → differ b false ≡ b
      go true = refl
      go false = refl
  early_onto false = rw (below_early t u c.from, le-ltb (early t u) (early t u) (omega arith)) (go (ltb c.from t))
    where
      go : (b : Bool) → differ b false ≡ b
      go true = refl
      go false = refl

  -- how the last part does
  pub early_back : (out : Bool) → beyond (back t u out c) (early t u) ≡ ltb c.to t
  early_back true = rw (below_early t u c.to, le-ltb (early t u) (early t u) (omega arith)) refl
  early_back false = rw (below_early t u c.to, le-ltb (suc (early t u)) (early t u) (omega arith)) refl

  -- and so does the first part of t
  pub old_early : (r : ℕ) → same_piece new (early t u) (shift t u r) ≡ true → same_piece old t r ≡ true
  old_early r h = same_from_each old t r each
    where
      each : (e : Chord) → Mem e old → beyond e t ≡ beyond e r
      each e i = elim i [
        | inl q ↦ subst (λ w. beyond w t ≡ beyond w r) (sym q)
            (ap (λ b. differ b (ltb c.to t)) (sym (early_onto out)) ∙ ap (λ b. differ (beyond (onto t u out c) (early t u)) b) (sym (early_back out))
            ∙ rw (alike new _ _ h (onto t u out c) (inl refl), alike new _ _ h (back t u out c) (inr (inr (inl refl)))) (sym (own r)))
        | inr k ↦ sym (sees_early t u e) ∙ alike new _ _ h (carry t u e) (inr (inr (inr (mem_to_map (carry t u) e es k)))) ∙ sees_shift t u e r
      ]

  module _ (ne : t ≢ u) (ok : Arranged (c ∷ es)) (legal : IsOpen t out c es) where
    -- both ends of c lie on t's side of every chord
    ends_near : (e : Chord) → Mem e old → Near e.from e.to t c.from × Near e.from e.to t c.to
    ends_near e i = elim i [
      | inl q ↦ subst (λ (w : Chord). Near w.from w.to t c.from × Near w.from w.to t c.to) (sym q) (inl refl, inr (inl refl))
      | inr k ↦
          let clear = ok.1 e k in
          let b : beyond e c.from ≡ beyond e t = sym (start_alike out e c clear) ∙ alike old (start out c) t legal e (inr k) in (
            inr (inr (clear.apart.0, clear.apart.1, b)),
            inr (inr (clear.apart.2, clear.apart.3, sym (ends_alike e c clear) ∙ b)),
          )
    ]

    -- an old piece that isn't split stays whole
    pub new_same : (s r : ℕ) → same_piece old s r ≡ true → same_piece old s t ≡ false → same_piece new (shift t u s) (shift t u r) ≡ true
    new_same s r h n = same_from_each new (shift t u s) (shift t u r) each
      where
        apart : (x : ℕ) → ((e : Chord) → Mem e old → Near e.from e.to t x) → sees x t s ≡ sees x t r
        apart x near =
            let (e, i, n) = some_between old s t n in
            ends_constant e.from e.to x t s r (arranged_proper old ok e i) (alike old s r h e i) (λ q. n (sym q)) (near e i)

        each : (e : Chord) → Mem e new → beyond e (shift t u s) ≡ beyond e (shift t u r)
        each e i = elim i [
          | inl q ↦ subst (λ w. beyond w (shift t u s) ≡ beyond w (shift t u r)) (sym q)
              (beyond_onto t u out c s ∙ apart c.from (λ e i. (ends_near e i).0) ∙ sym (beyond_onto t u out c r))
          | inr i ↦ elim i [
            | inl q ↦ subst (λ w. beyond w (shift t u s) ≡ beyond w (shift t u r)) (sym q) (beyond_turn t u out s ∙ sym (beyond_turn t u out r))
            | inr i ↦ elim i [
              | inl q ↦ subst (λ w. beyond w (shift t u s) ≡ beyond w (shift t u r)) (sym q)
                  (beyond_back t u out c s ∙ turn_differ (not (ltb s t)) (ltb c.to s) ∙ apart c.to (λ e i. (ends_near e i).1)
                  ∙ turn_differ (ltb c.to r) (not (ltb r t)) ∙ sym (beyond_back t u out c r))
              | inr i ↦ (let (y, k, q) = mem_map (carry t u) e es i in
                  subst (λ w. beyond w (shift t u s) ≡ beyond w (shift t u r)) (sym q)
                  (sees_shift t u y s ∙ alike old s r h y (inr k) ∙ sym (sees_shift t u y r)))
            ]
          ]
        ]
