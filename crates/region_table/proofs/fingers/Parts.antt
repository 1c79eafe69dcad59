-- Which spans of the split piece come into the part in front: their numbers tell it.
use Rattle.std.proofs.Common.{◌≡◌, ℕ, Bool, true, false, not, ltb, List, ◌∷◌, refl, sym, ◌∙◌, ap, arith, inl, inr, ◌≢◌}
use Rattle.std.proofs.lemmas.Bool.{false≢true, le-ltb, true≢false}
use Rattle.page_surface.specs.Drawing.{Chord, differ}
use Rattle.drawing.specs.Pieces.{same_piece}
use Rattle.region_table.specs.FingerLists.{comes_in_front}
use Rattle.drawing.proofs.fingers.Arranged.{Arranged, alike}
use Rattle.drawing.proofs.fingers.Finger.{beyond_onto, onto, pushed}
use Rattle.drawing.proofs.fingers.OneEffect.{IsOpen}
use Rattle.region_table.proofs.fingers.Homes.{early_onto}
use Rattle.region_table.proofs.fingers.Kept.{in_parts}
use Rattle.drawing.proofs.fingers.Shift.{early, shift}

-- tests that are equal and not
same_test : (a b : Bool) → differ a (not b) ≡ true → a ≡ b
same_test true true h = refl
same_test true false h = absurd (false≢true h)
same_test false true h = absurd (false≢true h)
same_test false false h = refl

-- tests that differ
other_test : (a b : Bool) → differ a (not b) ≡ false → a ≡ not b
other_test true true h = absurd (true≢false h)
other_test true false h = refl
other_test false true h = refl
other_test false false h = absurd (true≢false h)

-- no test is its own opposite
never_not : (b : Bool) → b ≡ not b → ⊥
never_not true h = true≢false h
never_not false h = false≢true h

-- differing from a test that passes
differ_true : (b : Bool) → differ b true ≡ not b
differ_true true = refl
differ_true false = refl

module _ (t u : ℕ) (out : Bool) (c : Chord) (es : List Chord) (ne : t ≢ u) (ok : Arranged (c ∷ es)) (legal : IsOpen t out c es) (loop : same_piece (c ∷ es) t u ≡ false) where
  -- the chords before the finger
  abbrev old : List Chord
  old = c ∷ es

  -- and after it
  abbrev new : List Chord
  new = pushed t u out c es

  -- the chord's first part sees a span of the part in front as it sees the span there
  front_seen : (s : ℕ) → same_piece new (shift t u s) (early t u) ≡ true → differ (ltb c.from s) (not (ltb s t)) ≡ ltb c.from t
  front_seen s h = sym (beyond_onto t u out c s) ∙ (alike new (shift t u s) (early t u) h (onto t u out c) (inl refl) ∙ early_onto t u out c es out)

  -- and one of the other part otherwise
  back_seen : (s : ℕ) → same_piece new (shift t u s) (shift t u t) ≡ true → differ (ltb c.from s) (not (ltb s t)) ≡ not (ltb c.from t)
  back_seen s h =
      sym (beyond_onto t u out c s)
      ∙ (alike new (shift t u s) (shift t u t) h (onto t u out c) (inl refl)
      ∙ (beyond_onto t u out c t ∙ (ap (λ b. differ (ltb c.from t) (not b)) (le-ltb t t (omega arith)) ∙ differ_true (ltb c.from t))))

  -- so the numbers tell
  pub front_by_number : (s : ℕ) → same_piece old s t ≡ true → comes_in_front c.from t s ≡ true → same_piece new (shift t u s) (early t u) ≡ true
  front_by_number s h f = elim (in_parts t u out c es ne ok legal loop s h) [
    | inl q ↦ q
    | inr q ↦ absurd (never_not (ltb c.from t) (sym (same_test _ _ f) ∙ back_seen s q))
  ]

  -- and of the other part
  pub back_by_number : (s : ℕ) → same_piece old s t ≡ true → comes_in_front c.from t s ≡ false → same_piece new (shift t u s) (shift t u t) ≡ true
  back_by_number s h f = elim (in_parts t u out c es ne ok legal loop s h) [
    | inl q ↦ absurd (never_not (ltb c.from t) (sym (front_seen s q) ∙ other_test _ _ f))
    | inr q ↦ q
  ]
