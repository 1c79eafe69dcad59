-- Chords between numbers: a chord in place of two whose ends stand next to one another, and chords crossing either way.
use Rattle.std.proofs.Common.{◌≡◌, ℕ, ◌<◌, Bool, true, false, ltb, not, refl, sym, ◌∙◌, subst, ◌⊎◌, inl, inr, ◌≢◌, arith}
use Rattle.std.proofs.lemmas.Bool.{true≢false, lt-ltb, le-ltb, cases_lt}
use Rattle.page_surface.specs.Drawing.{Chord, beyond, crosses, differ}
use Rattle.curve_paths.proofs.ChordEnds.{chord}

-- a number that isn't one of u and v, nor between them
abbrev pub Outside : ℕ → ℕ → ℕ → Type 0
Outside u v y = ((y < u) × (y < v)) ⊎ ((u < y) × (v < y))

-- it is above both or above none
ltb_above : (u v y : ℕ) → Outside u v y → ltb u y ≡ ltb v y
ltb_above u v y (inl (a, b)) = rw (le-ltb u y (omega arith), le-ltb v y (omega arith)) refl
ltb_above u v y (inr (a, b)) = rw (lt-ltb u y a, lt-ltb v y b) refl

-- and below both or below none
ltb_below : (u v y : ℕ) → Outside u v y → ltb y u ≡ ltb y v
ltb_below u v y (inl (a, b)) = rw (lt-ltb y u a, lt-ltb y v b) refl
ltb_below u v y (inr (a, b)) = rw (le-ltb y u (omega arith), le-ltb y v (omega arith)) refl

-- two tests that agree with a third one agree
third : (b c f : Bool) → differ b c ≡ false → differ c f ≡ false → differ b f ≡ false
third true true f p q = q
third true false f p q = absurd (true≢false p)
third false true f p q = absurd (true≢false p)
third false false f p q = q

-- four tests compared in pairs
swap_parts : (a b c f : Bool) → differ (differ a b) (differ c f) ≡ differ (differ a c) (differ b f)
swap_parts true true true true = refl
swap_parts true true true false = refl
swap_parts true true false true = refl
swap_parts true true false false = refl
swap_parts true false true true = refl
swap_parts true false true false = refl
swap_parts true false false true = refl
swap_parts true false false false = refl
swap_parts false true true true = refl
swap_parts false true true false = refl
swap_parts false true false true = refl
swap_parts false true false false = refl
swap_parts false false true true = refl
swap_parts false false true false = refl
swap_parts false false false true = refl
swap_parts false false false false = refl

-- what crosses neither of two chords doesn't cross the chord between their other ends
pub crosses_joined : (e : Chord) (x u v y : ℕ) → Outside u v e.from → Outside u v e.to → crosses e (chord x u) ≡ false → crosses e (chord v y) ≡ false → crosses e (chord x y) ≡ false
crosses_joined e x u v y g h p q =
    let same : beyond e u ≡ beyond e v = rw (ltb_below u v e.from g, ltb_below u v e.to h) refl in
    third (beyond e x) (beyond e u) (beyond e y) p (subst (λ b. differ b (beyond e y) ≡ false) (sym same) q)

-- and the other way about
pub joined_crosses : (e : Chord) (x u v y : ℕ) → Outside u v e.from → Outside u v e.to → crosses (chord x u) e ≡ false → crosses (chord v y) e ≡ false → crosses (chord x y) e ≡ false
joined_crosses e x u v y g h p q =
    let p' = sym (swap_parts (ltb x e.from) (ltb u e.from) (ltb x e.to) (ltb u e.to)) in
    let q' = sym (swap_parts (ltb v e.from) (ltb y e.from) (ltb v e.to) (ltb y e.to)) in
    let same : differ (ltb u e.from) (ltb u e.to) ≡ differ (ltb v e.from) (ltb v e.to)
    = rw (ltb_above u v e.from g, ltb_above u v e.to h) refl in
    swap_parts (ltb x e.from) (ltb y e.from) (ltb x e.to) (ltb y e.to)
    ∙ third (differ (ltb x e.from) (ltb x e.to)) (differ (ltb u e.from) (ltb u e.to)) (differ (ltb y e.from) (ltb y e.to))
    (p' ∙ p) (subst (λ b. differ b (differ (ltb y e.from) (ltb y e.to)) ≡ false) (sym same) (q' ∙ q))

-- less one way is not less the other way, for two numbers
lt_flip : (a b : ℕ) → a ≢ b → ltb b a ≡ not (ltb a b)
lt_flip a b ne = elim (cases_lt a b) [
  | inl l ↦ rw (lt-ltb a b l) (le-ltb b a (omega arith))
  | inr l ↦ rw (le-ltb a b l) (lt-ltb b a (omega arith))
]

-- four tests, each turned
turned_tests : (a b c d : Bool) → differ (differ a b) (differ c d) ≡ differ (differ (not a) (not c)) (differ (not b) (not d))
turned_tests true true true true = refl
turned_tests true true true false = refl
turned_tests true true false true = refl
turned_tests true true false false = refl
turned_tests true false true true = refl
turned_tests true false true false = refl
turned_tests true false false true = refl
turned_tests true false false false = refl
turned_tests false true true true = refl
turned_tests false true true false = refl
turned_tests false true false true = refl
turned_tests false true false false = refl
turned_tests false false true true = refl
turned_tests false false true false = refl
turned_tests false false false true = refl
turned_tests false false false false = refl

-- two chords without a common end cross either way or not at all
pub cross_turned : (x y : Chord) → x.from ≢ y.from → x.from ≢ y.to → x.to ≢ y.from → x.to ≢ y.to → crosses x y ≡ crosses y x
cross_turned x y ff ft tf tt' =
    rw (lt_flip x.from y.from ff, lt_flip x.from y.to ft, lt_flip x.to y.from tf, lt_flip x.to y.to tt')
    (turned_tests (ltb x.from y.from) (ltb x.to y.from) (ltb x.from y.to) (ltb x.to y.to))
