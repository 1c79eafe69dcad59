-- Words of sides, and their reduced forms.
use Rattle.std.specs.Prelude.{◌≡◌, ℕ, cond, nat_eq, List, [], ◌∷◌, ◌++◌, map, reverse}
use Rattle.page_surface.specs.Polygon.{Polygon, partner}

-- a step takes out two successive letters k and p(k)
abbrev pub Step : Polygon → List ℕ → List ℕ → Type 0
Step p w v = (a : List ℕ) × (b : List ℕ) × (k : ℕ) × (w ≡ a ++ (k ∷ partner p k ∷ b)) × (v ≡ a ++ b)

-- steps one after another
pub data Steps (p : Polygon) : List ℕ → List ℕ → Type 0 where
  none : {w : List ℕ} → Steps p w w
  more : {u v w : List ℕ} → Step p u v → Steps p v w → Steps p u w

-- no step is left
abbrev pub HasNoPair : Polygon → List ℕ → Type 0
HasNoPair p w = (v : List ℕ) → Step p w v → ⊥

-- the word that steps lead to and from which none leads on
pub record IsReducedForm (p : Polygon) (w r : List ℕ) : Type 0 where
  pub reached : Steps p w r
  pub free : HasNoPair p r

-- a letter set before a reduced word, and reduced
abbrev pub push_letter : Polygon → ℕ → List ℕ → List ℕ
push_letter p s [] = s ∷ []
push_letter p s (t ∷ w) = cond (nat_eq (partner p s) t) w (s ∷ t ∷ w)

-- the reduced form, as it computes
abbrev pub reduced : Polygon → List ℕ → List ℕ
reduced p [] = []
reduced p (s ∷ w) = push_letter p s (reduced p w)

-- the way back: the partners of the letters, the last first
abbrev pub inverse : Polygon → List ℕ → List ℕ
inverse p w = reverse (map (partner p) w)
