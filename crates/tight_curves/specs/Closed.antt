-- Words of sides that are read round, and their cyclic reduced forms.
use Rattle.std.specs.Prelude.{◌≡◌, ℕ, suc, ◌*◌, ◌-◌, ◌⊎◌, cond, nat_eq, List, [], ◌∷◌, ◌++◌, map, length, drop, take}
use Rattle.obd_base.specs.declared.points.Exit.{Exit}
use Rattle.page_surface.specs.Polygon.{Polygon, partner}
use Rattle.page_surface.specs.Words.{Step, inverse, reduced}

-- the last letter k and the first letter p(k) are taken out
abbrev pub EndStep : Polygon → List ℕ → List ℕ → Type 0
EndStep p w v = (k : ℕ) × (w ≡ partner p k ∷ (v ++ (k ∷ [])))

-- a cyclic step takes out two letters k and p(k) that follow one another when the word is read round
abbrev pub CyclicStep : Polygon → List ℕ → List ℕ → Type 0
CyclicStep p w v = Step p w v ⊎ EndStep p w v

-- cyclic steps one after another
pub data CyclicSteps (p : Polygon) : List ℕ → List ℕ → Type 0 where
  none : {w : List ℕ} → CyclicSteps p w w
  more : {u v w : List ℕ} → CyclicStep p u v → CyclicSteps p v w → CyclicSteps p u w

-- no cyclic step is left
abbrev pub HasNoCyclicPair : Polygon → List ℕ → Type 0
HasNoCyclicPair p w = (v : List ℕ) → CyclicStep p w v → ⊥

-- a word that cyclic steps lead to and from which none leads on
pub record IsCyclicForm (p : Polygon) (w r : List ℕ) : Type 0 where
  pub reached : CyclicSteps p w r
  pub free : HasNoCyclicPair p r

-- one list is the other, read round from some place on
abbrev pub IsRotation : {A : Type 0} → List A → List A → Type 0
IsRotation {A} w v = (a : List A) × (b : List A) × (w ≡ a ++ b) × (v ≡ b ++ a)

-- how many letters two words share at the start
abbrev pub shared : List ℕ → List ℕ → ℕ
shared [] v = 0
shared (x ∷ w) [] = 0
shared (x ∷ w) (y ∷ v) = cond (nat_eq x y) (suc (shared w v)) 0

-- a word without the letters at its start that are undone at its end
abbrev pub trimmed : Polygon → List ℕ → List ℕ
trimmed p w = let t = shared w (inverse p w) in take (length w - 2 * t) (drop t w)

-- a cyclic reduced form, as it computes
abbrev pub cyclic_form : Polygon → List ℕ → List ℕ
cyclic_form p w = trimmed p (reduced p w)

-- the word of a curve
abbrev pub word_of : List Exit → List ℕ
word_of c = map (λ e. e.side) c
