-- Lists of one length, one after the other in one list, in lexicographic order.
use Rattle.std.specs.Prelude.{◌≡◌, ◌⊎◌, ℕ, zero, suc, ◌<◌, List, [], ◌∷◌, length, slice_index_or, take, drop}
use Rattle.obd_base.specs.Lists.{Mem}

-- their length, and the lists
pub record Packed : Type 0 where
  pub width : ℕ
  pub lists : List (List ℕ)

-- the lists, so many of a length, that stand one after the other
abbrev pub rows : ℕ → ℕ → List ℕ → List (List ℕ)
rows width zero flat = []
rows width (suc count) flat = take width flat ∷ rows width count (drop width flat)

-- lexicographically before, for lists of one length
abbrev pub Before : List ℕ → List ℕ → Type 0
Before [] ys = ⊥
Before (x ∷ xs) [] = ⊥
Before (x ∷ xs) (y ∷ ys) = (x < y) ⊎ ((x ≡ y) × Before xs ys)

-- each list comes before all later ones
abbrev pub InOrder : List (List ℕ) → Type 0
InOrder [] = Unit {0}
InOrder (x ∷ xs) = ((y : List ℕ) → Mem y xs → Before x y) × InOrder xs

-- there is a list, and they come in order
pub record IsListed (lists : List (List ℕ)) : Type 0 where
  pub some : 0 < length lists
  pub ordered : InOrder lists

-- the list with this number
pub record IsNumberOf (lists : List (List ℕ)) (number : ℕ) (list : List ℕ) : Type 0 where
  pub inside : number < length lists
  pub here : slice_index_or lists number [] ≡ list
