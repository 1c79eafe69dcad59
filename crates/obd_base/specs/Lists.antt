-- Words on lists of numbers that the crates above share.
use Rattle.std.specs.Prelude.{◌≡◌, ◌⊎◌, ℕ, zero, suc, Bool, false, not, nat_eq, List, [], ◌∷◌, ◌++◌, map}
use Rattle.std.specs.List.{list_any, range_with_len}

-- the numbers below n
abbrev pub below : ℕ → List ℕ
below n = range_with_len 0 n

-- x stands in the list, as a fact
abbrev pub Mem : {A : Type 0} → A → List A → Type 0
Mem x [] = ⊥
Mem x (y ∷ ys) = (x ≡ y) ⊎ Mem x ys

-- no member stands twice
abbrev pub Once : {A : Type 0} → List A → Type 0
Once [] = Unit {0}
Once (x ∷ xs) = (Mem x xs → ⊥) × Once xs

-- x stands in the list, as a test
abbrev pub has : List ℕ → ℕ → Bool
has xs x = list_any (nat_eq x) xs

-- all parts of a list, each in the list's order
abbrev pub parts : {A : Type 0} → List A → List (List A)
parts [] = [] ∷ []
parts (x ∷ xs) = let rest = parts xs in rest ++ map (λ part. x ∷ part) rest

abbrev pub is_odd : ℕ → Bool
is_odd zero = false
is_odd (suc n) = not (is_odd n)
