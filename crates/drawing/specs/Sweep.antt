-- One sweep over the place order with a stack of open chords.
use Rattle.std.specs.Prelude.{ℕ, zero, suc, Bool, true, false, cond, nat_eq, nat_lt, ◌&&◌, List, [], ◌∷◌}

-- so many numbers from x on: a number that is its own mate is passed, a lesser end is pushed, and a greater end must find its mate on top
abbrev pub swept : (ℕ → ℕ) → ℕ → List ℕ → ℕ → Bool
swept mate zero stack x = true
swept mate (suc n) [] x = cond (nat_eq (mate x) x) (swept mate n [] (suc x)) (cond (nat_lt x (mate x)) (swept mate n (x ∷ []) (suc x)) false)
swept mate (suc n) (o ∷ stack) x =
    cond (nat_eq (mate x) x) (swept mate n (o ∷ stack) (suc x))
    (cond (nat_lt x (mate x)) (swept mate n (x ∷ o ∷ stack) (suc x)) (nat_eq o (mate x) && swept mate n stack (suc x)))
