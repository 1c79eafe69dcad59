-- Items with their numbers.
use Rattle.std.proofs.Common.{◌≡◌, ℕ, ◌+◌, suc, List, [], ◌∷◌, ◌++◌, length, sym, ◌∙◌, ap, arith, add-zero}
use Rattle.std.specs.List.{enumerate_from}

-- one more item, with its number
pub enumerated_more : {A : Type 0} (n : ℕ) (xs : List A) (x : A) → enumerate_from n (xs ++ x ∷ []) ≡ enumerate_from n xs ++ (n + length xs, x) ∷ []
enumerated_more n [] x = ap (λ (k : ℕ). (k, x) ∷ []) (sym (add-zero n))
enumerated_more n (y ∷ xs) x =
    let moved : n + 1 + length xs ≡ n + suc (length xs) = omega arith in
    ap (λ rest. (n, y) ∷ rest) (enumerated_more (n + 1) xs x ∙ ap (λ (k : ℕ). enumerate_from (n + 1) xs ++ (k, x) ∷ []) moved)
