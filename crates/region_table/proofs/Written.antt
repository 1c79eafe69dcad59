-- Lists that code writes entry by entry.
use Rattle.std.proofs.Common.{◌≡◌, ℕ, suc, ◌+◌, ◌<◌, ◌≤◌, List, [], ◌∷◌, map, length, get_or, set, refl, sym, ◌∙◌, ap₂, subst, arith, inl, inr}
use Rattle.std.proofs.lemmas.Bool.{cases_eq}
use Rattle.std.proofs.lemmas.List.{get_or-set_other, get_or-set_same}

-- one entry more is written
pub written_more : {X : Type 0} (z : X) (f : ℕ → X) (xs : List X) (n : ℕ) (x : X) → n < length xs → x ≡ f n → ((p : ℕ) → p < n → get_or xs p z ≡ f p)
    → (p : ℕ) → p < n + 1 → get_or (set xs n x) p z ≡ f p
written_more z f xs n x l is so_far p lp = elim (cases_eq p n) [
  | inl e ↦ subst (λ q. get_or (set xs n x) q z ≡ f q) (sym e) (get_or-set_same xs n x z l ∙ is)
  | inr ne ↦ get_or-set_other xs n p x z ne ∙ so_far p (omega (arith, lp, ne))
]

-- those behind it stay
pub left_more : {X : Type 0} (z : X) (xs old : List X) (n : ℕ) (x : X) → ((p : ℕ) → n ≤ p → get_or xs p z ≡ get_or old p z) → (p : ℕ) → n + 1 ≤ p → get_or (set xs n x) p z ≡ get_or old p z
left_more z xs old n x left p lp = get_or-set_other xs n p x z (λ e. absurd (omega (arith, lp, e))) ∙ left p (omega (arith, lp))

-- a list with what a function says of the items of another
pub map_of_entries : {X : Type 0} (d : X) (f : X → X) (xs ys : List X) → length ys ≡ length xs → ((p : ℕ) → p < length xs → get_or ys p d ≡ f (get_or xs p d)) → ys ≡ map f xs
map_of_entries d f [] [] e h = refl
map_of_entries d f [] (y ∷ ys) e h = absurd (omega (arith, e))
map_of_entries d f (x ∷ xs) [] e h = absurd (omega (arith, e))
map_of_entries d f (x ∷ xs) (y ∷ ys) e h = ap₂ (λ a b. a ∷ b) (h 0 (omega arith)) (map_of_entries d f xs ys (omega (arith, e)) (λ p l. h (suc p) (omega (arith, l))))
