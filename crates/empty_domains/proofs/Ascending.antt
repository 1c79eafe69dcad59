-- Numbers of which none stands twice, put in ascending order.
use Rattle.std.proofs.Common.{◌≡◌, ℕ, inl, inr, false, eqb, List, [], ◌∷◌, sym, ◌∙◌}
use Rattle.std.specs.Ordering.{nat_cmp}
use Rattle.std.specs.Prelude.{IsPermutation, IsSorted}
use Rattle.std.specs.List.{AllByRecursion, IsDistinct}
use Rattle.std.proofs.lemmas.Bool.{cases_eq, eq-eqb, ne_eqb}
use Rattle.std.proofs.lemmas.List.Sorted.{IsNonDecreasingBy-from_sort, list_any-IsPermutation}
use Rattle.std.proofs.lemmas.Map.Keys.{IsDistinct-IsPermutation, IsStrictlyIncreasing-from_distinct}
use Rattle.drawing.proofs.Lists.{has_mem, mem_has}
use Rattle.empty_domains.specs.Found.{IsAscending}
use Rattle.obd_base.specs.Lists.{Mem, Once}

-- what a sort makes of them
pub ascending_is : (xs ys : List ℕ) → Once xs → IsPermutation xs ys → IsSorted nat_cmp ys → IsAscending xs ys
unfolding IsDistinct
ascending_is xs ys once moved sorted = record {
  up = IsStrictlyIncreasing-from_distinct ys (IsNonDecreasingBy-from_sort (λ x. x) ys sorted) (IsDistinct-IsPermutation eqb flips xs ys moved (distinct xs once));
  back = λ p m. mem_has xs p (list_any-IsPermutation (eqb p) xs ys moved ∙ has_mem ys p m);
  all = λ p m. mem_has ys p (sym (list_any-IsPermutation (eqb p) xs ys moved) ∙ has_mem xs p m);
}
  where
    flips : (x y : ℕ) → eqb x y ≡ eqb y x
    flips x y = elim (cases_eq x y) [
      | inl e ↦ eq-eqb x y e ∙ sym (eq-eqb y x (sym e))
      | inr n ↦ ne_eqb x y n ∙ sym (ne_eqb y x (λ e. n (sym e)))
    ]

    apart : (x : ℕ) (xs : List ℕ) → (Mem x xs → ⊥) → AllByRecursion (λ y. eqb x y ≡ false) xs
    apart x [] away = tt
    apart x (y ∷ ys) away = (ne_eqb x y (λ e. away (inl e)), apart x ys (λ m. away (inr m)))

    distinct : (xs : List ℕ) → Once xs → IsDistinct eqb xs
    distinct [] once = tt
    distinct (x ∷ xs) once = (apart x xs once.0, distinct xs once.1)
