-- Items made from places, taken number by number.
use Rattle.std.proofs.Common.{◌≡◌, ℕ, zero, suc, ◌+◌, List, [], ◌∷◌, ◌++◌, map, refl, sym, ap, ap₂, ◌∙◌, arith, append-nil}
use Rattle.std.specs.List.{flat_map, range_with_len, sum_by}
use Rattle.std.proofs.lemmas.List.{map-append}
use Rattle.std.proofs.lemmas.List.Concat.{flat_map-append}
use Rattle.obd_base.specs.Lists.{below}
use Rattle.obd_base.proofs.lists.Below.{below_push}
use Rattle.handle_slide.proofs.Steps.{base_suc}
use Rattle.curve_paths.proofs.PointPlaces.{range_join}

pub map_flat : {A B C : Type 0} (g : B → C) (f : A → List B) (xs : List A) → map g (flat_map f xs) ≡ flat_map (λ x. map g (f x)) xs
map_flat g f [] = refl
map_flat g f (x ∷ xs) = map-append g (f x) (flat_map f xs) ∙ ap (λ z. map g (f x) ++ z) (map_flat g f xs)

-- items by places, taken number by number
module _ {A : Type 0} (len : ℕ → ℕ) (g : ℕ → List A) where
  abbrev base : ℕ → ℕ
  base i = sum_by len (below i)

  shifted : (m a : ℕ) → flat_map g (range_with_len a m) ≡ flat_map (λ j. g (a + j)) (below m)
  shifted m a = ap (λ b. flat_map g (range_with_len b m)) (let e : a ≡ a + 0 = omega arith in e) ∙ go m a 0
    where
      go : (m a b : ℕ) → flat_map g (range_with_len (a + b) m) ≡ flat_map (λ j. g (a + j)) (range_with_len b m)
      go zero a b = refl
      go (suc m) a b = ap (λ z. g (a + b) ++ z) (ap (λ x. flat_map g (range_with_len x m)) (let e : a + b + 1 ≡ a + (b + 1) = omega arith in e) ∙ go m a (b + 1))

  pub by_numbers : (n : ℕ) → flat_map g (below (base n)) ≡ flat_map (λ i. flat_map (λ j. g (base i + j)) (below (len i))) (below n)
  by_numbers zero = refl
  by_numbers (suc n) =
      ap (λ m. flat_map g (below m)) (base_suc n len n)
      ∙ (ap (flat_map g) (range_join 0 (base n) (len n))
      ∙ (flat_map-append g (below (base n)) (range_with_len (0 + base n) (len n))
      ∙ (ap₂ (λ u v. u ++ v) (by_numbers n) (ap (λ a. flat_map g (range_with_len a (len n))) (let e : 0 + base n ≡ base n = omega arith in e) ∙ shifted (len n) (base n))
      ∙ (ap (λ z. flat_map (λ i. flat_map (λ j. g (base i + j)) (below (len i))) (below n) ++ z) (sym (append-nil (flat_map (λ j. g (base n + j)) (below (len n)))))
      ∙ sym (ap (flat_map (λ i. flat_map (λ j. g (base i + j)) (below (len i)))) (below_push n) ∙ flat_map-append (λ i. flat_map (λ j. g (base i + j)) (below (len i))) (below n) (n ∷ []))))))
