-- The first place in a list that passes a test, and how many places do.
use Rattle.std.proofs.Common.{◌≡◌, ℕ, zero, suc, ◌+◌, ◌<◌, ◌≤◌, Bool, true, false, cond, List, [], ◌∷◌, ◌++◌, map, length, take, get_or, Some, None, refl, sym, ap, ap₂, subst, ◌∙◌, arith, inl, inr}
use Rattle.std.specs.List.{count_by, list_any, position, position_or_len, slice_get}
use Rattle.std.specs.Option.{option_or}
use Rattle.std.proofs.lemmas.Bool.{cases_Bool, lt-ltb, le-ltb, or_from}
use Rattle.std.proofs.lemmas.List.Folds.{list_any-append}
use Rattle.std.proofs.lemmas.List.{length_push, map-append, take_more}
use Rattle.std.proofs.lemmas.List.Sums.{sum_by-cons}
use Rattle.std.proofs.lemmas.Option.{get_or_from_slice_get, slice_get_within}
use Rattle.obd_base.specs.Lists.{Mem}
use Rattle.page_surface.proofs.LabelNumbers.{first_below, first_none, first_push, first_at_push}

-- what stands at a place is a member
pub mem_at : {X : Type 0} (xs : List X) (i : ℕ) (d : X) → i < length xs → Mem (get_or xs i d) xs
mem_at [] i d l = absurd (omega arith)
mem_at (x ∷ xs) zero d l = inl refl
mem_at (x ∷ xs) (suc i) d l = inr (mem_at xs i d (omega arith))

module _ {X : Type 0} (p : X → Bool) where
  -- one passes, so its place is found
  pub found_place : (xs : List X) → list_any p xs ≡ true → position p xs ≡ Some (position_or_len p xs)
  found_place xs h = rw (lt-ltb _ _ (first_below p xs h)) refl

  -- none passes, so no place is
  pub no_place : (xs : List X) → list_any p xs ≡ false → position p xs ≡ None
  no_place xs h = rw (le-ltb (position_or_len p xs) (length xs) (let e = first_none p xs h in omega arith)) refl

  -- the place that is found, with one more at the end
  pub place_push : (xs : List X) (y : X) → position p (xs ++ y ∷ []) ≡ option_or (position p xs) (cond (p y) (Some (length xs)) None)
  place_push xs y = elim (cases_Bool (list_any p xs)) [
    | inl h ↦
        let l : position_or_len p (xs ++ y ∷ []) < length (xs ++ y ∷ []) = omega (arith, first_push p xs y h, first_below p xs h, length_push xs y) in
        rw (found_place xs h, lt-ltb _ _ l, first_push p xs y h) refl
    | inr h ↦ elim (cases_Bool (p y)) [
      | inl t ↦
          let l : position_or_len p (xs ++ y ∷ []) < length (xs ++ y ∷ []) = omega (arith, first_at_push p xs y h t, length_push xs y) in
          rw (no_place xs h, t, lt-ltb _ _ l, first_at_push p xs y h t) refl
      | inr f ↦ rw (no_place xs h, f) (no_place (xs ++ y ∷ []) (none_push xs h f))
    ]
  ]
    where
      none_push : (xs : List X) → list_any p xs ≡ false → p y ≡ false → list_any p (xs ++ y ∷ []) ≡ false
      none_push xs h f = list_any-append p xs (y ∷ []) ∙ or_from _ _ h (or_from _ _ f refl)

  -- one that passes is counted
  pub counted_at : (xs : List X) (k : ℕ) (d : X) → k < length xs → p (get_or xs k d) ≡ true → 1 ≤ count_by p xs
  counted_at [] k d l t = absurd (omega arith)
  counted_at (x ∷ xs) zero d l t = let one : cond {A = ℕ} (p x) 1 0 ≡ 1 = rw t refl in omega (arith, one, sum_by-cons (λ y. cond (p y) 1 0) x xs)
  counted_at (x ∷ xs) (suc k) d l t = omega (arith, counted_at xs k d (omega arith) t, sum_by-cons (λ y. cond (p y) 1 0) x xs)

  -- where some are counted, one passes
  pub any_counted : (xs : List X) → 1 ≤ count_by p xs → list_any p xs ≡ true
  any_counted [] l = absurd (omega arith)
  any_counted (x ∷ xs) l = elim (cases_Bool (p x)) [
    | inl t ↦ rw t refl
    | inr f ↦
        let zero_here : cond {A = ℕ} (p x) 1 0 ≡ 0 = rw f refl in
        rw f (any_counted xs (omega (arith, zero_here, sum_by-cons (λ y. cond (p y) 1 0) x xs)))
  ]

  -- the only one that passes is the first
  pub only_place : (xs : List X) (k : ℕ) (d : X) → count_by p xs ≡ 1 → k < length xs → p (get_or xs k d) ≡ true → position_or_len p xs ≡ k
  only_place [] k d one l t = absurd (omega arith)
  only_place (x ∷ xs) zero d one l t = rw t refl
  only_place (x ∷ xs) (suc k) d one l t = elim (cases_Bool (p x)) [
    | inl here ↦
        let head : cond {A = ℕ} (p x) 1 0 ≡ 1 = rw here refl in
        absurd (omega (arith, head, one, counted_at xs k d (omega arith) t, sum_by-cons (λ y. cond (p y) 1 0) x xs))
    | inr other ↦
        let head : cond {A = ℕ} (p x) 1 0 ≡ 0 = rw other refl in
        rw other (omega (arith, only_place xs k d (omega (arith, head, one, sum_by-cons (λ y. cond (p y) 1 0) x xs)) (omega arith) t))
  ]

-- one item more of a list
pub take_next : {X : Type 0} (xs : List X) (i : ℕ) (x : X) → slice_get xs i ≡ Some x → take (i + 1) xs ≡ take i xs ++ x ∷ []
take_next xs i x e = take_more xs i x (slice_get_within xs i x e) ∙ ap (λ y. take i xs ++ y ∷ []) (get_or_from_slice_get xs i x x e)

-- what is made of one item more
pub map_more : {X Y : Type 0} (f : X → Y) (xs : List X) (i : ℕ) (x : X) (ys zs : List Y) (y : Y) → i < length xs → x ≡ get_or xs i x
    → ys ≡ map f (take i xs) → zs ≡ ys ++ y ∷ [] → y ≡ f x → zs ≡ map f (take (i + 1) xs)
map_more f xs i x ys zs y l is so_far more new =
    more ∙ (ap₂ (λ us u. us ++ u ∷ []) so_far (new ∙ ap f is) ∙ (sym (map-append f (take i xs) (get_or xs i x ∷ [])) ∙ ap (map f) (sym (take_more xs i x l))))

-- what is read at a place is a member
pub mem_read : {X : Type 0} (xs : List X) (i : ℕ) (x : X) → i < length xs → x ≡ get_or xs i x → Mem x xs
mem_read xs i x l e = subst (λ y. Mem y xs) (sym e) (mem_at xs i x l)
