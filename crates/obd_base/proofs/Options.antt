-- Options that are tried in order: what comes of joined lists, and what holds where the first of them is none.
use Rattle.std.proofs.Common.{◌≡◌, Bool, true, false, List, [], ◌∷◌, ◌++◌, Option, None, Some, option_map, refl}
use Rattle.obd_base.specs.Options.{first_of, when}

module _ {A : Type 0} where
  -- where none of the first options is there, the others are tried
  pub skip : (xs ys : List (Option A)) (found : Option A) → first_of xs ≡ None → first_of ys ≡ found → first_of (xs ++ ys) ≡ found
  skip [] ys found none then = then
  skip (None ∷ xs) ys found none then = skip xs ys found none then
  skip (Some x ∷ xs) ys found none then = absurd (let bad = none in cc)

  -- where one is, they aren't
  pub stop : (xs ys : List (Option A)) (x : A) → first_of xs ≡ Some x → first_of (xs ++ ys) ≡ Some x
  stop [] ys x found = absurd (let bad = found in cc)
  stop (None ∷ xs) ys x found = stop xs ys x found
  stop (Some y ∷ xs) ys x found = found

  -- where none of two lists is there, none of the first is
  pub none_first : (xs ys : List (Option A)) → first_of (xs ++ ys) ≡ None → first_of xs ≡ None
  none_first [] ys none = refl
  none_first (None ∷ xs) ys none = none_first xs ys none
  none_first (Some x ∷ xs) ys none = none

  -- and none of the second
  pub none_rest : (xs ys : List (Option A)) → first_of (xs ++ ys) ≡ None → first_of ys ≡ None
  none_rest [] ys none = none
  none_rest (None ∷ xs) ys none = none_rest xs ys none
  none_rest (Some x ∷ xs) ys none = absurd (let bad = none in cc)

  -- each of these options is none
  abbrev pub NoneOf : List (Option A) → Type 0
  NoneOf [] = Unit {0}
  NoneOf (x ∷ xs) = (x ≡ None) × NoneOf xs

  -- where there is no first of some options, each is none
  pub each_none : (xs : List (Option A)) → first_of xs ≡ None → NoneOf xs
  each_none [] none = tt
  each_none (None ∷ xs) none = (refl, each_none xs none)
  each_none (Some x ∷ xs) none = absurd (let bad = none in cc)

  -- a test that gives none fails
  pub fails_where_none : (so : Bool) (x : A) → when so x ≡ None → so ≡ false
  fails_where_none false x none = refl
  fails_where_none true x none = absurd (let bad = none in cc)

-- what is none when mapped is none
pub none_mapped : {A B : Type 0} (f : A → B) (x : Option A) → option_map f x ≡ None → x ≡ None
none_mapped f None none = refl
none_mapped f (Some x) none = absurd (let bad = none in cc)
