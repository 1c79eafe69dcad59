-- Where a side stands on some polygons, as it is searched.
use Rattle.std.proofs.Common.{◌≡◌, ℕ, ◌<◌, ◌≤◌, true, false, List, [], length, get_or, Option, Some, None, sym, ap, ◌∙◌, arith, inl, inr}
use Rattle.std.specs.List.{position, position_or_len}
use Rattle.std.proofs.lemmas.Bool.{cases_Bool}
use Rattle.std.proofs.lemmas.List.{get_or_default}
use Rattle.std.proofs.lemmas.List.Sums.{position_or_len_is}
use Rattle.std.proofs.lemmas.Option.{same_Some}
use Rattle.page_surface.specs.declared.page.SideLabel.{SideLabel}
use Rattle.page_surface.specs.Joining.{has_side, is_side}
use Rattle.arc_basis.specs.SeamTables.{place_in, polygon_with}
use Rattle.arc_basis.proofs.Places.{found_place, no_place}

-- a polygon on which the side is found has it, and one on which it isn't has it not
some_side : (s : SideLabel) (sides : List SideLabel) (k : ℕ) → position (is_side s) sides ≡ Some k → (has_side s sides ≡ true) × (k ≡ position_or_len (is_side s) sides)
some_side s sides k e = elim (cases_Bool (has_side s sides)) [
  | inl t ↦ (t, same_Some _ _ (sym e ∙ found_place (is_side s) sides t))
  | inr f ↦ absurd (let bad = sym (no_place (is_side s) sides f) ∙ e in cc)
]

no_side : (s : SideLabel) (sides : List SideLabel) → position (is_side s) sides ≡ None → has_side s sides ≡ false
no_side s sides e = elim (cases_Bool (has_side s sides)) [
  | inl t ↦ absurd (let bad = sym (found_place (is_side s) sides t) ∙ e in cc)
  | inr f ↦ f
]

module _ (s : SideLabel) (polygons : List (List SideLabel)) where
  module _ (i : ℕ) (before : (k : ℕ) → k < i → has_side s (get_or polygons k []) ≡ false) (polygon xs : List SideLabel) (l : i < length polygons)
      (is : polygon ≡ get_or polygons i polygon) (read : xs ≡ polygon) where
    there : xs ≡ get_or polygons i []
    there = read ∙ (is ∙ get_or_default polygons i polygon [] l)

    -- the first polygon on which the side is found, and where
    pub found_there : (r : Option ℕ) (k : ℕ) → r ≡ position (is_side s) xs → r ≡ Some k → (i ≡ polygon_with s polygons) × (k ≡ place_in s polygons)
    found_there r k e f =
        let h = some_side s (get_or polygons i []) k (ap (position (is_side s)) (sym there) ∙ (sym e ∙ f)) in
        let first : polygon_with s polygons ≡ i = position_or_len_is (has_side s) polygons i [] (omega (arith, l)) before (λ _. h.0) in
        (sym first, h.1 ∙ ap (λ j. position_or_len (is_side s) (get_or polygons j [])) (sym first))

    pub not_there : (r : Option ℕ) → r ≡ position (is_side s) xs → r ≡ None → has_side s (get_or polygons i []) ≡ false
    not_there r e f = no_side s (get_or polygons i []) (ap (position (is_side s)) (sym there) ∙ (sym e ∙ f))

  -- one that is found nowhere stands on none of them
  pub found_nowhere : (n : ℕ) → length polygons ≤ n → ((k : ℕ) → k < n → has_side s (get_or polygons k []) ≡ false) → polygon_with s polygons ≡ length polygons
  found_nowhere n l h = position_or_len_is (has_side s) polygons (length polygons) [] (omega arith) (λ k m. h k (omega (arith, l, m))) (λ m. absurd (omega (arith, m)))
