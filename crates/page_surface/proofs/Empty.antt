-- Polygons without a side, and the first of them.
use Rattle.std.proofs.Common.{◌≡◌, ℕ, ◌<◌, Bool, true, false, nat_eq, List, [], ◌∷◌, map, length, get_or, refl, sym, ap, ◌∙◌, arith, None, Some, inl, inr, Vec, String, string_bytes}
use Rattle.std.specs.List.{position, position_or_len}
use Rattle.std.proofs.lemmas.Bool.{cases_lt, le-ltb, lt-ltb, ne_eqb}
use Rattle.std.proofs.lemmas.List.{get_or-map}
use Rattle.std.proofs.lemmas.List.Sums.{position_or_len_is, fails_before_first}
use Rattle.page_surface.specs.Labels.{Label}
use Rattle.page_surface.specs.Page.{is_empty}

-- a polygon is empty where it has no strings
empty_strings : {Z : Type 0} (names : List (String Z)) → is_empty (map string_bytes names) ≡ nat_eq (length names) 0
empty_strings [] = refl
empty_strings (name ∷ names) = sym (ne_eqb _ _ (λ e. omega arith))

-- what is read of a polygon
pub read_empty : {Z : Type 0} (given : List (Vec (String Z) Z)) (i : ℕ) (polygon : Vec (String Z) Z) (names : List (String Z)) (b : Bool) → i < length given
    → polygon ≡ get_or given i polygon → names ≡ polygon.items → b ≡ nat_eq (length names) 0 → is_empty (get_or (map (λ p. map string_bytes p.items) given) i []) ≡ b
read_empty given i polygon names b l is items test =
    ap is_empty (get_or-map (λ p. map string_bytes p.items) given i polygon [] l ∙ ap (λ p. map string_bytes p.items) (sym is))
    ∙ (empty_strings polygon.items ∙ (ap (λ ns. nat_eq (length ns) 0) (sym items) ∙ sym test))

module _ (polygons : List (List Label)) where
  -- the first empty polygon
  pub first_of_empty : (i : ℕ) → ((k : ℕ) → k < i → is_empty (get_or polygons k []) ≡ false) → is_empty (get_or polygons i []) ≡ true → i < length polygons
      → Some i ≡ position is_empty polygons
  first_of_empty i before here l = rw (position_or_len_is is_empty polygons i [] (omega arith) before (λ _. here), lt-ltb i (length polygons) l) refl

  -- no polygon is empty
  pub none_empty : ((k : ℕ) → k < length polygons → is_empty (get_or polygons k []) ≡ false) → None ≡ position is_empty polygons
  none_empty full = rw (position_or_len_is is_empty polygons (length polygons) [] (omega arith) full (λ l. absurd (omega arith)), le-ltb (length polygons) (length polygons) (omega arith)) refl

  -- so each has a side
  pub each_full : position is_empty polygons ≡ None → (q : ℕ) → q < length polygons → is_empty (get_or polygons q []) ≡ false
  each_full none q l = elim (cases_lt (position_or_len is_empty polygons) (length polygons)) [
    | inl h ↦ absurd (let bad = rw (lt-ltb _ _ h) at none in cc)
    | inr h ↦ fails_before_first is_empty polygons q [] (omega arith)
  ]
