-- Twists that are tried one after another.
use Rattle.std.proofs.Common.{◌≡◌, ℕ, zero, suc, ◌+◌, ◌<◌, ◌≤◌, le_refl, inl, inr, Bool, true, false, not, List, [], ◌∷◌, ◌++◌, map, take, length, get_or, None, Some, position, refl, sym, ◌∙◌, ap, arith}
use Rattle.std.specs.List.{list_any, position_or_len}
use Rattle.std.specs.Str.{bytes_eq}
use Rattle.std.proofs.lemmas.Bool.{cases_Bool, false≢true, le-ltb, lt-ltb, or_parts}
use Rattle.std.proofs.lemmas.Option.{same_Some}
use Rattle.std.proofs.lemmas.List.{map-append, take_more, take_all}
use Rattle.curve_paths.specs.declared.twist.Twist.{Twist}
use Rattle.obd_doc.specs.Document.{twist_about}
use Rattle.curve_paths.specs.declared.named.NamedTwist.{NamedTwist}

-- the twist names none of these curves
abbrev pub is_unknown : List (List ℕ) → NamedTwist → Bool
is_unknown names twist = not (list_any (bytes_eq twist.name) names)

-- each twist so far names a curve, and was made
pub record AreTwistsSoFar (names : List (List ℕ)) (entries : List NamedTwist) (twists : List Twist) : Type 0 where
  pub known : list_any (is_unknown names) entries ≡ false
  pub made : twists ≡ map (twist_about names) entries

module _ {X : Type 0} (p : X → Bool) where
  -- where none passes the first place is the end
  at_end : (xs : List X) → list_any p xs ≡ false → position_or_len p xs ≡ length xs
  at_end [] h = refl
  at_end (x ∷ xs) h =
      let e = or_parts (p x) (list_any p xs) h in
      rw (e.0) (omega (arith, at_end xs e.1))

  pub none_passes : (xs : List X) → list_any p xs ≡ false → position p xs ≡ None
  none_passes xs h = rw (at_end xs h, le-ltb (length xs) (length xs) (le_refl _)) refl

  -- where one passes it is before the end
  pub before_end : (xs : List X) → list_any p xs ≡ true → position_or_len p xs < length xs
  before_end [] h = absurd (false≢true h)
  before_end (x ∷ xs) h = elim (cases_Bool (p x)) [
    | inl passes ↦ rw passes (omega arith)
    | inr fails ↦ rw fails (omega (arith, before_end xs (rw fails at h)))
  ]

  -- so where there is no place none passes
  pub no_place : (xs : List X) → position p xs ≡ None → list_any p xs ≡ false
  no_place xs none = elim (cases_Bool (list_any p xs)) [
    | inl some ↦ absurd (let bad = rw (lt-ltb _ _ (before_end xs some)) at none in cc)
    | inr h ↦ h
  ]

  -- and where there is one, one passes there
  pub place_found : (xs : List X) (i : ℕ) → position p xs ≡ Some i → (list_any p xs ≡ true) × (position_or_len p xs ≡ i)
  place_found xs i found = elim (cases_Bool (list_any p xs)) [
    | inl some ↦ (some, same_Some _ _ (rw (lt-ltb _ _ (before_end xs some)) at found))
    | inr h ↦ absurd (let bad = sym (none_passes xs h) ∙ found in cc)
  ]

  -- the first that passes, after some that don't
  first_here : (xs : List X) (i : ℕ) (x : X) → i < length xs → list_any p (take i xs) ≡ false → x ≡ get_or xs i x → p x ≡ true → position_or_len p xs ≡ i
  first_here [] i x l none is passes = absurd (omega arith)
  first_here (y ∷ xs) zero x l none is passes = let here : p y ≡ true = ap p (sym is) ∙ passes in rw here refl
  first_here (y ∷ xs) (suc i) x l none is passes =
      let e = or_parts (p y) (list_any p (take i xs)) none in
      rw (e.0) (omega (arith, first_here xs i x (omega arith) e.1 is passes))

  pub first_passes : (xs : List X) (i : ℕ) (x : X) → i < length xs → list_any p (take i xs) ≡ false → x ≡ get_or xs i x → p x ≡ true → position p xs ≡ Some i
  first_passes xs i x l none is passes = rw (first_here xs i x l none is passes, lt-ltb i (length xs) l) refl

  any_push : (xs : List X) (x : X) → list_any p xs ≡ false → p x ≡ false → list_any p (xs ++ x ∷ []) ≡ false
  any_push [] x none fails = rw fails refl
  any_push (y ∷ xs) x none fails = let e = or_parts (p y) (list_any p xs) none in rw (e.0) (any_push xs x e.1 fails)

  pub none_more : (xs : List X) (i : ℕ) (x : X) → i < length xs → list_any p (take i xs) ≡ false → x ≡ get_or xs i x → p x ≡ false → list_any p (take (i + 1) xs) ≡ false
  none_more xs i x l none is fails =
      ap (list_any p) (take_more xs i x l ∙ ap (λ y. take i xs ++ y ∷ []) (sym is)) ∙ any_push (take i xs) x none fails

module _ (names : List (List ℕ)) (entries : List NamedTwist) (i : ℕ) (entry : NamedTwist) (within : i < length entries) (is : entry ≡ get_or entries i entry)
    (twists : List Twist) (so_far : AreTwistsSoFar names (take i entries) twists) where
  -- a twist that names no curve
  pub twist_unknown : position (bytes_eq entry.name) names ≡ None → position (is_unknown names) entries ≡ Some i
  twist_unknown none = first_passes (is_unknown names) entries i entry within so_far.known is (ap not (no_place (bytes_eq entry.name) names none))

  -- and one that names one
  pub twist_known : (curve : ℕ) (now : List Twist) (twist : Twist) → position (bytes_eq entry.name) names ≡ Some curve → twist ≡ record { curve = curve; power = entry.power }
      → now ≡ twists ++ twist ∷ [] → AreTwistsSoFar names (take (i + 1) entries) now
  twist_known curve now twist found made pushed =
      let at = place_found (bytes_eq entry.name) names curve found in
      let more : take (i + 1) entries ≡ take i entries ++ entry ∷ [] = take_more entries i entry within ∙ ap (λ y. take i entries ++ y ∷ []) (sym is) in
      let about : twist ≡ twist_about names entry = made ∙ ap (λ (k : ℕ). record { curve = k; power = entry.power }) (sym at.1) in
      record {
        known = none_more (is_unknown names) entries i entry within so_far.known is (ap not at.0);
        made = pushed ∙ (ap (λ ts. ts ++ twist ∷ []) so_far.made ∙ (ap (λ t. map (twist_about names) (take i entries) ++ t ∷ []) about
            ∙ (sym (map-append (twist_about names) (take i entries) (entry ∷ [])) ∙ sym (ap (map (twist_about names)) more))));
      }

-- all twists
pub all_known : (names : List (List ℕ)) (entries : List NamedTwist) (i : ℕ) (twists : List Twist) → length entries ≤ i → AreTwistsSoFar names (take i entries) twists
    → (position (is_unknown names) entries ≡ None) × (twists ≡ map (twist_about names) entries)
all_known names entries i twists end so_far =
    let all = take_all i entries end in
    (none_passes (is_unknown names) entries (ap (list_any (is_unknown names)) (sym all) ∙ so_far.known), so_far.made ∙ ap (map (twist_about names)) all)
