-- The number of a label is its place among the labels that appeared, and stays as more appear.
use Rattle.std.proofs.Common.{◌≡◌, ℕ, suc, ◌+◌, ◌<◌, ◌≤◌, Bool, true, false, cond, not, ◌||◌, List, [], ◌∷◌, ◌++◌, length, get_or, refl, sym, ◌∙◌, arith, inl, inr}
use Rattle.std.specs.List.{list_any, position_or_len}
use Rattle.std.specs.Str.{bytes_eq}
use Rattle.std.proofs.lemmas.Bool.{false≢true, ne_eqb, eq-eqb, cond_both, cond-true, cond-false, or_left, or_right, or_from, cases_lt}
use Rattle.std.proofs.lemmas.List.{get_or_append_left, get_or_push, length_push}
use Rattle.std.proofs.lemmas.List.Folds.{list_any-append, list_any_at, position_or_len_push}
use Rattle.std.proofs.lemmas.Slice.Eq.{bytes_eq-Decides}
use Rattle.page_surface.specs.Labels.{Label, all_sides, with_label, with_labels, labels_of, label_number}

module _ {X : Type 0} (p : X → Bool) where
  -- the first that passes, where one does
  pub first_below : (xs : List X) → list_any p xs ≡ true → position_or_len p xs < length xs
  first_below [] h = absurd (false≢true h)
  first_below (x ∷ xs) h = go (p x) h (first_below xs)
    where
      go : (b : Bool) → (b || list_any p xs) ≡ true → (list_any p xs ≡ true → position_or_len p xs < length xs)
          → cond (not b) (1 + position_or_len p xs) 0 < suc (length xs)
      go true h ih = omega arith
      go false h ih = omega (arith, ih h)

  -- the length, where none does
  pub first_none : (xs : List X) → list_any p xs ≡ false → position_or_len p xs ≡ length xs
  first_none [] h = refl
  first_none (x ∷ xs) h = go (p x) h (first_none xs)
    where
      go : (b : Bool) → (b || list_any p xs) ≡ false → (list_any p xs ≡ false → position_or_len p xs ≡ length xs)
          → cond (not b) (1 + position_or_len p xs) 0 ≡ suc (length xs)
      go true h ih = absurd (false≢true (sym h))
      go false h ih = omega (arith, ih h)

  -- the first that passes stays before one more
  pub first_push : (xs : List X) (y : X) → list_any p xs ≡ true → position_or_len p (xs ++ y ∷ []) ≡ position_or_len p xs
  first_push xs y h = position_or_len_push p xs y ∙ cond-false _ _ _ (ne_eqb (position_or_len p xs) (length xs) (λ e. omega (arith, first_below xs h)))

  -- or is that one
  pub first_at_push : (xs : List X) (y : X) → list_any p xs ≡ false → p y ≡ true → position_or_len p (xs ++ y ∷ []) ≡ length xs
  first_at_push xs y h q = position_or_len_push p xs y ∙ (cond-true _ _ _ (eq-eqb _ _ (first_none xs h)) ∙ rw q (omega arith))

  -- whether one passes, with one more
  any_push : (xs : List X) (y : X) → list_any p (xs ++ y ∷ []) ≡ (list_any p xs || (p y || false))
  any_push xs y = list_any-append p xs (y ∷ [])

-- the label is among the labels
abbrev pub has : List Label → Label → Bool
has labels label = list_any (bytes_eq label) labels

-- a label is the same as itself
same_label : (label : Label) → bytes_eq label label ≡ true
same_label label = (bytes_eq-Decides label label).1 refl

module _ (labels : List Label) (x : Label) where
  -- a label stays
  pub has_still : (label : Label) → has labels label ≡ true → has (with_label labels x) label ≡ true
  has_still label h = cond_both (has labels x) labels (labels ++ x ∷ []) (λ ls. has ls label ≡ true)
      (λ _. h) (λ _. any_push (bytes_eq label) labels x ∙ or_left _ _ h)

  -- the new one is there
  pub has_new : has (with_label labels x) x ≡ true
  has_new = cond_both (has labels x) labels (labels ++ x ∷ []) (λ ls. has ls x ≡ true)
      (λ h. h) (λ _. any_push (bytes_eq x) labels x ∙ or_right _ _ (or_left _ _ (same_label x)))

  -- no other comes
  pub has_no_other : (label : Label) → has labels label ≡ false → bytes_eq label x ≡ false → has (with_label labels x) label ≡ false
  has_no_other label h n = cond_both (has labels x) labels (labels ++ x ∷ []) (λ ls. has ls label ≡ false)
      (λ _. h) (λ _. any_push (bytes_eq label) labels x ∙ or_from _ _ h (or_from _ _ n refl))

  -- the number of a label stays
  number_still : (label : Label) → has labels label ≡ true → label_number (with_label labels x) label ≡ label_number labels label
  number_still label h = cond_both (has labels x) labels (labels ++ x ∷ []) (λ ls. label_number ls label ≡ label_number labels label)
      (λ _. refl) (λ _. first_push (bytes_eq label) labels x h)

  -- a new one has the number that it was given
  pub number_new : has labels x ≡ false → label_number (with_label labels x) x ≡ label_number labels x
  number_new h = cond_both (has labels x) labels (labels ++ x ∷ []) (λ ls. label_number ls x ≡ label_number labels x)
      (λ _. refl) (λ _. first_at_push (bytes_eq x) labels x h (same_label x) ∙ sym (first_none (bytes_eq x) labels h))

-- and stays after any more sides
pub number_stays : (labels names : List Label) (label : Label) → has labels label ≡ true → label_number (with_labels labels names) label ≡ label_number labels label
number_stays labels [] label h = refl
number_stays labels (x ∷ names) label h = number_stays (with_label labels x) names label (has_still labels x label h) ∙ number_still labels x label h

-- the number of each label is its place
abbrev pub AtPlaces : List Label → Type 0
AtPlaces labels = (i : ℕ) → i < length labels → label_number labels (get_or labels i []) ≡ i

-- a new label has the last place
at_push : (labels : List Label) (x : Label) → AtPlaces labels → has labels x ≡ false → (i : ℕ) → i < length (labels ++ x ∷ [])
    → label_number (labels ++ x ∷ []) (get_or (labels ++ x ∷ []) i []) ≡ i
at_push labels x at new i l = elim (cases_lt i (length labels)) [
  | inl b ↦ rw (get_or_append_left labels (x ∷ []) [] i b)
      (first_push (bytes_eq (get_or labels i [])) labels x (list_any_at _ labels i [] b (same_label (get_or labels i []))) ∙ at i b)
  | inr a ↦
      let last : length labels ≡ i = omega (arith, length_push labels x) in
      rw (get_or_push labels x [] i last) (first_at_push (bytes_eq x) labels x new (same_label x) ∙ last)
]

-- so after one more side
at_with_label : (labels : List Label) (x : Label) → AtPlaces labels → AtPlaces (with_label labels x)
at_with_label labels x at = cond_both (has labels x) labels (labels ++ x ∷ []) AtPlaces (λ _. at) (at_push labels x at)

-- and after any more
at_with_labels : (labels names : List Label) → AtPlaces labels → AtPlaces (with_labels labels names)
at_with_labels labels [] at = at
at_with_labels labels (x ∷ names) at = at_with_labels (with_label labels x) names (at_with_label labels x at)

-- so the number of each label of some sides is its place
pub at_places : (names : List Label) → AtPlaces (with_labels [] names)
at_places names = at_with_labels [] names (λ i l. absurd (omega arith))

-- a label more or none
length-with_label : (labels : List Label) (label : Label) → (length labels ≤ length (with_label labels label)) × (length (with_label labels label) ≤ length labels + 1)
length-with_label labels label =
    cond_both (list_any (bytes_eq label) labels) labels (labels ++ label ∷ []) (λ x. (length labels ≤ length x) × (length x ≤ length labels + 1))
    (λ _. (omega arith, omega arith)) (λ _. (omega (arith, length_push labels label), omega (arith, length_push labels label)))

-- no label goes, and there are at most as many more as sides
pub length-with_labels : (labels names : List Label)
    → (length labels ≤ length (with_labels labels names)) × (length (with_labels labels names) ≤ length labels + length names)
length-with_labels labels [] = (omega arith, omega arith)
length-with_labels labels (name ∷ names) =
    let one = length-with_label labels name in
    let rest = length-with_labels (with_label labels name) names in
    (omega (arith, one, rest), omega (arith, one, rest))

-- there are no more labels than sides
pub few_labels : (polygons : List (List Label)) → length (labels_of polygons) ≤ length (all_sides polygons)
few_labels polygons = omega (arith, length-with_labels [] (all_sides polygons))
