-- The first label that doesn't occur twice, found by the counts of the labels.
use Rattle.std.proofs.Common.{◌≡◌, ℕ, ◌<◌, ◌≤◌, Bool, not, nat_eq, List, [], map, length, get_or, Some, None, refl, sym, ap, ◌∙◌, arith, inl, inr}
use Rattle.std.specs.List.{find, position, position_or_len, slice_get}
use Rattle.std.proofs.lemmas.Bool.{cases_lt, le-ltb, lt-ltb}
use Rattle.std.proofs.lemmas.List.{get_or-map, get_or_read, length-map}
use Rattle.std.proofs.lemmas.List.Folds.{find_at}
use Rattle.std.proofs.lemmas.Option.{get_or_from_slice_get, slice_get_past, slice_get_within}
use Rattle.page_surface.specs.Labels.{Label, labels_of, occurrences_of}
use Rattle.obd_base.specs.Options.{first_of}
use Rattle.page_surface.specs.Stages.{label_rules}
use Rattle.page_surface.specs.declared.refusal.PageRefusal.TheVariants.{LabelCount}
use Rattle.page_surface.proofs.Keys.{position-map}

module _ {X : Type 0} (p : X → Bool) (xs : List X) where
  -- none is found where none has a position
  find_none : None ≡ position p xs → None ≡ find p xs
  find_none none = elim (cases_lt (position_or_len p xs) (length xs)) [
    | inl h ↦ (let bad = rw (lt-ltb _ _ h) at none in cc)
    | inr h ↦ sym (find_at p xs ∙ slice_get_past xs (position_or_len p xs) h)
  ]

  -- what is found stands at the position
  find_some : (i : ℕ) → Some i ≡ position p xs → find p xs ≡ slice_get xs i
  find_some i some = elim (cases_lt (position_or_len p xs) (length xs)) [
    | inl h ↦ (let at : Some i ≡ Some (position_or_len p xs) = rw (lt-ltb (position_or_len p xs) (length xs) h) at some in let e : position_or_len p xs ≡ i = cc in find_at p xs ∙ ap (slice_get xs) e)
    | inr h ↦ (let bad : Some i ≡ None = rw (le-ltb (position_or_len p xs) (length xs) h) at some in cc)
  ]

module _ (polygons : List (List Label)) (counts : List ℕ) (n : ℕ) (size : n ≡ length (labels_of polygons)) (few : n ≤ 24)
    (counts_are : counts ≡ map (occurrences_of polygons) (labels_of polygons)) where
  -- the position of a wrong count is that of its label
  position_of_wrong : position (λ count. not (nat_eq count 2)) counts ≡ position (λ label. not (nat_eq (occurrences_of polygons label) 2)) (labels_of polygons)
  position_of_wrong = ap (position (λ count. not (nat_eq count 2))) counts_are ∙ position-map (λ count. not (nat_eq count 2)) (occurrences_of polygons) (labels_of polygons)

  -- no count is wrong, and no rule on the labels fails
  pub labels_pass : None ≡ position (λ count. not (nat_eq count 2)) counts → None ≡ first_of (label_rules polygons)
  labels_pass none =
      rw (le-ltb 24 (length (labels_of polygons)) (omega arith), ← find_none (λ label. not (nat_eq (occurrences_of polygons label) 2)) (labels_of polygons) (none ∙ position_of_wrong)) refl

  -- the first wrong count is that of the label that the rules name
  pub wrong_label : (i k count : ℕ) (label : Label) → Some i ≡ position (λ count. not (nat_eq count 2)) counts → k ≡ i
      → slice_get (labels_of polygons) k ≡ Some label → count ≡ get_or counts i count → Some (LabelCount label count) ≡ first_of (label_rules polygons)
  wrong_label i k count label some e named read =
      let at : slice_get (labels_of polygons) i ≡ Some label = ap (slice_get (labels_of polygons)) (sym e) ∙ named in
      let within : i < length (labels_of polygons) = slice_get_within (labels_of polygons) i label at in
      let is : count ≡ occurrences_of polygons label
      = get_or_read counts i count (omega (arith, ap length counts_are, length-map (labels_of polygons) (occurrences_of polygons))) read 0
      ∙ (ap (λ cs. get_or cs i 0) counts_are
      ∙ (get_or-map (occurrences_of polygons) (labels_of polygons) i [] 0 within
      ∙ ap (occurrences_of polygons) (get_or_from_slice_get (labels_of polygons) i label [] at))) in
      rw (
        le-ltb 24 (length (labels_of polygons)) (omega arith),
        find_some (λ label. not (nat_eq (occurrences_of polygons label) 2)) (labels_of polygons) i (some ∙ position_of_wrong),
        at,
        is,
      ) refl
