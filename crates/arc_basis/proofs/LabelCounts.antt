-- How often the sides of a label stand among the sides of a page: its first once, and its second once.
use Rattle.std.proofs.Common.{◌≡◌, ℕ, zero, suc, ◌+◌, ◌-◌, ◌<◌, ◌≤◌, min, Bool, true, false, cond, ◌&&◌, eqb, not, List, [], ◌∷◌, ◌++◌, length, get_or, Some, None, refl, sym, subst, ap, ◌∙◌, arith, inl, inr}
use Rattle.std.specs.List.{count_by, find, flat_map}
use Rattle.std.specs.Str.{bytes_eq}
use Rattle.std.specs.List.{slice_get}
use Rattle.std.proofs.lemmas.Bool.{cases_Bool, cases_eq, false≢true, eq-eqb, ne_eqb, eqb-true, not-false}
use Rattle.std.proofs.lemmas.List.{length_push}
use Rattle.std.proofs.lemmas.List.Folds.{list_any_at}
use Rattle.std.proofs.lemmas.List.Sums.{sum_by-cons}
use Rattle.std.proofs.lemmas.Option.{same_Some}
use Rattle.std.proofs.lemmas.Slice.Eq.{bytes_eq-Decides}
use Rattle.obd_base.specs.Lists.{Mem}
use Rattle.page_surface.specs.declared.page.SideLabel.{SideLabel}
use Rattle.page_surface.specs.Joining.{side, is_side}
use Rattle.page_surface.specs.Labels.{Label, with_label, with_labels, label_number, all_sides, labels_of, occurrences_of, side_labels, side_labels_of}
use Rattle.page_surface.specs.Page.{IsPage, refusals}
use Rattle.page_surface.specs.declared.refusal.PageRefusal.TheVariants.{LabelCount}
use Rattle.page_surface.proofs.LabelNumbers.{has, has_still, has_new, has_no_other, at_places, first_below}
use Rattle.page_surface.proofs.Names.{at_number, number_kept}
use Rattle.obd_base.proofs.Options.{each_none, none_mapped}
use Rattle.page_surface.proofs.FewSides.{among_with_labels}

-- how often a side stands among some sides
abbrev pub stands : ℕ → ℕ → List SideLabel → ℕ
stands number occurrence sides = count_by (is_side (side number occurrence)) sides

-- how often a label stands among some
abbrev pub times : List Label → Label → ℕ
times names label = count_by (bytes_eq label) names

-- a label that is read is among all labels
read_among : (labels names : List Label) (x : Label) → has (with_labels labels (x ∷ names)) x ≡ true
read_among labels names x = among_with_labels names (with_label labels x) x (has_new labels x)

-- two of the labels have one number only if they are one
same_number : (all : List Label) (label x : Label) → has all label ≡ true → has all x ≡ true → eqb (label_number all label) (label_number all x) ≡ bytes_eq label x
same_number all label x h k = elim (cases_Bool (bytes_eq label x)) [
  | inl e ↦ rw e (eq-eqb _ _ (ap (label_number all) ((bytes_eq-Decides label x).0 e)))
  | inr n ↦ rw n (ne_eqb _ _ (λ q.
      let same : label ≡ x = same_Some _ _ (sym (at_number all label h) ∙ (ap (slice_get all) q ∙ at_number all x k)) in
      false≢true (sym n ∙ (bytes_eq-Decides label x).1 same)))
]

module _ (all : List Label) (label : Label) (among : has all label ≡ true) where
  -- the sides of a label among some: whether the first is one, and those of the rest
  head_stands : (labels names : List Label) (x : Label) (o : ℕ) → with_labels labels (x ∷ names) ≡ all
      → stands (label_number all label) o (side_labels labels (x ∷ names))
      ≡ cond (bytes_eq label x && eqb o (cond (has labels x) 1 0)) 1 0 + stands (label_number all label) o (side_labels (with_label labels x) names)
  head_stands labels names x o e =
      let number : label_number labels x ≡ label_number all x = sym (number_kept labels x names) ∙ ap (λ ls. label_number ls x) e in
      let here : has all x ≡ true = subst (λ (ls : List Label). has ls x ≡ true) e (read_among labels names x) in
      let test : is_side (side (label_number all label) o) (record { label = label_number labels x; occurrence = cond (has labels x) 1 0 })
      ≡ (bytes_eq label x && eqb o (cond (has labels x) 1 0))
      = rw (number, same_number all label x among here) refl in
      sum_by-cons (λ s. cond (is_side (side (label_number all label) o) s) 1 0) _ (side_labels (with_label labels x) names)
      ∙ ap (λ (b : Bool). cond {A = ℕ} b 1 0 + stands (label_number all label) o (side_labels (with_label labels x) names)) test

  -- of a label that appeared before each side is the second
  old_stands : (labels names : List Label) → with_labels labels names ≡ all → has labels label ≡ true
      → (stands (label_number all label) 0 (side_labels labels names) ≡ 0) × (stands (label_number all label) 1 (side_labels labels names) ≡ times names label)
  old_stands labels [] e h = (refl, refl)
  old_stands labels (x ∷ names) e h =
      let rest = old_stands (with_label labels x) names e (has_still labels x label h) in
      let first = head_stands labels names x 0 e in
      let second = head_stands labels names x 1 e in
      let count = sum_by-cons (λ y. cond (bytes_eq label y) 1 0) x names in
      elim (cases_Bool (bytes_eq label x)) [
        | inl same ↦
            let old : has labels x ≡ true = subst (λ (w : Label). has labels w ≡ true) ((bytes_eq-Decides label x).0 same) h in
            let none : cond {A = ℕ} (bytes_eq label x && eqb 0 (cond (has labels x) 1 0)) 1 0 ≡ 0 = rw (same, old) refl in
            let one : cond {A = ℕ} (bytes_eq label x && eqb 1 (cond (has labels x) 1 0)) 1 0 ≡ 1 = rw (same, old) refl in
            let here : cond {A = ℕ} (bytes_eq label x) 1 0 ≡ 1 = rw same refl in
            (omega (arith, rest, first, none), omega (arith, rest, second, one, count, here))
        | inr other ↦
            let none : (o : ℕ) → cond {A = ℕ} (bytes_eq label x && eqb o (cond (has labels x) 1 0)) 1 0 ≡ 0 = λ o. rw other refl in
            let here : cond {A = ℕ} (bytes_eq label x) 1 0 ≡ 0 = rw other refl in
            (omega (arith, rest, first, none 0), omega (arith, rest, second, none 1, count, here))
      ]

  -- of a new label the first side is its first, and each other its second
  new_stands : (labels names : List Label) → with_labels labels names ≡ all → has labels label ≡ false
      → (stands (label_number all label) 0 (side_labels labels names) ≡ min 1 (times names label))
      × (stands (label_number all label) 1 (side_labels labels names) ≡ times names label - 1)
  new_stands labels [] e h = (refl, refl)
  new_stands labels (x ∷ names) e h =
      let first = head_stands labels names x 0 e in
      let second = head_stands labels names x 1 e in
      let count = sum_by-cons (λ y. cond (bytes_eq label y) 1 0) x names in
      elim (cases_Bool (bytes_eq label x)) [
        | inl same ↦
            let is : label ≡ x = (bytes_eq-Decides label x).0 same in
            let new : has labels x ≡ false = subst (λ (w : Label). has labels w ≡ false) is h in
            let rest = old_stands (with_label labels x) names e (subst (λ (w : Label). has (with_label labels x) w ≡ true) (sym is) (has_new labels x)) in
            let one : cond {A = ℕ} (bytes_eq label x && eqb 0 (cond (has labels x) 1 0)) 1 0 ≡ 1 = rw (same, new) refl in
            let none : cond {A = ℕ} (bytes_eq label x && eqb 1 (cond (has labels x) 1 0)) 1 0 ≡ 0 = rw (same, new) refl in
            let here : cond {A = ℕ} (bytes_eq label x) 1 0 ≡ 1 = rw same refl in
            (omega (arith, rest, first, one, count, here), omega (arith, rest, second, none, count, here))
        | inr other ↦
            let rest = new_stands (with_label labels x) names e (has_no_other labels x label h other) in
            let none : (o : ℕ) → cond {A = ℕ} (bytes_eq label x && eqb o (cond (has labels x) 1 0)) 1 0 ≡ 0 = λ o. rw other refl in
            let here : cond {A = ℕ} (bytes_eq label x) 1 0 ≡ 0 = rw other refl in
            (omega (arith, rest, first, none 0, count, here), omega (arith, rest, second, none 1, count, here))
      ]

-- where none is found, each fails
pub none_passes : {X : Type 0} (p : X → Bool) (xs : List X) (i : ℕ) (d : X) → find p xs ≡ None → i < length xs → p (get_or xs i d) ≡ false
none_passes p [] i d none l = absurd (omega arith)
none_passes p (x ∷ xs) i d none l = go (p x) refl none i l (λ k. none_passes p xs k d)
  where
    go : (b : Bool) → p x ≡ b → cond b (Some x) (find p xs) ≡ None → (i : ℕ) → i < suc (length xs)
        → ((k : ℕ) → find p xs ≡ None → k < length xs → p (get_or xs k d) ≡ false) → p (get_or (x ∷ xs) i d) ≡ false
    go true e none i l rest = absurd (let bad = none in cc)
    go false e none zero l rest = e
    go false e none (suc i) l rest = rest i none (omega arith)

-- on a page each label stands twice
pub twice_on_page : (polygons : List (List Label)) → IsPage polygons → (number : ℕ) → number < length (labels_of polygons)
    → occurrences_of polygons (get_or (labels_of polygons) number []) ≡ 2
twice_on_page polygons page number l =
    let rules = each_none (refusals polygons) page in
    let none = none_mapped (λ label. LabelCount label (occurrences_of polygons label)) _ rules.1.1.1.1.0 in
    eqb-true _ _ (not-false _ (none_passes (λ label. not (eqb (occurrences_of polygons label) 2)) (labels_of polygons) number [] none l))

-- so each side of each label stands once among all sides
pub each_once : (polygons : List (List Label)) → IsPage polygons → (number occurrence : ℕ) → number < length (labels_of polygons) → occurrence ≤ 1
    → stands number occurrence (side_labels [] (all_sides polygons)) ≡ 1
each_once polygons page number occurrence l o =
    let label : Label = get_or (labels_of polygons) number [] in
    let twice : times (all_sides polygons) label ≡ 2 = twice_on_page polygons page number l in
    let at : label_number (labels_of polygons) label ≡ number = at_places (all_sides polygons) number l in
    let among : has (labels_of polygons) label ≡ true = list_any_at _ (labels_of polygons) number [] l ((bytes_eq-Decides label label).1 refl) in
    let both = new_stands (labels_of polygons) label among [] (all_sides polygons) refl refl in
    elim (cases_eq occurrence 0) [
      | inl e ↦ rw (e, ← at) (omega (arith, both, twice))
      | inr n ↦ (let e : occurrence ≡ 1 = omega arith in rw (e, ← at) (omega (arith, both, twice)))
    ]

-- the sides of all polygons are those of all sides read one after another
pub sides_in_row : (appeared : List Label) (polygons : List (List Label))
    → flat_map (λ polygon. polygon) (side_labels_of appeared polygons) ≡ side_labels appeared (all_sides polygons)
sides_in_row appeared [] = refl
sides_in_row appeared (names ∷ polygons) =
    ap (λ sides. side_labels appeared names ++ sides) (sides_in_row (with_labels appeared names) polygons) ∙ sym (labels_after appeared names (all_sides polygons))
  where
    labels_after : (appeared names more : List Label) → side_labels appeared (names ++ more) ≡ side_labels appeared names ++ side_labels (with_labels appeared names) more
    labels_after appeared [] more = refl
    labels_after appeared (x ∷ names) more =
        ap (λ sides. record { label = label_number appeared x; occurrence = cond (has appeared x) 1 0 } ∷ sides) (labels_after (with_label appeared x) names more)

-- each side has the number of a label, and is a first or a second occurrence
pub side_named : (labels names : List Label) (s : SideLabel) → Mem s (side_labels labels names)
    → (s.label < length (with_labels labels names)) × (s.occurrence ≤ 1)
side_named labels [] s m = absurd m
side_named labels (x ∷ names) s (inr m) = side_named (with_label labels x) names s m
side_named labels (x ∷ names) s (inl e) =
    let number : s.label ≡ label_number (with_labels labels (x ∷ names)) x = ap (λ (r : SideLabel). r.label) e ∙ sym (number_kept labels x names) in
    let occurrence : s.occurrence ≡ cond (has labels x) 1 0 = ap (λ (r : SideLabel). r.occurrence) e in
    (rw number (first_below (bytes_eq x) _ (read_among labels names x)), rw occurrence (bit_le (has labels x)))
  where
    bit_le : (b : Bool) → cond {A = ℕ} b 1 0 ≤ 1
    bit_le true = omega arith
    bit_le false = omega arith

-- there are as many labels as first occurrences
pub first_occurrences : (labels names : List Label)
    → length (with_labels labels names) ≡ length labels + count_by (λ (s : SideLabel). eqb s.occurrence 0) (side_labels labels names)
first_occurrences labels [] = omega arith
first_occurrences labels (x ∷ names) =
    let rest = first_occurrences (with_label labels x) names in
    let count = sum_by-cons (λ (s : SideLabel). cond (eqb s.occurrence 0) 1 0) (record { label = label_number labels x; occurrence = cond (has labels x) 1 0 }) (side_labels (with_label labels x) names) in
    elim (cases_Bool (has labels x)) [
      | inl old ↦
          let same : length (with_label labels x) ≡ length labels = rw old refl in
          let none : cond {A = ℕ} (eqb (cond (has labels x) 1 0) 0) 1 0 ≡ 0 = rw old refl in
          omega (arith, rest, count, same, none)
      | inr new ↦
          let more : length (with_label labels x) ≡ length labels + 1 = rw new (length_push labels x) in
          let one : cond {A = ℕ} (eqb (cond (has labels x) 1 0) 0) 1 0 ≡ 1 = rw new refl in
          omega (arith, rest, count, more, one)
    ]
