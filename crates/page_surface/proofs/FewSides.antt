-- A page has at most 48 sides, since it has at most 24 labels and each stands twice.
use Rattle.std.proofs.Common.{◌≡◌, ℕ, suc, ◌*◌, ◌≤◌, true, cond, eqb, ltb, not, List, [], ◌∷◌, length, None, refl, sym, arith, inl, inr}
use Rattle.std.specs.List.{list_any, sum_by, count_by, find}
use Rattle.std.specs.Str.{bytes_eq}
use Rattle.std.proofs.lemmas.Bool.{cases_Bool, false≢true, ltb-false, eqb-true}
use Rattle.std.proofs.lemmas.List.Sums.{sum_by-cons}
use Rattle.std.proofs.lemmas.Slice.Eq.{bytes_eq-Decides}
use Rattle.page_surface.specs.declared.refusal.PageRefusal.TheVariants.{TooManyLabels, LabelCount}
use Rattle.page_surface.specs.Labels.{Label, with_label, with_labels, labels_of, all_sides, occurrences_of}
use Rattle.page_surface.proofs.LabelNumbers.{has_new, has_still}
use Rattle.obd_base.proofs.Options.{each_none, fails_where_none, none_mapped}
use Rattle.page_surface.specs.Page.{IsPage, refusals}

-- the label stands among the others
abbrev pub IsAmong : List Label → Label → Type 0
IsAmong labels label = list_any (bytes_eq label) labels ≡ true

either_way : (xs ys : Label) → bytes_eq xs ys ≡ true → bytes_eq ys xs ≡ true
either_way xs ys e = (bytes_eq-Decides ys xs).1 (sym ((bytes_eq-Decides xs ys).0 e))

-- a label stays among the labels when more sides are read
pub among_with_labels : (sides labels : List Label) (label : Label) → IsAmong labels label → IsAmong (with_labels labels sides) label
among_with_labels [] labels label among = among
among_with_labels (side ∷ sides) labels label among = among_with_labels sides (with_label labels side) label (has_still labels side label among)

-- each of some sides has its label among the labels
abbrev pub AreAmong : List Label → List Label → Type 0
AreAmong labels [] = Unit {0}
AreAmong labels (side ∷ sides) = IsAmong labels side × AreAmong labels sides

pub sides_among_with_labels : (sides labels : List Label) → AreAmong (with_labels labels sides) sides
sides_among_with_labels [] labels = tt
sides_among_with_labels (side ∷ sides) labels =
    (among_with_labels sides (with_label labels side) side (has_new labels side), sides_among_with_labels sides (with_label labels side))

-- one side more doesn't lower the count
at_least : (labels : List Label) (side : Label) (sides : List Label)
    → sum_by (λ label. count_by (bytes_eq label) sides) labels ≤ sum_by (λ label. count_by (bytes_eq label) (side ∷ sides)) labels
at_least [] side sides = omega arith
at_least (label ∷ labels) side sides =
    omega (
      arith,
      at_least labels side sides,
      sum_by-cons (λ label. count_by (bytes_eq label) sides) label labels,
      sum_by-cons (λ label. count_by (bytes_eq label) (side ∷ sides)) label labels,
      sum_by-cons (λ x. cond (bytes_eq label x) 1 0) side sides,
    )

-- one side more, whose label is among these, is counted at least once more
counted_side : (labels : List Label) (side : Label) (sides : List Label) → IsAmong labels side
    → suc (sum_by (λ label. count_by (bytes_eq label) sides) labels) ≤ sum_by (λ label. count_by (bytes_eq label) (side ∷ sides)) labels
counted_side [] side sides among = absurd (false≢true among)
counted_side (label ∷ labels) side sides among =
    let rest = at_least labels side sides in
    let here = sum_by-cons (λ label. count_by (bytes_eq label) sides) label labels in
    let there = sum_by-cons (λ label. count_by (bytes_eq label) (side ∷ sides)) label labels in
    let split = sum_by-cons (λ x. cond (bytes_eq label x) 1 0) side sides in
    elim (cases_Bool (bytes_eq side label)) [
      | inl same ↦ (let one : cond {A = ℕ} (bytes_eq label side) 1 0 ≡ 1 = rw (either_way side label same) refl in omega (arith, rest, here, there, split, one))
      | inr other ↦ (let more = counted_side labels side sides (rw other at among) in omega (arith, more, here, there, split))
    ]

-- sides whose labels are among these are at most as many as the occurrences of these
sides_counted : (sides labels : List Label) → AreAmong labels sides → length sides ≤ sum_by (λ label. count_by (bytes_eq label) sides) labels
sides_counted [] labels among = omega arith
sides_counted (side ∷ sides) labels among = omega (arith, counted_side labels side sides among.0, sides_counted sides labels among.1)

-- labels of which none stands another number of times than twice
twice_each : (f : Label → ℕ) (labels : List Label) → find (λ label. not (eqb (f label) 2)) labels ≡ None → sum_by f labels ≡ 2 * length labels
twice_each f [] none = refl
twice_each f (label ∷ labels) none = elim (cases_Bool (eqb (f label) 2)) [
  | inl two ↦ (let rest = twice_each f labels (rw two at none) in let is : f label ≡ 2 = eqb-true (f label) 2 two in omega (arith, rest, is, sum_by-cons f label labels))
  | inr other ↦ absurd (let bad = rw other at none in cc)
]

-- a page has at most two sides for each of its labels
pub two_a_label : (polygons : List (List Label)) → IsPage polygons → length (all_sides polygons) ≤ 2 * length (labels_of polygons)
two_a_label polygons page =
    let rules = each_none (refusals polygons) page in
    let twice = twice_each (occurrences_of polygons) (labels_of polygons) (none_mapped (λ label. LabelCount label (occurrences_of polygons label)) _ rules.1.1.1.1.0) in
    let counted = sides_counted (all_sides polygons) (labels_of polygons) (sides_among_with_labels (all_sides polygons) []) in
    omega (arith, twice, counted)

-- a page has at most 48 sides
pub few_sides : (polygons : List (List Label)) → IsPage polygons → length (all_sides polygons) ≤ 48
few_sides polygons page =
    let rules = each_none (refusals polygons) page in
    let few_labels = ltb-false 24 _ (fails_where_none (ltb 24 (length (labels_of polygons))) (TooManyLabels (length (labels_of polygons))) rules.1.1.1.0) in
    omega (arith, few_labels, two_a_label polygons page)
