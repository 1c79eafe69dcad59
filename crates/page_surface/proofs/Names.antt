-- The name of a side's label is what stands on the side.
use Rattle.std.proofs.Common.{◌≡◌, ℕ, zero, suc, ◌+◌, ◌<◌, true, List, [], ◌∷◌, ◌++◌, length, get_or, Some, sym, ap, ◌∙◌, arith, inl, inr}
use Rattle.std.specs.List.{slice_get, slice_index_or}
use Rattle.std.specs.Str.{bytes_eq}
use Rattle.std.proofs.lemmas.Bool.{cases_Bool, false≢true}
use Rattle.std.proofs.lemmas.Option.{same_Some, slice_get_within}
use Rattle.std.proofs.lemmas.List.Sums.{fold-append}
use Rattle.std.proofs.lemmas.Slice.Eq.{bytes_eq-Decides}
use Rattle.page_surface.specs.declared.page.SideLabel.{SideLabel}
use Rattle.page_surface.specs.Labels.{Label, all_sides, with_label, with_labels, labels_of, label_number, side_labels, side_labels_of}
use Rattle.page_surface.proofs.LabelNumbers.{has, has_new, number_new, number_stays}
use Rattle.page_surface.proofs.FewSides.{among_with_labels}

-- a label that is among the labels stands at its number
pub at_number : (labels : List Label) (label : Label) → has labels label ≡ true → slice_get labels (label_number labels label) ≡ Some label
at_number [] label h = absurd (false≢true h)
at_number (x ∷ labels) label h = elim (cases_Bool (bytes_eq label x)) [
  | inl same ↦ rw same (ap Some (sym ((bytes_eq-Decides label x).0 same)))
  | inr other ↦
      let next : 1 + label_number labels label ≡ suc (label_number labels label) = omega arith in
      rw (other, next) (at_number labels label (rw other at h))
]

-- the number that a side gets stays after the sides that follow
pub number_kept : (appeared : List Label) (x : Label) (names : List Label) → label_number (with_labels appeared (x ∷ names)) x ≡ label_number appeared x
number_kept appeared x names = elim (cases_Bool (has appeared x)) [
  | inl old ↦ number_stays appeared (x ∷ names) x old
  | inr new ↦ number_stays (with_label appeared x) names x (has_new appeared x) ∙ number_new appeared x new
]

-- so what stands on a side is at that number among the labels of all sides
at_kept : (appeared : List Label) (x : Label) (names : List Label) → slice_get (with_labels appeared (x ∷ names)) (label_number appeared x) ≡ Some x
at_kept appeared x names =
    rw (← number_kept appeared x names) (at_number (with_labels appeared (x ∷ names)) x (among_with_labels names (with_label appeared x) x (has_new appeared x)))

-- the name of the label of each side of a polygon, whatever sides follow
named_among : (appeared names more : List Label) (s : ℕ) (side : SideLabel) → s < length names → slice_get (side_labels appeared names) s ≡ Some side
    → slice_get (with_labels appeared (names ++ more)) side.label ≡ Some (get_or names s [])
named_among appeared [] more s side l e = absurd (omega arith)
named_among appeared (x ∷ names) more zero side l e =
    let number : label_number appeared x ≡ side.label = ap (λ (r : SideLabel). r.label) (same_Some _ side e) in
    rw (← number) (at_kept appeared x (names ++ more))
named_among appeared (x ∷ names) more (suc s) side l e = named_among (with_label appeared x) names more s side (omega arith) e

-- and of each polygon, after labels that appeared before
named_after : (appeared : List Label) (polygons : List (List Label)) (p s : ℕ) (side : SideLabel) → p < length polygons → s < length (get_or polygons p [])
    → slice_get (get_or (side_labels_of appeared polygons) p []) s ≡ Some side
    → slice_get (with_labels appeared (all_sides polygons)) side.label ≡ Some (get_or (get_or polygons p []) s [])
named_after appeared [] p s side k l e = absurd (omega arith)
named_after appeared (names ∷ polygons) zero s side k l e = named_among appeared names (all_sides polygons) s side l e
named_after appeared (names ∷ polygons) (suc p) s side k l e =
    rw (fold-append with_label appeared names (all_sides polygons)) (named_after (with_labels appeared names) polygons p s side (omega arith) l e)

-- the name of a side's label is what stands on the side
pub side_named : (polygons : List (List Label)) (p s : ℕ) (side : SideLabel) → p < length polygons → s < length (slice_index_or polygons p [])
    → slice_get (slice_index_or (side_labels_of [] polygons) p []) s ≡ Some side
    → slice_get (labels_of polygons) side.label ≡ Some (slice_index_or (slice_index_or polygons p []) s [])
side_named = named_after []

-- so the label of a side is one of the labels
pub side_label_in_range : (polygons : List (List Label)) (p s : ℕ) (side : SideLabel) → p < length polygons → s < length (slice_index_or polygons p [])
    → slice_get (slice_index_or (side_labels_of [] polygons) p []) s ≡ Some side → side.label < length (labels_of polygons)
side_label_in_range polygons p s side k l e = slice_get_within (labels_of polygons) side.label _ (side_named polygons p s side k l e)
