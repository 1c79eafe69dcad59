-- On a page of one polygon a path whose exits are a curve keeps the rules.
use Rattle.std.proofs.Common.{◌≡◌, ℕ, suc, ◌-◌, ◌<◌, ◌≤◌, Bool, true, false, eqb, not, List, [], ◌∷◌, map, length, find, option_map, None, refl, sym, ap, ap₂, ◌∙◌, arith, inl, inr}
use Rattle.std.specs.List.{count_by, list_all, list_any, range_with_len, sum_by}
use Rattle.std.proofs.lemmas.Bool.{and_parts, cases_eq, eq-eqb, le-ltb, ne_eqb}
use Rattle.std.proofs.lemmas.List.FromFn.{get_or-map-range_with_len, length-map-range_with_len}
use Rattle.obd_base.specs.Lists.{below}
use Rattle.obd_base.proofs.lists.Below.{bit}
use Rattle.obd_base.proofs.lists.Sums.{sum_map, sum_same}
use Rattle.page_surface.specs.declared.page.SideLabel.{SideLabel}
use Rattle.page_surface.specs.Drawing.{crosses}
use Rattle.page_surface.specs.Joining.{is_side, other_side, side}
use Rattle.page_surface.specs.Labels.{Label, side_labels, labels_of}
use Rattle.page_surface.specs.Page.{IsPage}
use Rattle.page_surface.specs.Polygon.{IsPolygon}
use Rattle.std.proofs.lemmas.List.{append-nil}
use Rattle.arc_basis.proofs.LabelCounts.{stands}
use Rattle.arc_basis.proofs.Rows.{once_in_row}
use Rattle.arc_basis.proofs.Places.{any_counted, mem_at, no_place}
use Rattle.curve_paths.specs.declared.crossing.Crossing.{Crossing}
use Rattle.curve_paths.specs.declared.path.Cross.{Cross}
use Rattle.curve_paths.specs.Curves.{IsCurve, curve_chord, curve_stands, previous}
use Rattle.curve_paths.specs.PathRules.{IsPath, crossing_pair, do_cross, pair}
use Rattle.curve_paths.specs.Paths.{crossing_at, crossings, entered_side, following, has_label_places, is_known, is_met_at, is_within, label_points, path_chord, path_chords, place_on, polygon_at}
use Rattle.curve_paths.specs.PlaceTables.{ArePlaced}
use Rattle.curve_paths.proofs.Carried.{at, chord_is, many, out, outs, place, polygon, points_of, size, stands_once, stands_there}
use Rattle.curve_paths.proofs.CurveEnds.{chords_turned}
use Rattle.curve_paths.proofs.Finds.{all_pass, find-map, no_list, no_number}
use Rattle.curve_paths.proofs.Orders.{following_within}
use Rattle.curve_paths.proofs.Rules.{none_fails}

-- where all pass, none fails
none_unknown : {X : Type 0} (p : X → Bool) (xs : List X) → list_all p xs ≡ true → list_any (λ x. not (p x)) xs ≡ false
none_unknown p [] h = refl
none_unknown p (x ∷ xs) h = let (t, rest) = and_parts (p x) (list_all p xs) h in rw t (none_unknown p xs rest)

-- the crossing before the following one
before_following : (n i : ℕ) → i < n → previous n (following n i) ≡ i
before_following n i l = elim (cases_eq (suc i) n) [
  | inl e ↦ (let first : following n i ≡ 0 = rw (eq-eqb (suc i) n e) refl in let last : n - 1 ≡ i = omega (arith, e) in ap (previous n) first ∙ last)
  | inr ne ↦
      let next : following n i ≡ suc i = rw (ne_eqb (suc i) n ne) refl in
      let back : previous n (suc i) ≡ suc i - 1 = rw (ne_eqb (suc i) 0 (λ z. omega (arith, z))) refl in
      let same : suc i - 1 ≡ i = omega arith in
      ap (previous n) next ∙ (back ∙ same)
]

-- on a page of one polygon each side lies on it
on_one : (page : List (List Label)) → IsPage page → length page ≡ 1 → (s : SideLabel) → s.label < length (labels_of page) → s.occurrence ≤ 1 → polygon_at page s ≡ 0
on_one [] valid one s l o = absurd (omega arith)
on_one (p ∷ q ∷ page) valid one s l o = absurd (omega arith)
on_one (names ∷ []) valid one s l o =
    let once = ap (stands s.label s.occurrence) (sym (append-nil (side_labels [] names))) ∙ once_in_row (names ∷ []) valid s.label s.occurrence l o in
    let there = any_counted (is_side s) (side_labels [] names) (omega (arith, once)) in
    rw there refl

module _ (page : List (List Label)) (valid : IsPage page) (cs : List Crossing) (placed : ArePlaced page cs)
    (curve : IsCurve (polygon page valid cs placed) (outs page valid cs placed)) where
  -- a place of a label is met once, as it stands once on the label's first side
  met_once : (label q : ℕ) → label < length (labels_of page) → q < label_points cs label → count_by (is_met_at label q) cs ≡ 1
  met_once label q l lq =
      let s : SideLabel = side label 0 in
      let n : (label < length (labels_of page)) × (0 ≤ 1) = (l, omega arith) in
      let k : ℕ = place page valid cs placed s in
      let t = stands_there page valid cs placed s n in
      let points : label_points cs (at page valid cs placed k).label ≡ label_points cs label = ap (λ (u : SideLabel). label_points cs u.label) t.1 in
      let once : sum_by (λ e. curve_stands (polygon page valid cs placed) (outs page valid cs placed) e k q) (outs page valid cs placed) ≡ 1
      = curve.right k q (omega (arith, size page valid cs placed, t.0)) (omega (arith, points_of page valid cs placed s n, lq)) in
      ap (λ (u : SideLabel). sum_by (λ c. bit (is_met_at u.label (place_on cs u q) c)) cs) (sym t.1)
      ∙ (sym (sum_same (λ c. curve_stands (polygon page valid cs placed) (outs page valid cs placed) (out page valid cs placed c) k q)
      (λ c. bit (is_met_at (at page valid cs placed k).label (place_on cs (at page valid cs placed k) q) c)) cs (stands_once page valid cs placed k q t.0 (omega (arith, points, lq))))
      ∙ (sym (sum_map (λ e. curve_stands (polygon page valid cs placed) (outs page valid cs placed) e k q) (out page valid cs placed) cs) ∙ once))

  -- so its places are right
  pub places_right : (label : ℕ) → label < length (labels_of page) → has_label_places cs label ≡ true
  places_right label l =
      all_pass (λ q. eqb (count_by (is_met_at label q) cs) 1) 0 (label_points cs label) (λ q a b. eq-eqb _ _ (met_once label q l (omega arith)))

  -- each chord of the path is a chord of the curve, the one after
  chord_after : (i : ℕ) → i < length cs → path_chord page cs i ≡ curve_chord (polygon page valid cs placed) (outs page valid cs placed) (following (length cs) i)
  chord_after i l =
      sym (chord_is page valid cs placed (following (length cs) i) (following_within (length cs) i l) ∙ ap (path_chord page cs) (before_following (length cs) i l))

  -- so no two cross
  pub chords_clear : IsPolygon (polygon page valid cs placed) → (i j : ℕ) → i < j → j < length cs → crosses (path_chord page cs i) (path_chord page cs j) ≡ false
  chords_clear ok i j l h =
      let p = polygon page valid cs placed in
      let c = outs page valid cs placed in
      let n : ℕ = length cs in
      let one : following n i ≡ suc i = rw (ne_eqb (suc i) n (λ e. omega (arith, e))) refl in
      let m = many page valid cs placed in
      elim (cases_eq (suc j) n) [
        | inl e ↦
            let two : following n j ≡ 0 = rw (eq-eqb (suc j) n e) refl in
            ap₂ crosses (chord_after i (omega arith) ∙ ap (curve_chord p c) one) (chord_after j h ∙ ap (curve_chord p c) two)
            ∙ (chords_turned p ok c curve.in_range curve.right (suc i) 0 (omega (arith, m)) (omega (arith, m)) (λ q. omega (arith, q))
            ∙ curve.uncrossed 0 (suc i) (omega arith) (omega (arith, m)))
        | inr ne ↦
            let two : following n j ≡ suc j = rw (ne_eqb (suc j) n ne) refl in
            ap₂ crosses (chord_after i (omega arith) ∙ ap (curve_chord p c) one) (chord_after j h ∙ ap (curve_chord p c) two)
            ∙ curve.uncrossed (suc i) (suc j) (omega arith) (omega (arith, m, ne))
      ]

  -- none of the pairs
  no_pair_crosses : IsPolygon (polygon page valid cs placed) → crossing_pair (path_chords page cs) ≡ None
  no_pair_crosses ok =
      let chords = path_chords page cs in
      let n : length chords ≡ length cs = length-map-range_with_len (path_chord page cs) 0 (length cs) in
      no_list (do_cross chords) (λ i. map (pair i) (range_with_len (suc i) (length chords - suc i))) 0 (length chords)
      (λ i a b. find-map (do_cross chords) (pair i) (range_with_len (suc i) (length chords - suc i))
      ∙ ap (option_map (pair i)) (no_number (λ j. do_cross chords (pair i j)) (suc i) (length chords - suc i) (λ j g h.
      ap₂ crosses (get_or-map-range_with_len (path_chord page cs) 0 (length cs) i i _ (omega (arith, n)) (omega arith))
      (get_or-map-range_with_len (path_chord page cs) 0 (length cs) j j _ (omega (arith, n)) (omega arith))
      ∙ chords_clear ok i j (omega arith) (omega (arith, n)))))

  -- and all chords lie on the one polygon
  none_apart : length page ≡ 1 → find (λ i. not (is_within page cs i)) (below (length cs)) ≡ None
  none_apart one =
      no_number (λ i. not (is_within page cs i)) 0 (length cs) (λ i a b.
      let n = placed.named (crossing_at cs i) (mem_at cs i (crossing_at [] 0) (omega arith)) in
      let f : ℕ = following (length cs) i in
      let m = placed.named (crossing_at cs f) (mem_at cs f (crossing_at [] 0) (following_within (length cs) i (omega arith))) in
      let from : polygon_at page (entered_side (crossing_at cs i)) ≡ 0 = on_one page valid one (other_side (crossing_at cs i).side) n.0 (omega arith) in
      let to : polygon_at page (crossing_at cs f).side ≡ 0 = on_one page valid one (crossing_at cs f).side m.0 m.1 in
      rw (from, to) refl)

-- so the path keeps the rules
pub is_path : (page : List (List Label)) (valid : IsPage page) (path : List Cross) → length page ≡ 1 → 1 ≤ length path → length path ≤ 32 → list_all (is_known page) path ≡ true
    → (placed : ArePlaced page (crossings page path)) → IsPolygon (polygon page valid (crossings page path) placed)
    → IsCurve (polygon page valid (crossings page path) placed) (outs page valid (crossings page path) placed) → IsPath page path
is_path page valid path one some few known placed ok curve =
    let cs = crossings page path in
    none_fails page path (ne_eqb (length path) 0 (λ e. omega (arith, e))) (sym (no_place (λ c. not (is_known page c)) path (none_unknown (is_known page) path known)))
    (le-ltb 32 (length path) few)
    (sym (no_number (λ label. not (has_label_places cs label)) 0 (length (labels_of page)) (λ label a b. ap not (places_right page valid cs placed curve label (omega arith)))))
    (sym (none_apart page valid cs placed curve one)) (sym (no_pair_crosses page valid cs placed curve ok))
