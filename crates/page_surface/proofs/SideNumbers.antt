-- The sides of a page by the numbers of their labels: what is counted and found by numbers is so by names.
use Rattle.std.proofs.Common.{◌≡◌, ℕ, zero, suc, ◌<◌, Bool, true, cond, eqb, ◌||◌, List, [], ◌∷◌, ◌++◌, map, length, get_or, count_by, refl, sym, ap, ap₂, ◌∙◌, arith, inl, inr, Some}
use Rattle.std.specs.List.{list_any, flat_map, slice_get, All}
use Rattle.std.specs.Str.{bytes_eq}
use Rattle.std.proofs.lemmas.Bool.{cases_Bool, eq-eqb, ne_eqb, false≢true}
use Rattle.std.proofs.lemmas.List.{get_or-map, get_or_default, length-map, append-nil}
use Rattle.std.proofs.lemmas.List.Folds.{list_any_at}
use Rattle.std.proofs.lemmas.List.FromFn.{fill_by_all}
use Rattle.std.proofs.lemmas.List.Sums.{fold-append, sum_by-cons}
use Rattle.std.proofs.lemmas.Option.{same_Some, slice_get_read}
use Rattle.std.proofs.lemmas.Slice.Eq.{bytes_eq-Decides}
use Rattle.obd_base.proofs.lists.Counts.{count_by-map}
use Rattle.page_surface.specs.declared.page.SideLabel.{SideLabel}
use Rattle.page_surface.specs.Labels.{Label, all_sides, with_label, with_labels, labels_of, label_number, occurrences_of, side_labels, side_labels_of}
use Rattle.page_surface.specs.Marks.{is_of, side_counts}
use Rattle.page_surface.proofs.FewSides.{AreAmong, sides_among_with_labels}
use Rattle.page_surface.proofs.Keys.{list_any-map}
use Rattle.page_surface.proofs.LabelNumbers.{has, at_places}
use Rattle.page_surface.proofs.Names.{at_number, number_kept, side_label_in_range}
use Rattle.page_surface.proofs.Sides.{length-side_labels, length-side_labels_of, length-of_polygon}

-- two labels have one number where they are one
pub number_tells : (labels : List Label) (x y : Label) → has labels x ≡ true → has labels y ≡ true
    → eqb (label_number labels x) (label_number labels y) ≡ bytes_eq x y
number_tells labels x y hx hy = elim (cases_Bool (bytes_eq x y)) [
  | inl same ↦ eq-eqb _ _ (ap (label_number labels) ((bytes_eq-Decides x y).0 same)) ∙ sym same
  | inr other ↦
      ne_eqb _ _ (λ e.
      let at : slice_get labels (label_number labels x) ≡ Some y = ap (slice_get labels) e ∙ at_number labels y hy in
      let one : x ≡ y = same_Some x y (sym (at_number labels x hx) ∙ at) in
      false≢true (sym other ∙ (bytes_eq-Decides x y).1 one))
      ∙ sym other
]

-- the sides of some names and of more
side_labels-append : (appeared names more : List Label) → side_labels appeared (names ++ more) ≡ side_labels appeared names ++ side_labels (with_labels appeared names) more
side_labels-append appeared [] more = refl
side_labels-append appeared (x ∷ names) more = ap (λ xs. record { label = label_number appeared x; occurrence = cond (has appeared x) 1 0 } ∷ xs) (side_labels-append (with_label appeared x) names more)

-- the sides of all polygons in one row
flat_sides : (appeared : List Label) (polygons : List (List Label)) → flat_map (λ p. p) (side_labels_of appeared polygons) ≡ side_labels appeared (all_sides polygons)
flat_sides appeared [] = refl
flat_sides appeared (p ∷ polygons) =
    ap (λ xs. side_labels appeared p ++ xs) (flat_sides (with_labels appeared p) polygons) ∙ sym (side_labels-append appeared p (all_sides polygons))

-- the labels of the sides, by number, are the numbers of the names, whatever sides follow
numbers_of : (appeared names more : List Label) → map (λ s. s.label) (side_labels appeared names) ≡ map (label_number (with_labels appeared (names ++ more))) names
numbers_of appeared [] more = refl
numbers_of appeared (x ∷ names) more =
    ap₂ (λ (n : ℕ) ns. n ∷ ns) (sym (number_kept appeared x (names ++ more))) (numbers_of (with_label appeared x) names more)

-- so on each polygon
numbers_after : (appeared : List Label) (polygons : List (List Label)) (q : ℕ)
    → map (λ s. s.label) (get_or (side_labels_of appeared polygons) q []) ≡ map (label_number (with_labels appeared (all_sides polygons))) (get_or polygons q [])
numbers_after appeared [] q = refl
numbers_after appeared (p ∷ polygons) zero = numbers_of appeared p (all_sides polygons)
numbers_after appeared (p ∷ polygons) (suc q) = rw (fold-append with_label appeared p (all_sides polygons)) (numbers_after (with_labels appeared p) polygons q)

module _ (labels : List Label) (p q : Label → Bool) (same : (x : Label) → has labels x ≡ true → p x ≡ q x) where
  -- what agrees on the labels counts as many sides
  count_same : (names : List Label) → AreAmong labels names → count_by p names ≡ count_by q names
  count_same [] among = refl
  count_same (x ∷ names) (here, rest) =
      sum_by-cons (λ y. cond (p y) 1 0) x names ∙ (rw (same x here, count_same names rest) (sym (sum_by-cons (λ y. cond (q y) 1 0) x names)))

  -- and finds one where the other does
  any_same : (names : List Label) → AreAmong labels names → list_any p names ≡ list_any q names
  any_same [] among = refl
  any_same (x ∷ names) (here, rest) = ap₂ (λ a b. a || b) (same x here) (any_same names rest)

-- a part of what is among the labels is among them
among_parts : (labels xs ys : List Label) → AreAmong labels (xs ++ ys) → AreAmong labels xs × AreAmong labels ys
among_parts labels [] ys among = (tt, among)
among_parts labels (x ∷ xs) ys (here, rest) = let parts = among_parts labels xs ys rest in ((here, parts.0), parts.1)

among_polygon : (labels : List Label) (polygons : List (List Label)) (q : ℕ) → AreAmong labels (all_sides polygons) → AreAmong labels (get_or polygons q [])
among_polygon labels [] q among = tt
among_polygon labels (p ∷ polygons) zero among = (among_parts labels p (all_sides polygons) among).0
among_polygon labels (p ∷ polygons) (suc q) among = among_polygon labels polygons q (among_parts labels p (all_sides polygons) among).1

module _ (polygons : List (List Label)) where
  -- the labels of a polygon are among those of all
  pub names_among : (q : ℕ) → AreAmong (labels_of polygons) (get_or polygons q [])
  names_among q = among_polygon (labels_of polygons) polygons q (sides_among_with_labels (all_sides polygons) [])

  -- a test of the numbers on a polygon is one of the numbers of its names
  pub any_by_number : (p : ℕ → Bool) (q : ℕ)
      → list_any (λ s. p s.label) (get_or (side_labels_of [] polygons) q []) ≡ list_any (λ x. p (label_number (labels_of polygons) x)) (get_or polygons q [])
  any_by_number p q =
      sym (list_any-map p (λ (s : SideLabel). s.label) (get_or (side_labels_of [] polygons) q []))
      ∙ (ap (list_any p) (numbers_after [] polygons q) ∙ list_any-map p (label_number (labels_of polygons)) (get_or polygons q []))

  -- a polygon has a side of a label's number where it has a side of the label
  pub has_of_number : (x : Label) (q : ℕ) → has (labels_of polygons) x ≡ true
      → list_any (is_of (label_number (labels_of polygons) x)) (get_or (side_labels_of [] polygons) q []) ≡ list_any (bytes_eq x) (get_or polygons q [])
  has_of_number x q h =
      any_by_number (eqb (label_number (labels_of polygons) x)) q
      ∙ any_same (labels_of polygons) _ (bytes_eq x) (λ y k. number_tells (labels_of polygons) x y h k) (get_or polygons q []) (names_among q)

  -- the label at a number occurs as often as its number
  count_at : (k : ℕ) → k < length (labels_of polygons)
      → occurrences_of polygons (get_or (labels_of polygons) k []) ≡ count_by (is_of k) (flat_map (λ p. p) (side_labels_of [] polygons))
  count_at k l =
      let labels : List Label = labels_of polygons in
      let names : List Label = all_sides polygons in
      let number : label_number labels (get_or labels k []) ≡ k = at_places names k l in
      let there : has labels (get_or labels k []) ≡ true = list_any_here labels k l in
      let one : count_by (bytes_eq (get_or labels k [])) names ≡ count_by (λ x. eqb k (label_number labels x)) names
      = count_same labels (bytes_eq (get_or labels k [])) (λ x. eqb k (label_number labels x))
      (λ x h. sym (number_tells labels (get_or labels k []) x there h) ∙ ap (λ (n : ℕ). eqb n (label_number labels x)) number)
      names (sides_among_with_labels names []) in
      let numbers : map (λ s. s.label) (side_labels [] names) ≡ map (label_number labels) names = rw append-nil at (numbers_of [] names []) in
      one ∙ (sym (count_by-map (eqb k) (label_number labels) names)
      ∙ (ap (count_by (eqb k)) (sym numbers)
      ∙ (count_by-map (eqb k) (λ (s : SideLabel). s.label) (side_labels [] names)
      ∙ ap (count_by (is_of k)) (sym (flat_sides [] polygons)))))
    where
      list_any_here : (labels : List Label) (k : ℕ) → k < length labels → has labels (get_or labels k []) ≡ true
      list_any_here labels k l = list_any_at _ labels k [] l ((bytes_eq-Decides (get_or labels k []) (get_or labels k [])).1 refl)

  -- so the counts of the sides are those of the labels
  pub counts_of_labels : side_counts (length (labels_of polygons)) (side_labels_of [] polygons) ≡ map (occurrences_of polygons) (labels_of polygons)
  counts_of_labels =
      sym (fill_by_all (λ k. count_by (is_of k) (flat_map (λ p. p) (side_labels_of [] polygons))) (map (occurrences_of polygons) (labels_of polygons)) (length (labels_of polygons)) 0
      (length-map (labels_of polygons) (occurrences_of polygons))
      (λ k l. get_or-map (occurrences_of polygons) (labels_of polygons) k [] 0 l ∙ count_at k l))

  -- as many sides as names
  pub length-flat_sides : length (flat_map (λ p. p) (side_labels_of [] polygons)) ≡ length (all_sides polygons)
  length-flat_sides = ap length (flat_sides [] polygons) ∙ length-side_labels [] (all_sides polygons)

  -- the label of each side is in range
  pub sides_in_range : All (λ polygon. All (λ s. s.label < length (labels_of polygons)) polygon) (side_labels_of [] polygons)
  sides_in_range p d l s e m =
      let within : p < length polygons = omega (arith, length-side_labels_of [] polygons) in
      let here : get_or (side_labels_of [] polygons) p d ≡ get_or (side_labels_of [] polygons) p [] = get_or_default (side_labels_of [] polygons) p d [] l in
      let small : s < length (get_or (side_labels_of [] polygons) p []) = omega (arith, ap length here) in
      side_label_in_range polygons p s (get_or (get_or (side_labels_of [] polygons) p d) s e) within (omega (arith, length-of_polygon [] polygons p))
      (slice_get_read (get_or (side_labels_of [] polygons) p []) (length (get_or (side_labels_of [] polygons) p [])) s (get_or (get_or (side_labels_of [] polygons) p d) s e)
      refl small (ap (λ xs. get_or xs s e) here ∙ get_or_default (get_or (side_labels_of [] polygons) p []) s e _ small))
