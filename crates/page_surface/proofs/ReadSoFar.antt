-- The tables of the polygons that were read so far, and of one more.
use Rattle.std.proofs.Common.{◌≡◌, ℕ, ◌+◌, ◌<◌, ◌≤◌, List, [], ◌∷◌, ◌++◌, map, take, length, get_or, refl, sym, ap, ap₂, ◌∙◌, arith, append-nil, append_assoc, Vec, String, string_bytes}
use Rattle.std.proofs.lemmas.List.{get_or-map, length-map, map_more, take-map}
use Rattle.std.proofs.lemmas.List.Folds.{length-flat_map-take}
use Rattle.std.proofs.lemmas.List.Sums.{fold-append}
use Rattle.page_surface.specs.declared.page.SideLabel.{SideLabel}
use Rattle.page_surface.specs.Labels.{Label, all_sides, labels_of, side_labels, side_labels_of, with_label, with_labels}
use Rattle.page_surface.proofs.LabelNumbers.{few_labels}

-- the sides of some polygons and one more
all_sides_push : (polygons : List (List Label)) (p : List Label) → all_sides (polygons ++ p ∷ []) ≡ all_sides polygons ++ p
all_sides_push [] p = append-nil p
all_sides_push (q ∷ polygons) p = ap (λ xs. q ++ xs) (all_sides_push polygons p) ∙ sym (append_assoc q (all_sides polygons) p)

-- their labels
labels_push : (polygons : List (List Label)) (p : List Label) → labels_of (polygons ++ p ∷ []) ≡ with_labels (labels_of polygons) p
labels_push polygons p = ap (with_labels []) (all_sides_push polygons p) ∙ fold-append with_label [] (all_sides polygons) p

-- their sides by label and occurrence
sides_push : (appeared : List Label) (polygons : List (List Label)) (p : List Label)
    → side_labels_of appeared (polygons ++ p ∷ []) ≡ side_labels_of appeared polygons ++ side_labels (with_labels appeared (all_sides polygons)) p ∷ []
sides_push appeared [] p = refl
sides_push appeared (q ∷ polygons) p =
    rw (fold-append with_label appeared q (all_sides polygons)) (ap (λ xs. side_labels appeared q ∷ xs) (sides_push (with_labels appeared q) polygons p))

module _ {Z : Type 0} where
  -- the polygons of some strings
  abbrev pub shown : List (Vec (String Z) Z) → List (List Label)
  shown given = map (λ p. map string_bytes p.items) given

  module _ (given : List (Vec (String Z) Z)) (i : ℕ) (polygon : Vec (String Z) Z) (l : i < length given) (is : polygon ≡ get_or given i polygon) where
    -- one polygon more
    pub shown_more : shown (take (i + 1) given) ≡ shown (take i given) ++ map string_bytes polygon.items ∷ []
    shown_more = map_more (λ p. map string_bytes p.items) given i polygon l ∙ ap (λ p. shown (take i given) ++ map string_bytes p.items ∷ []) (sym is)

    -- the labels so far, with the sides of the polygon, are no more than all sides
    pub room_for_more : length (labels_of (shown (take i given))) + length polygon.items ≤ length (all_sides (shown given))
    room_for_more =
        let more = length-flat_map-take (λ p. p) (shown given) i [] (omega (arith, length-map given (λ p. map string_bytes p.items))) in
        let so_far : length (all_sides (take i (shown given))) ≡ length (all_sides (shown (take i given))) = ap (λ ps. length (all_sides ps)) (take-map (λ p. map string_bytes p.items) i given) in
        let here : length (get_or (shown given) i []) ≡ length polygon.items
        = ap length (get_or-map (λ p. map string_bytes p.items) given i polygon [] l ∙ ap (λ p. map string_bytes p.items) (sym is)) ∙ length-map polygon.items string_bytes in
        omega (arith, more, so_far, here, few_labels (shown (take i given)))

    -- the tables with one polygon more
    pub labels_more : (before after : List Label) → before ≡ labels_of (shown (take i given)) → after ≡ with_labels before (map string_bytes polygon.items)
        → after ≡ labels_of (shown (take (i + 1) given))
    labels_more before after at made =
        made ∙ (ap (λ ls. with_labels ls (map string_bytes polygon.items)) at ∙ (sym (labels_push (shown (take i given)) (map string_bytes polygon.items)) ∙ ap labels_of (sym shown_more)))

    pub sides_more : (before : List Label) (tables after : List (List SideLabel)) (made : List SideLabel) → before ≡ labels_of (shown (take i given))
        → tables ≡ side_labels_of [] (shown (take i given)) → made ≡ side_labels before (map string_bytes polygon.items) → after ≡ tables ++ made ∷ []
        → after ≡ side_labels_of [] (shown (take (i + 1) given))
    sides_more before tables after made at tables_are made_is after_is =
        after_is
        ∙ (ap₂ (λ ts m. ts ++ m ∷ []) tables_are (made_is ∙ ap (λ ls. side_labels ls (map string_bytes polygon.items)) at)
        ∙ (sym (sides_push [] (shown (take i given)) (map string_bytes polygon.items)) ∙ ap (side_labels_of []) (sym shown_more)))
