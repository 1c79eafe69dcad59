-- What a curve on a page keeps, and what joining the page makes of it where no label is a seam.
use Rattle.std.proofs.Common.{◌≡◌, ℕ, suc, ◌-◌, ◌<◌, Bool, true, false, eqb, ltb, not, List, [], ◌∷◌, map, length, get_or, find, flat_map, filter_map, Option, Some, None, option_map, refl, sym, ap, ap₂, ◌∙◌, arith, inl, inr}
use Rattle.std.specs.List.{cons_option, list_all, position, position_or_len, range_with_len}
use Rattle.std.proofs.lemmas.Bool.{cases_Bool, not-false}
use Rattle.std.proofs.lemmas.List.{length-map}
use Rattle.std.proofs.lemmas.List.FromFn.{get_or-map-range_with_len, length-map-range_with_len}
use Rattle.obd_base.specs.Lists.{Mem, below}
use Rattle.obd_base.proofs.Options.{NoneOf, each_none, fails_where_none, none_mapped}
use Rattle.obd_base.proofs.lists.Below.{below_mem, range_mem}
use Rattle.obd_base.proofs.lists.Members.{mem_flat, mem_to_map}
use Rattle.page_surface.specs.declared.page.SideLabel.{SideLabel}
use Rattle.page_surface.specs.Drawing.{crosses, exit}
use Rattle.page_surface.specs.Joining.{Joined, is_side, other_side, is_split, join_all, joined, polygon_of}
use Rattle.page_surface.specs.Labels.{Label, labels_of, side_labels_of}
use Rattle.page_surface.specs.Page.{IsPage}
use Rattle.page_surface.specs.Polygon.{IsPolygon}
use Rattle.page_surface.proofs.Laws.{paired_is_polygon}
use Rattle.arc_basis.specs.Basis.{joined_sides}
use Rattle.arc_basis.proofs.Paired.{sides_pair}
use Rattle.arc_basis.proofs.Places.{any_counted, found_place}
use Rattle.arc_basis.proofs.Whole.{page_whole, some_arc, some_polygon}
use Rattle.curve_paths.specs.declared.chords.ChordPair.{ChordPair}
use Rattle.curve_paths.specs.declared.crossing.Crossing.{Crossing}
use Rattle.curve_paths.specs.declared.path.Cross.{Cross}
use Rattle.curve_paths.specs.declared.refusal.CurveRefusal.TheVariants.{EmptyPath, UnknownLabel, TooManyCrossings, PlaceWrong, NotAdjacent, Crosses}
use Rattle.curve_paths.specs.PathRules.{IsPath, crossing_pair, do_cross, pair, pairs_below, refusals}
use Rattle.curve_paths.specs.PathTables.{HaveOccurrences}
use Rattle.curve_paths.specs.Paths.{crossings, has_label_places, is_known, is_within, path_chord, path_chords, place_on, row}
use Rattle.curve_paths.specs.PlaceTables.{ArePlaced}
use Rattle.curve_paths.specs.Through.{exit_through}
use Rattle.curve_paths.proofs.Carried.{out, outs}
use Rattle.curve_paths.proofs.Orders.{there_in_row}
use Rattle.curve_paths.proofs.Rules.{crossings_placed, labels_known}
use Rattle.arc_basis.proofs.Rows.{named_in_row, once_in_row}

-- what is found nowhere in a list fails for each member
fails_for : {X : Type 0} (q : X → Bool) (xs : List X) (x : X) → find q xs ≡ None → Mem x xs → q x ≡ false
fails_for q [] x none m = absurd m
fails_for q (y ∷ xs) x none m = elim (cases_Bool (q y)) [
  | inl t ↦ absurd (let bad = rw t at none in cc)
  | inr f ↦ elim m [ inl e ↦ (ap q e ∙ f) | inr k ↦ fails_for q xs x (rw f at none) k ]
]

-- each two numbers below n are one of the pairs
pair_there : (n i j : ℕ) → i < j → j < n → Mem (pair i j) (pairs_below n)
pair_there n i j l h =
    mem_flat (λ i. map (pair i) (range_with_len (suc i) (n - suc i))) (below n) i (pair i j) (below_mem n i (omega arith))
    (mem_to_map (pair i) j (range_with_len (suc i) (n - suc i)) (range_mem (suc i) (n - suc i) j (omega arith) (omega arith)))

-- what a path that keeps the rules has
module _ (page : List (List Label)) (path : List Cross) (kept : IsPath page path) where
  abbrev cs : List Crossing
  cs = crossings page path

  rules : NoneOf (refusals page path)
  rules = each_none (refusals page path) kept

  pub some_crossing : eqb (length path) 0 ≡ false
  some_crossing = fails_where_none (eqb (length path) 0) EmptyPath rules.0

  pub known : list_all (is_known page) path ≡ true
  known = labels_known page path some_crossing (sym (none_mapped UnknownLabel _ rules.1.0))

  pub few : ltb 32 (length path) ≡ false
  few = fails_where_none (ltb 32 (length path)) (TooManyCrossings (length path)) rules.1.1.0

  no_wrong : find (λ label. not (has_label_places cs label)) (below (length (labels_of page))) ≡ None
  no_wrong = none_mapped (λ label. PlaceWrong (get_or (labels_of page) label [])) _ rules.1.1.1.0

  pub right : (label : ℕ) → label < length (labels_of page) → has_label_places cs label ≡ true
  right label l = not-false _ (fails_for (λ label. not (has_label_places cs label)) (below (length (labels_of page))) label no_wrong (below_mem _ label l))

  no_pair : crossing_pair (path_chords page cs) ≡ None
  no_pair = none_mapped (λ (e : ChordPair). Crosses e.first e.second) _ rules.1.1.1.1.1.0

  pub clear : (i j : ℕ) → i < j → j < length cs → crosses (path_chord page cs i) (path_chord page cs j) ≡ false
  clear i j l h =
      let n : length (path_chords page cs) ≡ length cs = length-map-range_with_len (path_chord page cs) 0 (length cs) in
      let none = fails_for (do_cross (path_chords page cs)) (pairs_below (length (path_chords page cs))) (pair i j) no_pair (pair_there (length (path_chords page cs)) i j l (omega (arith, n))) in
      sym (ap₂ crosses (get_or-map-range_with_len (path_chord page cs) 0 (length cs) i i _ (omega arith) (omega arith)) (get_or-map-range_with_len (path_chord page cs) 0 (length cs) j j _ h (omega arith))) ∙ none

  -- the two ends of each chord lie on one polygon
  pub within : (i : ℕ) → i < length cs → is_within page cs i ≡ true
  within i l = not-false _ (fails_for (λ i. not (is_within page cs i)) (below (length cs)) i (none_mapped NotAdjacent _ rules.1.1.1.1.0) (below_mem _ i l))

  -- its crossings are placed
  pub placed : HaveOccurrences path → ArePlaced page cs
  placed occurrences = crossings_placed page path known occurrences few (sym no_wrong)

-- a page has a label
pub some_label : (page : List (List Label)) → IsPage page → 0 < length (labels_of page)
some_label page valid = let a = some_arc page valid in let b = some_polygon page valid in omega (arith, a, b)

-- and one of one polygon has no seam
pub no_seam : (page : List (List Label)) → IsPage page → length page ≡ 1 → (joined page).seams ≡ []
no_seam page valid one = none (joined page).seams (let s = (page_whole page valid).seams in omega (arith, s, one))
  where
    none : (xs : List ℕ) → length xs ≡ 0 → xs ≡ []
    none [] e = refl
    none (x ∷ xs) e = absurd (omega (arith, e))

-- labels that join nothing leave the polygons as they are
unjoined : (labels : List ℕ) (polygons : List (List SideLabel)) → (join_all labels polygons).seams ≡ [] → (join_all labels polygons).polygons ≡ polygons
unjoined [] polygons e = refl
unjoined (label ∷ labels) polygons e = elim (cases_Bool (is_split label polygons)) [
  | inl t ↦ absurd (let bad = rw (join_all, t) at e in cc)
  | inr f ↦ rw (join_all, f) (unjoined labels polygons (rw (join_all, f) at e))
]

-- so without a seam the joined sides are the page's row
module _ (page : List (List Label)) (j : Joined) (is : j ≡ joined page) (no_seam : j.seams ≡ []) where
  pub whole_sides : joined_sides j ≡ row page
  whole_sides =
      ap joined_sides is ∙ ap (flat_map (λ polygon. polygon)) (unjoined (below (length (labels_of page))) (side_labels_of [] page) (sym (ap (λ (k : Joined). k.seams) is) ∙ no_seam))

-- items each of which is kept
kept_all : {X Y : Type 0} (f : X → Option Y) (g : X → Y) (xs : List X) → ((x : X) → Mem x xs → f x ≡ Some (g x)) → filter_map f xs ≡ map g xs
kept_all f g [] h = refl
kept_all f g (x ∷ xs) h = ap₂ cons_option (h x (inl refl)) (kept_all f g xs (λ y m. h y (inr m)))

-- the row has a side, and its sides pair off
pub row_polygon : (page : List (List Label)) → IsPage page → 0 < length (labels_of page) → IsPolygon (polygon_of (row page))
row_polygon page valid some_label =
    let some : 0 < length (row page) = longer (row page) _ (there_in_row page valid 0 0 some_label (omega arith)) in
    let partners : List ℕ = map (λ s. position_or_len (is_side (other_side s)) (row page)) (row page) in
    paired_is_polygon partners (omega (arith, some, length-map (row page) (λ s. position_or_len (is_side (other_side s)) (row page))))
    (sides_pair (row page) (length (labels_of page)) (named_in_row page valid) (λ s m o h. once_in_row page valid s.label o (named_in_row page valid s m).0 h))
  where
    longer : {X : Type 0} (xs : List X) (x : X) → Mem x xs → 0 < length xs
    longer [] x m = absurd m
    longer (y ∷ xs) x m = omega arith

module _ (page : List (List Label)) (valid : IsPage page) (cs : List Crossing) (placed : ArePlaced page cs) where
  -- where no side is lost, each crossing has an exit
  pub outs_made : (j : Joined) → joined_sides j ≡ row page → filter_map (exit_through j cs) cs ≡ outs page valid cs placed
  outs_made j whole =
      kept_all (exit_through j cs) (out page valid cs placed) cs
      (λ c m. let n = placed.named c m in
      ap (λ sides. option_map (λ s. exit s (place_on cs c.side c.place)) (position (is_side c.side) sides)) whole
      ∙ ap (option_map (λ s. exit s (place_on cs c.side c.place)))
      (found_place (is_side c.side) (row page) (any_counted (is_side c.side) (row page) (omega (arith, once_in_row page valid c.side.label c.side.occurrence n.0 n.1)))))
