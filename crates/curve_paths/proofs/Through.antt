-- A path on a page, through the seams: which crossings are left, and the exits that they become.
use Rattle.std.proofs.Common.{◌≡◌, ℕ, ◌<◌, ◌≤◌, Bool, true, false, cond, eqb, List, [], ◌∷◌, map, length, get_or, filter, filter_map, Option, Some, None, option_map, refl, sym, subst, ap, ap₂, ◌∙◌, inl, inr, arith}
use Rattle.std.specs.List.{cons_option, count_by, position_or_len}
use Rattle.std.proofs.lemmas.Bool.{cases_Bool, eq-eqb}
use Rattle.std.proofs.lemmas.List.{get_or-map, length-map}
use Rattle.std.proofs.lemmas.List.Quantifiers.{position-Some}
use Rattle.std.proofs.lemmas.List.Sums.{length-filter}
use Rattle.obd_base.specs.Lists.{Mem, below}
use Rattle.obd_base.specs.declared.points.Exit.{Exit}
use Rattle.obd_base.proofs.lists.Below.{passing_at}
use Rattle.obd_base.proofs.lists.Sums.{by_entries}
use Rattle.page_surface.specs.declared.page.SideLabel.{SideLabel}
use Rattle.page_surface.specs.Drawing.{exit}
use Rattle.page_surface.specs.Joining.{has_side, is_side, joined, polygon_of}
use Rattle.page_surface.specs.Labels.{Label, labels_of}
use Rattle.page_surface.specs.Page.{IsPage}
use Rattle.page_surface.specs.Polygon.{IsPolygon, Pairs}
use Rattle.arc_basis.specs.Basis.{joined_sides}
use Rattle.arc_basis.proofs.LabelCounts.{stands}
use Rattle.arc_basis.proofs.Places.{any_counted, found_place, no_place, only_place}
use Rattle.curve_paths.specs.Curves.{IsCurve, exit_at}
use Rattle.curve_paths.specs.PathRules.{IsPath}
use Rattle.curve_paths.specs.PathTables.{HaveOccurrences}
use Rattle.curve_paths.specs.Paths.{crossing_at, crossings, place_on, row}
use Rattle.curve_paths.specs.PlaceTables.{ArePlaced}
use Rattle.curve_paths.specs.Through.{exit_through, exits_through}
use Rattle.curve_paths.specs.declared.crossing.Crossing.{Crossing}
use Rattle.curve_paths.specs.declared.path.Cross.{Cross}
use Rattle.curve_paths.proofs.Carried.{outs, outs_curve}
use Rattle.curve_paths.proofs.Kept.{clear, placed as path_placed, right, row_polygon, some_label}
use Rattle.curve_paths.proofs.Members.{mem_get_or}
use Rattle.curve_paths.proofs.Starts.{none}
use Rattle.arc_basis.proofs.OneItem.{counted}
use Rattle.curve_paths.proofs.Passings.{at}
use Rattle.curve_paths.proofs.Ranks.{rank, rank_less}
use Rattle.arc_basis.proofs.Whole.{IsWhole, page_whole}
use Rattle.arc_basis.proofs.Rows.{mem_had, itself, same_side}

-- what is made of some of a list
kept_some : {X Y : Type 0} (h : X → Option Y) (at : ℕ → X) (keep : ℕ → Bool) (f : ℕ → Y) (xs : List ℕ) → ((i : ℕ) → Mem i xs → h (at i) ≡ cond (keep i) (Some (f i)) None)
    → filter_map h (map at xs) ≡ map f (filter keep xs)
kept_some h at keep f [] g = refl
kept_some h at keep f (x ∷ xs) g =
    ap₂ cons_option (g x (inl refl)) (kept_some h at keep f xs (λ i m. g i (inr m))) ∙ go (keep x)
  where
    go : (b : Bool) → cons_option (cond b (Some (f x)) None) (map f (filter keep xs)) ≡ map f (cond b (x ∷ filter keep xs) (filter keep xs))
    go true = refl
    go false = refl

module _ (page : List (List Label)) (path : List Cross) (valid : IsPage page) (rules : IsPath page path) (occurrences : HaveOccurrences path) where
  abbrev cs : List Crossing
  cs = crossings page path

  abbrev n : ℕ
  n = length cs

  pub placed : ArePlaced page (crossings page path)
  placed = path_placed page path rules occurrences

  pub row_is_polygon : IsPolygon (polygon_of (row page))
  row_is_polygon = row_polygon page valid (some_label page valid)

  abbrev ok : Pairs (polygon_of (row page))
  ok = row_is_polygon.pairs

  pub row_curve : IsCurve (polygon_of (row page)) (outs page valid (crossings page path) placed)
  row_curve = outs_curve page valid cs placed row_is_polygon (right page path rules) (clear page path rules)

  abbrev left : List SideLabel
  left = joined_sides (joined page)

  pub whole : IsWhole page (joined_sides (joined page))
  whole = page_whole page valid

  -- the crossing isn't with a seam
  abbrev pub is_kept : ℕ → Bool
  is_kept i = has_side (crossing_at (crossings page path) i).side (joined_sides (joined page))

  abbrev ranks : ℕ → ℕ
  ranks i = rank is_kept n i

  abbrev place_left : SideLabel → ℕ
  place_left s = position_or_len (is_side s) left

  -- the exit that a crossing becomes
  abbrev becomes : ℕ → Exit
  becomes i = let c = crossing_at cs i in exit (place_left c.side) (place_on cs c.side c.place)

  exits_are : exits_through page path ≡ map becomes (filter is_kept (below n))
  exits_are =
      ap (filter_map (exit_through (joined page) cs)) (by_entries (crossing_at [] 0) cs n refl)
      ∙ kept_some (exit_through (joined page) cs) (crossing_at cs) is_kept becomes (below n) (λ i m. one i (is_kept i) refl)
    where
      one : (i : ℕ) (b : Bool) → is_kept i ≡ b → exit_through (joined page) cs (crossing_at cs i) ≡ cond b (Some (becomes i)) None
      one i true e = ap (option_map (λ s. exit s (place_on cs (crossing_at cs i).side (crossing_at cs i).place))) (found_place (is_side (crossing_at cs i).side) left e)
      one i false e = ap (option_map (λ s. exit s (place_on cs (crossing_at cs i).side (crossing_at cs i).place))) (no_place (is_side (crossing_at cs i).side) left e)

  abbrev es : List Exit
  es = exits_through page path

  pub exits_count : length (exits_through page path) ≡ count_by is_kept (below (length (crossings page path)))
  exits_count = ap length exits_are ∙ (length-map (filter is_kept (below n)) becomes ∙ length-filter is_kept (below n))

  pub exit_is : (i : ℕ) → i < n → is_kept i ≡ true → exit_at es (ranks i) ≡ becomes i
  exit_is i l t =
      let h = rank_less is_kept n i l t in
      ap (λ xs. exit_at xs (ranks i)) exits_are
      ∙ (get_or-map becomes (filter is_kept (below n)) (ranks i) 0 (exit 0 0) (omega (arith, h, length-filter is_kept (below n)))
      ∙ ap becomes (passing_at is_kept n i 0 l t))

  -- side k of what is left
  abbrev side_left : ℕ → SideLabel
  side_left k = get_or left k none

  pub side_named : (k : ℕ) → k < length left → ((side_left k).label < length (labels_of page)) × ((side_left k).occurrence ≤ 1)
  side_named k l = whole.named (side_left k) (mem_get_or left k none l)

  -- a side that is left is left once, and so is its other side
  pub once_left : (s : SideLabel) → Mem s left → (o : ℕ) → o ≤ 1 → stands s.label o left ≡ 1
  once_left s m o h =
      let n' = whole.named s m in
      let c = counted (is_side s) s left m (itself s) in
      let here = whole.once s.label s.occurrence n'.0 n'.1 in
      let there = whole.once s.label o n'.0 h in
      omega (arith, c, here, there)

  pub placed_left : (s : SideLabel) → has_side s left ≡ true → (place_left s < length left) × (side_left (place_left s) ≡ s)
  placed_left s t =
      let (within, passes, _) = position-Some (is_side s) left (place_left s) none (found_place (is_side s) left t) in
      (within, sym (same_side s (side_left (place_left s)) passes))

  pub place_is : (k : ℕ) → k < length left → place_left (side_left k) ≡ k
  place_is k l =
      let n' = side_named k l in
      only_place (is_side (side_left k)) left k none (once_left (side_left k) (mem_get_or left k none l) (side_left k).occurrence n'.1) l (itself (side_left k))

  pub crossing_named : (i : ℕ) → i < n → ((crossing_at cs i).side.label < length (labels_of page)) × ((crossing_at cs i).side.occurrence ≤ 1)
  crossing_named i l = placed.named (crossing_at cs i) (mem_get_or cs i (crossing_at [] 0) l)

  -- a crossing with the label of a side that is left is kept
  pub kept_with : (i : ℕ) → i < n → (s : SideLabel) → Mem s left → (crossing_at cs i).side.label ≡ s.label → is_kept i ≡ true
  kept_with i l s m e =
      let c = (crossing_at cs i).side in
      let n' = crossing_named i l in
      let one = once_left s m c.occurrence n'.1 in
      any_counted (is_side c) left (omega (arith, one, ap (λ x. stands x c.occurrence left) e))

  -- and one with a seam's label isn't
  pub seam_gone : (i : ℕ) → i < n → (label : ℕ) → Mem label (joined page).seams → (crossing_at cs i).side.label ≡ label → is_kept i ≡ false
  seam_gone i l label m e = elim (cases_Bool (is_kept i)) [
    | inr f ↦ f
    | inl t ↦
        let c = (crossing_at cs i).side in
        let n' = crossing_named i l in
        let here = counted (is_side c) c left (mem_had c left t) (itself c) in
        let seam = counted (eqb c.label) c.label (joined page).seams (subst (λ x. Mem x (joined page).seams) (sym e) m) (eq-eqb c.label c.label refl) in
        absurd (omega (arith, here, seam, whole.once c.label c.occurrence n'.0 n'.1))
  ]
