-- Tables with one entry a label, filled from the sides of polygons.
use Rattle.std.proofs.Common.{◌≡◌, ℕ, zero, suc, zero-add, add-one, ◌&&◌, ◌+◌, ◌<◌, ◌≤◌, Bool, true, false, List, [], ◌∷◌, ◌||◌, map, take, drop, length, get_or, count_by, refl, sym, ap, ap₂, ◌∙◌, arith, inl, inr}
use Rattle.std.specs.List.{All, list_any, flat_map, position_or_len}
use Rattle.std.proofs.lemmas.Bool.{cases_lt}
use Rattle.std.proofs.lemmas.List.{get_or_past, get_or_read, take_all}
use Rattle.std.proofs.lemmas.List.FromFn.{fill_by_all, length-map-range_with_len, get_or-map-range_with_len}
use Rattle.std.proofs.lemmas.List.Folds.{length-flat_map-take}
use Rattle.std.proofs.lemmas.List.Sums.{count_by-le-length}
use Rattle.page_surface.specs.declared.page.SideLabel.{SideLabel}
use Rattle.page_surface.specs.Joining.{has_side, side}
use Rattle.page_surface.specs.Marks.{is_of, is_marked, side_counts}
use Rattle.page_surface.specs.PageTables.{lies_on}

module _ (polygons : List (List SideLabel)) (counts : List ℕ) (n : ℕ) (size : length counts ≡ n) where
  -- the sides counted so far, with those of one polygon more, are no more than all
  pub few_counted : (i : ℕ) (polygon : List SideLabel) → i < length polygons → polygon ≡ get_or polygons i polygon
      → ((label : ℕ) → label < n → get_or counts label 0 ≡ count_by (is_of label) (flat_map (λ p. p) (take i polygons)))
      → (label : ℕ) → get_or counts label 0 + length polygon ≤ length (flat_map (λ p. p) polygons)
  few_counted i polygon l is at label =
      let more = length-flat_map-take (λ p. p) polygons i polygon l in
      let one : length polygon ≡ length (get_or polygons i polygon) = ap length is in
      elim (cases_lt label n) [
        | inl h ↦ omega (arith, more, one, at label h, count_by-le-length (is_of label) (flat_map (λ p. p) (take i polygons)))
        | inr h ↦ omega (arith, more, one, get_or_past counts label 0 (omega arith))
      ]

  -- the counts after all polygons
  pub all_counted : (i : ℕ) → length polygons ≤ i
      → ((label : ℕ) → label < n → get_or counts label 0 ≡ count_by (is_of label) (flat_map (λ p. p) (take i polygons)))
      → counts ≡ side_counts n polygons
  all_counted i l at = fill_by_all _ counts n 0 size (λ label h. at label h ∙ ap (λ ps. count_by (is_of label) (flat_map (λ p. p) ps)) (take_all i polygons l))

module _ (polygons : List (List SideLabel)) (occurrence : ℕ) where
  -- the first polygons from polygon 0 on
  pub all_set : (table : List ℕ) (n i : ℕ) → length table ≡ n → i ≤ 0
      → ((label : ℕ) → label < n → get_or table label 0 ≡ i + position_or_len (has_side (side label occurrence)) (drop i polygons))
      → table ≡ lies_on polygons n occurrence
  all_set table n i size l at =
      let e : i ≡ 0 = omega arith in
      fill_by_all _ table n 0 size (λ label h. at label h ∙ (ap (λ (j : ℕ). j + position_or_len (has_side (side label occurrence)) (drop j polygons)) e ∙ zero-add _))

  -- one polygon a label
  pub length-lies_on : (table : List ℕ) (n : ℕ) → table ≡ lies_on polygons n occurrence → length table ≡ n
  length-lies_on table n is = ap length is ∙ length-map-range_with_len _ 0 n

  -- what is read of them
  pub lies_on_read : (table : List ℕ) (n label i x : ℕ) → table ≡ lies_on polygons n occurrence → label < n → i ≡ label → x ≡ get_or table i x
      → x ≡ position_or_len (has_side (side label occurrence)) polygons
  lies_on_read table n label i x is l e read =
      read ∙ (ap₂ (λ xs (j : ℕ). get_or xs j x) is e ∙ get_or-map-range_with_len (λ label. position_or_len (has_side (side label occurrence)) polygons) 0 n label label x l (omega arith))

-- tests that agree on the members find alike
any_agree : (p q : SideLabel → Bool) (sides : List SideLabel) → All (λ s. p s ≡ q s) sides → list_any p sides ≡ list_any q sides
any_agree p q [] same = refl
any_agree p q (s ∷ sides) same = ap₂ (λ a b. a || b) (same 0 s (omega arith)) (any_agree p q sides (λ k d l. same (suc k) d (omega arith)))

-- where the marks of the labels are those of the marked polygons, the polygons with a mark are the next
pub marks_agree : (all : List (List SideLabel)) (marks labels : List Bool) (n : ℕ)
    → ((label : ℕ) → label < n → get_or labels label false ≡ is_marked all marks label)
    → (polygons : List (List SideLabel)) → All (λ polygon. All (λ s. s.label < n) polygon) polygons
    → map (list_any (λ s. get_or labels s.label false)) polygons ≡ map (list_any (λ s. is_marked all marks s.label)) polygons
marks_agree all marks labels n same [] in_range = refl
marks_agree all marks labels n same (p ∷ polygons) in_range =
    ap₂ (λ b bs. b ∷ bs)
    (any_agree _ _ p (λ k d l. same _ (in_range 0 p (omega arith) k d l)))
    (marks_agree all marks labels n same polygons (λ k d l. in_range (suc k) d (omega arith)))

-- one of three
or_three : (a b c : Bool) → (a || (b || c)) ≡ ((a || b) || c)
or_three true b c = refl
or_three false b c = refl

-- one of one
pub or_none : (a : Bool) → (a || false) ≡ (false || a)
or_none true = refl
or_none false = refl

-- the marks of a polygon's labels on top of those of the polygons before it
marked_suc : (polygons : List (List SideLabel)) (marks : List Bool) (i label : ℕ) → i < length polygons → i < length marks
    → is_marked (take (suc i) polygons) (take (suc i) marks) label
    ≡ (is_marked (take i polygons) (take i marks) label || (get_or marks i false && list_any (is_of label) (get_or polygons i [])))
marked_suc [] marks i label l m = absurd (omega arith)
marked_suc (p ∷ polygons) [] i label l m = absurd (omega arith)
marked_suc (p ∷ polygons) (mark ∷ marks) zero label l m = or_none (mark && list_any (is_of label) p)
marked_suc (p ∷ polygons) (mark ∷ marks) (suc i) label l m =
    ap (λ b. (mark && list_any (is_of label) p) || b) (marked_suc polygons marks i label (omega arith) (omega arith))
    ∙ or_three (mark && list_any (is_of label) p) (is_marked (take i polygons) (take i marks) label) _

-- what a polygon that was read adds to the marks
pub marked_more : (polygons : List (List SideLabel)) (marks : List Bool) (i label : ℕ) (polygon : List SideLabel) (mark : Bool) → i < length polygons → i < length marks
    → polygon ≡ get_or polygons i polygon → get_or marks i false ≡ mark
    → is_marked (take (i + 1) polygons) (take (i + 1) marks) label ≡ (is_marked (take i polygons) (take i marks) label || (mark && list_any (is_of label) polygon))
marked_more polygons marks i label polygon mark l m is mark_is =
    rw (add-one) (marked_suc polygons marks i label l m
    ∙ ap₂ (λ b p. is_marked (take i polygons) (take i marks) label || (b && list_any (is_of label) p)) mark_is (sym (get_or_read polygons i polygon l is [])))
