-- What joining leaves of a page: one polygon, whose sides are paired off, and the seams.
use Rattle.std.proofs.Common.{◌≡◌, ℕ, ◌+◌, ◌*◌, ◌<◌, ◌≤◌, eqb, ltb, List, [], ◌∷◌, map, length, refl, sym, ap, subst, ◌∙◌, inl, inr, arith, append-nil}
use Rattle.std.specs.List.{count_by, position_or_len, sum_by}
use Rattle.std.proofs.lemmas.Bool.{cases_Bool, cases_eq, cases_lt, eq-eqb, eqb-false, eqb-true, ltb-false}
use Rattle.std.proofs.lemmas.List.FromFn.{length-range_with_len}
use Rattle.std.proofs.lemmas.List.{length-map}
use Rattle.std.proofs.lemmas.List.Sums.{sum_by-cons}
use Rattle.obd_base.specs.Lists.{Mem, Once, below}
use Rattle.obd_base.proofs.lists.Below.{bit, mem_below, once_range, below_mem}
use Rattle.obd_base.proofs.lists.Counts.{count_one}
use Rattle.obd_base.proofs.lists.Members.{mem_append, mem_left, mem_right}
use Rattle.obd_base.proofs.lists.Sums.{sum_add, sum_same, sum_swap}
use Rattle.page_surface.specs.declared.page.SideLabel.{SideLabel}
use Rattle.page_surface.specs.declared.refusal.PageRefusal.TheVariants.{DiskPage, NoPolygon, TooManyArcs}
use Rattle.page_surface.specs.Joining.{Joined, is_side, joined, other_side, polygon_of, side}
use Rattle.page_surface.specs.Labels.{Label, all_sides, labels_of, side_labels_of}
use Rattle.page_surface.specs.Page.{IsPage, arc_number, refusals}
use Rattle.page_surface.specs.Polygon.{IsPolygon, Pairs}
use Rattle.obd_base.proofs.Options.{each_none, fails_where_none}
use Rattle.page_surface.proofs.Laws.{paired_is_polygon}
use Rattle.page_surface.proofs.Sides.{length-side_labels_of}
use Rattle.arc_basis.specs.Basis.{label_count}
use Rattle.arc_basis.specs.BasisTables.{AreNamed, of_sides}
use Rattle.arc_basis.proofs.LabelCounts.{first_occurrences, sides_in_row, stands}
use Rattle.arc_basis.proofs.Places.{any_counted}
use Rattle.arc_basis.proofs.Rows.{itself, named_in_row, once_in_row, sides_of, mem_had}
use Rattle.arc_basis.proofs.JoinAll.{Left, StandOnce, all_keep, left, seam_times}
use Rattle.arc_basis.proofs.Together.{Together, settled}
use Rattle.arc_basis.proofs.Linked.{AreLinked, linked_kept, one_left}
use Rattle.arc_basis.proofs.OneItem.{counted}
use Rattle.arc_basis.proofs.PageLinked.{page_linked}
use Rattle.arc_basis.proofs.Paired.{sides_pair}

-- what joining leaves
pub record IsWhole (page : List (List Label)) (sides : List SideLabel) : Type 0 where
  pub joined_is : joined page ≡ of_sides sides (joined page).seams
  -- a seam fewer than polygons; the other labels have two sides each
  pub seams : length (joined page).seams + 1 ≡ length page
  pub size : length sides ≡ 2 * arc_number page
  pub least : 2 ≤ length sides
  pub most : length sides ≤ 16
  -- each side is one of a label, and each side of a label is there once, but for seams, which are gone
  pub named : AreNamed sides (length (labels_of page))
  pub once : (label occurrence : ℕ) → label < length (labels_of page) → occurrence ≤ 1 → stands label occurrence sides + count_by (eqb label) (joined page).seams ≡ 1
  pub seam_named : (label : ℕ) → Mem label (joined page).seams → label < length (labels_of page)
  pub counted : label_count (joined page) ≡ length (labels_of page)
  pub pairs : Pairs (polygon_of sides)
  pub is_polygon : IsPolygon (polygon_of sides)

-- of two sides of a label one is a given side, if it is the label's
one_of_sides : (number : ℕ) (s : SideLabel) → s.occurrence ≤ 1 → bit (is_side (side number 0) s) + bit (is_side (side number 1) s) ≡ bit (eqb number s.label)
one_of_sides number s o = elim (cases_Bool (eqb number s.label)) [
  | inr n ↦ rw n refl
  | inl y ↦ rw y (elim (cases_eq s.occurrence 0) [
    | inl e ↦ rw e refl
    | inr n ↦ (let e : s.occurrence ≡ 1 = omega arith in rw e refl)
  ])
]

pub length_sum : {X : Type 0} (xs : List X) → sum_by (λ x. let n : ℕ = 1 in n) xs ≡ length xs
length_sum [] = refl
length_sum {X = X} (x ∷ xs) = let one : X → ℕ = λ y. 1 in omega (arith, sum_by-cons one x xs, length_sum xs)

-- sides that are each once the two sides of so many labels
twice_labels : (sides : List SideLabel) (count : ℕ) → AreNamed sides count → ((label occurrence : ℕ) → label < count → occurrence ≤ 1 → stands label occurrence sides ≡ 1)
    → length sides ≡ 2 * count
twice_labels sides count named once =
    sym (length_sum sides)
    ∙ (sum_same _ (λ s. sum_by (λ l. bit (is_side (side l 0) s) + bit (is_side (side l 1) s)) (below count)) sides (λ s m. sym (one_label s m))
    ∙ (sum_swap (λ s l. bit (is_side (side l 0) s) + bit (is_side (side l 1) s)) sides (below count)
    ∙ (sum_same _ (λ l. let n : ℕ = 2 in n) (below count) (λ l m. let b = mem_below count l m in
    omega (arith, sum_add (λ s. bit (is_side (side l 0) s)) (λ s. bit (is_side (side l 1) s)) sides, once l 0 b (omega arith), once l 1 b (omega arith)))
    ∙ twos (below count) ∙ ap (λ n. 2 * n) (length-range_with_len 0 count))))
  where
    one_label : (s : SideLabel) → Mem s sides → sum_by (λ l. bit (is_side (side l 0) s) + bit (is_side (side l 1) s)) (below count) ≡ 1
    one_label s m =
        let n = named s m in
        sum_same _ _ (below count) (λ l k. one_of_sides l s n.1)
        ∙ count_one (λ l. eqb l s.label) 0 count s.label (omega arith) (omega (arith, n.0)) (eq-eqb _ _ refl) (λ l a h q. eqb-true _ _ q)

    twos : (xs : List ℕ) → sum_by (λ l. let n : ℕ = 2 in n) xs ≡ 2 * length xs
    twos [] = refl
    twos (x ∷ xs) = omega (arith, sum_by-cons (λ (l : ℕ). let n : ℕ = 2 in n) x xs, twos xs)

module _ (page : List (List Label)) (valid : IsPage page) where
  abbrev labels : ℕ
  labels = length (labels_of page)

  abbrev start : List (List SideLabel)
  start = side_labels_of [] page

  abbrev rest : List (List SideLabel)
  rest = (joined page).polygons

  numbers_once : Once (below labels)
  numbers_once = once_range 0 labels

  stand_once : StandOnce (below labels) start
  stand_once label occurrence m o = once_in_row page valid label occurrence (mem_below labels label m) o

  l : Left (below labels) start (joined page)
  l = left (below labels) start numbers_once stand_once

  pub some_polygon : 1 ≤ length page
  some_polygon =
      let rules = each_none (refusals page) valid in
      let none = eqb-false (length page) 0 (fails_where_none (eqb (length page) 0) NoPolygon rules.0) in
      omega (arith, none)

  pub some_arc : 1 ≤ arc_number page
  some_arc =
      let rules = each_none (refusals page) valid in
      let none = eqb-false (arc_number page) 0 (fails_where_none (eqb (arc_number page) 0) DiskPage rules.1.1.1.1.1.1.1.0) in
      omega (arith, none)

  pub few_arcs : arc_number page ≤ 8
  few_arcs =
      let rules = each_none (refusals page) valid in
      ltb-false 8 (arc_number page) (fails_where_none (ltb 8 (arc_number page)) (TooManyArcs (arc_number page)) rules.1.1.1.1.1.1.0)

  -- a side stands no oftener than before
  fewer : (s : SideLabel) → count_by (is_side s) (sides_of rest) ≤ count_by (is_side s) (sides_of start)
  fewer s = let e = l.sums (λ t. bit (is_side s t)) in omega (arith, e)

  -- each side that is left is one of a label
  all_named : AreNamed (sides_of rest) labels
  all_named s m =
      let c = counted (is_side s) s (sides_of rest) m (itself s) in
      named_in_row page valid s (mem_had s (sides_of start) (any_counted (is_side s) (sides_of start) (omega (arith, c, fewer s))))

  inside : (q : List (List SideLabel)) (p : List SideLabel) (s : SideLabel) → Mem p q → Mem s p → Mem s (sides_of q)
  inside [] p s m k = absurd m
  inside (r ∷ q) p s (inl e) k = mem_left s r (sides_of q) (subst (λ x. Mem s x) e k)
  inside (r ∷ q) p s (inr m) k = mem_right s r (sides_of q) (inside q p s m k)

  all_together : (label : ℕ) → Together label rest
  all_together label p m k =
      let n = all_named (side label 0) (inside rest p (side label 0) m k) in
      settled (below labels) start numbers_once stand_once label (below_mem labels label n.0) p m k

  few_left : (label occurrence : ℕ) → occurrence ≤ 1 → stands label occurrence (sides_of rest) ≤ 1
  few_left label occurrence o = elim (cases_lt label labels) [
    | inl h ↦ omega (arith, fewer (side label occurrence), once_in_row page valid label occurrence h o)
    | inr h ↦ elim (cases_eq (stands label occurrence (sides_of rest)) 0) [
      | inl e ↦ omega (arith, e)
      | inr n ↦
          let n' = all_named (side label occurrence) (mem_had (side label occurrence) (sides_of rest) (any_counted (is_side (side label occurrence)) (sides_of rest) (omega (arith, n)))) in
          absurd (omega (arith, n'.0, h))
    ]
  ]

  -- two sides for each label but the seams
  sides_left : length (sides_of rest) + 2 * length (joined page).seams ≡ 2 * labels
  sides_left =
      let all = l.sums (λ s. 1) in
      let twos : sum_by (λ (k : ℕ). let n : ℕ = 1 in n + n) (joined page).seams ≡ 2 * length (joined page).seams = two (joined page).seams in
      omega (arith, all, twos, length_sum (sides_of rest), length_sum (sides_of start), row_size)
    where
      row_size : length (sides_of start) ≡ 2 * labels
      row_size = twice_labels (sides_of start) labels (named_in_row page valid) (once_in_row page valid)

      two : (xs : List ℕ) → sum_by (λ (k : ℕ). let n : ℕ = 1 in n + n) xs ≡ 2 * length xs
      two [] = refl
      two (x ∷ xs) = omega (arith, sum_by-cons (λ (k : ℕ). let n : ℕ = 1 in n + n) x xs, two xs)

  -- there is a polygon, and it is the only one
  some_left : 1 ≤ length rest
  some_left = all_keep (λ q. 1 ≤ length q) (below labels) start numbers_once stand_once (λ label m before after j one two h. not_none _ after j.joined_in) (omega (arith, some_polygon, length-side_labels_of [] page))
    where
      not_none : {X : Type 0} (x : X) (xs : List X) → Mem x xs → 1 ≤ length xs
      not_none x [] m = absurd m
      not_none x (y ∷ xs) m = omega arith

  one_polygon : length rest ≡ 1
  one_polygon =
      let size = l.polygons in
      let at_start = length-side_labels_of [] page in
      go rest refl (sides_of rest) refl (omega (arith, sides_left, size, at_start, some_left, some_arc))
    where
      find_side : (q : List (List SideLabel)) (s : SideLabel) → Mem s (sides_of q) → (p : List SideLabel) × Mem p q × Mem s p
      find_side [] s m = absurd m
      find_side (p ∷ q) s m = elim (mem_append s p (sides_of q) m) [
        | inl k ↦ (p, inl refl, k)
        | inr k ↦ (let (r, a, b) = find_side q s k in (r, inr a, b))
      ]

      go : (q : List (List SideLabel)) → q ≡ rest → (sides : List SideLabel) → sides ≡ sides_of rest → 2 ≤ length (sides_of rest) → length rest ≡ 1
      go q e [] f h = absurd (let n = ap length f in omega (arith, n, h))
      go q e (s ∷ sides) f h =
          let here : Mem s (sides_of rest) = subst (λ xs. Mem s xs) f (inl refl) in
          let (p, m, k) = find_side rest s here in
          let linked = all_keep AreLinked (below labels) start numbers_once stand_once (λ label m. linked_kept label) (page_linked page valid some_polygon) in
          let most = one_left rest linked all_together few_left s p m k (all_named s here).1 in
          omega (arith, most, some_left)

  -- the sides of that polygon
  abbrev pub whole_sides : List SideLabel
  whole_sides = sides_of (joined page).polygons

  rest_is : rest ≡ whole_sides ∷ []
  rest_is = alone rest one_polygon
    where
      alone : (q : List (List SideLabel)) → length q ≡ 1 → q ≡ sides_of q ∷ []
      alone [] e = absurd (omega (arith, e))
      alone (p ∷ []) e = ap (λ x. x ∷ []) (sym (append-nil p))
      alone (p ∷ r ∷ q) e = absurd (omega (arith, e))

  -- a label that is no seam keeps its sides
  stands_or_seam : (label occurrence : ℕ) → label < labels → occurrence ≤ 1 → stands label occurrence whole_sides + count_by (eqb label) (joined page).seams ≡ 1
  stands_or_seam label occurrence h o =
      let s = l.sums (λ t. bit (is_side (side label occurrence) t)) in
      omega (arith, s, seam_times (joined page).seams label occurrence o, once_in_row page valid label occurrence h o)

  present_once : (s : SideLabel) → Mem s whole_sides → (occurrence : ℕ) → occurrence ≤ 1 → stands s.label occurrence whole_sides ≡ 1
  present_once s m occurrence o =
      let n = all_named s m in
      let c = counted (is_side s) s whole_sides m (itself s) in
      let here = stands_or_seam s.label s.occurrence n.0 n.1 in
      let there = stands_or_seam s.label occurrence n.0 o in
      omega (arith, c, here, there)

  all_pairs : Pairs (polygon_of whole_sides)
  all_pairs = sides_pair whole_sides labels all_named present_once

  all_counted : label_count (joined page) ≡ labels
  all_counted =
      let s = l.sums (λ t. bit (eqb t.occurrence 0)) in
      let ones = length_sum (joined page).seams in
      let row_is = sides_in_row [] page in
      let firsts = first_occurrences [] (all_sides page) in
      let start_is = ap (λ (xs : List SideLabel). count_by (λ (t : SideLabel). eqb t.occurrence 0) xs) row_is in
      omega (arith, s, ones, firsts, start_is)

  -- what joining leaves
  pub page_whole : IsWhole page (sides_of (joined page).polygons)
  page_whole =
      let size = l.polygons in
      let at_start = length-side_labels_of [] page in
      let few = few_arcs in
      let sides = sides_left in
      record {
        joined_is = ap (λ q. let j : Joined = record { polygons = q; seams = (joined page).seams } in j) rest_is;
        seams = omega (arith, size, at_start, one_polygon);
        size = omega (arith, size, at_start, one_polygon, sides, some_arc);
        least = omega (arith, size, at_start, one_polygon, sides, some_arc);
        most = omega (arith, size, at_start, one_polygon, sides, some_arc, few);
        named = all_named;
        once = stands_or_seam;
        seam_named = λ label m. mem_below labels label (l.among label m);
        counted = all_counted;
        pairs = all_pairs;
        is_polygon = paired_is_polygon (map (λ s. position_or_len (is_side (other_side s)) whole_sides) whole_sides)
            (omega (arith, size, at_start, one_polygon, sides, some_arc, length-map whole_sides (λ s. position_or_len (is_side (other_side s)) whole_sides))) all_pairs;
      }
